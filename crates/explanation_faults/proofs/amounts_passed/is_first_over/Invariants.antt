use Rattle.std.proofs.Common.{◌≡◌, ◌≤◌, map, drop}
use Rattle.types_symbols.specs.Working.Views.{decls_of}
use Rattle.syntax.specs.Views.{decl_of}
use Rattle.explanation_faults.specs.Working.AmountsFound.{amount_of, first_over, limit_of}
use Rattle.explanation_faults.proofs.amounts_passed.is_first_over.Given as goal

abbrev pub invariant-loop-decl : goal.invariant-loop-decl
invariant-loop-decl l = record {
  rest : first_over (amount_of l.amount (decls_of l.symbols)) l.at l.room (map decl_of (drop l.decl-index l.decls))
      ≡ first_over (amount_of l.amount (decls_of l.symbols)) l.at (limit_of l.amount) (decls_of l.symbols);
  within : l.room ≤ limit_of l.amount;
}
