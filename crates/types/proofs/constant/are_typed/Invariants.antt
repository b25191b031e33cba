use Rattle.std.proofs.Common.{◌≡◌, drop}
use Rattle.std.specs.Prelude.{map, is_some}
use Rattle.syntax.specs.Views.{param_of, const_of}
use Rattle.resolution.specs.Working.TypedConstants.{typed_arguments}
use Rattle.types_symbols.specs.Working.Views.{decls_of}
use Rattle.types.proofs.constant.are_typed.Given as goal

abbrev pub invariant-loop-i : goal.invariant-loop-i
invariant-loop-i l = record {
  value : is_some (typed_arguments (decls_of l.symbols) (map param_of (drop l.i l.params)) (map const_of (drop l.i l.constants))) ≡ is_some (typed_arguments (decls_of l.symbols) (map param_of l.params) (map const_of l.constants));
}
