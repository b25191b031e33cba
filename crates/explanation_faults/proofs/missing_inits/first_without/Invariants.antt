use Rattle.std.proofs.Common.{ℕ, ◌<◌}
use Rattle.std.specs.Prelude.{IsSome}
use Rattle.types_symbols.specs.Working.Views.{decls_of}
use Rattle.explanation_faults.specs.MissingInits.{value_given}
use Rattle.explanation_faults.proofs.missing_inits.first_without.Given as goal

-- the members so far have an `init`
abbrev pub invariant-loop-index : goal.invariant-loop-index
invariant-loop-index l = (k : ℕ) → k < l.index → IsSome (value_given (decls_of l.symbols) l.pool l.member k)
