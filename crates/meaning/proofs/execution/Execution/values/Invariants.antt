use Rattle.std.proofs.Common.{◌≡◌, ◌++◌, drop, Ok}
use Rattle.core_lang.specs.Cells.{with}
use Rattle.core_lang.specs.Meaning.{values_of}
use Rattle.meaning.proofs.execution.Execution.values.Given as goal

abbrev pub invariant-loop-argument : goal.invariant-loop-argument
invariant-loop-argument l =
    with (values_of (drop l.argument-index l.arguments) l.shape l.self.locals.items l.self.draft.now) (λ vs. Ok (l.values.items ++ vs))
    ≡ values_of l.arguments l.shape l.self.locals.items l.self.draft.now
