use Rattle.std.proofs.Common.{◌≡◌, ◌++◌, map, drop, length}
use Rattle.core_lang.specs.Whole.{default_local}
use Rattle.core_lang.proofs.opening.with_defaults.Given as goal

abbrev pub invariant-loop-number : goal.invariant-loop-number
invariant-loop-number l =
    l.values.items ++ map default_local (drop l.number l.locals) ≡ l.fn.arguments.items ++ map default_local (drop (length l.fn.arguments.items) l.locals)
