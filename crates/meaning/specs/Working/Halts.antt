-- The results of running a statement or a section.
use Rattle.std.specs.Prelude.{◌≡◌, List, Result, Ok, Err}
use Rattle.std.proofs.Common.{Vec, Global}
use Rattle.core_lang.specs.declared.value.Value.{Value}
use Rattle.core_lang.specs.declared.value.Failure.{Failure}
use Rattle.core_lang.specs.declared.value.Failure.TheVariants.{Trap, Wrong}
use Rattle.core_lang.specs.declared.value.Outcome.{Outcome}
use Rattle.core_lang.specs.declared.value.Outcome.TheVariants as out
use Rattle.core_lang.specs.Meaning.{State, Flow, GoesOn, Traps, Beyond, Astray}
use Rattle.core_lang.specs.Whole.{Run, over, Beyond_turns, Gone_astray}
use Rattle.meaning.specs.declared.execution.Halt.{Halt}
use Rattle.meaning.specs.declared.execution.Halt.TheVariants as halt

-- the halt for an expression that has no value
abbrev pub halt_of : Failure → Halt
halt_of (Trap t) = halt.Trap t
halt_of Wrong = halt.Wrong

-- the result of running a statement, and the state that it leaves, are those of its meaning
abbrev pub Follows : Result (Unit {0}) Halt → State → Flow → Type 0
Follows (Ok u) s flow = flow ≡ GoesOn s
Follows (Err (halt.Trap t)) s flow = flow ≡ Traps t s
Follows (Err halt.Beyond) s flow = flow ≡ Beyond
Follows (Err halt.Wrong) s flow = flow ≡ Astray
Follows (Err halt.NoMemory) s flow = Unit {0}

-- the result of running a section, and the state that it leaves, are those of its meaning
abbrev pub Concludes : Result Outcome Halt → State → Run → Type 0
Concludes (Ok outcome) s run = run ≡ over outcome s
Concludes (Err (halt.Trap t)) s run = run ≡ over (out.Traps t) s
Concludes (Err halt.Beyond) s run = run ≡ Beyond_turns
Concludes (Err halt.Wrong) s run = run ≡ Gone_astray
Concludes (Err halt.NoMemory) s run = Unit {0}

-- the values of arguments, or the reason why they have none, are those of their meaning
abbrev pub Gives : Result (Vec Value Global) Halt → Result (List Value) Failure → Type 0
Gives (Ok values) meant = meant ≡ Ok values.items
Gives (Err (halt.Trap t)) meant = meant ≡ Err (Trap t)
Gives (Err halt.Beyond) meant = ⊥
Gives (Err halt.Wrong) meant = meant ≡ Err Wrong
Gives (Err halt.NoMemory) meant = Unit {0}
