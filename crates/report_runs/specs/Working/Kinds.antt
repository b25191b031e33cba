-- The parts of a run by which the code distinguishes runs: its entries and its values.
use Rattle.core_lang.specs.declared.value.Value.{Value}
use Rattle.core_lang.specs.declared.value.Value.TheVariants.{Int, Ref}
use Rattle.history.specs.Commits.{Commit}
use Rattle.report_runs.specs.declared.run_kind.Place.{Place}
use Rattle.report_runs.specs.declared.run_kind.Held.{Held}
use Rattle.report_runs.specs.declared.run_kind.Held.TheVariants.{Number, Object}

abbrev pub call_place : Commit → Place
call_place c = record { thread = c.thread; step = c.step }

abbrev pub held_of : Value → Held
held_of (Int number) = Number number
held_of (Ref object) = Object object
