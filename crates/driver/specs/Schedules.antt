-- The answers of `schedule`.
use Rattle.std.specs.Prelude.{◌≡◌, ℕ, List, [], length, if◌then◌else◌}
use Rattle.driver_words.specs.declared.line.ScheduleOptions.{ScheduleOptions}
use Rattle.lowering.specs.Plans.{Plan}
use Rattle.interleavings.specs.Drawn.{drawn_items}
use Rattle.interleavings.specs.Rivals.{rivals_of}
use Rattle.interleavings.specs.Schedules.{schedule_text}
use Rattle.input_files.specs.declared.item.Item.{Item}
use Rattle.driver.specs.declared.status.Status.{Status}
use Rattle.driver.specs.declared.status.Status.TheVariants.{Done}

-- the items that let threads wait for each other, or the given number of the program's threads, drawn by the seed
abbrev pub scheduled_items : ScheduleOptions → Plan → List Item
scheduled_items scheduling plan =
    if scheduling.worst then rivals_of plan scheduling.length
    else drawn_items (length plan.program.threads.items) scheduling.seed scheduling.length

-- out is a steps file of these items; err is empty
pub record IsScheduled (scheduling : ScheduleOptions) (plan : Plan) (status : Status) (out err : List ℕ) : Type 0 where
  pub ended : status ≡ Done
  pub written : out ≡ schedule_text plan.program (scheduled_items scheduling plan)
  pub told : err ≡ []
