-- Properties of random items, whatever the seed. Nobody has to believe this file.
use Rattle.std.specs.Prelude.{◌<◌, ◌≤◌, ◌*◌, ℕ, List, All, length}
use Rattle.input_files.specs.declared.item.Item.{Item}
use Rattle.interleavings.specs.Schedules.{counted_in}

-- each item names one of the given number of threads, and together they count at most eight steps for each item
pub record CanCome (threads : ℕ) (items : List Item) : Type 0 where
  pub of_threads : All (λ (item : Item). item.thread < threads) items
  pub short : counted_in items ≤ 8 * length items
