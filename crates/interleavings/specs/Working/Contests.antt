-- The effects of items on the world after those before them. Nobody has to believe this file.
use Rattle.std.specs.Prelude.{◌≡◌, ◌<◌, ◌≤◌, ℕ, ◌-◌, ⊤, Option, Some, None, MatchOption, replicate}
use Rattle.interleavings.specs.Threads.{with_steps}
use Rattle.interleavings.specs.declared.waiting.Contest.{Contest}
use Rattle.interleavings.specs.declared.waiting.NextItem.{NextItem}
use Rattle.interleavings.specs.declared.waiting.Stage.{Stage}
use Rattle.interleavings.specs.declared.waiting.Stage.TheVariants.{Round, Others}
use Rattle.interleavings.specs.Rivals.{next_item, threads_in}
use Rattle.input_files.specs.declared.item.Item.{Item}
use Rattle.input_files.specs.Steps.{counted}

-- the thread of the round exists
abbrev pub IsWithin : ℕ → Stage → Type 0
IsWithin threads (Round from) = ⊤
IsWithin threads (Others t from) = t < threads

-- the given number of steps of a thread were taken, which is at most the number left
pub record Takes (t count : ℕ) (old new : Contest) : Type 0 where
  pub world : new.world ≡ with_steps old.world (replicate count t)
  pub left : new.left ≡ old.left
  pub stage : new.stage ≡ old.stage
  pub within : count ≤ old.left

-- an item's steps were taken
pub record TakesItem (old new : Contest) (next : NextItem) : Type 0 where
  pub takes : Takes next.item.thread next.count old new
  pub thread : next.item.thread < threads_in old.world.plan
  pub after : IsWithin (threads_in old.world.plan) next.after
  pub counts : counted next.item.until ≤ next.count

-- the given item was found, and its steps were taken
pub record Finds (said : Option NextItem) (old new : Contest) (found : Option NextItem) : Type 0 where
  pub is : found ≡ said
  pub takes : MatchOption found ⊤ (TakesItem old new)

-- the item is the next one; its steps were taken, and the stage is the one after it
pub record Advances (item : Item) (old new : Contest) : Type 0 where
  pub next : NextItem
  pub is : next_item old.world.plan old.left old.world.world old.stage ≡ Some next
  pub item_is : item ≡ next.item
  pub world : new.world ≡ with_steps old.world (replicate next.count item.thread)
  pub left : new.left ≡ old.left - next.count
  pub stage : new.stage ≡ next.after
  pub thread : item.thread < threads_in old.world.plan
  pub after : IsWithin (threads_in old.world.plan) new.stage
  pub counts : counted item.until ≤ next.count
  pub within : next.count ≤ old.left

abbrev pub Comes : Contest → Contest → Option Item → Type 0
Comes old new (Some item) = Advances item old new
Comes old new None = next_item old.world.plan old.left old.world.world old.stage ≡ None
