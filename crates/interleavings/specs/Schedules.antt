-- Steps files that are made for a program.
use Rattle.std.specs.Prelude.{◌<◌, ℕ, List, [], ◌++◌, All, length, slice_get, codes, string_bytes, sum_by}
use Rattle.std.specs.Fmt.{decimal}
use Rattle.std.specs.List.{flat_map}
use Rattle.std.specs.Option.{option_map_or}
use Rattle.code.specs.Listing.{line}
use Rattle.core_lang.specs.declared.typed.Thread.{Thread}
use Rattle.core_lang.specs.declared.typed.Typed.{Typed}
use Rattle.input_files.specs.declared.item.Item.{Item}
use Rattle.input_files.specs.declared.item.Until.{Until}
use Rattle.input_files.specs.declared.item.Until.TheVariants.{Count, Stop, CallEnd}
use Rattle.input_files.specs.Steps.{counted}

-- ---- which items

-- the thread of each item is one of the program
abbrev pub AreOfThreads : Typed → List Item → Type 0
AreOfThreads program items = All (λ (item : Item). item.thread < length program.threads.items) items

-- the number of steps that the items count
abbrev pub counted_in : List Item → ℕ
counted_in items = sum_by (λ (item : Item). counted item.until) items

-- ---- how they are written

-- the name of the thread with this number; empty if there is none
abbrev pub thread_name : Typed → ℕ → List ℕ
thread_name program t = option_map_or (λ (thread : Thread). string_bytes thread.name) (slice_get program.threads.items t) []

-- the end of an item: *N, ! or +
abbrev pub until_text : Until → List ℕ
until_text (Count count) = codes "*" ++ decimal count
until_text Stop = codes "!"
until_text CallEnd = codes "+"

-- NAME*N, NAME! or NAME+
abbrev pub item_text : Typed → Item → List ℕ
item_text program item = line (thread_name program item.thread ++ until_text item.until)

-- a line for each item, with the threads' names
abbrev pub schedule_text : Typed → List Item → List ℕ
schedule_text program items = flat_map (item_text program) items
