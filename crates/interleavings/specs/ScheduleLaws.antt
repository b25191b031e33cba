-- Laws of steps files, as the laws of `src/laws.rt` claim them.
use Rattle.std.specs.Prelude.{◌≡◌, ◌≤◌, ℕ, ◌+◌, Bool, true, false, ◌&&◌, List, [], ◌∷◌, All, length, slice_get, string_bytes}
use Rattle.std.specs.Prelude.{Some, Ok}
use Rattle.std.specs.List.{list_all}
use Rattle.core_lang.specs.declared.typed.Thread.{Thread}
use Rattle.core_lang.specs.declared.typed.Typed.{Typed}
use Rattle.interleavings.specs.Items.{turns_in, turns_of}
use Rattle.lowering.specs.Plans.{Plan}
use Rattle.source.specs.Texts.{is_letter, is_name_byte}
use Rattle.input_files.specs.declared.item.Item.{Item}
use Rattle.input_files.specs.declared.turn.Turn.{Turn}
use Rattle.input_files.specs.Steps.{items_in, STEP_LIMIT}
use Rattle.interleavings.specs.Schedules.{AreOfThreads, counted_in, item_text, schedule_text}

-- a letter or `_`, and then letters, digits and `_`
abbrev pub is_name : List ℕ → Bool
is_name [] = false
is_name (byte ∷ bytes) = is_letter byte && list_all is_name_byte bytes

-- each thread has a name, and no two have the same, as the threads of a text have them
pub record AreNamed (threads : List Thread) : Type 0 where
  pub names : All (λ (thread : Thread). is_name (string_bytes thread.name) ≡ true) threads
  pub apart : (i j : ℕ) (x y : Thread) → slice_get threads i ≡ Some x → slice_get threads j ≡ Some y →
      string_bytes x.name ≡ string_bytes y.name → i ≡ j

-- the items, each with the first byte of its line, the first at this byte
abbrev pub placed : Typed → ℕ → List Item → List Item
placed program start [] = []
placed program start (item ∷ items) =
    record { thread = item.thread; until = item.until; start = start }
    ∷ placed program (start + length (item_text program item)) items

-- the items of a steps file are those that were written, if they count at most as many steps as a file may have
abbrev pub TextsAreReadBack : Type 0
TextsAreReadBack =
    (program : Typed) (items : List Item) → AreNamed program.threads.items → AreOfThreads program items →
    counted_in items ≤ STEP_LIMIT →
    items_in program.threads.items (schedule_text program items) ≡ Ok (placed program 0 items)

-- the file gives the turns of the items, if they give any
abbrev pub TextsComeToTheirTurns : Type 0
TextsComeToTheirTurns =
    (plan : Plan) (items : List Item) (turns : List Turn) → AreNamed plan.program.threads.items →
    AreOfThreads plan.program items → turns_of plan items ≡ Ok turns →
    turns_in plan (schedule_text plan.program items) ≡ Ok turns
