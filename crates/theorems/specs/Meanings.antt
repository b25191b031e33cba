-- The laws of helpers and of `where`.
use Rattle.std.specs.Prelude.{◌≡◌, ◌↔◌, ℕ, ◌<◌, List, ◌++◌, length, slice_get, Some, None, Ok, false}
use Rattle.std.proofs.Common.{Vec, Box, Global}
use Rattle.core_lang.specs.declared.value.Value.{Value}
use Rattle.core_lang.specs.declared.value.Value.TheVariants.{Ref}
use Rattle.core_lang.specs.declared.value.Trap.TheVariants.{NotOwned}
use Rattle.core_lang.specs.declared.shape.Shape.{Shape}
use Rattle.core_lang.specs.declared.tree.Path.{Path}
use Rattle.core_lang.specs.declared.tree.Expr.{Expr, Place, Owned}
use Rattle.core_lang.specs.declared.tree.Action.{Bind, Call}
use Rattle.core_lang.specs.declared.tree.Comparison.TheVariants.{Equal}
use Rattle.core_lang.specs.declared.tree.Section.{Section}
use Rattle.core_lang.specs.declared.tree.Return.{Return}
use Rattle.core_lang.specs.declared.typed.Typed.{Typed}
use Rattle.core_lang.specs.Arithmetic.{compared}
use Rattle.core_lang.specs.Cells.{final_value, owned}
use Rattle.core_lang.specs.Meaning.{State, Traps, Helpers, value_of, values_of, effect_by, helped, opening, run_from}
use Rattle.core_lang.specs.Whole.{run_of}
use Rattle.core_lang.specs.Serial.{Invocation, Ended, Serial}
use Rattle.core_lang.specs.Expansion.{HasSamePlaces, IsExpansion, one}
use Rattle.core_lang.specs.Laws.{CallsFill}

-- ---- helpers that are not called

-- the same program with further helpers after its own
pub record HasMoreHelpers (program more : Typed) : Type 0 where
  pub helpers : (added : List Section) × (more.shape.helpers.items ≡ program.shape.helpers.items ++ added)
  pub places : HasSamePlaces program.shape more.shape
  pub cells : more.cells.items ≡ program.cells.items
  pub sections : more.sections.items ≡ program.sections.items

-- the law: an expansion of a program is also one with further helpers
abbrev pub UncalledHelpersChangeNoExpansion : Type 0
UncalledHelpersChangeNoExpansion =
    (program more written : Typed) → HasMoreHelpers program more → IsExpansion program written → IsExpansion more written

-- the law: the program's calls run as before
abbrev pub UncalledHelpersChangeNoRun : Type 0
UncalledHelpersChangeNoRun =
    (program more written : Typed) (heap last : List Value) (calls : List Invocation) (ends : List Ended) → HasMoreHelpers program more →
    IsExpansion program written → CallsFill program calls → (Serial program heap calls ends last) ↔ (Serial more heap calls ends last)

-- ---- sections that only call a helper; within a section's call, calls of helpers may be seven deep

abbrev pub ACallDoesWhatTheHelperDoes : Type 0
ACallDoesWhatTheHelperDoes =
    (shape : Shape) (section helper : Section) (number start n : ℕ) (arguments : Vec Expr Global) (given values heap : List Value) →
    section.body.items ≡ one start (Call number arguments None) → section.result ≡ None → slice_get shape.helpers.items number ≡ Some helper →
    helper.result ≡ None → values_of arguments.items shape (opening section given heap).locals heap ≡ Ok values →
    run_of section shape n given heap ≡ run_from (helped 7 shape n) helper shape n (opening helper values heap)

abbrev pub ACallGivesWhatTheHelperGives : Type 0
ACallGivesWhatTheHelperGives =
    (shape : Shape) (section helper : Section) (number start place n k : ℕ) (arguments : Vec Expr Global) (path : Path) (r : Return) (given values heap : List Value) →
    section.body.items ≡ one start (Call number arguments (Some k)) → section.result ≡ Some (record { start = place; value = Place path }) →
    path.local ≡ k → length path.fields.items ≡ 0 → k < length (opening section given heap).locals → slice_get shape.helpers.items number ≡ Some helper →
    helper.result ≡ Some r → values_of arguments.items shape (opening section given heap).locals heap ≡ Ok values →
    run_of section shape n given heap ≡ run_from (helped 7 shape n) helper shape n (opening helper values heap)

-- ---- `where`

abbrev pub AWhereThatHoldsChangesNothing : Type 0
AWhereThatHoldsChangesNothing =
    (call : Helpers) (shape : Shape) (n k structure final start owner : ℕ) (value : Box Expr Global) (s : State) (v named : Value) →
    value_of value.value shape s.locals s.heap ≡ Ok v → slice_get s.locals owner ≡ Some named → owned shape v final named ≡ Ok v →
    effect_by call (Bind k (Owned value structure final start owner)) shape n s ≡ effect_by call (Bind k value.value) shape n s

-- a reference whose final reference names another object
abbrev pub AWhereThatFailsEndsTheSection : Type 0
AWhereThatFailsEndsTheSection =
    (call : Helpers) (shape : Shape) (n k structure final start owner o : ℕ) (value : Box Expr Global) (s : State) (other named : Value) →
    value_of value.value shape s.locals s.heap ≡ Ok (Ref (Some o)) → slice_get s.locals owner ≡ Some named →
    final_value shape (Ref (Some o)) final ≡ Ok other → compared Equal other named ≡ Ok false →
    effect_by call (Bind k (Owned value structure final start owner)) shape n s ≡ Traps NotOwned s
