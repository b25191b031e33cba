-- A section's code that runs alone, on a whole heap.
use Rattle.std.specs.Prelude.{◌≡◌, ℕ, ◌≤◌, List, [], length, ⊤}
use Rattle.core_lang.specs.declared.value.Value.{Value}
use Rattle.core_lang.specs.declared.shape.Shape.{Shape}
use Rattle.core_lang.specs.declared.tree.Section.{Section}
use Rattle.core_lang.specs.declared.typed.Typed.{Typed}
use Rattle.core_lang.specs.Whole.{Finished, Whole, opening}
use Rattle.core_lang.specs.Typing.{IsHeap, Fit}
use Rattle.code.specs.declared.instr.Instr.{Instr}
use Rattle.code.specs.Machine.{Machine, Standing, At, Halted, Stuck, exec}
use Rattle.code.specs.Memory.{load_from, store_to}

-- a machine at the first instruction, with an empty stack and nothing printed
abbrev pub starting : {M : Type 0} → List Value → M → Machine M
starting locals memory = record { place = 0; stack = []; locals = locals; memory = memory; prints = [] }

-- the state of a code on a heap after n instructions
abbrev pub alone : Shape → List Instr → ℕ → List Value → List Value → Standing (List Value)
alone shape code n locals heap = exec load_from store_to shape code n (starting locals heap)

-- the code has come to an outcome, with these prints and this heap
abbrev pub halted : Finished → Standing (List Value)
halted finished = Halted finished.outcome finished.heap finished.prints

-- the machine is at an instruction, with at most as many operands as the room allows, or it has come to an outcome
abbrev pub IsNeverStuck : {M : Type 0} → ℕ → Standing M → Type 0
IsNeverStuck room (At m) = length m.stack ≤ room
IsNeverStuck room (Halted outcome memory prints) = ⊤
IsNeverStuck room Stuck = ⊥

-- a code behaves as its section: alone it comes to an outcome exactly if the whole run of the section ends, and then to
-- the same outcome, prints and heap; and on arguments and a heap of the program it always has a next instruction until
-- then
pub record Behaves (program : Typed) (section : Section) (code : List Instr) (room : ℕ) : Type 0 where
  pub ends : (arguments heap : List Value) (finished : Finished) → Whole section program.shape arguments heap finished →
      (n : ℕ) × (alone program.shape code n (opening section arguments heap).locals heap ≡ halted finished)
  pub ends_only : (arguments heap : List Value) (n : ℕ) (finished : Finished) →
      alone program.shape code n (opening section arguments heap).locals heap ≡ halted finished →
      Whole section program.shape arguments heap finished
  pub goes_on : (arguments heap : List Value) (n : ℕ) → Fit program section arguments → IsHeap program heap →
      IsNeverStuck room (alone program.shape code n (opening section arguments heap).locals heap)
