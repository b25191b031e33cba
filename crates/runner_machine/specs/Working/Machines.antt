-- Machines of open sections, and the effect of one instruction.
use Rattle.std.specs.Prelude.{◌≡◌, ◌<◌, ◌≤◌, ◌-◌, ◌^◌, ℕ, Bool, true, false, not, List, [], ◌∷◌, length, slice_get}
use Rattle.std.specs.Prelude.{slice_set, Some, None, Result}
use Rattle.std.specs.List.{All}
use Rattle.source.specs.Limits.{PRINT_LIMIT}
use Rattle.core_lang.specs.declared.value.Value.{Value}
use Rattle.core_lang.specs.declared.value.Failure.{Failure}
use Rattle.core_lang.specs.declared.value.Failure.TheVariants.{Trap, Wrong}
use Rattle.core_lang.specs.declared.value.Outcome.TheVariants.{Traps, Returns}
use Rattle.core_lang.specs.declared.tree.Comparison.{Comparison}
use Rattle.core_lang.specs.declared.shape.Shape.{Shape}
use Rattle.core_lang.specs.Arithmetic.{compared}
use Rattle.core_lang.specs.Cells.{with, found, owned}
use Rattle.locks.specs.declared.lock.Lock.{Lock}
use Rattle.layout.specs.declared.room.Room.{Room}
use Rattle.layout.specs.Layouts.{LayoutOf}
use Rattle.code.specs.Alone.{starting}
use Rattle.code.specs.declared.instr.Instr.{Instr}
use Rattle.code.specs.Machine.{Machine, Effect, Moves, Asks, Finishes, Undefined, act, advances, jumps_if, or_trap}
use Rattle.code.specs.Machine.{on_top, on_two, if_there, is_true, truth, printed}
use Rattle.code.specs.Memory.{HeldCells, none_held, value_at, load_held, store_held}
use Rattle.moved_cells.specs.Working.Grants.{GrantOf, IsWhole, locks_of}
use Rattle.runner_machine.specs.Working.Held as held
use Rattle.runner_machine.specs.Working.Held.{HoldingOf, cells_granted}
use Rattle.runner_machine.specs.declared.progress.Progress.{Progress}
use Rattle.runner_machine.specs.declared.progress.Progress.TheVariants as answer

-- the machine of a section over the cells that it holds, with the number of operands for which it has room. The other
-- fields belong to the cells: the layout, the locks, the oldest first, and the numbers of locks and of cells for which
-- there is room
pub record RunOf : Type 0 where
  pub machine : Machine HeldCells
  pub operand_room : ℕ
  pub layout : LayoutOf
  pub locks : List Lock
  pub lock_room : ℕ
  pub cell_room : ℕ

-- the cells that the machine holds
abbrev pub holding_of : RunOf → HoldingOf
holding_of r = record {
  layout = r.layout;
  locks = r.locks;
  memory = r.machine.memory;
  lock_room = r.lock_room;
  cell_room = r.cell_room;
}

-- the same with another machine
abbrev pub with_machine : RunOf → Machine HeldCells → RunOf
with_machine r m = record r { machine = m }

-- the same with other held cells
abbrev pub with_holding : RunOf → HoldingOf → RunOf
with_holding r h = record {
  machine = record r.machine { memory = h.memory };
  operand_room = r.operand_room;
  layout = h.layout;
  locks = h.locks;
  lock_room = h.lock_room;
  cell_room = h.cell_room;
}

-- the machine of a section that begins, without cells
abbrev pub at_first : List Value → LayoutOf → Room → RunOf
at_first locals layout room = record {
  machine = starting locals none_held;
  operand_room = room.operands;
  layout = layout;
  locks = [];
  lock_room = room.locks;
  cell_room = room.cells;
}

-- the machine after its grants were moved out, without room for cells. What it read and wrote stays, and so does the
-- rest
abbrev pub without_cells : RunOf → RunOf
without_cells r = with_holding r (held.without_grants (holding_of r))

-- the end of a section: its grants are moved out, and the numbers of reads, writes and prints don't exceed the room
pub record IsFinished (run : RunOf) (grants : List GrantOf) (run' : RunOf) : Type 0 where
  pub left : run' ≡ without_cells run
  pub locks : locks_of grants ≡ run.locks
  pub whole : All (IsWhole run.layout.cell_locks) grants
  pub cells : cells_granted run.layout.cell_locks grants ≡ run.machine.memory.cells
  pub lent : length run.machine.memory.cells ≤ run.cell_room
  pub reads : 0 < run.cell_room → length run.machine.memory.reads ≤ run.cell_room
  pub writes : 0 < run.cell_room → length run.machine.memory.writes ≤ run.cell_room
  pub prints : length run.machine.prints ≤ PRINT_LIMIT

-- ---- one instruction

-- an effect that moves the machine leads to a place below 2 ^ 64, and to operands for which there is room
abbrev pub FitsRoom : ℕ → Effect HeldCells → Type 0
FitsRoom room (Moves m) = (m.place < 2 ^ 64) × (length m.stack ≤ room)
FitsRoom room (Asks point) = Unit {0}
FitsRoom room (Finishes outcome) = Unit {0}
FitsRoom room Undefined = Unit {0}

-- no cell has a number of more than 32 bits
abbrev pub HasSmallCells : HeldCells → Type 0
HasSmallCells held = (cell : ℕ) → 2 ^ 32 ≤ cell → value_at held.cells cell ≡ None

-- the effect of an instruction on the machine
abbrev pub effect_of : Shape → Instr → RunOf → Effect HeldCells
effect_of shape instruction r = act load_held store_held shape (Some instruction) r.machine

-- the answer reports the effect, and the machine has it: it moves as the effect says, and is otherwise unchanged
abbrev pub HasEffect : Effect HeldCells → RunOf → Progress → RunOf → Type 0
HasEffect effect old answer.Moved new = (effect ≡ Moves new.machine) × (new ≡ with_machine old new.machine)
HasEffect effect old (answer.Asks point) new = (effect ≡ Asks point) × (new ≡ old)
HasEffect effect old (answer.Finished outcome) new = (effect ≡ Finishes outcome) × (new ≡ old)
HasEffect effect old answer.Undefined new = (effect ≡ Undefined) × (new ≡ old)

-- the answer for a failure
abbrev pub told : Failure → Progress
told (Trap t) = answer.Finished (Traps t)
told Wrong = answer.Undefined

-- ---- the kinds of instructions. The code relies on them; nobody has to believe them

-- pushes a value onto this stack
abbrev pub putting_on : List Value → Result Value Failure → Machine HeldCells → Effect HeldCells
putting_on stack value m = or_trap value (λ v. advances m (v ∷ stack))

-- pushes the value of a cell onto this stack
abbrev pub loading_on : List Value → ℕ → Machine HeldCells → Effect HeldCells
loading_on stack cell m = if_there (load_held m.memory cell) (λ r. advances (record m { memory = r.1 }) (r.0 ∷ stack))

-- writes a value to a cell, and leaves this stack
abbrev pub storing_under : List Value → ℕ → Value → Machine HeldCells → Effect HeldCells
storing_under stack cell v m =
    if_there (store_held m.memory cell v) (λ memory. advances (record m { memory = memory }) stack)

-- writes a value to the cell that was found, or fails as the search for it did
abbrev pub storing_found : List Value → Result ℕ Failure → Value → Machine HeldCells → Effect HeldCells
storing_found stack cell v m = or_trap cell (λ c. storing_under stack c v m)

-- pushes a local
abbrev pub getting : ℕ → Machine HeldCells → Effect HeldCells
getting k m = putting_on m.stack (found (slice_get m.locals k)) m

-- pops the top into a local
abbrev pub setting : ℕ → Machine HeldCells → Effect HeldCells
setting k m =
    on_top m.stack (λ v rest. or_trap (found (slice_get m.locals k))
    (λ old. advances (record m { locals = slice_set m.locals k v }) rest))

-- pops the top into a cell
abbrev pub storing : ℕ → Machine HeldCells → Effect HeldCells
storing cell m = on_top m.stack (λ v rest. storing_under rest cell v m)

-- the reference, if it is null or its final reference equals the local
abbrev pub owner_test : Shape → ℕ → ℕ → List Value → Value → Result Value Failure
owner_test shape f k locals value = with (found (slice_get locals k)) (λ owner. owned shape value f owner)

-- replaces the top by a function of it
abbrev pub on_one : (Value → Result Value Failure) → Machine HeldCells → Effect HeldCells
on_one f m = on_top m.stack (λ v rest. putting_on rest (f v) m)

-- replaces the two operands on top by a function of them
abbrev pub on_both : (Value → Value → Result Value Failure) → Machine HeldCells → Effect HeldCells
on_both f m = on_two m.stack (λ a b rest. putting_on rest (f a b) m)

-- replaces the two operands on top by the result of comparing them
abbrev pub testing : Comparison → Machine HeldCells → Effect HeldCells
testing c m = on_two m.stack (λ a b rest. or_trap (compared c a b) (λ holds. advances m (truth holds ∷ rest)))

-- advances without a change if the test is passed
abbrev pub passing : {A : Type 0} → Result A Failure → Machine HeldCells → Effect HeldCells
passing test m = or_trap test (λ a. advances m m.stack)

-- advances without a change if the top passes the test
abbrev pub if_passed : {A : Type 0} → (Value → Result A Failure) → Machine HeldCells → Effect HeldCells
if_passed test m = on_top m.stack (λ v rest. passing (test v) m)

-- replaces the top by the value of the cell that it names
abbrev pub loading_named : (Value → Result ℕ Failure) → Machine HeldCells → Effect HeldCells
loading_named named m = on_top m.stack (λ v rest. or_trap (named v) (λ cell. loading_on rest cell m))

-- pops two operands, and writes the upper one to the cell that the lower one names
abbrev pub storing_named : (Value → Result ℕ Failure) → Machine HeldCells → Effect HeldCells
storing_named named m = on_two m.stack (λ a b rest. storing_found rest (named a) b m)

-- whether both truth values are equal
abbrev pub agrees : Bool → Bool → Bool
agrees true b = b
agrees false b = not b

-- pops a truth value, and jumps over the given number of instructions if it equals the given one
abbrev pub branching : Bool → ℕ → Machine HeldCells → Effect HeldCells
branching on over m = on_top m.stack (λ v rest. or_trap (is_true v) (λ b. jumps_if (agrees on b) m over rest))

-- pops and prints the top
abbrev pub printing : Machine HeldCells → Effect HeldCells
printing m = on_top m.stack (λ v rest. or_trap (printed m.prints v) (λ prints. advances (record m { prints = prints }) rest))

-- jumps back by the given number of places
abbrev pub back_by : ℕ → Machine HeldCells → Effect HeldCells
back_by back m = Moves (record m { place = m.place - back })

-- ends the section with the top as its result
abbrev pub returning : Machine HeldCells → Effect HeldCells
returning m = on_top m.stack (λ v rest. Finishes (Returns v))
