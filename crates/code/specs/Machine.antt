-- What the instructions do, over any memory of cells.
use Rattle.std.specs.Prelude.{ℕ, zero, suc, ◌+◌, ◌-◌, ℤ, pos, negsuc, Bool, true, false, not, nat_lt, if◌then◌else◌}
use Rattle.std.specs.Prelude.{List, [], ◌∷◌, ◌++◌, length, slice_get, slice_set, Option, Some, None, Result, Ok, Err}
use Rattle.source.specs.Limits.{PRINT_LIMIT}
use Rattle.core_lang.specs.declared.value.Value.{Value}
use Rattle.core_lang.specs.declared.value.Value.TheVariants.{Int, Ref}
use Rattle.core_lang.specs.declared.value.Trap.TheVariants.{TooManyPrints}
use Rattle.core_lang.specs.declared.value.Failure.{Failure}
use Rattle.core_lang.specs.declared.value.Failure.TheVariants.{Trap, Wrong}
use Rattle.core_lang.specs.declared.value.Outcome.{Outcome}
use Rattle.core_lang.specs.declared.value.Outcome.TheVariants.{Ends, Returns, Traps}
use Rattle.core_lang.specs.declared.shape.Shape.{Shape}
use Rattle.core_lang.specs.Arithmetic.{on_values, negated, compared}
use Rattle.core_lang.specs.Cells.{with, found, element_cell, member_of, field_cell, final_value, owned, not_null}
use Rattle.code.specs.declared.instr.Instr.{Instr}
use Rattle.code.specs.declared.instr.Instr.TheVariants.{PushNumber, PushNull, GetLocal, PutLocal, LoadGlobal}
use Rattle.code.specs.declared.instr.Instr.TheVariants.{PutGlobal, LoadElement, Bound, PutElement, GetMember}
use Rattle.code.specs.declared.instr.Instr.TheVariants.{LoadFinal, LoadField, NonNull, PutField, Where, NegateTop}
use Rattle.code.specs.declared.instr.Instr.TheVariants.{NotTop, Operate, Test, Jump, JumpBack, JumpIfFalse}
use Rattle.code.specs.declared.instr.Instr.TheVariants.{JumpIfTrue, PrintTop, Acquire, Return, End}

-- a machine: its place in the code, its operand stack, locals and memory, and what it has printed
pub record Machine (M : Type 0) : Type 0 where
  pub place : ℕ
  pub stack : List Value
  pub locals : List Value
  pub memory : M
  pub prints : List ℤ

-- the effect of an instruction: the machine moves on, or it asks for the locks before a point and moves on, or it comes
-- to an outcome, or the instruction has no case here
pub data Effect (M : Type 0) : Type 0 where
  Moves : Machine M → Effect M
  Asks : ℕ → Effect M
  Finishes : Outcome → Effect M
  Undefined : Effect M

-- the state of a machine after some instructions: at an instruction, at an outcome, or without a next instruction
pub data Standing (M : Type 0) : Type 0 where
  At : Machine M → Standing M
  Halted : Outcome → M → List ℤ → Standing M
  Stuck : Standing M

-- truth values on the stack are 0 and 1
abbrev pub truth : Bool → Value
truth true = Int (pos 1)
truth false = Int (pos 0)

-- whether a truth value on the stack is true
abbrev pub is_true : Value → Result Bool Failure
is_true (Int (pos zero)) = Ok false
is_true (Int (pos (suc n))) = Ok true
is_true (Int (negsuc n)) = Err Wrong
is_true (Ref r) = Err Wrong

-- the other truth value
abbrev pub negation : Value → Result Value Failure
negation v = with (is_true v) (λ b. Ok (truth (not b)))

-- the prints with one more number, or a trap past the limit
abbrev pub printed : List ℤ → Value → Result (List ℤ) Failure
printed prints (Int n) = if nat_lt (length prints) PRINT_LIMIT then Ok (prints ++ n ∷ []) else Err (Trap TooManyPrints)
printed prints (Ref r) = Err Wrong

-- the machine at the next place
abbrev pub passed : {M : Type 0} → Machine M → Machine M
passed m = record m { place = m.place + 1 }

-- the machine at the next place, with this stack
abbrev pub advances : {M : Type 0} → Machine M → List Value → Effect M
advances m stack = Moves (record m { place = m.place + 1; stack = stack })

-- the machine after a jump over the given number of instructions, with this stack
abbrev pub jumps : {M : Type 0} → Machine M → ℕ → List Value → Effect M
jumps m over stack = Moves (record m { place = m.place + 1 + over; stack = stack })

-- the machine after the jump if the truth value is true, else at the next place
abbrev pub jumps_if : {M : Type 0} → Bool → Machine M → ℕ → List Value → Effect M
jumps_if true m over stack = jumps m over stack
jumps_if false m over stack = advances m stack

-- the effect of `go` on the value; if there is none, the end in its trap, or undefined
abbrev pub or_trap : {A M : Type 0} → Result A Failure → (A → Effect M) → Effect M
or_trap (Ok a) go = go a
or_trap (Err (Trap t)) go = Finishes (Traps t)
or_trap (Err Wrong) go = Undefined

-- the effect of `go` on the top of the stack and the values below it; undefined if the stack is empty
abbrev pub on_top : {M : Type 0} → List Value → (Value → List Value → Effect M) → Effect M
on_top [] go = Undefined
on_top (top ∷ rest) go = go top rest

-- the effect of `go` on the two values on top, the left one below the right one, and those below; undefined with fewer
-- than two
abbrev pub on_two : {M : Type 0} → List Value → (Value → Value → List Value → Effect M) → Effect M
on_two [] go = Undefined
on_two (right ∷ []) go = Undefined
on_two (right ∷ left ∷ rest) go = go left right rest

-- the effect of `go` on a value, if there is one; else undefined
abbrev pub if_there : {A M : Type 0} → Option A → (A → Effect M) → Effect M
if_there (Some a) go = go a
if_there None go = Undefined

-- for a memory: the value of a cell, with the memory after the read, and the memory after a write; both fail if the
-- cell does not exist
module _ {M : Type 0} (load : M → ℕ → Option (Value × M)) (store : M → ℕ → Value → Option M) (shape : Shape) where
  -- pushes the value of a cell
  abbrev pub loads : Machine M → ℕ → List Value → Effect M
  loads m cell rest = if_there (load m.memory cell) (λ r. advances (record m { memory = r.1 }) (r.0 ∷ rest))

  -- writes a cell
  abbrev pub stores : Machine M → ℕ → Value → List Value → Effect M
  stores m cell v rest = if_there (store m.memory cell v) (λ memory. advances (record m { memory = memory }) rest)

  -- the effect of one instruction; past the code there is none
  abbrev pub act : Option Instr → Machine M → Effect M
  act None m = Undefined
  act (Some (PushNumber n)) m = advances m (Int n ∷ m.stack)
  act (Some PushNull) m = advances m (Ref None ∷ m.stack)
  act (Some (GetLocal k)) m = or_trap (found (slice_get m.locals k)) (λ v. advances m (v ∷ m.stack))
  act (Some (PutLocal k)) m =
      on_top m.stack (λ v rest. or_trap (found (slice_get m.locals k))
      (λ old. advances (record m { locals = slice_set m.locals k v }) rest))
  act (Some (LoadGlobal cell)) m = loads m cell m.stack
  act (Some (PutGlobal cell)) m = on_top m.stack (λ v rest. stores m cell v rest)
  act (Some (LoadElement array)) m =
      on_top m.stack (λ i rest. or_trap (element_cell shape array i) (λ cell. loads m cell rest))
  act (Some (Bound array)) m =
      on_top m.stack (λ i rest. or_trap (element_cell shape array i) (λ cell. advances m m.stack))
  act (Some (PutElement array)) m =
      on_two m.stack (λ i v rest. or_trap (element_cell shape array i) (λ cell. stores m cell v rest))
  act (Some (GetMember pool)) m =
      on_top m.stack (λ i rest. or_trap (member_of shape pool i) (λ r. advances m (r ∷ rest)))
  act (Some (LoadFinal f structure)) m =
      on_top m.stack (λ r rest. or_trap (final_value shape r f) (λ v. advances m (v ∷ rest)))
  act (Some (LoadField f structure)) m =
      on_top m.stack (λ r rest. or_trap (field_cell shape r f) (λ cell. loads m cell rest))
  act (Some NonNull) m = on_top m.stack (λ r rest. or_trap (not_null r) (λ same. advances m m.stack))
  act (Some (PutField f structure)) m =
      on_two m.stack (λ r v rest. or_trap (field_cell shape r f) (λ cell. stores m cell v rest))
  act (Some (Where f structure k)) m =
      on_top m.stack (λ r rest. or_trap (with (found (slice_get m.locals k)) (λ owner. owned shape r f owner)) (λ w. advances m (w ∷ rest)))
  act (Some NegateTop) m = on_top m.stack (λ v rest. or_trap (negated v) (λ w. advances m (w ∷ rest)))
  act (Some NotTop) m = on_top m.stack (λ v rest. or_trap (negation v) (λ w. advances m (w ∷ rest)))
  act (Some (Operate o)) m = on_two m.stack (λ a b rest. or_trap (on_values o a b) (λ w. advances m (w ∷ rest)))
  act (Some (Test c)) m =
      on_two m.stack (λ a b rest. or_trap (compared c a b) (λ holds. advances m (truth holds ∷ rest)))
  act (Some (Jump over)) m = jumps m over m.stack
  act (Some (JumpBack back)) m = Moves (record m { place = m.place - back })
  act (Some (JumpIfFalse over)) m = on_top m.stack (λ v rest. or_trap (is_true v) (λ b. jumps_if (not b) m over rest))
  act (Some (JumpIfTrue over)) m = on_top m.stack (λ v rest. or_trap (is_true v) (λ b. jumps_if b m over rest))
  act (Some PrintTop) m =
      on_top m.stack (λ v rest. or_trap (printed m.prints v) (λ prints. advances (record m { prints = prints }) rest))
  act (Some (Acquire point)) m = Asks point
  act (Some Return) m = on_top m.stack (λ v rest. Finishes (Returns v))
  act (Some End) m = Finishes Ends

  -- the state after the effect of an instruction, by `go` if the machine goes on; alone it passes an instruction that
  -- asks for locks
  abbrev pub proceed : Machine M → Effect M → (Machine M → Standing M) → Standing M
  proceed m (Moves next) go = go next
  proceed m (Asks point) go = go (passed m)
  proceed m (Finishes outcome) go = Halted outcome m.memory m.prints
  proceed m Undefined go = Stuck

  -- the state of a machine after n instructions of a code, or at the outcome that it came to before
  abbrev pub exec : List Instr → ℕ → Machine M → Standing M
  exec code zero m = At m
  exec code (suc n) m = proceed m (act (slice_get code m.place) m) (exec code n)
