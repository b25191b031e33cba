-- The effects of the code on instructions under construction. Nobody has to believe these.
use Rattle.std.specs.Prelude.{◌≡◌, ℕ, ◌+◌, ◌-◌, ℤ, pos, Bool, true, false, List, [], ◌∷◌, ◌++◌, length, slice_set}
use Rattle.core_lang.specs.declared.tree.FieldStep.{FieldStep}
use Rattle.core_lang.specs.declared.tree.FieldStep.TheVariants.{Final, Field}
use Rattle.core_lang.specs.declared.tree.Condition.{Condition}
use Rattle.code.specs.declared.instr.Instr.{Instr}
use Rattle.code.specs.declared.instr.Instr.TheVariants.{PushNumber, LoadFinal, LoadField, Jump, JumpIfFalse, JumpIfTrue}
use Rattle.code.specs.declared.instr.Instr.TheVariants.{Acquire}
use Rattle.code.specs.Lowering.{test_code, acquire_code}
use Rattle.lowering.specs.declared.assembler.Assembler.{Assembler}
use Rattle.lowering.specs.declared.assembler.Connective.{Connective}
use Rattle.lowering.specs.declared.assembler.Connective.TheVariants.{And, Or}

-- the instruction from a reference to a field of its object
abbrev pub field_code : FieldStep → Instr
field_code (Final structure f) = LoadFinal f structure
field_code (Field structure f) = LoadField f structure

-- these instructions were appended
abbrev pub Adds : Assembler → Assembler → List Instr → Type 0
Adds old new code = new.instructions.items ≡ old.instructions.items ++ code

-- the jump after an operand, over the given number of instructions
abbrev pub jump_of : Connective → ℕ → Instr
jump_of And over = JumpIfFalse over
jump_of Or over = JumpIfTrue over

-- the truth value of the whole if an operand decides it
abbrev pub decided : Connective → ℤ
decided And = pos 0
decided Or = pos 1

-- operands, each with a jump after it whose target is not known yet
abbrev pub blank : Connective → List Condition → List Instr
blank connective [] = []
blank connective (c ∷ cs) = test_code c ++ (jump_of connective 0 ∷ blank connective cs)

-- the places of those jumps
abbrev pub places : ℕ → List Condition → List ℕ
places at [] = []
places at (c ∷ cs) = (at + length (test_code c)) ∷ places (at + length (test_code c) + 1) cs

-- the code with the jumps at these places leading to the end
abbrev pub pointed : Connective → ℕ → List ℕ → List Instr → List Instr
pointed connective end [] code = code
pointed connective end (p ∷ ps) code = pointed connective end ps (slice_set code p (jump_of connective (end - p - 1)))

abbrev pub PointsToEnd : Connective → List ℕ → Assembler → Assembler → Type 0
PointsToEnd connective jumps old new =
    new.instructions.items ≡ pointed connective (length old.instructions.items) jumps old.instructions.items

-- the code with a jump and then the truth value, which is the target of the jumps at these places
abbrev pub closed : Connective → List ℕ → List Instr → List Instr
closed connective jumps code =
    let whole = code ++ Jump 1 ∷ [] in
    pointed connective (length whole) jumps whole ++ PushNumber (decided connective) ∷ []

-- the jump at this place leads to the end
abbrev pub Lands : ℕ → Assembler → Assembler → Type 0
Lands place old new =
    let code = old.instructions.items in
    new.instructions.items ≡ slice_set code place (JumpIfFalse (length code - place - 1))

-- whether a lock path is listed before a point
abbrev pub IsListed : List (List ℕ) → ℕ → Bool → Type 0
IsListed lists point true = acquire_code lists point ≡ Acquire point ∷ []
IsListed lists point false = acquire_code lists point ≡ []
