-- What the code of the listing computes: an index of the globals, and an instruction as a word and its operand.
use Rattle.std.specs.Prelude.{◌≡◌, ℕ, ◌+◌, ◌-◌, ◌==◌, List, [], ◌++◌, map, slice_get, Some, codes, String}
use Rattle.std.specs.Prelude.{string_bytes, nat_eq}
use Rattle.std.specs.Fmt.{decimal, signed_decimal}
use Rattle.std.specs.List.{find}
use Rattle.std.specs.Option.{option_copied}
use Rattle.std.specs.Borrow.{Bor}
use Rattle.indexmap.specs.IndexMap.{IndexMap, get}
use Rattle.core_lang.specs.declared.tree.Section.{Section}
use Rattle.core_lang.specs.declared.typed.GlobalVariable.{GlobalVariable}
use Rattle.core_lang.specs.declared.typed.Typed.{Typed}
use Rattle.locks.specs.LockPaths.{lock_paths}
use Rattle.locks.specs.Texts.{path_text}
use Rattle.code.specs.declared.instr.Instr.{Instr}
use Rattle.code.specs.declared.instr.Instr.TheVariants.{PushNumber, GetLocal, PutLocal, LoadGlobal, PutGlobal}
use Rattle.code.specs.declared.instr.Instr.TheVariants.{LoadElement, Bound, PutElement, GetMember, LoadFinal}
use Rattle.code.specs.declared.instr.Instr.TheVariants.{LoadField, PutField, Where, Jump, JumpBack, JumpIfFalse}
use Rattle.code.specs.declared.instr.Instr.TheVariants.{JumpIfTrue, Acquire}
use Rattle.code.specs.Listing.{array_text, pool_text, global_text, final_text, where_text, field_text}
use Rattle.code.specs.Listing.{acquired_text, instr_text, line}
use Rattle.rope.specs.Working.Ropes.{RopeOf}

-- the index has for each cell the first global that has it
abbrev pub IsIndexOf : {S : Type 0} → List GlobalVariable → IndexMap ℕ (Bor GlobalVariable) S → Type 0
IsIndexOf globals index =
    (cell : ℕ) → option_copied (get nat_eq index cell) ≡ find (λ (g : GlobalVariable). g.cell == cell) globals

-- an instruction's operand, as it is written after the word, except lock paths
abbrev pub operand_text : Typed → ℕ → Instr → List ℕ
operand_text program place (PushNumber n) = signed_decimal n
operand_text program place (GetLocal k) = decimal k
operand_text program place (PutLocal k) = decimal k
operand_text program place (LoadGlobal cell) = global_text program cell
operand_text program place (PutGlobal cell) = global_text program cell
operand_text program place (LoadElement array) = array_text program array
operand_text program place (Bound array) = array_text program array
operand_text program place (PutElement array) = array_text program array
operand_text program place (GetMember pool) = pool_text program pool
operand_text program place (LoadFinal f structure) = final_text program structure f
operand_text program place (LoadField f structure) = field_text program structure f
operand_text program place (PutField f structure) = field_text program structure f
operand_text program place (Where f structure k) = where_text program structure f k
operand_text program place (Jump over) = decimal (place + 1 + over)
operand_text program place (JumpBack back) = decimal (place - back)
operand_text program place (JumpIfFalse over) = decimal (place + 1 + over)
operand_text program place (JumpIfTrue over) = decimal (place + 1 + over)
operand_text program place _ = []

-- the lock paths that an instruction asks for
abbrev pub asked_text : Typed → Section → List (List ℕ) → Instr → List ℕ
asked_text program section lists (Acquire point) = acquired_text program section lists point
asked_text program section lists _ = []

-- the word of an instruction: all that is written of it before its operand
abbrev pub IsMnemonic : Instr → List ℕ → Type 0
IsMnemonic instr word =
    (program : Typed) (section : Section) (lists : List (List ℕ)) (place : ℕ)
    → instr_text program section lists place instr
    ≡ word ++ operand_text program place instr ++ asked_text program section lists instr

-- an instruction was appended, without the lock paths that it asks for
abbrev pub AddsBare : {Z : Type 0} → Typed → ℕ → Instr → String Z → String Z → Type 0
AddsBare program place instr old new =
    (section : Section) (lists : List (List ℕ)) → string_bytes new ++ asked_text program section lists instr
    ≡ string_bytes old ++ instr_text program section lists place instr

-- the line of an instruction
abbrev pub line_text : Typed → Section → List (List ℕ) → (ℕ → List ℕ) → ℕ → Instr → List ℕ
line_text program section lists front place instr =
    line (decimal place ++ codes " " ++ front place ++ instr_text program section lists place instr)

-- the rope keeps the texts of the section's lock paths, as the group of this number
abbrev pub HasPaths : Typed → Section → ℕ → RopeOf → Type 0
HasPaths program section group rope =
    slice_get rope.groups group ≡ Some (map (path_text program section) (lock_paths program section))
