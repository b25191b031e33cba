-- The listing of a program, as bytes: the instructions of each section, with the lists of lock paths before its points;
-- with positions, each after the line and the column of its statement. Names are looked up in the program.
use Rattle.std.specs.Prelude.{ℕ, ◌+◌, ◌-◌, ◌==◌, List, [], ◌∷◌, ◌++◌, slice_get, codes, string_bytes}
use Rattle.std.specs.Prelude.{Option, Some, None}
use Rattle.std.specs.List.{flat_map, find}
use Rattle.std.specs.Option.{option_map_or}
use Rattle.std.specs.Fmt.{decimal, signed_decimal}
use Rattle.core_lang.specs.declared.shape.Array.{Array}
use Rattle.core_lang.specs.declared.shape.Pool.{Pool}
use Rattle.core_lang.specs.declared.tree.Section.{Section}
use Rattle.core_lang.specs.declared.typed.Field.{Field}
use Rattle.core_lang.specs.declared.typed.FinalField.{FinalField}
use Rattle.core_lang.specs.declared.typed.GlobalVariable.{GlobalVariable}
use Rattle.core_lang.specs.declared.typed.Struct.{Struct}
use Rattle.core_lang.specs.declared.typed.Typed.{Typed}
use Rattle.core_lang.specs.declared.tree.Operator.{Operator}
use Rattle.core_lang.specs.declared.tree.Operator.TheVariants.{Add, Sub, Mul, Div, Rem}
use Rattle.core_lang.specs.declared.tree.Comparison.{Comparison}
use Rattle.core_lang.specs.declared.tree.Comparison.TheVariants.{Equal, NotEqual, Less, LessOrEqual, Greater}
use Rattle.core_lang.specs.declared.tree.Comparison.TheVariants.{GreaterOrEqual}
use Rattle.code.specs.declared.instr.Instr.{Instr}
use Rattle.code.specs.declared.instr.Instr.TheVariants.{PushNumber, PushNull, GetLocal, PutLocal, LoadGlobal}
use Rattle.code.specs.declared.instr.Instr.TheVariants.{PutGlobal, LoadElement, Bound, PutElement, GetMember}
use Rattle.code.specs.declared.instr.Instr.TheVariants.{LoadFinal, LoadField, NonNull, PutField, Where, NegateTop}
use Rattle.code.specs.declared.instr.Instr.TheVariants.{NotTop, Operate, Test, Jump, JumpBack, JumpIfFalse}
use Rattle.code.specs.declared.instr.Instr.TheVariants.{JumpIfTrue, PrintTop, Acquire, Return, End}
use Rattle.code.specs.Lowering.{section_code, lists_at}
use Rattle.code.specs.LineTables.{place_text}
use Rattle.locks.specs.LockPaths.{lock_paths}
use Rattle.locks.specs.Texts.{path_text}

-- ---- names

-- the text of the item with this number, or nothing if the list has none
abbrev pub text_at : {A : Type 0} → (A → List ℕ) → List A → ℕ → List ℕ
text_at text items k = option_map_or text (slice_get items k) []

-- the name of the global that has a cell
abbrev pub global_text : Typed → ℕ → List ℕ
global_text program cell =
    option_map_or (λ (x : GlobalVariable). string_bytes x.name)
    (find (λ (x : GlobalVariable). x.cell == cell) program.globals.items) []

-- the name of an array
abbrev pub array_text : Typed → ℕ → List ℕ
array_text program k = text_at (λ (x : Array). string_bytes x.name) program.shape.arrays.items k

-- the name of a pool
abbrev pub pool_text : Typed → ℕ → List ℕ
pool_text program k = text_at (λ (x : Pool). string_bytes x.name) program.shape.pools.items k

-- a final reference of a struct, as S.f
abbrev pub final_of : Struct → ℕ → List ℕ
final_of x f = string_bytes x.name ++ codes "." ++ text_at (λ (y : FinalField). string_bytes y.name) x.finals.items f

-- a final reference, by the number of its struct
abbrev pub final_text : Typed → ℕ → ℕ → List ℕ
final_text program structure f = text_at (λ x. final_of x f) program.structs.items structure

-- a field of a struct, as S.f
abbrev pub field_of : Struct → ℕ → List ℕ
field_of x f = string_bytes x.name ++ codes "." ++ text_at (λ (y : Field). string_bytes y.name) x.fields.items f

-- a field, by the number of its struct
abbrev pub field_text : Typed → ℕ → ℕ → List ℕ
field_text program structure f = text_at (λ x. field_of x f) program.structs.items structure

-- a final reference and a local
abbrev pub where_text : Typed → ℕ → ℕ → ℕ → List ℕ
where_text program structure f k = final_text program structure f ++ codes " " ++ decimal k

-- ---- instructions

-- the word for an operator
abbrev pub operator_text : Operator → List ℕ
operator_text Add = codes "add"
operator_text Sub = codes "sub"
operator_text Mul = codes "mul"
operator_text Div = codes "div"
operator_text Rem = codes "rem"

-- the word for a comparison
abbrev pub comparison_text : Comparison → List ℕ
comparison_text Equal = codes "eq"
comparison_text NotEqual = codes "ne"
comparison_text Less = codes "lt"
comparison_text LessOrEqual = codes "le"
comparison_text Greater = codes "gt"
comparison_text GreaterOrEqual = codes "ge"

-- the text and a line feed
abbrev pub line : List ℕ → List ℕ
line text = text ++ codes "\n"

-- lock paths of a section, by their numbers, a space before each
abbrev pub paths_text : Typed → Section → List ℕ → List ℕ
paths_text program section list =
    flat_map (λ i. codes " " ++ text_at (path_text program section) (lock_paths program section) i) list

-- for a program, a section of it, and the lists before its points
module _ (program : Typed) (section : Section) (lists : List (List ℕ)) where
  -- the lock paths before a point
  abbrev pub acquired_text : ℕ → List ℕ
  acquired_text point = text_at (paths_text program section) lists point

  -- an instruction at a place of the section's code; a jump names its target
  abbrev pub instr_text : ℕ → Instr → List ℕ
  instr_text place (PushNumber n) = codes "int " ++ signed_decimal n
  instr_text place PushNull = codes "null"
  instr_text place (GetLocal k) = codes "get " ++ decimal k
  instr_text place (PutLocal k) = codes "set " ++ decimal k
  instr_text place (LoadGlobal cell) = codes "load " ++ global_text program cell
  instr_text place (PutGlobal cell) = codes "store " ++ global_text program cell
  instr_text place (LoadElement array) = codes "elem " ++ array_text program array
  instr_text place (Bound array) = codes "bound " ++ array_text program array
  instr_text place (PutElement array) = codes "putelem " ++ array_text program array
  instr_text place (GetMember pool) = codes "member " ++ pool_text program pool
  instr_text place (LoadFinal f structure) = codes "final " ++ final_text program structure f
  instr_text place (LoadField f structure) = codes "field " ++ field_text program structure f
  instr_text place NonNull = codes "nonnull"
  instr_text place (PutField f structure) = codes "putfield " ++ field_text program structure f
  instr_text place (Where f structure k) = codes "where " ++ where_text program structure f k
  instr_text place NegateTop = codes "neg"
  instr_text place NotTop = codes "not"
  instr_text place (Operate operator) = operator_text operator
  instr_text place (Test comparison) = comparison_text comparison
  instr_text place (Jump over) = codes "jump " ++ decimal (place + 1 + over)
  instr_text place (JumpBack back) = codes "jump " ++ decimal (place - back)
  instr_text place (JumpIfFalse over) = codes "jfalse " ++ decimal (place + 1 + over)
  instr_text place (JumpIfTrue over) = codes "jtrue " ++ decimal (place + 1 + over)
  instr_text place PrintTop = codes "print"
  instr_text place (Acquire point) = codes "acquire" ++ acquired_text point
  instr_text place Return = codes "ret"
  instr_text place End = codes "end"

  -- PLACE FRONT TEXT for each instruction from a place on, with this front before the one at each place
  abbrev pub instrs_text : (ℕ → List ℕ) → ℕ → List Instr → List ℕ
  instrs_text front place [] = []
  instrs_text front place (i ∷ is) =
      line (decimal place ++ codes " " ++ front place ++ instr_text place i) ++ instrs_text front (place + 1) is

  -- section NAME, and its instructions
  abbrev pub section_text : (ℕ → List ℕ) → List ℕ
  section_text front =
      line (codes "section " ++ string_bytes section.name) ++ instrs_text front 0 (section_code lists section)

-- nothing before an instruction; or, with the program's text, LINE:COL and a space
abbrev pub front_text : Option (List ℕ) → Section → List (List ℕ) → ℕ → List ℕ
front_text None section lists place = []
front_text (Some text) section lists place = place_text text lists section place

-- ---- the whole text, of a program with the lists before the points of each section

-- given the program's text if positions are written
module _ (text : Option (List ℕ)) where
  -- the sections from one on, which has this number
  abbrev pub sections_text : Typed → List (List (List ℕ)) → ℕ → List Section → List ℕ
  sections_text program lists k [] = []
  sections_text program lists k (section ∷ sections) =
      section_text program section (lists_at lists k) (front_text text section (lists_at lists k))
      ++ sections_text program lists (k + 1) sections

-- the listing of a program
abbrev pub listing_text : Typed → List (List (List ℕ)) → List ℕ
listing_text program lists = sections_text None program lists 0 program.sections.items

-- the listing of a program with this text, with positions
abbrev pub listing_with_places_text : List ℕ → Typed → List (List (List ℕ)) → List ℕ
listing_with_places_text text program lists = sections_text (Some text) program lists 0 program.sections.items
