-- The C text of a section.
use Rattle.std.specs.Prelude.{ℕ, ◌==◌, Bool, true, false, if◌then◌else◌, List, [], ◌++◌, length, take, drop}
use Rattle.std.specs.Prelude.{Option, Some, None, codes, string_bytes}
use Rattle.std.specs.List.{flat_map, list_any}
use Rattle.std.specs.Fmt.{decimal}
use Rattle.core_lang.specs.declared.tree.Local.{Local}
use Rattle.core_lang.specs.declared.tree.Section.{Section}
use Rattle.core_lang.specs.declared.typed.Typed.{Typed}
use Rattle.core_lang.specs.declared.value.ValueType.{ValueType}
use Rattle.core_lang.specs.declared.value.ValueType.TheVariants.{Integer, Reference}
use Rattle.locks.specs.LockPaths.{LockPath, lock_paths}
use Rattle.locks.specs.Texts.{struct_name}
use Rattle.locks.specs.declared.path.Root.{Root}
use Rattle.locks.specs.declared.path.Root.TheVariants.{GlobalLock, WholeClass, Local as AtLocal}
use Rattle.code.specs.Listing.{text_at}
use Rattle.code.specs.declared.instr.Instr.{Instr}
use Rattle.code.specs.Lowering.{section_code}
use Rattle.c_language.specs.declared.statement.Temporary.{Temporary}
use Rattle.c_statements.specs.Names.{named, own, type_text, zero_text, local_text, temporary_text}
use Rattle.c_statements.specs.Statements.{line}
use Rattle.c_statements.specs.Acquires.{numbered, downward, held, class_loops}
use Rattle.c_sections.specs.Instructions.{where_true, prints, temporaries, body_text}

-- ---- parameters

-- the parameters of a section
abbrev pub parameters : Section → List Local
parameters section = take section.parameters section.locals.items

-- the locals after the parameters
abbrev pub others : Section → List Local
others section = drop section.parameters section.locals.items

-- the type is one of references
abbrev pub is_reference : ValueType → Bool
is_reference Integer = false
is_reference (Reference s) = true

-- the local is a reference
abbrev pub has_reference : Local → Bool
has_reference local = is_reference local.value_type

-- ---- what only some sections have

-- the parameter for the prints, if the section prints
abbrev pub out_text : Bool → List ℕ
out_text prints = where_true prints (codes ", struct autolock_prints *out")

-- an array of pointers to locks, by its name, its length and its initial value
abbrev pub locks_line : List ℕ → ℕ → List ℕ → List ℕ
locks_line name count first =
    line (codes "AL_MUTEX *" ++ name ++ codes "[" ++ decimal count ++ codes "]" ++ first ++ codes ";")

-- a section with this number of lock paths has locks
abbrev pub has_locks : ℕ → Bool
has_locks count = if count == 0 then false else true

-- the arrays of pointers to locks, if the section has locks
abbrev pub locks_lines : ℕ → List ℕ
locks_lines count =
    where_true (has_locks count)
    (locks_line (codes "h") count (codes " = { NULL }") ++ locks_line (codes "m") count [])

-- the variable with the number of prints, if the section prints
abbrev pub prints_line : Bool → List ℕ
prints_line prints = where_true prints (line (codes "int prints = 0;"))

-- ---- uses of what may be unused, so that no compiler warns

-- a use of a variable
abbrev pub used_line : List ℕ → List ℕ
used_line name = line (codes "(void)" ++ name ++ codes ";")

-- a use of a local
abbrev pub used_local : ℕ → Local → List ℕ
used_local k local = used_line (local_text k local)

-- a use of each local
abbrev pub used_locals : Section → List ℕ
used_locals section = numbered used_local 0 section.locals.items

-- uses of the arrays of pointers to locks
abbrev pub used_locks : ℕ → List ℕ
used_locks count = where_true (has_locks count) (used_line (codes "h") ++ used_line (codes "m"))

-- uses of the state, the locals and the arrays of locks
abbrev pub uses : Section → ℕ → List ℕ
uses section count = used_line (codes "s") ++ used_locals section ++ used_locks count

-- ---- the history, if AL_HISTORY is defined

-- the cast of a value to a number for the history: a reference is its address
abbrev pub cast_text : ValueType → List ℕ
cast_text Integer = []
cast_text (Reference s) = codes "(int64_t)(uintptr_t)"

-- an argument as a number, before others
abbrev pub argument_text : ℕ → Local → List ℕ
argument_text k local = cast_text local.value_type ++ local_text k local ++ codes ", "

-- the arguments as numbers
abbrev pub arguments_text : List Local → List ℕ
arguments_text locals = numbered argument_text 0 locals

-- prints are kept, even if the caller does not ask for them
abbrev pub kept_line : Bool → List ℕ
kept_line prints = where_true prints (line (codes "if (seat != NULL && out == NULL) out = &seat->prints;"))

-- the section's number
abbrev pub section_name : List ℕ → Section → List ℕ
section_name prefix section = own prefix (codes "Section_") ++ string_bytes section.name

-- the begin of a call with these arguments
abbrev pub begun_text : List ℕ → Section → Bool → List ℕ
begun_text prefix section prints =
    codes "#ifdef AL_HISTORY\n  struct autolock_seat *seat = autolock_begin(s->history, "
    ++ section_name prefix section
    ++ (codes ", " ++ decimal (length (parameters section)) ++ codes ", (const int64_t[]) { ")
    ++ arguments_text (parameters section) ++ codes "0 });\n" ++ kept_line prints ++ codes "#endif\n"

-- the result as a number, or 0 without one
abbrev pub value_word : Option ValueType → List ℕ
value_word None = codes "0"
value_word (Some t) = cast_text t ++ codes "value"

-- the number of prints and where they are, or none
abbrev pub printed_words : Bool → List ℕ
printed_words true = codes ", prints, out"
printed_words false = codes ", 0, NULL"

-- the end of a call, when it has all its locks
abbrev pub ended_text : Section → Bool → List ℕ
ended_text section prints =
    codes "#ifdef AL_HISTORY\n  autolock_ended(seat, trap, " ++ value_word section.result_type
    ++ printed_words prints ++ codes ");\n#endif\n"

-- ---- the prototype

module _ (prefix : List ℕ) (program : Typed) where
  -- the struct of a section's return type
  abbrev pub result_struct : Option ValueType → List ℕ
  result_struct None = codes "autolock_end"
  result_struct (Some Integer) = codes "autolock_int"
  result_struct (Some (Reference s)) = own prefix (codes "Ref_" ++ struct_name program s)

  -- a local with its type
  abbrev pub declared : ℕ → Local → List ℕ
  declared k local = type_text prefix program local.value_type ++ local_text k local

  -- a parameter after others
  abbrev pub parameter_text : ℕ → Local → List ℕ
  parameter_text k local = codes ", " ++ declared k local

  -- the parameters of a section
  abbrev pub parameters_text : Section → List ℕ
  parameters_text section = numbered parameter_text 0 (parameters section)

  -- the name of a section's function, after the struct of its return type
  abbrev pub head_text : Section → List ℕ
  head_text section =
      codes "struct " ++ result_struct section.result_type ++ codes " " ++ named prefix (string_bytes section.name)

  -- the prototype of a section, which prints or not
  abbrev pub prototype_text : Section → Bool → List ℕ
  prototype_text section prints =
      head_text section ++ codes "(struct " ++ own prefix (codes "State") ++ codes " *s"
      ++ parameters_text section ++ out_text prints ++ codes ")"

  -- ---- declarations

  -- a local with its initial value
  abbrev pub local_line : ℕ → Local → List ℕ
  local_line k local = line (declared k local ++ codes " = " ++ zero_text local.value_type ++ codes ";")

  -- a temporary
  abbrev pub temporary_line : Temporary → List ℕ
  temporary_line t = line (type_text prefix program t.holds ++ temporary_text program t ++ codes ";")

  -- the variable of the result, if the section has one
  abbrev pub value_line : Option ValueType → List ℕ
  value_line None = []
  value_line (Some t) = line (type_text prefix program t ++ codes "value = " ++ zero_text t ++ codes ";")

  -- the variable that the section returns
  abbrev pub result_line : Option ValueType → List ℕ
  result_line t = line (codes "struct " ++ result_struct t ++ codes " result;")

  -- the variables that are neither locals nor temporaries, of a section with this number of lock paths
  abbrev pub further_lines : Section → Bool → ℕ → List ℕ
  further_lines section prints count =
      locks_lines count ++ line (codes "int trap = 0;") ++ prints_line prints ++ value_line section.result_type
      ++ result_line section.result_type

  -- the locals after the parameters
  abbrev pub locals_lines : Section → List ℕ
  locals_lines section = numbered local_line section.parameters (others section)

  -- the variables of a section with a code and this number of lock paths
  abbrev pub declarations : Section → List Instr → ℕ → List ℕ
  declarations section code count =
      locals_lines section ++ flat_map temporary_line (temporaries program code)
      ++ further_lines section (prints code) count

  -- ---- tests that arguments are null or objects of their struct

  -- the test of a parameter that refers to an object of a struct
  abbrev pub reference_line : ℕ → Local → ℕ → List ℕ
  reference_line k local s =
      line (codes "if (AL_RARE(!" ++ own prefix (codes "Is_" ++ struct_name program s) ++ codes "(s, "
      ++ local_text k local ++ codes "))) AL_TRAP(7);")

  -- the test of a parameter of this type, if it is a reference
  abbrev pub check_of : ℕ → Local → ValueType → List ℕ
  check_of k local Integer = []
  check_of k local (Reference s) = reference_line k local s

  -- the test of a parameter
  abbrev pub check_line : ℕ → Local → List ℕ
  check_line k local = check_of k local local.value_type

  -- the tests of parameters, if AL_CHECK is defined
  abbrev pub check_lines : List Local → List ℕ
  check_lines locals = codes "#ifdef AL_CHECK\n" ++ numbered check_line 0 locals ++ codes "#endif\n"

  -- the tests of a section's parameters, if some are references
  abbrev pub checks : Section → List ℕ
  checks section = where_true (list_any has_reference (parameters section)) (check_lines (parameters section))

-- ---- the end

-- the release of the lock of path k
abbrev pub release_one : ℕ → List ℕ
release_one k = codes "AL_UNLOCK(" ++ held k ++ codes ");"

-- the release of that lock, or of each lock of the path's class, by its root
abbrev pub release_text : Typed → ℕ → ℕ → Root → List ℕ
release_text program k class GlobalLock = release_one k
release_text program k class (WholeClass s) =
    codes "{" ++ class_loops program (codes "AL_UNLOCK") k class s ++ codes " }"
release_text program k class (AtLocal n) = release_one k

-- the release of what path k holds, if it holds a lock
abbrev pub unlock_of : Typed → ℕ → LockPath → List ℕ
unlock_of program k path =
    line (codes "if (" ++ held k ++ codes " != NULL) " ++ release_text program k path.class path.root)

-- that text, for the path of this number
abbrev pub unlock_line : Typed → List LockPath → ℕ → List ℕ
unlock_line program paths k = text_at (unlock_of program k) paths k

-- the caller gets the number of prints, if the section prints
abbrev pub count_line : Bool → List ℕ
count_line prints = where_true prints (line (codes "if (out != NULL) out->count = prints;"))

-- the caller gets the result, if there is one
abbrev pub give_line : Option ValueType → List ℕ
give_line None = []
give_line (Some t) = line (codes "result.value = value;")

-- the end returns, and the instructions begin
abbrev pub return_text : List ℕ
return_text = codes "  return result;\nbegin:\n"

-- the end of a call: its entry is added to the history; then every lock is released, the last first. The end precedes
-- the instructions, so that a C compiler knows the label of each trap before it comes to the jump
abbrev pub end_text : Typed → Section → Bool → List LockPath → List ℕ
end_text program section prints paths =
    codes "  goto begin;\nend:\n" ++ ended_text section prints ++ downward (unlock_line program paths) (length paths)
    ++ count_line prints
    ++ line (codes "result.trap = trap;") ++ give_line section.result_type ++ return_text

-- ---- a section

-- what precedes the end of a section
abbrev pub front_text : List ℕ → Typed → Section → List Instr → ℕ → List ℕ
front_text prefix program section code count =
    prototype_text prefix program section (prints code) ++ codes "\n{\n"
    ++ declarations prefix program section code count ++ uses section count
    ++ begun_text prefix section (prints code)

-- a section with this code and these lock paths, with marks before its instructions if they are given
abbrev pub text_of : List ℕ → Typed → Section → List (List ℕ) → List Instr → List LockPath → Option (ℕ → List ℕ) → List ℕ
text_of prefix program section lists code paths mark =
    front_text prefix program section code (length paths)
    ++ end_text program section (prints code) paths
    ++ checks prefix program section
    ++ body_text program section lists paths mark code
    ++ codes "}\n"

-- the text of a section, with marks if they are given
abbrev pub section_text : List ℕ → Typed → Section → List (List ℕ) → Option (ℕ → List ℕ) → List ℕ
section_text prefix program section lists mark =
    text_of prefix program section lists (section_code lists section) (lock_paths program section) mark
