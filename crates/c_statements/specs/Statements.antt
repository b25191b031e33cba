-- The text of the statements of a section, each on a line of its own.
use Rattle.std.specs.Prelude.{ℕ, Bool, true, false, if◌then◌else◌, List, ◌++◌, codes}
use Rattle.std.specs.Fmt.{decimal}
use Rattle.core_lang.specs.Traps.{trap_number}
use Rattle.core_lang.specs.declared.tree.Comparison.{Comparison}
use Rattle.core_lang.specs.declared.tree.Comparison.TheVariants.{Equal, NotEqual, Less, LessOrEqual, Greater}
use Rattle.core_lang.specs.declared.tree.Comparison.TheVariants.{GreaterOrEqual}
use Rattle.core_lang.specs.declared.tree.Section.{Section}
use Rattle.core_lang.specs.declared.typed.Typed.{Typed}
use Rattle.c_language.specs.declared.statement.Checked.{Checked}
use Rattle.c_language.specs.declared.statement.Checked.TheVariants.{Sum, Difference, Product}
use Rattle.c_language.specs.declared.statement.Operand.{Operand}
use Rattle.c_language.specs.declared.statement.Operand.TheVariants.{Variable, Temporary, Number, Null}
use Rattle.c_language.specs.declared.statement.RightSide.{RightSide}
use Rattle.c_language.specs.declared.statement.RightSide.TheVariants.{Same, Negative, Quotient, Remainder, Compares}
use Rattle.c_language.specs.declared.statement.RightSide.TheVariants.{Inverse, Global, Element, Member, Field, Final}
use Rattle.c_language.specs.declared.statement.Statement.{Statement}
use Rattle.c_language.specs.declared.statement.Statement.TheVariants.{Set, Assign, Check, TrapIf, StoreGlobal}
use Rattle.c_language.specs.declared.statement.Statement.TheVariants.{StoreElement, StoreField, Print, Goto, GotoIf}
use Rattle.c_language.specs.declared.statement.Statement.TheVariants.{ReturnValue, Finish}
use Rattle.c_language.specs.declared.statement.StructMember.{StructMember}
use Rattle.c_language.specs.declared.statement.Test.{Test}
use Rattle.c_language.specs.declared.statement.Test.TheVariants.{IsNull, IsNoElement, IsNoMember, IsZero, IsLeast}
use Rattle.c_language.specs.declared.statement.Test.TheVariants.{IsLeastByMinusOne, IsNotOwned}
use Rattle.c_statements.specs.Names.{number_text, variable_text, temporary_text, global_text, array_text, pool_text}
use Rattle.c_statements.specs.Names.{array_length, pool_length, field_text, final_text}

-- a line of a body
abbrev pub line : List ℕ → List ℕ
line text = codes "  " ++ text ++ codes "\n"

-- an assignment of the second text to the first
abbrev pub assignment : List ℕ → List ℕ → List ℕ
assignment left right = line (left ++ codes " = " ++ right ++ codes ";")

-- the sign of a comparison, with spaces
abbrev pub comparison_text : Comparison → List ℕ
comparison_text Equal = codes " == "
comparison_text NotEqual = codes " != "
comparison_text Less = codes " < "
comparison_text LessOrEqual = codes " <= "
comparison_text Greater = codes " > "
comparison_text GreaterOrEqual = codes " >= "

-- the macro that sets a variable to the sum, the difference or the product, if it fits into 64 bits
abbrev pub checked_text : Checked → List ℕ
checked_text Sum = codes "AL_ADD("
checked_text Difference = codes "AL_SUB("
checked_text Product = codes "AL_MUL("

-- the begin of a jump that is taken if a value is true, or false
abbrev pub on_text : Bool → List ℕ
on_text true = codes "if ("
on_text false = codes "if (!"

-- a jump to a label, which is L and the place of its instruction
abbrev pub goto_text : ℕ → List ℕ
goto_text place = line (codes "goto L" ++ decimal place ++ codes ";")

-- the operand is `NULL`
abbrev pub is_null : Operand → Bool
is_null Null = true
is_null _ = false

-- the begin of a trap that is taken if the text is true
abbrev pub rare_text : List ℕ → List ℕ
rare_text tested = codes "if (AL_RARE(" ++ tested ++ codes ")) AL_TRAP("

-- for a program and a section of it
module _ (program : Typed) (section : Section) where
  -- the text of an operand
  abbrev pub operand_text : Operand → List ℕ
  operand_text (Variable k) = variable_text section k
  operand_text (Temporary t) = temporary_text program t
  operand_text (Number n) = number_text n
  operand_text Null = codes "NULL"

  -- the text with an index
  abbrev pub indexed : List ℕ → Operand → List ℕ
  indexed name i = name ++ codes "[" ++ operand_text i ++ codes "]"

  -- the text of a right side
  abbrev pub right_text : RightSide → List ℕ
  right_text (Same a) = operand_text a
  right_text (Negative a) = codes "-" ++ operand_text a
  right_text (Quotient a b) = operand_text a ++ codes " / " ++ operand_text b
  right_text (Remainder a b) = operand_text a ++ codes " % " ++ operand_text b
  right_text (Compares comparison a b) = operand_text a ++ comparison_text comparison ++ operand_text b
  right_text (Inverse a) = codes "!" ++ operand_text a
  right_text (Global cell) = global_text program cell
  right_text (Element array i) = indexed (array_text program array) i
  right_text (Member pool i) = codes "&" ++ indexed (pool_text program pool) i
  right_text (Field a x) = operand_text a ++ field_text program x
  right_text (Final a x) = operand_text a ++ final_text program x

  -- the pointer has another owner than a variable. NULL has none, and can't be followed
  abbrev pub not_owned_text : Operand → StructMember → ℕ → List ℕ
  not_owned_text a x k =
      if is_null a then codes "0"
      else operand_text a ++ codes " != NULL && " ++ operand_text a ++ final_text program x ++ codes " != "
      ++ variable_text section k

  -- AL_OUT tests for an index outside, also one below 0
  abbrev pub out_text : Operand → List ℕ → List ℕ
  out_text i length = codes "AL_OUT(" ++ operand_text i ++ codes ", " ++ length ++ codes ", "

  -- the test before a trap, up to the number of the trap
  abbrev pub test_text : Test → List ℕ
  test_text (IsNull a) = codes "AL_NULL(" ++ operand_text a ++ codes ", "
  test_text (IsNoElement array i) = out_text i (array_length program array)
  test_text (IsNoMember pool i) = out_text i (pool_length program pool)
  test_text (IsZero a) = rare_text (operand_text a ++ codes " == 0")
  test_text (IsLeast a) = rare_text (operand_text a ++ codes " == INT64_MIN")
  test_text (IsLeastByMinusOne a b) =
      rare_text (operand_text a ++ codes " == INT64_MIN && " ++ operand_text b ++ codes " == -1")
  test_text (IsNotOwned a x k) = rare_text (not_owned_text a x k)

  -- the result goes into a variable, if it fits into 64 bits
  abbrev pub check_text : Checked → List ℕ → Operand → Operand → List ℕ
  check_text checked t a b =
      line (checked_text checked ++ t ++ codes ", " ++ operand_text a ++ codes ", " ++ operand_text b ++ codes ");")

  -- a printed number is stored after the others, if the caller wants them
  abbrev pub printed_text : Operand → List ℕ
  printed_text a = line (codes "if (out != NULL) out->value[prints] = " ++ operand_text a ++ codes ";")

  -- a number is printed, up to the limit of a run
  abbrev pub print_text : Operand → List ℕ
  print_text a =
      line (codes "if (AL_RARE(prints == 256)) AL_TRAP(6);")
      ++ printed_text a ++ line (codes "prints++;")

  -- the text of a statement
  abbrev pub statement_text : Statement → List ℕ
  statement_text (Set t r) = assignment (temporary_text program t) (right_text r)
  statement_text (Assign k a) = assignment (variable_text section k) (operand_text a)
  statement_text (Check checked t a b) = check_text checked (temporary_text program t) a b
  statement_text (TrapIf test trap) = line (test_text test ++ decimal (trap_number trap) ++ codes ");")
  statement_text (StoreGlobal cell a) = assignment (global_text program cell) (operand_text a)
  statement_text (StoreElement array i a) = assignment (indexed (array_text program array) i) (operand_text a)
  statement_text (StoreField p x a) = assignment (operand_text p ++ field_text program x) (operand_text a)
  statement_text (Print a) = print_text a
  statement_text (Goto place) = goto_text place
  statement_text (GotoIf on a place) =
      line (on_text on ++ operand_text a ++ codes ") goto L" ++ decimal place ++ codes ";")
  statement_text (ReturnValue a) = assignment (codes "value") (operand_text a) ++ line (codes "goto end;")
  statement_text Finish = line (codes "goto end;")
