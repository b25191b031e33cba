-- Texts, as values of the code have them. Nobody has to believe these.
use Rattle.std.specs.Prelude.{ℕ, List, [], ◌++◌, codes}
use Rattle.c_language.specs.declared.statement.Operand.{Operand}
use Rattle.c_language.specs.declared.statement.RightSide.{RightSide}
use Rattle.c_language.specs.declared.statement.Statement.{Statement}
use Rattle.c_language.specs.declared.statement.StructMember.{StructMember}
use Rattle.c_language.specs.declared.statement.Test.{Test}
use Rattle.c_language.specs.declared.statement.Test.TheVariants.{IsZero, IsLeast, IsLeastByMinusOne, IsNotOwned}
use Rattle.c_statements.specs.declared.operands.OperandScope.{OperandScope}
use Rattle.c_statements.specs.Statements as text

-- the text of an operand in the scope of a section
abbrev pub operand_of : OperandScope → Operand → List ℕ
operand_of x a = text.operand_text x.program.now x.section.now a

abbrev pub indexed_of : OperandScope → List ℕ → Operand → List ℕ
indexed_of x name i = text.indexed x.program.now x.section.now name i

abbrev pub right_of : OperandScope → RightSide → List ℕ
right_of x r = text.right_text x.program.now x.section.now r

abbrev pub not_owned_of : OperandScope → Operand → StructMember → ℕ → List ℕ
not_owned_of x a member k = text.not_owned_text x.program.now x.section.now a member k

-- the condition of a test; nothing for tests that are macros
abbrev pub condition_of : OperandScope → Test → List ℕ
condition_of x (IsZero a) = operand_of x a ++ codes " == 0"
condition_of x (IsLeast a) = operand_of x a ++ codes " == INT64_MIN"
condition_of x (IsLeastByMinusOne a b) = operand_of x a ++ codes " == INT64_MIN && " ++ operand_of x b ++ codes " == -1"
condition_of x (IsNotOwned a member k) = not_owned_of x a member k
condition_of x _ = []

abbrev pub test_of : OperandScope → Test → List ℕ
test_of x test = text.test_text x.program.now x.section.now test

abbrev pub printed_of : OperandScope → Operand → List ℕ
printed_of x a = text.printed_text x.program.now x.section.now a

abbrev pub statement_of : OperandScope → Statement → List ℕ
statement_of x statement = text.statement_text x.program.now x.section.now statement
