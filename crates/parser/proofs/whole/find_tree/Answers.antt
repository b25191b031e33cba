use Rattle.source.specs.Tokens.{seen}
use Rattle.syntax.specs.Views.{tree_of}
use Rattle.parser.proofs.Programs.{program_is, no_answer}
use Rattle.parser.proofs.whole.find_tree.Goals as goal

pub returns-in-Ok : goal.returns-in-Ok
returns-in-Ok c = program_is (seen c.args.tokens.now) (tree_of c.in-Ok.tree) c.in-Ok.ensures

pub returns-in-Err-Unexpected : goal.returns-in-Err-Unexpected
returns-in-Err-Unexpected c = λ ds h. no_answer (seen c.args.tokens.now) ds _ h (rw c.in-Err-Unexpected.field-0-is at c.in-Err-Unexpected.ensures)

pub returns-in-Err-TooDeep : goal.returns-in-Err-TooDeep
returns-in-Err-TooDeep c = λ ds h. no_answer (seen c.args.tokens.now) ds _ h (rw c.in-Err-TooDeep.field-0-is at c.in-Err-TooDeep.ensures)
