use Rattle.std.proofs.Common.{sym, subst}
use Rattle.code.specs.Needs.{operand_need}
use Rattle.code.specs.Alone.{Behaves}
use Rattle.code.specs.Lowering.{lists_at}
use Rattle.lowering.proofs.laws.codes_behave.Goals as goal

pub returns : goal.returns
returns c program lists code k section made well is here there =
    subst (λ instructions. Behaves program section instructions (operand_need section)) (sym (is.each k section made here there).instructions)
    (c.sections_behave.ensures program section (lists_at lists k) well (k, here))
