use Rattle.std.proofs.Common.{sym, length}
use Rattle.std.proofs.Math.Seq.{set_out}
use Rattle.meaning.proofs.Found.{lies_past}
use Rattle.meaning.proofs.draft.clear.Goals as goal

pub returns-in_default : goal.returns-in_default
returns-in_default c =
    let marks = c.args.marks.now in
    sym (set_out marks.items c.args.cell _ (lies_past (length marks.items) _ c.args.cell marks.ok.0 c.in_default.ensures.variant.1))
