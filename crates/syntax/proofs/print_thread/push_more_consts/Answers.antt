use Rattle.std.proofs.Common.{refl, map}
use Rattle.syntax.specs.Views.{const_of}
use Rattle.syntax.specs.Working.Printing.{many_text, after_comma, const_text}
use Rattle.syntax.proofs.Added.{followed_by, at_first, item_added, all_added}
use Rattle.syntax.proofs.print_thread.push_more_consts.Goals as goal

pub consts-init : goal.consts-init
consts-init c = at_first _ _

pub consts-preserved : goal.consts-preserved
consts-preserved c =
    item_added (λ l. many_text (after_comma const_text) (map const_of l)) c.args.consts.now c.consts.value-index c.value-item.result c.consts-test.true c.value-item.is refl c.consts.invariant (followed_by c.push_str.ensures c.push_const.ensures)

pub returns : goal.returns
returns c =
    all_added (λ l. many_text (after_comma const_text) (map const_of l)) c.args.consts.now c.consts.value-index c.consts-test.false refl c.consts.invariant
