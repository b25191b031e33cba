use Rattle.std.proofs.Common.{refl, map}
use Rattle.syntax.specs.Views.{class_name_of}
use Rattle.syntax.specs.Working.Printing.{many_text, after_comma, class_name_text}
use Rattle.syntax.proofs.Added.{followed_by, at_first, item_added, all_added}
use Rattle.syntax.proofs.print_decl.push_more_classes.Goals as goal

pub classes-init : goal.classes-init
classes-init c = at_first _ _

pub classes-preserved : goal.classes-preserved
classes-preserved c =
    item_added (λ l. many_text (after_comma class_name_text) (map class_name_of l)) c.args.classes.now c.classes.class-index c.class-item.result c.classes-test.true c.class-item.is refl c.classes.invariant (followed_by c.push_str.ensures c.push_class.ensures)

pub returns : goal.returns
returns c =
    all_added (λ l. many_text (after_comma class_name_text) (map class_name_of l)) c.args.classes.now c.classes.class-index c.classes-test.false refl c.classes.invariant
