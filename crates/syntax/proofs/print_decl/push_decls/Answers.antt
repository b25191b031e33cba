use Rattle.std.proofs.Common.{refl, map}
use Rattle.syntax.specs.Views.{decl_of}
use Rattle.syntax.specs.Working.Printing.{many_text, decl_text}
use Rattle.syntax.proofs.Added.{at_first, item_added, all_added}
use Rattle.syntax.proofs.print_decl.push_decls.Goals as goal

pub decls-init : goal.decls-init
decls-init c = at_first _ _

pub decls-preserved : goal.decls-preserved
decls-preserved c =
    item_added (λ l. many_text decl_text (map decl_of l)) c.args.decls.now c.decls.decl-index c.decl-item.result c.decls-test.true c.decl-item.is refl c.decls.invariant (c.push_decl.ensures)

pub returns : goal.returns
returns c =
    all_added (λ l. many_text decl_text (map decl_of l)) c.args.decls.now c.decls.decl-index c.decls-test.false refl c.decls.invariant
