use Rattle.std.proofs.Common.{ap, ◌∙◌, string_bytes, ◌≡◌}
use Rattle.std.proofs.lemmas.Result.{IfOk-weaker}
use Rattle.syntax.specs.Views.{tree_of}
use Rattle.syntax.specs.Working.Printing.{tree_text}
use Rattle.syntax.proofs.Added.{all_there}
use Rattle.syntax.proofs.Printed.{text_again}
use Rattle.syntax.proofs.print_whole.print_tree.Goals as goal

pub returns-clause-text : goal.returns-clause-text
returns-clause-text c =
    IfOk-weaker c.finish.result _ _ (λ text made. ap string_bytes made.1 ∙ all_there c.new-out.ensures (rw c.deref.ensures.value at c.push_decls.ensures) made.0) c.finish.ensures

pub returns-clause-same : goal.returns-clause-same
returns-clause-same c =
    IfOk-weaker c.finish.result _ _ (λ text made. let is : string_bytes text ≡ tree_text (tree_of c.args.tree.now) = ap string_bytes made.1 ∙ all_there c.new-out.ensures (rw c.deref.ensures.value at c.push_decls.ensures) made.0 in λ source ts h tree. rw is (text_again ts (tree_of c.args.tree.now) source h tree)) c.finish.ensures
