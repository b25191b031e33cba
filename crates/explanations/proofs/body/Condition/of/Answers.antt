use Rattle.std.proofs.Common.{◌≡◌, ◌∙◌, ◌++◌, ap}
use Rattle.std.specs.List.{list_any}
use Rattle.std.specs.Str.{bytes_eq}
use Rattle.syntax.specs.Trees.{Ident}
use Rattle.syntax.specs.Views.{expr_of}
use Rattle.explanations.specs.Names.{all_in}
use Rattle.explanations.specs.Working.Found.{is_named}
use Rattle.explanations.specs.Working.Judged.{cells_of}
use Rattle.explanations.specs.Working.Values.{idents}
use Rattle.explanations.proofs.Sets.{any_in_set, swapped}
use Rattle.explanations.proofs.body.Condition.of.Goals as goal

pub invariant_of-result : goal.invariant_of-result
invariant_of-result c =
    let program = c.args.program.now in
    let all = all_in (expr_of c.args.expr.now) in
    let pushed : idents c.push_expr.new.out.items ≡ all =
    c.in_ok-push_expr.ensures ∙ ap (λ xs. idents xs ++ all) c.new-names.ensures.items in
    record {
      names_are = λ q. c.in_ok-names.ensures q ∙ ap (list_any (λ (y : Ident). bytes_eq q y.text)) (ap idents c.deref-2.ensures.value ∙ pushed);
      cell =
          c.has_some-has_cell.ensures
          ∙ any_in_set (cells_of program) program.cells program.cells_are c.deref.result.now
          ∙ ap (list_any (is_named (cells_of program))) (ap idents c.deref.ensures.value ∙ pushed)
          ∙ swapped (cells_of program) all;
    }
