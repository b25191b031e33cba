use Rattle.std.proofs.Common.{ℕ, ◌+◌, Option, List, ◌∷◌, map, drop, sym, ap, ◌∙◌}
use Rattle.std.proofs.lemmas.List.{at_drop_more}
use Rattle.syntax.specs.declared.tree.Decl.{Decl}
use Rattle.syntax.specs.Views.{decl_of}
use Rattle.parser.specs.Working.Returning.{earlier, least_fault}
use Rattle.parser.proofs.Least.{earlier-assoc}
use Rattle.parser.proofs.returns.return_fault.Goals as goal

pub loop-decl-preserved : goal.loop-decl-preserved
loop-decl-preserved c =
    let ds = c.args.decls.now in
    let i = c.loop-decl.decl-index in
    let least = c.loop-decl.least in
    let rest = λ (l : List Decl). least_fault (map decl_of l) in
    let one = at_drop_more rest ds i c.decl-item.result c.loop-decl-test.true ∙ ap (λ (d : Decl). rest (d ∷ drop (i + 1) ds)) (sym c.decl-item.is) in
    ap (λ (o : Option ℕ). earlier o (rest (drop (i + 1) ds))) (c.earlier-least.ensures ∙ ap (earlier least) c.decl_fault.ensures)
    ∙ earlier-assoc least _ (rest (drop (i + 1) ds))
    ∙ ap (earlier least) (sym one)
    ∙ c.loop-decl.invariant
