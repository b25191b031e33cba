use Rattle.std.proofs.Common.{◌≡◌, ◌∙◌, ◌==◌, true, List, [], ◌∷◌, length, refl, sym, subst, arith}
use Rattle.std.proofs.lemmas.Bool.{eqb-true}
use Rattle.input_files.specs.declared.item.Item.{Item}
use Rattle.interleavings.specs.Threads.{at_opening}
use Rattle.interleavings.specs.Working.Found.{RunsItems}
use Rattle.interleavings.proofs.Finding.{runs_none, run_made}
use Rattle.interleavings.proofs.items.Finder.run_from_opening.Goals as goal

none_there : (items : List Item) → (length items == 0) ≡ true → items ≡ []
none_there [] is = refl
none_there (x ∷ xs) is = let none : length (x ∷ xs) ≡ 0 = eqb-true (length (x ∷ xs)) 0 is in absurd (omega (arith, none))

pub returns-then-is_empty-clause-ok : goal.returns-then-is_empty-clause-ok
returns-then-is_empty-clause-ok c =
    let opened = at_opening c.args.program.now in
    let none : c.args.items.now ≡ [] = none_there c.args.items.now (sym c.is_empty.ensures ∙ c.if-is_empty.true) in
    (opened, subst (λ (l : List Item). RunsItems l c.args.self.now opened c.args.self.now opened) (sym none) (runs_none c.args.self.now opened))

pub returns-clause-ok : goal.returns-clause-ok
returns-clause-ok c =
    run_made c.args.program.now c.args.items.now c.args.self.now c.run.new.self c.in_ok-world.world c.run.new.world c.in_ok-world.ensures
    c.run.result c.run.ensures.ok
