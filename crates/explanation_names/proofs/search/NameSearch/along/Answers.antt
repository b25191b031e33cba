use Rattle.std.proofs.Common.{◌++◌, ◌∙◌, Bool, List, Option, drop, map, refl, sym, ap, ◌+◌}
use Rattle.std.specs.Option.{option_map}
use Rattle.syntax.specs.Trees.{Member}
use Rattle.syntax.specs.Views.{ident}
use Rattle.explanation_names.specs.Working.Found.{along, names_if, next}
use Rattle.explanation_names.specs.Working.Values.{decls_at, members_at}
use Rattle.explanation_names.proofs.Added.{all_added, at_first, item_then}
use Rattle.explanation_names.proofs.search.NameSearch.along.Goals as goal

pub loop-name-init : goal.loop-name-init
loop-name-init c = at_first _ _

pub loop-name-preserved : goal.loop-name-preserved
loop-name-preserved c =
    let r = c.args.role in
    let ds = decls_at c.args.self.now in
    let at = c.args.self.now.at in
    let names = c.args.names.now in
    let i = c.loop-name.name-index in
    let x = c.name-item.result in
    let o = option_map members_at c.loop-name.structure in
    let behind = map ident (drop (i + 1) names) in
    item_then (λ ns. along r ds at o (map ident ns)) (λ ns. along r ds at (option_map members_at c.next-structure.result) (map ident ns)) names i x c.loop-name-test.true c.name-item.is
    (ap (λ (b : Bool). names_if r b o ++ along r ds at (next ds o (ident x)) behind) (sym c.begins.ensures)
    ∙ ap (λ (p : Option (List Member)). names_if r c.begins.result o ++ along r ds at p behind) (sym c.next-structure.ensures))
    c.loop-name.invariant c.push_if.ensures

pub returns : goal.returns
returns c =
    all_added (λ ns. along c.args.role (decls_at c.args.self.now) c.args.self.now.at (option_map members_at c.loop-name.structure) (map ident ns))
    c.args.names.now c.loop-name.name-index c.loop-name-test.false refl c.loop-name.invariant
