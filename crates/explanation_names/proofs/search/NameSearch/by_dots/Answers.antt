use Rattle.std.proofs.Common.{◌∙◌, map, refl, sym, ap}
use Rattle.std.specs.List.{flat_map}
use Rattle.syntax.specs.Views.{ident}
use Rattle.explanation_names.specs.Working.Found.{along_one, some_begin}
use Rattle.explanation_names.specs.Sought.{by_dots}
use Rattle.explanation_names.specs.Working.Values.{decls_at, locals_at, typed_seen}
use Rattle.explanation_names.proofs.Added.{all_added, at_first, item_added, nothing_added, one_use, spelled}
use Rattle.explanation_names.proofs.Meant.{none_along}
use Rattle.explanation_names.proofs.search.NameSearch.by_dots.Goals as goal

pub returns-then-not-some_begin : goal.returns-then-not-some_begin
returns-then-not-some_begin c =
    let s = c.args.self.now in
    let x = ident c.args.path.now.first in
    let fs = map ident c.args.path.now.fields.items in
    let never = ap (λ ns. some_begin s.at (map ident ns)) (sym c.deref.ensures.value) ∙ sym c.some_begin.ensures ∙ c.if-not-some_begin.true in
    one_use s (by_dots (locals_at s) x fs) (spelled (sym (none_along (decls_at s) s.at x fs (locals_at s) never)) (nothing_added c.args.found.now))

pub loop-local-init : goal.loop-local-init
loop-local-init c = at_first _ _

pub loop-local-preserved : goal.loop-local-preserved
loop-local-preserved c =
    let s = c.args.self.now in
    let p = c.args.path.now in
    item_added (λ xs. flat_map (along_one (decls_at s) s.at (ident p.first) (map ident p.fields.items)) (typed_seen xs)) s.locals.now c.loop-local.local-index c.local-item.result
    c.loop-local-test.true c.local-item.is refl c.loop-local.invariant c.behind_one.ensures

pub returns : goal.returns
returns c =
    let s = c.args.self.now in
    let p = c.args.path.now in
    one_use s (by_dots (locals_at s) (ident p.first) (map ident p.fields.items))
    (all_added (λ xs. flat_map (along_one (decls_at s) s.at (ident p.first) (map ident p.fields.items)) (typed_seen xs)) s.locals.now c.loop-local.local-index
    c.loop-local-test.false refl c.loop-local.invariant)
