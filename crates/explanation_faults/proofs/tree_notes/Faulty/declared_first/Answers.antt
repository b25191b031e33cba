use Rattle.std.proofs.Common.{◌∙◌, ap, sym, subst, below_more, arith, List, map}
use Rattle.std.proofs.lemmas.Option.{same_Some}
use Rattle.syntax.specs.Trees.{Decl}
use Rattle.syntax.specs.declared.tree.Decl as the_decl
use Rattle.syntax.specs.Views.{decl_of}
use Rattle.explanation_names.specs.NameSpaces.{IsDeclaredIn, in_one, top_names}
use Rattle.explanation_faults.specs.Working.Values.{decls_of}
use Rattle.explanation_names.specs.Working.Values.{idents}
use Rattle.explanation_faults.proofs.Places.{at_has}
use Rattle.explanation_names.specs.Theory.Viewed.{viewed_at, within_view}
use Rattle.explanation_faults.proofs.Declared.{not_declared}
use Rattle.explanation_faults.proofs.tree_notes.Faulty.declared_first.Goals as goal

pub returns-in-Some-2 : goal.returns-in-Some-2
returns-in-Some-2 c =
    let same = ap idents c.deref-in-loop-decl.ensures.value ∙ c.in_ok-top.ensures ∙ ap (λ (l : List the_decl.Decl). top_names (map decl_of l)) c.items-decls.ensures in
    in_one (at_has (decls_of c.args.self.now) c.loop-decl.decl-index (decl_of c.decl-item.result)
    (viewed_at decl_of c.args.self.now.symbols.now _ c.loop-decl.decl-index c.decl-item.result c.items-decls.ensures c.decl-item.is c.loop-decl-test.true))
    (rw (c.in-Some-2.is, same) at c.in_ok-first.ensures)

pub loop-decl-preserved : goal.loop-decl-preserved
loop-decl-preserved c =
    let same = ap idents c.deref-in-loop-decl.ensures.value ∙ c.in_ok-top.ensures ∙ ap (λ (l : List the_decl.Decl). top_names (map decl_of l)) c.items-decls.ensures in
    below_more _ _ c.loop-decl.invariant
    (λ d at x is.
    let here = viewed_at decl_of c.args.self.now.symbols.now _ c.loop-decl.decl-index c.decl-item.result c.items-decls.ensures c.decl-item.is c.loop-decl-test.true in
    let none = rw (c.in_default-2.is, same) at c.in_ok-first.ensures in
    none x (subst (λ (e : Decl). IsDeclaredIn (top_names (decls_of c.args.self.now)) e c.args.self.now.at x) (same_Some d (decl_of c.decl-item.result) (sym at ∙ here)) is))

pub returns : goal.returns
returns c =
    not_declared (decls_of c.args.self.now) c.args.self.now.at
    (rw (c.deref.ensures.value, c.in_ok-top.ensures, c.items-decls.ensures) at c.in_default.ensures)
    (λ k d at x.
    let within = within_view decl_of c.args.self.now.symbols.now _ k d c.items-decls.ensures at in
    c.loop-decl.invariant k (omega arith) d at x)
