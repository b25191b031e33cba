use Rattle.std.proofs.Common.{◌≡◌, ◌∙◌, true, false, refl, sym, ap, subst, below_more, arith}
use Rattle.std.proofs.lemmas.Option.{same_Some}
use Rattle.syntax.specs.Trees.{Section}
use Rattle.syntax.specs.Views.{decl_of}
use Rattle.explanation_names.specs.MissingReturns.{body_of, LacksReturn}
use Rattle.explanation_names.specs.Working.Viewed.{section_at}
use Rattle.explanation_names.proofs.Ends.{no_section}
use Rattle.explanation_names.specs.Theory.Viewed.{viewed_at, within_view}
use Rattle.explanation_names.proofs.missing_returns.lacking.Goals as goal
use Rattle.explanation_names.proofs.missing_returns.lacking.Goals.{in-Some+else-lacks_return, in_default}

pub loop-decl-preserved : goal.loop-decl-preserved
loop-decl-preserved c =
    let k = c.loop-decl.decl-index in
    let ds = c.args.decls.now in
    let here = viewed_at decl_of ds ds k c.decl-item.result refl c.decl-item.is c.loop-decl-test.true in
    below_more _ _ c.loop-decl.invariant
    (λ d at s is lacks.
    let same : d ≡ decl_of c.decl-item.result = same_Some d (decl_of c.decl-item.result) (sym at ∙ here) in
    let body = ap body_of (sym same) ∙ is in
    elim c.match-body_of.branch [
      | in-Some+else-lacks_return w ↦
          let this : section_at w.in-Some.section ≡ s = same_Some (section_at w.in-Some.section) s (w.in-Some.ensures ∙ body) in
          let e : false ≡ true = w.if-lacks_return.ensures.1 (subst (λ (x : Section). LacksReturn x c.args.at) (sym this) lacks) in
          absurd cc
      | in_default w ↦ absurd (no_section c.body_of.result (body_of (decl_of c.decl-item.result)) s c.body_of.ensures w.in_default.is body)
    ])

pub returns : goal.returns
returns c x is =
    let within = within_view decl_of c.args.decls.now c.args.decls.now is.place is.decl refl is.listed in
    c.loop-decl.invariant is.place (omega arith) is.decl is.listed is.section is.body is.lacks
