use Rattle.std.proofs.Common.{◌≡◌, ◌∙◌, List, map, take, Some, refl, sym, ap, subst, below_more, arith}
use Rattle.std.proofs.lemmas.List.{take-map}
use Rattle.std.proofs.lemmas.Option.{same_Some}
use Rattle.syntax.specs.declared.tree.Decl as the_decl
use Rattle.syntax.specs.Trees.{Decl, Init, init}
use Rattle.syntax.specs.Views.{decl_of, init_of}
use Rattle.explanation_faults.specs.Inits.{IsFirstGiver}
use Rattle.explanation_faults.proofs.FirstInits.{no_init}
use Rattle.explanation_names.specs.Theory.Viewed.{viewed_at, within_view}
use Rattle.explanation_faults.proofs.first_inits.first_given.Goals as goal
use Rattle.explanation_faults.proofs.first_inits.first_given.Goals.{in-Init+then-init-at+in_default-first_giver}
use Rattle.explanation_faults.proofs.first_inits.first_given.Goals.{in-Init+else-init-at, in_default}

pub returns-in-Some : goal.returns-in-Some
returns-in-Some c =
    let i = c.loop-i.i in
    let ds = c.args.decls.now in
    record {
      place = i;
      later = init_of c.in-Init.init;
      listed = viewed_at decl_of ds ds i c.index-decls-i.result refl c.index-decls-i.is c.loop-i-test.true ∙ ap (λ (d : the_decl.Decl). Some (decl_of d)) c.in-Init.is;
      starts = c.if-init-at.true;
      giver = subst (λ (l : List Decl). IsFirstGiver l (init_of c.in-Init.init) (init_of c.in-Some.first.now)) (sym (take-map decl_of i ds)) c.in-Some.ensures;
    }

pub loop-i-preserved : goal.loop-i-preserved
loop-i-preserved c =
    let i = c.loop-i.i in
    let ds = c.args.decls.now in
    let here = viewed_at decl_of ds ds i c.index-decls-i.result refl c.index-decls-i.is c.loop-i-test.true in
    below_more _ _ c.loop-i.invariant
    (λ j at starts first is.
    let same : init j ≡ decl_of c.index-decls-i.result = same_Some (init j) (decl_of c.index-decls-i.result) (sym at ∙ here) in
    elim c.match-decl.branch [
      | in-Init+then-init-at+in_default-first_giver w ↦
          let e : init j ≡ init (init_of w.in-Init.init) = same ∙ ap decl_of w.in-Init.is in
          let f : j ≡ init_of w.in-Init.init = cc in
          let none = rw w.in_default-first_giver.is at w.first_giver.ensures in
          none first (subst (λ (l : List Decl). IsFirstGiver l (init_of w.in-Init.init) first) (take-map decl_of i ds)
          (subst (λ (x : Init). IsFirstGiver (take i (map decl_of ds)) x first) f is))
      | in-Init+else-init-at w ↦
          let e : init j ≡ init (init_of w.in-Init.init) = same ∙ ap decl_of w.in-Init.is in
          let f : j ≡ init_of w.in-Init.init = cc in
          absurd (w.if-init-at.false (ap (λ (x : Init). x.start.start) (sym f) ∙ starts))
      | in_default w ↦ absurd (no_init c.index-decls-i.result w.in_default.not-Init j (sym same))
    ])

pub returns : goal.returns
returns c i is =
    let within = within_view decl_of c.args.decls.now c.args.decls.now is.place (init is.later) refl is.listed in
    c.loop-i.invariant is.place (omega arith) is.later is.listed is.starts i is.giver
