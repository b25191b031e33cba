use Rattle.std.proofs.Common.{◌≡◌, ◌∙◌, sym, ap, subst, below_more, arith}
use Rattle.std.proofs.lemmas.Option.{same_Some}
use Rattle.types_symbols.specs.Working.Views.{decls_of}
use Rattle.syntax.specs.Trees.{Pool, pool}
use Rattle.syntax.specs.Views.{decl_of, pool_of}
use Rattle.explanation_faults.specs.Working.Values.{IsWhole}
use Rattle.explanation_faults.proofs.MissingInits.{no_pool}
use Rattle.explanation_names.specs.Theory.Viewed.{viewed_at, within_view}
use Rattle.explanation_faults.proofs.missing_inits.gap_at.Goals as goal
use Rattle.explanation_faults.proofs.missing_inits.gap_at.Goals.{in-Pool+in_default-gap_of, in_default}

pub loop-place-preserved : goal.loop-place-preserved
loop-place-preserved c =
    let ds = c.args.symbols.now in
    let i = c.loop-place.place in
    let here = viewed_at decl_of ds _ i c.index-decls-place.result c.items-decls.ensures c.index-decls-place.is c.loop-place-test.true in
    below_more _ _ c.loop-place.invariant
    (λ p at.
    let same : pool p ≡ decl_of c.index-decls-place.result = same_Some (pool p) (decl_of c.index-decls-place.result) (sym at ∙ here) in
    elim c.match-decl.branch [
      | in-Pool+in_default-gap_of w ↦
          let e : pool p ≡ pool (pool_of w.in-Pool.pool) = same ∙ ap decl_of w.in-Pool.is in
          let f : p ≡ pool_of w.in-Pool.pool = cc in
          let whole = rw w.in_default-gap_of.is at w.gap_of.ensures in
          subst (λ (q : Pool). IsWhole (decls_of ds) i q c.args.at) (sym f) whole
      | in_default w ↦ absurd (no_pool c.index-decls-place.result w.in_default.not-Pool p (sym same))
    ])

pub returns : goal.returns
returns c place p at =
    let within = within_view decl_of c.args.symbols.now _ place (pool p) c.items-decls.ensures at in
    c.loop-place.invariant place (omega arith) p at
