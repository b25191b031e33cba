use Rattle.std.proofs.Common.{◌≡◌, ◌∙◌, ◌<◌, ℕ, length, Some, refl, sym, ap, subst, arith}
use Rattle.std.specs.Prelude.{slice_get}
use Rattle.std.proofs.lemmas.Option.{slice_get_read}
use Rattle.core_lang.specs.declared.tree.Section.{Section}
use Rattle.core_lang.specs.declared.typed.Typed.{Typed}
use Rattle.code.specs.declared.places.SectionPlaces.{SectionPlaces}
use Rattle.code.specs.Working.Places.{PlacesOf}
use Rattle.report_runs.proofs.Tables.{each_more}
use Rattle.report_runs.proofs.step_teller.all_places.Goals as goal

pub loop-k-preserved : goal.loop-k-preserved
loop-k-preserved c =
    let text = c.args.text.now in
    let program = c.expanded-typed.result.now in
    let sections = program.sections.items in
    let section = c.index.result.now in
    let k = c.loop-k.k in
    let new = c.in_ok-of.field-0 in
    let Are = λ (j : ℕ) (s : Section) (h : SectionPlaces). PlacesOf text s h in
    let lt : k < length sections = omega (arith, c.loop-k-test.true, c.len-k-end.ensures, program.sections.ok.0) in
    let at : slice_get sections k ≡ Some section =
    slice_get_read sections (length sections) k section refl lt c.index.ensures in
    let here : Are k section new = subst (λ t. PlacesOf t section new) c.loop-k.invariant.same c.in_ok-of.ensures.made in
    record {
      same = c.of.ensures.same ∙ c.loop-k.invariant.same;
      long =
          omega (arith, c.in_ok-push.ensures.len, c.loop-k.invariant.long, c.loop-k.places.ok.0, c.push.new.self.ok.0);
      each = λ j s h one two.
          each_more Are sections c.loop-k.places.items section new
          (ap (slice_get sections) c.loop-k.invariant.long ∙ at)
          (subst (λ n. Are n section new) (sym c.loop-k.invariant.long) here) c.loop-k.invariant.each j s h one
          (subst (λ l. slice_get l j ≡ Some h) c.in_ok-push.ensures.items two);
    }

pub returns : goal.returns
returns c =
    let program = c.expanded-typed.result.now in
    let is = c.expanded-typed.ensures.program in
    let long : length c.loop-k.places.items ≡ length program.sections.items =
    omega (
      arith,
      c.loop-k.invariant.long,
      c.loop-k-test.false,
      c.loop-k.auto.k-end,
      c.len-k-end.ensures,
      program.sections.ok.0,
    ) in
    record {
      long = long ∙ ap (λ (p : Typed). length p.sections.items) is;
      each = λ j s h one two.
          c.loop-k.invariant.each j s h (subst (λ (p : Typed). slice_get p.sections.items j ≡ Some s) (sym is) one) two;
    }
