use Rattle.std.proofs.Common.{◌≡◌, ◌<◌, ℕ, List, length, replicate, None, Option, inl, inr, sym, ap, ◌∙◌, subst, refl, rules, arith}
use Rattle.std.proofs.lemmas.Bool.{cases_lt}
use Rattle.std.proofs.lemmas.List.{length-map, nil_from_length}
use Rattle.core_lang_helpers.specs.declared.graph.CallerBody as code
use Rattle.core_lang_helpers.specs.declared.extents.Extent.{Extent}
use Rattle.core_lang_helpers.specs.Graphs.{body_of, bodies_of}
use Rattle.core_lang_helpers.specs.Recursion.{calls}
use Rattle.core_lang_helpers.specs.Working.Tables.{Has, row_at, IsExtents}
use Rattle.core_lang_helpers.specs.Working.Knowledge.{AreSettling, PendsBy, Pends}
use Rattle.core_lang_helpers.proofs.Closing.{first_there}
use Rattle.core_lang_helpers.proofs.Having.{has_last, row_read, none_match}
use Rattle.core_lang_helpers.proofs.Settled.{settling_none, settling_rest, pends_on, pends_popped, past_settled, all_settled}
use Rattle.core_lang_helpers.proofs.settling.Extents.new.Goals as goal

pub loop-helper-init : goal.loop-helper-init
loop-helper-init c =
    let hs = c.args.callers.now.helpers.now in
    let n = length hs in
    let table : c.in_ok-vec.field-0.items ≡ replicate n None = c.in_ok-vec.ensures.items_if_clones_equal (λ y e. search rules) in
    let passed : c.in_ok-vec-2.field-0.items ≡ replicate n 0 = c.in_ok-vec-2.ensures.items_if_clones_equal (λ y e. e) in
    record {
      same = refl;
      settling = subst (λ (t : List (Option Extent)). AreSettling (bodies_of hs) t c.in_ok-vec-2.field-0.items c.new.result.items) (sym table)
          (subst (λ (p : List ℕ). AreSettling (bodies_of hs) (replicate n None) p c.new.result.items) (sym passed)
          (subst (λ (r : List ℕ). AreSettling (bodies_of hs) (replicate n None) (replicate n 0) r) (sym c.new.ensures.items)
          (settling_none (bodies_of hs) n (sym (length-map hs body_of)))));
      pend = λ f lt. absurd (omega (arith, lt));
    }

pub loop-helper-preserved : goal.loop-helper-preserved
loop-helper-preserved c =
    let old = c.loop-helper.settling in
    let new = c.settle.new.self in
    let i = c.loop-helper.helper in
    let done = c.in_ok-settle.ensures.settles in
    record {
      same = done.same ∙ c.loop-helper.invariant.same;
      settling = c.in_ok-settle.ensures.settling;
      pend = λ f lt. elim (cases_lt f i) [
        | inl less ↦
            subst (λ (hs : List code.CallerBody). PendsBy (bodies_of hs) new.table.items new.ready.items f) (sym done.same)
            (pends_on (bodies_of old.helpers.now) old.table.items new.table.items old.ready.items new.ready.items f done.settle (c.loop-helper.invariant.pend f less))
        | inr ge ↦ subst (Pends new) (let e : i ≡ f = omega (arith, lt, ge) in e) c.in_ok-settle.ensures.pends
      ];
    }

pub loop-helper-2-init : goal.loop-helper-2-init
loop-helper-2-init c =
    let s = c.loop-helper.settling in
    let so = c.loop-helper.invariant in
    record {
      same = so.same;
      settling = so.settling;
      pend = λ f. elim (cases_lt f c.loop-helper.helper) [
        | inl less ↦ so.pend f less
        | inr ge ↦
            past_settled (bodies_of s.helpers.now) s.table.items s.passed.items s.ready.items f so.settling
            (omega (arith, ge, c.loop-helper-test.false, length-map s.helpers.now body_of, ap (λ (l : List code.CallerBody). length l) so.same))
      ];
    }

pub index-requires : goal.index-requires
index-requires c =
    let s = c.loop-helper-2.settling in
    let so = c.loop-helper-2.invariant in
    let h = c.in-Some.helper in
    let there = so.settling.within h (subst (λ (l : List ℕ). Has l h) (sym c.in-Some.ensures.items) (has_last c.pop.new.self.items h)) in
    omega (
      arith,
      there,
      length-map s.helpers.now body_of,
      length-map c.args.callers.now.helpers.now body_of,
      ap (λ (l : List code.CallerBody). length l) so.same,
      c.requires.long,
      c.args.callers.now.rows.ok.0,
    )

pub settle_all-requires-clause-settling : goal.settle_all-requires-clause-settling
settle_all-requires-clause-settling c =
    let s = c.loop-helper-2.settling in
    settling_rest (bodies_of s.helpers.now) s.table.items s.passed.items s.ready.items c.pop.new.self.items c.in-Some.helper c.loop-helper-2.invariant.settling c.in-Some.ensures.items

pub settle_all-requires-clause-there : goal.settle_all-requires-clause-there
settle_all-requires-clause-there c = λ f has.
    let callers = c.args.callers.now in
    let s = c.loop-helper-2.settling in
    let so = c.loop-helper-2.invariant in
    let h = c.in-Some.helper in
    let there = so.settling.within h (subst (λ (l : List ℕ). Has l h) (sym c.in-Some.ensures.items) (has_last c.pop.new.self.items h)) in
    let same = ap (λ (l : List code.CallerBody). length l) so.same in
    let lt : h < length callers.rows.items = omega (arith, there, length-map s.helpers.now body_of, length-map callers.helpers.now body_of, same, c.requires.long) in
    let row : c.deref.result.now ≡ row_at callers.rows.items h = c.deref.ensures.value ∙ sym (row_read callers.rows.items h c.index.result.now lt c.index.ensures) in
    let called = c.requires.calls f h (subst (λ (l : List ℕ). Has l f) row has) in
    omega (arith, first_there (bodies_of callers.helpers.now) f h (calls called), length-map callers.helpers.now body_of, same)

pub loop-helper-2-preserved : goal.loop-helper-2-preserved
loop-helper-2-preserved c =
    let callers = c.args.callers.now in
    let s = c.loop-helper-2.settling in
    let new = c.settle_all.new.self in
    let so = c.loop-helper-2.invariant in
    let h = c.in-Some.helper in
    let there = so.settling.within h (subst (λ (l : List ℕ). Has l h) (sym c.in-Some.ensures.items) (has_last c.pop.new.self.items h)) in
    let same = ap (λ (l : List code.CallerBody). length l) so.same in
    let lt : h < length callers.rows.items = omega (arith, there, length-map s.helpers.now body_of, length-map callers.helpers.now body_of, same, c.requires.long) in
    let row : c.deref.result.now ≡ row_at callers.rows.items h = c.deref.ensures.value ∙ sym (row_read callers.rows.items h c.index.result.now lt c.index.ensures) in
    let done = c.in_ok-settle_all.ensures.settles in
    let all_same : new.helpers.now ≡ callers.helpers.now = done.same ∙ so.same in
    record {
      same = all_same;
      settling = c.in_ok-settle_all.ensures.settling;
      pend = λ f. subst (λ (hs : List code.CallerBody). PendsBy (bodies_of hs) new.table.items new.ready.items f) (sym all_same)
          (pends_popped (bodies_of callers.helpers.now) callers.rows.items (length callers.helpers.now) s.table.items new.table.items s.ready.items c.pop.new.self.items new.ready.items h f
          c.requires (sym (length-map callers.helpers.now body_of)) lt c.in-Some.ensures.items done.settle
          (λ x has. subst (λ (hs : List code.CallerBody). PendsBy (bodies_of hs) new.table.items new.ready.items x) all_same
          (c.in_ok-settle_all.ensures.pend x (subst (λ (l : List ℕ). Has l x) (sym row) has)))
          (subst (λ (hs : List code.CallerBody). PendsBy (bodies_of hs) s.table.items s.ready.items f) so.same (so.pend f)));
    }

pub returns : goal.returns
returns c =
    let s = c.loop-helper-2.settling in
    let so = c.loop-helper-2.invariant in
    let none = none_match c.pop.result _ _ c.in_default.not-Some c.pop.ensures.cases in
    subst (λ (hs : List code.CallerBody). IsExtents (bodies_of hs) s.table.items) so.same
    (all_settled (bodies_of s.helpers.now) s.table.items s.passed.items s.ready.items so.settling (nil_from_length s.ready.items (omega (arith, none.0, s.ready.ok.0))) so.pend)
