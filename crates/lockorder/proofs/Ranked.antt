-- Ranks that are given class after class.
use Rattle.std.proofs.Common.{◌≡◌, ℕ, ◌+◌, ◌<◌, false, not, ◌||◌, List, [], ◌∷◌, ◌++◌, set, length, Some, inl, inr}
use Rattle.std.proofs.Common.{refl, sym, ap, ◌∙◌, subst, arith, length-append}
use Rattle.std.specs.Prelude.{◌≢◌, ◌==◌, slice_get}
use Rattle.std.specs.Bool.{Decides}
use Rattle.std.specs.List.{All, AllPairs, Contains}
use Rattle.std.proofs.Math.ListN.{length-set}
use Rattle.std.proofs.lemmas.Bool.{or_cases, or_left, or_right, both_ways, eqb-true, eq-eqb, cases_Bool, not-true}
use Rattle.std.proofs.lemmas.Bool.{not-false}
use Rattle.std.proofs.lemmas.Option.{none-some}
use Rattle.std.proofs.lemmas.List.Elements.{All-nil, All-push, Contains-append_left, Contains-push, Contains-push_cases}
use Rattle.bit_set.specs.declared.set.BitSet.{BitSet}
use Rattle.lockorder.specs.Ranks.{EachIsNext}
use Rattle.lockorder.specs.Working.Tables.{InSet, InTable, LeadsWithin, HasCycle, IsReadyIn, IsNextIn, AreRanksIn}
use Rattle.bit_set.specs.Working.Sets.{has_number}
use Rattle.lockorder.proofs.Lists.{no_more, no_fewer, distinct_push, found_below}
use Rattle.lockorder.proofs.Rising.{each_push, next_listed}
use Rattle.lockorder.proofs.Stuck.{cycle_of_stuck}
use Rattle.core_lang.specs.Theory.Items.{not_in_none, contains_at, pushed_at, set_same, still_other}

-- `count` classes are listed, each the next one after those before it, and their places are their ranks
pub record AreRanked (before : List BitSet) (listed : BitSet) (ranks : List ℕ) (count : ℕ) : Type 0 where
  pub list : List ℕ
  pub long : length list ≡ count
  pub size : length ranks ≡ length before
  pub same : (c : ℕ) → Decides (has_number listed c) (Contains list c)
  pub below : All (λ c. c < length before) list
  pub distinct : AllPairs ◌≢◌ list
  pub each : EachIsNext (InTable before) (length before) [] list
  pub places : (k c : ℕ) → slice_get list k ≡ Some c → slice_get ranks c ≡ Some k

pub none_ranked : (before : List BitSet) (listed : BitSet) (ranks : List ℕ) →
    ((c : ℕ) → has_number listed c ≡ false) → length ranks ≡ length before →
    AreRanked before listed ranks 0
none_ranked before listed ranks none size = record {
  list = [];
  long = refl;
  size = size;
  same = λ c. (λ e. absurd (both_ways (has_number listed c) (none c) e), λ h. absurd (not_in_none c h));
  below = All-nil (λ c. c < length before);
  distinct = λ i j d less h. absurd (omega arith);
  each = tt;
  places = λ k c e. absurd (none-some c e);
}

module _ (before : List BitSet) (listed : BitSet) (ranks : List ℕ) (count : ℕ) (r : AreRanked before listed ranks count) where
  -- one more class
  pub one_ranked : (c : ℕ) (more : BitSet) → ((d : ℕ) → has_number more d ≡ (has_number listed d || d == c)) →
      IsNextIn before listed c →
      AreRanked before more (set ranks c count) (count + 1)
  one_ranked c more with next =
      let new : Contains r.list c → ⊥ = λ h. next.ready.new ((r.same c).1 h) in
      record {
        list = r.list ++ c ∷ [];
        long = omega (arith, r.long, length-append r.list (c ∷ []));
        size = length-set ranks c count ∙ r.size;
        same = λ d. (
          λ e. elim (or_cases (has_number listed d) (d == c) (sym (with d) ∙ e)) [
            | inl old ↦ Contains-append_left r.list (c ∷ []) d ((r.same d).0 old)
            | inr is ↦ subst (Contains (r.list ++ c ∷ [])) (sym (eqb-true d c is)) (Contains-push r.list c)
          ],
          λ h. with d ∙ elim (Contains-push_cases r.list c d h) [
            | inl old ↦ or_left (has_number listed d) (d == c) ((r.same d).1 old)
            | inr is ↦ or_right (has_number listed d) (d == c) (eq-eqb d c (sym is))
          ],
        );
        below = All-push (λ x. x < length before) r.list c r.below next.ready.class;
        distinct = distinct_push r.list c r.distinct new;
        each = each_push (InTable before) (length before) [] r.list c r.each
            (next_listed (InTable before) (length before) (InSet listed) (Contains r.list) c (λ d. (r.same d).0) (λ d. (r.same d).1) next);
        places = λ k d e. elim (pushed_at r.list c k d e) [
          | inl old ↦ still_other ranks c d count k (λ same. new (contains_at r.list k c (old ∙ ap Some same))) (r.places k d old)
          | inr last ↦
              let at : count ≡ k = sym (last.0 ∙ r.long) in
              let there = set_same ranks c count (omega (arith, next.ready.class, r.size)) in
              subst (λ x. slice_get (set ranks c count) x ≡ Some k) last.1 (there ∙ ap Some at)
        ];
      }

  -- all classes
  pub all_ranked : count ≡ length before → AreRanksIn before ranks
  all_ranked e = record {
    list = r.list;
    is_list = record { each = r.each; all = λ c lt. there c lt };
    places = r.places;
    long = r.size;
  }
    where
      there : (c : ℕ) → c < length before → Contains r.list c
      there c lt =
          elim (cases_Bool (has_number listed c)) [
            | inl is_so ↦ (r.same c).0 is_so
            | inr not_so ↦
                let more = distinct_push r.list c r.distinct (λ h. both_ways (has_number listed c) not_so ((r.same c).1 h)) in
                let room = no_more (r.list ++ c ∷ []) (length before) more (All-push (λ x. x < length before) r.list c r.below lt) in
                absurd (omega (arith, room, e, r.long, length-append r.list (c ∷ [])))
          ]

  -- some class is not listed, and none is ready
  pub cycle_of_ranked : LeadsWithin before → count < length before → ((c : ℕ) → IsReadyIn before listed c → ⊥) →
      HasCycle before
  cycle_of_ranked within lt stuck =
      elim (found_below (λ c. not (has_number listed c)) (length before)) [
        | inl x ↦ cycle_of_stuck before listed within stuck x.0 x.1 (not-true (has_number listed x.0) x.2)
        | inr all ↦ absurd (omega (arith, lt, r.long, no_fewer r.list (length before) (λ q h. (r.same q).0 (not-false (has_number listed q) (all q h)))))
      ]
