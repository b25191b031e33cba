-- If no class is ready and not all are listed, edges lead from some class to itself.
use Rattle.std.proofs.Common.{◌≡◌, ℕ, zero, suc, ◌+◌, ◌<◌, Bool, false, not, ◌&&◌, List, [], ◌∷◌, length, inl, inr}
use Rattle.std.proofs.Common.{refl, sym, subst, arith}
use Rattle.std.specs.Prelude.{◌≢◌}
use Rattle.std.specs.List.{All, AllPairs, Contains}
use Rattle.std.proofs.lemmas.Bool.{and_parts, and_cases, both_ways, not-true, not-false}
use Rattle.std.proofs.lemmas.List.Elements.{All-cons, All-nil, All-contains}
use Rattle.flow.specs.Flow.{Plus, one, more}
use Rattle.bit_set.specs.declared.set.BitSet.{BitSet}
use Rattle.lockorder.specs.Working.Tables.{InSet, has_edge, InTable, LeadsWithin, HasCycle, IsReadyIn}
use Rattle.bit_set.specs.Working.Sets.{has_number}
use Rattle.lockorder.proofs.Lists.{among_or_not, no_more, distinct_cons, found_below}
use Rattle.core_lang.specs.Theory.Items.{not_in_none, in_cases}

module _ (before : List BitSet) (listed : BitSet) (within : LeadsWithin before) (stuck : (c : ℕ) → IsReadyIn before listed c → ⊥) where
  abbrev IsNew : ℕ → Type 0
  IsNew c = has_number listed c ≡ false

  -- the class `b` is not listed and has to come before `c`
  abbrev is_new_before : ℕ → ℕ → Bool
  is_new_before c b = has_edge before b c && not (has_number listed b)

  -- a class that is not listed has to come after another one
  new_before : (c : ℕ) → c < length before → IsNew c → (b : ℕ) × (b < length before) × InTable before b c × IsNew b
  new_before c lt new =
      elim (found_below (is_new_before c) (length before)) [
        | inl x ↦ let p = and_parts (has_edge before x.0 c) (not (has_number listed x.0)) x.2 in (x.0, x.1, p.0, not-true (has_number listed x.0) p.1)
        | inr none ↦ absurd (stuck c (record {
          class = lt;
          new = λ e. both_ways (has_number listed c) new e;
          listed_before = λ b e. is_listed b e (none b (within b c e));
        }))
      ]
    where
      is_listed : (b : ℕ) → InTable before b c → (has_edge before b c && not (has_number listed b)) ≡ false →
          InSet listed b
      is_listed b e h =
          elim (and_cases (has_edge before b c) (not (has_number listed b)) h) [
            | inl not_so ↦ absurd (both_ways (has_edge before b c) not_so e)
            | inr not_so ↦ not-false (has_number listed b) not_so
          ]

  -- distinct classes that aren't listed, the first of which leads to all others
  record IsTrail (c : ℕ) (cs : List ℕ) : Type 0 where
    new : IsNew c
    below : All (λ x. x < length before) (c ∷ cs)
    distinct : AllPairs ◌≢◌ (c ∷ cs)
    leads : (x : ℕ) → Contains cs x → Plus (InTable before) c x

  round : (b c : ℕ) (cs : List ℕ) → IsTrail c cs → InTable before b c → Contains (c ∷ cs) b → HasCycle before
  round b c cs t e there = (
    c,
    All-contains (λ x. x < length before) (c ∷ cs) c t.below (0, omega arith, refl),
    elim (in_cases c b cs there) [
      | inl same ↦ one (subst (λ x. InTable before x c) (sym same) e)
      | inr further ↦ then_edge (t.leads b further) e
    ],
  )
    where
      then_edge : {x y z : ℕ} → Plus (InTable before) x y → InTable before y z → Plus (InTable before) x z
      then_edge (one f) g = more f (one g)
      then_edge (more f p) g = more f (then_edge p g)

  longer : (b c : ℕ) (cs : List ℕ) → IsTrail c cs → b < length before → InTable before b c → IsNew b →
      (Contains (c ∷ cs) b → ⊥) → IsTrail b (c ∷ cs)
  longer b c cs t lt e new apart = record {
    new = new;
    below = All-cons (λ x. x < length before) b (c ∷ cs) lt t.below;
    distinct = distinct_cons b (c ∷ cs) t.distinct apart;
    leads = λ x h. elim (in_cases c x cs h) [
      | inl same ↦ one (subst (λ y. InTable before b y) same e)
      | inr further ↦ more e (t.leads x further)
    ];
  }

  -- the trail is extended backwards by at most `fuel` classes
  go_back : (fuel c : ℕ) (cs : List ℕ) → length cs + fuel ≡ length before → IsTrail c cs → HasCycle before
  go_back zero c cs e t = absurd (omega (arith, e, no_more (c ∷ cs) (length before) t.distinct t.below))
  go_back (suc fuel) c cs e t =
      let b = new_before c (All-contains (λ x. x < length before) (c ∷ cs) c t.below (0, omega arith, refl)) t.new in
      elim (among_or_not b.0 (c ∷ cs)) [
        | inl there ↦ round b.0 c cs t b.2 there
        | inr apart ↦ go_back fuel b.0 (c ∷ cs) (omega (arith, e)) (longer b.0 c cs t b.1 b.2 b.3 apart)
      ]

  pub cycle_of_stuck : (c : ℕ) → c < length before → IsNew c → HasCycle before
  cycle_of_stuck c lt new =
      go_back (length before) c [] (omega arith) (record {
        new = new;
        below = All-cons (λ x. x < length before) c [] lt (All-nil (λ x. x < length before));
        distinct = λ i j d less h. absurd (omega arith);
        leads = λ x h. absurd (not_in_none x h);
      })
