-- The pairs of a table, listed class by class.
use Rattle.std.proofs.Common.{◌≡◌, ℕ, ◌+◌, ◌<◌, ◌≤◌, true, false, List, [], ◌∷◌, ◌++◌, length, ◌⊎◌, inl, inr, refl}
use Rattle.std.proofs.Common.{ap, ◌∙◌, subst, arith}
use Rattle.std.specs.Prelude.{◌==◌}
use Rattle.std.specs.List.{All, AllPairs, Contains}
use Rattle.std.proofs.lemmas.Bool.{cases_lt, both_ways}
use Rattle.std.proofs.lemmas.Nat.Bits.{bit_at-zero}
use Rattle.std.proofs.lemmas.List.{get_or_past}
use Rattle.std.proofs.lemmas.List.Elements.{All-append, All-cons, Contains-append_left, Contains-append_right}
use Rattle.std.proofs.lemmas.List.Quantifiers.{all_pairs_push}
use Rattle.bit_set.specs.declared.set.BitSet.{BitSet}
use Rattle.lockorder.specs.ClassPairs.{Precedes}
use Rattle.lockorder.specs.Working.Tables.{no_classes, InTable, LeadsWithin, has_edge}
use Rattle.bit_set.specs.Working.Sets.{has_number}
use Rattle.lockorder.specs.Working.Tellings.{ArePairsOf}
use Rattle.core_lang.specs.Theory.Items.{in_first}

-- the pairs of the table that precede the pair (from, to)
pub record AreListed (before : List BitSet) (from to : ℕ) (pairs : List (ℕ × ℕ)) : Type 0 where
  pub true : All (λ (pair : ℕ × ℕ). InTable before pair.0 pair.1) pairs
  pub rising : AllPairs Precedes pairs
  pub below : All (λ (pair : ℕ × ℕ). Precedes pair (from, to)) pairs
  pub all : (c d : ℕ) → InTable before c d → d < length before → Precedes (c, d) (from, to) → Contains pairs (c, d)

module _ (before : List BitSet) where
  pub none_listed : AreListed before 0 0 []
  none_listed = record {
    true = λ k d lt. absurd (omega arith);
    rising = λ i j d lt within. absurd (omega arith);
    below = λ k d lt. absurd (omega arith);
    all = λ c d e lt p. absurd (elim p [ inl less ↦ omega arith | inr same ↦ omega (arith, same.1) ]);
  }

  one_on : (from to c d : ℕ) → Precedes (c, d) (from, to + 1) → Precedes (c, d) (from, to) ⊎ ((c ≡ from) × (d ≡ to))
  one_on from to c d (inl less) = inl (inl less)
  one_on from to c d (inr (same, lt)) = elim (cases_lt d to) [ inl less ↦ inl (inr (same, less)) | inr ge ↦ inr (same, omega arith) ]

  more : (from to : ℕ) (pair : ℕ × ℕ) → Precedes pair (from, to) → Precedes pair (from, to + 1)
  more from to pair (inl less) = inl less
  more from to pair (inr (same, lt)) = inr (same, omega (arith, lt))

  pub listed_more : (from to : ℕ) (pairs : List (ℕ × ℕ)) → AreListed before from to pairs →
      has_edge before from to ≡ true → AreListed before from (to + 1) (pairs ++ (from, to) ∷ [])
  listed_more from to pairs l e = record {
    true = All-append (λ (pair : ℕ × ℕ). InTable before pair.0 pair.1) pairs ((from, to) ∷ []) l.true
        (All-cons (λ (pair : ℕ × ℕ). InTable before pair.0 pair.1) (from, to) [] e (λ k d lt. absurd (omega arith)));
    rising = all_pairs_push Precedes pairs (from, to) l.rising (λ k d lt. l.below k d lt);
    below = All-append (λ (pair : ℕ × ℕ). Precedes pair (from, to + 1)) pairs ((from, to) ∷ []) (λ k d lt. more from to _ (l.below k d lt))
        (All-cons (λ (pair : ℕ × ℕ). Precedes pair (from, to + 1)) (from, to) [] (inr (refl, omega arith)) (λ k d lt. absurd (omega arith)));
    all = λ c d h lt p. elim (one_on from to c d p) [
      | inl old ↦ Contains-append_left pairs ((from, to) ∷ []) (c, d) (l.all c d h lt old)
      | inr new ↦ subst (λ (x : ℕ × ℕ). Contains (pairs ++ (from, to) ∷ []) x) (let a = new.0 in let b = new.1 in cc) (Contains-append_right pairs ((from, to) ∷ []) (from, to) (in_first (from, to) []))
    ];
  }

  pub listed_same : (from to : ℕ) (pairs : List (ℕ × ℕ)) → AreListed before from to pairs →
      has_edge before from to ≡ false → AreListed before from (to + 1) pairs
  listed_same from to pairs l e = record {
    true = l.true;
    rising = l.rising;
    below = λ k d lt. more from to _ (l.below k d lt);
    all = λ c d h lt p. elim (one_on from to c d p) [
      | inl old ↦ l.all c d h lt old
      | inr new ↦ absurd (both_ways (has_edge before from to) e (subst (λ n. InTable before from n) new.1 (subst (λ n. InTable before n d) new.0 h)))
    ];
  }

  pub next_row : (from : ℕ) (pairs : List (ℕ × ℕ)) (to : ℕ) → length before ≤ to → AreListed before from to pairs →
      AreListed before (from + 1) 0 pairs
  next_row from pairs to past l = record {
    true = l.true;
    rising = l.rising;
    below = λ k d lt. elim (l.below k d lt) [ inl less ↦ inl (omega arith) | inr same ↦ inl (omega (arith, same.0)) ];
    all = λ c d h lt p. l.all c d h lt (elim p [
      | inl less ↦ elim (cases_lt c from) [ inl low ↦ inl low | inr ge ↦ inr (omega arith, omega arith) ]
      | inr same ↦ absurd (omega (arith, same.1))
    ]);
  }

  -- edges lead only to classes of the table
  within : (c d : ℕ) → InTable before c d → d < length before
  within c d e = elim (cases_lt d (length before)) [
    | inl lt ↦ lt
    | inr ge ↦ absurd (both_ways (has_edge before c d) (ap (λ (s : BitSet). has_number s c) (get_or_past before d no_classes ge) ∙ ap (λ x. x == 1) (bit_at-zero c)) e)
  ]

  pub all_listed : (from : ℕ) (pairs : List (ℕ × ℕ)) → length before ≤ from → LeadsWithin before →
      AreListed before from 0 pairs → ArePairsOf before pairs
  all_listed from pairs past leads l = record {
    true = l.true;
    rising = l.rising;
    all = λ c d e. let low = leads c d e in l.all c d e (within c d e) (inl (omega arith));
  }
