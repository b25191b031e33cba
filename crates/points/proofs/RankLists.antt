-- The greatest rank of a set's paths, and the paths of at most that rank.
use Rattle.std.specs.Prelude.{◌≡◌, ◌<◌, ◌≤◌, ◌+◌, ◌↔◌, ◌⊎◌, ◌&&◌, ◌||◌, ℕ, true, false, not, nat_lt, List, length}
use Rattle.std.specs.Prelude.{slice_index, Option, Some, None}
use Rattle.std.specs.Bool.{Decides}
use Rattle.std.proofs.Common.{sym, ap, ◌∙◌, subst, arith, inl, inr}
use Rattle.std.proofs.lemmas.Bool.{cases_eq, and_parts, and_from, or_cases, or_left, or_right, not-true}
use Rattle.std.proofs.lemmas.Bool.{not_from_false, ltb-false, lt-ltb, le-ltb, false≢true}
use Rattle.locks.specs.declared.path_set.PathSet.{PathSet}
use Rattle.locks.specs.Sets.{has}
use Rattle.points.specs.Working.Ranks.{IsReached, IsWithin, IsGreatest, IsWantedBy}

module _ (ranks : List ℕ) (used : PathSet) where
  reached_before : (n j rank : ℕ) → j < n + 1 → (j ≡ n → ⊥) → has used j ≡ true → rank ≤ slice_index ranks j →
      IsReached ranks used n rank
  reached_before n j rank lt other is le = (j, below, is, le)
    where
      below : j < n
      below = omega (arith, lt, other)

  -- with a path more
  pub greatest_more : (n g : ℕ) (o : Option ℕ) → IsGreatest ranks used n o → has used n ≡ true →
      ((rank : ℕ) → (rank ≤ g) ↔ (IsWithin rank o ⊎ (rank ≤ slice_index ranks n))) →
      IsGreatest ranks used (n + 1) (Some g)
  greatest_more n g o was is more rank = (
    (λ le. elim ((more rank).0 le) [ inl w ↦ let h = (was rank).0 w in (h.0, omega (arith, h.1), h.2, h.3) | inr here ↦ (n, omega arith, is, here) ]),
    (λ h. elim (cases_eq h.0 n) [
      | inl same ↦ (more rank).1 (inr (subst (λ j. rank ≤ slice_index ranks j) same h.3))
      | inr other ↦ (more rank).1 (inl ((was rank).1 (reached_before n h.0 rank h.1 other h.2 h.3)))
    ]),
  )

  -- with a path that isn't in the set
  pub greatest_same : (n : ℕ) (o : Option ℕ) → IsGreatest ranks used n o → has used n ≡ false →
      IsGreatest ranks used (n + 1) o
  greatest_same n o was no_path rank = (
    (λ w. let h = (was rank).0 w in (h.0, omega (arith, h.1), h.2, h.3)),
    (λ h. elim (cases_eq h.0 n) [
      | inl same ↦ absurd (false≢true (sym no_path ∙ ap (has used) (sym same) ∙ h.2))
      | inr other ↦ (was rank).1 (reached_before n h.0 rank h.1 other h.2 h.3)
    ]),
  )

  pub wanted_some : (later scope up both either set : PathSet) (g : ℕ) → IsGreatest ranks used (length ranks) (Some g) →
      ((i : ℕ) → has up i ≡ (nat_lt i (length ranks) && not (nat_lt g (slice_index ranks i)))) → ((i : ℕ) → has both i ≡ (has up i && has scope i)) →
      ((i : ℕ) → has either i ≡ (has used i || has later i)) → ((i : ℕ) → has set i ≡ (has both i && has either i)) → (i : ℕ) → i < length ranks →
      Decides (has set i) (IsWantedBy ranks used later scope i)
  wanted_some later scope up both either set g greatest of_up of_both of_either of_set i lt =
      let r = slice_index ranks i in (
        (λ t.
            let a = and_parts (has both i) (has either i) (sym (of_set i) ∙ t) in
            let b = and_parts (has up i) (has scope i) (sym (of_both i) ∙ a.0) in
            let u = and_parts (nat_lt i (length ranks)) (not (nat_lt g r)) (sym (of_up i) ∙ b.0) in
            (b.1, or_cases (has used i) (has later i) (sym (of_either i) ∙ a.1), (greatest r).0 (ltb-false g r (not-true (nat_lt g r) u.1)))),
        (λ w.
            let le = (greatest r).1 w.2 in
            let u = of_up i ∙ and_from (nat_lt i (length ranks)) (not (nat_lt g r)) (lt-ltb i (length ranks) lt) (not_from_false (nat_lt g r) (le-ltb g r le)) in
            let b = of_both i ∙ and_from (has up i) (has scope i) u w.0 in
            let e = of_either i ∙ elim w.1 [ inl x ↦ or_left (has used i) (has later i) x | inr y ↦ or_right (has used i) (has later i) y ] in
            of_set i ∙ and_from (has both i) (has either i) b e),
      )

  pub wanted_none : (later scope empty : PathSet) → IsGreatest ranks used (length ranks) None →
      ((i : ℕ) → has empty i ≡ false) → (i : ℕ) → i < length ranks →
      Decides (has empty i) (IsWantedBy ranks used later scope i)
  wanted_none later scope empty greatest none i lt =
      ((λ t. absurd (false≢true (sym (none i) ∙ t))), (λ w. absurd ((greatest (slice_index ranks i)).1 w.2)))
