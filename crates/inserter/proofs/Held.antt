-- Membership of a lock in a list is decidable; and lists without repetitions.
use Rattle.std.proofs.Common.{◌≡◌, ℕ, suc, ◌<◌, List, [], ◌∷◌, ◌++◌, length, get_or, ◌⊎◌, inl, inr, sym, ap, ◌∙◌, arith}
use Rattle.std.specs.Prelude.{◌≢◌}
use Rattle.std.specs.List.{AllPairs, Contains}
use Rattle.std.proofs.lemmas.Bool.{cases_eq}
use Rattle.std.proofs.lemmas.Option.{slice_get-get_or, get_or_from_slice_get}
use Rattle.std.proofs.lemmas.List.Kept.{AllPairs-cons}
use Rattle.std.proofs.lemmas.List.Quantifiers.{all_pairs_push}
use Rattle.locks.specs.declared.lock.Lock.{Lock}
use Rattle.core_lang.specs.Theory.Items.{in_cases, in_rest, not_in_none}

same_or_not : (a b : Lock) → (a ≡ b) ⊎ (a ≢ b)
same_or_not a b =
    elim (cases_eq a.class b.class) [
      | inr n ↦ inr (λ e. n (ap (λ (x : Lock). x.class) e))
      | inl c ↦ elim (cases_eq a.object b.object) [
        | inr n ↦ inr (λ e. n (ap (λ (x : Lock). x.object) e))
        | inl o ↦ inl (λ i. record { class = c i; object = o i })
      ]
    ]

pub held_or_not : (held : List Lock) (l : Lock) → Contains held l ⊎ (Contains held l → ⊥)
held_or_not [] l = inr (not_in_none l)
held_or_not (h ∷ held) l =
    elim (same_or_not h l) [
      | inl e ↦ inl (0, omega arith, e)
      | inr n ↦ elim (held_or_not held l) [
        | inl c ↦ inl (in_rest h l held c)
        | inr none ↦ inr (λ c. elim (in_cases h l held c) [ inl e ↦ n e | inr d ↦ none d ])
      ]
    ]

-- ---- none twice

at_contains : {X : Type 0} (xs : List X) (k : ℕ) (d x : X) → k < length xs → get_or xs k d ≡ x → Contains xs x
at_contains xs k d x lt e = (k, lt, get_or_from_slice_get xs k (get_or xs k d) x (slice_get-get_or xs k d lt) ∙ e)

pub distinct_push : {X : Type 0} (xs : List X) (y : X) → AllPairs ◌≢◌ xs → (Contains xs y → ⊥) →
    AllPairs ◌≢◌ (xs ++ y ∷ [])
distinct_push xs y d new = all_pairs_push ◌≢◌ xs y d (λ k z lt e. new (at_contains xs k z y lt e))

pub distinct_cons : {X : Type 0} (x : X) (xs : List X) → AllPairs ◌≢◌ xs → (Contains xs x → ⊥) → AllPairs ◌≢◌ (x ∷ xs)
distinct_cons x xs d new = AllPairs-cons ◌≢◌ x xs (λ k z lt e. new (at_contains xs k z x lt (sym e))) d

pub distinct_rest : {X : Type 0} (x : X) (xs : List X) → AllPairs ◌≢◌ (x ∷ xs) → AllPairs ◌≢◌ xs
distinct_rest x xs d i j z lt b = d (suc i) (suc j) z (omega (arith, lt)) (omega (arith, b))
