-- The bits of sets, one at a time.
use Rattle.std.proofs.Common.{◌≡◌, ℕ, ◌^◌, ◌<◌, true, false, not, ◌&&◌, inl, inr, sym, ap, ◌∙◌, arith, w64}
use Rattle.std.specs.Prelude.{◌==◌}
use Rattle.std.specs.Int.{bit_at, trailing_zeros}
use Rattle.std.specs.Bool.{Decides}
use Rattle.std.proofs.lemmas.Nat.Bits.{bit_at-zero, bit_at-trailing_zeros}
use Rattle.std.proofs.lemmas.Bool.{cases_lt, and_parts, and_from, eq-eqb, ne_eqb, both_ways, not-true, not_from_false}
use Rattle.locks.specs.declared.path_set.PathSet.{PathSet}
use Rattle.locks.specs.Sets.{has}
use Rattle.lockorder.specs.Working.Sections.{Share}

-- a set that isn't empty has a path
pub has_some : (s : PathSet) → 0 < s.bits → s.bits < 2 ^ 64 → (i : ℕ) × (has s i ≡ true)
has_some s some fits =
    let z = bit_at-trailing_zeros w64 s.bits some fits in
    (trailing_zeros w64 s.bits, eq-eqb (bit_at s.bits (trailing_zeros w64 s.bits)) 1 z.1)

pub has_none : (s : PathSet) (i : ℕ) → s.bits ≡ 0 → has s i ≡ false
has_none s i e = let z : bit_at s.bits i ≡ 0 = ap (λ n. bit_at n i) e ∙ bit_at-zero i in ap (λ x. x == 1) z

pub share_decides : (a b m : PathSet) → ((i : ℕ) → has m i ≡ (has a i && has b i)) → m.bits < 2 ^ 64 →
    Decides (not (m.bits == 0)) (Share a b)
share_decides a b m both fits = (
  λ e.
      let ne : m.bits ≡ 0 → ⊥ = λ z. both_ways (m.bits == 0) (not-true (m.bits == 0) e) (eq-eqb m.bits 0 z) in
      let i = has_some m (above m.bits ne) fits in
      let p = and_parts (has a i.0) (has b i.0) (sym (both i.0) ∙ i.1) in
      (i.0, p.0, p.1),
  λ (i, x, y). not_from_false (m.bits == 0) (ne_eqb m.bits 0 (λ z.
      both_ways (has m i) (has_none m i z) (both i ∙ and_from (has a i) (has b i) x y))),
)
  where
    above : (n : ℕ) → (n ≡ 0 → ⊥) → 0 < n
    above n ne = elim (cases_lt 0 n) [ inl lt ↦ lt | inr ge ↦ let z : n ≡ 0 = omega arith in absurd (ne z) ]
