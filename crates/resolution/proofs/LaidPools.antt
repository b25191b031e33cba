-- The members of a pool come before those of the pools declared later.
use Rattle.std.proofs.Common.{◌≡◌, ℕ, zero, suc, ◌+◌, ◌<◌, ◌≤◌, Bool, true, false, if◌then◌else◌, List, [], ◌∷◌, Some}
use Rattle.std.proofs.Common.{refl, sym, ap, ◌∙◌, arith, inl, inr}
use Rattle.std.specs.Prelude.{slice_get, take, length}
use Rattle.std.proofs.lemmas.Bool.{cases_lt}
use Rattle.std.proofs.lemmas.Option.{none-some}
use Rattle.syntax.specs.Trees.{Pool, Decl, pool}
use Rattle.resolution.specs.Core as core
use Rattle.resolution.specs.Scopes.{count, alike, number_at}
use Rattle.resolution.specs.Numbers.{total, objects_of, objects_ahead}
use Rattle.resolution.specs.Tables.{AreTables}
use Rattle.resolution.proofs.FaultlessExpressions.{Clean}
use Rattle.resolution.proofs.LaidLists.{only, no_row}
use Rattle.resolution.proofs.LaidStages.{pool_row}
use Rattle.resolution.proofs.LaidWalk.{Step, NewRows, each_row}

-- ---- counts of beginnings of a list

more_counted : (p : Decl → Bool) (ds : List Decl) (i j : ℕ) → i ≤ j → count p (take i ds) ≤ count p (take j ds)
more_counted p [] zero zero less = omega arith
more_counted p [] zero (suc j) less = omega arith
more_counted p [] (suc i) zero less = omega arith
more_counted p [] (suc i) (suc j) less = omega arith
more_counted p (d ∷ ds) zero j less = omega arith
more_counted p (d ∷ ds) (suc i) zero less = absurd (omega (arith, less))
more_counted p (d ∷ ds) (suc i) (suc j) less = by (p d) (more_counted p ds i j (omega (arith, less))) where
  by : (b : Bool) → count p (take i ds) ≤ count p (take j ds) →
      (if b then suc (count p (take i ds)) else count p (take i ds)) ≤ (if b then suc (count p (take j ds)) else count p (take j ds))
  by true rest = omega (arith, rest)
  by false rest = rest

all_before : (of : Decl → ℕ) (ds : List Decl) (i j : ℕ) (d : Decl) → slice_get ds i ≡ Some d → i < j →
    total of (take i ds) + of d ≤ total of (take j ds)
all_before of [] i j d e less = absurd (none-some d e)
all_before of (x ∷ ds) i zero d e less = absurd (omega (arith, less))
all_before of (x ∷ ds) zero (suc j) d e less = (let same : x ≡ d = cc e in let own = ap of same in omega (arith, own))
all_before of (x ∷ ds) (suc i) (suc j) d e less =
    let rest = all_before of ds i j d e (omega (arith, less)) in omega (arith, rest)

-- ---- pools

-- the declaration of a pool
record PoolPlace (decls : List Decl) (k : ℕ) (x : core.Pool) : Type 0 where
  place : ℕ
  declared : Pool
  at : slice_get decls place ≡ Some (pool declared)
  number : number_at decls place (pool declared) ≡ k
  first : x.first ≡ objects_ahead decls place
  long : x.length ≡ declared.length.value

pools_placed : (decls : List Decl) (whole : core.Program) → NewRows decls whole (λ p. p.pools) (PoolPlace decls)
pools_placed decls whole before (pool x) p st k y e =
    only (PoolPlace decls) (length p.pools) (pool_row p x st.news.structure)
    (record {
      place = length before;
      declared = x;
      at = st.at;
      number = ap (count (alike (pool x))) st.ahead ∙ sym (st.counts.pools x);
      first = st.counts.objects ∙ sym (ap (total objects_of) st.ahead);
      long = refl;
    }) k y e
pools_placed decls whole before d p st k y e = no_row k y e

pub pools_rise : (decls : List Decl) → Clean decls → (whole : core.Program) → AreTables decls whole → (m n : ℕ)
    (x y : core.Pool) → m < n → slice_get whole.pools m ≡ Some x → slice_get whole.pools n ≡ Some y →
    x.first + x.length ≤ y.first
pools_rise decls clean whole is m n x y less ex ey =
    let of : (k : ℕ) (z : core.Pool) → slice_get whole.pools k ≡ Some z → PoolPlace decls k z =
    each_row decls clean whole is (λ p. p.pools) (λ p a. refl) refl (PoolPlace decls) (pools_placed decls whole) in
    let one = of m x ex in
    let two = of n y ey in
    elim (cases_lt one.place two.place) [
      | inl before ↦
          (let all = all_before objects_of decls one.place two.place (pool one.declared) one.at before in
          let start = one.first in
          let many = one.long in
          let end = two.first in
          omega (arith, all, start, many, end))
      | inr behind ↦
          (let counted = more_counted (alike (pool one.declared)) decls two.place one.place behind in
          let low : n ≤ m = omega (arith, counted, one.number, two.number) in
          absurd (omega (arith, less, low)))
    ]
