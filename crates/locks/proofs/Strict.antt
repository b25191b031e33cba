-- The order of locks is strict.
use Rattle.std.proofs.Common.{ℕ, ◌<◌, List, ◌∙◌, sym, subst, arith, inl, inr}
use Rattle.std.specs.Prelude.{slice_index}
use Rattle.locks.specs.declared.lock.Lock.{Lock}
use Rattle.locks.specs.Order.{PrecedesIsStrict}
use Rattle.locks.specs.Theory.Order.{IsBefore, is_before, precedes_by}

never_itself : (ranks : List ℕ) (a : Lock) → IsBefore ranks a a → ⊥
never_itself ranks a (inl lt) = omega (arith, lt)
never_itself ranks a (inr q) = let lt = q.1 in omega (arith, lt)

onward : (ranks : List ℕ) (a b c : Lock) → IsBefore ranks a b → IsBefore ranks b c → IsBefore ranks a c
onward ranks a b c (inl x) (inl y) = inl (omega (arith, x, y))
onward ranks a b c (inl x) (inr q) = inl (subst (λ (k : ℕ). slice_index ranks a.class < slice_index ranks k) q.0 x)
onward ranks a b c (inr p) (inl y) = inl (subst (λ (k : ℕ). slice_index ranks k < slice_index ranks c.class) (sym p.0) y)
onward ranks a b c (inr p) (inr q) = let x = p.1 in let y = q.1 in inr (p.0 ∙ q.0, omega (arith, x, y))

pub precedes_strict : PrecedesIsStrict
precedes_strict = record {
  not_itself = λ ranks a h. never_itself ranks a (is_before ranks a a h);
  goes_on = λ ranks a b c h k. precedes_by ranks a c (onward ranks a b c (is_before ranks a b h) (is_before ranks b c k));
}
