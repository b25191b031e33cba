-- One more instruction of a run.
use Rattle.std.proofs.Common.{◌≡◌, ℕ, zero, suc, List, slice_get, Option, ap}
use Rattle.core_lang.specs.declared.value.Value.{Value}
use Rattle.core_lang.specs.declared.shape.Shape.{Shape}
use Rattle.code.specs.declared.instr.Instr.{Instr}
use Rattle.code.specs.Machine.{Machine, Effect, Moves, Asks, Finishes, Undefined, Standing, At, act, passed, proceed}
use Rattle.code.specs.Machine.{exec}

module _ {M : Type 0} (load : M → ℕ → Option (Value × M)) (store : M → ℕ → Value → Option M) (shape : Shape) (code : List Instr) where
  same_machine : (m k : Machine M) → At m ≡ At k → m ≡ k
  same_machine m k e = cc e

  -- the next state of a machine
  abbrev goes : Machine M → Standing M
  goes k = proceed load store shape k (act load store shape (slice_get code k.place) k) (exec load store shape code zero)

  behind : (n : ℕ) (m k : Machine M) (x : Effect M) →
      ((next : Machine M) → exec load store shape code n next ≡ At k → exec load store shape code (suc n) next ≡ goes k) →
      proceed load store shape m x (exec load store shape code n) ≡ At k →
      proceed load store shape m x (exec load store shape code (suc n)) ≡ goes k
  behind n m k (Moves next) later e = later next e
  behind n m k (Asks point) later e = later (passed m) e
  behind n m k (Finishes outcome) later e = absurd cc
  behind n m k Undefined later e = absurd cc

  pub one_more : (n : ℕ) (m k : Machine M) → exec load store shape code n m ≡ At k →
      exec load store shape code (suc n) m ≡ goes k
  one_more zero m k e = ap goes (same_machine m k e)
  one_more (suc n) m k e =
      behind n m k (act load store shape (slice_get code m.place) m) (λ next h. one_more n next k h) e
