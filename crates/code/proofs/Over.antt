-- A run that is over is the same after more instructions.
use Rattle.std.proofs.Common.{◌≡◌, ℕ, zero, suc, ◌≤◌, List, Option, inl, inr, refl, sym, arith}
use Rattle.std.specs.Prelude.{slice_get}
use Rattle.std.proofs.lemmas.Bool.{cases_lt}
use Rattle.core_lang.specs.declared.value.Value.{Value}
use Rattle.core_lang.specs.declared.shape.Shape.{Shape}
use Rattle.code.specs.declared.instr.Instr.{Instr}
use Rattle.code.specs.Machine.{Machine, Effect, Moves, Asks, Finishes, Undefined, passed, act, proceed, exec}
use Rattle.code.specs.Working.Laws.{IsOver}

module _ {M : Type 0} (load : M → ℕ → Option (Value × M)) (store : M → ℕ → Value → Option M) (shape : Shape) (code : List Instr) where
  -- after one instruction
  stays : (n more : ℕ) →
      ((m : Machine M) → IsOver (exec load store shape code n m) → exec load store shape code more m ≡ exec load store shape code n m) →
      (m : Machine M) (x : Effect M) → IsOver (proceed load store shape m x (exec load store shape code n)) →
      proceed load store shape m x (exec load store shape code more) ≡ proceed load store shape m x (exec load store shape code n)
  stays n more h m (Moves next) over = h next over
  stays n more h m (Asks point) over = h (passed m) over
  stays n more h m (Finishes outcome) over = refl
  stays n more h m Undefined over = refl

  pub stays_over : (m : Machine M) (n more : ℕ) → n ≤ more → IsOver (exec load store shape code n m) →
      exec load store shape code more m ≡ exec load store shape code n m
  stays_over m zero more le over = absurd over
  stays_over m (suc n) zero le over = absurd (omega arith)
  stays_over m (suc n) (suc more) le over =
      stays n more (λ next. stays_over next n more (omega arith)) m (act load store shape (slice_get code m.place) m) over

  pub ends_once : (m : Machine M) (n k : ℕ) → IsOver (exec load store shape code n m) →
      IsOver (exec load store shape code k m) →
      exec load store shape code n m ≡ exec load store shape code k m
  ends_once m n k over over' =
      elim (cases_lt n k) [
        | inl lt ↦ sym (stays_over m n k (omega arith) over)
        | inr le ↦ stays_over m k n (omega arith) over'
      ]
