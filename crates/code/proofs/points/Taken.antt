-- The run of an instruction at its place.
use Rattle.std.proofs.Common.{◌≡◌, ℕ, ◌≤◌, List, length, Option, Some, Result, Ok, Err, refl, sym, ap, subst}
use Rattle.std.specs.Prelude.{slice_get}
use Rattle.core_lang.specs.declared.value.Value.{Value}
use Rattle.core_lang.specs.declared.value.Failure.{Failure}
use Rattle.core_lang.specs.declared.value.Failure.TheVariants.{Trap, Wrong}
use Rattle.core_lang.specs.declared.value.Outcome.{Outcome}
use Rattle.core_lang.specs.declared.shape.Shape.{Shape}
use Rattle.code.specs.declared.instr.Instr.{Instr}
use Rattle.code.specs.Machine.{Machine, Effect, act, or_trap}
use Rattle.code.specs.Working.Ahead.{Safe, Goes, Steps}
use Rattle.code.specs.Theory.Safety.{goes_on}
use Rattle.code.proofs.points.Results.{Gives}

module _ {M : Type 0} (load : M → ℕ → Option (Value × M)) (store : M → ℕ → Value → Option M) (shape : Shape) (code : List Instr)
    (F : Outcome → Type 0) (Q : Machine M → Type 0) (room : ℕ) where
  abbrev GoesHere : Effect M → Type 0
  GoesHere = Goes load store shape code F Q room

  -- one instruction
  pub steps : (i : Instr) (m : Machine M) → length m.stack ≤ room → slice_get code m.place ≡ Some i →
      GoesHere (act load store shape (Some i) m) →
      Steps load store shape code F Q room m
  steps i m fit at g = (fit, subst (λ o. GoesHere (act load store shape o m)) (sym at) g)

  pub takes : (i : Instr) (m : Machine M) → length m.stack ≤ room → slice_get code m.place ≡ Some i →
      GoesHere (act load store shape (Some i) m) →
      Safe load store shape code F Q room m
  takes i m fit at g = goes_on load store shape code room F Q m _ fit (ap (λ o. act load store shape o m) at) g

  pub goes-trap : {A : Type 0} (r : Result A Failure) (P : A → Type 0) (go : A → Effect M) → Gives F r P →
      ((a : A) → r ≡ Ok a → P a → GoesHere (go a)) →
      GoesHere (or_trap r go)
  goes-trap (Ok a) P go g k = k a refl g
  goes-trap (Err (Trap t)) P go g k = g
  goes-trap (Err Wrong) P go g k = g

  pub goes-ok : {A : Type 0} (r : Result A Failure) (a : A) (go : A → Effect M) → r ≡ Ok a → GoesHere (go a) →
      GoesHere (or_trap r go)
  goes-ok r a go e g = subst (λ x. GoesHere (or_trap x go)) (sym e) g
