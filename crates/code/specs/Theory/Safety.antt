-- A machine that steps is safe, one that is safe has arrived or steps, and it is also safe if less is required of it.
-- Nobody has to believe this file: its lemmas are proved here, for proofs of the crates above.
use Rattle.std.specs.Prelude.{◌≡◌, ◌≤◌, ℕ, List, length, slice_get, Option, ◌⊎◌}
use Rattle.std.proofs.Common.{inl, inr, refl, sym, subst}
use Rattle.core_lang.specs.declared.value.Value.{Value}
use Rattle.core_lang.specs.declared.value.Outcome.{Outcome}
use Rattle.core_lang.specs.declared.shape.Shape.{Shape}
use Rattle.code.specs.declared.instr.Instr.{Instr}
use Rattle.code.specs.Machine.{Machine, Effect, Moves, Asks, Finishes, Undefined, act}
use Rattle.code.specs.Working.Ahead.{Safe, there, moves, finishes, Goes, Steps}

module _ {M : Type 0} (load : M → ℕ → Option (Value × M)) (store : M → ℕ → Value → Option M) (shape : Shape)
    (code : List Instr) (room : ℕ) where
  module _ (F : Outcome → Type 0) (Q : Machine M → Type 0) where
    -- the case in which the effect of the next instruction is known
    pub goes_on : (m : Machine M) (x : Effect M) → length m.stack ≤ room →
        act load store shape (slice_get code m.place) m ≡ x → Goes load store shape code F Q room x →
        Safe load store shape code F Q room m
    goes_on m (Moves next) fit e g = moves fit e g
    goes_on m (Asks point) fit e g = absurd g
    goes_on m (Finishes outcome) fit e g = finishes fit e g
    goes_on m Undefined fit e g = absurd g

    -- a machine that steps is safe
    pub safe : (m : Machine M) → Steps load store shape code F Q room m → Safe load store shape code F Q room m
    safe m g = goes_on m (act load store shape (slice_get code m.place) m) g.0 refl g.1

    -- a safe machine has arrived, or steps
    pub safe_steps : (m : Machine M) → Safe load store shape code F Q room m →
        Q m ⊎ Steps load store shape code F Q room m
    safe_steps m (there q) = inl q
    safe_steps m (moves fit e g) = inr (fit, subst (Goes load store shape code F Q room) (sym e) g)
    safe_steps m (finishes fit e f) = inr (fit, subst (Goes load store shape code F Q room) (sym e) f)

  -- a safe machine is also safe if more outcomes are allowed and it arrives in more states
  module _ (F G : Outcome → Type 0) (Q R : Machine M → Type 0) (allowed : (outcome : Outcome) → F outcome → G outcome)
      (arrived : (m : Machine M) → Q m → R m) where
    pub safe_more : (m : Machine M) → Safe load store shape code F Q room m → Safe load store shape code G R room m
    safe_more m (there q) = there (arrived m q)
    safe_more m (moves fit e g) = moves fit e (safe_more _ g)
    safe_more m (finishes fit e f) = finishes fit e (allowed _ f)

    goes_more : (x : Effect M) → Goes load store shape code F Q room x → Goes load store shape code G R room x
    goes_more (Moves next) g = safe_more next g
    goes_more (Asks point) g = g
    goes_more (Finishes outcome) g = allowed outcome g
    goes_more Undefined g = g

    pub steps_more : (m : Machine M) → Steps load store shape code F Q room m →
        Steps load store shape code G R room m
    steps_more m g = (g.0, goes_more (act load store shape (slice_get code m.place) m) g.1)
