-- Results and flows with a property, or with an allowed trap.
use Rattle.std.proofs.Common.{◌≡◌, Result, Ok, Err, refl}
use Rattle.core_lang.specs.declared.value.Failure.{Failure}
use Rattle.core_lang.specs.declared.value.Failure.TheVariants.{Trap, Wrong}
use Rattle.core_lang.specs.declared.value.Outcome.{Outcome}
use Rattle.core_lang.specs.declared.value.Outcome.TheVariants as out
use Rattle.core_lang.specs.Cells.{with}
use Rattle.core_lang.specs.Meaning.{State, Flow, GoesOn, Traps, Beyond, Astray, given}

-- over a property of outcomes
module _ (F : Outcome → Type 0) where
  -- a result that is not a failure except for a trap, which may be an outcome, and that has the property
  abbrev pub Gives : {A : Type 0} → Result A Failure → (A → Type 0) → Type 0
  Gives (Ok a) P = P a
  Gives (Err (Trap t)) P = F (out.Traps t)
  Gives (Err Wrong) P = ⊥

  -- the same of where a statement leads
  abbrev pub Leads : Flow → (State → Type 0) → Type 0
  Leads (GoesOn s) P = P s
  Leads (Traps t s) P = F (out.Traps t)
  Leads Beyond P = Unit {0}
  Leads Astray P = ⊥

  pub gives-with : {A B : Type 0} (r : Result A Failure) (f : A → Result B Failure) (P : B → Type 0) →
      Gives (with r f) P → Gives r (λ a. Gives (f a) P)
  gives-with (Ok a) f P g = g
  gives-with (Err (Trap t)) f P g = g
  gives-with (Err Wrong) f P g = g

  pub gives-given : {A : Type 0} (r : Result A Failure) (s : State) (f : A → Flow) (P : State → Type 0) →
      Leads (given r s f) P → Gives r (λ a. Leads (f a) P)
  gives-given (Ok a) s f P g = g
  gives-given (Err (Trap t)) s f P g = g
  gives-given (Err Wrong) s f P g = g

  pub gives-more : {A : Type 0} (r : Result A Failure) (P Q : A → Type 0) → ((a : A) → P a → Q a) → Gives r P →
      Gives r Q
  gives-more (Ok a) P Q k g = k a g
  gives-more (Err (Trap t)) P Q k g = g
  gives-more (Err Wrong) P Q k g = g

  pub leads-more : (f : Flow) (P R : State → Type 0) → ((s : State) → P s → R s) → Leads f P → Leads f R
  leads-more (GoesOn s) P R k g = k s g
  leads-more (Traps t s) P R k g = g
  leads-more Beyond P R k g = g
  leads-more Astray P R k g = g

  -- with the equation
  pub gives-noted : {A : Type 0} (r : Result A Failure) (P : A → Type 0) → Gives r P → Gives r (λ a. (r ≡ Ok a) × P a)
  gives-noted (Ok a) P g = (refl, g)
  gives-noted (Err (Trap t)) P g = g
  gives-noted (Err Wrong) P g = g
