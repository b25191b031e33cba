-- A machine on a heap settles a run of its section: it comes to the run's end, or is stuck if the run goes astray.
use Rattle.std.proofs.Common.{◌≡◌, ℕ, suc, ◌≤◌, List, [], Some, Result, Ok, Err, refl, sym, ap, ◌∙◌, subst, arith}
use Rattle.std.specs.Prelude.{slice_get, ⊤}
use Rattle.core_lang.specs.declared.value.Value.{Value}
use Rattle.core_lang.specs.declared.value.Failure.{Failure}
use Rattle.core_lang.specs.declared.value.Failure.TheVariants.{Trap, Wrong}
use Rattle.core_lang.specs.declared.value.Outcome.TheVariants as out
use Rattle.core_lang.specs.declared.shape.Shape.{Shape}
use Rattle.core_lang.specs.Meaning.{State, Flow, GoesOn, Traps, Beyond, Astray}
use Rattle.core_lang.specs.Whole.{Run, Over, Beyond_turns, Gone_astray, over}
use Rattle.code.specs.declared.instr.Instr.{Instr}
use Rattle.code.specs.Machine.{Machine, Effect, Moves, Asks, Finishes, Undefined, Standing, At, Halted, Stuck, passed}
use Rattle.code.specs.Machine.{or_trap, act, proceed, exec}
use Rattle.code.specs.Memory.{load_from, store_to}
use Rattle.code.specs.Alone.{halted}
use Rattle.code.specs.Working.Laws.{IsOver}
use Rattle.code.proofs.Over.{stays_over}

-- ---- continuations of a run

-- with a result's value, or cut short by its failure
abbrev pub resolve : {A : Type 0} → Result A Failure → State → (A → Run) → Run
resolve (Ok a) s go = go a
resolve (Err (Trap t)) s go = over (out.Traps t) s
resolve (Err Wrong) s go = Gone_astray

-- from where a statement led
abbrev pub conclude : Flow → (State → Run) → Run
conclude (GoesOn s) go = go s
conclude (Traps t s) go = over (out.Traps t) s
conclude Beyond go = Beyond_turns
conclude Astray go = Gone_astray

-- a machine in a state of its section
abbrev pub machine : ℕ → List Value → State → Machine (List Value)
machine place stack s = record { place = place; stack = stack; locals = s.locals; memory = s.heap; prints = s.prints }

-- the machine has not halted, and is not stuck
abbrev pub IsGoing : Standing (List Value) → Type 0
IsGoing (At m) = ⊤
IsGoing (Halted outcome memory prints) = ⊥
IsGoing Stuck = ⊥

module _ (shape : Shape) (code : List Instr) where
  -- the state of a machine after n instructions
  abbrev pub stands : ℕ → Machine (List Value) → Standing (List Value)
  stands n m = exec load_from store_to shape code n m

  -- the machine comes to the end of the run. If the run goes astray, the machine gets stuck. If the run needs more
  -- turns, the machine has not ended after k instructions
  abbrev pub Settles : ℕ → Machine (List Value) → Run → Type 0
  Settles k m (Over finished) = (n : ℕ) × (stands n m ≡ halted finished)
  Settles k m Beyond_turns = IsGoing (stands k m)
  Settles k m Gone_astray = (n : ℕ) × (stands n m ≡ Stuck)

  -- from a place on with nothing on the stack, in whatever state
  abbrev pub Onward : ℕ → ℕ → (State → Run) → Type 0
  Onward k place go = (s : State) → Settles k (machine place [] s) (go s)

  going_before : (j k : ℕ) (m : Machine (List Value)) (x : Standing (List Value)) → j ≤ k → stands j m ≡ x →
      IsGoing (stands k m) → IsGoing x
  going_before j k m (At next) le e g = tt
  going_before j k m (Halted outcome memory prints) le e g =
      subst IsGoing (stays_over load_from store_to shape code m j k le (subst IsOver (sym e) tt) ∙ e) g
  going_before j k m Stuck le e g = subst IsGoing (stays_over load_from store_to shape code m j k le (subst IsOver (sym e) tt) ∙ e) g

  -- what holds of more instructions holds of fewer
  pub fewer : (j k : ℕ) (m : Machine (List Value)) (run : Run) → j ≤ k → Settles k m run → Settles j m run
  fewer j k m (Over finished) le h = h
  fewer j k m Beyond_turns le h = going_before j k m (stands j m) le refl h
  fewer j k m Gone_astray le h = h

  moved : (k : ℕ) (m next : Machine (List Value)) (run : Run) → ((n : ℕ) → stands (suc n) m ≡ stands n next) →
      Settles k next run → Settles (suc k) m run
  moved k m next (Over finished) step h = (suc h.0, step h.0 ∙ h.1)
  moved k m next Beyond_turns step h = subst IsGoing (sym (step k)) h
  moved k m next Gone_astray step h = (suc h.0, step h.0 ∙ h.1)

  -- the same after an instruction
  abbrev pub Goes : ℕ → Machine (List Value) → Effect (List Value) → Run → Type 0
  Goes k m (Moves next) run = Settles k next run
  Goes k m (Asks point) run = Settles k (passed m) run
  Goes k m (Finishes outcome) run = run ≡ Over (record { outcome = outcome; prints = m.prints; heap = m.memory })
  Goes k m Undefined run = run ≡ Gone_astray

  goes_on : (k : ℕ) (m : Machine (List Value)) (x : Effect (List Value)) (run : Run) →
      act load_from store_to shape (slice_get code m.place) m ≡ x → Goes k m x run → Settles (suc k) m run
  goes_on k m (Moves next) run e g =
      moved k m next run (λ n. ap (λ x. proceed load_from store_to shape m x (exec load_from store_to shape code n)) e) g
  goes_on k m (Asks point) run e g =
      moved k m (passed m) run (λ n. ap (λ x. proceed load_from store_to shape m x (exec load_from store_to shape code n)) e) g
  goes_on k m (Finishes outcome) run e g =
      subst (Settles (suc k) m) (sym g) (1, ap (λ x. proceed load_from store_to shape m x (exec load_from store_to shape code 0)) e)
  goes_on k m Undefined run e g =
      subst (Settles (suc k) m) (sym g) (1, ap (λ x. proceed load_from store_to shape m x (exec load_from store_to shape code 0)) e)

  -- one instruction, which is counted; or it is not
  pub counts : (k : ℕ) (i : Instr) (m : Machine (List Value)) (run : Run) → slice_get code m.place ≡ Some i →
      Goes k m (act load_from store_to shape (Some i) m) run → Settles (suc k) m run
  counts k i m run at g = goes_on k m _ run (ap (λ o. act load_from store_to shape o m) at) g

  pub takes : (k : ℕ) (i : Instr) (m : Machine (List Value)) (run : Run) → slice_get code m.place ≡ Some i →
      Goes k m (act load_from store_to shape (Some i) m) run → Settles k m run
  takes k i m run at g = fewer k (suc k) m run (omega arith) (counts k i m run at g)

  -- an instruction that may trap, beside the result that it takes
  pub goes-or_trap : {A : Type 0} (k place : ℕ) (stack : List Value) (s : State) (r : Result A Failure) (go : A →
      Effect (List Value)) (next : A → Run) →
      ((a : A) → r ≡ Ok a → Goes k (machine place stack s) (go a) (next a)) → Goes k (machine place stack s) (or_trap r go) (resolve r s next)
  goes-or_trap k place stack s (Ok a) go next h = h a refl
  goes-or_trap k place stack s (Err (Trap t)) go next h = refl
  goes-or_trap k place stack s (Err Wrong) go next h = refl
