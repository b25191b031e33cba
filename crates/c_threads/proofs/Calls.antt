-- Calls under way in C, and the open sections that they stand for.
use Rattle.std.proofs.Common.{◌≡◌, ℕ, Option, Some, None}
use Rattle.std.proofs.Common.{slice_get, refl, sym, ap, ◌∙◌, subst}
use Rattle.std.proofs.lemmas.Option.{none-some}
use Rattle.core_lang.specs.Theory.Items.{same_value}
use Rattle.lowering.specs.Plans.{Plan}
use Rattle.worlds.specs.Worlds.{World, ThreadState, Activation, HasOpen}
use Rattle.c_threads.specs.Threads.{Progress, Taking, Over, Leaving, CallInC, ThreadInC, WorldInC}
use Rattle.c_threads.specs.Claims.{Runs, LocksAreGivenBack}
use Rattle.c_threads.specs.Claims.{pending_of, outcome_of, IsOpen, StandsFor}
use Rattle.c_threads.specs.Claims.{WorldStandsFor}
use Rattle.c_threads.proofs.Shared.{Sees}
use Rattle.c_threads.proofs.Stands.{CallStands, ThreadStands, Stands, thread_of, thread_in_c}

-- a world that was reached
module _ (plan : Plan) (w : World) (c : WorldInC) (beside : Stands plan w c) where
  -- ---- a call under way

  -- the section of the call
  pub record Section (t : ℕ) (x : ThreadInC) (call : CallInC) (p : Progress) : Type 0 where
    pub a : Activation
    pub is_open : HasOpen w t a
    pub stands : StandsFor a x call
    pub sees : Sees c.cells a.machine.memory

  pub call_at_progress : (t : ℕ) (x : ThreadInC) (call : CallInC) (p : Progress) → Runs c t x call → call.progress ≡ p →
      (thread : ThreadState) × (slice_get w.threads t ≡ Some thread) × CallStands plan c.cells thread x call p
  call_at_progress t x call p h e =
      let mine = thread_of plan w c beside t x h.at in
      (mine.0, mine.1, subst (CallStands plan c.cells mine.0 x call) e (subst (ThreadStands plan c.cells mine.0 x) h.is (beside.threads t mine.0 x mine.1 h.at)))

  pub section_of : (t : ℕ) (x : ThreadInC) (call : CallInC) (p : Progress) → Runs c t x call → call.progress ≡ p → IsOpen p → Section t x call p
  section_of t x call (Taking pending) h e under =
      let r = call_at_progress t x call (Taking pending) h e in
      let go = r.2.3 in
      record {
        a = r.2.1;
        is_open = (r.0, r.1, r.2.2);
        stands = record {
          call = ap (λ (a : Activation). a.call) go.is;
          begun = ap (λ (a : Activation). a.begun) go.is;
          locks = ap (λ (a : Activation). a.held) go.is;
          pending = ap (λ (a : Activation). a.pending) go.is ∙ sym (ap pending_of e);
          outcome = ap (λ (a : Activation). a.outcome) go.is ∙ sym (ap outcome_of e);
          prints = ap (λ (a : Activation). a.machine.prints) go.is;
        };
        sees = subst (λ (a : Activation). Sees c.cells a.machine.memory) (sym go.is) go.sees;
      }
  section_of t x call (Over outcome) h e under =
      let r = call_at_progress t x call (Over outcome) h e in
      let over = r.2.3 in
      record {
        a = r.2.1;
        is_open = (r.0, r.1, r.2.2);
        stands = record {
          call = over.call;
          begun = over.begun;
          locks = over.held;
          pending = over.pending ∙ sym (ap pending_of e);
          outcome = over.outcome ∙ sym (ap outcome_of e);
          prints = over.prints;
        };
        sees = over.sees;
      }
  section_of t x call (Leaving outcome left) h e under = absurd under

  pub section_at : (t : ℕ) (x : ThreadInC) (call : CallInC) → Runs c t x call → IsOpen call.progress → Section t x call call.progress
  section_at t x call h under = section_of t x call call.progress h refl under

  -- the call of a section
  pub record InC (t : ℕ) (a : Activation) : Type 0 where
    pub x : ThreadInC
    pub call : CallInC
    pub runs : Runs c t x call
    pub under : IsOpen call.progress
    pub stands : StandsFor a x call
    pub sees : Sees c.cells a.machine.memory

  pub section_is : (t : ℕ) (a : Activation) → HasOpen w t a → InC t a
  section_is t a o =
      let mine = thread_in_c plan w c beside t o.0 o.1 in
      by mine.0 mine.1 mine.0.active refl (beside.threads t o.0 mine.0 o.1 mine.1)
    where
      by : (x : ThreadInC) → slice_get c.threads t ≡ Some x → (o' : Option CallInC) → x.active ≡ o' → ThreadStands plan c.cells o.0 x o' → InC t a
      by x at None e h = absurd (none-some a (sym h.1 ∙ o.2))
      by x at (Some call) e h = progress_by call.progress refl h
        where
          runs : Runs c t x call
          runs = record { at = at; is = e }

          here : (p : Progress) → call.progress ≡ p → IsOpen p → InC t a
          here p is under =
              let s = section_of t x call p runs is under in
              let thread : s.is_open.0 ≡ o.0 = same_value (slice_get w.threads t) s.is_open.0 o.0 s.is_open.1 o.1 in
              let same : s.a ≡ a = same_value o.0.active s.a a (ap (λ (z : ThreadState). z.active) (sym thread) ∙ s.is_open.2) o.2 in
              record {
                x = x;
                call = call;
                runs = runs;
                under = subst IsOpen (sym is) under;
                stands = subst (λ (b : Activation). StandsFor b x call) same s.stands;
                sees = subst (λ (b : Activation). Sees c.cells b.machine.memory) same s.sees;
              }

          progress_by : (p : Progress) → call.progress ≡ p → CallStands plan c.cells o.0 x call p → InC t a
          progress_by (Taking pending) is h = here (Taking pending) is tt
          progress_by (Over outcome) is h = here (Over outcome) is tt
          progress_by (Leaving outcome left) is h = absurd (none-some a (sym h.1 ∙ o.2))

  -- ---- beside worlds

  pub world_stands : WorldStandsFor w c
  world_stands = record {
    history = beside.history;
    open_in_c = λ t a o. (let s = section_is t a o in (s.x, s.call, s.runs, s.under, s.stands));
    open_in_world = λ t x call h under. (let s = section_at t x call h under in (s.a, s.is_open, s.stands));
    free_cells = beside.free;
    held_cells = λ t cell a v o e. (section_is t a o).sees cell v e;
    all_cells = beside.size;
  }

  -- ---- locks

  pub given_back : LocksAreGivenBack c
  given_back t x at none =
      let mine = thread_of plan w c beside t x at in
      (subst (ThreadStands plan c.cells mine.0 x) none (beside.threads t mine.0 x mine.1 at)).2
