-- Sufficient conditions for a change of one thread to keep a world sound.
use Rattle.std.proofs.Common.{◌≡◌, ◌⊎◌, ℕ, true, List, length, Option, Some, None, slice_get, set, sym, ap, ◌∙◌, inl}
use Rattle.std.proofs.Common.{inr}
use Rattle.std.proofs.lemmas.Bool.{cases_eq}
use Rattle.core_lang.specs.declared.value.Value.{Value}
use Rattle.core_lang.specs.Theory.Items.{set_other}
use Rattle.locks.specs.declared.lock.Lock.{Lock}
use Rattle.history.specs.Commits.{Commit, committed, IsLegal, AreTrue}
use Rattle.lowering.specs.Plans.{Plan}
use Rattle.locks.specs.Locks.{among}
use Rattle.worlds.specs.Worlds.{World, ThreadState, Activation, HasOpen}
use Rattle.worlds.specs.Working.States.{IsWell, IsFit, IsSound}
use Rattle.worlds.specs.Claims.{HoldsCell}
use Rattle.worlds.proofs.Places.{get_set_same, get_set_is}

-- a thread other than `t` holds the cell
pub record ElsewhereHeld (w : World) (t cell : ℕ) : Type 0 where
  pub by : ℕ
  pub section : Activation
  pub is_open : HasOpen w by section
  pub other : t ≡ by → ⊥
  pub holds : HoldsCell section cell

-- this thread holds the cell
pub record HoldsHere (thread : ThreadState) (cell : ℕ) : Type 0 where
  pub section : Activation
  pub is_open : thread.active ≡ Some section
  pub holds : HoldsCell section cell

-- a change of one thread, the cells and the history that keeps all invariants of the world
pub record Changes (plan : Plan) (w : World) (t : ℕ) (thread : ThreadState) (cells : List (Option Value)) (history : List Commit) : Type 0 where
  pub before : ThreadState
  pub at : slice_get w.threads t ≡ Some before
  pub legal : IsLegal plan.layout.opening history
  pub true_commits : AreTrue plan.program history
  pub size : length cells ≡ length plan.layout.opening
  pub values : (c : ℕ) (v : Value) → slice_get cells c ≡ Some (Some v) →
      slice_get (committed plan.layout.opening history) c ≡ Some v
  pub others : (u : ℕ) (b : Activation) → (t ≡ u → ⊥) → HasOpen w u b →
      IsFit cells (committed plan.layout.opening history) b
  pub mine : (a : Activation) → thread.active ≡ Some a →
      IsWell plan a × IsFit cells (committed plan.layout.opening history) a
  pub apart : (u : ℕ) (a b : Activation) (lock : Lock) → (t ≡ u → ⊥) → thread.active ≡ Some a → HasOpen w u b →
      among a.held lock ≡ true → among b.held lock ≡ true → ⊥
  pub somewhere : (c : ℕ) → slice_get cells c ≡ Some None → ElsewhereHeld w t c ⊎ HoldsHere thread c

abbrev pub changed : World → ℕ → ThreadState → List (Option Value) → List Commit → World
changed w t thread cells history = record { cells = cells; history = history; threads = set w.threads t thread }

-- the section that is open after the change, and the section of another thread that was open before
pub now_open : (w : World) (t : ℕ) (thread : ThreadState) (cells : List (Option Value)) (history : List Commit) (u : ℕ) (b : Activation) → t ≡ u →
    HasOpen (changed w t thread cells history) u b → thread.active ≡ Some b
now_open w t thread cells history u b e o =
    let same : thread ≡ o.0 = get_set_is w.threads t thread o.0 (ap (slice_get (set w.threads t thread)) e ∙ o.1) in
    ap (λ x. x.active) same ∙ o.2

pub still_open : (w : World) (t : ℕ) (thread : ThreadState) (cells : List (Option Value)) (history : List Commit) (u : ℕ) (b : Activation) → (t ≡ u → ⊥) →
    HasOpen (changed w t thread cells history) u b → HasOpen w u b
still_open w t thread cells history u b ne o = (o.0, sym (set_other w.threads t u thread ne) ∙ o.1, o.2)

pub sound_changed : (plan : Plan) (w : World) (t : ℕ) (thread : ThreadState) (cells : List (Option Value)) (history : List Commit) →
    IsSound plan w → Changes plan w t thread cells history → IsSound plan (changed w t thread cells history)
sound_changed plan w t thread cells history s c = record {
  legal = c.legal;
  true_commits = c.true_commits;
  size = c.size;
  values = c.values;
  well = λ u b o. elim (cases_eq t u) [
    | inl e ↦ (c.mine b (here u b e o)).0
    | inr ne ↦ s.well u b (away u b ne o)
  ];
  fit = λ u b o. elim (cases_eq t u) [
    | inl e ↦ (c.mine b (here u b e o)).1
    | inr ne ↦ c.others u b ne (away u b ne o)
  ];
  somewhere = λ cell none. elim (c.somewhere cell none) [
    | inl h ↦ (h.by, h.section, (h.is_open.0, set_other w.threads t h.by thread h.other ∙ h.is_open.1, h.is_open.2), h.holds)
    | inr h ↦ (t, h.section, (thread, get_set_same w.threads t c.before thread c.at, h.is_open), h.holds)
  ];
  apart = λ u k a b lock oa ob ha hb. elim (cases_eq t u) [
    | inl e ↦ elim (cases_eq t k) [
      | inl f ↦ sym e ∙ f
      | inr nf ↦ absurd (c.apart k a b lock nf (here u a e oa) (away k b nf ob) ha hb)
    ]
    | inr ne ↦ elim (cases_eq t k) [
      | inl f ↦ absurd (c.apart u b a lock ne (here k b f ob) (away u a ne oa) hb ha)
      | inr nf ↦ s.apart u k a b lock (away u a ne oa) (away k b nf ob) ha hb
    ]
  ];
} where
  here : (u : ℕ) (b : Activation) → t ≡ u → HasOpen (changed w t thread cells history) u b → thread.active ≡ Some b
  here u b e o = now_open w t thread cells history u b e o

  away : (u : ℕ) (b : Activation) → (t ≡ u → ⊥) → HasOpen (changed w t thread cells history) u b → HasOpen w u b
  away u b ne o = still_open w t thread cells history u b ne o
