-- Each open section keeps the rules of locking.
use Rattle.std.proofs.Common.{◌≡◌, ℕ, zero, suc, ◌+◌, true, List, [], ◌∷◌, slice_get, slice_set, Some, None, refl, sym}
use Rattle.std.proofs.Common.{ap, ◌∙◌, subst, arith, inl, inr}
use Rattle.std.proofs.lemmas.Bool.{cases_eq}
use Rattle.std.specs.List.{Contains}
use Rattle.locks.specs.declared.lock.Lock.{Lock}
use Rattle.locks.specs.Order.{PrecedesIsStrict}
use Rattle.locks.specs.Locks.{among}
use Rattle.layout.specs.Layouts.{AreDistinct}
use Rattle.code.specs.Machine.{Effect, Moves, Asks, Finishes, Undefined}
use Rattle.code.specs.Memory.{HeldCells}
use Rattle.lowering.specs.Plans.{Plan, IsCompiled}
use Rattle.worlds.specs.declared.event.Event.{Event}
use Rattle.worlds.specs.Worlds.{World, ThreadState, Activation, HasOpen, scripts, instructed, next_effect, happens}
use Rattle.worlds.specs.Worlds.{opening_world}
use Rattle.worlds.specs.Waiting.{PendingRises}
use Rattle.worlds.specs.Claims.{KeepsTheRules}
use Rattle.worlds.specs.Working.States.{IsSound}
use Rattle.worlds.proofs.Places.{get_set_is}
use Rattle.worlds.proofs.Turns.{Turn, idles, starts, gets, waits, over, moves, turn}
use Rattle.locks.specs.Theory.Order.{contains_among, among_contains}
use Rattle.layout.specs.Theory.Numbers.{distinct_push}
use Rattle.worlds.proofs.Ends.{others_stay}
use Rattle.worlds.proofs.Scripts.{at_first_is}

-- ---- no lock is held twice

-- no open section holds a lock twice
pub Once : World → Type 0
Once w = (t : ℕ) (a : Activation) → HasOpen w t a → AreDistinct a.held

contains_at : (locks : List Lock) (i : ℕ) (lock : Lock) → slice_get locks i ≡ Some lock → Contains locks lock
contains_at [] i lock h = absurd cc
contains_at (l ∷ ls) zero lock h = let e : l ≡ lock = cc in (0, omega arith, e)
contains_at (l ∷ ls) (suc i) lock h = let c = contains_at ls i lock h in let less = c.1 in (suc c.0, omega (arith, less), c.2)

-- the new section of a thread
own_is : (threads : List ThreadState) (w : World) (t k : ℕ) (a b : Activation) →
    w.threads ≡ slice_set threads t (record { step = k; active = Some a }) → HasOpen w t b → a ≡ b
own_is threads w t k a b now o =
    let same : record { step = k; active = Some a } ≡ o.0 = get_set_is threads t _ o.0 (ap (λ xs. slice_get xs t) (sym now) ∙ o.1) in
    let e : Some a ≡ Some b = ap (λ x. x.active) same ∙ o.2 in
    cc e

instructed_held : (plan : Plan) (a : Activation) (e : Effect HeldCells) → (instructed plan a e).held ≡ a.held
instructed_held plan a (Moves m) = refl
instructed_held plan a (Asks point) = refl
instructed_held plan a (Finishes outcome) = refl
instructed_held plan a Undefined = refl

once_own : PrecedesIsStrict → (plan : Plan) (w : World) (t : ℕ) (e : Event) (after : World) → Turn plan w t e after →
    PendingRises plan.ranks w → Once w → (b : Activation) → HasOpen after t b → AreDistinct b.held
unfolding Once
once_own strict plan w t e after idles rises once b o = once t b o
once_own strict plan w t e after (starts {thread} at is call) rises once b o =
    let same = own_is w.threads after t thread.step _ b refl o in
    subst (λ (x : Activation). AreDistinct x.held) same (λ i j lock h g. absurd cc)
once_own strict plan w t e after (gets {thread} {a} {lock} {rest} at want free) rises once b o =
    let same = own_is w.threads after t thread.step _ b refl o in
    subst (λ (x : Activation). AreDistinct x.held) same
    (distinct_push a.held lock (once t a (thread, at.at, at.is))
    (λ held. strict.not_itself plan.ranks lock (rises t a lock lock rest (thread, at.at, at.is) want held)))
once_own strict plan w t e after (waits {thread} {a} at want busy) rises once b o =
    let same = own_is w.threads after t thread.step _ b refl o in
    subst (λ (x : Activation). AreDistinct x.held) same (once t a (thread, at.at, at.is))
once_own strict plan w t e after (over {thread} at none out) rises once b o =
    let now : record { step = thread.step + 1; active = None } ≡ o.0 = get_set_is w.threads t _ o.0 o.1 in
    absurd (let bad : None ≡ Some b = ap (λ x. x.active) now ∙ o.2 in cc bad)
once_own strict plan w t e after (moves {thread} {a} at none out) rises once b o =
    let same = own_is w.threads after t thread.step _ b refl o in
    subst (λ (x : Activation). AreDistinct x.held) same
    (subst AreDistinct (sym (instructed_held plan a (next_effect plan a))) (once t a (thread, at.at, at.is)))

pub once_step : PrecedesIsStrict → (plan : Plan) (w : World) (t : ℕ) → PendingRises plan.ranks w → Once w →
    Once (happens plan w t).1
unfolding Once
once_step strict plan w t rises once u b o = elim (cases_eq t u) [
  | inl same ↦ once_own strict plan w t (happens plan w t).0 (happens plan w t).1 (turn plan w t) rises once b
      (subst (λ (k : ℕ). HasOpen (happens plan w t).1 k b) (sym same) o)
  | inr ne ↦ once u b (o.0, sym (others_stay plan w t (happens plan w t).0 (happens plan w t).1 (turn plan w t) u ne) ∙ o.1, o.2)
]

pub once_at_first : (plan : Plan) → Once (opening_world plan)
unfolding Once
once_at_first plan t a o =
    absurd (let bad : None ≡ Some a = ap (λ x. x.active) (sym (at_first_is (scripts plan) t o.0 o.1)) ∙ o.2 in cc bad)

-- ---- the whole

pub keeps_the_rules : (plan : Plan) (w : World) → IsCompiled plan → IsSound plan w → PendingRises plan.ranks w →
    Once w →
    KeepsTheRules plan w
unfolding Once
keeps_the_rules plan w ok s rises once = record {
  one_holder = λ t u a b lock at_t at_u one two.
      s.apart t u a b lock at_t at_u (contains_among a.held lock one) (contains_among b.held lock two);
  once = once;
  own_cells = λ t a cell lock at is.
      let here : slice_get plan.layout.cell_locks cell ≡ Some lock = ok.laid_out.cell_locks cell ∙ is in (
        λ holds. (let of = (s.well t a at).only cell holds in
            let same : Some of.0 ≡ Some lock = sym of.1 ∙ here in
            let as_one : of.0 ≡ lock = cc same in
            among_contains a.held lock (subst (λ l. among a.held l ≡ true) as_one of.2)),
        λ held. (s.well t a at).all cell (lock, here, contains_among a.held lock held),
      );
  part = λ t a at. (s.fit t a at).part;
  rises = rises;
  legal = s.legal;
  true_entries = s.true_commits;
}
