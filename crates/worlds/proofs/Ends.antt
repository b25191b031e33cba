-- The positions of sections in the history.
use Rattle.std.proofs.Common.{◌≡◌, ◌≤◌, ◌<◌, ℕ, zero, suc, ◌+◌, List, [], ◌∷◌, ◌++◌, length, take, slice_get, Some}
use Rattle.std.proofs.Common.{None, refl, sym, ap, ◌∙◌, subst, arith, inl, inr}
use Rattle.std.proofs.lemmas.List.{length_push}
use Rattle.std.proofs.lemmas.Bool.{cases_eq}
use Rattle.core_lang.specs.Theory.Items.{still_at, last_at, set_other}
use Rattle.history.specs.Commits.{Commit}
use Rattle.lowering.specs.Plans.{Plan}
use Rattle.worlds.specs.declared.event.Event.{Event}
use Rattle.worlds.specs.declared.event.Event.TheVariants.{Began, Ended}
use Rattle.worlds.specs.Worlds.{World, Activation, commit, taken, next_effect, happens, world_after, events}
use Rattle.worlds.specs.Worlds.{opening_world, HasOpen}
use Rattle.worlds.specs.Claims.{EndsInOrder, HaveEntries}
use Rattle.worlds.proofs.Turns.{Turn, idles, starts, gets, waits, over, moves, turn, same_open}
use Rattle.worlds.proofs.Places.{get_set_same}
use Rattle.worlds.specs.Theory.Steps.{instructed_begun}

-- ---- positions rise

record IsEnd (w : World) (e : Event) (after : World) : Type 0 where
  grows : length w.history ≤ length after.history
  ended : (p : ℕ) → e ≡ Ended p → (p ≡ length w.history) × (length after.history ≡ p + 1)
  kept : (p : ℕ) (c : Commit) → slice_get w.history p ≡ Some c → slice_get after.history p ≡ Some c

turn_end : (plan : Plan) (w : World) (t : ℕ) (e : Event) (after : World) → Turn plan w t e after → IsEnd w e after
turn_end plan w t e after idles = record { grows = omega arith; ended = λ p h. absurd cc; kept = λ p c h. h }
turn_end plan w t e after (starts at is call) = record { grows = omega arith; ended = λ p h. absurd cc; kept = λ p c h. h }
turn_end plan w t e after (gets at want free) = record { grows = omega arith; ended = λ p h. absurd cc; kept = λ p c h. h }
turn_end plan w t e after (waits at want taken) = record { grows = omega arith; ended = λ p h. absurd cc; kept = λ p c h. h }
turn_end plan w t e after (over {thread} {a} {outcome} at none out) =
    let more = length_push w.history (commit t thread.step a outcome) in
    record {
      grows = omega (arith, more);
      ended = λ p h. let same : length w.history ≡ p = cc in (sym same, more ∙ ap (λ n. n + 1) same);
      kept = λ p c h. still_at w.history (commit t thread.step a outcome ∷ []) p c h;
    }
turn_end plan w t e after (moves at none out) = record { grows = omega arith; ended = λ p h. absurd cc; kept = λ p c h. h }

step_end : (plan : Plan) (w : World) (t : ℕ) → IsEnd w (happens plan w t).0 (happens plan w t).1
step_end plan w t = turn_end plan w t (happens plan w t).0 (happens plan w t).1 (turn plan w t)

ends_from : (plan : Plan) (w : World) (steps : List ℕ) (k b : ℕ) →
    slice_get (events plan w steps) k ≡ Some (Ended b) → length w.history ≤ b
ends_from plan w [] k b h = absurd cc
ends_from plan w (t ∷ ts) zero b h =
    let e : (happens plan w t).0 ≡ Ended b = cc in omega (arith, ((step_end plan w t).ended b e).0)
ends_from plan w (t ∷ ts) (suc k) b h = omega (arith, ends_from plan (happens plan w t).1 ts k b h, (step_end plan w t).grows)

ends_rise : (plan : Plan) (w : World) (steps : List ℕ) (i k a b : ℕ) → i < k →
    slice_get (events plan w steps) i ≡ Some (Ended a) →
    slice_get (events plan w steps) k ≡ Some (Ended b) → a < b
ends_rise plan w [] i k a b lt h g = absurd cc
ends_rise plan w (t ∷ ts) zero zero a b lt h g = absurd (omega arith)
ends_rise plan w (t ∷ ts) zero (suc k) a b lt h g =
    let e : (happens plan w t).0 ≡ Ended a = cc in
    omega (arith, ends_from plan (happens plan w t).1 ts k b g, ((step_end plan w t).ended a e).1)
ends_rise plan w (t ∷ ts) (suc i) zero a b lt h g = absurd (omega arith)
ends_rise plan w (t ∷ ts) (suc i) (suc k) a b lt h g = ends_rise plan (happens plan w t).1 ts i k a b (omega arith) h g

pub in_order : (plan : Plan) (steps : List ℕ) → EndsInOrder plan steps
in_order plan steps u b c e p q one two before =
    ends_rise plan (opening_world plan) steps b e p q (omega (arith, before, two.later)) one two.ended

-- ---- the begin that an entry notes

-- the thread's section is open, and began when the history had this length
abbrev OpenSince : World → ℕ → ℕ → Type 0
OpenSince w t n = (a : Activation) × HasOpen w t a × (a.begun ≡ n)

-- other threads stay as they are
pub others_stay : (plan : Plan) (w : World) (u : ℕ) (e : Event) (after : World) → Turn plan w u e after → (t : ℕ) →
    (u ≡ t → ⊥) →
    slice_get after.threads t ≡ slice_get w.threads t
others_stay plan w u e after idles t ne = refl
others_stay plan w u e after (starts at is call) t ne = set_other w.threads u t _ ne
others_stay plan w u e after (gets at want free) t ne = set_other w.threads u t _ ne
others_stay plan w u e after (waits at want busy) t ne = set_other w.threads u t _ ne
others_stay plan w u e after (over at none out) t ne = set_other w.threads u t _ ne
others_stay plan w u e after (moves at none out) t ne = set_other w.threads u t _ ne

own_stays : (plan : Plan) (w : World) (t : ℕ) (e : Event) (after : World) → Turn plan w t e after → (n : ℕ) →
    OpenSince w t n →
    ((p : ℕ) → e ≡ Ended p → ⊥) → OpenSince after t n
own_stays plan w t e after idles n o not = o
own_stays plan w t e after (starts {thread} at is call) n o not =
    let same : Some thread ≡ Some o.1.0 = sym at ∙ o.1.1 in
    let as_one : thread ≡ o.1.0 = cc same in
    absurd (let bad : None ≡ Some o.0 = sym is ∙ (ap (λ x. x.active) as_one ∙ o.1.2) in cc bad)
own_stays plan w t e after (gets {thread} {a} at want free) n o not =
    (_, (_, get_set_same w.threads t thread _ at.at, refl), ap (λ x. x.begun) (same_open w t thread a o.0 at o.1) ∙ o.2)
own_stays plan w t e after (waits {thread} {a} at want busy) n o not =
    (_, (_, get_set_same w.threads t thread _ at.at, refl), ap (λ x. x.begun) (same_open w t thread a o.0 at o.1) ∙ o.2)
own_stays plan w t e after (over at none out) n o not = absurd (not (length w.history) refl)
own_stays plan w t e after (moves {thread} {a} at none out) n o not = (
  _,
  (_, get_set_same w.threads t thread _ at.at, refl),
  instructed_begun plan a (next_effect plan a) ∙ (ap (λ x. x.begun) (same_open w t thread a o.0 at o.1) ∙ o.2),
)

stays_open : (plan : Plan) (w : World) (u t n : ℕ) → OpenSince w t n →
    ((p : ℕ) → u ≡ t → (happens plan w u).0 ≡ Ended p → ⊥) →
    OpenSince (happens plan w u).1 t n
stays_open plan w u t n o not = elim (cases_eq u t) [
  | inl e ↦ subst (λ (k : ℕ). OpenSince (happens plan w k).1 t n) (sym e)
      (own_stays plan w t (happens plan w t).0 (happens plan w t).1 (turn plan w t) n o
      (λ p h. not p e (ap (λ (k : ℕ). (happens plan w k).0) e ∙ h)))
  | inr ne ↦ (o.0, (o.1.0, others_stay plan w u (happens plan w u).0 (happens plan w u).1 (turn plan w u) t ne ∙ o.1.1, o.1.2), o.2)
]

begun_turn : (plan : Plan) (w : World) (t : ℕ) (e : Event) (after : World) → Turn plan w t e after → e ≡ Began →
    OpenSince after t (length w.history) × (length after.history ≡ length w.history)
begun_turn plan w t e after idles h = absurd cc
begun_turn plan w t e after (starts {thread} at is call) h = ((_, (_, get_set_same w.threads t thread _ at, refl), refl), refl)
begun_turn plan w t e after (gets at want free) h = absurd cc
begun_turn plan w t e after (waits at want busy) h = absurd cc
begun_turn plan w t e after (over at none out) h = absurd cc
begun_turn plan w t e after (moves at none out) h = absurd cc

-- the position has an entry of the thread, with this length of the history
abbrev Noted : World → ℕ → ℕ → ℕ → Type 0
Noted after t p n = (c : Commit) × (slice_get after.history p ≡ Some c) × (c.thread ≡ t) × (c.begun ≡ n)

ended_turn : (plan : Plan) (w : World) (t : ℕ) (e : Event) (after : World) → Turn plan w t e after → (n p : ℕ) →
    OpenSince w t n →
    e ≡ Ended p → Noted after t p n
ended_turn plan w t e after idles n p o h = absurd cc
ended_turn plan w t e after (starts at is call) n p o h = absurd cc
ended_turn plan w t e after (gets at want free) n p o h = absurd cc
ended_turn plan w t e after (waits at want busy) n p o h = absurd cc
ended_turn plan w t e after (over {thread} {a} {outcome} at none out) n p o h =
    let place : length w.history ≡ p = cc in
    let c = commit t thread.step a outcome in (
      c,
      subst (λ (k : ℕ). slice_get (w.history ++ c ∷ []) k ≡ Some c) place (last_at w.history c),
      refl,
      ap (λ x. x.begun) (same_open w t thread a o.0 at o.1) ∙ o.2,
    )
ended_turn plan w t e after (moves at none out) n p o h = absurd cc

kept_after : (plan : Plan) (w : World) (steps : List ℕ) (p : ℕ) (c : Commit) → slice_get w.history p ≡ Some c →
    slice_get (world_after plan w steps).history p ≡ Some c
kept_after plan w [] p c h = h
kept_after plan w (t ∷ ts) p c h = kept_after plan (happens plan w t).1 ts p c ((step_end plan w t).kept p c h)

noted_after : (plan : Plan) (w : World) (steps : List ℕ) (t p n : ℕ) → Noted w t p n →
    Noted (world_after plan w steps) t p n
noted_after plan w steps t p n noted = (noted.0, kept_after plan w steps p noted.0 noted.1, noted.2, noted.3)

noted_from : (plan : Plan) (w : World) (steps : List ℕ) (t e p n : ℕ) → OpenSince w t n → slice_get steps e ≡ Some t →
    slice_get (events plan w steps) e ≡ Some (Ended p) →
    ((k q : ℕ) → k < e → slice_get steps k ≡ Some t → slice_get (events plan w steps) k ≡ Some (Ended q) → ⊥) →
    Noted (world_after plan w steps) t p n
noted_from plan w [] t e p n o at ended only = absurd cc
noted_from plan w (u ∷ us) t zero p n o at ended only =
    let mine : u ≡ t = cc in
    let e : (happens plan w u).0 ≡ Ended p = cc in
    let e' : (happens plan w t).0 ≡ Ended p = ap (λ (k : ℕ). (happens plan w k).0) (sym mine) ∙ e in
    let noted = ended_turn plan w t (happens plan w t).0 (happens plan w t).1 (turn plan w t) n p o e' in
    noted_after plan (happens plan w u).1 us t p n (subst (λ (k : ℕ). Noted (happens plan w k).1 t p n) (sym mine) noted)
noted_from plan w (u ∷ us) t (suc e) p n o at ended only =
    noted_from plan (happens plan w u).1 us t e p n
    (stays_open plan w u t n o (λ q same h. only 0 q (omega arith) (ap (λ (k : ℕ). Some k) same) (ap (λ (x : Event). Some x) h)))
    at ended (λ k q less h g. only (suc k) q (omega (arith, less)) h g)

-- the entry at `p` notes the length of the history at the section's begin
abbrev Entered : Plan → World → List ℕ → ℕ → ℕ → ℕ → Type 0
Entered plan w steps t b p =
    (c : Commit) × (slice_get (world_after plan w steps).history p ≡ Some c) × (c.thread ≡ t)
    × (c.begun ≡ length (world_after plan w (take b steps)).history) × (c.begun ≤ p)

entered_from : (plan : Plan) (w : World) (steps : List ℕ) (t b e p : ℕ) → b < e → slice_get steps b ≡ Some t →
    slice_get steps e ≡ Some t → slice_get (events plan w steps) b ≡ Some Began → slice_get (events plan w steps) e ≡ Some (Ended p) →
    ((k q : ℕ) → b < k → k < e → slice_get steps k ≡ Some t → slice_get (events plan w steps) k ≡ Some (Ended q) → ⊥) →
    Entered plan w steps t b p
entered_from plan w [] t b e p less at_b at_e began ended only = absurd cc
entered_from plan w (u ∷ us) t zero zero p less at_b at_e began ended only = absurd (omega (arith, less))
entered_from plan w (u ∷ us) t zero (suc e) p less at_b at_e began ended only =
    let mine : u ≡ t = cc in
    let now : (happens plan w u).0 ≡ Began = cc in
    let opened = begun_turn plan w u (happens plan w u).0 (happens plan w u).1 (turn plan w u) now in
    let mine_open = subst (λ (k : ℕ). OpenSince (happens plan w u).1 k (length w.history)) mine opened.0 in
    let noted = noted_from plan (happens plan w u).1 us t e p (length w.history) mine_open at_e ended
    (λ k q less' h g. only (suc k) q (omega arith) (omega (arith, less')) h g) in
    (noted.0, noted.1, noted.2, noted.3, omega (arith, noted.3, opened.1, ends_from plan (happens plan w u).1 us e p ended))
entered_from plan w (u ∷ us) t (suc b) zero p less at_b at_e began ended only = absurd (omega (arith, less))
entered_from plan w (u ∷ us) t (suc b) (suc e) p less at_b at_e began ended only =
    entered_from plan (happens plan w u).1 us t b e p (omega (arith, less)) at_b at_e began ended
    (λ k q l m h g. only (suc k) q (omega (arith, l)) (omega (arith, m)) h g)

pub have_entries : (plan : Plan) (steps : List ℕ) → HaveEntries plan steps
have_entries plan steps t b e p run =
    let entered = entered_from plan (opening_world plan) steps t b e p run.later run.begins_it run.ends_it run.began run.ended
    (λ k q l m h g. run.only k q l m h g) in
    record { entry = entered.0; there = entered.1; of_thread = entered.2; begun = entered.3; earlier = entered.4 }
