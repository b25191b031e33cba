-- Grants, and the held locks by which they are found.
use Rattle.std.proofs.Common.{◌≡◌, ℕ, zero, suc, ◌+◌, ◌<◌, ◌≤◌, List, [], ◌∷◌, ◌++◌, length, take, set, get_or, Some}
use Rattle.std.proofs.Common.{refl, sym, ap, ◌∙◌, subst, arith}
use Rattle.std.proofs.Common.{Option, None, inl, inr}
use Rattle.std.specs.Prelude.{slice_get, MatchOption, is_some, ⊤}
use Rattle.std.specs.List.{All, Contains}
use Rattle.std.proofs.lemmas.Option.{none-some, same_Some, slice_get_within, get_or_from_slice_get}
use Rattle.std.proofs.lemmas.List.Elements.{All-nil}
use Rattle.std.proofs.lemmas.Bool.{cases_Bool}
use Rattle.core_lang.specs.declared.value.Value.{Value}
use Rattle.locks.specs.declared.lock.Lock.{Lock}
use Rattle.locks.specs.Locks.{among}
use Rattle.locks.specs.Theory.Order.{contains_among, among_contains}
use Rattle.layout.specs.LockCells.{cells_of, IsSlot}
use Rattle.moved_cells.specs.Working.Grants.{GrantOf, IsWhole, locks_of}
use Rattle.runner_machine.specs.declared.held_lock.HeldLock.{HeldLock}
use Rattle.runner_machine.specs.Working.Finding.{values_in, AreInRuns, IsHeldAt, IsNowhere, AreCounted, IsPlace, HasNoPlace}
use Rattle.runner_machine.specs.Working.Finding.{AreHeld, Holds}
use Rattle.runner_machine.specs.Working.Kept.{values_count, IsGrantAt, IsSpot, IsElsewhere, IsKept}
use Rattle.runner_machine.specs.Working.Noted.{NotesOf, AreNotes, AreEmptyNotes, EachOnce}
use Rattle.runner_machine.proofs.Granted.{spot_from, whole_at}

pub as_many_held : (gs : List GrantOf) (hs : List HeldLock) → AreHeld gs hs → length hs ≡ length gs
as_many_held [] [] are = refl
as_many_held [] (h ∷ hs) are = absurd are
as_many_held (g ∷ gs) [] are = absurd are
as_many_held (g ∷ gs) (h ∷ hs) are = ap suc (as_many_held gs hs are.2)

-- the cells of the first held locks are those of the first grants
pub counts_agree : (gs : List GrantOf) (hs : List HeldLock) (i : ℕ) → AreHeld gs hs →
    values_in (take i hs) ≡ values_count (take i gs)
counts_agree gs hs zero are = refl
counts_agree [] [] (suc i) are = refl
counts_agree [] (h ∷ hs) (suc i) are = absurd are
counts_agree (g ∷ gs) [] (suc i) are = absurd are
counts_agree (g ∷ gs) (h ∷ hs) (suc i) are = omega (arith, are.1, counts_agree gs hs i are.2)

pub all_counts_agree : (gs : List GrantOf) (hs : List HeldLock) → AreHeld gs hs → values_in hs ≡ values_count gs
all_counts_agree [] [] are = refl
all_counts_agree [] (h ∷ hs) are = absurd are
all_counts_agree (g ∷ gs) [] are = absurd are
all_counts_agree (g ∷ gs) (h ∷ hs) are = omega (arith, are.1, all_counts_agree gs hs are.2)

-- the grant of a held lock
pub record IsItsGrant (gs : List GrantOf) (i : ℕ) (h : HeldLock) : Type 0 where
  pub grant : GrantOf
  pub is : slice_get gs i ≡ Some grant
  pub lock_is : h.lock ≡ grant.lock
  pub count_is : h.count ≡ length grant.values

pub its_grant : (gs : List GrantOf) (hs : List HeldLock) (i : ℕ) (h : HeldLock) → AreHeld gs hs →
    slice_get hs i ≡ Some h → IsItsGrant gs i h
its_grant [] [] i h are at = absurd (none-some h at)
its_grant [] (x ∷ hs) i h are at = absurd are
its_grant (g ∷ gs) [] i h are at = absurd are
its_grant (g ∷ gs) (x ∷ hs) zero h are at =
    subst (λ (y : HeldLock). IsItsGrant (g ∷ gs) 0 y) (same_Some x h at)
    (record { grant = g; is = refl; lock_is = are.0; count_is = are.1 })
its_grant (g ∷ gs) (x ∷ hs) (suc i) h are at =
    let r : IsItsGrant gs i h = its_grant gs hs i h are.2 at in
    record { grant = r.grant; is = r.is; lock_is = r.lock_is; count_is = r.count_is }

-- a lock that isn't held has no grant
pub not_granted : (gs : List GrantOf) (hs : List HeldLock) (lock : Lock) → AreHeld gs hs → IsNowhere hs lock →
    Contains (locks_of gs) lock → ⊥
not_granted [] hs lock are out (i, lt, e) = omega (arith, lt)
not_granted (g ∷ gs) [] lock are out has = absurd are
not_granted (g ∷ gs) (h ∷ hs) lock are out (zero, lt, e) = out 0 h refl (are.0 ∙ e)
not_granted (g ∷ gs) (h ∷ hs) lock are out (suc i, lt, e) =
    not_granted gs hs lock are.2 (λ n x at. out (suc n) x at) (i, omega (arith, lt), e)

granted_lock : (gs : List GrantOf) (i : ℕ) (g : GrantOf) → slice_get gs i ≡ Some g → Contains (locks_of gs) g.lock
granted_lock [] i g at = absurd (none-some g at)
granted_lock (h ∷ gs) zero g at = (0, omega arith, ap (λ (x : GrantOf). x.lock) (same_Some h g at))
granted_lock (h ∷ gs) (suc i) g at = let c = granted_lock gs i g at in let less = c.1 in (suc c.0, omega (arith, less), c.2)

-- a lock is found if it has a grant
pub found_among : (gs : List GrantOf) (hs : List HeldLock) (lock : Lock) (found : Option ℕ) → AreHeld gs hs →
    MatchOption found (IsNowhere hs lock) (λ _. ⊤) → MatchOption found ⊤ (λ i. IsHeldAt hs lock i) →
    is_some found ≡ among (locks_of gs) lock
found_among gs hs lock None are out at =
    elim (cases_Bool (among (locks_of gs) lock)) [
      | inl e ↦ absurd (not_granted gs hs lock are out (among_contains (locks_of gs) lock e))
      | inr e ↦ sym e
    ]
found_among gs hs lock (Some i) are out at =
    let r : IsItsGrant gs i at.held = its_grant gs hs i at.held are at.is in
    let has : Contains (locks_of gs) lock =
    subst (Contains (locks_of gs)) (sym r.lock_is ∙ at.lock_is) (granted_lock gs i r.grant r.is) in
    sym (contains_among (locks_of gs) lock has)

-- ---- changes

pub held_pushed : (gs : List GrantOf) (hs : List HeldLock) (g : GrantOf) (h : HeldLock) → AreHeld gs hs →
    h.lock ≡ g.lock → h.count ≡ length g.values → AreHeld (gs ++ g ∷ []) (hs ++ h ∷ [])
held_pushed [] [] g h are lock count = (lock, count, tt)
held_pushed [] (x ∷ hs) g h are lock count = absurd are
held_pushed (y ∷ gs) [] g h are lock count = absurd are
held_pushed (y ∷ gs) (x ∷ hs) g h are lock count = (are.0, are.1, held_pushed gs hs g h are.2 lock count)

pub held_set : (gs : List GrantOf) (hs : List HeldLock) (i : ℕ) (g : GrantOf) (vs : List Value) → AreHeld gs hs →
    slice_get gs i ≡ Some g → length vs ≡ length g.values → AreHeld (set gs i (record g { values = vs })) hs
held_set [] hs i g vs are at long = are
held_set (y ∷ gs) [] i g vs are at long = absurd are
held_set (y ∷ gs) (x ∷ hs) zero g vs are at long =
    let same : y ≡ g = same_Some y g at in
    (are.0 ∙ ap (λ (z : GrantOf). z.lock) same, are.1 ∙ ap (λ (z : GrantOf). length z.values) same ∙ sym long, are.2)
held_set (y ∷ gs) (x ∷ hs) (suc i) g vs are at long = (are.0, are.1, held_set gs hs i g vs are.2 at long)

pub held_granted : (gs : List GrantOf) (hs : List HeldLock) (g : GrantOf) (gs' : List GrantOf) (hs' : List HeldLock)
    (lock : Lock) (count : ℕ) → AreHeld gs hs → gs' ≡ gs ++ g ∷ [] → (h : Holds hs lock count hs') → lock ≡ g.lock →
    count ≡ length g.values → AreHeld gs' hs'
held_granted gs hs g gs' hs' lock count are more h same long =
    subst (λ (xs : List GrantOf). AreHeld xs hs') (sym more)
    (subst (λ (ys : List HeldLock). AreHeld (gs ++ g ∷ []) ys) (sym h.is)
    (held_pushed gs hs g h.next are (h.lock_is ∙ same) (h.count_is ∙ long)))

-- ---- cells

pub counted : (cell_locks : List Lock) (gs : List GrantOf) (hs : List HeldLock) → AreHeld gs hs →
    All (IsWhole cell_locks) gs → AreCounted cell_locks hs
counted cell_locks gs hs are whole = λ i h at.
    let r : IsItsGrant gs i h = its_grant gs hs i h are at in
    let all : length r.grant.values ≡ length (cells_of cell_locks r.grant.lock) = whole_at cell_locks gs i r.grant whole r.is in
    r.count_is ∙ all ∙ ap (λ (l : Lock). length (cells_of cell_locks l)) (sym r.lock_is)

pub spot_at : (cell_locks : List Lock) (gs : List GrantOf) (hs : List HeldLock) (cell index offset place : ℕ) →
    AreHeld gs hs → AreInRuns hs → All (IsWhole cell_locks) gs →
    IsPlace cell_locks hs cell index offset place → IsSpot cell_locks gs cell index offset place
spot_at cell_locks gs hs cell index offset place are runs whole at =
    let r : IsItsGrant gs index at.held = its_grant gs hs index at.held are at.is in
    let first : at.held.first ≡ values_count (take index gs) = (runs index at.held at.is).first_is ∙ counts_agree gs hs index are in
    let grant : IsGrantAt gs at.held.lock index at.held.first =
    record { grant = r.grant; is = r.is; lock_is = sym r.lock_is; first_is = first } in
    subst (λ (n : ℕ). IsSpot cell_locks gs cell index offset n) (sym at.place_is)
    (spot_from cell_locks gs at.held.lock cell index at.held.first offset whole grant at.slot)

pub elsewhere_at : (cell_locks : List Lock) (gs : List GrantOf) (hs : List HeldLock) (cell : ℕ) → AreHeld gs hs →
    HasNoPlace cell_locks hs cell → IsElsewhere cell_locks gs cell
elsewhere_at cell_locks gs hs cell are out =
    record { other = λ lock is has. not_granted gs hs lock are (out.other lock is) has }

-- the place of a cell, by the held lock that is read at its index
pub place_at : (cell_locks : List Lock) (hs : List HeldLock) (cell : ℕ) (lock : Lock) (index offset : ℕ) (d : HeldLock) →
    (at : IsHeldAt hs lock index) → IsSlot cell_locks cell lock offset →
    IsPlace cell_locks hs cell index offset ((get_or hs index d).first + offset)
place_at cell_locks hs cell lock index offset d at slot = record {
  held = at.held;
  is = at.is;
  slot = subst (λ (l : Lock). IsSlot cell_locks cell l offset) (sym at.lock_is) slot;
  place_is = ap (λ (h : HeldLock). h.first + offset) (get_or_from_slice_get hs index at.held d at.is);
}

pub count_within : (hs : List HeldLock) (i : ℕ) (h : HeldLock) → slice_get hs i ≡ Some h →
    values_in (take i hs) + h.count ≤ values_in hs
count_within [] i h at = absurd (none-some h at)
count_within (x ∷ hs) zero h at = omega (arith, ap (λ (y : HeldLock). y.count) (same_Some x h at))
count_within (x ∷ hs) (suc i) h at = omega (arith, count_within hs i h at)

pub place_fits : (cell_locks : List Lock) (hs : List HeldLock) (cell : ℕ) (lock : Lock) (index offset : ℕ) (d : HeldLock) →
    AreInRuns hs → AreCounted cell_locks hs → (at : IsHeldAt hs lock index) → IsSlot cell_locks cell lock offset →
    (get_or hs index d).first + offset < values_in hs
place_fits cell_locks hs cell lock index offset d runs counts at slot =
    let within : offset < length (cells_of cell_locks lock) = slice_get_within (cells_of cell_locks lock) offset cell slot.offset_is in
    let count : at.held.count ≡ length (cells_of cell_locks lock) =
    counts index at.held at.is ∙ ap (λ (l : Lock). length (cells_of cell_locks l)) at.lock_is in
    omega (arith, ap (λ (h : HeldLock). h.first) (get_or_from_slice_get hs index at.held d at.is), within, count, (runs index at.held at.is).first_is, count_within hs index at.held at.is)

pub still_held : (gs gs' : List GrantOf) (hs hs' : List HeldLock) → AreHeld gs hs → gs' ≡ gs → hs' ≡ hs → AreHeld gs' hs'
still_held gs gs' hs hs' are e f =
    subst (λ (xs : List GrantOf). AreHeld xs hs') (sym e) (subst (λ (ys : List HeldLock). AreHeld gs ys) (sym f) are)

-- ---- none

pub none_held : (gs : List GrantOf) (hs : List HeldLock) → gs ≡ [] → hs ≡ [] → AreHeld gs hs
none_held [] [] e f = tt
none_held [] (h ∷ hs) e f = absurd (omega (arith, ap length f))
none_held (g ∷ gs) hs e f = absurd (omega (arith, ap length e))

pub no_runs : (hs : List HeldLock) → hs ≡ [] → AreInRuns hs
no_runs [] e = λ i h at. absurd (none-some h at)
no_runs (h ∷ hs) e = absurd (omega (arith, ap length e))

pub none_kept : (cell_locks : List Lock) (gs : List GrantOf) (reads writes : NotesOf) (locks cells : ℕ) →
    locks_of gs ≡ [] → AreEmptyNotes cells reads → AreEmptyNotes cells writes →
    IsKept cell_locks gs reads writes locks cells
none_kept cell_locks (g ∷ gs) reads writes locks cells none r w = absurd (omega (arith, ap length none))
none_kept cell_locks [] reads writes locks cells none r w = record {
  whole = All-nil (IsWhole cell_locks);
  distinct = λ i j lock at too. absurd (none-some lock at);
  reads_are = no_notes reads r;
  writes_are = no_notes writes w;
  reads_room = r.room;
  writes_room = w.room;
  locks_fit = omega arith;
  cells_fit = omega arith;
}
  where
    no_notes : (n : NotesOf) → AreEmptyNotes cells n → AreNotes [] n
    no_notes n e = record {
      marked = λ live k x at. absurd (none-some x (ap (λ (xs : List (ℕ × Value)). slice_get xs k) (sym e.list) ∙ at));
      once = subst EachOnce (sym e.list) tt;
      long = omega (arith, e.long, e.room);
    }
