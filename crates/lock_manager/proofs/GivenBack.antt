-- The places of the cells of locks, after grants came back.
use Rattle.std.proofs.Common.{◌≡◌, ◌≢◌, ℕ, ◌+◌, ◌<◌, ◌≤◌, List, [], ◌∷◌, ◌++◌, length, take, map, set, Option, Some}
use Rattle.std.proofs.Common.{None, ◌⊎◌, inl, inr, refl, sym, ap, ◌∙◌, arith}
use Rattle.std.specs.Prelude.{slice_get}
use Rattle.std.specs.List.{Contains}
use Rattle.std.proofs.Math.ListN.{length-set}
use Rattle.std.proofs.lemmas.List.{take_more, take_all, map_push}
use Rattle.std.proofs.lemmas.Option.{slice_get_within, get_or_from_slice_get}
use Rattle.core_lang.specs.declared.value.Value.{Value}
use Rattle.locks.specs.declared.lock.Lock.{Lock}
use Rattle.layout.specs.LockCells.{cells_of}
use Rattle.layout.specs.Layouts.{LayoutOf}
use Rattle.moved_cells.specs.Working.Grants.{GrantOf, values_on, locks_of}
use Rattle.lock_manager.specs.declared.places.LockPlace.{LockPlace}
use Rattle.lock_manager.specs.declared.places.LockPlace.TheVariants.{Free}
use Rattle.lock_manager.specs.Working.Committed.{CommittedOf, members_of, lock_values, restored}
use Rattle.lock_manager.specs.Working.Managers.{number_from, put_number, put_for, given_back}
use Rattle.core_lang.specs.Typing.{lookup}
use Rattle.lock_manager.proofs.Lists.{first}
use Rattle.lock_manager.specs.Theory.Numbers.{number_at}
use Rattle.locks.specs.Theory.Order.{lock_cases}
use Rattle.core_lang.specs.Theory.Items.{set_same, contains_at, lookup_some, set_other, some_same, in_cases, in_rest}

pub put_at : (locks : List Lock) (places : List LockPlace) (lock : Lock) (place : LockPlace) (n : ℕ) →
    number_from 0 locks lock ≡ Some n → put_for locks places lock place ≡ set places n place
put_at locks places lock place n e = ap (λ o. put_number o places place) e

pub given_back-push : (locks : List Lock) (places : List LockPlace) (gs : List GrantOf) (g : GrantOf) →
    given_back locks places (gs ++ g ∷ []) ≡ given_back locks (put_for locks places g.lock (Free g.values)) gs
given_back-push locks places [] g = refl
given_back-push locks places (x ∷ gs) g = ap (λ ps. put_for locks ps x.lock (Free x.values)) (given_back-push locks places gs g)

-- the last grant comes back
pub one_given_back : (locks : List Lock) (places : List LockPlace) (all gs : List GrantOf) (g : GrantOf) (lock : Lock) (values : List Value) (n : ℕ) → all ≡ gs ++ g ∷ [] →
    lock ≡ g.lock → values ≡ g.values → number_from 0 locks lock ≡ Some n → given_back locks (set places n (Free values)) gs ≡ given_back locks places all
one_given_back locks places all gs g lock values n is same_lock same_values e =
    ap (λ ps. given_back locks ps gs)
    (sym (put_at locks places lock (Free values) n e)
    ∙ ap (λ (l : Lock). put_for locks places l (Free values)) same_lock
    ∙ ap (λ (vs : List Value). put_for locks places g.lock (Free vs)) same_values)
    ∙ sym (given_back-push locks places gs g)
    ∙ ap (given_back locks places) (sym is)

-- the last of these locks is restored
pub one_restored : (c : CommittedOf) (places : List LockPlace) (all gs : List GrantOf) (g : GrantOf) (lock : Lock) (values : List Value) (n : ℕ) → all ≡ gs ++ g ∷ [] →
    lock ≡ g.lock → values ≡ lock_values c lock → number_from 0 c.layout.locks lock ≡ Some n →
    given_back c.layout.locks (set places n (Free values)) (map (restored c) (locks_of gs)) ≡ given_back c.layout.locks places (map (restored c) (locks_of all))
one_restored c places all gs g lock values n is same_lock same_values e =
    one_given_back c.layout.locks places (map (restored c) (locks_of all)) (map (restored c) (locks_of gs)) (restored c g.lock) lock values n
    (ap (λ (xs : List GrantOf). map (restored c) (locks_of xs)) is ∙ ap (map (restored c)) (map_push (λ (x : GrantOf). x.lock) gs g) ∙ map_push (restored c) (locks_of gs) g.lock)
    same_lock (same_values ∙ ap (lock_values c) same_lock) e

-- ---- all places at first

pub one_place_more : (f : List ℕ →
    LockPlace) (xs : List (List ℕ)) (k : ℕ) (x : List ℕ) (places : List LockPlace) (place : LockPlace) → slice_get xs k ≡ Some x →
    places ≡ map f (take k xs) → place ≡ f x → places ++ place ∷ [] ≡ map f (take (k + 1) xs)
one_place_more f xs k x places place at so_far is =
    ap (λ (p : LockPlace). places ++ p ∷ []) is
    ∙ ap (λ (ps : List LockPlace). ps ++ f x ∷ []) so_far
    ∙ sym (map_push f (take k xs) x)
    ∙ ap (map f) (ap (λ (y : List ℕ). take k xs ++ y ∷ []) (sym (get_or_from_slice_get xs k x x at)) ∙ sym (take_more xs k x (slice_get_within xs k x at)))

map_twice : (values : List Value) (cell_locks locks : List Lock) →
    map (λ (r : List ℕ). Free (values_on values r)) (map (λ (l : Lock). cells_of cell_locks l) locks) ≡ map (λ (l : Lock). Free (values_on values (cells_of cell_locks l))) locks
map_twice values cell_locks [] = refl
map_twice values cell_locks (l ∷ ls) = ap (λ (ps : List LockPlace). Free (values_on values (cells_of cell_locks l)) ∷ ps) (map_twice values cell_locks ls)

pub all_places : (layout : LayoutOf) (values : List Value) (numbers : List (List ℕ)) (places : List LockPlace) (n : ℕ) → numbers ≡ members_of layout → length numbers ≤ n →
    places ≡ map (λ (r : List ℕ). Free (values_on values r)) (take n numbers) → places ≡ map (λ (l : Lock). Free (values_on values (cells_of layout.cell_locks l))) layout.locks
all_places layout values numbers places n are le is =
    is ∙ ap (map (λ (r : List ℕ). Free (values_on values r))) (take_all n numbers le ∙ are) ∙ map_twice values layout.cell_locks layout.locks

-- ---- by lock

-- where the cells of a lock are
abbrev pub place_in : List Lock → List LockPlace → Lock → Option LockPlace
place_in locks places lock = lookup (number_from 0 locks lock) (λ n. slice_get places n)

pub numbered_place : (locks : List Lock) (places : List LockPlace) (lock : Lock) (p : LockPlace) →
    place_in locks places lock ≡ Some p →
    (n : ℕ) × (number_from 0 locks lock ≡ Some n) × (slice_get places n ≡ Some p)
numbered_place locks places lock p e = lookup_some (number_from 0 locks lock) (λ n. slice_get places n) p e

pub place_listed : (locks : List Lock) (places : List LockPlace) (lock : Lock) (p : LockPlace) →
    place_in locks places lock ≡ Some p → Contains locks lock
place_listed locks places lock p e =
    let n = numbered_place locks places lock p e in
    let i = number_at 0 locks lock n.0 n.1 in
    contains_at locks i.0 lock i.2

pub place_at : (locks : List Lock) (places : List LockPlace) (lock : Lock) (n : ℕ) →
    number_from 0 locks lock ≡ Some n → place_in locks places lock ≡ slice_get places n
place_at locks places lock n e = ap (λ o. lookup o (λ k. slice_get places k)) e

-- a place that is put for a lock is the place of that lock
pub put_same : (locks : List Lock) (places : List LockPlace) (lock : Lock) (old p : LockPlace) →
    place_in locks places lock ≡ Some old → place_in locks (put_for locks places lock p) lock ≡ Some p
put_same locks places lock old p e =
    let n = numbered_place locks places lock old e in
    place_at locks (put_for locks places lock p) lock n.0 n.1
    ∙ ap (λ ps. slice_get ps n.0) (put_at locks places lock p n.0 n.1)
    ∙ set_same places n.0 p (slice_get_within places n.0 old n.2)

-- a place that is put for a lock leaves the places of other locks
put_other_at : (locks : List Lock) (places : List LockPlace) (lock other : Lock) (p : LockPlace) (o q : Option ℕ) →
    number_from 0 locks lock ≡ o → number_from 0 locks other ≡ q → lock ≢ other →
    lookup q (λ n. slice_get (put_number o places p) n) ≡ lookup q (λ n. slice_get places n)
put_other_at locks places lock other p None q a b ne = refl
put_other_at locks places lock other p (Some n) None a b ne = refl
put_other_at locks places lock other p (Some n) (Some k) a b ne =
    set_other places n k p (λ same.
    let i = number_at 0 locks lock n a in
    let j = number_at 0 locks other k b in
    let at : i.0 ≡ j.0 = omega (arith, i.1, j.1, same) in
    ne (some_same lock other (sym i.2 ∙ ap (slice_get locks) at ∙ j.2)))

pub put_other : (locks : List Lock) (places : List LockPlace) (lock other : Lock) (p : LockPlace) → lock ≢ other →
    place_in locks (put_for locks places lock p) other ≡ place_in locks places other
put_other locks places lock other p ne = put_other_at locks places lock other p (number_from 0 locks lock) (number_from 0 locks other) refl refl ne

length_put : (locks : List Lock) (places : List LockPlace) (lock : Lock) (p : LockPlace) (o : Option ℕ) →
    length (put_number o places p) ≡ length places
length_put locks places lock p None = refl
length_put locks places lock p (Some n) = length-set places n p

pub length-put : (locks : List Lock) (places : List LockPlace) (lock : Lock) (p : LockPlace) →
    length (put_for locks places lock p) ≡ length places
length-put locks places lock p = length_put locks places lock p (number_from 0 locks lock)

-- ---- after grants came back

pub length-given_back : (locks : List Lock) (places : List LockPlace) (gs : List GrantOf) →
    length (given_back locks places gs) ≡ length places
length-given_back locks places [] = refl
length-given_back locks places (g ∷ gs) = length-put locks (given_back locks places gs) g.lock (Free g.values) ∙ length-given_back locks places gs

-- a lock's place is free with the values of a grant, or is as it was before
pub back_cases : (locks : List Lock) (places : List LockPlace) (gs : List GrantOf) (lock : Lock) (p : LockPlace) →
    place_in locks (given_back locks places gs) lock ≡ Some p →
    ((g : GrantOf) × Contains gs g × (g.lock ≡ lock) × (Free g.values ≡ p)) ⊎ (((g : GrantOf) → Contains gs g → g.lock ≢ lock) × (place_in locks places lock ≡ Some p))
back_cases locks places [] lock p e = inr (λ g c. absurd (omega (arith, c.1)), e)
back_cases locks places (g ∷ gs) lock p e = elim (lock_cases g.lock lock) [
  | inl same ↦ (
      let n = numbered_place locks (given_back locks places (g ∷ gs)) lock p e in
      let found : number_from 0 locks g.lock ≡ Some n.0 = ap (number_from 0 locks) same.1 ∙ n.1 in
      let is = put_at locks (given_back locks places gs) g.lock (Free g.values) n.0 found in
      let lt : n.0 < length (given_back locks places gs) =
      omega (arith, slice_get_within (given_back locks places (g ∷ gs)) n.0 p n.2, length-put locks (given_back locks places gs) g.lock (Free g.values)) in
      inl (g, first g gs g refl, same.1, some_same (Free g.values) p (sym (set_same (given_back locks places gs) n.0 (Free g.values) lt) ∙ sym (ap (λ ps. slice_get ps n.0) is) ∙ n.2)))
  | inr other ↦ elim (back_cases locks places gs lock p (sym (put_other locks (given_back locks places gs) g.lock lock (Free g.values) other.1) ∙ e)) [
    | inl r ↦ inl (r.0, in_rest g r.0 gs r.1, r.2, r.3)
    | inr r ↦ inr (λ h c. elim (in_cases g h gs c) [ inl same ↦ (λ at. other.1 (ap (λ (x : GrantOf). x.lock) same ∙ at)) | inr rest ↦ r.0 h rest ], r.1)
  ]
]

-- the place of a lock without a grant is as it was before
pub back_kept : (locks : List Lock) (places : List LockPlace) (gs : List GrantOf) (lock : Lock) →
    ((g : GrantOf) → Contains gs g → g.lock ≢ lock) →
    place_in locks (given_back locks places gs) lock ≡ place_in locks places lock
back_kept locks places [] lock none = refl
back_kept locks places (g ∷ gs) lock none =
    put_other locks (given_back locks places gs) g.lock lock (Free g.values) (none g (first g gs g refl))
    ∙ back_kept locks places gs lock (λ h c. none h (in_rest g h gs c))
