-- Locks found at their numbers.
use Rattle.std.proofs.Common.{◌≡◌, ℕ, ◌+◌, Bool, true, false, if◌then◌else◌, List, [], ◌∷◌, ◌++◌, get_or, length}
use Rattle.std.proofs.Common.{IsTrue, Option, Some, None, inl, inr, refl, sym, ap, ◌∙◌, subst}
use Rattle.std.specs.Prelude.{slice_get}
use Rattle.std.specs.List.{Contains}
use Rattle.std.proofs.lemmas.Option.{none-some, same_Some, slice_get_within}
use Rattle.locks.specs.declared.lock.Lock.{Lock}
use Rattle.layout.specs.declared.places.ClassPlace.{ClassPlace}
use Rattle.layout.specs.declared.places.ClassPlace.TheVariants as place
use Rattle.layout.specs.Layouts.{AreDistinct}
use Rattle.layout.specs.Working.Numbers.{number_at, number_of, AreNumbered}
use Rattle.core_lang.specs.Theory.Items.{lookup_some, contains_at, at_contained, both_false, lookup_at, read_at}
use Rattle.core_lang.specs.Theory.Items.{pushed_at, still_at}

-- ---- the lock that is found

pub record IsFound (classes : List ClassPlace) (objects : List ℕ) (locks : List Lock) (lock : Lock) : Type 0 where
  pub number : ℕ
  pub here : slice_get locks number ≡ Some lock
  pub class : ClassPlace
  pub class_is : slice_get classes lock.class ≡ Some class
  pub number_is : number_at class (slice_get objects lock.object) ≡ Some number

pub found_at : (classes : List ClassPlace) (objects : List ℕ) (locks : List Lock) (lock : Lock) →
    AreNumbered classes objects locks →
    (n : ℕ) → slice_get locks n ≡ Some lock → IsFound classes objects locks lock
found_at classes objects locks lock are n here =
    let l = lookup_some (slice_get classes lock.class) (λ (p : ClassPlace). number_at p (slice_get objects lock.object)) n (are n lock here) in
    record { number = n; here = here; class = l.0; class_is = l.1; number_is = l.2 }

pub found : (classes : List ClassPlace) (objects : List ℕ) (locks : List Lock) (lock : Lock) →
    AreNumbered classes objects locks →
    Contains locks lock → IsFound classes objects locks lock
found classes objects locks lock are c =
    let n = at_contained locks lock c in
    found_at classes objects locks lock are n.0 n.1

-- the place of an object's lock
pub record IsAt (objects : List ℕ) (object l number : ℕ) : Type 0 where
  pub place : ℕ
  pub here : slice_get objects object ≡ Some place
  pub sum : place + l ≡ number

pub at_field : (objects : List ℕ) (object l number : ℕ) →
    number_at (place.Field l) (slice_get objects object) ≡ Some number →
    IsAt objects object l number
at_field objects object l number e =
    let x = lookup_some (slice_get objects object) (λ (p : ℕ). Some (p + l)) number e in
    record { place = x.0; here = x.1; sum = let same : Some (x.0 + l) ≡ Some number = x.2 in cc }

pub at_global : (object : Option ℕ) (n number : ℕ) → number_at (place.Global n) object ≡ Some number → n ≡ number
at_global object n number e = cc

-- ---- growth

pub more_classes : (b : Bool) (classes : List ClassPlace) (objects : List ℕ) (locks : List Lock) (p : ClassPlace) →
    AreNumbered classes objects locks →
    AreNumbered (if b then classes ++ p ∷ [] else classes) objects locks
more_classes false classes objects locks p are = are
more_classes true classes objects locks p are = λ n lock e.
    let x = lookup_some (slice_get classes lock.class) (λ (q : ClassPlace). number_at q (slice_get objects lock.object)) n (are n lock e) in
    lookup_at (slice_get (classes ++ p ∷ []) lock.class) x.0 (λ (q : ClassPlace). number_at q (slice_get objects lock.object)) (still_at classes (p ∷ []) lock.class x.0 x.1) ∙ x.2

still_number : (objects : List ℕ) (x : ℕ) (object n : ℕ) (c : ClassPlace) →
    number_at c (slice_get objects object) ≡ Some n →
    number_at c (slice_get (objects ++ x ∷ []) object) ≡ Some n
still_number objects x object n (place.Global number) e = e
still_number objects x object n (place.Field l) e =
    let y = at_field objects object l n e in
    lookup_at (slice_get (objects ++ x ∷ []) object) y.place (λ (p : ℕ). Some (p + l)) (still_at objects (x ∷ []) object y.place y.here) ∙ ap Some y.sum

pub more_objects : (b : Bool) (classes : List ClassPlace) (objects : List ℕ) (locks : List Lock) (p : ℕ) →
    AreNumbered classes objects locks →
    AreNumbered classes (if b then objects ++ p ∷ [] else objects) locks
more_objects false classes objects locks p are = are
more_objects true classes objects locks p are = λ n lock e.
    let x = lookup_some (slice_get classes lock.class) (λ (q : ClassPlace). number_at q (slice_get objects lock.object)) n (are n lock e) in
    lookup_at (slice_get classes lock.class) x.0 (λ (q : ClassPlace). number_at q (slice_get (objects ++ p ∷ []) lock.object)) x.1
    ∙ still_number objects p lock.object n x.0 x.2

pub more_locks : (b : Bool) (classes : List ClassPlace) (objects : List ℕ) (locks : List Lock) (more : Lock) →
    AreNumbered classes objects locks →
    number_of classes objects more ≡ Some (length locks) → AreNumbered classes objects (if b then locks ++ more ∷ [] else locks)
more_locks false classes objects locks more are e = are
more_locks true classes objects locks more are e = λ n lock at.
    elim (pushed_at locks more n lock at) [
      | inl old ↦ are n lock old
      | inr new ↦ subst (λ (x : Lock). number_of classes objects x ≡ Some n) new.1 (e ∙ ap Some (sym new.0))
    ]

-- the number of a global lock, and of an object's lock
pub global_number : (classes : List ClassPlace) (objects : List ℕ) (n : ℕ) →
    number_of (classes ++ place.Global n ∷ []) objects (record { class = length classes; object = 0 }) ≡ Some n
global_number classes objects n =
    lookup_at (slice_get (classes ++ place.Global n ∷ []) (length classes)) (place.Global n) (λ (p : ClassPlace). number_at p (slice_get objects 0)) (last_here classes (place.Global n))
  where
    last_here : (cs : List ClassPlace) (c : ClassPlace) → slice_get (cs ++ c ∷ []) (length cs) ≡ Some c
    last_here [] c = refl
    last_here (x ∷ cs) c = last_here cs c

pub field_number : (classes : List ClassPlace) (objects : List ℕ) (c l object : ℕ) (x : ℕ) →
    slice_get classes c ≡ Some (place.Field l) →
    slice_get objects object ≡ Some x → number_of classes objects (record { class = c; object = object }) ≡ Some (x + l)
field_number classes objects c l object x at_c at_o =
    lookup_at (slice_get classes c) (place.Field l) (λ (p : ClassPlace). number_at p (slice_get objects object)) at_c
    ∙ lookup_at (slice_get objects object) x (λ (p : ℕ). Some (p + l)) at_o

-- ---- no lock has two numbers

pub distinct : (classes : List ClassPlace) (objects : List ℕ) (locks : List Lock) →
    AreNumbered classes objects locks → AreDistinct locks
distinct classes objects locks are i j lock at_i at_j = let e : Some i ≡ Some j = sym (are i lock at_i) ∙ are j lock at_j in cc

-- ---- the class of a lock that is found

module _ (classes : List ClassPlace) (objects : List ℕ) (locks : List Lock) (lock : Lock) (f : IsFound classes objects locks lock) (read : ClassPlace)
    (is_read : read ≡ get_or classes lock.class read) where
  pub class_read : f.class ≡ read
  class_read =
      let e : Some f.class ≡ Some read = sym f.class_is ∙ read_at classes lock.class read (slice_get_within classes lock.class f.class f.class_is) is_read in
      cc

  pub in_field : (l : ℕ) → read ≡ place.Field l → IsAt objects lock.object l f.number
  in_field l e =
      at_field objects lock.object l f.number
      (subst (λ (p : ClassPlace). number_at p (slice_get objects lock.object) ≡ Some f.number) (class_read ∙ e) f.number_is)

  pub in_global : (n : ℕ) → read ≡ place.Global n → slice_get locks n ≡ Some lock
  in_global n e =
      let same = at_global (slice_get objects lock.object) n f.number
      (subst (λ (p : ClassPlace). number_at p (slice_get objects lock.object) ≡ Some f.number) (class_read ∙ e) f.number_is) in
      subst (λ (k : ℕ). slice_get locks k ≡ Some lock) (sym same) f.here

  -- the place that is read of its object
  pub sum_read : (l : ℕ) (x : ℕ) → read ≡ place.Field l → x ≡ get_or objects lock.object x → x + l ≡ f.number
  sum_read l x e is_x =
      let at = in_field l e in
      let same : Some at.place ≡ Some x = sym at.here ∙ read_at objects lock.object x (slice_get_within objects lock.object at.place at.here) is_x in
      let same_place : at.place ≡ x = cc in
      subst (λ (p : ℕ). p + l ≡ f.number) same_place at.sum

-- ---- one more class, and one more lock of an object

pub global_added : (b : Bool) (classes grown : List ClassPlace) (objects : List ℕ) (locks more : List Lock) (n k : ℕ) → AreNumbered classes objects locks →
    n ≡ length locks → k ≡ length classes → grown ≡ classes ++ place.Global n ∷ [] →
    more ≡ (if b then locks ++ record { class = k; object = 0 } ∷ [] else locks) → AreNumbered grown objects more
global_added b classes grown objects locks more n k are is_n is_k is_grown is_more =
    let are_grown : AreNumbered grown objects locks = subst (λ (cs : List ClassPlace). AreNumbered cs objects locks) (sym is_grown) (more_classes true classes objects locks (place.Global n) are) in
    let at_k : number_of (classes ++ place.Global n ∷ []) objects (record { class = k; object = 0 }) ≡ Some n =
    subst (λ (j : ℕ). number_of (classes ++ place.Global n ∷ []) objects (record { class = j; object = 0 }) ≡ Some n) (sym is_k) (global_number classes objects n) in
    let at_grown : number_of grown objects (record { class = k; object = 0 }) ≡ Some n =
    subst (λ (cs : List ClassPlace). number_of cs objects (record { class = k; object = 0 }) ≡ Some n) (sym is_grown) at_k in
    subst (λ (ls : List Lock). AreNumbered grown objects ls) (sym is_more) (more_locks b grown objects locks (record { class = k; object = 0 }) are_grown (at_grown ∙ ap Some is_n))

pub class_added : (b : Bool) (classes grown : List ClassPlace) (objects : List ℕ) (locks : List Lock) (p : ClassPlace) → AreNumbered classes objects locks →
    grown ≡ (if b then classes ++ p ∷ [] else classes) → AreNumbered grown objects locks
class_added b classes grown objects locks p are is_grown =
    subst (λ (cs : List ClassPlace). AreNumbered cs objects locks) (sym is_grown) (more_classes b classes objects locks p are)

pub object_added : (b : Bool) (classes : List ClassPlace) (objects grown : List ℕ) (locks : List Lock) (p : ℕ) →
    AreNumbered classes objects locks →
    grown ≡ (if b then objects ++ p ∷ [] else objects) → AreNumbered classes grown locks
object_added b classes objects grown locks p are is_grown =
    subst (λ (os : List ℕ). AreNumbered classes os locks) (sym is_grown) (more_objects b classes objects locks p are)

pub field_added : (b : Bool) (classes : List ClassPlace) (objects : List ℕ) (locks more : List Lock) (c l object : ℕ) (x : ℕ) → AreNumbered classes objects locks →
    slice_get classes c ≡ Some (place.Field l) → slice_get objects object ≡ Some x → length locks ≡ x + l →
    more ≡ (if b then locks ++ record { class = c; object = object } ∷ [] else locks) → AreNumbered classes objects more
field_added b classes objects locks more c l object x are at_c at_o long is_more =
    subst (λ (ls : List Lock). AreNumbered classes objects ls) (sym is_more)
    (more_locks b classes objects locks (record { class = c; object = object }) are (field_number classes objects c l object x at_c at_o ∙ ap Some (sym long)))

-- ---- whether a lock is one of the locks

pub none_there : (locks : List Lock) (n : ℕ) (lock : Lock) → slice_get locks n ≡ None →
    (IsTrue false → slice_get locks n ≡ Some lock) × (slice_get locks n ≡ Some lock → IsTrue false)
none_there locks n lock none = both_false (λ at. none-some lock (sym none ∙ at))

pub has_none : (locks : List Lock) (lock : Lock) →
    ((n : ℕ) → slice_get locks n ≡ Some lock → ◌≡◌ {A = Option ℕ} None (Some n)) →
    (IsTrue false → Contains locks lock) × (Contains locks lock → IsTrue false)
has_none locks lock nowhere = both_false (λ c. let n = at_contained locks lock c in none-some n.0 (nowhere n.0 n.1))

pub has_found : (locks : List Lock) (lock : Lock) (k : ℕ) (b : Bool) →
    (IsTrue b → slice_get locks k ≡ Some lock) × (slice_get locks k ≡ Some lock → IsTrue b) →
    ((n : ℕ) → slice_get locks n ≡ Some lock → Some k ≡ Some n) → (IsTrue b → Contains locks lock) × (Contains locks lock → IsTrue b)
has_found locks lock k b at only = (
  λ t. contains_at locks k lock (at.0 t),
  λ c. let n = at_contained locks lock c in at.1 (subst (λ (m : ℕ). slice_get locks m ≡ Some lock) (sym (same_Some k n.0 (only n.0 n.1))) n.1),
)
