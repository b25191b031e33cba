-- The list of all locks has each lock of the program, and nothing else.
use Rattle.std.proofs.Common.{◌≡◌, ℕ, zero, suc, ◌+◌, ◌<◌, List, [], ◌∷◌, ◌++◌, length, get_or, take, map, Option, Some}
use Rattle.std.proofs.Common.{None, inl, inr, refl, sym, ap, ◌∙◌, subst, arith, add-one, append_assoc}
use Rattle.std.specs.Prelude.{◌↔◌, slice_get}
use Rattle.std.specs.List.{Contains}
use Rattle.std.proofs.lemmas.Bool.{cases_lt}
use Rattle.std.proofs.lemmas.Option.{none-some, slice_get_within, slice_get-map}
use Rattle.std.proofs.lemmas.List.Elements.{Contains-append_left, Contains-append_right, Contains-append_cases}
use Rattle.core_lang.specs.declared.typed.LockClass.{LockClass}
use Rattle.core_lang.specs.declared.typed.LockClass.TheVariants as class
use Rattle.core_lang.specs.declared.typed.LockField.{LockField}
use Rattle.core_lang.specs.declared.typed.Struct.{Struct}
use Rattle.core_lang.specs.declared.typed.Typed.{Typed}
use Rattle.core_lang.specs.Typing.{struct_of}
use Rattle.core_lang.specs.WellFormed.{IsWellFormed}
use Rattle.locks.specs.declared.lock.Lock.{Lock}
use Rattle.locks.specs.Locks.{global_lock, IsLockOfClass, IsLock}
use Rattle.layout.specs.declared.places.ClassPlace.{ClassPlace}
use Rattle.layout.specs.declared.places.ClassPlace.TheVariants as place
use Rattle.layout.specs.Layouts.{if_global_lock, global_locks, lock_fields, object_struct, locks_of_object}
use Rattle.layout.specs.Layouts.{object_locks, all_locks}
use Rattle.layout.specs.Working.Numbers.{KnowFields, AreFields, class_place, locks_at}
use Rattle.layout.proofs.Lists.{take_one_more}
use Rattle.std.proofs.lemmas.List.{map_push}
use Rattle.layout.proofs.Locked.{object_there}
use Rattle.core_lang.specs.Theory.Items.{lookup_some, contains_at, at_contained, map_some, lookup_at, read_at, still_at}
use Rattle.core_lang.specs.Theory.Items.{last_at, map_at}

not_in_none : (x : Lock) → Contains [] x → ⊥
not_in_none x c = omega (arith, c.1)

alone : (x y : Lock) → Contains (x ∷ []) y → x ≡ y
alone x y (zero, lt, e) = e
alone x y (suc k, lt, e) = absurd (omega (arith, lt))

-- ---- each item of the list is a lock

global_is : (program : Typed) (n : ℕ) (o : Option LockClass) (lock : Lock) → slice_get program.classes.items n ≡ o →
    Contains (if_global_lock n o) lock → IsLock program lock
global_is program n None lock e c = absurd (not_in_none lock c)
global_is program n (Some (class.Global name)) lock e c =
    subst (IsLock program) (alone (global_lock n) lock c) (subst (IsLockOfClass program (global_lock n)) (sym e) refl)
global_is program n (Some (class.Field s l)) lock e c = absurd (not_in_none lock c)

globals_are : (program : Typed) (n : ℕ) (lock : Lock) → Contains (global_locks program n) lock → IsLock program lock
globals_are program zero lock c = absurd (not_in_none lock c)
globals_are program (suc n) lock c =
    elim (Contains-append_cases (global_locks program n) (if_global_lock n (slice_get program.classes.items n)) lock c) [
      | inl before ↦ globals_are program n lock before
      | inr here ↦ global_is program n (slice_get program.classes.items n) lock refl here
    ]

-- a lock field of an object's struct
pub record IsFieldOf (program : Typed) (object l : ℕ) (field : LockField) : Type 0 where
  pub structure : ℕ
  pub of : struct_of program.shape object ≡ Some structure
  pub class_is : slice_get program.classes.items field.class ≡ Some (class.Field structure l)

in_struct : (program : Typed) (object l : ℕ) (field : LockField) (x : Option Struct) → IsWellFormed program →
    object_struct program object ≡ x →
    slice_get (lock_fields x) l ≡ Some field → IsFieldOf program object l field
in_struct program object l field None well is e = absurd (none-some field e)
in_struct program object l field (Some x) well is e =
    let s = lookup_some (struct_of program.shape object) (λ (k : ℕ). slice_get program.structs.items k) x is in
    record { structure = s.0; of = s.1; class_is = well.protected.lock_field s.0 l x field s.2 e }

pub field_of : (program : Typed) (object l : ℕ) (field : LockField) → IsWellFormed program →
    slice_get (lock_fields (object_struct program object)) l ≡ Some field →
    IsFieldOf program object l field
field_of program object l field well e = in_struct program object l field (object_struct program object) well refl e

object_lock_is : (program : Typed) (object : ℕ) (lock : Lock) → IsWellFormed program →
    Contains (locks_of_object program object) lock → IsLock program lock
object_lock_is program object lock well c =
    let made : LockField → Lock = λ (x : LockField). record { class = x.class; object = object } in
    let fields = lock_fields (object_struct program object) in
    let at = at_contained (map made fields) lock c in
    let m = map_some made (slice_get fields at.0) lock (sym (slice_get-map made fields at.0) ∙ at.1) in
    let f = field_of program object at.0 m.0 well m.1 in
    subst (IsLock program) m.2 (subst (IsLockOfClass program (made m.0)) (sym f.class_is) f.of)

objects_are : (program : Typed) (n : ℕ) (lock : Lock) → IsWellFormed program →
    Contains (object_locks program n) lock → IsLock program lock
objects_are program zero lock well c = absurd (not_in_none lock c)
objects_are program (suc n) lock well c =
    elim (Contains-append_cases (object_locks program n) (locks_of_object program n) lock c) [
      | inl before ↦ objects_are program n lock well before
      | inr here ↦ object_lock_is program n lock well here
    ]

-- ---- each lock is listed

in_globals : (program : Typed) (n c : ℕ) (name : _) → c < n →
    slice_get program.classes.items c ≡ Some (class.Global name) → Contains (global_locks program n) (global_lock c)
in_globals program zero c name lt e = absurd (omega arith)
in_globals program (suc n) c name lt e =
    elim (cases_lt c n) [
      | inl less ↦ Contains-append_left (global_locks program n) (if_global_lock n (slice_get program.classes.items n)) (global_lock c) (in_globals program n c name less e)
      | inr ge ↦
          let same : c ≡ n = omega arith in
          let at_n : slice_get program.classes.items n ≡ Some (class.Global name) = subst (λ (k : ℕ). slice_get program.classes.items k ≡ Some (class.Global name)) same e in
          Contains-append_right (global_locks program n) (if_global_lock n (slice_get program.classes.items n)) (global_lock c)
          (subst (λ (o : Option LockClass). Contains (if_global_lock n o) (global_lock c)) (sym at_n) (0, omega arith, ap global_lock (sym same)))
    ]

in_objects : (program : Typed) (n o : ℕ) (lock : Lock) → o < n → Contains (locks_of_object program o) lock →
    Contains (object_locks program n) lock
in_objects program zero o lock lt c = absurd (omega arith)
in_objects program (suc n) o lock lt c =
    elim (cases_lt o n) [
      | inl less ↦ Contains-append_left (object_locks program n) (locks_of_object program n) lock (in_objects program n o lock less c)
      | inr ge ↦
          let same : o ≡ n = omega arith in
          Contains-append_right (object_locks program n) (locks_of_object program n) lock (subst (λ (k : ℕ). Contains (locks_of_object program k) lock) same c)
    ]

is_there : (program : Typed) (lock : Lock) (o : Option LockClass) → IsWellFormed program →
    slice_get program.classes.items lock.class ≡ o → IsLockOfClass program lock o →
    Contains (all_locks program) lock
is_there program lock None well at h = absurd h
is_there program lock (Some (class.Global name)) well at h =
    let n = length program.classes.items in
    let global : Contains (global_locks program n) (global_lock lock.class) = in_globals program n lock.class name (slice_get_within program.classes.items lock.class (class.Global name) at) at in
    let same : global_lock lock.class ≡ lock = ap (λ (k : ℕ). record { class = lock.class; object = k }) (sym h) in
    Contains-append_left (global_locks program n) (object_locks program (length program.shape.objects.items)) lock
    (subst (Contains (global_locks program n)) same global)
is_there program lock (Some (class.Field s l)) well at h =
    let n = length program.classes.items in
    let m = length program.shape.objects.items in
    let made : LockField → Lock = λ (x : LockField). record { class = x.class; object = lock.object } in
    let x = well.protected.class_field lock.class (class.Field s l) at in
    let field = x.2.0 in
    let struct_is : object_struct program lock.object ≡ Some x.0 = lookup_at (struct_of program.shape lock.object) s (λ (k : ℕ). slice_get program.structs.items k) h ∙ x.1 in
    let field_is : slice_get (lock_fields (object_struct program lock.object)) l ≡ Some field =
    subst (λ (o : Option Struct). slice_get (lock_fields o) l ≡ Some field) (sym struct_is) x.2.1 in
    let same : made field ≡ lock = ap (λ (k : ℕ). record { class = k; object = lock.object }) x.2.2 in
    let there : Contains (locks_of_object program lock.object) lock =
    subst (Contains (locks_of_object program lock.object)) same
    (contains_at (locks_of_object program lock.object) l (made field) (map_at made (lock_fields (object_struct program lock.object)) l field field_is)) in
    let o = object_there program lock.object s h in
    Contains-append_right (global_locks program n) (object_locks program m) lock
    (in_objects program m lock.object lock (slice_get_within program.shape.objects.items lock.object o.0 o.1) there)

pub listed : (program : Typed) → IsWellFormed program → (lock : Lock) →
    Contains (all_locks program) lock ↔ IsLock program lock
listed program well lock = (
  λ c. elim (Contains-append_cases (global_locks program (length program.classes.items)) (object_locks program (length program.shape.objects.items)) lock c) [
    | inl global ↦ globals_are program (length program.classes.items) lock global
    | inr object ↦ objects_are program (length program.shape.objects.items) lock well object
  ],
  λ h. is_there program lock (slice_get program.classes.items lock.class) well refl h,
)

-- ---- what the places of classes say

pub knows_more : (program : Typed) (n k : ℕ) (classes grown : List ClassPlace) (c : LockClass) →
    KnowFields program n classes → length classes ≡ n →
    slice_get program.classes.items n ≡ Some c → grown ≡ classes ++ class_place k c ∷ [] → KnowFields program (n + 1) grown
knows_more program n k classes grown c know long at is number s l lt e =
    elim (cases_lt number n) [
      | inl less ↦ subst (λ (cs : List ClassPlace). slice_get cs number ≡ Some (place.Field l)) (sym is) (still_at classes (class_place k c ∷ []) number (place.Field l) (know number s l less e))
      | inr ge ↦
          let same : n ≡ number = omega arith in
          let both : Some c ≡ Some (class.Field s l) = sym at ∙ ap (slice_get program.classes.items) same ∙ e in
          let c_is : c ≡ class.Field s l = cc in
          let last : slice_get (classes ++ class_place k c ∷ []) number ≡ Some (class_place k c) =
          subst (λ (j : ℕ). slice_get (classes ++ class_place k c ∷ []) j ≡ Some (class_place k c)) (long ∙ same) (last_at classes (class_place k c)) in
          subst (λ (cs : List ClassPlace). slice_get cs number ≡ Some (place.Field l)) (sym is) (last ∙ ap (λ (x : LockClass). Some (class_place k x)) c_is)
    ]

pub fields_known : (program : Typed) (object : ℕ) (classes : List ClassPlace) → IsWellFormed program →
    KnowFields program (length program.classes.items) classes →
    AreFields classes (lock_fields (object_struct program object))
fields_known program object classes well know l field e =
    let f = field_of program object l field well e in
    know field.class f.structure l (slice_get_within program.classes.items field.class (class.Field f.structure l) f.class_is) f.class_is

-- ---- one class or object more

pub one_class : (program : Typed) (n : ℕ) (c : LockClass) → slice_get program.classes.items n ≡ Some c →
    global_locks program (n + 1) ≡ global_locks program n ++ if_global_lock n (Some c)
one_class program n c at = rw add-one (ap (λ (o : Option LockClass). global_locks program n ++ if_global_lock n o) at)

pub one_object : (program : Typed) (locks : List Lock) (n : ℕ) →
    (locks ++ object_locks program n) ++ locks_of_object program n ≡ locks ++ object_locks program (n + 1)
one_object program locks n = rw add-one (append_assoc locks (object_locks program n) (locks_of_object program n))

-- one lock of an object more
pub one_more_lock : (object i : ℕ) (fields : List LockField) (x : LockField) (old before after : List Lock) →
    i < length fields → x ≡ get_or fields i x →
    before ≡ old ++ locks_at object (take i fields) → after ≡ before ++ record { class = x.class; object = object } ∷ [] → after ≡ old ++ locks_at object (take (i + 1) fields)
one_more_lock object i fields x old before after lt is at more =
    let made : LockField → Lock = λ (y : LockField). record { class = y.class; object = object } in
    more ∙ ap (λ (ls : List Lock). ls ++ made x ∷ []) at
    ∙ append_assoc old (locks_at object (take i fields)) (made x ∷ [])
    ∙ ap (λ (ls : List Lock). old ++ ls)
    (sym (map_push made (take i fields) x) ∙ ap (locks_at object) (sym (take_one_more fields i x (read_at fields i x lt is)) ∙ ap (λ (k : ℕ). take k fields) (sym (add-one i))))
