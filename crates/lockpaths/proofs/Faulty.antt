-- The noted faults are those of the program.
use Rattle.std.proofs.Common.{◌≡◌, ℕ, zero, suc, Bool, true, false, List, [], ◌∷◌, ◌++◌, length, map, Option, Some}
use Rattle.std.proofs.Common.{None, inl, inr, refl, sym, ap, ◌∙◌, subst, append-nil, append_assoc}
use Rattle.std.specs.Prelude.{slice_get, ◌==◌, if◌then◌else◌}
use Rattle.std.specs.List.{Contains, cons_option, flat_map}
use Rattle.std.proofs.lemmas.Bool.{eqb-true, eq-eqb, both_ways, false_from_ne_true}
use Rattle.std.proofs.lemmas.Option.{none-some}
use Rattle.source.specs.declared.fault.Code.{Code}
use Rattle.source.specs.declared.fault.Code.TheVariants.{UnstableBase, LimitExceeded}
use Rattle.source.specs.declared.mistake.Mistake.{Mistake}
use Rattle.source.specs.Mistakes.{lesser, least_of, goes_before}
use Rattle.source.specs.Theory.Leasts.{IsAmong, least_in, least_none, none_before, among_left, among_right}
use Rattle.source.specs.Theory.Leasts.{among_either}
use Rattle.core_lang.specs.declared.tree.Section.{Section}
use Rattle.core_lang.specs.declared.typed.Typed.{Typed}
use Rattle.locks.specs.Accesses.{Access, accesses}
use Rattle.flow.specs.Points.{Point, points}
use Rattle.locks.specs.LockPaths.{StablePath, LockPath, stable, each_once, lock_path, paths_of}
use Rattle.locks.specs.Faults.{HasSection, Named, where_at, IsUnstable, unstable, IsUnstableOwner, unstable_owner}
use Rattle.locks.specs.Faults.{IsOverLimit, one_too_many, IsFault, unstable_base, unstable_owner_base, over_limit}
use Rattle.locks.specs.Faults.{HasNoFault}
use Rattle.locks.specs.Working.Laws.{SamePathDecides}
use Rattle.lockpaths.specs.Working.Gathering.{is_in}
use Rattle.lockpaths.specs.Working.Faulted.{fault_of, faults_behind, fault_unless, where_fault, owner_fault, faults_in}
use Rattle.lockpaths.specs.Working.Faulted.{faults_of}
use Rattle.lockpaths.proofs.Contained.{in_middle, around}
use Rattle.lockpaths.proofs.Once.{is_in_contains, contains_is_in}
use Rattle.lockpaths.proofs.Accessed.{lesser_is}
use Rattle.core_lang.specs.Theory.Items.{not_in_none, in_cases, contains_at}

-- ---- lists of faults

from_each : {A : Type 0} (f : Mistake) (h : A → List Mistake) (xs : List A) → IsAmong f (flat_map h xs) →
    (k : ℕ) × (x : A) × (slice_get xs k ≡ Some x) × IsAmong f (h x)
from_each f h [] i = absurd i
from_each f h (x ∷ xs) i =
    elim (among_either f (h x) (flat_map h xs) i) [
      | inl l ↦ (0, x, refl, l)
      | inr r ↦ let d = from_each f h xs r in (suc d.0, d.1, d.2, d.3)
    ]

to_each : {A : Type 0} (f : Mistake) (h : A → List Mistake) (xs : List A) (k : ℕ) (x : A) → slice_get xs k ≡ Some x →
    IsAmong f (h x) → IsAmong f (flat_map h xs)
to_each f h [] k x e i = absurd (none-some x e)
to_each {A = A} f h (y ∷ xs) zero x e i =
    let same : y ≡ x = cc in among_left f (h y) (flat_map h xs) (subst (λ (z : A). IsAmong f (h z)) (sym same) i)
to_each f h (y ∷ xs) (suc k) x e i = among_right f (h y) (flat_map h xs) (to_each f h xs k x e i)

to_contained : {A : Type 0} (f : Mistake) (h : A → List Mistake) (xs : List A) (x : A) → Contains xs x →
    IsAmong f (h x) → IsAmong f (flat_map h xs)
to_contained f h [] x c i = absurd (not_in_none x c)
to_contained {A = A} f h (y ∷ xs) x c i =
    elim (in_cases y x xs c) [
      | inl e ↦ among_left f (h y) (flat_map h xs) (subst (λ (z : A). IsAmong f (h z)) (sym e) i)
      | inr d ↦ among_right f (h y) (flat_map h xs) (to_contained f h xs x d i)
    ]

some_least : (gs : List Mistake) (f : Option Mistake) → (f ≡ None → ⊥) → least_of f gs ≡ None → ⊥
some_least [] f h e = h e
some_least (g ∷ gs) f h e = some_least gs (lesser f g) (lesser_is f g) e

pub still_none : (o : Option Mistake) (gs : List Mistake) → least_of o gs ≡ None → o ≡ None
still_none None gs e = refl
still_none (Some f) gs e = absurd (some_least gs (Some f) (λ h. none-some f (sym h)) e)

pub none_found : (o : Option Mistake) (gs : List Mistake) → least_of o gs ≡ None → gs ≡ []
none_found o gs e = least_none gs (ap (λ x. least_of x gs) (sym (still_none o gs e)) ∙ e)

-- ---- of one section

module _ (program : Typed) (section : Section) where
  from_behind : (f : Mistake) (before rest : List Access) → IsAmong f (faults_behind program section before rest) →
      (front : List Access) × (a : Access) × (back : List Access) × (before ++ rest ≡ front ++ a ∷ back)
      × IsAmong f (fault_of (paths_of program section front) a.start (lock_path program section a))
  from_behind f before [] i = absurd i
  from_behind f before (a ∷ rest) i =
      elim (among_either f (fault_of (paths_of program section before) a.start (lock_path program section a)) (faults_behind program section (before ++ a ∷ []) rest) i) [
        | inl l ↦ (before, a, rest, refl, l)
        | inr r ↦
            let d = from_behind f (before ++ a ∷ []) rest r in
            (d.0, d.1, d.2, sym (append_assoc before (a ∷ []) rest) ∙ d.3, d.4)
      ]

  to_behind : (f : Mistake) (before front back : List Access) (a : Access) →
      IsAmong f (fault_of (paths_of program section (before ++ front)) a.start (lock_path program section a)) →
      IsAmong f (faults_behind program section before (front ++ a ∷ back))
  to_behind f before [] back a i =
      among_left f (fault_of (paths_of program section before) a.start (lock_path program section a)) (faults_behind program section (before ++ a ∷ []) back)
      (subst (λ (l : List Access). IsAmong f (fault_of (paths_of program section l) a.start (lock_path program section a))) (append-nil before) i)
  to_behind f before (x ∷ front) back a i =
      among_right f (fault_of (paths_of program section before) x.start (lock_path program section x)) (faults_behind program section (before ++ x ∷ []) (front ++ a ∷ back))
      (to_behind f (before ++ x ∷ []) front back a
      (subst (λ (l : List Access). IsAmong f (fault_of (paths_of program section l) a.start (lock_path program section a))) (sym (append_assoc before (x ∷ []) front)) i))

  to_section : (f : Mistake) (front back : List Access) (a : Access) → accesses section ≡ front ++ a ∷ back →
      IsAmong f (fault_of (paths_of program section front) a.start (lock_path program section a)) → IsAmong f (faults_in program section)
  to_section f front back a e i =
      among_left f (faults_behind program section [] (accesses section)) (flat_map (owner_fault section) (points section))
      (subst (λ (l : List Access). IsAmong f (faults_behind program section [] l)) (sym e) (to_behind f [] front back a i))

  to_owner : (f : Mistake) (point : Point) → Contains (points section) point → IsAmong f (owner_fault section point) →
      IsAmong f (faults_in program section)
  to_owner f point c i =
      among_right f (faults_behind program section [] (accesses section)) (flat_map (owner_fault section) (points section))
      (to_contained f (owner_fault section) (points section) point c i)

  no_first : (xs ys : List Mistake) → xs ++ ys ≡ [] → xs ≡ []
  no_first [] ys e = refl
  no_first (x ∷ xs) ys e = absurd cc

  no_parts : (xs ys : List Mistake) → xs ++ ys ≡ [] → ys ≡ []
  no_parts [] ys e = e
  no_parts (x ∷ xs) ys e = absurd cc

  each_has : (before rest : List Access) → faults_behind program section before rest ≡ [] →
      map Some (paths_of program section rest) ≡ map (lock_path program section) rest
  each_has before [] e = refl
  each_has before (a ∷ rest) e =
      one_has (lock_path program section a) e (each_has (before ++ a ∷ []) rest)
    where
      one_has : (o : Option LockPath) →
          fault_of (paths_of program section before) a.start o ++ faults_behind program section (before ++ a ∷ []) rest ≡ [] →
          (faults_behind program section (before ++ a ∷ []) rest ≡ [] → map Some (paths_of program section rest) ≡ map (lock_path program section) rest) →
          map Some (cons_option o (paths_of program section rest)) ≡ o ∷ map (lock_path program section) rest
      one_has None e more = absurd cc
      one_has (Some path) e more = ap (λ l. Some path ∷ l) (more (no_parts (fault_of (paths_of program section before) a.start (Some path)) (faults_behind program section (before ++ a ∷ []) rest) e))

  pub all_have : faults_in program section ≡ [] →
      map Some (paths_of program section (accesses section)) ≡ map (lock_path program section) (accesses section)
  all_have e = each_has [] (accesses section) (no_first (faults_behind program section [] (accesses section)) (flat_map (owner_fault section) (points section)) e)

-- ---- of the program

module _ (decides : SamePathDecides) (program : Typed) where
  limit_fault : (f : Mistake) (section : Section) (front back : List Access) (a : Access) (path : LockPath) (t u : Bool) → HasSection program section → accesses section ≡ front ++ a ∷ back →
      lock_path program section a ≡ Some path → is_in path (paths_of program section front) ≡ t → (length (each_once (paths_of program section front)) == 64) ≡ u →
      IsAmong f (if t then [] else if u then record { code = LimitExceeded; start = a.start } ∷ [] else []) → IsFault program f.code f.start
  limit_fault f section front back a path true u has e is t i among = absurd among
  limit_fault f section front back a path false false has e is t i among = absurd among
  limit_fault f section front back a path false true has e is t i (inr none) = absurd none
  limit_fault f section front back a path false true has e is t i (inl same) =
      subst (λ (m : Mistake). IsFault program m.code m.start) (sym same)
      (over_limit (one_too_many front back a has e (eqb-true (length (each_once (paths_of program section front))) 64 i) is
      (λ c. both_ways (is_in path (paths_of program section front)) t (contains_is_in decides path (paths_of program section front) c))))

  access_fault : (f : Mistake) (section : Section) (front back : List Access) (a : Access) (o : Option LockPath) →
      HasSection program section → accesses section ≡ front ++ a ∷ back →
      lock_path program section a ≡ o → IsAmong f (fault_of (paths_of program section front) a.start o) → IsFault program f.code f.start
  access_fault f section front back a None has e is (inl same) =
      subst (λ (m : Mistake). IsFault program m.code m.start) (sym same)
      (unstable_base (unstable has (subst (λ (l : List Access). Contains l a) (sym e) (in_middle front back a)) is))
  access_fault f section front back a None has e is (inr none) = absurd none
  access_fault f section front back a (Some path) has e is among =
      limit_fault f section front back a path (is_in path (paths_of program section front)) (length (each_once (paths_of program section front)) == 64) has e is refl refl among

  unless_fault : (f : Mistake) (section : Section) (point : Point) (owner : Named) (o : Option StablePath) →
      HasSection program section → Contains (points section) point →
      where_at point ≡ Some owner → stable section owner.local [] ≡ o → IsAmong f (fault_unless owner.start o) → IsFault program f.code f.start
  unless_fault f section point owner None has c at is (inl same) =
      subst (λ (m : Mistake). IsFault program m.code m.start) (sym same) (unstable_owner_base (unstable_owner has c at is))
  unless_fault f section point owner None has c at is (inr none) = absurd none
  unless_fault f section point owner (Some path) has c at is among = absurd among

  where_true : (f : Mistake) (section : Section) (point : Point) (o : Option Named) → HasSection program section →
      Contains (points section) point → where_at point ≡ o →
      IsAmong f (where_fault section o) → IsFault program f.code f.start
  where_true f section point None has c at among = absurd among
  where_true f section point (Some owner) has c at among = unless_fault f section point owner (stable section owner.local []) has c at refl among

  in_section : (f : Mistake) (section : Section) → HasSection program section →
      IsAmong f (faults_in program section) → IsFault program f.code f.start
  in_section f section has i =
      elim (among_either f (faults_behind program section [] (accesses section)) (flat_map (owner_fault section) (points section)) i) [
        | inl l ↦
            let r = from_behind program section f [] (accesses section) l in
            access_fault f section r.0 r.2 r.1 (lock_path program section r.1) has r.3 refl r.4
        | inr o ↦
            let d = from_each f (owner_fault section) (points section) o in
            where_true f section d.1 (where_at d.1) has (contains_at (points section) d.0 d.1 d.2) refl d.3
      ]

  pub faults_true : (f : Mistake) → IsAmong f (faults_of program) → IsFault program f.code f.start
  faults_true f i = let d = from_each f (faults_in program) program.sections.items i in in_section f d.1 (d.0, d.2) d.3

  owner_all : (start : ℕ) → IsUnstableOwner program start →
      IsAmong (record { code = UnstableBase; start = start }) (faults_of program)
  owner_all start (unstable_owner {section} {point} {owner} has c at is) =
      let m : Mistake = record { code = UnstableBase; start = owner.start } in
      to_each m (faults_in program) program.sections.items has.0 section has.1
      (to_owner program section m point c (subst (λ (o : Option Named). IsAmong m (where_fault section o)) (sym at)
      (subst (λ (o : Option StablePath). IsAmong m (fault_unless owner.start o)) (sym is) (inl refl))))

  unstable_all : (start : ℕ) → IsUnstable program start →
      IsAmong (record { code = UnstableBase; start = start }) (faults_of program)
  unstable_all start (unstable {section} {a} has c is) =
      let m : Mistake = record { code = UnstableBase; start = a.start } in
      let r = around (accesses section) a c in
      to_each m (faults_in program) program.sections.items has.0 section has.1
      (to_section program section m r.0 r.1 a r.2 (subst (λ (o : Option LockPath). IsAmong m (fault_of (paths_of program section r.0) a.start o)) (sym is) (inl refl)))

  limit_all : (start : ℕ) → IsOverLimit program start →
      IsAmong (record { code = LimitExceeded; start = start }) (faults_of program)
  limit_all start (one_too_many {section} before back a {path} has e count is new) =
      let m : Mistake = record { code = LimitExceeded; start = a.start } in
      let ps = paths_of program section before in
      let absent : is_in path ps ≡ false = false_from_ne_true (is_in path ps) (λ t. new (is_in_contains decides path ps t)) in
      let full : (length (each_once ps) == 64) ≡ true = eq-eqb (length (each_once ps)) 64 count in
      to_each m (faults_in program) program.sections.items has.0 section has.1
      (to_section program section m before back a e (subst (λ (o : Option LockPath). IsAmong m (fault_of ps a.start o)) (sym is)
      (subst (λ (l : List Mistake). IsAmong m l) (sym (no_more a.start path ps absent full)) (inl refl))))
    where
      no_more : (start : ℕ) (path : LockPath) (ps : List LockPath) → is_in path ps ≡ false →
          (length (each_once ps) == 64) ≡ true →
          fault_of ps start (Some path) ≡ record { code = LimitExceeded; start = start } ∷ []
      no_more start path ps absent full =
          ap (λ b. if b then [] else if length (each_once ps) == 64 then record { code = LimitExceeded; start = start } ∷ [] else []) absent
          ∙ ap (λ b. if b then record { code = LimitExceeded; start = start } ∷ [] else []) full

  pub faults_all : (code : Code) (start : ℕ) → IsFault program code start →
      IsAmong (record { code = code; start = start }) (faults_of program)
  faults_all code start (unstable_base u) = unstable_all start u
  faults_all code start (unstable_owner_base u) = owner_all start u
  faults_all code start (over_limit o) = limit_all start o

  -- the least of them, if there is one
  pub least_is_fault : (f : Mistake) → least_of None (faults_of program) ≡ Some f → IsFault program f.code f.start
  least_is_fault f e = faults_true f (least_in f (faults_of program) e)

  pub least_is_least : (f : Mistake) → least_of None (faults_of program) ≡ Some f → (code : Code) (start : ℕ) →
      IsFault program code start →
      goes_before (record { code = code; start = start }) f ≡ false
  least_is_least f e code start h = none_before f (record { code = code; start = start }) (faults_of program) (faults_all code start h) e

  pub none_is_none : least_of None (faults_of program) ≡ None → HasNoFault program
  none_is_none e code start h =
      subst (λ (l : List Mistake). IsAmong (record { code = code; start = start }) l) (least_none (faults_of program) e) (faults_all code start h)
