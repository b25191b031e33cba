-- The results after accesses: their lock paths, each once, and the least of their faults; after a fault of the limit
-- only the latter.
use Rattle.std.proofs.Common.{◌≡◌, ℕ, ◌+◌, ◌≤◌, ◌<◌, Bool, true, false, List, [], ◌∷◌, ◌++◌, length, map, Option, Some}
use Rattle.std.proofs.Common.{None, ◌⊎◌, inl, inr, refl, sym, ap, ◌∙◌, subst, arith, append-nil, append_assoc}
use Rattle.std.proofs.Common.{length-append}
use Rattle.std.specs.Prelude.{slice_get, nat_lt, ◌==◌, if◌then◌else◌}
use Rattle.std.specs.List.{cons_option, flat_map}
use Rattle.std.proofs.lemmas.Bool.{ltb-true, ltb-false, le-ltb, eq-eqb, ne_eqb}
use Rattle.std.proofs.lemmas.List.{map-append, length-map}
use Rattle.std.proofs.lemmas.List.Elements.{filter_map-append}
use Rattle.source.specs.declared.fault.Code.TheVariants.{UnstableBase, LimitExceeded}
use Rattle.source.specs.declared.mistake.Mistake.{Mistake}
use Rattle.source.specs.Mistakes.{lesser, least_of, goes_before}
use Rattle.source.specs.Theory.Leasts.{least_append}
use Rattle.core_lang.specs.declared.tree.Section.{Section}
use Rattle.core_lang.specs.declared.typed.Typed.{Typed}
use Rattle.core_lang.specs.Theory.Items.{still_at, last_at}
use Rattle.flow.specs.Points.{Point, points}
use Rattle.locks.specs.Accesses.{Access, accesses_at}
use Rattle.locks.specs.Faults.{Named, where_at}
use Rattle.locks.specs.LockPaths.{StablePath, LockPath, stable, each_once, lock_path, paths_of}
use Rattle.locks.specs.Working.Laws.{SamePathDecides}
use Rattle.lockpaths.specs.Working.Forms.{replacements_at}
use Rattle.lockpaths.specs.Working.Gathering.{Gathered, is_in, place_from, with_new, with_path, with_known, blamed, met}
use Rattle.lockpaths.specs.Working.Gathering.{ended, gathered, gathered_at, with_access, blamed_unless, with_where}
use Rattle.lockpaths.specs.Working.Gathering.{with_owner, with_owners}
use Rattle.lockpaths.specs.Working.Faulted.{fault_of, faults_behind, fault_unless, where_fault, owner_fault}
use Rattle.lockpaths.proofs.Once.{place_in, place_none, once_in, once_new, once_known}
use Rattle.lockpaths.proofs.Formed.{path_is_right}

-- ---- lists

map_more : (xs ys : List LockPath) (ns : List ℕ) (ps : List LockPath) → map (slice_get xs) ns ≡ map Some ps →
    map (slice_get (xs ++ ys)) ns ≡ map Some ps
map_more xs ys [] [] e = refl
map_more xs ys [] (p ∷ ps) e = absurd cc
map_more xs ys (n ∷ ns) [] e = absurd cc
map_more xs ys (n ∷ ns) (p ∷ ps) e =
    let first : slice_get xs n ≡ Some p = cc in
    let rest : map (slice_get xs) ns ≡ map Some ps = cc in
    let here = still_at xs ys n p first in
    let there = map_more xs ys ns ps rest in
    ap (λ o. o ∷ map (slice_get (xs ++ ys)) ns) here ∙ ap (λ os. Some p ∷ os) there

lesser_some : (t : Bool) (f g : Mistake) → (if t then Some g else Some f) ≡ None → ⊥
lesser_some true f g e = cc
lesser_some false f g e = cc

pub lesser_is : (o : Option Mistake) (g : Mistake) → lesser o g ≡ None → ⊥
lesser_is None g e = cc
lesser_is (Some f) g e = lesser_some (goes_before g f) f g e

-- ---- the state after paths

pub record IsWithin (ps : List LockPath) (ends : List ℕ) (g : Gathered) : Type 0 where
  pub paths : g.paths ≡ each_once ps
  pub limit : length g.paths ≤ 64
  pub numbers : map (slice_get g.paths) g.numbers ≡ map Some ps
  pub ends_are : g.ends ≡ ends

pub record IsOver (ps : List LockPath) (g : Gathered) : Type 0 where
  pub full : length g.paths ≡ 65
  pub over : 64 < length (each_once ps)
  pub fault : g.least ≡ None → ⊥

abbrev pub IsState : List LockPath → List ℕ → Gathered → Type 0
IsState ps ends g = IsWithin ps ends g ⊎ IsOver ps g

-- the state after one access more, with its fault noted
pub record IsNext (ps qs : List LockPath) (ends : List ℕ) (g : Gathered) (faults : List Mistake) (g' : Gathered) : Type 0 where
  pub state : IsState (ps ++ qs) ends g'
  pub least : g'.least ≡ least_of g.least faults

module _ (g : Gathered) (start : ℕ) (path : LockPath) where
  new_by : (t u : Bool) → nat_lt (length g.paths) 64 ≡ t → (length g.paths == 64) ≡ u →
      with_new g start path ≡ (if t then with_path g path else if u then blamed (with_path g path) LimitExceeded start else g)
  new_by t u e f =
      ap (λ b. if b then with_path g path else if length g.paths == 64 then blamed (with_path g path) LimitExceeded start else g) e
      ∙ ap (λ b. if t then with_path g path else if b then blamed (with_path g path) LimitExceeded start else g) f

  pub fault_by : (ps : List LockPath) (t u : Bool) → is_in path ps ≡ t → (length (each_once ps) == 64) ≡ u →
      fault_of ps start (Some path) ≡ (if t then [] else if u then record { code = LimitExceeded; start = start } ∷ [] else [])
  fault_by ps t u e f =
      ap (λ b. if b then [] else if length (each_once ps) == 64 then record { code = LimitExceeded; start = start } ∷ [] else []) e
      ∙ ap (λ b. if t then [] else if b then record { code = LimitExceeded; start = start } ∷ [] else []) f

none_met : (ps : List LockPath) (ends : List ℕ) (g : Gathered) (start : ℕ) → IsState ps ends g →
    IsNext ps [] ends g (fault_of ps start None) (met g start None)
none_met ps ends g start (inl w) =
    record {
      state = subst (λ (l : List LockPath). IsState l ends (blamed g UnstableBase start)) (sym (append-nil ps)) (inl (record { paths = w.paths; limit = w.limit; numbers = w.numbers; ends_are = w.ends_are }));
      least = refl;
    }
none_met ps ends g start (inr o) =
    record {
      state = subst (λ (l : List LockPath). IsState l ends (blamed g UnstableBase start)) (sym (append-nil ps)) (inr (record { full = o.full; over = o.over; fault = lesser_is g.least _ }));
      least = refl;
    }

known_met : (decides : SamePathDecides) (ps : List LockPath) (ends : List ℕ) (g : Gathered) (start : ℕ) (path : LockPath) → IsWithin ps ends g → is_in path ps ≡ true →
    IsNext ps (path ∷ []) ends g (fault_of ps start (Some path)) (met g start (Some path))
known_met decides ps ends g start path w e =
    let there : is_in path g.paths ≡ true = ap (is_in path) w.paths ∙ once_in decides path ps ∙ e in
    let place = place_in decides path 0 g.paths there in
    let next : Gathered = with_known g start path (Some (0 + place.0)) in
    let i : 0 + place.0 ≡ place.0 = omega arith in
    let is : met g start (Some path) ≡ next = ap (with_known g start path) place.1 in
    subst (λ (x : Gathered). IsNext ps (path ∷ []) ends g (fault_of ps start (Some path)) x) (sym is)
    (record {
      state = inl (record {
        paths = w.paths ∙ sym (once_known decides path ps e);
        limit = w.limit;
        numbers =
            map-append (slice_get g.paths) g.numbers ((0 + place.0) ∷ [])
            ∙ ap (λ l. l ++ slice_get g.paths (0 + place.0) ∷ []) w.numbers
            ∙ ap (λ o. map Some ps ++ o ∷ []) (ap (slice_get g.paths) i ∙ place.2)
            ∙ sym (map-append Some ps (path ∷ []));
        ends_are = w.ends_are;
      });
      least = ap (least_of g.least) (sym (fault_by g start path ps true (length (each_once ps) == 64) e refl));
    })

module _ (decides : SamePathDecides) (ps : List LockPath) (ends : List ℕ) (g : Gathered) (start : ℕ) (path : LockPath) (w : IsWithin ps ends g) (e : is_in path ps ≡ false) where
  unplaced : met g start (Some path) ≡ with_new g start path
  unplaced = ap (with_known g start path) (place_none decides path 0 g.paths (ap (is_in path) w.paths ∙ once_in decides path ps ∙ e))

  one_more : g.paths ++ path ∷ [] ≡ each_once (ps ++ path ∷ [])
  one_more = ap (λ l. l ++ path ∷ []) w.paths ∙ sym (once_new decides path ps e)

  longer : length (g.paths ++ path ∷ []) ≡ length g.paths + 1
  longer = length-append g.paths (path ∷ [])

  same_length : length g.paths ≡ length (each_once ps)
  same_length = ap length w.paths

  new_met : (t : Bool) → nat_lt (length g.paths) 64 ≡ t →
      IsNext ps (path ∷ []) ends g (fault_of ps start (Some path)) (met g start (Some path))
  new_met true lt =
      let less : length g.paths < 64 = ltb-true (length g.paths) 64 lt in
      let not_yet : (length (each_once ps) == 64) ≡ false = ne_eqb (length (each_once ps)) 64 (λ h. omega (arith, less, same_length, h)) in
      let is : met g start (Some path) ≡ with_path g path = unplaced ∙ new_by g start path true (length g.paths == 64) lt refl in
      subst (λ (x : Gathered). IsNext ps (path ∷ []) ends g (fault_of ps start (Some path)) x) (sym is)
      (record {
        state = inl (record {
          paths = one_more;
          limit = omega (arith, longer, less);
          numbers =
              map-append (slice_get (g.paths ++ path ∷ [])) g.numbers (length g.paths ∷ [])
              ∙ ap (λ l. l ++ slice_get (g.paths ++ path ∷ []) (length g.paths) ∷ []) (map_more g.paths (path ∷ []) g.numbers ps w.numbers)
              ∙ ap (λ o. map Some ps ++ o ∷ []) (last_at g.paths path)
              ∙ sym (map-append Some ps (path ∷ []));
          ends_are = w.ends_are;
        });
        least = ap (least_of g.least) (sym (fault_by g start path ps false false e not_yet));
      })
  new_met false lt =
      let more : 64 ≤ length g.paths = ltb-false (length g.paths) 64 lt in
      let full : length g.paths ≡ 64 = omega (arith, more, w.limit) in
      let now : (length (each_once ps) == 64) ≡ true = eq-eqb (length (each_once ps)) 64 (sym same_length ∙ full) in
      let is : met g start (Some path) ≡ blamed (with_path g path) LimitExceeded start = unplaced ∙ new_by g start path false true lt (eq-eqb (length g.paths) 64 full) in
      let size : length (each_once (ps ++ path ∷ [])) ≡ length g.paths + 1 = sym (ap length one_more) ∙ longer in
      subst (λ (x : Gathered). IsNext ps (path ∷ []) ends g (fault_of ps start (Some path)) x) (sym is)
      (record {
        state = inr (record {
          full = omega (arith, longer, full);
          over = omega (arith, size, full);
          fault = lesser_is g.least _;
        });
        least = ap (least_of g.least) (sym (fault_by g start path ps false true e now));
      })

module _ (decides : SamePathDecides) (ps : List LockPath) (g : Gathered) (start : ℕ) (path : LockPath) (o : IsOver ps g) where
  still_over : (t : Bool) → is_in path ps ≡ t → 64 < length (each_once (ps ++ path ∷ []))
  still_over true e = let same = ap length (once_known decides path ps e) in omega (arith, same, o.over)
  still_over false e =
      let more = ap length (once_new decides path ps e) in
      omega (arith, more, o.over, length-append (each_once ps) (path ∷ []))

  no_fault : (t : Bool) → is_in path ps ≡ t → fault_of ps start (Some path) ≡ []
  no_fault true e = fault_by g start path ps true (length (each_once ps) == 64) e refl
  no_fault false e = fault_by g start path ps false false e (ne_eqb (length (each_once ps)) 64 (λ h. omega (arith, o.over, h)))

  kept : (ends : List ℕ) (place : Option ℕ) → IsNext ps (path ∷ []) ends g [] (with_known g start path place)
  kept ends (Some i) = record { state = inr (record { full = o.full; over = still_over (is_in path ps) refl; fault = o.fault }); least = refl }
  kept ends None =
      let is : with_new g start path ≡ g =
      new_by g start path false false (le-ltb (length g.paths) 64 (omega (arith, o.full))) (ne_eqb (length g.paths) 64 (λ h. omega (arith, o.full, h))) in
      subst (λ (x : Gathered). IsNext ps (path ∷ []) ends g [] x) (sym is)
      (record { state = inr (record { full = o.full; over = still_over (is_in path ps) refl; fault = o.fault }); least = refl })

  over_met : (ends : List ℕ) → IsNext ps (path ∷ []) ends g (fault_of ps start (Some path)) (met g start (Some path))
  over_met ends = subst (λ (x : List Mistake). IsNext ps (path ∷ []) ends g x (met g start (Some path))) (sym (no_fault (is_in path ps) refl)) (kept ends (place_from path 0 g.paths))

within_met : (decides : SamePathDecides) (ps : List LockPath) (ends : List ℕ) (g : Gathered) (start : ℕ) (path : LockPath) → IsWithin ps ends g → (t : Bool) → is_in path ps ≡ t →
    IsNext ps (path ∷ []) ends g (fault_of ps start (Some path)) (met g start (Some path))
within_met decides ps ends g start path w true e = known_met decides ps ends g start path w e
within_met decides ps ends g start path w false e = new_met decides ps ends g start path w e (nat_lt (length g.paths) 64) refl

pub next_met : (decides : SamePathDecides) (ps : List LockPath) (ends : List ℕ) (g : Gathered) (start : ℕ) (o : Option LockPath) → IsState ps ends g →
    IsNext ps (cons_option o []) ends g (fault_of ps start o) (met g start o)
next_met decides ps ends g start None s = none_met ps ends g start s
next_met decides ps ends g start (Some path) (inl w) = within_met decides ps ends g start path w (is_in path ps) refl
next_met decides ps ends g start (Some path) (inr o) = over_met decides ps g start path o ends

-- ---- accesses one after another

-- how many paths there are at the end of each point, after accesses
module _ (program : Typed) (section : Section) where
  abbrev pub ends_from : List Access → List Point → List ℕ
  ends_from before [] = []
  ends_from before (p ∷ ps) = length (paths_of program section (before ++ accesses_at p)) ∷ ends_from (before ++ accesses_at p) ps

  paths_append : (xs ys : List Access) →
      paths_of program section (xs ++ ys) ≡ paths_of program section xs ++ paths_of program section ys
  paths_append xs ys = filter_map-append (lock_path program section) xs ys

  pub faults_append : (before xs ys : List Access) →
      faults_behind program section before (xs ++ ys) ≡ faults_behind program section before xs ++ faults_behind program section (before ++ xs) ys
  faults_append before [] ys = ap (λ l. faults_behind program section l ys) (sym (append-nil before))
  faults_append before (a ∷ xs) ys =
      let here = fault_of (paths_of program section before) a.start (lock_path program section a) in
      ap (λ l. here ++ l) (faults_append (before ++ a ∷ []) xs ys)
      ∙ ap (λ l. here ++ (faults_behind program section (before ++ a ∷ []) xs ++ faults_behind program section l ys)) (append_assoc before (a ∷ []) xs)
      ∙ sym (append_assoc here (faults_behind program section (before ++ a ∷ []) xs) (faults_behind program section (before ++ a ∷ xs) ys))

  -- the state after more accesses
  pub record IsBehind (before rest : List Access) (ends : List ℕ) (g g' : Gathered) : Type 0 where
    pub state : IsState (paths_of program section (before ++ rest)) ends g'
    pub least : g'.least ≡ least_of g.least (faults_behind program section before rest)

  module _ (decides : SamePathDecides) where
    one_access : (before : List Access) (ends : List ℕ) (g : Gathered) (a : Access) →
        IsState (paths_of program section before) ends g →
        IsNext (paths_of program section before) (cons_option (lock_path program section a) []) ends g
        (fault_of (paths_of program section before) a.start (lock_path program section a)) (with_access program section (replacements_at section (points section)) g a)
    one_access before ends g a s =
        subst (λ o. IsNext (paths_of program section before) (cons_option (lock_path program section a) []) ends g
        (fault_of (paths_of program section before) a.start (lock_path program section a)) (met g a.start o)) (sym (path_is_right program section a.target))
        (next_met decides (paths_of program section before) ends g a.start (lock_path program section a) s)

    all_accesses : (before rest : List Access) (ends : List ℕ) (g : Gathered) →
        IsState (paths_of program section before) ends g →
        IsBehind before rest ends g (gathered program section (replacements_at section (points section)) g rest)
    all_accesses before [] ends g s =
        record { state = subst (λ (l : List Access). IsState (paths_of program section l) ends g) (sym (append-nil before)) s; least = refl }
    all_accesses before (a ∷ rest) ends g s =
        let g' = with_access program section (replacements_at section (points section)) g a in
        let one = one_access before ends g a s in
        let front : IsState (paths_of program section (before ++ a ∷ [])) ends g' =
        subst (λ (l : List LockPath). IsState l ends g') (sym (paths_append before (a ∷ []))) one.state in
        let more = all_accesses (before ++ a ∷ []) rest ends g' front in
        let last = gathered program section (replacements_at section (points section)) g' rest in
        record {
          state = subst (λ (l : List Access). IsState (paths_of program section l) ends last) (append_assoc before (a ∷ []) rest) more.state;
          least =
              more.least ∙ ap (λ o. least_of o (faults_behind program section (before ++ a ∷ []) rest)) one.least
              ∙ sym (least_append g.least (fault_of (paths_of program section before) a.start (lock_path program section a)) (faults_behind program section (before ++ a ∷ []) rest));
        }

    ended_at : (ps : List LockPath) (ends : List ℕ) (g : Gathered) → IsState ps ends g →
        IsState ps (ends ++ length ps ∷ []) (ended g)
    ended_at ps ends g (inl w) =
        let count : length g.numbers ≡ length ps = sym (length-map g.numbers (slice_get g.paths)) ∙ ap length w.numbers ∙ length-map ps Some in
        inl (record { paths = w.paths; limit = w.limit; numbers = w.numbers; ends_are = ap (λ l. l ++ length g.numbers ∷ []) w.ends_are ∙ ap (λ n. ends ++ n ∷ []) count })
    ended_at ps ends g (inr o) = inr (record { full = o.full; over = o.over; fault = o.fault })

    pub all_points_met : (before : List Access) (ps : List Point) (ends : List ℕ) (g : Gathered) →
        IsState (paths_of program section before) ends g →
        IsBehind before (flat_map accesses_at ps) (ends ++ ends_from before ps) g (gathered_at program section (replacements_at section (points section)) g ps)
    all_points_met before [] ends g s =
        record {
          state = subst (λ (l : List Access). IsState (paths_of program section l) (ends ++ []) g) (sym (append-nil before)) (subst (λ (l : List ℕ). IsState (paths_of program section before) l g) (sym (append-nil ends)) s);
          least = refl;
        }
    all_points_met before (p ∷ ps) ends g s =
        let here = accesses_at p in
        let met_here = gathered program section (replacements_at section (points section)) g here in
        let one = all_accesses before here ends g s in
        let n = length (paths_of program section (before ++ here)) in
        let more = all_points_met (before ++ here) ps (ends ++ n ∷ []) (ended met_here) (ended_at (paths_of program section (before ++ here)) ends met_here one.state) in
        let last = gathered_at program section (replacements_at section (points section)) (ended met_here) ps in
        let rest = flat_map accesses_at ps in
        record {
          state =
              subst (λ (l : List Access). IsState (paths_of program section l) (ends ++ ends_from before (p ∷ ps)) last) (append_assoc before here rest)
              (subst (λ (l : List ℕ). IsState (paths_of program section ((before ++ here) ++ rest)) l last) (append_assoc ends (n ∷ []) (ends_from (before ++ here) ps)) more.state);
          least =
              more.least ∙ ap (λ o. least_of o (faults_behind program section (before ++ here) rest)) one.least
              ∙ sym (least_append g.least (faults_behind program section before here) (faults_behind program section (before ++ here) rest))
              ∙ ap (least_of g.least) (sym (faults_append before here rest));
        }

-- ---- the `where`s of points

-- the state after them, with their faults noted
pub record IsAfter (ps : List LockPath) (ends : List ℕ) (g : Gathered) (faults : List Mistake) (g' : Gathered) : Type 0 where
  pub state : IsState ps ends g'
  pub least : g'.least ≡ least_of g.least faults

module _ (section : Section) (ps : List LockPath) (ends : List ℕ) where
  blamed_state : (g : Gathered) (start : ℕ) → IsState ps ends g → IsState ps ends (blamed g UnstableBase start)
  blamed_state g start (inl w) = inl (record { paths = w.paths; limit = w.limit; numbers = w.numbers; ends_are = w.ends_are })
  blamed_state g start (inr o) = inr (record { full = o.full; over = o.over; fault = lesser_is g.least _ })

  unless_met : (g : Gathered) (start : ℕ) (o : Option StablePath) → IsState ps ends g →
      IsAfter ps ends g (fault_unless start o) (blamed_unless g start o)
  unless_met g start None s = record { state = blamed_state g start s; least = refl }
  unless_met g start (Some path) s = record { state = s; least = refl }

  where_met : (g : Gathered) (o : Option Named) → IsState ps ends g →
      IsAfter ps ends g (where_fault section o) (with_where section g o)
  where_met g None s = record { state = s; least = refl }
  where_met g (Some owner) s = unless_met g owner.start (stable section owner.local []) s

  pub owners_met : (list : List Point) (g : Gathered) → IsState ps ends g →
      IsAfter ps ends g (flat_map (owner_fault section) list) (with_owners section g list)
  owners_met [] g s = record { state = s; least = refl }
  owners_met (p ∷ rest) g s =
      let one = where_met g (where_at p) s in
      let more = owners_met rest (with_owner section g p) one.state in
      record {
        state = more.state;
        least =
            more.least ∙ ap (λ o. least_of o (flat_map (owner_fault section) rest)) one.least
            ∙ sym (least_append g.least (owner_fault section p) (flat_map (owner_fault section) rest));
      }
