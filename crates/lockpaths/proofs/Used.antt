-- From the results for a section without a fault to its lock paths, and those that each point uses.
use Rattle.std.proofs.Common.{◌≡◌, ℕ, zero, suc, ◌+◌, ◌-◌, ◌≤◌, ◌<◌, true, List, [], ◌∷◌, ◌++◌, length, map, take}
use Rattle.std.proofs.Common.{drop, Option, Some, None, inl, inr, refl, sym, ap, ◌∙◌, subst, arith, append_assoc}
use Rattle.std.proofs.Common.{length-append}
use Rattle.std.specs.Prelude.{slice_get, ◌==◌}
use Rattle.std.specs.List.{Contains, All, AllZip, flat_map}
use Rattle.std.proofs.lemmas.Bool.{eqb-true, eq-eqb, or_cases, or_left, or_right}
use Rattle.std.proofs.lemmas.Option.{none-some, slice_get_within}
use Rattle.std.proofs.lemmas.List.{length-map, take-map, drop_at, take_at, map-append}
use Rattle.std.proofs.lemmas.List.Elements.{filter_map-append, All-nil, All-cons}
use Rattle.source.specs.declared.mistake.Mistake.{Mistake}
use Rattle.source.specs.Mistakes.{least_of}
use Rattle.source.specs.Theory.Leasts.{least_append}
use Rattle.core_lang.specs.declared.tree.Section.{Section}
use Rattle.core_lang.specs.declared.typed.Typed.{Typed}
use Rattle.flow.specs.Points.{Point, points}
use Rattle.locks.specs.declared.path_set.PathSet.{PathSet}
use Rattle.locks.specs.Accesses.{Access, accesses_at, accesses}
use Rattle.locks.specs.LockPaths.{LockPath, lock_path, lock_path_of, lock_paths, paths_of, Uses}
use Rattle.locks.specs.Sets.{AreSets}
use Rattle.locks.specs.Working.Laws.{SamePathDecides, EachPathOnce}
use Rattle.lockpaths.specs.declared.table.SectionPaths.{SectionPaths}
use Rattle.lockpaths.specs.declared.table.Paths.{Paths}
use Rattle.lockpaths.specs.Working.Forms.{replacements_at}
use Rattle.lockpaths.specs.Working.Gathering.{Gathered, nothing_yet, gathered_at, gathered_in}
use Rattle.lockpaths.specs.Working.Faulted.{faults_behind, owner_fault, faults_in}
use Rattle.lockpaths.specs.Working.Numbers.{is_number, IsSetOf, cut, AreRising, IsComplete, IsFinished, AreEach}
use Rattle.lockpaths.specs.Paths.{AreSectionPaths, ArePaths}
use Rattle.lockpaths.proofs.Accessed.{IsWithin, IsState, IsBehind, ends_from, all_points_met, IsAfter, owners_met}
use Rattle.lockpaths.proofs.Faulty.{none_found, all_have}
use Rattle.core_lang.specs.Theory.Items.{not_in_none, in_first, in_rest, in_cases}

-- ---- lists

drop-map : {A B : Type 0} (f : A → B) (n : ℕ) (xs : List A) → drop n (map f xs) ≡ map f (drop n xs)
drop-map f zero xs = refl
drop-map f (suc n) [] = refl
drop-map f (suc n) (x ∷ xs) = drop-map f n xs

zip_length : {A B : Type 0} (R : A → B → Type 0) (xs : List A) (ys : List B) → AllZip R xs ys → length xs ≡ length ys
zip_length R [] [] z = refl
zip_length R [] (y ∷ ys) z = absurd z
zip_length R (x ∷ xs) [] z = absurd z
zip_length R (x ∷ xs) (y ∷ ys) z = ap suc (zip_length R xs ys z.1)

zip_at : {A B : Type 0} (R : A → B → Type 0) (xs : List A) (ys : List B) (k : ℕ) (x : A) → AllZip R xs ys →
    slice_get xs k ≡ Some x → (y : B) × (slice_get ys k ≡ Some y) × R x y
zip_at R [] ys k x z e = absurd (none-some x e)
zip_at R (x ∷ xs) [] k w z e = absurd z
zip_at R (x ∷ xs) (y ∷ ys) zero w z e = let same : x ≡ w = cc in (y, refl, subst (λ v. R v y) same z.0)
zip_at R (x ∷ xs) (y ∷ ys) (suc k) w z e = zip_at R xs ys k w z.1 e

zip_both : {A B : Type 0} (R : A → B → Type 0) (xs : List A) (ys : List B) (k : ℕ) (x : A) (y : B) → AllZip R xs ys →
    slice_get xs k ≡ Some x → slice_get ys k ≡ Some y → R x y
zip_both R [] ys k x y z e f = absurd (none-some x e)
zip_both R (v ∷ xs) [] k x y z e f = absurd z
zip_both R (v ∷ xs) (w ∷ ys) zero x y z e f =
    let a : v ≡ x = cc in
    let b : w ≡ y = cc in
    subst (λ u. R u y) a (subst (λ u. R v u) b z.0)
zip_both R (v ∷ xs) (w ∷ ys) (suc k) x y z e f = zip_both R xs ys k x y z.1 e f

-- ---- sets of numbers

-- a number of the chunk is that of one of the paths
module _ (f : ℕ → Option LockPath) (i : ℕ) (path : LockPath) (is : f i ≡ Some path) (once : (j : ℕ) → f j ≡ Some path → i ≡ j) where
  one_there : (n : ℕ) (z : LockPath) → f n ≡ Some z → i ≡ n → z ≡ path
  one_there n z e same = let both : f n ≡ Some path = ap f (sym same) ∙ is in cc

  from_number : (ns : List ℕ) (zs : List LockPath) → map f ns ≡ map Some zs → is_number i ns ≡ true → Contains zs path
  from_number [] zs e t = absurd cc
  from_number (n ∷ ns) [] e t = absurd cc
  from_number (n ∷ ns) (z ∷ zs) e t =
      let first : f n ≡ Some z = cc in
      let rest : map f ns ≡ map Some zs = cc in
      elim (or_cases (i == n) (is_number i ns) t) [
        | inl same ↦ subst (λ (x : LockPath). Contains (x ∷ zs) path) (sym (one_there n z first (eqb-true i n same))) (in_first path zs)
        | inr more ↦ in_rest z path zs (from_number ns zs rest more)
      ]

  to_number : (ns : List ℕ) (zs : List LockPath) → map f ns ≡ map Some zs → Contains zs path → is_number i ns ≡ true
  to_number [] [] e c = absurd (not_in_none path c)
  to_number [] (z ∷ zs) e c = absurd cc
  to_number (n ∷ ns) [] e c = absurd cc
  to_number (n ∷ ns) (z ∷ zs) e c =
      let first : f n ≡ Some z = cc in
      let rest : map f ns ≡ map Some zs = cc in
      elim (in_cases z path zs c) [
        | inl same ↦ or_left (i == n) (is_number i ns) (eq-eqb i n (once n (first ∙ ap Some same)))
        | inr more ↦ or_right (i == n) (is_number i ns) (to_number ns zs rest more)
      ]

small_all : (xs : List LockPath) (ns : List ℕ) (zs : List LockPath) → map (slice_get xs) ns ≡ map Some zs →
    length xs ≤ 64 → All (λ n. n < 64) ns
small_all xs [] zs e h = All-nil (λ n. n < 64)
small_all xs (n ∷ ns) [] e h = absurd cc
small_all xs (n ∷ ns) (z ∷ zs) e h =
    let first : slice_get xs n ≡ Some z = cc in
    let rest : map (slice_get xs) ns ≡ map Some zs = cc in
    let within : n < length xs = slice_get_within xs n z first in
    All-cons (λ n. n < 64) n ns (omega arith) (small_all xs ns zs rest h)

-- ---- the numbers of each point

module _ (program : Typed) (section : Section) where
  parts : (xs ys : List Access) →
      paths_of program section (xs ++ ys) ≡ paths_of program section xs ++ paths_of program section ys
  parts xs ys = filter_map-append (lock_path program section) xs ys

  longer : (xs ys : List Access) →
      length (paths_of program section (xs ++ ys)) ≡ length (paths_of program section xs) + length (paths_of program section ys)
  longer xs ys = ap length (parts xs ys) ∙ length-append (paths_of program section xs) (paths_of program section ys)

  rising_from : (before : List Access) (ps : List Point) (limit : ℕ) →
      limit ≡ length (paths_of program section (before ++ flat_map accesses_at ps)) →
      AreRising (length (paths_of program section before)) limit (ends_from program section before ps)
  rising_from before [] limit e = tt
  rising_from before (p ∷ ps) limit e =
      let here = accesses_at p in
      let rest = flat_map accesses_at ps in
      let same : limit ≡ length (paths_of program section ((before ++ here) ++ rest)) = e ∙ ap (λ l. length (paths_of program section l)) (sym (append_assoc before here rest)) in
      let a = longer before here in
      let b = longer (before ++ here) rest in
      (omega (arith, a), omega (arith, b, same), rising_from (before ++ here) ps limit same)

  module _ (f : ℕ → Option LockPath) where
    first_part : (before here rest : List Access) (ns : List ℕ) →
        map f ns ≡ map Some (paths_of program section (before ++ (here ++ rest))) →
        map f (take (length (paths_of program section (before ++ here)) - length (paths_of program section before)) (drop (length (paths_of program section before)) ns))
        ≡ map Some (paths_of program section here)
    first_part before here rest ns e =
        let b = map Some (paths_of program section before) in
        let h = map Some (paths_of program section here) in
        let r = map Some (paths_of program section rest) in
        let n = length (paths_of program section before) in
        let m = length (paths_of program section (before ++ here)) - n in
        let whole : map Some (paths_of program section (before ++ (here ++ rest))) ≡ b ++ (h ++ r) =
        ap (map Some) (parts before (here ++ rest)) ∙ map-append Some (paths_of program section before) (paths_of program section (here ++ rest))
        ∙ ap (λ l. b ++ l) (ap (map Some) (parts here rest) ∙ map-append Some (paths_of program section here) (paths_of program section rest)) in
        let count : length h ≡ m = length-map (paths_of program section here) Some ∙ omega (arith, longer before here) in
        sym (take-map f m (drop n ns)) ∙ ap (take m) (sym (drop-map f n ns) ∙ ap (drop n) (e ∙ whole) ∙ drop_at b (h ++ r) n (length-map (paths_of program section before) Some))
        ∙ take_at h r m count

    chunk_at : (before : List Access) (ps : List Point) (ns : List ℕ) →
        map f ns ≡ map Some (paths_of program section (before ++ flat_map accesses_at ps)) →
        (k : ℕ) (chunk : List ℕ) → slice_get (cut (length (paths_of program section before)) ns (ends_from program section before ps)) k ≡ Some chunk →
        (point : Point) × (slice_get ps k ≡ Some point) × (map f chunk ≡ map Some (paths_of program section (accesses_at point)))
    chunk_at before [] ns e k chunk at = absurd (none-some chunk at)
    chunk_at before (p ∷ ps) ns e zero chunk at =
        let first : List ℕ = take (length (paths_of program section (before ++ accesses_at p)) - length (paths_of program section before)) (drop (length (paths_of program section before)) ns) in
        let same : first ≡ chunk = cc in
        (p, refl, ap (map f) (sym same) ∙ first_part before (accesses_at p) (flat_map accesses_at ps) ns e)
    chunk_at before (p ∷ ps) ns e (suc k) chunk at =
        chunk_at (before ++ accesses_at p) ps ns (e ∙ ap (λ l. map Some (paths_of program section l)) (sym (append_assoc before (accesses_at p) (flat_map accesses_at ps)))) k chunk at

  cut_length : (start : ℕ) (ns ends : List ℕ) → length (cut start ns ends) ≡ length ends
  cut_length start ns [] = refl
  cut_length start ns (e ∷ es) = ap suc (cut_length e ns es)

  ends_length : (before : List Access) (ps : List Point) → length (ends_from program section before ps) ≡ length ps
  ends_length before [] = refl
  ends_length before (p ∷ ps) = ap suc (ends_length (before ++ accesses_at p) ps)

  same_point : (p : ℕ) (a b : Point) → slice_get (points section) p ≡ Some a → slice_get (points section) p ≡ Some b →
      a ≡ b
  same_point p a b e f = let both : Some a ≡ Some b = sym e ∙ f in cc

  sets_right : (once : EachPathOnce) (ns : List ℕ) (sets : List PathSet) →
      map (slice_get (lock_paths program section)) ns ≡ map Some (paths_of program section (accesses section)) →
      AllZip IsSetOf sets (cut 0 ns (ends_from program section [] (points section))) → AreSets program section (Uses program section) sets
  sets_right once ns sets e z = (
    zip_length IsSetOf sets (cut 0 ns (ends_from program section [] (points section))) z ∙ cut_length 0 ns (ends_from program section [] (points section)) ∙ ends_length [] (points section),
    λ p i set path at is.
        let f = slice_get (lock_paths program section) in
        let c = zip_at IsSetOf sets (cut 0 ns (ends_from program section [] (points section))) p set z at in
        let there = chunk_at f [] (points section) ns e p c.0 c.1 in
        let unique : (j : ℕ) → f j ≡ Some path → i ≡ j = λ j h. once program section i j path is h in (
          λ t. (there.0, there.1, from_number f i path is unique c.0 (paths_of program section (accesses_at there.0)) there.2 (sym (c.2 i) ∙ t)),
          λ u. c.2 i ∙ to_number f i path is unique c.0 (paths_of program section (accesses_at there.0)) there.2
              (subst (λ (x : Point). Contains (paths_of program section (accesses_at x)) path) (same_point p u.0 there.0 u.1 there.1) u.2),
        ),
  )

-- ---- a section

-- the gathered paths are complete, and with sets they are the section's lock paths
pub record IsFound (program : Typed) (section : Section) (g : Gathered) : Type 0 where
  pub complete : IsComplete g
  pub finished : (x : SectionPaths) → IsFinished g x → AreSectionPaths program section x

module _ (decides : SamePathDecides) (once : EachPathOnce) (program : Typed) (section : Section) (least : Option Mistake) where
  abbrev met_all : Gathered
  met_all = gathered_at program section (replacements_at section (points section)) (nothing_yet least) (points section)

  abbrev owner_faults : List Mistake
  owner_faults = flat_map (owner_fault section) (points section)

  behind_all : IsBehind program section [] (accesses section) (ends_from program section [] (points section)) (nothing_yet least) met_all
  behind_all =
      all_points_met program section decides [] (points section) [] (nothing_yet least)
      (inl (record { paths = refl; limit = omega arith; numbers = refl; ends_are = refl }))

  after_all : IsAfter (paths_of program section (accesses section)) (ends_from program section [] (points section)) met_all owner_faults (gathered_in program section least)
  after_all = owners_met section (paths_of program section (accesses section)) (ends_from program section [] (points section)) (points section) met_all behind_all.state

  pub least_after : (gathered_in program section least).least ≡ least_of least (faults_in program section)
  least_after =
      after_all.least ∙ ap (λ o. least_of o owner_faults) behind_all.least
      ∙ sym (least_append least (faults_behind program section [] (accesses section)) owner_faults)

  found_within : (g : Gathered) →
      IsWithin (paths_of program section (accesses section)) (ends_from program section [] (points section)) g →
      faults_in program section ≡ [] →
      IsFound program section g
  found_within g w none =
      let all = paths_of program section (accesses section) in
      let count : length g.numbers ≡ length all = sym (length-map g.numbers (slice_get g.paths)) ∙ ap length w.numbers ∙ length-map all Some in
      let numbers : map (slice_get (lock_paths program section)) g.numbers ≡ map Some all = ap (λ (l : List LockPath). map (slice_get l) g.numbers) (sym w.paths) ∙ w.numbers in
      record {
        complete = record {
          small = small_all g.paths g.numbers all w.numbers w.limit;
          rising = subst (λ (l : List ℕ). AreRising 0 (length g.numbers) l) (sym w.ends_are) (rising_from program section [] (points section) (length g.numbers) count);
        };
        finished = λ x f. record {
          paths = f.paths ∙ w.paths;
          limit = let same : length x.paths.items ≡ length g.paths = sym (length-map x.paths.items lock_path_of) ∙ ap length f.paths in omega (arith, same, w.limit);
          used = sets_right program section once g.numbers x.used.items numbers (subst (λ (l : List ℕ). AllZip IsSetOf x.used.items (cut 0 g.numbers l)) w.ends_are f.used);
          of_access = ap (map (slice_get (lock_paths program section))) f.of_access ∙ numbers ∙ all_have program section none;
        };
      }

  found_state : (g : Gathered) →
      IsState (paths_of program section (accesses section)) (ends_from program section [] (points section)) g →
      faults_in program section ≡ [] → g.least ≡ None →
      IsFound program section g
  found_state g (inl w) none e = found_within g w none
  found_state g (inr o) none e = absurd (o.fault e)

  pub found_all : (gathered_in program section least).least ≡ None →
      IsFound program section (gathered_in program section least)
  found_all e = found_state (gathered_in program section least) after_all.state (none_found least (faults_in program section) (sym least_after ∙ e)) e

  pub found_none : (g : Gathered) → g ≡ gathered_in program section least → g.least ≡ None → IsFound program section g
  found_none g is e = subst (IsFound program section) (sym is) (found_all (ap (λ (x : Gathered). x.least) (sym is) ∙ e))

-- ---- the program

pub are_paths : (program : Typed) (x : Paths) → AreEach program program.sections.items x.sections.items →
    ArePaths program x
are_paths program x z =
    record {
      sections = sym (zip_length (AreSectionPaths program) program.sections.items x.sections.items z);
      each = λ k section y e f. zip_both (AreSectionPaths program) program.sections.items x.sections.items k section y z e f;
    }
