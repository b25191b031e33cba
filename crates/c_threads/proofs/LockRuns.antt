-- The runs of an acquire: together they are the list, each has one class, and ranks rise from run to run.
use Rattle.std.proofs.Common.{◌≡◌, ◌⊎◌, ◌<◌, ◌≤◌, ℕ, zero, suc, ◌+◌, ◌-◌, ◌==◌, List, [], ◌∷◌, ◌++◌, length, Option}
use Rattle.std.proofs.Common.{Some, None, Bool, true, false, not, slice_get, refl, sym, ap, ◌∙◌, subst, arith, inl, inr}
use Rattle.std.proofs.Common.{if◌then◌else◌, append_assoc}
use Rattle.std.proofs.lemmas.Bool.{eq-eqb, eqb-true, true≢false}
use Rattle.std.proofs.lemmas.Option.{none-some, same_Some}
use Rattle.std.proofs.lemmas.List.Elements.{Contains-append_left, Contains-append_right}
use Rattle.std.specs.Prelude.{slice_index, ⊤}
use Rattle.std.specs.List.{AllPairs, Contains}
use Rattle.std.specs.Option.{option_map_or}
use Rattle.core_lang.specs.Theory.Items.{in_cases, in_first, in_rest, not_in_none, one_contained, push_cases}
use Rattle.locks.specs.LockPaths.{LockPath}
use Rattle.c_statements.specs.Acquires.{has_class, same_class, is_other, runs_on, runs, of_class}

-- ---- lists one after another

abbrev pub joined : List (List ℕ) → List ℕ
joined [] = []
joined (g ∷ gs) = g ++ joined gs

module _ (paths : List LockPath) where
  -- the path of number `k` has the class
  pub record HasClass (k class : ℕ) : Type 0 where
    pub path : LockPath
    pub here : slice_get paths k ≡ Some path
    pub is : path.class ≡ class

  pub class_once : (k c d : ℕ) → HasClass k c → HasClass k d → c ≡ d
  class_once k c d h g =
      let same : h.path ≡ g.path = same_Some h.path g.path (sym h.here ∙ g.here) in
      sym h.is ∙ ap (λ (p : LockPath). p.class) same ∙ g.is

  class_from : (class k : ℕ) (o : Option LockPath) → slice_get paths k ≡ o →
      option_map_or (λ (path : LockPath). path.class == class) o false ≡ true → HasClass k class
  class_from class k None e h = absurd (true≢false (sym h))
  class_from class k (Some path) e h = record { path = path; here = e; is = eqb-true path.class class h }

  class_test : (class k : ℕ) → HasClass k class → has_class paths class k ≡ true
  class_test class k h =
      ap (λ o. option_map_or (λ (path : LockPath). path.class == class) o false) h.here
      ∙ eq-eqb h.path.class class h.is

  same_is : (class j k : ℕ) → HasClass j class → same_class paths j k ≡ has_class paths class k
  same_is class j k h =
      ap (λ o. option_map_or (λ (path : LockPath). has_class paths path.class k) o false) h.here
      ∙ ap (λ c. has_class paths c k) h.is

  -- ---- the numbers of a class

  pub in_class : (class n : ℕ) (ps : List LockPath) (k : ℕ) (path : LockPath) → slice_get ps k ≡ Some path →
      path.class ≡ class → Contains (of_class class n ps) (n + k)
  in_class class n [] k path e c = absurd (none-some path e)
  in_class class n (p ∷ ps) zero path e c =
      let same : p ≡ path = cc e in
      let test : (p.class == class) ≡ true = eq-eqb p.class class (ap (λ (x : LockPath). x.class) same ∙ c) in
      let first : n ≡ n + 0 = omega arith in
      subst (λ b. Contains (if b then n ∷ of_class class (n + 1) ps else of_class class (n + 1) ps) (n + 0)) (sym test)
      (subst (λ i. Contains (n ∷ of_class class (n + 1) ps) i) first (in_first n (of_class class (n + 1) ps)))
  in_class class n (p ∷ ps) (suc k) path e c =
      let shift : n + 1 + k ≡ n + suc k = omega arith in
      let rest : Contains (of_class class (n + 1) ps) (n + suc k) =
      subst (λ i. Contains (of_class class (n + 1) ps) i) shift (in_class class (n + 1) ps k path e c) in
      by (p.class == class) rest
    where
      by : (b : Bool) → Contains (of_class class (n + 1) ps) (n + suc k) →
          Contains (if b then n ∷ of_class class (n + 1) ps else of_class class (n + 1) ps) (n + suc k)
      by true r = in_rest n (n + suc k) (of_class class (n + 1) ps) r
      by false r = r

  pub within_class : (class n : ℕ) (ps : List LockPath) (i : ℕ) → Contains (of_class class n ps) i → i < n + length ps
  within_class class n [] i c = absurd (not_in_none i c)
  within_class class n (p ∷ ps) i c = by (p.class == class) c (within_class class (n + 1) ps i) where
    by : (b : Bool) → Contains (if b then n ∷ of_class class (n + 1) ps else of_class class (n + 1) ps) i →
        (Contains (of_class class (n + 1) ps) i → i < n + 1 + length ps) → i < n + length (p ∷ ps)
    by true c more = elim (in_cases n i (of_class class (n + 1) ps) c) [
      | inl e ↦ omega (arith, e)
      | inr d ↦ (let less = more d in omega (arith, less))
    ]
    by false c more = (let less = more c in omega (arith, less))

  from_class : (class n : ℕ) (ps : List LockPath) (i : ℕ) → Contains (of_class class n ps) i → n ≤ i
  from_class class n [] i c = absurd (not_in_none i c)
  from_class class n (p ∷ ps) i c = by (p.class == class) c (from_class class (n + 1) ps i) where
    by : (b : Bool) → Contains (if b then n ∷ of_class class (n + 1) ps else of_class class (n + 1) ps) i →
        (Contains (of_class class (n + 1) ps) i → n + 1 ≤ i) → n ≤ i
    by true c more = elim (in_cases n i (of_class class (n + 1) ps) c) [
      | inl e ↦ omega (arith, e)
      | inr d ↦ (let low = more d in omega (arith, low))
    ]
    by false c more = (let low = more c in omega (arith, low))

  of_class_is : (class n : ℕ) (ps : List LockPath) (i : ℕ) → Contains (of_class class n ps) (n + i) →
      (path : LockPath) × (slice_get ps i ≡ Some path) × (path.class ≡ class)
  of_class_is class n [] i c = absurd (not_in_none (n + i) c)
  of_class_is class n (p ∷ ps) zero c = by (p.class == class) refl c where
    low : Contains (of_class class (n + 1) ps) (n + 0) → ⊥
    low d = (let more = from_class class (n + 1) ps (n + 0) d in omega (arith, more))

    by : (b : Bool) → (p.class == class) ≡ b →
        Contains (if b then n ∷ of_class class (n + 1) ps else of_class class (n + 1) ps) (n + 0) →
        (path : LockPath) × (Some p ≡ Some path) × (path.class ≡ class)
    by true e c = (p, refl, eqb-true p.class class e)
    by false e c = absurd (low c)
  of_class_is class n (p ∷ ps) (suc i) c =
      let shift : n + suc i ≡ n + 1 + i = omega arith in
      by (λ d. of_class_is class (n + 1) ps i (subst (Contains (of_class class (n + 1) ps)) shift d)) (p.class == class) c
    where
      by : (Contains (of_class class (n + 1) ps) (n + suc i) → (path : LockPath) × (slice_get ps i ≡ Some path) × (path.class ≡ class)) →
          (b : Bool) → Contains (if b then n ∷ of_class class (n + 1) ps else of_class class (n + 1) ps) (n + suc i) →
          (path : LockPath) × (slice_get ps i ≡ Some path) × (path.class ≡ class)
      by further true c = elim (in_cases n (n + suc i) (of_class class (n + 1) ps) c) [
        | inl e ↦ absurd (omega (arith, e))
        | inr d ↦ further d
      ]
      by further false c = further c

  -- a number of the class, with its path
  pub class_has : (class i : ℕ) → Contains (of_class class 0 paths) i → HasClass i class
  class_has class i c =
      let first : i ≡ 0 + i = omega arith in
      let r = of_class_is class 0 paths i (subst (Contains (of_class class 0 paths)) first c) in
      record { path = r.0; here = r.1; is = r.2 }

  -- a class of which all paths have one number has one path
  pub one_of_class : (class n k : ℕ) (ps : List LockPath) → ((i : ℕ) → Contains (of_class class n ps) i → i ≡ k) →
      length (of_class class n ps) ≤ 1
  one_of_class class n k [] same = omega arith
  one_of_class class n k (p ∷ ps) same = by (p.class == class) same (one_of_class class (n + 1) k ps) where
    none : (xs : List ℕ) → xs ≡ of_class class (n + 1) ps → n ≡ k → ((i : ℕ) → Contains xs i → i ≡ k) → length (n ∷ xs) ≤ 1
    none [] e first rest = omega arith
    none (x ∷ xs) e first rest =
        let here = rest x (in_first x xs) in
        let low = from_class class (n + 1) ps x (subst (λ ys. Contains ys x) e (in_first x xs)) in
        absurd (omega (arith, here, low, first))

    by : (b : Bool) →
        ((i : ℕ) → Contains (if b then n ∷ of_class class (n + 1) ps else of_class class (n + 1) ps) i → i ≡ k) →
        (((i : ℕ) → Contains (of_class class (n + 1) ps) i → i ≡ k) → length (of_class class (n + 1) ps) ≤ 1) →
        length (if b then n ∷ of_class class (n + 1) ps else of_class class (n + 1) ps) ≤ 1
    by true same more =
        none (of_class class (n + 1) ps) refl (same n (in_first n (of_class class (n + 1) ps)))
        (λ i c. same i (in_rest n i (of_class class (n + 1) ps) c))
    by false same more = more same

  -- ---- order

  module _ (ranks : List ℕ) where
    abbrev rank : LockPath → ℕ
    rank path = slice_index ranks path.class

    abbrev pub Goes : ℕ → ℕ → Type 0
    Goes i k =
        (a b : LockPath) → slice_get paths i ≡ Some a → slice_get paths k ≡ Some b →
        (rank a < rank b) ⊎ ((rank a ≡ rank b) × (i < k))

    abbrev pub Sorted : List ℕ → Type 0
    Sorted [] = ⊤
    Sorted (k ∷ ks) = ((i : ℕ) → Contains ks i → Goes k i) × Sorted ks

    pub sorted_from : (list : List ℕ) → AllPairs Goes list → Sorted list
    sorted_from [] all = tt
    sorted_from (k ∷ ks) all = (
      λ i c. subst (Goes k) c.2 (all 0 (suc c.0) i (omega arith) (omega (arith, c.1))),
      sorted_from ks (λ i j d less within. all (suc i) (suc j) d (omega (arith, less)) (omega (arith, within))),
    )

    sorted_left : (xs ys : List ℕ) → Sorted (xs ++ ys) → Sorted xs
    sorted_left [] ys s = tt
    sorted_left (x ∷ xs) ys s = (λ i c. s.0 i (Contains-append_left xs ys i c), sorted_left xs ys s.1)

    sorted_right : (xs ys : List ℕ) → Sorted (xs ++ ys) → Sorted ys
    sorted_right [] ys s = s
    sorted_right (x ∷ xs) ys s = sorted_right xs ys s.1

    -- each number is that of a path of the section
    abbrev pub AreKnown : List ℕ → Type 0
    AreKnown list = (k : ℕ) → Contains list k → (path : LockPath) × (slice_get paths k ≡ Some path)

    abbrev pub AreOfClass : ℕ → List ℕ → Type 0
    AreOfClass class list = (k : ℕ) → Contains list k → HasClass k class

    -- the path of number `k` has a greater rank than the class
    pub record IsHigher (class k : ℕ) : Type 0 where
      pub path : LockPath
      pub here : slice_get paths k ≡ Some path
      pub higher : slice_index ranks class < rank path

    pub record IsRun (g : List ℕ) (rest : List (List ℕ)) : Type 0 where
      pub class : ℕ
      pub of : AreOfClass class g
      pub sorted : Sorted g
      pub higher : (k : ℕ) → Contains (joined rest) k → IsHigher class k

    abbrev pub AreRuns : List (List ℕ) → Type 0
    AreRuns [] = ⊤
    AreRuns (g ∷ gs) = IsRun g gs × AreRuns gs

    pub joined_runs : (run ks : List ℕ) → joined (runs_on paths run ks) ≡ run ++ ks
    joined_runs run [] = refl
    joined_runs run (k ∷ ks) = by (is_other paths run k) (λ xs. joined_runs xs ks) where
      by : (b : Bool) → ((xs : List ℕ) → joined (runs_on paths xs ks) ≡ xs ++ ks) →
          joined (if b then run ∷ runs_on paths (k ∷ []) ks else runs_on paths (run ++ k ∷ []) ks) ≡ run ++ k ∷ ks
      by true more = ap (λ t. run ++ t) (more (k ∷ []))
      by false more = more (run ++ k ∷ []) ∙ append_assoc run (k ∷ []) ks

    module _ (apart : (i k : ℕ) (a b : LockPath) → slice_get paths i ≡ Some a → slice_get paths k ≡ Some b →
        rank a ≡ rank b → a.class ≡ b.class) where
      -- within a class, the numbers rise
      pub rises : (class i k : ℕ) → HasClass i class → HasClass k class → Goes i k → i < k
      rises class i k hi hk goes = elim (goes hi.path hk.path hi.here hk.here) [
        | inl less ↦ (let same : rank hi.path ≡ rank hk.path = ap (slice_index ranks) (hi.is ∙ sym hk.is) in
            absurd (omega (arith, less, same)))
        | inr q ↦ q.1
      ]

      -- a path of another class that follows one of a class has a greater rank
      is_higher : (class j k : ℕ) (path : LockPath) → HasClass j class → slice_get paths k ≡ Some path →
          (path.class ≡ class → ⊥) → Goes j k → slice_index ranks class < rank path
      is_higher class j k path hj here other goes =
          let mine : rank hj.path ≡ slice_index ranks class = ap (slice_index ranks) hj.is in
          elim (goes hj.path path hj.here here) [
            | inl less ↦ omega (arith, less, mine)
            | inr q ↦ absurd (other (sym (apart j k hj.path path hj.here here q.0) ∙ hj.is))
          ]

      -- a path that follows another has no lesser rank
      goes_up : (j k : ℕ) (a b : LockPath) → slice_get paths j ≡ Some a → slice_get paths k ≡ Some b → Goes j k →
          rank a ≤ rank b
      goes_up j k a b ha hb goes = elim (goes a b ha hb) [ inl less ↦ omega (arith, less) | inr q ↦ (let same = q.0 in omega (arith, same)) ]

      -- the runs of `ks`, after a run that has begun
      abbrev RunOn : List ℕ → Type 0
      RunOn ks =
          (j : ℕ) (js : List ℕ) (class : ℕ) → AreOfClass class (j ∷ js) → Sorted ((j ∷ js) ++ ks) → AreKnown ks →
          AreRuns (runs_on paths (j ∷ js) ks)

      one_more : (k : ℕ) (ks : List ℕ) → RunOn ks → RunOn (k ∷ ks)
      one_more k ks more j js class of sorted known = by (same_class paths j k) refl where
        first : HasClass j class
        first = of j (in_first j js)

        path : (path : LockPath) × (slice_get paths k ≡ Some path)
        path = known k (in_first k ks)

        behind : (i : ℕ) → Contains (k ∷ ks) i → Goes j i
        behind i c = sorted.0 i (Contains-append_right js (k ∷ ks) i c)

        rest_sorted : Sorted (k ∷ ks)
        rest_sorted = sorted_right (j ∷ js) (k ∷ ks) sorted

        rest_known : AreKnown ks
        rest_known i c = known i (in_rest k i ks c)

        other : same_class paths j k ≡ false → path.0.class ≡ class → ⊥
        other e is =
            true≢false (sym (class_test class k (record { path = path.0; here = path.1; is = is })) ∙ (sym (same_is class j k first) ∙ e))

        above : same_class paths j k ≡ false → (i : ℕ) → Contains (k ∷ ks) i → IsHigher class i
        above e i c =
            let one = is_higher class j k path.0 first path.1 (other e) (behind k (in_first k ks)) in
            elim (in_cases k i ks c) [
              | inl same ↦ subst (IsHigher class) same (record { path = path.0; here = path.1; higher = one })
              | inr d ↦ (let its = rest_known i d in
                  let up = goes_up k i path.0 its.0 path.1 its.1 (rest_sorted.0 i d) in
                  record { path = its.0; here = its.1; higher = omega (arith, one, up) })
            ]

        by : (b : Bool) → same_class paths j k ≡ b →
            AreRuns (if not b then (j ∷ js) ∷ runs_on paths (k ∷ []) ks else runs_on paths ((j ∷ js) ++ k ∷ []) ks)
        by false e = (
          record {
            class = class;
            of = of;
            sorted = sorted_left (j ∷ js) (k ∷ ks) sorted;
            higher = λ i c. above e i (subst (λ t. Contains t i) (joined_runs (k ∷ []) ks) c);
          },
          more k [] path.0.class
              (λ i c. record { path = path.0; here = ap (slice_get paths) (sym (one_contained k i c)) ∙ path.1; is = refl })
              rest_sorted rest_known,
        )
        by true e =
            more j (js ++ k ∷ []) class
            (λ i c. elim (push_cases (j ∷ js) k i c) [
              | inl d ↦ of i d
              | inr same ↦ subst (λ n. HasClass n class) same
                  (class_from class k (slice_get paths k) refl (sym (same_is class j k first) ∙ e))
            ])
            (subst Sorted (sym (append_assoc (j ∷ js) (k ∷ []) ks)) sorted) rest_known

      run_on : (ks : List ℕ) → RunOn ks
      run_on [] j js class of sorted known = (
        record {
          class = class;
          of = of;
          sorted = sorted_left (j ∷ js) [] sorted;
          higher = λ k c. absurd (not_in_none k c);
        },
        tt,
      )
      run_on (k ∷ ks) j js class of sorted known = one_more k ks (run_on ks) j js class of sorted known

      -- a sorted list has such runs
      pub list_runs : (list : List ℕ) → Sorted list → AreKnown list → AreRuns (runs paths list)
      list_runs [] sorted known = (
        record { class = 0; of = λ k c. absurd (not_in_none k c); sorted = tt; higher = λ k c. absurd (not_in_none k c) },
        tt,
      )
      list_runs (k ∷ ks) sorted known =
          let path = known k (in_first k ks) in
          run_on ks k [] path.0.class
          (λ i c. record { path = path.0; here = ap (slice_get paths) (sym (one_contained k i c)) ∙ path.1; is = refl })
          sorted (λ i c. known i (in_rest k i ks c))

      pub list_joined : (list : List ℕ) → joined (runs paths list) ≡ list
      list_joined list = joined_runs [] list

      -- ---- how many there are

      pub run_fits : (class : ℕ) (g : List ℕ) (from : ℕ) → AreOfClass class g → Sorted g →
          ((k : ℕ) → Contains g k → from ≤ k) → ((k : ℕ) → Contains g k → k < length paths) →
          length g ≤ length paths - from
      run_fits class [] from of sorted low within = omega arith
      run_fits class (k ∷ ks) from of sorted low within =
          let one = low k (in_first k ks) in
          let two = within k (in_first k ks) in
          let more =
          run_fits class ks (k + 1) (λ i c. of i (in_rest k i ks c)) sorted.1
          (λ i c. (let less = rises class k i (of k (in_first k ks)) (of i (in_rest k i ks c)) (sorted.0 i c) in omega (arith, less)))
          (λ i c. within i (in_rest k i ks c)) in
          omega (arith, one, two, more)
