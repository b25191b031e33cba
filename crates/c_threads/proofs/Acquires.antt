-- An acquire takes the locks that are asked for: its runs, one after another.
use Rattle.std.proofs.Common.{◌≡◌, ◌⊎◌, ◌<◌, ◌≤◌, ℕ, zero, suc, ◌+◌, List, [], ◌∷◌, ◌++◌, map, length, Option}
use Rattle.std.proofs.Common.{Some, None, Bool, true, false, set, slice_get, refl, sym, ap, ◌∙◌, subst, arith, inl, inr}
use Rattle.std.proofs.Common.{if◌then◌else◌, append_assoc}
use Rattle.std.specs.Prelude.{slice_index, nat_le, unwrap_or}
use Rattle.std.specs.List.{Contains, flat_map}
use Rattle.std.specs.Option.{option_map_or}
use Rattle.std.proofs.lemmas.Bool.{cases_Bool, cases_eq, leb-true, le-leb, true≢false}
use Rattle.std.proofs.lemmas.Option.{none-some, same_Some, slice_get_within}
use Rattle.std.proofs.lemmas.List.{append-nil}
use Rattle.std.proofs.lemmas.List.Elements.{Contains-append_left, Contains-append_right, Contains-append_cases}
use Rattle.core_lang.specs.declared.value.Value.{Value}
use Rattle.core_lang.specs.declared.tree.Section.{Section}
use Rattle.core_lang.specs.declared.typed.Typed.{Typed}
use Rattle.core_lang.specs.Typing.{lookup}
use Rattle.core_lang.specs.Theory.Items.{at_contained, in_first, in_rest, not_in_none, map_at, map_back, one_contained}
use Rattle.core_lang.specs.Theory.Items.{set_same, set_other}
use Rattle.locks.specs.declared.lock.Lock.{Lock}
use Rattle.locks.specs.declared.path.Root.TheVariants.{WholeClass}
use Rattle.locks.specs.LockPaths.{LockPath, lock_paths, one_or_none}
use Rattle.locks.specs.Locks.{among, locks_of}
use Rattle.locks.specs.Theory.Order.{contains_among, among_contains}
use Rattle.worlds.specs.Asking.{insert, insert_all, locks_numbered, to_ask}
use Rattle.c_statements.specs.Acquires.{of_class}
use Rattle.c_threads.specs.Locking.{Pointer, Locking, LockStatement, TakeAlone, few, many, run_among, run_statements}
use Rattle.c_threads.specs.Locking.{do_all, take_unless, address_at, addresses_at, stood_for, NotesAre}
use Rattle.c_threads.proofs.Arrays.{length_filled}
use Rattle.c_threads.proofs.Orders.{any_same, aimed, ordered, taken, asked, insert_one, IsOf, AreOf}
use Rattle.c_threads.proofs.Orders.{AreAbove, any_ordered, of_aimed, one_class, asked_append}
use Rattle.c_threads.proofs.Loops.{equals_any, equals_lock, noted, do_append, past, length_past, length_aimed, length_ordered}
use Rattle.c_threads.proofs.Loops.{length_put}
use Rattle.c_threads.proofs.LockRuns.{joined, HasClass, class_once, in_class, within_class, class_has, one_of_class, Sorted}
use Rattle.c_threads.proofs.LockRuns.{AreOfClass, IsHigher, IsRun, AreRuns, rises, run_fits}
use Rattle.c_threads.proofs.Noting.{any_from, any_at, called_any, not_among, notes_ordered, note_one, Rising, note_run}
use Rattle.c_threads.proofs.Noting.{kept_apart, noted_from, length_noted}
use Rattle.c_threads.proofs.Members.{PoolsRise, class_asked, none_of_class}
use Rattle.c_threads.proofs.ClassRuns.{first_of, names, HaveAddresses, few_does, many_does, alone_does, length_names}
use Rattle.c_threads.proofs.ClassRuns.{marked, last_marked, each_taken}
use Rattle.c_threads.proofs.Whole.{IsWhole, whole_or_not, first_in, itself, stood_named, stood_single, locks_single}
use Rattle.c_threads.proofs.Whole.{addresses_single, locks_whole, stood_whole, addresses_whole, Noted, noted_back, noted_there}

one_only : (xs : List ℕ) (a b : ℕ) → length xs ≤ 1 → Contains xs a → Contains xs b → a ≡ b
one_only [] a b few ca cb = absurd (not_in_none a ca)
one_only (x ∷ []) a b few ca cb = sym (one_contained x a ca) ∙ one_contained x b cb
one_only (x ∷ y ∷ xs) a b few ca cb = absurd (omega (arith, few))

abbrev or_null : Option Pointer → Pointer
or_null o = unwrap_or o None

some_or_null : (o : Option Pointer) (lock : Lock) → or_null o ≡ Some lock → o ≡ Some (Some lock)
some_or_null None lock e = absurd (none-some lock e)
some_or_null (Some p) lock e = ap (λ q. Some q) e

abbrev some : Lock → Pointer
some l = Some l

-- ---- pointers of a class, or above one

of_all : (class : ℕ) (ls : List Lock) → ((l : Lock) → Contains ls l → l.class ≡ class) → AreOf class (map some ls)
of_all class [] of = tt
of_all class (l ∷ ls) of = (of l (in_first l ls), of_all class ls (λ x c. of x (in_rest l x ls c)))

of_both : (class : ℕ) (xs ys : List Pointer) → AreOf class xs → AreOf class ys → AreOf class (xs ++ ys)
of_both class [] ys hx hy = hy
of_both class (x ∷ xs) ys hx hy = (hx.0, of_both class xs ys hx.1 hy)

above_all : (ranks : List ℕ) (class : ℕ) (ls : List Lock) →
    ((l : Lock) → Contains ls l → slice_index ranks class < slice_index ranks l.class) → AreAbove ranks class (map some ls)
above_all ranks class [] above = tt
above_all ranks class (l ∷ ls) above = (above l (in_first l ls), above_all ranks class ls (λ x c. above x (in_rest l x ls c)))

above_both : (ranks : List ℕ) (class : ℕ) (xs ys : List Pointer) → AreAbove ranks class xs → AreAbove ranks class ys →
    AreAbove ranks class (xs ++ ys)
above_both ranks class [] ys hx hy = hy
above_both ranks class (x ∷ xs) ys hx hy = (hx.0, above_both ranks class xs ys hx.1 hy)

module _ (program : Typed) (section : Section) (locals : List Value) (ranks : List ℕ) where
  abbrev paths : List LockPath
  paths = lock_paths program section

  abbrev locks : ℕ → List Lock
  locks k = locks_numbered program section locals k

  -- the lock of a path that names at most one
  abbrev name : ℕ → Pointer
  name k = first_of (locks k)

  abbrev called_by : List ℕ → List Pointer
  called_by ks = names program section locals ks

  -- what these paths name
  abbrev pub its : List ℕ → List Pointer
  its [] = []
  its (k ∷ ks) = map some (locks k) ++ its ks

  -- what is asked for by these paths
  abbrev pub wanted : List Lock → List ℕ → List Lock
  wanted held ks = asked ranks held (its ks)

  abbrev go : List LockStatement → Locking → Option Locking
  go = do_all program section locals

  -- the locks that a path names have the path's class
  abbrev pub NamesHaveClasses : Type 0
  NamesHaveClasses = (k : ℕ) (lock : Lock) → Contains (locks k) lock → HasClass paths k lock.class

  abbrev pub TellApart : Type 0
  TellApart =
      (i k : ℕ) (a b : LockPath) → slice_get paths i ≡ Some a → slice_get paths k ≡ Some b →
      slice_index ranks a.class ≡ slice_index ranks b.class → a.class ≡ b.class

  -- a whole class is the only path of its class
  abbrev pub WholeAlone : Type 0
  WholeAlone =
      (i k : ℕ) (a b : LockPath) → slice_get paths i ≡ Some a → slice_get paths k ≡ Some b → a.class ≡ b.class →
      IsWhole b.root → i ≡ k

  -- the address of a path that isn't a whole class is that of its lock
  abbrev pub AreAddressed : List ℕ → Type 0
  AreAddressed ks =
      (k : ℕ) (path : LockPath) → Contains ks k → slice_get paths k ≡ Some path → (IsWhole path.root → ⊥) →
      address_at program section locals k ≡ Some (name k)

  -- what holds of the notes, ahead of a run and after it
  pub record IsGood (notes : List Pointer) (held : List Lock) : Type 0 where
    pub are : NotesAre program section notes held
    pub long : length notes ≡ length paths
    pub fit : (k : ℕ) (lock : Lock) → slice_get notes k ≡ Some (Some lock) → Contains (locks k) lock

  module _ (classes : NamesHaveClasses) (apart : TellApart) (whole_alone : WholeAlone) (pools : PoolsRise program.shape) where
    -- ---- names of a class

    are_of : (class : ℕ) (ks : List ℕ) → AreOfClass paths ranks class ks → AreOf class (called_by ks)
    are_of class [] of = tt
    are_of class (k ∷ ks) of = (by (name k) refl, are_of class ks (λ i c. of i (in_rest k i ks c))) where
      by : (p : Pointer) → name k ≡ p → IsOf class p
      by None e = tt
      by (Some lock) e =
          class_once paths k lock.class class (classes k lock (first_in (locks k) lock e)) (of k (in_first k ks))

    its_of : (class : ℕ) (ks : List ℕ) → AreOfClass paths ranks class ks → AreOf class (its ks)
    its_of class [] of = tt
    its_of class (k ∷ ks) of =
        of_both class (map some (locks k)) (its ks)
        (of_all class (locks k) (λ l c. class_once paths k l.class class (classes k l c) (of k (in_first k ks))))
        (its_of class ks (λ i c. of i (in_rest k i ks c)))

    -- ---- which of these are held

    module _ (class : ℕ) (notes : List Pointer) (held : List Lock) (good : IsGood notes held) where
      abbrev cls : List ℕ
      cls = of_class class 0 paths

      -- where a held lock of the class is noted
      pub record IsAt (lock : Lock) : Type 0 where
        number : ℕ
        path : LockPath
        here : slice_get paths number ≡ Some path
        is : path.class ≡ class
        mine : Contains cls number
        noted : Noted program section locals notes number lock

      at_class : (lock : Lock) → lock.class ≡ class → Contains held lock → IsAt lock
      at_class lock c h =
          let r = good.are.noted lock h in
          let n = noted_back program section locals notes r.0 lock r.1 in
          let has = classes r.0 lock (stood_named program section locals r.0 n.lock lock (good.fit r.0 n.lock n.here) n.stands) in
          let first : 0 + r.0 ≡ r.0 = omega arith in
          record {
            number = r.0;
            path = has.path;
            here = has.here;
            is = has.is ∙ c;
            mine = subst (Contains cls) first (in_class paths class 0 paths r.0 has.path has.here (has.is ∙ c));
            noted = n;
          }

      -- a note is of a held lock
      noted_held : (k : ℕ) (lock : Lock) → slice_get notes k ≡ Some (Some lock) → Contains held lock
      noted_held k lock e =
          good.are.only k lock
          (noted_there program section locals notes k lock lock e (itself program section locals k lock (good.fit k lock e)))

      module _ (not_whole : (k : ℕ) (path : LockPath) → slice_get paths k ≡ Some path → path.class ≡ class →
          IsWhole path.root → ⊥) where
        -- it is the lock noted
        at_lock : (lock : Lock) → lock.class ≡ class → Contains held lock →
            (k : ℕ) × Contains cls k × (slice_get notes k ≡ Some (Some lock))
        at_lock lock c h =
            let at = at_class lock c h in
            let alone = stood_single program section locals at.number at.path at.here (not_whole at.number at.path at.here at.is) at.noted.lock in
            let same : at.noted.lock ≡ lock = one_contained at.noted.lock lock (subst (λ xs. Contains xs lock) alone at.noted.stands) in
            (at.number, at.mine, at.noted.here ∙ ap (λ (l : Lock). Some (Some l)) same)

        same_of_all : (lock : Lock) → lock.class ≡ class → equals_any (Some lock) notes ≡ among held lock
        same_of_all lock c = equals_lock lock notes ∙ elim (cases_Bool (among held lock)) [
          | inl e ↦ (let r = at_lock lock c (among_contains held lock e) in any_at lock notes r.0 r.2 ∙ sym e)
          | inr e ↦ elim (cases_Bool (any_same lock notes)) [
            | inl f ↦ (let r = any_from lock notes f in
                absurd (true≢false (sym (contains_among held lock (noted_held r.0 lock r.1)) ∙ e)))
            | inr f ↦ f ∙ sym e
          ]
        ]

        abbrev os : List Pointer
        os = map (λ i. or_null (slice_get notes i)) cls

        same_of_class : (lock : Lock) → lock.class ≡ class → equals_any (Some lock) os ≡ among held lock
        same_of_class lock c = equals_lock lock os ∙ elim (cases_Bool (among held lock)) [
          | inl e ↦ (let r = at_lock lock c (among_contains held lock e) in
              let at = at_contained cls r.0 r.1 in
              any_at lock os at.0 (map_at (λ i. or_null (slice_get notes i)) cls at.0 r.0 at.1
              ∙ ap (λ o. Some (or_null o)) r.2) ∙ sym e)
          | inr e ↦ elim (cases_Bool (any_same lock os)) [
            | inl f ↦ (let r = any_from lock os f in
                let back = map_back (λ i. or_null (slice_get notes i)) cls r.0 (Some lock) r.1 in
                let noted = some_or_null (slice_get notes back.0) lock back.2 in
                absurd (true≢false (sym (contains_among held lock (noted_held back.0 lock noted)) ∙ e)))
            | inr f ↦ f ∙ sym e
          ]
        ]

        reads : (ks : List ℕ) → ((k : ℕ) → Contains ks k → k < length notes) →
            map (slice_get notes) ks ≡ map (λ (p : Pointer). Some p) (map (λ i. or_null (slice_get notes i)) ks)
        reads [] within = refl
        reads (k ∷ ks) within =
            ap (λ o. o ∷ map (slice_get notes) ks) (is notes k (within k (in_first k ks)))
            ∙ ap (λ t. Some (or_null (slice_get notes k)) ∷ t) (reads ks (λ i c. within i (in_rest k i ks c)))
          where
            is : (xs : List Pointer) (i : ℕ) → i < length xs → slice_get xs i ≡ Some (or_null (slice_get xs i))
            is [] i lt = absurd (omega (arith, lt))
            is (x ∷ xs) zero lt = refl
            is (x ∷ xs) (suc i) lt = is xs i (omega (arith, lt))

    -- ---- one run

    pub record HasDone (g : List ℕ) (notes : List Pointer) (held : List Lock) (m : List (Option Pointer))
        (calls : List Lock) : Type 0 where
      pub noted_after : List Pointer
      pub after : List (Option Pointer)
      pub long : length after ≡ length paths
      pub done : go (run_statements paths g) (record { notes = notes; asked = m; calls = calls })
          ≡ Some (record { notes = noted_after; asked = after; calls = calls ++ wanted held g })
      pub good : IsGood noted_after (held ++ wanted held g)
      pub from : (i : ℕ) (lock : Lock) → slice_get noted_after i ≡ Some (Some lock) →
          (slice_get notes i ≡ Some (Some lock)) ⊎ Contains g i

    -- what paths that name at most one lock ask for
    asked_names : (held : List Lock) (ks : List ℕ) → ((k : ℕ) → Contains ks k → locks k ≡ one_or_none (name k)) →
        asked ranks held (called_by ks) ≡ wanted held ks
    asked_names held [] single = refl
    asked_names held (k ∷ ks) single =
        ap (insert_one ranks held (name k)) (asked_names held ks (λ i c. single i (in_rest k i ks c)))
        ∙ subst (λ ls. insert_one ranks held (name k) (wanted held ks) ≡ asked ranks held (map some ls ++ its ks))
        (sym (single k (in_first k ks))) (by (name k))
      where
        by : (p : Pointer) →
            insert_one ranks held p (wanted held ks) ≡ asked ranks held (map some (one_or_none p) ++ its ks)
        by None = refl
        by (Some l) = refl

    rising_of : (class : ℕ) (ks : List ℕ) → AreOfClass paths ranks class ks → Sorted paths ranks ks → Rising ks
    rising_of class [] all sorted = tt
    rising_of class (k ∷ ks) all sorted = (
      λ i c. rises paths ranks apart class k i (all k (in_first k ks)) (all i (in_rest k i ks c)) (sorted.0 i c),
      rising_of class ks (λ i c. all i (in_rest k i ks c)) sorted.1,
    )

    module _ (k : ℕ) (ks : List ℕ) (rest : List (List ℕ)) (run : IsRun paths ranks (k ∷ ks) rest)
        (addresses : AreAddressed (k ∷ ks)) (notes : List Pointer) (held : List Lock)
        (good : IsGood notes held) (m : List (Option Pointer)) (calls : List Lock) (long : length m ≡ length paths) where
      abbrev g : List ℕ
      g = k ∷ ks

      abbrev kps : List Pointer
      kps = aimed held (called_by g)

      abbrev path : LockPath
      path = (run.of k (in_first k ks)).path

      here : slice_get paths k ≡ Some path
      here = (run.of k (in_first k ks)).here

      class_is : path.class ≡ run.class
      class_is = (run.of k (in_first k ks)).is

      of : AreOfClass paths ranks path.class g
      of = subst (λ c. AreOfClass paths ranks c g) (sym class_is) run.of

      within : (i : ℕ) → Contains g i → i < length notes
      within i c =
          let has = run.of i c in
          let less = slice_get_within paths i has.path has.here in
          let same = good.long in
          omega (arith, less, same)

      fits : length g ≤ length m
      fits =
          let count = run_fits paths ranks apart run.class g 0 run.of run.sorted (λ i c. omega arith)
          (λ i c. (let has = run.of i c in slice_get_within paths i has.path has.here)) in
          omega (arith, count, long)

      abbrev mine : List ℕ
      mine = of_class path.class 0 paths

      abbrev start : Locking
      start = record { notes = notes; asked = m; calls = calls }

      -- the paths of the class are those of the run
      in_mine : (i : ℕ) (has : HasClass paths i path.class) → Contains mine i
      in_mine i has =
          let first : 0 + i ≡ i = omega arith in
          subst (Contains mine) first (in_class paths path.class 0 paths i has.path has.here has.is)

      none_behind : length mine ≤ 1 → (xs : List ℕ) → ks ≡ xs → xs ≡ []
      none_behind one [] e = refl
      none_behind one (i ∷ xs) e =
          let there : Contains ks i = subst (λ t. Contains t i) (sym e) (in_first i xs) in
          let hk = of k (in_first k ks) in
          let hi = of i (in_rest k i ks there) in
          let same = one_only mine k i one (in_mine k hk) (in_mine i hi) in
          let less = rises paths ranks apart path.class k i hk hi (run.sorted.0 i there) in
          absurd (omega (arith, same, less))

      -- ---- of a class that no path is

      module _ (not : IsWhole path.root → ⊥) where
        none_whole : (i : ℕ) (other : LockPath) → slice_get paths i ≡ Some other → other.class ≡ path.class →
            IsWhole other.root → ⊥
        none_whole i other there same whole =
            let e : k ≡ i = whole_alone k i path other here there (sym same) whole in
            let is : path ≡ other = same_Some path other (sym here ∙ (ap (slice_get paths) e ∙ there)) in
            not (subst (λ (p : LockPath). IsWhole p.root) (sym is) whole)

        not_at : (i : ℕ) (c : Contains g i) → IsWhole (of i c).path.root → ⊥
        not_at i c = (let has = of i c in none_whole i has.path has.here has.is)

        single : (i : ℕ) → Contains g i → locks i ≡ one_or_none (name i)
        single i c = (let has = of i c in locks_single program section locals i has.path has.here (not_at i c))

        addressed : HaveAddresses program section locals g
        addressed i c = (let has = of i c in addresses i has.path c has.here (not_at i c))

        taken_is : taken held (called_by g) ≡ wanted held g
        taken_is = one_class ranks held path.class (called_by g) (are_of path.class g of) ∙ asked_names held g single

        abbrev end : List (Option Pointer) → Locking
        end after = record { notes = noted g kps notes; asked = after; calls = calls ++ taken held (called_by g) }

        abbrev filled_after : List (Option Pointer)
        filled_after = map (λ (p : Pointer). Some p) (ordered kps) ++ past g m

        few_done : go (few mine g) start ≡ Some (end filled_after)
        few_done =
            few_does program section locals path.class held g notes m calls (are_of path.class g of) addressed fits within
            mine (os path.class notes held good none_whole)
            (reads path.class notes held good none_whole mine (λ i c.
            (let less = within_class paths path.class 0 paths i c in let same = good.long in omega (arith, less, same))))
            (same_of_class path.class notes held good none_whole)

        many_done : go (many (length paths) g) start ≡ Some (end filled_after)
        many_done =
            many_does program section locals path.class held g notes m calls (are_of path.class g of) addressed fits within
            (length paths) (sym good.long) (same_of_all path.class notes held good none_whole)

        -- a lock that a single path names is its name
        named_is : (i : ℕ) (lock : Lock) → Contains g i → Contains (locks i) lock → name i ≡ Some lock
        named_is i lock c d = by (name i) (subst (λ ls. Contains ls lock) (single i c) d) where
          by : (p : Pointer) → Contains (one_or_none p) lock → p ≡ Some lock
          by None d = absurd (not_in_none lock d)
          by (Some l) d = ap (λ (x : Lock). Some x) (one_contained l lock d)

        alone_done : length mine ≤ 1 → go (map TakeAlone g) start ≡ Some (end m)
        alone_done one =
            let none : ks ≡ [] = none_behind one ks refl in
            let first = in_first k ks in
            subst (λ t. go (map TakeAlone (k ∷ t)) start
            ≡ Some (record { notes = noted (k ∷ t) (aimed held (called_by (k ∷ t))) notes; asked = m; calls = calls ++ taken held (called_by (k ∷ t)) }))
            (sym none)
            (alone_does program section locals held k notes m calls
            (addresses_single program section locals k path here not (name k) (addressed k first)) (within k first)
            (λ lock e. (named_is k lock first (good.fit k lock e), noted_held path.class notes held good k lock e))
            (λ lock named c.
            (let hk = of k first in
            let class : lock.class ≡ path.class =
            class_once paths k lock.class path.class (classes k lock (first_in (locks k) lock named)) hk in
            let r = at_lock path.class notes held good none_whole lock class c in
            let same = one_only mine r.0 k one r.1 (in_mine k hk) in
            subst (λ i. slice_get notes i ≡ Some (Some lock)) same r.2)))

        long_after : length filled_after ≡ length paths
        long_after =
            let one = length_filled (ordered kps) (past g m) in
            let two = length_ordered kps ∙ (length_aimed held (called_by g) ∙ length_names name g) in
            let three = length_past g m fits in
            omega (arith, one, two, three, long)

        among_done : (one eight : Bool) → nat_le (length mine) 1 ≡ one →
            (after : List (Option Pointer)) × (length after ≡ length paths)
            × (go (if one then map TakeAlone g else if eight then few mine g else many (length paths) g) start ≡ Some (end after))
        among_done true eight e = (m, long, alone_done (leb-true (length mine) 1 e))
        among_done false true e = (filled_after, long_after, few_done)
        among_done false false e = (filled_after, long_after, many_done)

        -- the notes after it
        good_behind : IsGood (noted g kps notes) (held ++ wanted held g)
        good_behind = record {
          are = subst (λ t. NotesAre program section (noted g kps notes) (held ++ t)) taken_is
              (notes_ordered program section (noted g kps notes) held kps
              (note_run program section name held g notes held good.are (rising_of path.class g of run.sorted)
              (λ i l c. (let has = of i c in stood_single program section locals i has.path has.here (not_at i c) l))
              within (λ i l c e. named_is i l c (good.fit i l e))
              (λ l c. kept_apart program section name held g l (contains_among held l c))));
          long = length_noted program section name held g kps notes ∙ good.long;
          fit = λ i lock e. elim (noted_from program section name held g notes i lock e) [
            | inl h ↦ good.fit i lock h
            | inr r ↦ first_in (locks i) lock r.1
          ];
        }

        single_done : HasDone g notes held m calls
        single_done =
            let r = among_done (nat_le (length mine) 1) (nat_le (length mine) 8) refl in
            record {
              noted_after = noted g kps notes;
              after = r.0;
              long = r.1;
              done = ap (λ o. go (option_map_or (λ (p : LockPath). run_among paths (of_class p.class 0 paths) g) o []) start) here
                  ∙ r.2 ∙ ap (λ t. Some (record { notes = noted g kps notes; asked = r.0; calls = calls ++ t })) taken_is;
              good = good_behind;
              from = λ i lock e. elim (noted_from program section name held g notes i lock e) [
                | inl h ↦ inl h
                | inr r ↦ inr r.0
              ];
            }

      -- ---- of a whole class

      module _ (s : ℕ) (whole : path.root ≡ WholeClass s) where
        abbrev members : List Lock
        members = locks_of program.shape path.class s

        locks_are : locks k ≡ members
        locks_are = locks_whole program section locals k path here s whole

        stood_are : (lock : Lock) → stood_for program section k lock ≡ members
        stood_are lock = stood_whole program section locals k path here s whole lock

        one : length mine ≤ 1
        one = one_of_class paths path.class 0 k paths (λ i c.
            (let has = class_has paths path.class i c in whole_alone i k has.path path has.here here has.is (s, whole)))

        none : ks ≡ []
        none = none_behind one ks refl

        class_of : (l : Lock) → Contains members l → l.class ≡ path.class
        class_of l c =
            class_once paths k l.class path.class (classes k l (subst (λ ls. Contains ls l) (sym locks_are) c)) (of k (in_first k ks))

        -- what is asked for
        wanted_is : wanted held (k ∷ []) ≡ asked ranks held (map some members)
        wanted_is = ap (asked ranks held) (append-nil (map some (locks k)) ∙ ap (map some) locks_are)

        abbrev ends : List Pointer → List Lock → Type 0
        ends after taken_ones =
            go (TakeAlone k ∷ []) start ≡ Some (record { notes = after; asked = m; calls = calls ++ taken_ones })

        record Left : Type 0 where
          after : List Pointer
          done : ends after (wanted held (k ∷ []))
          good_after : IsGood after (held ++ wanted held (k ∷ []))
          from : (i : ℕ) (lock : Lock) → slice_get after i ≡ Some (Some lock) →
              (slice_get notes i ≡ Some (Some lock)) ⊎ Contains (k ∷ []) i

        abbrev tested : Option Pointer → Option Locking
        tested o = lookup (lookup o (λ noted. take_unless (addresses_at program section locals k) noted k start)) (go [])

        -- the class is held: nothing happens
        at_noted : (lock : Lock) → slice_get notes k ≡ Some (Some lock) → Left
        at_noted lock e =
            let nothing : wanted held (k ∷ []) ≡ [] =
            wanted_is ∙ none_of_class program.shape path.class s ranks held (λ l c. contains_among held l
            (good.are.only k l (noted_there program section locals notes k lock l e (subst (λ xs. Contains xs l) (sym (stood_are lock)) c)))) in
            record {
              after = notes;
              done = ap tested e ∙ ap (λ c. Some (record { notes = notes; asked = m; calls = c }))
                  (sym (ap (λ t. calls ++ t) nothing ∙ append-nil calls));
              good_after = subst (IsGood notes) (sym (ap (λ t. held ++ t) nothing ∙ append-nil held)) good;
              from = λ i l h. inl h;
            }

        -- no lock of the class is held
        free : slice_get notes k ≡ Some None → (l : Lock) → Contains members l → Contains held l → ⊥
        free e l c h =
            let at = at_class path.class notes held good l (class_of l c) h in
            let same : at.number ≡ k = whole_alone at.number k at.path path at.here here at.is (s, whole) in
            let bad : Some None ≡ Some (Some at.noted.lock) = sym e ∙ (ap (slice_get notes) (sym same) ∙ at.noted.here) in
            absurd (cc bad)

        all_wanted : slice_get notes k ≡ Some None → wanted held (k ∷ []) ≡ members
        all_wanted e =
            wanted_is ∙ class_asked program.shape path.class s ranks held pools (λ l c. not_among held l (free e l c))

        -- the notes after it
        good_marked : slice_get notes k ≡ Some None → (ls : List Lock) → ls ≡ members →
            IsGood (marked k ls notes) (held ++ ls)
            × ((i : ℕ) (lock : Lock) → slice_get (marked k ls notes) i ≡ Some (Some lock) →
            (slice_get notes i ≡ Some (Some lock)) ⊎ Contains (k ∷ []) i)
        good_marked e [] all = (subst (IsGood notes) (sym (append-nil held)) good, λ i lock h. inl h)
        good_marked e (l ∷ ls) all =
            let r = last_marked k l ls notes in
            let last = r.0 in
            let there : Contains members last = subst (λ xs. Contains xs last) all r.1 in
            let less = within k (in_first k ks) in
            let many = length_put notes k (Some last) in
            let same = good.long in
            let stands : stood_for program section k last ≡ l ∷ ls = stood_are last ∙ sym all in
            let is_good : IsGood (set notes k (Some last)) (held ++ l ∷ ls) = record {
              are = subst (λ xs. NotesAre program section (set notes k (Some last)) (held ++ xs)) stands
                  (note_one program section notes held k last good.are e
                  (λ x c d. free e x (subst (λ xs. Contains xs x) (stood_are last) c) d));
              long = many ∙ same;
              fit = λ i lock h. elim (changed last less i lock h) [
                | inl old ↦ good.fit i lock old
                | inr q ↦ subst (Contains (locks i)) q.1 (subst (λ n. Contains (locks n) last) (sym q.0)
                    (subst (λ ls. Contains ls last) (sym locks_are) there))
              ];
            } in
            subst (λ ns. IsGood ns (held ++ l ∷ ls) × ((i : ℕ) (lock : Lock) → slice_get ns i ≡ Some (Some lock) →
            (slice_get notes i ≡ Some (Some lock)) ⊎ Contains (k ∷ []) i)) (sym r.2) (
              is_good,
              λ i lock h. elim (changed last less i lock h) [
                | inl old ↦ inl old
                | inr q ↦ inr (subst (Contains (k ∷ [])) (sym q.0) (in_first k []))
              ],
            )
          where
            changed : (last : Lock) → k < length notes → (i : ℕ) (lock : Lock) →
                slice_get (set notes k (Some last)) i ≡ Some (Some lock) →
                (slice_get notes i ≡ Some (Some lock)) ⊎ ((i ≡ k) × (last ≡ lock))
            changed last less i lock h = elim (cases_eq i k) [
              | inl same ↦ (let both : Some (Some last) ≡ Some (Some lock) =
                  sym (set_same notes k (Some last) less) ∙ (ap (slice_get (set notes k (Some last))) (sym same) ∙ h) in
                  inr (same, cc both))
              | inr other ↦ inl (sym (set_other notes k i (Some last) (λ e. other (sym e))) ∙ h)
            ]

        at_null : slice_get notes k ≡ Some None → Left
        at_null e =
            let all = all_wanted e in
            let after = good_marked e members refl in
            record {
              after = marked k members notes;
              done = ap tested e
                  ∙ ap (λ a. lookup (take_unless a None k start) (go [])) (addresses_whole program section locals k path here s whole)
                  ∙ ap (λ o. lookup o (go [])) (each_taken k members notes m calls (within k (in_first k ks)))
                  ∙ ap (λ t. Some (record { notes = marked k members notes; asked = m; calls = calls ++ t })) (sym all);
              good_after = subst (λ t. IsGood (marked k members notes) (held ++ t)) (sym all) after.0;
              from = after.1;
            }

        left : Left
        left = by (slice_get notes k) refl (within k (in_first k ks)) where
          none_there : (xs : List Pointer) (i : ℕ) → i < length xs → slice_get xs i ≡ None → ⊥
          none_there [] i lt e = omega (arith, lt)
          none_there (x ∷ xs) zero lt e = (let bad : Some x ≡ None = e in cc bad)
          none_there (x ∷ xs) (suc i) lt e = none_there xs i (omega (arith, lt)) e

          by : (o : Option Pointer) → slice_get notes k ≡ o → k < length notes → Left
          by None e lt = absurd (none_there notes k lt e)
          by (Some None) e lt = at_null e
          by (Some (Some lock)) e lt = at_noted lock e

        few_is : nat_le (length mine) 1 ≡ true
        few_is = le-leb (length mine) 1 one

        alone_is : (x : Locking) → go (run_statements paths (k ∷ [])) x ≡ go (TakeAlone k ∷ []) x
        alone_is x =
            ap (λ o. go (option_map_or (λ (p : LockPath). run_among paths (of_class p.class 0 paths) (k ∷ [])) o []) x) here
            ∙ ap (λ b. go (if b then map TakeAlone (k ∷ []) else if nat_le (length mine) 8 then few mine (k ∷ [])
            else many (length paths) (k ∷ [])) x) few_is

        whole_done : HasDone g notes held m calls
        whole_done =
            let l = left in
            let one_path : HasDone (k ∷ []) notes held m calls = record {
              noted_after = l.after;
              after = m;
              long = long;
              done = alone_is start ∙ l.done;
              good = l.good_after;
              from = l.from;
            } in
            subst (λ t. HasDone (k ∷ t) notes held m calls) (sym none) one_path

      run_done : HasDone g notes held m calls
      run_done = elim (whole_or_not path.root) [
        | inl w ↦ whole_done w.0 w.1
        | inr not ↦ single_done not
      ]

    abbrev Runs : List (List ℕ) → Type 0
    Runs gs = AreRuns paths ranks gs

    -- ---- all runs

    -- what is asked for by the later ones is the same with those of a class held
    among_more : (held xs : List Lock) (class : ℕ) (lock : Lock) → ((l : Lock) → Contains xs l → l.class ≡ class) →
        (lock.class ≡ class → ⊥) → among (held ++ xs) lock ≡ among held lock
    among_more held xs class lock of other = elim (cases_Bool (among held lock)) [
      | inl e ↦ contains_among (held ++ xs) lock (Contains-append_left held xs lock (among_contains held lock e)) ∙ sym e
      | inr e ↦ not_among (held ++ xs) lock (λ c. elim (Contains-append_cases held xs lock c) [
        | inl d ↦ true≢false (sym (contains_among held lock d) ∙ e)
        | inr d ↦ other (of lock d)
      ]) ∙ sym e
    ]

    asked_more : (held xs : List Lock) (class : ℕ) → ((l : Lock) → Contains xs l → l.class ≡ class) →
        (ms : List Pointer) → AreAbove ranks class ms → asked ranks (held ++ xs) ms ≡ asked ranks held ms
    asked_more held xs class of [] above = refl
    asked_more held xs class of (None ∷ ms) above = asked_more held xs class of ms above.1
    asked_more held xs class of (Some lock ∷ ms) above =
        ap (insert_one ranks (held ++ xs) (Some lock)) (asked_more held xs class of ms above.1)
        ∙ ap (λ b. if b then asked ranks held ms else insert ranks lock (asked ranks held ms))
        (among_more held xs class lock of (λ same.
        (let less = above.0 in let e = ap (slice_index ranks) same in omega (arith, less, e))))

    -- locks of the paths of later runs are of greater ranks
    are_above : (class : ℕ) (ks : List ℕ) → ((k : ℕ) → Contains ks k → IsHigher paths ranks class k) →
        AreAbove ranks class (its ks)
    are_above class [] higher = tt
    are_above class (k ∷ ks) higher =
        above_both ranks class (map some (locks k)) (its ks)
        (above_all ranks class (locks k) (λ l c.
        (let h = higher k (in_first k ks) in
        let has = classes k l c in
        let same : h.path ≡ has.path = same_Some h.path has.path (sym h.here ∙ has.here) in
        let class_is : h.path.class ≡ l.class = ap (λ (p : LockPath). p.class) same ∙ has.is in
        subst (λ c. slice_index ranks class < slice_index ranks c) class_is h.higher)))
        (are_above class ks (λ i c. higher i (in_rest k i ks c)))

    its_append : (xs ys : List ℕ) → its (xs ++ ys) ≡ its xs ++ its ys
    its_append [] ys = refl
    its_append (x ∷ xs) ys =
        ap (λ t. map some (locks x) ++ t) (its_append xs ys) ∙ sym (append_assoc (map some (locks x)) (its xs) (its ys))

    wanted_class : (class : ℕ) (g : List ℕ) (held : List Lock) → AreOf class (its g) → (l : Lock) →
        Contains (wanted held g) l → l.class ≡ class
    wanted_class class g held are l c =
        let ms = its g in
        let there = subst (λ t. Contains t l) (sym (one_class ranks held class ms are)) c in
        let any = sym (any_ordered l (aimed held ms)) ∙ called_any l (ordered (aimed held ms)) there in
        let at = any_from l (aimed held ms) any in
        of_at (aimed held ms) (of_aimed class held ms are) at.0 at.1
      where
        of_at : (ps : List Pointer) → AreOf class ps → (j : ℕ) → slice_get ps j ≡ Some (Some l) → l.class ≡ class
        of_at [] are j e = absurd (none-some (Some l) e)
        of_at (p ∷ ps) are zero e = (let same : p ≡ Some l = cc e in subst (IsOf class) same are.0)
        of_at (p ∷ ps) are (suc j) e = of_at ps are.1 j e

    pub record AllDone (gs : List (List ℕ)) (notes : List Pointer) (held : List Lock) (m : List (Option Pointer))
        (calls : List Lock) : Type 0 where
      pub noted_after : List Pointer
      pub after : List (Option Pointer)
      pub done : go (flat_map (run_statements paths) gs) (record { notes = notes; asked = m; calls = calls })
          ≡ Some (record { notes = noted_after; asked = after; calls = calls ++ wanted held (joined gs) })
      pub good : IsGood noted_after (held ++ wanted held (joined gs))
      pub from : (i : ℕ) (lock : Lock) → slice_get noted_after i ≡ Some (Some lock) →
          (slice_get notes i ≡ Some (Some lock)) ⊎ Contains (joined gs) i

    any_run : (g : List ℕ) (rest : List (List ℕ)) → IsRun paths ranks g rest → AreAddressed g →
        (notes : List Pointer) (held : List Lock) → IsGood notes held → (m : List (Option Pointer)) (calls : List Lock) →
        length m ≡ length paths → HasDone g notes held m calls
    any_run [] rest run addresses notes held good m calls long = record {
      noted_after = notes;
      after = m;
      long = long;
      done = ap (λ c. Some (record { notes = notes; asked = m; calls = c })) (sym (append-nil calls));
      good = subst (IsGood notes) (sym (append-nil held)) good;
      from = λ i lock e. inl e;
    }
    any_run (k ∷ ks) rest run addresses notes held good m calls long =
        run_done k ks rest run addresses notes held good m calls long

    pub all_runs : (gs : List (List ℕ)) → Runs gs → AreAddressed (joined gs) →
        (notes : List Pointer) (held : List Lock) → IsGood notes held → (m : List (Option Pointer)) (calls : List Lock) →
        length m ≡ length paths → AllDone gs notes held m calls
    all_runs [] are addresses notes held good m calls long = record {
      noted_after = notes;
      after = m;
      done = ap (λ c. Some (record { notes = notes; asked = m; calls = c })) (sym (append-nil calls));
      good = subst (IsGood notes) (sym (append-nil held)) good;
      from = λ i lock e. inl e;
    }
    all_runs (g ∷ gs) are addresses notes held good m calls long =
        let one = any_run g gs are.0 (λ k path c. addresses k path (Contains-append_left g (joined gs) k c)) notes held good m calls long in
        let class = are.0.class in
        let mine = wanted held g in
        let of = its_of class g are.0.of in
        let above = are_above class (joined gs) are.0.higher in
        let rest =
        all_runs gs are.1 (λ k path c. addresses k path (Contains-append_right g (joined gs) k c)) one.noted_after (held ++ mine)
        one.good one.after (calls ++ mine) one.long in
        let same : mine ++ wanted (held ++ mine) (joined gs) ≡ wanted held (joined (g ∷ gs)) =
        ap (λ t. mine ++ t) (asked_more held mine class (wanted_class class g held of) (its (joined gs)) above)
        ∙ sym (ap (asked ranks held) (its_append g (joined gs)) ∙ asked_append ranks held class (its g) (its (joined gs)) of above) in
        record {
          noted_after = rest.noted_after;
          after = rest.after;
          done =
              do_append program section locals (run_statements paths g) (flat_map (run_statements paths) gs)
              (record { notes = notes; asked = m; calls = calls })
              (record { notes = one.noted_after; asked = one.after; calls = calls ++ mine }) one.done
              ∙ rest.done
              ∙ ap (λ c. Some (record { notes = rest.noted_after; asked = rest.after; calls = c }))
              (append_assoc calls mine (wanted (held ++ mine) (joined gs)) ∙ ap (λ t. calls ++ t) same);
          good = subst (IsGood rest.noted_after)
              (append_assoc held mine (wanted (held ++ mine) (joined gs)) ∙ ap (λ t. held ++ t) same) rest.good;
          from = λ i lock e. elim (rest.from i lock e) [
            | inl h ↦ elim (one.from i lock h) [
              | inl before ↦ inl before
              | inr c ↦ inr (Contains-append_left g (joined gs) i c)
            ]
            | inr c ↦ inr (Contains-append_right g (joined gs) i c)
          ];
        }

  -- ---- what is asked for

  inserted : (held : List Lock) (ls : List Lock) (ms : List Pointer) →
      asked ranks held (map some ls ++ ms) ≡ insert_all ranks held ls (asked ranks held ms)
  inserted held [] ms = refl
  inserted held (l ∷ ls) ms = ap (insert_one ranks held (Some l)) (inserted held ls ms)

  pub wanted_is_asked : (held : List Lock) (list : List ℕ) → wanted held list ≡ to_ask program section ranks held locals list
  wanted_is_asked held [] = refl
  wanted_is_asked held (i ∷ is) =
      inserted held (locks i) (its is) ∙ ap (insert_all ranks held (locks i)) (wanted_is_asked held is)
