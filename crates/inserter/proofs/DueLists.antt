-- The lists by the sets of wanted and of surely held paths are those before the points.
use Rattle.std.proofs.Common.{◌≡◌, ◌<◌, ◌≤◌, ◌⊎◌, ◌++◌, ℕ, zero, suc, false, List, [], ◌∷◌, map, length, get_or, Some}
use Rattle.std.proofs.Common.{inl, inr, sym, ap, ◌∙◌, subst, arith, refl}
use Rattle.std.specs.Prelude.{slice_index, slice_get, not}
use Rattle.std.specs.List.{AllPairs, Contains}
use Rattle.std.specs.Bool.{Decides}
use Rattle.std.proofs.lemmas.Bool.{cases_Bool, cases_lt, both_ways, and_parts, and_from, not-true, not_from_false}
use Rattle.std.proofs.lemmas.List.{length-map}
use Rattle.std.proofs.lemmas.Option.{none-some, slice_get_within}
use Rattle.core_lang.specs.declared.tree.Section.{Section}
use Rattle.core_lang.specs.declared.typed.Typed.{Typed}
use Rattle.locks.specs.declared.path_set.PathSet.{PathSet}
use Rattle.locks.specs.LockPaths.{LockPath, lock_paths}
use Rattle.locks.specs.Sets.{has}
use Rattle.points.specs.declared.table.Points.{Points}
use Rattle.points.specs.Wanted.{rank_of, IsWanted, IsSurelyHeld, AreWanted, AreSurelyHeld}
use Rattle.inserter.specs.Placement.{IsPath, GoesBefore, IsListBefore}
use Rattle.inserter.specs.Working.Keys.{key_of, AreKeys, numbers_in, IsLeft, AreDue, AreListsOf}
use Rattle.inserter.proofs.KeyLists.{of_numbers, in_numbers, numbers_rise, own_key, number_of_key}
use Rattle.core_lang.specs.Theory.Items.{get_some}

-- the rank of a path is that at its number
rank_at : (ranks : List ℕ) (paths : List LockPath) (i : ℕ) (path : LockPath) → slice_get paths i ≡ Some path →
    slice_index (map (slice_index ranks) (map (λ (p : LockPath). p.class) paths)) i ≡ rank_of ranks path
rank_at ranks [] i path e = absurd (none-some path e)
rank_at ranks (p ∷ ps) zero path e = let same : p ≡ path = cc in ap (rank_of ranks) same
rank_at ranks (p ∷ ps) (suc i) path e = rank_at ranks ps i path e

-- one more item
pub more_at : {X Y : Type 0} (f : X → Y) (xs : List X) (x : X) (k : ℕ) (y : Y) →
    slice_get (map f (xs ++ x ∷ [])) k ≡ Some y →
    (slice_get (map f xs) k ≡ Some y) ⊎ ((k ≡ length xs) × (y ≡ f x))
more_at f [] x zero y e = inr (refl, cc)
more_at f [] x (suc k) y e = absurd (none-some y e)
more_at f (z ∷ xs) x zero y e = inl e
more_at f (z ∷ xs) x (suc k) y e = elim (more_at f xs x k y e) [ inl h ↦ inl h | inr h ↦ inr (ap suc h.0, h.1) ]

module _ (program : Typed) (section : Section) (ranks keys : List ℕ) (few : length (lock_paths program section) ≤ 64)
    (are : AreKeys (map (slice_index ranks) (map (λ (p : LockPath). p.class) (lock_paths program section))) keys) where
  abbrev paths : List LockPath
  paths = lock_paths program section

  abbrev by_path : List ℕ
  by_path = map (slice_index ranks) (map (λ (p : LockPath). p.class) (lock_paths program section))

  long : length by_path ≡ length paths
  long = length-map (map (λ (p : LockPath). p.class) (lock_paths program section)) (slice_index ranks) ∙ length-map (lock_paths program section) (λ (p : LockPath). p.class)

  few_by : length by_path ≤ 64
  few_by = omega (arith, few, long)

  -- one list, by its two sets
  list_before : (p : ℕ) (w h : PathSet) (list : List ℕ) →
      ((i : ℕ) (path : LockPath) → IsPath program section i path →
      Decides (has w i) (IsWanted program section ranks p path)) →
      ((i : ℕ) (path : LockPath) → IsPath program section i path → Decides (has h i) (IsSurelyHeld program section ranks p path)) → IsLeft keys w h list →
      IsListBefore program section ranks p list
  list_before p w h list wanted held left = record {
    only = λ i c.
        let n = of_numbers left.0 keys i (subst (λ (l : List ℕ). Contains l i) left.2 c) in
        let own = own_key by_path keys few_by are n.0 n.1 in
        let path = get_some paths i (omega (arith, subst (λ x. x < length by_path) n.2 own.0, long)) in
        let parts = and_parts (has w i) (not (has h i)) (sym (left.1 i) ∙ n.3) in (
          path.0,
          path.1,
          record {
            wanted = (wanted i path.0 path.1).0 parts.0;
            missing = λ s. both_ways (has h i) (not-true (has h i) parts.1) ((held i path.0 path.1).1 s);
          },
        );
    all = λ i path is_path due.
        let below : i < length paths = slice_get_within paths i path is_path in
        let number = number_of_key by_path i (omega (arith, below, few)) in
        let there = are.all i (omega (arith, below, long)) in
        let out : has h i ≡ false = elim (cases_Bool (has h i)) [ inl t ↦ absurd (due.missing ((held i path is_path).0 t)) | inr f ↦ f ] in
        let in_set = left.1 i ∙ and_from (has w i) (not (has h i)) ((wanted i path is_path).1 due.wanted) (not_from_false (has h i) out) in
        subst (λ (l : List ℕ). Contains l i) (sym left.2)
        (subst (λ x. Contains (numbers_in left.0 keys) x) number (in_numbers left.0 keys (key_of by_path i) there (ap (has left.0) number ∙ in_set)));
    order = subst (λ (l : List ℕ). AllPairs (GoesBefore program section ranks) l) (sym left.2) (goes left.0);
  }
    where
      before : (i j : ℕ) → key_of by_path i < key_of by_path j → GoesBefore program section ranks i j
      before i j lt a b pa pb =
          let ra = rank_at ranks paths i a pa in
          let rb = rank_at ranks paths j b pb in
          let bi = slice_get_within paths i a pa in
          let bj = slice_get_within paths j b pb in
          elim (cases_lt (rank_of ranks a) (rank_of ranks b)) [
            | inl less ↦ inl less
            | inr ge ↦ inr (omega (arith, lt, ra, rb, bi, bj, few, ge), omega (arith, lt, ra, rb, bi, bj, few, ge))
          ]

      goes : (set : PathSet) → AllPairs (GoesBefore program section ranks) (numbers_in set keys)
      goes set i j d lt bound =
          before (get_or (numbers_in set keys) i d) (get_or (numbers_in set keys) j d)
          (numbers_rise by_path set keys are.rising (λ k c. (own_key by_path keys few_by are k c).1) i j d lt bound)

-- the lists of all points
pub are_lists : (x : Points) (ranks keys : List ℕ) (wanted held : List PathSet) (lists : List (List ℕ)) →
    length x.classes.items ≤ 64 →
    AreKeys (map (slice_index ranks) x.classes.items) keys → AreWanted x ranks wanted → AreSurelyHeld x ranks held → AreDue keys wanted held lists → AreListsOf x ranks lists
are_lists x ranks keys wanted held lists few are_keys are_wanted are_held due program section are =
    let w = are_wanted program section are in
    let h = are_held program section are in
    let few' : length (lock_paths program section) ≤ 64 = omega (arith, few, ap length are.classes, length-map (lock_paths program section) (λ (p : LockPath). p.class)) in
    let keys' = subst (λ (l : List ℕ). AreKeys (map (slice_index ranks) l) keys) are.classes are_keys in
    let same = due.long (w.0 ∙ sym h.0) in
    record {
      long = same ∙ w.0;
      each = λ p list e.
          let within = slice_get_within lists p list e in
          let ws = get_some wanted p (omega (arith, within, same)) in
          let hs = get_some held p (omega (arith, within, same, w.0, h.0)) in
          list_before program section ranks keys few' keys' p ws.0 hs.0 list (λ i path q. w.1 p i ws.0 path ws.1 q) (λ i path q. h.1 p i hs.0 path hs.1 q)
          (due.each p ws.0 hs.0 list ws.1 hs.1 e);
    }
