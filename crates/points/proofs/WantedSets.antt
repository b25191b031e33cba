-- From sets, path by path, to the wanted and the surely held paths.
use Rattle.std.specs.Prelude.{◌≡◌, ◌<◌, ◌≤◌, ℕ, Bool, List, [], ◌∷◌, ◌++◌, ◌+◌, map, length, slice_index, slice_get}
use Rattle.std.specs.Prelude.{Some}
use Rattle.std.specs.Bool.{Decides}
use Rattle.std.proofs.Common.{refl, sym, ap, ◌∙◌, subst, arith, inl, inr}
use Rattle.std.proofs.lemmas.List.{get_or-map, length-map, get_or_append_left, get_or_push}
use Rattle.std.proofs.lemmas.Bool.{cases_lt}
use Rattle.std.proofs.lemmas.Option.{slice_get_read, slice_get-get_or, slice_get_within, slice_get_cases}
use Rattle.std.proofs.lemmas.Option.{get_or_from_slice_get}
use Rattle.core_lang.specs.declared.tree.Section.{Section}
use Rattle.core_lang.specs.declared.typed.Typed.{Typed}
use Rattle.flow.specs.Skeletons.{Skeleton, skeleton, count}
use Rattle.flow.specs.Points.{points}
use Rattle.flow.specs.Working.Laws.{PointsAreCounted}
use Rattle.locks.specs.declared.path_set.PathSet.{PathSet}
use Rattle.locks.specs.LockPaths.{LockPath, Uses, BindsRoot, lock_paths}
use Rattle.locks.specs.Working.Laws.{UsedAreListed}
use Rattle.locks.specs.Sets.{has, AreSets}
use Rattle.points.specs.declared.table.Points.{Points}
use Rattle.points.specs.Working.Points.{ArePoints}
use Rattle.points.specs.Working.Ranks.{IsReached, IsWantedBy, AreWantedBy, set_at}
use Rattle.points.specs.Wanted.{rank_of, IsWanted, IsSurelyHeld}
use Rattle.points.specs.Working.Dataflow.{marks, AreForwardMust}
use Rattle.points.proofs.Exact.{sets_by, tell_all}
use Rattle.points.proofs.Taken.{held_decided}

-- the set of one point more
pub wanted_more : (x : Points) (ranks : List ℕ) (n : ℕ) (sets more : List PathSet) (set used later scope : PathSet) →
    length sets ≡ n → more ≡ sets ++ set ∷ [] →
    used ≡ set_at x.used.items n → later ≡ set_at x.used_later.items n → scope ≡ set_at x.in_scope.items n → AreWantedBy x ranks n sets →
    ((i : ℕ) → i < length ranks → Decides (has set i) (IsWantedBy ranks used later scope i)) → AreWantedBy x ranks (n + 1) more
wanted_more x ranks n sets more set used later scope len push eu el es was is p i lt li =
    let none : PathSet = record { bits = 0 } in
    let T : ℕ → PathSet → Type 0 = λ q s. Decides (has s i) (IsWantedBy ranks (set_at x.used.items q) (set_at x.used_later.items q) (set_at x.in_scope.items q) i) in
    elim (cases_lt p n) [
      | inl less ↦ subst (T p) (sym (ap (λ l. set_at l p) push ∙ get_or_append_left sets (set ∷ []) none p (omega (arith, len, less)))) (was p i less li)
      | inr ge ↦
          let same : n ≡ p = omega (arith, lt, ge) in
          let here : T n set =
          subst (λ s. Decides (has set i) (IsWantedBy ranks (set_at x.used.items n) (set_at x.used_later.items n) s i)) es
          (subst (λ s. Decides (has set i) (IsWantedBy ranks (set_at x.used.items n) s scope i)) el
          (subst (λ s. Decides (has set i) (IsWantedBy ranks s later scope i)) eu (is i li))) in
          subst (λ q. T q (set_at more q)) same (subst (T n) (sym (ap (λ l. set_at l n) push ∙ get_or_push sets set none n len)) here)
    ]

ranks_twice : (ranks : List ℕ) (paths : List LockPath) →
    map (slice_index ranks) (map (λ (path : LockPath). path.class) paths) ≡ map (rank_of ranks) paths
ranks_twice ranks [] = refl
ranks_twice ranks (p ∷ ps) = ap (λ l. slice_index ranks p.class ∷ l) (ranks_twice ranks ps)

module _ (program : Typed) (section : Section) (counted : PointsAreCounted) (listed : UsedAreListed) (x : Points) (ranks by_path : List ℕ)
    (are : ArePoints program section x) (is_by : by_path ≡ map (slice_index ranks) x.classes.items) where
  ranks_are : by_path ≡ map (rank_of ranks) (lock_paths program section)
  ranks_are = is_by ∙ ap (map (slice_index ranks)) are.classes ∙ ranks_twice ranks (lock_paths program section)

  rank_at : (i : ℕ) (path : LockPath) → slice_get (lock_paths program section) i ≡ Some path →
      slice_index by_path i ≡ rank_of ranks path
  rank_at i path is =
      ap (λ l. slice_index l i) ranks_are ∙ get_or-map (rank_of ranks) (lock_paths program section) i path 0 (slice_get_within (lock_paths program section) i path is)
      ∙ ap (rank_of ranks) (get_or_from_slice_get (lock_paths program section) i path path is)

  as_many : length by_path ≡ length (lock_paths program section)
  as_many = ap length ranks_are ∙ length-map (lock_paths program section) (rank_of ranks)

  there : (sets : List PathSet) (p : ℕ) → length sets ≡ length (points section) → p < length (points section) →
      slice_get sets p ≡ Some (set_at sets p)
  there sets p len lt = slice_get-get_or sets p (record { bits = 0 }) (omega (arith, len, lt))

  used_tell : (p i : ℕ) (path : LockPath) → p < length (points section) →
      slice_get (lock_paths program section) i ≡ Some path →
      Decides (has (set_at x.used.items p) i) (Uses program section p path)
  used_tell p i path lt is = are.used.1 p i (set_at x.used.items p) path (there x.used.items p are.used.0 lt) is

  reached_to : (p rank : ℕ) → p < length (points section) →
      IsReached by_path (set_at x.used.items p) (length by_path) rank →
      (other : LockPath) × Uses program section p other × (rank ≤ rank_of ranks other)
  reached_to p rank lt h =
      elim ((slice_get_cases (lock_paths program section) h.0).1) [
        | inl c ↦ (c.0, (used_tell p h.0 c.0 lt c.2).0 h.2, subst (λ r. rank ≤ r) (rank_at h.0 c.0 c.2) h.3)
        | inr c ↦ absurd (omega (arith, c.0, h.1, as_many))
      ]

  reached_from : (p rank : ℕ) → p < length (points section) → (other : LockPath) → Uses program section p other →
      rank ≤ rank_of ranks other →
      IsReached by_path (set_at x.used.items p) (length by_path) rank
  reached_from p rank lt other u le =
      let c = (listed program section other).1 (p, u) in
      let at : slice_get (lock_paths program section) c.0 ≡ Some other = slice_get_read (lock_paths program section) (length (lock_paths program section)) c.0 other refl c.1 (sym c.2) in
      (c.0, omega (arith, c.1, as_many), (used_tell p c.0 other lt at).1 u, subst (λ r. rank ≤ r) (sym (rank_at c.0 other at)) le)

  decided : (p i : ℕ) (path : LockPath) (set : Bool) → p < length (points section) →
      slice_get (lock_paths program section) i ≡ Some path →
      Decides set (IsWantedBy by_path (set_at x.used.items p) (set_at x.used_later.items p) (set_at x.in_scope.items p) i) → Decides set (IsWanted program section ranks p path)
  decided p i path set lt is d =
      let used = used_tell p i path lt is in
      let later = are.used_later.1 p i (set_at x.used_later.items p) path (there x.used_later.items p are.used_later.0 lt) is in
      let scope = are.in_scope.1 p i (set_at x.in_scope.items p) path (there x.in_scope.items p are.in_scope.0 lt) is in (
        (λ t.
            let w = d.0 t in
            let r = reached_to p (slice_index by_path i) lt w.2 in
            record {
              in_scope = scope.0 w.0;
              ahead = elim w.1 [ inl u ↦ inl (used.0 u) | inr l ↦ inr (later.0 l) ];
              below = (r.0, r.1, subst (λ n. n ≤ rank_of ranks r.0) (rank_at i path is) r.2);
            }),
        (λ (w : IsWanted program section ranks p path). d.1 (
          scope.1 w.in_scope,
          elim (w.ahead) [ inl u ↦ inl (used.1 u) | inr l ↦ inr (later.1 l) ],
          reached_from p (slice_index by_path i) lt w.below.0 w.below.1 (subst (λ n. n ≤ rank_of ranks w.below.0) (sym (rank_at i path is)) w.below.2),
        )),
      )

  pub wanted_sets : (n : ℕ) (sets : List PathSet) → n ≡ length (points section) → length sets ≡ n →
      AreWantedBy x by_path n sets →
      AreSets program section (IsWanted program section ranks) sets
  wanted_sets n sets count_is len exact = (
    len ∙ count_is,
    λ p i set path at is.
        let lt : p < length (points section) = omega (arith, slice_get_within sets p set at, len, count_is) in
        let same : set_at sets p ≡ set = get_or_from_slice_get sets p set (record { bits = 0 }) at in
        subst (λ (s : PathSet). Decides (has s i) (IsWanted program section ranks p path)) same
        (decided p i path (has (set_at sets p) i) lt is (exact p i (omega (arith, lt, count_is)) (omega (arith, as_many, slice_get_within (lock_paths program section) i path is)))),
  )

  pub held_sets : (gens kills : List PathSet) (c : Skeleton) (sets : List PathSet) →
      AreSets program section (IsWanted program section ranks) gens → kills ≡ x.bound.items →
      c ≡ skeleton section →
      length sets ≡ count c → AreForwardMust gens kills c sets → AreSets program section (IsSurelyHeld program section ranks) sets
  held_sets gens kills c sets wanted bound same len exact =
      let binds : AreSets program section (BindsRoot section) kills = subst (AreSets program section (BindsRoot section)) (sym bound) are.bound in
      sets_by program section counted (IsSurelyHeld program section ranks) sets (len ∙ ap count same ∙ counted section)
      (λ p i path lt is.
      held_decided program section ranks path (marks i gens) (marks i kills)
      (tell_all program section counted (IsWanted program section ranks) gens wanted i path is (λ q (w : IsWanted program section ranks q path). slice_get_within (points section) q w.below.1.0 w.below.1.1))
      (tell_all program section counted (BindsRoot section) kills binds i path is (λ q b. slice_get_within (points section) q b.2.0 b.2.1))
      p _ (subst (λ s. AreForwardMust gens kills s sets) same exact i p (omega (arith, lt, counted section))))
