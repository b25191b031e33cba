-- An acquire of a compiled plan takes the requested locks.
use Rattle.std.proofs.Common.{◌≡◌, ◌<◌, ℕ, suc, List, [], ◌∷◌, map, length, Option, Some, None}
use Rattle.std.proofs.Common.{slice_get, refl, sym, ap, ◌∙◌, subst, inl, inr}
use Rattle.std.specs.Prelude.{slice_index, unwrap_or}
use Rattle.std.specs.List.{Contains}
use Rattle.std.specs.Option.{option_map_or}
use Rattle.std.proofs.lemmas.Option.{none-some, same_Some, slice_get_within, get_or_from_slice_get}
use Rattle.core_lang.specs.declared.value.Value.{Value}
use Rattle.core_lang.specs.declared.tree.Section.{Section}
use Rattle.core_lang.specs.declared.typed.Typed.{Typed}
use Rattle.core_lang.specs.Typing.{lookup}
use Rattle.core_lang.specs.WellFormed.{IsWellFormed}
use Rattle.core_lang.specs.Theory.Items.{contains_at, at_contained, not_in_none}
use Rattle.locks.specs.declared.lock.Lock.{Lock}
use Rattle.locks.specs.LockPaths.{LockPath, lock_paths, locks_named}
use Rattle.locks.specs.Theory.Naming.{named_class}
use Rattle.locks.specs.Working.Laws.{PathsHaveClasses, UsedAreListed, EachPathOnce}
use Rattle.lockorder.specs.Edges.{AreRanksOf}
use Rattle.inserter.specs.Placement.{IsDue, IsListBefore}
use Rattle.code.specs.Lowering.{lists_at}
use Rattle.lowering.specs.Plans.{Plan, IsCompiled}
use Rattle.worlds.specs.Asking.{to_ask}
use Rattle.worlds.specs.Worlds.{section_at}
use Rattle.c_statements.specs.Acquires.{runs}
use Rattle.c_threads.specs.Locking.{Locking}
use Rattle.c_threads.specs.LockClaims.{listed_before, AcquiresTakeWhatIsAsked}
use Rattle.c_threads.proofs.LockRuns.{joined, HasClass, Sorted, sorted_from, AreKnown, list_runs, list_joined}
use Rattle.c_threads.proofs.LockGiving.{WellFormedRise}
use Rattle.c_threads.proofs.Acquires.{NamesHaveClasses, TellApart, WholeAlone, AreAddressed, IsGood, wanted, all_runs}
use Rattle.c_threads.proofs.Acquires.{wanted_is_asked}
use Rattle.c_threads.proofs.Addresses.{addressed}
use Rattle.c_threads.proofs.Alone.{whole_alone}

pub record TakingLaws : Type 0 where
  pub classes : PathsHaveClasses
  pub listed : UsedAreListed
  pub once : EachPathOnce
  pub rise : WellFormedRise

-- ---- ranks tell classes apart

-- a class of the program has a place in the list of ranks
rank_place : (program : Typed) (ranks : List ℕ) (ok : AreRanksOf program ranks) (class : ℕ) →
    class < length program.classes.items →
    (k : ℕ) × (slice_get ok.list k ≡ Some class) × (slice_index ranks class ≡ k)
rank_place program ranks ok class less =
    let at = at_contained ok.list class (ok.is_list.all class less) in
    (at.0, at.1, get_or_from_slice_get ranks class at.0 0 (ok.places at.0 class at.1))

same_rank : (program : Typed) (ranks : List ℕ) → AreRanksOf program ranks → (c d : ℕ) →
    c < length program.classes.items → d < length program.classes.items → slice_index ranks c ≡ slice_index ranks d → c ≡ d
same_rank program ranks ok c d lc ld e =
    let p = rank_place program ranks ok c lc in
    let q = rank_place program ranks ok d ld in
    let same : p.0 ≡ q.0 = sym p.2 ∙ (e ∙ q.2) in
    same_Some c d (sym p.1 ∙ (ap (slice_get ok.list) same ∙ q.1))

pub tell_apart : TakingLaws → (program : Typed) (section : Section) (locals : List Value) (ranks : List ℕ) →
    IsWellFormed program → AreRanksOf program ranks → TellApart program section locals ranks
tell_apart laws program section locals ranks well ok i k a b ha hb e =
    same_rank program ranks ok a.class b.class (known i a ha) (known k b hb) e
  where
    known : (i : ℕ) (path : LockPath) → slice_get (lock_paths program section) i ≡ Some path →
        path.class < length program.classes.items
    known i path e =
        let used = (laws.listed program section path).0 (contains_at (lock_paths program section) i path e) in
        let class = laws.classes program section used.0 path well used.1 in
        slice_get_within program.classes.items path.class class.0 class.1

-- ---- the class of a lock that a path names

pub names_have_classes : (program : Typed) (section : Section) (locals : List Value) (ranks : List ℕ) →
    NamesHaveClasses program section locals ranks
names_have_classes program section locals ranks k lock c = by (slice_get (lock_paths program section) k) refl c where
  by : (o : Option LockPath) → slice_get (lock_paths program section) k ≡ o →
      Contains (option_map_or (λ (path : LockPath). locks_named path program.shape locals) o []) lock →
      HasClass (lock_paths program section) k lock.class
  by None e c = absurd (not_in_none lock c)
  by (Some path) e c = record { path = path; here = e; is = sym (named_class path program.shape locals lock c) }

-- ---- the list before a point

module _ (plan : Plan) (ok : IsCompiled plan) (k point : ℕ) (section : Section) (is : section_at plan k ≡ Some section) where
  abbrev paths : List LockPath
  paths = lock_paths plan.program section

  -- the list of a placement, or an empty one
  list_at : (list : List ℕ) → slice_get (lists_at plan.lists k) point ≡ Some list →
      IsListBefore plan.program section plan.ranks point list
  list_at list e = by (slice_get plan.lists k) refl where
    by : (o : Option (List (List ℕ))) → slice_get plan.lists k ≡ o → IsListBefore plan.program section plan.ranks point list
    by None n = absurd (none-some list (sym (ap (λ o. slice_get (unwrap_or o []) point) n) ∙ e))
    by (Some ls) here =
        (ok.placed.each k section ls is here).each point list
        (sym (ap (λ o. slice_get (unwrap_or o []) point) here) ∙ e)

  list_by : (P : List ℕ → Type 0) → P [] → ((list : List ℕ) → IsListBefore plan.program section plan.ranks point list → P list) →
      P (listed_before plan k point)
  list_by P none some = by (slice_get (lists_at plan.lists k) point) refl where
    by : (o : Option (List ℕ)) → slice_get (lists_at plan.lists k) point ≡ o → P (unwrap_or o [])
    by None e = none
    by (Some list) e = some list (list_at list e)

  pub list_sorted : Sorted paths plan.ranks (listed_before plan k point)
  list_sorted = list_by (Sorted paths plan.ranks) tt (λ list before. sorted_from paths plan.ranks list before.order)

  -- each path of the list is due at the point
  pub list_due : (i : ℕ) → Contains (listed_before plan k point) i →
      (path : LockPath) × (slice_get paths i ≡ Some path) × IsDue plan.program section plan.ranks point path
  list_due =
      list_by (λ list. (i : ℕ) → Contains list i →
      (path : LockPath) × (slice_get paths i ≡ Some path) × IsDue plan.program section plan.ranks point path)
      (λ i c. absurd (not_in_none i c)) (λ list before. before.only)

  pub list_known : AreKnown paths plan.ranks (listed_before plan k point)
  list_known i c = (let due = list_due i c in (due.0, due.1))

-- ---- the acquire

pub acquires_take : TakingLaws → AcquiresTakeWhatIsAsked
acquires_take laws plan k point section locals held notes ok is have are fit =
    let program = plan.program in
    let paths = lock_paths program section in
    let list = listed_before plan k point in
    let gs = runs paths list in
    let classes = names_have_classes program section locals plan.ranks in
    let apart = tell_apart laws program section locals plan.ranks ok.well_formed ok.ranked in
    let alone : WholeAlone program section locals plan.ranks =
    whole_alone program section (record { classes = laws.classes; listed = laws.listed; once = laws.once }) ok.well_formed in
    let known = list_known plan ok k point section is in
    let each = list_runs paths plan.ranks apart list (list_sorted plan ok k point section is) known in
    let joins : joined gs ≡ list = list_joined paths plan.ranks apart list in
    let addresses : AreAddressed program section locals plan.ranks (joined gs) =
    λ i path c here not. addressed program section ok.well_formed locals have laws.listed (k, is) i path here not in
    let good : IsGood program section locals plan.ranks notes held =
    record { are = are; long = fit.long; fit = fit.named } in
    let all =
    all_runs program section locals plan.ranks classes apart alone (laws.rise program ok.well_formed) gs each addresses notes held good
    (map (λ (path : LockPath). None) paths) [] (unset paths) in
    let taken = wanted program section locals plan.ranks held (joined gs) in
    let asked : taken ≡ to_ask program section plan.ranks held locals list =
    wanted_is_asked program section locals plan.ranks held (joined gs)
    ∙ ap (to_ask program section plan.ranks held locals) joins in
    record {
      after = record { notes = all.noted_after; calls = taken };
      is = ap (λ o. lookup o (λ (x : Locking). Some (record { notes = x.notes; calls = x.calls }))) all.done;
      calls = asked ∙ sym (ap (λ o. option_map_or (λ (s : Section). to_ask program s plan.ranks held locals list) o []) is);
      noted = all.good.are;
      fit = record { long = all.good.long; named = all.good.fit };
      new = λ i lock e. elim (all.from i lock e) [
        | inl h ↦ inl h
        | inr c ↦ inr (subst (λ t. Contains t i) joins c)
      ];
    }
  where
    unset : (ps : List LockPath) → length (map {B = Option (Option Lock)} (λ (path : LockPath). None) ps) ≡ length ps
    unset [] = refl
    unset (p ∷ ps) = ap suc (unset ps)
