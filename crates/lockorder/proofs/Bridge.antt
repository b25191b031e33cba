-- The edges that a section makes, from the sets of its points.
use Rattle.std.proofs.Common.{◌≡◌, ℕ, ◌<◌, List, length, get_or, Some, ◌⊎◌, inl, inr, refl, sym, ap, ◌∙◌, subst, arith}
use Rattle.std.specs.Prelude.{slice_get}
use Rattle.std.specs.Option.{option_map}
use Rattle.std.specs.List.{All, Contains}
use Rattle.std.proofs.lemmas.Option.{same_Some, slice_get_within, slice_get-map, slice_get-get_or, slice_get_read}
use Rattle.std.proofs.lemmas.List.Elements.{All-contains_itself, All-weaker}
use Rattle.core_lang.specs.declared.tree.Section.{Section}
use Rattle.core_lang.specs.declared.typed.Typed.{Typed}
use Rattle.core_lang.specs.Scopes.{IsWellScoped}
use Rattle.core_lang.specs.WellFormed.{IsWellFormed}
use Rattle.flow.specs.Skeletons.{Skeleton, skeleton}
use Rattle.flow.specs.Flow.{Before}
use Rattle.flow.specs.Points.{points, Binds}
use Rattle.locks.specs.declared.path.Root.TheVariants.{Local as AtLocal}
use Rattle.locks.specs.declared.path_set.PathSet.{PathSet}
use Rattle.locks.specs.LockPaths.{LockPath, Uses, BindsRoot, lock_paths}
use Rattle.locks.specs.Working.Laws.{UsedAreListed, PathsHaveClasses}
use Rattle.locks.specs.Sets.{AreSets}
use Rattle.points.specs.declared.table.Points.{Points}
use Rattle.points.specs.Working.Points.{ArePoints, AreAllPointsOf}
use Rattle.points.specs.Used.{IsUsedBefore}
use Rattle.lockorder.specs.Edges.{Makes, Edge}
use Rattle.lockorder.specs.Working.Sections.{set_at, no_paths, IsIn, IsOfClass, HasClass, BindsAt, UsesAt, MakesSomewhere}
use Rattle.lockorder.specs.Working.Sections.{MakesAt, AreBoundOnce}
use Rattle.lockorder.specs.Working.Tellings.{AreBetween, AreEdges}
use Rattle.lockorder.proofs.InSection.{set_within}
use Rattle.lockorder.proofs.Once.{bound_at_one}
use Rattle.core_lang.specs.Theory.Items.{contains_at, at_contained, map_some, get_some}

-- the section of this number makes the edge
abbrev pub MakesIn : Typed → ℕ → ℕ → ℕ → Type 0
MakesIn program k c d = (used bound : ℕ) × Makes program k used bound c d

-- the points at an index are those of the section of that number
pub section_at : (program : Typed) (all : List Points) → AreAllPointsOf program all → (k : ℕ) (x : Points) →
    k < length all → x ≡ get_or all k x →
    (section : Section) × (slice_get program.sections.items k ≡ Some section) × ArePoints program section x
section_at program all are k x lt is =
    let s = get_some program.sections.items k (omega (arith, lt, are.sections)) in
    (s.0, s.1, are.each k x (slice_get_read all (length all) k x refl lt is) s.0 s.1)

module _ (program : Typed) (well : IsWellFormed program) (listed : UsedAreListed) (classes : PathsHaveClasses)
    (k : ℕ) (section : Section) (here : slice_get program.sections.items k ≡ Some section) (x : Points) (are : ArePoints program section x) where
  abbrev paths : List LockPath
  paths = lock_paths program section

  path_of : (c i : ℕ) → IsOfClass x c i → (path : LockPath) × (slice_get paths i ≡ Some path) × (path.class ≡ c)
  path_of c i e =
      map_some (λ (p : LockPath). p.class) (slice_get paths i) c
      (sym (slice_get-map (λ (p : LockPath). p.class) paths i) ∙ ap (λ l. slice_get l i) (sym are.classes) ∙ e)

  class_of : (i : ℕ) (path : LockPath) → slice_get paths i ≡ Some path → IsOfClass x path.class i
  class_of i path e = ap (λ l. slice_get l i) are.classes ∙ slice_get-map (λ (p : LockPath). p.class) paths i ∙ ap (option_map (λ (p : LockPath). p.class)) e

  used_somewhere : (i : ℕ) (path : LockPath) → slice_get paths i ≡ Some path → (p : ℕ) × Uses program section p path
  used_somewhere i path e = (listed program section path).0 (contains_at paths i path e)

  number_of : (p : ℕ) (path : LockPath) → Uses program section p path → (i : ℕ) × (slice_get paths i ≡ Some path)
  number_of p path u = at_contained paths path ((listed program section path).1 (p, u))

  -- the sets of a relation, read by class
  module _ (R : ℕ → LockPath → Type 0) (sets : List PathSet) (a : AreSets program section R sets) where
    there : (p : ℕ) → p < length sets → slice_get sets p ≡ Some (set_at sets p)
    there p lt = slice_get-get_or sets p no_paths lt

    from_set : (p c : ℕ) → HasClass x (set_at sets p) c →
        (path : LockPath) × R p path × (path.class ≡ c) × ((u : ℕ) × Uses program section u path)
    from_set p c h =
        let path = path_of c h.0 h.2 in
        (path.0, (a.1 p h.0 (set_at sets p) path.0 (there p (set_within sets p h.0 h.1)) path.1).0 h.1, path.2, used_somewhere h.0 path.0 path.1)

    to_set : (p i : ℕ) (path : LockPath) → p < length (points section) → slice_get paths i ≡ Some path → R p path →
        HasClass x (set_at sets p) path.class
    to_set p i path lt e r = (i, (a.1 p i (set_at sets p) path (there p (omega (arith, lt, a.0))) e).1 r, class_of i path e)

  uses_point : (p : ℕ) (path : LockPath) → Uses program section p path → p < length (points section)
  uses_point p path u = slice_get_within (points section) p u.0 u.1

  binds_point : (p : ℕ) (path : LockPath) → BindsRoot section p path → p < length (points section)
  binds_point p path b = slice_get_within (points section) p b.2.0 b.2.1

  same_section : (s : Section) → slice_get program.sections.items k ≡ Some s → s ≡ section
  same_section s e = same_Some s section (sym e ∙ here)

  -- ---- the sets say what the section makes

  pub somewhere_makes : (c d : ℕ) → MakesSomewhere x c d → MakesIn program k c d
  somewhere_makes c d (p, uses, binds) =
      let b = from_set (BindsRoot section) x.bound.items are.bound p d binds in
      elim uses [
        | inl h ↦
            let u = from_set (Uses program section) x.used.items are.used p c h in
            (p, p, record { section = section; here = here; uses = (u.0, u.1, u.2); binds = (b.0, b.3.0, b.3.1, b.1, b.2); order = inl refl })
        | inr h ↦
            let u = from_set (IsUsedBefore program section) x.used_before.items are.used_before p c h in
            (u.1.0, p, record { section = section; here = here; uses = (u.0, u.1.2, u.2); binds = (b.0, b.3.0, b.3.1, b.1, b.2); order = inr u.1.1 })
      ]

  pub at_makes : (c d used bound : ℕ) → MakesAt x c d used bound → Makes program k used bound c d
  at_makes c d used bound m =
      let u = from_set (Uses program section) x.used.items are.used used c m.0.0 in
      let b = from_set (BindsRoot section) x.bound.items are.bound bound d m.1 in
      record {
        section = section;
        here = here;
        uses = (u.0, u.1, u.2);
        binds = (b.0, b.3.0, b.3.1, b.1, b.2);
        order = elim m.0.1 [
          | inl e ↦ inl e
          | inr p ↦ inr (subst (λ (s : Skeleton). Before s used bound) are.parts p)
        ];
      }

  uses_at : (used c : ℕ) (path : LockPath) → Uses program section used path → path.class ≡ c → UsesAt x used c
  uses_at used c path u e =
      let i = number_of used path u in
      subst (HasClass x (set_at x.used.items used)) e (to_set (Uses program section) x.used.items are.used used i.0 path (uses_point used path u) i.1 u)

  binds_at : (bound user d : ℕ) (path : LockPath) → Uses program section user path → BindsRoot section bound path →
      path.class ≡ d → BindsAt x bound d
  binds_at bound user d path u b e =
      let i = number_of user path u in
      subst (HasClass x (set_at x.bound.items bound)) e (to_set (BindsRoot section) x.bound.items are.bound bound i.0 path (binds_point bound path b) i.1 b)

  pub makes_at : (used bound c d : ℕ) (s : Section) (uses : LockPath) (binds : LockPath) (user : ℕ) →
      Uses program section used uses → uses.class ≡ c → Uses program section user binds →
      BindsRoot section bound binds → binds.class ≡ d → (used ≡ bound) ⊎ Before (skeleton section) used bound → MakesAt x c d used bound
  makes_at used bound c d s uses binds user u uc v b bd order = (
    (
      uses_at used c uses u uc,
      elim order [
        | inl e ↦ inl e
        | inr p ↦ inr (subst (λ (s : Skeleton). Before s used bound) (sym are.parts) p)
      ],
    ),
    binds_at bound user d binds v b bd,
  )

  pub makes_somewhere_by : (used bound c d : ℕ) (uses binds : LockPath) (user : ℕ) → Uses program section used uses →
      uses.class ≡ c → Uses program section user binds →
      BindsRoot section bound binds → binds.class ≡ d → (used ≡ bound) ⊎ Before (skeleton section) used bound → MakesSomewhere x c d
  makes_somewhere_by used bound c d uses binds user u uc v b bd order = (
    bound,
    elim order [
      | inl e ↦ inl (subst (λ p. UsesAt x p c) e (uses_at used c uses u uc))
      | inr p ↦ inr (
          let i = number_of used uses u in
          subst (HasClass x (set_at x.used_before.items bound)) uc
          (to_set (IsUsedBefore program section) x.used_before.items are.used_before bound i.0 uses (binds_point bound binds b) i.1 (used, p, u)))
    ],
    binds_at bound user d binds v b bd,
  )

  module _ (used bound c d : ℕ) (m : Makes program k used bound c d) where
    moved : (P : Section → Type 0) → P m.section → P section
    moved P h = subst P (same_section m.section m.here) h

    pub makes_at_points : MakesAt x c d used bound
    makes_at_points =
        makes_at used bound c d section m.uses.0 m.binds.0 m.binds.1 (moved (λ s. Uses program s used m.uses.0) m.uses.1) m.uses.2 (moved (λ s. Uses program s m.binds.1 m.binds.0) m.binds.2)
        (moved (λ s. BindsRoot s bound m.binds.0) m.binds.3) m.binds.4 (moved (λ s. (used ≡ bound) ⊎ Before (skeleton s) used bound) m.order)

    pub makes_somewhere : MakesSomewhere x c d
    makes_somewhere =
        makes_somewhere_by used bound c d m.uses.0 m.binds.0 m.binds.1 (moved (λ s. Uses program s used m.uses.0) m.uses.1) m.uses.2 (moved (λ s. Uses program s m.binds.1 m.binds.0) m.binds.2)
        (moved (λ s. BindsRoot s bound m.binds.0) m.binds.3) m.binds.4 (moved (λ s. (used ≡ bound) ⊎ Before (skeleton s) used bound) m.order)

  -- ---- the requirements of the passes

  path_at : (i : ℕ) → i < length x.classes.items → (path : LockPath) × (slice_get paths i ≡ Some path)
  path_at i lt = let c = get_some x.classes.items i lt in let path = path_of c.0 i c.1 in (path.0, path.1)

  root_bound : (p i : ℕ) (path : LockPath) → slice_get paths i ≡ Some path → IsIn (set_at x.bound.items p) i → BindsRoot section p path
  root_bound p i path e h =
      (are.bound.1 p i (set_at x.bound.items p) path (there (BindsRoot section) x.bound.items are.bound p (set_within x.bound.items p i h)) e).0 h

  pub bound_once : IsWellScoped section → AreBoundOnce x
  bound_once scoped i p q lt h g =
      let path = path_at i lt in
      let one = root_bound p i path.0 path.1 h in
      let other = root_bound q i path.0 path.1 g in
      let same : other.0 ≡ one.0 = let roots : AtLocal other.0 ≡ AtLocal one.0 = sym other.1 ∙ one.1 in cc in
      bound_at_one section scoped p q one.0 one.2 (subst (Binds section q) same other.2)

  pub classes_within : All (λ c. c < length program.classes.items) x.classes.items
  classes_within =
      All-weaker (Contains x.classes.items) (λ c. c < length program.classes.items) (λ c h.
      let i = at_contained x.classes.items c h in
      let path = path_of c i.0 i.1 in
      let u = used_somewhere i.0 path.0 path.1 in
      let has_number = classes program section u.0 path.0 well u.1 in
      subst (λ n. n < length program.classes.items) path.2 (slice_get_within program.classes.items path.0.class has_number.0 has_number.1)) x.classes.items (All-contains_itself x.classes.items)

-- the classes of an edge are the program's
pub edge_within : (program : Typed) → IsWellFormed program → PathsHaveClasses → (c d : ℕ) → Edge program c d →
    (c < length program.classes.items) × (d < length program.classes.items)
edge_within program well classes c d (k, used, bound, m) =
    let u = classes program m.section used m.uses.0 well m.uses.1 in
    let b = classes program m.section m.binds.1 m.binds.0 well m.binds.2 in (
      subst (λ n. n < length program.classes.items) m.uses.2 (slice_get_within program.classes.items m.uses.0.class u.0 u.1),
      subst (λ n. n < length program.classes.items) m.binds.4 (slice_get_within program.classes.items m.binds.0.class b.0 b.1),
    )

pub edges_between : (program : Typed) → IsWellFormed program → PathsHaveClasses → (pairs : List (ℕ × ℕ)) →
    AreEdges program pairs → AreBetween (length program.classes.items) pairs
edges_between program well classes pairs h k d lt = let pair = get_or pairs k d in edge_within program well classes pair.0 pair.1 (h k d lt)
