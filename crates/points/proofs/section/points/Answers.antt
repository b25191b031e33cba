use Rattle.std.proofs.Common.{◌≡◌, ◌≤◌, ◌<◌, ◌∙◌, ℕ, List, length, map, get_or, Some, refl, sym, ap, subst, arith}
use Rattle.std.specs.Prelude.{slice_get}
use Rattle.std.proofs.lemmas.List.{length-map}
use Rattle.std.proofs.lemmas.Option.{same_Some, slice_get_read}
use Rattle.core_lang.specs.declared.tree.Section.{Section}
use Rattle.core_lang.specs.declared.typed.Typed.{Typed}
use Rattle.flow.specs.Skeletons.{count, skeleton}
use Rattle.flow.specs.Points.{points, scopes}
use Rattle.flow.specs.Working.Parts.{skeleton_of}
use Rattle.locks.specs.declared.path_set.PathSet.{PathSet}
use Rattle.flow.specs.Working.PointList.{point_at}
use Rattle.locks.specs.declared.path.LockPath as written
use Rattle.locks.specs.LockPaths.{LockPath, Uses, IsInScope, BindsRoot, lock_path_of, lock_paths}
use Rattle.locks.specs.Sets.{AreSets}
use Rattle.points.specs.Working.Dataflow.{column}
use Rattle.points.specs.Working.Scoping.{binds, in_scope}
use Rattle.flow.specs.declared.points.PointRef.{PointRef}
use Rattle.lockpaths.specs.declared.table.Paths.{Paths}
use Rattle.lockpaths.specs.declared.table.SectionPaths.{SectionPaths}
use Rattle.lockpaths.specs.Paths.{AreSectionPaths, ArePaths}
use Rattle.flow.specs.Working.Laws.{PointsAreCounted, ScopesAreCounted}
use Rattle.points.proofs.Exact.{before_sets, later_sets, bound_sets, scope_sets, classes_are, points_of_same}
use Rattle.points.proofs.section.points.Goals as goal

-- what is known of the section's lock paths
known : (program : Typed) (paths : Paths) (k : ℕ) (section : Section) (found : SectionPaths) → ArePaths program paths →
    slice_get program.sections.items k ≡ Some section → k < length program.sections.items → found ≡ get_or paths.sections.items k found → AreSectionPaths program section found
known program paths k section found are at lt is =
    are.each k section found at (slice_get_read paths.sections.items (length paths.sections.items) k found refl (omega (arith, lt, are.sections)) is)

-- there is a set for each point
used_length : (program : Typed) (section : Section) (found : SectionPaths) (counted : PointsAreCounted) →
    AreSectionPaths program section found →
    (used : _) → used ≡ found.used.items → (parts ps : _) → skeleton_of parts ≡ skeleton section → ps ≡ parts → length used ≡ count (skeleton_of ps)
used_length program section found counted are used same parts ps is e =
    ap length same ∙ are.used.0 ∙ sym (counted section) ∙ ap count (sym is ∙ ap skeleton_of (sym e))

pub forward_may-requires : goal.forward_may-requires
forward_may-requires c =
    let sections = c.args.program.now.sections.items in
    let declared = c.index-declared.result.now in
    let there : slice_get sections c.args.section ≡ Some declared = slice_get_read sections (length sections) c.args.section declared refl c.requires.section c.index-declared.ensures in
    let are = known c.args.program.now c.args.paths.now c.args.section declared c.index-found.result.now c.requires.paths there c.requires.section c.index-found.ensures in
    used_length c.args.program.now declared c.index-found.result.now c.points_are_counted.ensures.points are _ c.deref-4.ensures.value _ _ c.in_ok-parts.ensures c.deref-3.ensures.value

pub backward_may-requires : goal.backward_may-requires
backward_may-requires c =
    let sections = c.args.program.now.sections.items in
    let declared = c.index-declared.result.now in
    let there : slice_get sections c.args.section ≡ Some declared = slice_get_read sections (length sections) c.args.section declared refl c.requires.section c.index-declared.ensures in
    let are = known c.args.program.now c.args.paths.now c.args.section declared c.index-found.result.now c.requires.paths there c.requires.section c.index-found.ensures in
    used_length c.args.program.now declared c.index-found.result.now c.points_are_counted.ensures.points are _ c.deref-6.ensures.value _ _ c.in_ok-parts.ensures c.deref-5.ensures.value

pub invariant_of-roots : goal.invariant_of-roots
invariant_of-roots c =
    let sections = c.args.program.now.sections.items in
    let declared = c.index-declared.result.now in
    let there : slice_get sections c.args.section ≡ Some declared = slice_get_read sections (length sections) c.args.section declared refl c.requires.section c.index-declared.ensures in
    let are = known c.args.program.now c.args.paths.now c.args.section declared c.index-found.result.now c.requires.paths there c.requires.section c.index-found.ensures in
    let limit : length c.index-found.result.now.paths.items ≤ 64 = are.limit in
    record { few = omega (arith, ap length c.deref.ensures.value, limit) }

-- of the roots, at each point
module _ (program : Typed) (section : Section) (found : SectionPaths) (counted : PointsAreCounted) (are : AreSectionPaths program section found)
    (paths : List written.LockPath) (same : paths ≡ found.paths.items) where
  bound_are : (sets : List PathSet) (ps qs : List PointRef) → ps ≡ qs → map point_at qs ≡ points section →
      ((i : ℕ) → column i sets ≡ map (binds paths i) (map point_at ps)) →
      AreSets program section (BindsRoot section) sets
  bound_are sets ps qs e listed columns =
      bound_sets program section counted paths (ap (map lock_path_of) same ∙ are.paths) sets (map point_at ps) (ap (map point_at) e ∙ listed) columns

  scope_are : (sets : List PathSet) → ScopesAreCounted →
      ((i : ℕ) → column i sets ≡ map (in_scope paths i) (scopes section)) →
      AreSets program section (IsInScope section) sets
  scope_are sets each columns = scope_sets program section counted paths (ap (map lock_path_of) same ∙ are.paths) sets each columns

  classes_of : (ws : List written.LockPath) (classes : List ℕ) → ws ≡ found.paths.items →
      classes ≡ map (λ (w : written.LockPath). w.class) ws →
      classes ≡ map (λ (path : LockPath). path.class) (lock_paths program section)
  classes_of ws classes e is =
      is ∙ ap (map (λ (w : written.LockPath). w.class)) e ∙ classes_are found.paths.items ∙ ap (map (λ (path : LockPath). path.class)) are.paths

pub invariant_of-result : goal.invariant_of-result
invariant_of-result c =
    let sections = c.args.program.now.sections.items in
    let program = c.args.program.now in
    let section = c.index-declared.result.now in
    let found = c.index-found.result.now in
    let counted = c.points_are_counted.ensures.points in
    let there : slice_get sections c.args.section ≡ Some section = slice_get_read sections (length sections) c.args.section section refl c.requires.section c.index-declared.ensures in
    let are = known program c.args.paths.now c.args.section section found c.requires.paths there c.requires.section c.index-found.ensures in
    let bound = bound_are program section found counted are c.deref.result.now c.deref.ensures.value c.in_ok-bound.bound.items _ _ c.deref-2.ensures.value c.in_ok-points_of.ensures c.in_ok-bound.ensures in
    let scope = scope_are program section found counted are c.deref.result.now c.deref.ensures.value c.in_ok-in_scope.in_scope.items c.points_are_counted.ensures.scopes c.in_ok-in_scope.ensures in
    let all : length (points section) ≡ count (skeleton_of c.in_ok-parts.parts.items) = sym (counted section) ∙ ap count (sym c.in_ok-parts.ensures) in
    let limit : length found.paths.items ≤ 64 = are.limit in
    let classes : length c.in_ok-classes.classes.items ≡ length found.paths.items =
    ap length c.in_ok-classes.ensures ∙ length-map c.deref-7.result.now (λ (w : written.LockPath). w.class) ∙ ap length c.deref-7.ensures.value in
    record {
      few = omega (arith, c.in_ok-classes.classes.ok.0, classes, limit);
      of_bound = c.in_ok-bound.bound.ok.0 ∙ bound.0 ∙ all;
      of_used = c.in_ok-used.used.ok.0 ∙ ap length (c.in_ok-used.ensures.items ∙ c.deref-8.ensures.value) ∙ are.used.0 ∙ all;
      of_in_scope = c.in_ok-in_scope.in_scope.ok.0 ∙ scope.0 ∙ all;
      of_used_before = c.in_ok-used_before.ensures.len ∙ ap (λ ps. count (skeleton_of ps)) c.deref-3.ensures.value;
      of_used_later = c.in_ok-used_later.ensures.len ∙ ap (λ ps. count (skeleton_of ps)) c.deref-5.ensures.value;
    }

pub returns : goal.returns
returns c = λ s at.
    let sections = c.args.program.now.sections.items in
    let program = c.args.program.now in
    let section = c.index-declared.result.now in
    let found = c.index-found.result.now in
    let counted = c.points_are_counted.ensures.points in
    let there : slice_get sections c.args.section ≡ Some section = slice_get_read sections (length sections) c.args.section section refl c.requires.section c.index-declared.ensures in
    let are = known program c.args.paths.now c.args.section section found c.requires.paths there c.requires.section c.index-found.ensures in
    let same : section ≡ s = same_Some section s (sym there ∙ at) in
    let used = AreSets program section (Uses program section) in
    points_of_same program section s _ same (record {
      parts = c.in_ok-parts.ensures;
      classes = classes_of program section found counted are c.deref.result.now c.deref.ensures.value c.deref-7.result.now c.in_ok-classes.classes.items c.deref-7.ensures.value c.in_ok-classes.ensures;
      bound = bound_are program section found counted are c.deref.result.now c.deref.ensures.value c.in_ok-bound.bound.items _ _ c.deref-2.ensures.value c.in_ok-points_of.ensures c.in_ok-bound.ensures;
      used = subst used (sym (c.in_ok-used.ensures.items ∙ c.deref-8.ensures.value)) are.used;
      in_scope = scope_are program section found counted are c.deref.result.now c.deref.ensures.value c.in_ok-in_scope.in_scope.items c.points_are_counted.ensures.scopes c.in_ok-in_scope.ensures;
      used_before =
          before_sets program section counted c.deref-4.result.now (subst used (sym c.deref-4.ensures.value) are.used) (skeleton_of c.deref-3.result.now) c.in_ok-used_before.used_before.items
          (ap skeleton_of c.deref-3.ensures.value ∙ c.in_ok-parts.ensures) (sym c.in_ok-used_before.used_before.ok.0 ∙ c.in_ok-used_before.ensures.len) c.in_ok-used_before.ensures.sets;
      used_later =
          later_sets program section counted c.deref-6.result.now (subst used (sym c.deref-6.ensures.value) are.used) (skeleton_of c.deref-5.result.now) c.in_ok-used_later.used_later.items
          (ap skeleton_of c.deref-5.ensures.value ∙ c.in_ok-parts.ensures) (sym c.in_ok-used_later.used_later.ok.0 ∙ c.in_ok-used_later.ensures.len) c.in_ok-used_later.ensures.sets;
    })
