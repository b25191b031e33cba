-- The claims about compiled plans are not vacuous: the plan of the lost update is compiled, by the definitions of the
-- passes.
use Rattle.std.specs.Prelude.{◌≡◌, ◌≤◌, ℕ, zero, suc, List, [], ◌∷◌, ◌++◌, length, slice_get, Some, None, String}
use Rattle.std.proofs.Common.{refl, sym, ap, ◌∙◌, subst, inl, Global, arith}
use Rattle.std.specs.List.{Contains}
use Rattle.core_lang.specs.declared.tree.Section.{Section}
use Rattle.core_lang.specs.declared.typed.Call.{Call}
use Rattle.core_lang.specs.declared.typed.Cell.{Cell}
use Rattle.core_lang.specs.declared.typed.GlobalVariable.{GlobalVariable}
use Rattle.core_lang.specs.declared.typed.LockClass.{LockClass}
use Rattle.core_lang.specs.declared.typed.LockClass.TheVariants as class
use Rattle.core_lang.specs.declared.typed.CellOwner.TheVariants as owner
use Rattle.core_lang.specs.declared.typed.Thread.{Thread}
use Rattle.core_lang.specs.declared.value.ValueType.TheVariants.{Integer}
use Rattle.core_lang.specs.Typing.{IsWellTypedSection}
use Rattle.core_lang.specs.Scopes.{IsWellScoped}
use Rattle.core_lang.specs.Theory.Checked.{checked}
use Rattle.core_lang.specs.Expansion.{entered, IsWrittenOut}
use Rattle.core_lang_helpers.specs.Data.{IsExpanded}
use Rattle.core_lang.specs.WellFormed.{IsWithinLimits, IsLaidOut, IsProtected, IsGlobalClass, IsCell, IsCellOf}
use Rattle.core_lang.specs.WellFormed.{IsClassOf, CanCall, IsWellFormed}
use Rattle.locks.specs.LockPaths.{LockPath, global_path, lock_path, paths_of, each_once, Uses}
use Rattle.locks.specs.Accesses.{Access, access, global, accesses}
use Rattle.locks.specs.Faults.{HasNoFault, Named, where_at, unstable, unstable_owner, one_too_many, unstable_base}
use Rattle.locks.specs.Faults.{unstable_owner_base, over_limit, HasSection}
use Rattle.lockorder.specs.Edges.{Edge, AreRanksOf, RiseIn}
use Rattle.flow.specs.Points.{Point, points, Binds, bound_at}
use Rattle.flow.specs.Walks.{begin}
use Rattle.points.specs.Wanted.{IsTaken}
use Rattle.locks.specs.Locks.{IsLock, lock_of_cell}
use Rattle.inserter.specs.Placement.{IsPath, IsPlacement, AreLists, IsListBefore, IsDue}
use Rattle.layout.specs.Layouts.{IsLayoutOf}
use Rattle.lowering.specs.Plans.{IsCompiled}
use Rattle.worlds.proofs.Examples.{inc, inc_program, int_global, int_cell, calling, a_call, the_lock, lost_update}

none_is_some : {P : Type 0} {A : Type 0} (a : A) → None ≡ Some a → P
none_is_some a e = absurd (let f : ⊥ = cc in f)

-- the one item of a list
the_one : {A : Type 0} (x y : A) (k : ℕ) → slice_get (x ∷ []) k ≡ Some y → (x ≡ y) × (k ≡ 0)
the_one x y zero e = (cc, refl)
the_one x y (suc k) e = none_is_some y e

module _ (alloc : Global) (name : String Global) where
  within : IsWithinLimits (inc_program alloc name)
  within = record {
    classes = omega arith;
    structs = omega arith;
    members = λ s x e. none_is_some x e;
    objects = omega arith;
    cells = omega arith;
    sections = omega arith;
    parameters = λ k x e. subst (λ (y : Section). y.parameters ≤ 8) (the_one (inc alloc name) x k e).0 (omega arith);
    locals = λ k x e. subst (λ (y : Section). length y.locals.items ≤ 64) (the_one (inc alloc name) x k e).0 (omega arith);
    threads = omega arith;
    calls = omega arith;
  }

  laid_out : IsLaidOut (inc_program alloc name)
  laid_out = record {
    global = λ g x e. (
      Integer,
      subst (λ (k : ℕ). IsCell (inc_program alloc name) x.cell (owner.Global k) Integer) (sym (the_one (int_global alloc name 0) x g e).1)
          (subst (λ (y : GlobalVariable). IsCell (inc_program alloc name) y.cell (owner.Global 0) Integer) (the_one (int_global alloc name 0) x g e).0
          (record { cell = int_cell alloc name (owner.Global 0) 0; here = refl; owned = refl; typed = refl })),
    );
    array = λ a x e i lt. none_is_some x e;
    pool = λ p x e i lt. none_is_some x e;
    rise = λ p q x y less ex ey. none_is_some x ex;
    structure = λ p x e. none_is_some x e;
    object = λ o x e. none_is_some x e;
    field = λ o x e s f t is of. none_is_some x e;
    final = λ o x e s f target is of. none_is_some x e;
    owner = λ place cell e. subst (λ (k : ℕ). IsCellOf (inc_program alloc name) k cell.owner) (sym (the_one (int_cell alloc name (owner.Global 0) 0) cell place e).1)
        (subst (λ (y : Cell). IsCellOf (inc_program alloc name) 0 y.owner) (the_one (int_cell alloc name (owner.Global 0) 0) cell place e).0
        (int_global alloc name 0, refl, refl));
  }

  protected : IsProtected (inc_program alloc name)
  protected = record {
    global = λ g x e. subst (λ (y : GlobalVariable). IsGlobalClass (inc_program alloc name) y.class) (the_one (int_global alloc name 0) x g e).0
        (class.Global name, refl, tt);
    array = λ a x e. none_is_some x e;
    field = λ s f x field e is. none_is_some x e;
    lock_field = λ s l x lock e is. none_is_some x e;
    class_field = λ number c e. subst (λ (d : LockClass). IsClassOf (inc_program alloc name) number d) (the_one (class.Global name) c number e).0 tt;
  }

  typed : IsWellTypedSection (inc_program alloc name) (inc alloc name)
  typed = record { body = ((Integer, refl, (refl, (tt, tt))), tt); result = tt }

  scoped : IsWellScoped (inc alloc name)
  scoped = record {
    bound = refl;
    kinds = λ k local e. none_is_some local e;
    assigned = λ k local c e. none_is_some local e;
    body = ((tt, (tt, tt)), tt);
    result = tt;
  }

  can_call : CanCall (inc_program alloc name) 0 []
  unfolding CanCall
  can_call = (inc alloc name, refl, tt)

  abbrev the_call : Call
  the_call = a_call alloc name 0 [] (omega arith)

  abbrev the_thread : Thread
  the_thread = calling alloc name the_call

  in_thread : (thread : Thread) (call : Call) (k : ℕ) → the_thread ≡ thread →
      slice_get thread.calls.items k ≡ Some call → CanCall (inc_program alloc name) call.section call.arguments.items
  in_thread thread call k same is =
      let at_k = subst (λ (x : Thread). slice_get x.calls.items k ≡ Some call) (sym same) is in
      let one = the_one the_call call k at_k in
      subst (λ (x : Call). CanCall (inc_program alloc name) x.section x.arguments.items) one.0 can_call

  first_of : {A : Type 0} (x y : A) → Some x ≡ Some y → x ≡ y
  first_of x y e = cc

  scripts : (t k : ℕ) (thread : Thread) (call : Call) →
      slice_get (inc_program alloc name).threads.items t ≡ Some thread →
      slice_get thread.calls.items k ≡ Some call → CanCall (inc_program alloc name) call.section call.arguments.items
  scripts zero k thread call e is = in_thread thread call k (first_of the_thread thread e) is
  scripts (suc zero) k thread call e is = in_thread thread call k (first_of the_thread thread e) is
  scripts (suc (suc t)) k thread call e is = none_is_some thread e

  well_formed : IsWellFormed (inc_program alloc name)
  well_formed = record {
    within = within;
    laid_out = laid_out;
    protected = protected;
    opens = (tt, tt);
    sections = λ k x e. subst (λ (y : Section). IsWellTypedSection (inc_program alloc name) y) (the_one (inc alloc name) x k e).0 typed;
    scopes = λ k x e. subst (λ (y : Section). IsWellScoped y) (the_one (inc alloc name) x k e).0 scoped;
    helpers = refl;
    scripts = scripts;
  }

  -- ---- lock paths and ranks

  the_section : (x : Section) → HasSection (inc_program alloc name) x → inc alloc name ≡ x
  the_section x here = (the_one (inc alloc name) x here.0 here.1).0

  -- both of its accesses are of the global
  each_has_one : (a : Access) → Contains (accesses (inc alloc name)) a →
      lock_path (inc_program alloc name) (inc alloc name) a ≡ None → ⊥
  each_has_one a (zero, lt, e) none =
      none_is_some (global_path 0) (sym none ∙ ap (lock_path (inc_program alloc name) (inc alloc name)) (sym e))
  each_has_one a (suc zero, lt, e) none =
      none_is_some (global_path 0) (sym none ∙ ap (lock_path (inc_program alloc name) (inc alloc name)) (sym e))
  each_has_one a (suc (suc i), lt, e) none = absurd (omega (arith, lt))

  too_few : (before behind : List Access) (a : Access) → accesses (inc alloc name) ≡ before ++ a ∷ behind →
      length (each_once (paths_of (inc_program alloc name) (inc alloc name) before)) ≡ 64 → ⊥
  too_few [] behind a split full = omega (arith, full)
  too_few (x ∷ []) behind a split full =
      let first : access 0 (global 0) ≡ x = cc in
      omega (arith, subst (λ (y : Access). length (each_once (paths_of (inc_program alloc name) (inc alloc name) (y ∷ []))) ≡ 64) (sym first) full)
  too_few (x ∷ y ∷ []) behind a split full = cc
  too_few (x ∷ y ∷ z ∷ before) behind a split full = cc

  no_where : (p : Point) (owner : Named) → Contains (points (inc alloc name)) p → where_at p ≡ Some owner → ⊥
  no_where p owner (zero, lt, e) at = none_is_some owner (subst (λ (q : Point). where_at q ≡ Some owner) (sym e) at)
  no_where p owner (suc i, lt, e) at = absurd (omega (arith, lt))

  -- no access is without a lock path, no `where` names a `var`, and there are too few accesses for a limit
  faultless : HasNoFault (inc_program alloc name)
  faultless code start (unstable_base (unstable {section} here c e)) =
      let no = subst (λ (x : Section). (a : Access) → Contains (accesses x) a → lock_path (inc_program alloc name) x a ≡ None → ⊥)
      (the_section section here) each_has_one in
      no _ c e
  faultless code start (unstable_owner_base (unstable_owner {section} {point} {owner} here c at is)) =
      let no = subst (λ (x : Section). (p : Point) (o : Named) → Contains (points x) p → where_at p ≡ Some o → ⊥) (the_section section here) no_where in
      no point owner c at
  faultless code start (over_limit (one_too_many {section} before behind a here split full path new)) =
      let no = subst (λ (x : Section). (before behind : List Access) (a : Access) → accesses x ≡ before ++ a ∷ behind →
      length (each_once (paths_of (inc_program alloc name) x before)) ≡ 64 → ⊥) (the_section section here) too_few in
      no before behind _ split full

  binds_nothing : (p k : ℕ) → Binds (inc alloc name) p k → ⊥
  binds_nothing zero k (point, here, bound) =
      none_is_some k (subst (λ x. bound_at x ≡ Some k) (sym (first_of _ point here)) bound)
  binds_nothing (suc p) k (point, here, bound) = none_is_some point here

  -- no point binds a root
  no_edge : (c d : ℕ) → Edge (inc_program alloc name) c d → ⊥
  no_edge c d (number, used, bound, makes) =
      let binds = makes.binds in
      let same = (the_one (inc alloc name) makes.section number makes.here).0 in
      let no = subst (λ (x : Section). (p k : ℕ) → Binds x p k → ⊥) same binds_nothing in
      no bound binds.3.0 binds.3.2

  ranked : AreRanksOf (inc_program alloc name) (0 ∷ [])
  ranked = record {
    list = 0 ∷ [];
    is_list = record {
      each = (
        record {
          ready = record { class = omega arith; new = λ x. omega (arith, x.1); listed_before = λ b edge. absurd (no_edge b 0 edge) };
          lowest = λ d r. omega arith;
        },
        tt,
      );
      all = λ c lt. (0, omega arith, omega (arith, lt));
    };
    places = λ k c e.
        let one = the_one 0 c k e in
        subst (λ n. slice_get {X = ℕ} (0 ∷ []) c ≡ Some n) (sym one.1) (subst (λ n. slice_get {X = ℕ} (0 ∷ []) n ≡ Some 0) one.0 refl);
    long = refl;
  }

  rise : RiseIn (inc_program alloc name) (0 ∷ [])
  rise c d r s edge = absurd (no_edge c d edge)

  -- ---- the list before the one point

  uses_it : Uses (inc_program alloc name) (inc alloc name) 0 (global_path 0)
  uses_it = (_, refl, (0, omega arith, refl))

  not_taken : (path : LockPath) → IsTaken (inc_program alloc name) (inc alloc name) (0 ∷ []) path [] → ⊥
  not_taken path taken = elim taken [ ]

  is_due : IsDue (inc_program alloc name) (inc alloc name) (0 ∷ []) 0 (global_path 0)
  is_due = record {
    wanted = record { in_scope = tt; ahead = inl uses_it; below = (global_path 0, uses_it, omega arith) };
    missing = λ surely. not_taken (global_path 0) (surely [] begin);
  }

  in_one : {A : Type 0} (x y : A) → Contains (x ∷ []) y → x ≡ y
  in_one x y (zero, lt, e) = e
  in_one x y (suc i, lt, e) = absurd (omega (arith, lt))

  list_of_it : IsListBefore (inc_program alloc name) (inc alloc name) (0 ∷ []) 0 (0 ∷ [])
  list_of_it = record {
    only = λ i c. subst (λ n. (path : LockPath) × IsPath (inc_program alloc name) (inc alloc name) n path
        × IsDue (inc_program alloc name) (inc alloc name) (0 ∷ []) 0 path) (in_one 0 i c) (global_path 0, refl, is_due);
    all = λ i path is due. (0, omega arith, sym (the_one (global_path 0) path i is).1);
    order = λ i j d lt le. absurd (omega (arith, lt, le));
  }

  lists_of_it : AreLists (inc_program alloc name) (inc alloc name) (0 ∷ []) ((0 ∷ []) ∷ [])
  lists_of_it = record {
    long = refl;
    each = λ p list e.
        let one = the_one (0 ∷ []) list p e in
        subst (λ n. IsListBefore (inc_program alloc name) (inc alloc name) (0 ∷ []) n list) (sym one.1)
        (subst (IsListBefore (inc_program alloc name) (inc alloc name) (0 ∷ []) 0) one.0 list_of_it);
  }

  placed : IsPlacement (inc_program alloc name) (0 ∷ []) (lost_update alloc name).lists
  placed = record {
    long = refl;
    each = λ k x ls e is.
        subst (λ (y : Section). AreLists (inc_program alloc name) y (0 ∷ []) ls) (the_one (inc alloc name) x k e).0
        (subst (AreLists (inc_program alloc name) (inc alloc name) (0 ∷ [])) (the_one ((0 ∷ []) ∷ []) ls k is).0 lists_of_it);
  }

  -- ---- the layout

  cell_lock : (cell : ℕ) → slice_get (the_lock 0 0 ∷ []) cell ≡ lock_of_cell (inc_program alloc name) cell
  cell_lock zero = refl
  cell_lock (suc cell) = refl

  is_listed : (c o : ℕ) → IsLock (inc_program alloc name) (the_lock c o) → Contains (the_lock 0 0 ∷ []) (the_lock c o)
  is_listed zero o is = (0, omega arith, ap (the_lock 0) (sym is))
  is_listed (suc c) o is = absurd is

  at_home : IsLayoutOf (inc_program alloc name) (lost_update alloc name).layout
  at_home = record {
    opening = refl;
    cells = refl;
    cell_locks = cell_lock;
    cells_listed = λ cell lock e. subst (Contains (the_lock 0 0 ∷ [])) (the_one (the_lock 0 0) lock cell e).0 (0, omega arith, refl);
    listed = λ lock. (λ c. subst (IsLock (inc_program alloc name)) (in_one (the_lock 0 0) lock c) refl, is_listed lock.class lock.object);
    distinct = λ i j lock e is. (the_one (the_lock 0 0) lock i e).1 ∙ sym (the_one (the_lock 0 0) lock j is).1;
    order = refl;
  }

  -- ---- no helper is called

  written : IsWrittenOut (inc_program alloc name).shape (inc alloc name) (inc alloc name)
  written = record {
    parameters = refl;
    result_type = refl;
    body = (
      entered 0 0,
      ((inc alloc name).body.items, [], entered 0 0, (_, ((refl, refl), (refl, refl, tt)), refl, refl), (refl, refl), refl),
      tt,
      refl,
      refl,
    );
  }

  out_of : (k : ℕ) (x : Section) → slice_get (inc_program alloc name).sections.items k ≡ Some x →
      (y : Section) × (slice_get (inc_program alloc name).sections.items k ≡ Some y) × IsWrittenOut (inc_program alloc name).shape x y
  out_of k x e = (x, e, subst (λ (z : Section). IsWrittenOut (inc_program alloc name).shape z z) (the_one (inc alloc name) x k e).0 written)

  back_of : (k : ℕ) (y : Section) → slice_get (inc_program alloc name).sections.items k ≡ Some y →
      (x : Section) × (slice_get (inc_program alloc name).sections.items k ≡ Some x) × IsWrittenOut (inc_program alloc name).shape x y
  back_of k y e = (y, e, subst (λ (z : Section). IsWrittenOut (inc_program alloc name).shape z z) (the_one (inc alloc name) y k e).0 written)

  expanded : IsExpanded (inc_program alloc name) (inc_program alloc name)
  expanded = record {
    expansion = record {
      places = record { arrays = refl; pools = refl; objects = refl; finals = refl };
      helpers = refl;
      cells = refl;
      there = out_of;
      back = back_of;
    };
    locals = (refl, tt);
    besides = record { classes = refl; structs = refl; globals = refl; heads = refl; threads = refl };
  }

  -- this plan is a plan of a compiled program
  pub lost_update_is_compiled : IsCompiled (lost_update alloc name)
  lost_update_is_compiled = record {
    checked = checked (inc_program alloc name) well_formed;
    expanded = expanded;
    well_formed = well_formed;
    stable = faultless;
    ranked = ranked;
    rise = rise;
    placed = placed;
    laid_out = at_home;
  }
