-- Facts about a program that do not depend on its threads hold with other threads.
use Rattle.std.proofs.Common.{◌≡◌, ◌≤◌, ℕ, ◌+◌, List, [], ◌∷◌, ◌++◌, length, slice_get, Some, refl, Vec, Global}
use Rattle.std.specs.List.{Contains}
use Rattle.core_lang.specs.declared.tree.Section.{Section}
use Rattle.core_lang.specs.declared.typed.Call.{Call}
use Rattle.core_lang.specs.declared.typed.CellOwner.{CellOwner}
use Rattle.core_lang.specs.declared.typed.CellOwner.TheVariants as owner
use Rattle.core_lang.specs.declared.typed.Thread.{Thread}
use Rattle.core_lang.specs.declared.typed.Typed.{Typed}
use Rattle.core_lang.specs.declared.value.Value.{Value}
use Rattle.core_lang.specs.declared.value.ValueType.{ValueType}
use Rattle.core_lang.specs.Typing.{IsWellTypedSection}
use Rattle.core_lang.specs.WellFormed.{IsCell, IsLaidOut, IsProtected, CanCall, calls_together, IsChecked}
use Rattle.core_lang_helpers.specs.Data.{IsExpanded}
use Rattle.source.specs.declared.fault.Code.{Code}
use Rattle.locks.specs.Faults.{IsUnstable, unstable, IsUnstableOwner, unstable_owner, IsOverLimit, one_too_many, IsFault}
use Rattle.locks.specs.Faults.{unstable_base, unstable_owner_base, over_limit, HasNoFault}
use Rattle.locks.specs.LockPaths.{LockPath}
use Rattle.points.specs.Wanted.{IsWanted, IsTaken, last, earlier}
use Rattle.lockorder.specs.Edges.{Edge, AreRanksOf, RiseIn}
use Rattle.lockorder.specs.Ranks.{IsReady, IsNext, EachIsNext, AreRanks}
use Rattle.inserter.specs.Placement.{IsDue, IsListBefore, IsPlacement}
use Rattle.layout.specs.Layouts.{LayoutOf, IsLayoutOf}
use Rattle.c_threads.specs.Outside.{with_threads}

-- ---- ranks, for edges that are the same

module _ (E F : ℕ → ℕ → Type 0) (back : (c d : ℕ) → F c d → E c d) (forth : (c d : ℕ) → E c d → F c d) (n : ℕ) where
  ready : (E F : ℕ → ℕ → Type 0) (listed : ℕ → Type 0) (c : ℕ) → ((b : ℕ) → F b c → E b c) → IsReady E n listed c →
      IsReady F n listed c
  ready E F listed c back h = record { class = h.class; new = h.new; listed_before = λ b e. h.listed_before b (back b e) }

  next : (listed : ℕ → Type 0) (c : ℕ) → IsNext E n listed c → IsNext F n listed c
  next listed c h = record {
    ready = ready E F listed c (λ b e. back b c e) h.ready;
    lowest = λ d r. h.lowest d (ready F E listed d (λ b e. forth b d e) r);
  }

  each_next : (before list : List ℕ) → EachIsNext E n before list → EachIsNext F n before list
  each_next before [] h = tt
  each_next before (c ∷ rest) h = (next (Contains before) c h.0, each_next (before ++ c ∷ []) rest h.1)

  pub same_ranks : (ranks : List ℕ) → AreRanks E n ranks → AreRanks F n ranks
  same_ranks ranks h = record {
    list = h.list;
    is_list = record { each = each_next [] h.list h.is_list.each; all = h.is_list.all };
    places = h.places;
    long = h.long;
  }

-- ---- a program, and the same with other threads

module _ (p : Typed) (t : Vec Thread Global) where
  abbrev q : Typed
  q = with_threads p t

  cell : (place : ℕ) (owner : CellOwner) (value_type : ValueType) → IsCell p place owner value_type → IsCell q place owner value_type
  cell place owner value_type h = record { cell = h.cell; here = h.here; owned = h.owned; typed = h.typed }

  laid_out : IsLaidOut p → IsLaidOut q
  laid_out h = record {
    global = λ g x e. (let r = h.global g x e in (r.0, cell x.cell (owner.Global g) r.0 r.1));
    array = λ a x e i less. cell (x.first + i) (owner.Element a i) x.element (h.array a x e i less);
    pool = h.pool;
    rise = h.rise;
    structure = h.structure;
    object = h.object;
    field = λ o x e s f value_type is has. cell (x.cells + f) (owner.Field o f) value_type (h.field o x e s f value_type is has);
    final = h.final;
    owner = h.owner;
  }

  protected : IsProtected p → IsProtected q
  protected h = record {
    global = h.global;
    array = h.array;
    field = h.field;
    lock_field = h.lock_field;
    class_field = h.class_field;
  }

  typed : (section : Section) → IsWellTypedSection p section → IsWellTypedSection q section
  typed section h = record { body = h.body; result = h.result }

  can_call : (number : ℕ) (arguments : List Value) → CanCall p number arguments → CanCall q number arguments
  unfolding CanCall
  can_call number arguments h = h

  pub checked : IsChecked p → length t.items ≤ 64 → calls_together t.items ≤ 100000 →
      ((i k : ℕ) (thread : Thread) (call : Call) → slice_get t.items i ≡ Some thread →
      slice_get thread.calls.items k ≡ Some call → CanCall p call.section call.arguments.items) → IsChecked q
  checked h few together fit = record {
    within = record {
      classes = h.within.classes;
      structs = h.within.structs;
      members = h.within.members;
      objects = h.within.objects;
      cells = h.within.cells;
      sections = h.within.sections;
      parameters = h.within.parameters;
      locals = h.within.locals;
      threads = few;
      calls = together;
    };
    laid_out = laid_out h.laid_out;
    protected = protected h.protected;
    opens = h.opens;
    sections = λ k section is. typed section (h.sections k section is);
    scopes = h.scopes;
    helpers = λ k helper is. typed helper (h.helpers k helper is);
    helper_scopes = h.helper_scopes;
    helper_depths = h.helper_depths;
    written_locals = h.written_locals;
    helper_points = h.helper_points;
    scripts = λ i k thread call is has. can_call call.section call.arguments.items (fit i k thread call is has);
  }

  -- ---- locks

  unstable_same : (start : ℕ) → IsUnstable q start → IsUnstable p start
  unstable_same _ (unstable {section} {a} has c e) = unstable {section = section} {a = a} has c e

  owner_same : (start : ℕ) → IsUnstableOwner q start → IsUnstableOwner p start
  owner_same _ (unstable_owner {section} {point} {owner} has c at e) =
      unstable_owner {section = section} {point = point} {owner = owner} has c at e

  over_same : (start : ℕ) → IsOverLimit q start → IsOverLimit p start
  over_same _ (one_too_many {section} before behind a {path} has e count is new) =
      one_too_many {section = section} before behind a {path = path} has e count is new

  fault_same : (code : Code) (start : ℕ) → IsFault q code start → IsFault p code start
  fault_same _ _ (unstable_base f) = unstable_base (unstable_same _ f)
  fault_same _ _ (unstable_owner_base f) = unstable_owner_base (owner_same _ f)
  fault_same _ _ (over_limit f) = over_limit (over_same _ f)

  pub no_fault : HasNoFault p → HasNoFault q
  no_fault none code start f = none code start (fault_same code start f)

  edge : (c d : ℕ) → Edge p c d → Edge q c d
  edge c d (number, used, bound, m) =
      (number, used, bound, record { section = m.section; here = m.here; uses = m.uses; binds = m.binds; order = m.order })

  module _ (section : Section) (ranks : List ℕ) where
    wanted : (k : ℕ) (path : LockPath) → IsWanted p section ranks k path → IsWanted q section ranks k path
    wanted k path h = record { in_scope = h.in_scope; ahead = h.ahead; below = h.below }

    taken : (path : LockPath) (ks : List ℕ) → IsTaken p section ranks path ks → IsTaken q section ranks path ks
    taken path _ (last w free) = last (wanted _ path w) free
    taken path _ (earlier h free) = earlier (taken path _ h) free

  pub laid : (layout : LayoutOf) → IsLayoutOf p layout → IsLayoutOf q layout
  laid layout h = record {
    opening = h.opening;
    cells = h.cells;
    cell_locks = h.cell_locks;
    cells_listed = h.cells_listed;
    listed = h.listed;
    distinct = h.distinct;
    order = h.order;
  }

-- ---- both ways

module _ (p : Typed) (t : Vec Thread Global) where
  abbrev r : Typed
  r = with_threads p t

  edge_back : (c d : ℕ) → Edge r c d → Edge p c d
  edge_back c d e = edge r p.threads c d e

  pub ranked : (ranks : List ℕ) → AreRanksOf p ranks → AreRanksOf r ranks
  ranked ranks h = same_ranks (Edge p) (Edge r) edge_back (edge p t) (length p.classes.items) ranks h

  pub rise : (ranks : List ℕ) → RiseIn p ranks → RiseIn r ranks
  rise ranks h c d x y e = h c d x y (edge_back c d e)

  due : (section : Section) (ranks : List ℕ) (k : ℕ) (path : LockPath) → IsDue p section ranks k path →
      IsDue r section ranks k path
  due section ranks k path h = record {
    wanted = wanted p t section ranks k path h.wanted;
    missing = λ sure. h.missing (λ ks w. taken r p.threads section ranks path ks (sure ks w));
  }

module _ (p : Typed) (t : Vec Thread Global) where
  abbrev s : Typed
  s = with_threads p t

  list_before : (section : Section) (ranks : List ℕ) (k : ℕ) (list : List ℕ) → IsListBefore p section ranks k list →
      IsListBefore s section ranks k list
  list_before section ranks k list h = record {
    only = λ i c. (let x = h.only i c in (x.0, x.1, due p t section ranks k x.0 x.2));
    all = λ i path is d. h.all i path is (due s p.threads section ranks k path d);
    order = h.order;
  }

  pub placed : (ranks : List ℕ) (lists : List (List (List ℕ))) → IsPlacement p ranks lists → IsPlacement s ranks lists
  placed ranks lists h = record {
    long = h.long;
    each = λ k section ls is here. (let x = h.each k section ls is here in
        record { long = x.long; each = λ i list at. list_before section ranks i list (x.each i list at) });
  }

-- ---- helpers written out

pub expanded : (p p' : Typed) (t : Vec Thread Global) → IsExpanded p p' → IsExpanded (with_threads p t) (with_threads p' t)
expanded p p' t h = record {
  expansion = record {
    places = h.expansion.places;
    helpers = h.expansion.helpers;
    cells = h.expansion.cells;
    there = h.expansion.there;
    back = h.expansion.back;
  };
  locals = h.locals;
  besides = record {
    classes = h.besides.classes;
    structs = h.besides.structs;
    globals = h.besides.globals;
    heads = h.besides.heads;
    threads = refl;
  };
}
