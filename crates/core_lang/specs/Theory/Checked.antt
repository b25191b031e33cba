-- A program whose helpers are expanded is one that may be accepted, and calls nothing. Nobody has to believe this: it
-- is proved here, for proofs of the crates above.
use Rattle.std.specs.Prelude.{◌≡◌, ℕ, zero, suc, ◌≤◌, List, [], ◌∷◌, ◌++◌, length, map, take, slice_get, Option, Some}
use Rattle.std.specs.Prelude.{None}
use Rattle.std.proofs.Common.{sym, ap, ◌∙◌, refl, arith, length-append}
use Rattle.core_lang.specs.declared.tree.Local.{Local}
use Rattle.core_lang.specs.declared.tree.Stmt.{Stmt}
use Rattle.core_lang.specs.declared.tree.Action.{Action, Bind, SetLocal, SetGlobal, SetElement, SetField, Call, Print}
use Rattle.core_lang.specs.declared.tree.Action.{If', IfElse', While', Row_of-Stmt, end_of-Stmt, more_of-Stmt}
use Rattle.core_lang.specs.declared.tree.Section.{Section}
use Rattle.core_lang.specs.declared.value.ValueType.{ValueType}
use Rattle.core_lang.specs.declared.typed.Typed.{Typed}
use Rattle.core_lang.specs.Typing.{local_types, IsWellTyped, AreWellTyped, AllWellTyped}
use Rattle.core_lang.specs.Scopes.{bound_by, bound_in, bound_in_all, numbers_from, IsWellScoped}
use Rattle.core_lang.specs.Helpers.{CallsOnly, AllCallOnly, EachCallsOnly, NoHelper, CallsNothing}
use Rattle.core_lang.specs.Meaning.{deepest}
use Rattle.core_lang.specs.WrittenLocals.{LocalData, Brought, local_data, own_local, locals_by, locals_in}
use Rattle.core_lang.specs.WrittenLocals.{locals_in_all, brought}
use Rattle.core_lang.specs.WrittenPoints.{points_by, points_among, points_among_all, brought_points}
use Rattle.core_lang.specs.WellFormed.{IsChecked, IsWellFormed}
use Rattle.core_lang.specs.Theory.Items.{numbers_many}

no_helper : (program : Typed) (k : ℕ) (h : Section) → program.shape.helpers.items ≡ [] →
    slice_get program.shape.helpers.items k ≡ Some h → ⊥
no_helper program k h none is =
    let here : None ≡ Some h = ap (λ (l : List Section). slice_get l k) (sym none) ∙ is in cc

-- well-typed statements call only helpers that exist; without helpers they call nothing
module _ (program : Typed) (types : List ValueType) (none : program.shape.helpers.items ≡ []) where
  mutual
    calls : (x : Action) → IsWellTyped program types x → CallsOnly NoHelper x
    calls (Bind local e) is = tt
    calls (SetLocal local e) is = tt
    calls (SetGlobal cell e) is = tt
    calls (SetElement a i e) is = tt
    calls (SetField p k f e) is = tt
    calls (Call k es r) is = no_helper program k is.0 none is.1
    calls (Print e) is = tt
    calls (If' c m a) is = row_calls a is.1
    calls (IfElse' c m a k b) is = (row_calls a is.1, row_calls b is.2)
    calls (While' c m a) is = row_calls a is.1

    row_calls : {m : _} (row : Row_of-Stmt m) → AreWellTyped program types row → AllCallOnly NoHelper row
    row_calls end_of-Stmt is = tt
    row_calls (more_of-Stmt start x rest) is = (calls x is.0, row_calls rest is.1)

  each_calls : (xs : List Stmt) → AllWellTyped program types xs → EachCallsOnly NoHelper xs
  each_calls [] is = tt
  each_calls (x ∷ xs) is = (calls x.action is.0, each_calls xs is.1)

pub calls_nothing : (program : Typed) (k : ℕ) (section : Section) → IsWellFormed program →
    slice_get program.sections.items k ≡ Some section →
    CallsNothing section
calls_nothing program k section well is =
    let good = well.sections k section is in
    each_calls program (local_types section.locals.items) well.helpers section.body.items good.body

-- statements without calls bring no points
module _ (brings : ℕ → ℕ) where
  mutual
    points_none : (x : Action) → CallsOnly NoHelper x → points_by 0 brings x ≡ 0
    points_none (Bind local e) only = refl
    points_none (SetLocal local e) only = refl
    points_none (SetGlobal cell e) only = refl
    points_none (SetElement a i e) only = refl
    points_none (SetField p k f e) only = refl
    points_none (Call k es r) only = absurd only
    points_none (Print e) only = refl
    points_none (If' c m a) only = let h = row_points_none a only in omega arith
    points_none (IfElse' c m a k b) only = let h = row_points_none a only.0 in let g = row_points_none b only.1 in omega arith
    points_none (While' c m a) only = let h = row_points_none a only in omega arith

    row_points_none : {m : _} (row : Row_of-Stmt m) → AllCallOnly NoHelper row → points_among 0 brings row ≡ 0
    row_points_none end_of-Stmt only = refl
    row_points_none (more_of-Stmt start x rest) only = let h = points_none x only.0 in let g = row_points_none rest only.1 in omega arith

  all_points_none : (xs : List Stmt) → EachCallsOnly NoHelper xs → points_among_all 0 brings xs ≡ 0
  all_points_none [] only = refl
  all_points_none (x ∷ xs) only = let h = points_none x.action only.0 in let g = all_points_none xs only.1 in omega arith

own_few : (o : Option Local) → length (own_local o) ≤ 1
own_few (Some local) = omega arith
own_few None = omega arith

both_few : (a b : List LocalData) (c d : List ℕ) → length a ≤ length c → length b ≤ length d →
    length (a ++ b) ≤ length (c ++ d)
both_few a b c d h g = omega (arith, length-append a b, length-append c d)

-- statements without calls bring only the locals that they bind
module _ (brings : ℕ → Brought) (own : List Local) where
  mutual
    locals_few : (x : Action) → CallsOnly NoHelper x → length (locals_by brings own x) ≤ length (bound_by x)
    locals_few (Bind local e) only = own_few (slice_get own local)
    locals_few (SetLocal local e) only = omega arith
    locals_few (SetGlobal cell e) only = omega arith
    locals_few (SetElement a i e) only = omega arith
    locals_few (SetField p k f e) only = omega arith
    locals_few (Call k es r) only = absurd only
    locals_few (Print e) only = omega arith
    locals_few (If' c m a) only = row_locals_few a only
    locals_few (IfElse' c m a k b) only = both_few _ _ _ _ (row_locals_few a only.0) (row_locals_few b only.1)
    locals_few (While' c m a) only = row_locals_few a only

    row_locals_few : {m : _} (row : Row_of-Stmt m) → AllCallOnly NoHelper row →
        length (locals_in brings own row) ≤ length (bound_in row)
    row_locals_few end_of-Stmt only = omega arith
    row_locals_few (more_of-Stmt start x rest) only = both_few _ _ _ _ (locals_few x only.0) (row_locals_few rest only.1)

  all_locals_few : (xs : List Stmt) → EachCallsOnly NoHelper xs →
      length (locals_in_all brings own xs) ≤ length (bound_in_all xs)
  all_locals_few [] only = omega arith
  all_locals_few (x ∷ xs) only = both_few _ _ _ _ (locals_few x.action only.0) (all_locals_few xs only.1)

taken_few : (count : ℕ) (locals : List Local) → length (take count locals) ≤ count
taken_few zero locals = omega arith
taken_few (suc count) [] = omega arith
taken_few (suc count) (x ∷ xs) = let h = taken_few count xs in omega arith

mapped_many : (locals : List Local) → length (map local_data locals) ≡ length locals
mapped_many [] = refl
mapped_many (x ∷ xs) = let h = mapped_many xs in omega arith

-- the locals of a section that calls nothing are its own
written_few : (brings : ℕ → Brought) (section : Section) → IsWellScoped section → CallsNothing section →
    length (map local_data (take section.parameters section.locals.items) ++ locals_in_all brings section.locals.items section.body.items) ≤ length section.locals.items
written_few brings section scoped only =
    let front : List LocalData = map local_data (take section.parameters section.locals.items) in
    let behind : List LocalData = locals_in_all brings section.locals.items section.body.items in
    let few = all_locals_few brings section.locals.items section.body.items only in
    let many = mapped_many (take section.parameters section.locals.items) in
    let taken = taken_few section.parameters section.locals.items in
    let before = numbers_many 0 section.parameters in
    let whole = numbers_many 0 (length section.locals.items) in
    let same = ap (λ (l : List ℕ). length l) scoped.bound in
    omega (arith, length-append front behind, length-append (numbers_from 0 section.parameters) (bound_in_all section.body.items))

pub checked : (program : Typed) → IsWellFormed program → IsChecked program
checked program well = record {
  within = well.within;
  laid_out = well.laid_out;
  protected = well.protected;
  opens = well.opens;
  sections = well.sections;
  scopes = well.scopes;
  helpers = λ k h is. absurd (no_helper program k h well.helpers is);
  helper_scopes = λ k h is. absurd (no_helper program k h well.helpers is);
  helper_depths = λ k h is. absurd (no_helper program k h well.helpers is);
  written_locals = λ k section is.
      let few = written_few (brought deepest program.shape) section (well.scopes k section is) (calls_nothing program k section well is) in
      let own = well.within.locals k section is in
      omega arith;
  helper_points = λ k section is.
      let none = all_points_none (brought_points deepest program.shape) section.body.items (calls_nothing program k section well is) in
      omega arith;
  scripts = well.scripts;
}
