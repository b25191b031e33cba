-- The calls and points of resolved statements are those of the tree.
use Rattle.std.proofs.Common.{◌≡◌, ℕ, ◌+◌, List, [], ◌∷◌, ◌++◌, map, length, Option, Some, None, Bool, true, false}
use Rattle.std.proofs.Common.{refl, sym, ap, ◌∙◌, arith}
use Rattle.std.specs.Prelude.{is_some}
use Rattle.std.proofs.lemmas.List.{map-append, append-nil}
use Rattle.syntax.specs.Trees.{Stmt, Stmts, Section, Place, HelperCall}
use Rattle.core_lang.specs.declared.tree.Stmt as s
use Rattle.core_lang.specs.declared.tree.Action as a
use Rattle.core_lang.specs.declared.tree.Action.{Bind, SetLocal, SetGlobal, SetElement, SetField, Call as CallOf, Print}
use Rattle.core_lang.specs.declared.tree.Action.{If', IfElse', While', Row_of-Stmt, end_of-Stmt, more_of-Stmt}
use Rattle.core_lang.specs.WrittenPoints.{points_by, points_among, points_among_all}
use Rattle.core_lang_helpers.specs.declared.graph.CallSite.{CallSite}
use Rattle.core_lang_helpers.specs.Working.Programs.{site_of, sites_by, sites_in, sites_in_all, brings_none}
use Rattle.resolution.specs.Core as core
use Rattle.resolution.specs.CoreViews.{core_action, core_stmts_row, core_stmts}
use Rattle.resolution.specs.Scopes.{Scope, helper_meant, left, Meaning}
use Rattle.resolution.specs.Statements.{after, after_all}
use Rattle.resolution.specs.CallGraphs.{site_at, call_sites, stmt_calls, stmts_calls, stmt_points, stmts_points}
use Rattle.core_lang.specs.declared.value.ValueType.{ValueType}
use Rattle.resolution.specs.Typing.{Assigns, assigns_local, assigns_global, assigns_element, assigns_field, TypesCall}
use Rattle.resolution.specs.Typing.{types_call, TypesStmt, types_let, types_owned, types_let_call, types_var}
use Rattle.resolution.specs.Typing.{types_assign, types_if, types_if_else, types_while, types_print, types_call_alone}
use Rattle.resolution.specs.Typing.{TypesBody, types_none, types_return, types_next}

-- ---- of resolved statements as data

abbrev mutual
  pub act_sites : core.Action → List (ℕ × Bool)
  act_sites (core.call h es r) = (h, is_some r) ∷ []
  act_sites (core.if_true c body) = all_sites body
  act_sites (core.if_else c body other) = all_sites body ++ all_sites other
  act_sites (core.while_true c body) = all_sites body
  act_sites _ = []

  pub all_sites : core.Stmts → List (ℕ × Bool)
  all_sites core.no_stmts = []
  all_sites (core.stmt start x rest) = act_sites x ++ all_sites rest

abbrev mutual
  pub act_points : core.Action → ℕ
  act_points (core.call h es r) = 0
  act_points (core.if_true c body) = 1 + all_points body
  act_points (core.if_else c body other) = 1 + (all_points body + all_points other)
  act_points (core.while_true c body) = 1 + all_points body
  act_points _ = 1

  pub all_points : core.Stmts → ℕ
  all_points core.no_stmts = 0
  all_points (core.stmt start x rest) = act_points x + all_points rest

-- ---- and of those in memory

mutual
  sites_seen : (x : a.Action) → sites_by x ≡ act_sites (core_action x)
  sites_seen (Bind local e) = refl
  sites_seen (SetLocal local e) = refl
  sites_seen (SetGlobal cell e) = refl
  sites_seen (SetElement n i e) = refl
  sites_seen (SetField p k f e) = refl
  sites_seen (CallOf k es r) = refl
  sites_seen (Print e) = refl
  sites_seen (If' c m b) = row_seen b
  sites_seen (IfElse' c m b k d) = ap (λ (l : List (ℕ × Bool)). l ++ sites_in d) (row_seen b)
      ∙ ap (λ (l : List (ℕ × Bool)). all_sites (core_stmts_row b) ++ l) (row_seen d)
  sites_seen (While' c m b) = row_seen b

  row_seen : {m : _} (row : Row_of-Stmt m) → sites_in row ≡ all_sites (core_stmts_row row)
  row_seen end_of-Stmt = refl
  row_seen (more_of-Stmt start x rest) =
      ap (λ (l : List (ℕ × Bool)). l ++ sites_in rest) (sites_seen x)
      ∙ ap (λ (l : List (ℕ × Bool)). act_sites (core_action x) ++ l) (row_seen rest)

pub all_seen : (xs : List s.Stmt) → sites_in_all xs ≡ all_sites (core_stmts xs)
all_seen [] = refl
all_seen (x ∷ xs) = ap (λ (l : List (ℕ × Bool)). l ++ sites_in_all xs) (sites_seen x.action)
    ∙ ap (λ (l : List (ℕ × Bool)). act_sites (core_action x.action) ++ l) (all_seen xs)

mutual
  points_seen : (x : a.Action) → points_by 1 brings_none x ≡ act_points (core_action x)
  points_seen (Bind local e) = refl
  points_seen (SetLocal local e) = refl
  points_seen (SetGlobal cell e) = refl
  points_seen (SetElement n i e) = refl
  points_seen (SetField p k f e) = refl
  points_seen (CallOf k es r) = refl
  points_seen (Print e) = refl
  points_seen (If' c m b) = ap (λ (n : ℕ). 1 + n) (row_points b)
  points_seen (IfElse' c m b k d) = let x = row_points b in let y = row_points d in omega (arith, x, y)
  points_seen (While' c m b) = ap (λ (n : ℕ). 1 + n) (row_points b)

  row_points : {m : _} (row : Row_of-Stmt m) → points_among 1 brings_none row ≡ all_points (core_stmts_row row)
  row_points end_of-Stmt = refl
  row_points (more_of-Stmt start x rest) = let y = points_seen x in let z = row_points rest in omega (arith, y, z)

pub points_all_seen : (xs : List s.Stmt) → points_among_all 1 brings_none xs ≡ all_points (core_stmts xs)
points_all_seen [] = refl
points_all_seen (x ∷ xs) = let y = points_seen x.action in let z = points_all_seen xs in omega (arith, y, z)

-- ---- what is resolved has the calls and points of the tree

abbrev Acts : core.Action → List CallSite → ℕ → Type 0
Acts x cs n = (act_sites x ≡ map site_of cs) × (act_points x ≡ n)

abbrev All : core.Stmts → List CallSite → ℕ → Type 0
All xs cs n = (all_sites xs ≡ map site_of cs) × (all_points xs ≡ n)

set_has : {sc : Scope} {p : Place} {t : ValueType} {set : core.Expr → core.Action} (e : core.Expr) →
    Assigns sc p t set →
    Acts (set e) [] 1
set_has e (assigns_local is can h) = (refl, refl)
set_has e (assigns_global is h) = (refl, refl)
set_has e (assigns_element is h k) = (refl, refl)
set_has e (assigns_field is at) = (refl, refl)

call_has : {sc : Scope} {c : HelperCall} {s : Section} {n : ℕ} {xs : List core.Expr} (local : Option ℕ) (bound : Bool) →
    is_some local ≡ bound → TypesCall sc c s n xs → Acts (core.call n xs local) (call_sites sc bound c) 0
call_has {sc = sc} {n = n} local bound e (types_call {c = c} is k) = (
  ap (λ (b : Bool). (n, b) ∷ []) e
      ∙ sym (ap (λ (m : Meaning). map site_of (site_at sc.decls c.helper.span.start bound (helper_meant m))) is),
  refl,
)

both_have : (a b : List (ℕ × Bool)) (cs ds : List CallSite) → a ≡ map site_of cs → b ≡ map site_of ds →
    a ++ b ≡ map site_of (cs ++ ds)
both_have a b cs ds x y = ap (λ (l : List (ℕ × Bool)). l ++ b) x ∙ ap (λ (l : List (ℕ × Bool)). map site_of cs ++ l) y
    ∙ sym (map-append site_of cs ds)

mutual
  stmt_has : {sc : Scope} {x : Stmt} {start : ℕ} {action : core.Action} → TypesStmt sc x start action →
      Acts action (stmt_calls sc x) (stmt_points x)
  stmt_has (types_let is g) = (refl, refl)
  stmt_has (types_owned is g h) = (refl, refl)
  stmt_has {sc = sc} (types_let_call k is r) = call_has (Some (length sc.locals)) true refl k
  stmt_has (types_var is g) = (refl, refl)
  stmt_has (types_assign {x = x} h g) = set_has x h
  stmt_has {sc = sc} (types_if {body = body} {block = block} h k) =
      let b = body_has k in
      let e : all_points block ≡ stmts_points body = b.1 in
      (b.0 ∙ ap (map site_of) (sym (append-nil (stmts_calls sc body))), omega (arith, e))
  stmt_has {sc = sc} (types_if_else {body = body} {other = other} {block = block} {otherwise = otherwise} h k l) =
      let b = body_has k in
      let d = body_has l in
      let e : all_points block ≡ stmts_points body = b.1 in
      let f : all_points otherwise ≡ stmts_points other = d.1 in (
        both_have (all_sites block) (all_sites otherwise) (stmts_calls sc body)
            (stmts_calls (left sc (after_all sc body)) other) b.0 d.0,
        omega (arith, e, f),
      )
  stmt_has (types_while h k) = let b = body_has k in (b.0, ap (λ (n : ℕ). 1 + n) b.1)
  stmt_has (types_print h) = (refl, refl)
  stmt_has (types_call_alone k) = call_has None false refl k

  pub body_has : {sc : Scope} {xs : Stmts} {block : core.Stmts} {r : Option core.Return} → TypesBody sc xs block r →
      All block (stmts_calls sc xs) (stmts_points xs)
  body_has types_none = (refl, refl)
  body_has (types_return g) = (refl, refl)
  body_has {sc = sc} (types_next {s = x} {rest = rest} {action = action} {stmts = stmts} h k) =
      let a = stmt_has h in
      let b = body_has k in
      let e : act_points action ≡ stmt_points x = a.1 in
      let f : all_points stmts ≡ stmts_points rest = b.1 in (
        both_have (act_sites action) (all_sites stmts) (stmt_calls sc x) (stmts_calls (after sc x) rest) a.0 b.0,
        omega
            (arith, e, f),
      )
