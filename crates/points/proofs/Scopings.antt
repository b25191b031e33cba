-- Visits of statements with the paths in scope.
use Rattle.std.specs.Prelude.{◌≡◌, ℕ, zero, suc, ◌+◌, ◌<◌, ◌≤◌, ◌==◌, ◌||◌, nat_lt, Bool, true, false, List, [], ◌∷◌}
use Rattle.std.specs.Prelude.{◌++◌, map, slice_get, Option, Some, None}
use Rattle.std.proofs.Common.{refl, sym, ap, ◌∙◌, arith, length, take, get_or, append_assoc, append-nil, Vec, Global}
use Rattle.std.proofs.Common.{inl, inr}
use Rattle.std.proofs.lemmas.List.{map-append, take_more}
use Rattle.std.proofs.lemmas.Bool.{cases_lt, lt-ltb, le-ltb, eq-eqb, ne_eqb}
use Rattle.std.proofs.lemmas.Option.{slice_get_past, slice_get-get_or}
use Rattle.core_lang.specs.declared.tree.Condition.{Condition}
use Rattle.core_lang.specs.declared.tree.Stmt.{Stmt}
use Rattle.core_lang.specs.declared.tree.Action.{Action, If, IfElse, While}
use Rattle.core_lang.specs.declared.tree.Section.{Section}
use Rattle.core_lang.specs.Scopes.{scope_after, scope_after_all, numbers_from}
use Rattle.flow.specs.declared.points.PointRef.{PointRef}
use Rattle.flow.specs.Working.PointList.{point_at}
use Rattle.flow.specs.Points.{inner_scopes, scopes_of_all, scope_of_return, scopes}
use Rattle.flow.specs.Theory.TreeScopes.{names}
use Rattle.flow.specs.Theory.Views.{inner_scopes-If, inner_scopes-IfElse, inner_scopes-While}
use Rattle.locks.specs.declared.path.Root.{Root}
use Rattle.locks.specs.declared.path.Root.TheVariants.{GlobalLock, WholeClass, Local as AtLocal}
use Rattle.locks.specs.declared.path.LockPath as written
use Rattle.locks.specs.declared.path_set.PathSet.{PathSet}
use Rattle.locks.specs.Sets.{has}
use Rattle.points.specs.Working.Dataflow.{column}
use Rattle.points.specs.Working.Scoping.{is_at, is_among, test_at, test_root, AreThose, in_scope, binds, IsAfter}
use Rattle.points.specs.Working.Scoping.{AreScopes, of_block, of_inner, behind_block, behind_action}
use Rattle.points.proofs.Sets.{column-push}

or_comm : (x y : Bool) → (x || y) ≡ (y || x)
or_comm true true = refl
or_comm true false = refl
or_comm false true = refl
or_comm false false = refl

-- ---- parameters

from_within : (k f n : ℕ) → f ≤ k → k < f + n → names k (numbers_from f n) ≡ true
from_within k f zero h lt = absurd (omega arith)
from_within k f (suc n) h lt =
    elim (cases_lt f k) [
      | inl less ↦ ap (λ b. (f == k) || b) (from_within k (f + 1) n (omega arith) (omega arith)) ∙ any (f == k)
      | inr more ↦ ap (λ b. b || names k (numbers_from (f + 1) n)) (eq-eqb f k (omega arith))
    ]
  where
    any : (b : Bool) → (b || true) ≡ true
    any true = refl
    any false = refl

from_past : (k f n : ℕ) → f + n ≤ k → names k (numbers_from f n) ≡ false
from_past k f zero h = refl
from_past k f (suc n) h = ap (λ b. b || names k (numbers_from (f + 1) n)) (ne_eqb f k (λ e. omega (arith, e, h))) ∙ from_past k (f + 1) n (omega arith)

pub among_parameters : (k n : ℕ) → nat_lt k n ≡ names k (numbers_from 0 n)
among_parameters k n =
    elim (cases_lt k n) [
      | inl lt ↦ lt-ltb k n lt ∙ sym (from_within k 0 n (omega arith) (omega arith))
      | inr ge ↦ le-ltb k n ge ∙ sym (from_past k 0 n (omega arith))
    ]

-- ---- tests of roots

module _ (r : List written.LockPath) where
  pub test_here : (test : Root → Bool) (i : ℕ) (d : written.LockPath) → i < length r →
      test_root r test i ≡ test (get_or r i d).root
  test_here test i d lt = ap (test_at test) (slice_get-get_or r i d lt)

  pub test_past : (test : Root → Bool) (i : ℕ) → length r ≤ i → test_root r test i ≡ false
  test_past test i h = ap (test_at test) (slice_get_past r i h)

  with_root : (local : ℕ) (locals : List ℕ) (o : Option written.LockPath) →
      (test_at (is_among locals) o || test_at (is_at local) o) ≡ test_at (is_among (local ∷ locals)) o
  with_root local locals None = refl
  with_root local locals (Some path) = by_root path.root
    where
      by_root : (root : Root) → (is_among locals root || is_at local root) ≡ is_among (local ∷ locals) root
      by_root GlobalLock = refl
      by_root (WholeClass s) = refl
      by_root (AtLocal k) = or_comm (names k locals) (local == k)

  -- after a statement that binds a local
  pub behind_bind : (action : Action) (local : ℕ) (scope here set : PathSet) →
      ((locals : List ℕ) → behind_action action locals ≡ local ∷ locals) → AreThose r (is_at local) here →
      ((i : ℕ) → has set i ≡ (has scope i || has here i)) → IsAfter r scope (behind_action action) set
  behind_bind action local scope here set is at joined locals was i =
      joined i ∙ ap (λ b. b || has here i) (was i) ∙ ap (λ b. test_root r (is_among locals) i || b) (at i)
      ∙ with_root local locals (slice_get r i) ∙ ap (λ ls. test_root r (is_among ls) i) (sym (is locals))

  -- the roots that one point more binds
  pub bound_more : (ps : List PointRef) (k : ℕ) (p : PointRef) (sets more_sets : List PathSet) (set : PathSet) →
      p ≡ get_or ps k p → k < length ps →
      ((i : ℕ) → column i sets ≡ map (binds r i) (map point_at (take k ps))) → ((i : ℕ) → has set i ≡ binds r i (point_at p)) → more_sets ≡ sets ++ set ∷ [] → (i : ℕ) →
      column i more_sets ≡ map (binds r i) (map point_at (take (k + 1) ps))
  bound_more ps k p sets more_sets set is lt was here push i =
      let all : take (k + 1) ps ≡ take k ps ++ p ∷ [] = take_more ps k p lt ∙ ap (λ x. take k ps ++ x ∷ []) (sym is) in
      column-push i sets more_sets set push ∙ ap (λ l. l ++ has set i ∷ []) (was i) ∙ ap (λ b. map (binds r i) (map point_at (take k ps)) ++ b ∷ []) (here i)
      ∙ sym (ap (λ l. map (binds r i) (map point_at l)) all ∙ ap (map (binds r i)) (map-append point_at (take k ps) (p ∷ []))
      ∙ map-append (binds r i) (map point_at (take k ps)) (point_at p ∷ []))

  -- ---- the scopes of blocks

  scopes_front : (locals : List ℕ) (xs ys : List Stmt) →
      scopes_of_all locals (xs ++ ys) ≡ scopes_of_all locals xs ++ scopes_of_all (scope_after_all locals xs) ys
  scopes_front locals [] ys = refl
  scopes_front locals (x ∷ xs) ys =
      ap (λ l. locals ∷ (inner_scopes locals x.action ++ l)) (scopes_front (scope_after locals x.action) xs ys)
      ∙ ap (λ l. locals ∷ l) (sym (append_assoc (inner_scopes locals x.action) (scopes_of_all (scope_after locals x.action) xs) (scopes_of_all (scope_after_all (scope_after locals x.action) xs) ys)))

  after_front : (locals : List ℕ) (xs ys : List Stmt) →
      scope_after_all locals (xs ++ ys) ≡ scope_after_all (scope_after_all locals xs) ys
  after_front locals [] ys = refl
  after_front locals (x ∷ xs) ys = after_front (scope_after locals x.action) xs ys

  more : (ss : List Stmt) (k : ℕ) (s : Stmt) → s ≡ get_or ss k s → k < length ss → take (k + 1) ss ≡ take k ss ++ s ∷ []
  more ss k s is lt = take_more ss k s lt ∙ ap (λ x. take k ss ++ x ∷ []) (sym is)

  -- one turn of the loop over statements
  pub behind_turn : (ss : List Stmt) (k : ℕ) (s : Stmt) (first scope next : PathSet) → s ≡ get_or ss k s →
      k < length ss →
      IsAfter r first (behind_block (take k ss)) scope → IsAfter r scope (behind_action s.action) next → IsAfter r first (behind_block (take (k + 1) ss)) next
  behind_turn ss k s first scope next is lt was on locals opens i =
      on (scope_after_all locals (take k ss)) (was locals opens) i
      ∙ ap (λ l. test_root r (is_among l) i) (sym (ap (scope_after_all locals) (more ss k s is lt) ∙ after_front locals (take k ss) (s ∷ [])))

  pub scopes_turn : (ss : List Stmt) (k : ℕ) (s : Stmt) (first scope : PathSet) (old was pushed sets : Vec PathSet Global) → s ≡ get_or ss k s →
      k < length ss → IsAfter r first (behind_block (take k ss)) scope → AreScopes r first (of_block (take k ss)) old was →
      pushed.items ≡ was.items ++ scope ∷ [] → AreScopes r scope (of_inner s.action) pushed sets → AreScopes r first (of_block (take (k + 1) ss)) old sets
  scopes_turn ss k s first scope old was pushed sets is lt after so_far push inner locals opens i =
      let here = scope_after_all locals (take k ss) in
      let R = in_scope r i in
      let o = column i old.items in
      let A = map R (scopes_of_all locals (take k ss)) in
      let B = map R (inner_scopes here s.action) in
      let all : scopes_of_all locals (take (k + 1) ss) ≡ scopes_of_all locals (take k ss) ++ (here ∷ inner_scopes here s.action) =
      ap (scopes_of_all locals) (more ss k s is lt) ∙ scopes_front locals (take k ss) (s ∷ [])
      ∙ ap (λ l. scopes_of_all locals (take k ss) ++ (here ∷ l)) (append-nil (inner_scopes here s.action)) in
      inner here (after locals opens) i
      ∙ ap (λ l. l ++ B) (column-push i was.items pushed.items scope push ∙ ap (λ l. l ++ has scope i ∷ []) (so_far locals opens i) ∙ ap (λ b. (o ++ A) ++ b ∷ []) (after locals opens i))
      ∙ append_assoc (o ++ A) (R here ∷ []) B ∙ append_assoc o A (R here ∷ B)
      ∙ ap (λ l. o ++ l) (sym (ap (map R) all ∙ map-append R (scopes_of_all locals (take k ss)) (here ∷ inner_scopes here s.action)))

  pub scopes_none : (first : PathSet) (old : Vec PathSet Global) → AreScopes r first (of_block []) old old
  scopes_none first old locals opens i = sym (append-nil (column i old.items))

  -- the blocks of a statement
  pub scopes_if : (action : Action) (c : Condition) (a : Vec Stmt Global) (ss : List Stmt) (scope : PathSet) (was sets : Vec PathSet Global) → action ≡ If c a →
      ss ≡ a.items → AreScopes r scope (of_block ss) was sets → AreScopes r scope (of_inner action) was sets
  scopes_if action c a ss scope was sets is same h locals opens i =
      h locals opens i ∙ ap (λ l. column i was.items ++ map (in_scope r i) l)
      (ap (scopes_of_all locals) same ∙ sym (inner_scopes-If c a locals) ∙ ap (inner_scopes locals) (sym is))

  pub scopes_if_else : (action : Action) (c : Condition) (a b : Vec Stmt Global) (ss os : List Stmt) (scope : PathSet) (was mid sets : Vec PathSet Global) → action ≡ IfElse c a b →
      ss ≡ a.items → os ≡ b.items → AreScopes r scope (of_block ss) was mid → AreScopes r scope (of_block os) mid sets → AreScopes r scope (of_inner action) was sets
  scopes_if_else action c a b ss os scope was mid sets is e f g h locals opens i =
      let R = in_scope r i in
      let o = column i was.items in
      h locals opens i ∙ ap (λ l. l ++ map R (scopes_of_all locals os)) (g locals opens i)
      ∙ append_assoc o (map R (scopes_of_all locals ss)) (map R (scopes_of_all locals os))
      ∙ ap (λ l. o ++ l) (sym (map-append R (scopes_of_all locals ss) (scopes_of_all locals os)))
      ∙ ap (λ l. o ++ map R l)
      (ap (λ xs. scopes_of_all locals xs ++ scopes_of_all locals os) e ∙ ap (λ xs. scopes_of_all locals a.items ++ scopes_of_all locals xs) f
      ∙ sym (inner_scopes-IfElse c a b locals) ∙ ap (inner_scopes locals) (sym is))

  pub scopes_while : (action : Action) (c : Condition) (a : Vec Stmt Global) (ss : List Stmt) (scope : PathSet) (was sets : Vec PathSet Global) → action ≡ While c a →
      ss ≡ a.items → AreScopes r scope (of_block ss) was sets → AreScopes r scope (of_inner action) was sets
  scopes_while action c a ss scope was sets is same h locals opens i =
      h locals opens i ∙ ap (λ l. column i was.items ++ map (in_scope r i) l)
      (ap (scopes_of_all locals) same ∙ sym (inner_scopes-While c a locals) ∙ ap (inner_scopes locals) (sym is))

  -- a whole section
  section_scopes : (section : Section) (opening : PathSet) (ss : List Stmt) (was sets : Vec PathSet Global) →
      AreThose r (is_among (numbers_from 0 section.parameters)) opening →
      was.items ≡ [] → ss ≡ section.body.items → AreScopes r opening (of_block ss) was sets → (i : ℕ) →
      column i sets.items ≡ map (in_scope r i) (scopes_of_all (numbers_from 0 section.parameters) section.body.items)
  section_scopes section opening ss was sets opens empty same h i =
      h (numbers_from 0 section.parameters) opens i ∙ ap (λ l. column i l ++ map (in_scope r i) (scopes_of_all (numbers_from 0 section.parameters) ss)) empty
      ∙ ap (λ l. map (in_scope r i) (scopes_of_all (numbers_from 0 section.parameters) l)) same

  pub scopes_without : (section : Section) (opening : PathSet) (ss : List Stmt) (was sets : Vec PathSet Global) →
      AreThose r (is_among (numbers_from 0 section.parameters)) opening →
      was.items ≡ [] → ss ≡ section.body.items → AreScopes r opening (of_block ss) was sets → section.result ≡ None → (i : ℕ) →
      column i sets.items ≡ map (in_scope r i) (scopes section)
  scopes_without section opening ss was sets opens empty same h none i =
      let first = numbers_from 0 section.parameters in
      section_scopes section opening ss was sets opens empty same h i
      ∙ ap (map (in_scope r i)) (sym (append-nil (scopes_of_all first section.body.items))
      ∙ ap (λ o. scopes_of_all first section.body.items ++ scope_of_return (scope_after_all first section.body.items) o) (sym none))

  pub scopes_with : (section : Section) (result : _) (opening scope : PathSet) (ss : List Stmt) (was sets all : Vec PathSet Global) → AreThose r (is_among (numbers_from 0 section.parameters)) opening →
      was.items ≡ [] → ss ≡ section.body.items → AreScopes r opening (of_block ss) was sets → IsAfter r opening (behind_block ss) scope → section.result ≡ Some result →
      all.items ≡ sets.items ++ scope ∷ [] → (i : ℕ) → column i all.items ≡ map (in_scope r i) (scopes section)
  scopes_with section result opening scope ss was sets all opens empty same h after some push i =
      let first = numbers_from 0 section.parameters in
      let body = scopes_of_all first section.body.items in
      let end = scope_after_all first section.body.items in
      column-push i sets.items all.items scope push
      ∙ ap (λ l. l ++ has scope i ∷ []) (section_scopes section opening ss was sets opens empty same h i)
      ∙ ap (λ b. map (in_scope r i) body ++ b ∷ []) (after first opens i ∙ ap (λ xs. in_scope r i (scope_after_all first xs)) same)
      ∙ sym (map-append (in_scope r i) body (end ∷ []))
      ∙ ap (λ o. map (in_scope r i) (body ++ scope_of_return end o)) (sym some)
