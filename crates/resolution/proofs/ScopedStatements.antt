-- Resolved statements name only locals in scope, bind each once, and assign only to `var`s.
use Rattle.std.proofs.Common.{◌≡◌, ℕ, zero, suc, ◌+◌, ◌<◌, List, [], ◌∷◌, ◌++◌, length, Option, Some, None, true, false}
use Rattle.std.proofs.Common.{◌⊎◌, inl, inr, refl, sym, ap, ◌∙◌, subst, append_assoc, arith}
use Rattle.std.specs.Prelude.{slice_get, ⊤}
use Rattle.std.specs.List.{Contains}
use Rattle.std.proofs.lemmas.List.Elements.{Contains-append_cases}
use Rattle.std.proofs.lemmas.Option.{slice_get_within}
use Rattle.syntax.specs.Trees.{Place, Expr, Links, Owner, Stmt, Stmts, Param, Section, array, HelperCall}
use Rattle.core_lang.specs.declared.tree.LocalKind.{LocalKind}
use Rattle.core_lang.specs.declared.tree.LocalKind.TheVariants as kind
use Rattle.core_lang.specs.Scopes.{numbers_from}
use Rattle.resolution.specs.declared.wanted.Want.{Want}
use Rattle.resolution.specs.Core as core
use Rattle.resolution.specs.Scopes as scopes
use Rattle.resolution.specs.Scopes.{Scope, a_local, meaning, number_at, type_of, bound, hidden, hidden_from, left}
use Rattle.resolution.specs.Expressions.{ResolvedExpr, value, truth, fits, local_path, cell_of, marked}
use Rattle.resolution.specs.Statements.{is_var, after, after_all}
use Rattle.resolution.proofs.TypedResolvedExprs.{IsLocal, meant_local}
use Rattle.resolution.proofs.TypedStatements.{Kept, kept_hidden, Front, all_front}
use Rattle.resolution.proofs.Scoped.{Names, AllName, EachNames, TestNames, AllTestName, behind, ActNames, StmtsName}
use Rattle.resolution.proofs.Scoped.{behind_all, binding, all_binding, assigning, all_assigning}
use Rattle.core_lang.specs.declared.value.ValueType.{ValueType}
use Rattle.resolution.specs.Typing.{Types, types_int, types_null, types_local, types_global, types_element}
use Rattle.resolution.specs.Typing.{types_member, types_path, types_paren, types_minus, types_not, types_numbers}
use Rattle.resolution.specs.Typing.{types_and, types_or, types_order, types_equality, TypesOperands, no_operand}
use Rattle.resolution.specs.Typing.{one_operand, TypesTests, last_test, one_test, Gives, gives, Assigns, assigns_local}
use Rattle.resolution.specs.Typing.{assigns_global, assigns_element, assigns_field, TypesOwner, types_owner}
use Rattle.resolution.specs.Typing.{TypesArguments, no_argument, one_argument, TypesCall, types_call, TypesStmt}
use Rattle.resolution.specs.Typing.{types_let, types_owned, types_let_call, types_var, types_assign, types_if}
use Rattle.resolution.specs.Typing.{types_if_else, types_while, types_print, types_call_alone, TypesBody, types_none}
use Rattle.resolution.specs.Typing.{types_return, types_next}

-- ---- expressions

-- each local in scope is in the list
abbrev pub Covers : List scopes.Local → List ℕ → Type 0
Covers ls scope = (n : ℕ) (l : scopes.Local) → slice_get ls n ≡ Some l → l.is_visible ≡ true → Contains scope n

module _ (sc : Scope) (scope : List ℕ) (covers : Covers sc.locals scope) where
  abbrev ResolvedExprNames : ResolvedExpr → Type 0
  ResolvedExprNames (value x s) = Names scope x
  ResolvedExprNames (truth c) = TestNames scope c

  marked_names : (r : ResolvedExpr) → ResolvedExprNames r → ResolvedExprNames (marked r)
  marked_names (value (core.place q) s) h = h
  marked_names r h = h

  -- a local that is meant
  pub local_in : (q : List ℕ) (n : ℕ) (l : scopes.Local) → meaning sc q ≡ a_local n l → Contains scope n
  local_in q n l is = let loc = subst (IsLocal sc.locals) is (meant_local sc q) in covers n l loc.0 loc.1

  mutual
    pub expr_names : {e : Expr} {r : ResolvedExpr} → Types sc e r → ResolvedExprNames r
    expr_names (types_int h) = tt
    expr_names types_null = tt
    expr_names (types_local {x = x} {i = i} {l = l} is h) = local_in x.text i l is
    expr_names (types_global is h) = tt
    expr_names (types_element is h d) = expr_names d
    expr_names (types_member is h d) = expr_names d
    expr_names (types_path {x = x} {i = i} {l = l} is at) = local_in x.text i l is
    expr_names (types_paren {r = r} d) = marked_names r (expr_names d)
    expr_names (types_minus d) = expr_names d
    expr_names (types_not d) = expr_names d
    expr_names (types_numbers are d k) = (expr_names d, operands_name k)
    expr_names (types_and d k) = tests_name k (expr_names d)
    expr_names (types_or d k) = tests_name k (expr_names d)
    expr_names (types_order h k) = (expr_names h, expr_names k)
    expr_names (types_equality so h k e) = (expr_names h, expr_names k)

    operands_name : {links : Links} {rest : core.Operations} → TypesOperands sc links rest → AllName scope rest
    operands_name no_operand = tt
    operands_name (one_operand is d k) = (expr_names d, operands_name k)

    tests_name : {c last : core.Condition} {links : Links} {before : core.Conditions} →
        TypesTests sc c links before last → TestNames scope c → AllTestName scope before × TestNames scope last
    tests_name last_test h = (tt, h)
    tests_name (one_test d k) h = let r = tests_name k (expr_names d) in ((h, r.0), r.1)

  pub value_names : {w : Want} {e : Expr} {x : core.Expr} → Gives sc w e x → Names scope x
  value_names (gives d fits) = expr_names d

  owner_names : {t : ValueType} {o : Owner} {x y : core.Expr} → TypesOwner sc t o x y → Names scope x → Names scope y
  owner_names (types_owner {o = o} {i = i} {l = l} final is h within few) n = (n, local_in o.local.text i l is)

  arguments_name : {ps : List Param} {es : List Expr} {xs : List core.Expr} → TypesArguments sc ps es xs →
      EachNames scope xs
  arguments_name no_argument = tt
  arguments_name (one_argument g k) = (value_names g, arguments_name k)

  call_names : {c : HelperCall} {s : Section} {n : ℕ} {xs : List core.Expr} → TypesCall sc c s n xs → EachNames scope xs
  call_names (types_call is k) = arguments_name k

-- ---- numbers

numbers_push : (a n : ℕ) → numbers_from a n ++ (a + n) ∷ [] ≡ numbers_from a (suc n)
numbers_push a zero = ap (λ (k : ℕ). k ∷ []) (let z : a + 0 ≡ a = omega arith in z)
numbers_push a (suc n) =
    ap (λ (l : List ℕ). a ∷ l)
    (ap (λ (k : ℕ). numbers_from (a + 1) n ++ k ∷ []) (let z : a + suc n ≡ a + 1 + n = omega arith in z)
    ∙ numbers_push (a + 1) n)

numbers_bind : (ls : List scopes.Local) (x : scopes.Local) →
    numbers_from 0 (length ls) ++ length ls ∷ [] ≡ numbers_from 0 (length (ls ++ x ∷ []))
numbers_bind ls x =
    ap (λ (k : ℕ). numbers_from 0 (length ls) ++ k ∷ []) (let z : length ls ≡ 0 + length ls = omega arith in z)
    ∙ numbers_push 0 (length ls) ∙ ap (numbers_from 0) (sym (longer ls x))
  where
    longer : (ls : List scopes.Local) (x : scopes.Local) → length (ls ++ x ∷ []) ≡ suc (length ls)
    longer [] x = refl
    longer (y ∷ ls) x = ap suc (longer ls x)

pub hidden_length : (n : ℕ) (ls : List scopes.Local) → length (hidden_from n ls) ≡ length ls
hidden_length n [] = refl
hidden_length zero (x ∷ ls) = ap suc (hidden_length zero ls)
hidden_length (suc n) (x ∷ ls) = ap suc (hidden_length n ls)

-- ---- bindings and assignments of statements

-- a `var` of the section
abbrev pub IsVarAt : List core.Local → ℕ → Type 0
IsVarAt finals n = (x : core.Local) × (slice_get finals n ≡ Some x) × (x.kind ≡ kind.Var)

-- the locals so far are some of the section's
abbrev pub Become : List scopes.Local → List core.Local → Type 0
Become ls finals = (n : ℕ) (l : scopes.Local) → slice_get ls n ≡ Some l →
    (x : core.Local) × (slice_get finals n ≡ Some x) × (x.kind ≡ l.kind)

pub become_before : (a b : List scopes.Local) (finals : List core.Local) → Kept a b → Become b finals → Become a finals
become_before a b finals k h n l e = let x = k n l e in let y = h n x.0 x.1 in (y.0, y.1, y.2 ∙ x.3)

front_kept : (a b : List scopes.Local) → Front a b → Kept a b
front_kept a b f n l e = (l, f n l e, refl, refl)

-- an action after n locals that leaves m
pub record Acted (scope : List ℕ) (finals : List core.Local) (n m : ℕ) (x : core.Action) : Type 0 where
  pub named : ActNames scope x
  pub bound : numbers_from 0 n ++ binding x ≡ numbers_from 0 m
  pub assigned : (k : ℕ) → Contains (assigning x) k → IsVarAt finals k

pub record Done (scope : List ℕ) (finals : List core.Local) (n m : ℕ) (xs : core.Stmts) : Type 0 where
  pub named : StmtsName scope xs
  pub bound : numbers_from 0 n ++ all_binding xs ≡ numbers_from 0 m
  pub assigned : (k : ℕ) → Contains (all_assigning xs) k → IsVarAt finals k

nowhere : (k : ℕ) → Contains [] k → ⊥
nowhere k (i, lt, e) = omega (arith, lt)

only : (x k : ℕ) → Contains (x ∷ []) k → x ≡ k
only x k (zero, lt, e) = e
only x k (suc i, lt, e) = absurd (omega (arith, lt))

here : (x : ℕ) (xs : List ℕ) → Contains (x ∷ xs) x
here x xs = (0, omega arith, refl)

there : (x y : ℕ) (xs : List ℕ) → Contains xs y → Contains (x ∷ xs) y
there x y xs h = let lt = h.1 in (suc h.0, omega (arith, lt), h.2)

-- an action that binds and assigns nothing
plain : (scope : List ℕ) (finals : List core.Local) (n : ℕ) (x : core.Action) → ActNames scope x → binding x ≡ [] →
    assigning x ≡ [] → Acted scope finals n n x
plain scope finals n x h b a = record {
  named = h;
  bound = ap (λ (l : List ℕ). numbers_from 0 n ++ l) b ∙ nil (numbers_from 0 n);
  assigned = λ k c. absurd (nowhere k (subst (λ (l : List ℕ). Contains l k) a c));
}
  where
    nil : (xs : List ℕ) → xs ++ [] ≡ xs
    nil [] = refl
    nil (y ∷ xs) = ap (λ (ys : List ℕ). y ∷ ys) (nil xs)

module _ (finals : List core.Local) where
  abbrev pub ReturnDone : List ℕ → Option core.Return → Type 0
  ReturnDone scope None = ⊤
  ReturnDone scope (Some r) = Names scope r.value

  nothing_done : (scope : List ℕ) (n : ℕ) → Done scope finals n n core.no_stmts
  nothing_done scope n = record { named = tt; bound = nil (numbers_from 0 n); assigned = λ k c. absurd (nowhere k c) }
    where
      nil : (xs : List ℕ) → xs ++ [] ≡ xs
      nil [] = refl
      nil (y ∷ xs) = ap (λ (ys : List ℕ). y ∷ ys) (nil xs)

  more_done : (scope : List ℕ) (n m k start : ℕ) (x : core.Action) (xs : core.Stmts) → Acted scope finals n m x →
      Done (behind scope x) finals m k xs → Done scope finals n k (core.stmt start x xs)
  more_done scope n m k start x xs h g = record {
    named = (h.named, g.named);
    bound = sym (append_assoc (numbers_from 0 n) (binding x) (all_binding xs))
        ∙ ap (λ (l : List ℕ). l ++ all_binding xs) h.bound ∙ g.bound;
    assigned = λ j c. elim
        (Contains-append_cases (assigning x) (all_assigning xs) j c)
        [ inl i ↦ h.assigned j i | inr i ↦ g.assigned j i ];
  }

-- ---- scopes

push_or : {A : Type 0} (xs : List A) (y l : A) (n : ℕ) → slice_get (xs ++ y ∷ []) n ≡ Some l →
    (slice_get xs n ≡ Some l) ⊎ (n ≡ length xs)
push_or [] y l zero e = inr refl
push_or [] y l (suc n) e = cc
push_or (x ∷ xs) y l zero e = inl e
push_or (x ∷ xs) y l (suc n) e = elim (push_or xs y l n e) [ inl h ↦ inl h | inr h ↦ inr (ap suc h) ]

covers_push : (ls : List scopes.Local) (x : scopes.Local) (scope : List ℕ) → Covers ls scope →
    Covers (ls ++ x ∷ []) (length ls ∷ scope)
covers_push ls x scope c n l e v =
    elim (push_or ls x l n e) [
      | inl h ↦ there (length ls) n scope (c n l h v)
      | inr h ↦ subst (λ (k : ℕ). Contains (length ls ∷ scope) k) (sym h)
          (here (length ls) scope)
    ]

all_hidden : (b : List scopes.Local) (n : ℕ) (l : scopes.Local) → slice_get (hidden_from zero b) n ≡ Some l →
    l.is_visible ≡ false
all_hidden [] n l e = cc
all_hidden (x ∷ b) zero l e = let s : hidden x ≡ l = cc in sym (ap (λ (y : scopes.Local). y.is_visible) s)
all_hidden (x ∷ b) (suc n) l e = all_hidden b n l e

visible_front : (a b : List scopes.Local) → Front a b → (n : ℕ) (l : scopes.Local) →
    slice_get (hidden_from (length a) b) n ≡ Some l → l.is_visible ≡ true → slice_get a n ≡ Some l
visible_front [] b f n l e v = let h = all_hidden b n l e in let t : true ≡ false = sym v ∙ h in cc
visible_front (x ∷ a) [] f n l e v = cc
visible_front (x ∷ a) (y ∷ b) f zero l e v = let s : Some y ≡ Some x = f 0 x refl in sym s ∙ e
visible_front (x ∷ a) (y ∷ b) f (suc n) l e v = visible_front a b (λ j k h. f (suc j) k h) n l e v

covers_left : (a b : List scopes.Local) (scope : List ℕ) → Front a b → Covers a scope →
    Covers (hidden_from (length a) b) scope
covers_left a b scope f c n l e v = c n l (visible_front a b f n l e v) v

pub numbers_has : (a n k : ℕ) → k < n → Contains (numbers_from a n) (a + k)
numbers_has a zero k lt = absurd (omega (arith, lt))
numbers_has a (suc n) zero lt =
    subst (λ (j : ℕ). Contains (numbers_from a (suc n)) j) (let z : a ≡ a + 0 = omega arith in z)
    (here a (numbers_from (a + 1) n))
numbers_has a (suc n) (suc k) lt =
    subst (λ (j : ℕ). Contains (numbers_from a (suc n)) j) (let z : a + 1 + k ≡ a + suc k = omega arith in z)
    (there a (a + 1 + k) (numbers_from (a + 1) n) (numbers_has (a + 1) n k (let z : k < n = omega (arith, lt) in z)))

pub numbers_cover : (ls : List scopes.Local) → Covers ls (numbers_from 0 (length ls))
numbers_cover ls n l e v =
    subst (λ (j : ℕ). Contains (numbers_from 0 (length ls)) j) (let z : 0 + n ≡ n = omega arith in z)
    (numbers_has 0 (length ls) n (slice_get_within ls n l e))

-- ---- statements

is_var_kind : (k : LocalKind) → is_var k ≡ true → k ≡ kind.Var
is_var_kind kind.Var e = refl
is_var_kind kind.Let e = cc
is_var_kind kind.Parameter e = cc

module _ (finals : List core.Local) where
  -- an action after locals that leaves others, all of which its scope has
  abbrev Leaves : List scopes.Local → List scopes.Local → List ℕ → core.Action → Type 0
  Leaves ls to scope x = Acted scope finals (length ls) (length to) x × Covers to (behind scope x)

  bind_done : (ls : List scopes.Local) (l : scopes.Local) (scope : List ℕ) (x : core.Expr) → Covers ls scope →
      Names scope x → Leaves ls (ls ++ l ∷ []) scope (core.bind (length ls) x)
  bind_done ls l scope x c h = (
    record { named = h; bound = numbers_bind ls l; assigned = λ k i. absurd (nowhere k i) },
    covers_push ls l scope
        c,
  )

  plain_done : (ls : List scopes.Local) (scope : List ℕ) (x : core.Action) → Covers ls scope → ActNames scope x →
      binding x ≡ [] → assigning x ≡ [] → behind scope x ≡ scope → Leaves ls ls scope x
  plain_done ls scope x c h b a same = (plain scope finals (length ls) x h b a, subst (Covers ls) (sym same) c)

  assign_done : {sc : Scope} {p : Place} {t : ValueType} {set : core.Expr → core.Action} (scope : List ℕ)
      (e : core.Expr) →
      Covers sc.locals scope → Become sc.locals finals → Assigns sc p t set → Names scope e →
      Leaves sc.locals sc.locals scope (set e)
  assign_done {sc = sc} scope e c b (assigns_local {x = x} {i = n} {l = l} is can h) g =
      let loc = subst (IsLocal sc.locals) is (meant_local sc x.text) in
      let f = b n l loc.0 in
      let at : IsVarAt finals n = (f.0, f.1, f.2 ∙ is_var_kind l.kind can) in (
        record {
          named = (local_in sc scope c x.text n l is, g);
          bound = (plain scope finals (length sc.locals) (core.print e) g refl refl).bound;
          assigned = λ k i. subst (IsVarAt finals) (only n k i) at;
        },
        c,
      )
  assign_done {sc = sc} scope e c b (assigns_global {i = i} is h) g =
      plain_done sc.locals scope (core.set_global (cell_of sc.decls i) e) c g refl refl refl
  assign_done {sc = sc} scope e c b (assigns_element {i = i} {a = a} {index = y} is h d) g =
      plain_done sc.locals scope (core.set_element (number_at sc.decls i (array a)) y e) c
      (expr_names sc scope c d, g) refl refl refl
  assign_done {sc = sc} scope e c b (assigns_field {x = x} {i = i} {k = k} {n = n} {l = l} {base = base} is at) g =
      plain_done sc.locals scope (core.set_field (local_path x.span.start i base) k n e) c
      (local_in sc scope c x.text i l is, g) refl refl refl

  -- a block's numbers, after which its locals are hidden
  hidden_numbers : (ls end : List scopes.Local) (bs : List ℕ) → numbers_from 0 (length ls)
      ++ bs ≡ numbers_from 0 (length end) →
      numbers_from 0 (length ls) ++ bs ≡ numbers_from 0 (length (hidden_from (length ls) end))
  hidden_numbers ls end bs e = e ∙ ap (numbers_from 0) (sym (hidden_length (length ls) end))

  mutual
    stmt_done : {sc : Scope} {s : Stmt} {start : ℕ} {action : core.Action} → TypesStmt sc s start action →
        (scope : List ℕ) → Covers sc.locals scope → Become (after sc s).locals finals →
        Leaves sc.locals (after sc s).locals scope action
    stmt_done {sc = sc} (types_let {l = l} {x = x} is g) scope c b =
        bind_done sc.locals (record
        { name = l.name.text; kind = kind.Let; value_type = type_of sc l.value_type; is_visible = true }) scope x c
        (value_names sc scope c g)
    stmt_done {sc = sc} (types_owned {l = l} {y = y} is g h) scope c b =
        bind_done sc.locals (record
        { name = l.name.text; kind = kind.Let; value_type = type_of sc l.value_type; is_visible = true }) scope y c
        (owner_names sc scope c h (value_names sc scope c g))
    stmt_done {sc = sc} (types_let_call {l = l} k is r) scope c b =
        let local : scopes.Local =
        record { name = l.name.text; kind = kind.Let; value_type = type_of sc l.value_type; is_visible = true } in (
          record {
            named = call_names sc scope c k;
            bound = numbers_bind sc.locals local;
            assigned =
                λ j i. absurd (nowhere j i);
          },
          covers_push sc.locals local scope c,
        )
    stmt_done {sc = sc} (types_var {l = l} {x = x} is g) scope c b =
        bind_done sc.locals (record
        { name = l.name.text; kind = kind.Var; value_type = type_of sc l.value_type; is_visible = true }) scope x c
        (value_names sc scope c g)
    stmt_done {sc = sc} (types_assign {x = x} h g) scope c b = assign_done scope x c b h (value_names sc scope c g)
    stmt_done {sc = sc} (types_if {body = body} {block = block} h k) scope c b =
        let end = (after_all sc body).locals in
        let d = body_done k scope c
        (become_before end (hidden_from (length sc.locals) end) finals (kept_hidden (length sc.locals) end) b) in (
          record {
            named = (expr_names sc scope c h, d.0.named);
            bound = hidden_numbers sc.locals end (all_binding block) d.0.bound;
            assigned = d.0.assigned;
          },
          covers_left sc.locals end scope (all_front sc body) c,
        )
    stmt_done {sc = sc} (types_if_else {body = body} {other = other} {block = block} {otherwise = otherwise} h k q)
        scope c b =
        let end = (after_all sc body).locals in
        let mid = hidden_from (length sc.locals) end in
        let sc2 = left sc (after_all sc body) in
        let end2 = (after_all sc2 other).locals in
        let c2 = covers_left sc.locals end scope (all_front sc body) c in
        let inner2 = become_before end2 (hidden_from (length mid) end2) finals (kept_hidden (length mid) end2) b in
        let b2 = become_before mid end2 finals (front_kept mid end2 (all_front sc2 other)) inner2 in
        let d = body_done k scope c (become_before end mid finals (kept_hidden (length sc.locals) end) b2) in
        let f = body_done q scope c2 inner2 in (
          record {
            named = (expr_names sc scope c h, d.0.named, f.0.named);
            bound = sym (append_assoc (numbers_from 0 (length sc.locals)) (all_binding block) (all_binding otherwise))
                ∙ ap (λ (l : List ℕ). l ++ all_binding otherwise)
                (hidden_numbers sc.locals end (all_binding block) d.0.bound)
                ∙ hidden_numbers mid end2 (all_binding otherwise) f.0.bound;
            assigned = λ j i. elim
                (Contains-append_cases (all_assigning block) (all_assigning otherwise) j i)
                [ inl x ↦ d.0.assigned j x | inr x ↦ f.0.assigned j x ];
          },
          covers_left mid end2 scope (all_front sc2 other) c2,
        )
    stmt_done {sc = sc} (types_while {body = body} {block = block} h k) scope c b =
        let end = (after_all sc body).locals in
        let d = body_done k scope c
        (become_before end (hidden_from (length sc.locals) end) finals (kept_hidden (length sc.locals) end) b) in (
          record {
            named = (expr_names sc scope c h, d.0.named);
            bound = hidden_numbers sc.locals end (all_binding block) d.0.bound;
            assigned = d.0.assigned;
          },
          covers_left sc.locals end scope (all_front sc body) c,
        )
    stmt_done {sc = sc} (types_print {x = x} h) scope c b =
        plain_done sc.locals scope (core.print x) c (expr_names sc scope c h) refl refl refl
    stmt_done {sc = sc} (types_call_alone {n = n} {xs = xs} k) scope c b =
        plain_done sc.locals scope (core.call n xs None) c (call_names sc scope c k) refl refl refl

    pub body_done : {sc : Scope} {ss : Stmts} {block : core.Stmts} {r : Option core.Return} → TypesBody sc ss block r →
        (scope : List ℕ) → Covers sc.locals scope → Become (after_all sc ss).locals finals →
        Done scope finals (length sc.locals) (length (after_all sc ss).locals) block × ReturnDone finals
        (behind_all scope block) r
    body_done {sc = sc} types_none scope c b = (nothing_done finals scope (length sc.locals), tt)
    body_done {sc = sc} (types_return g) scope c b =
        (nothing_done finals scope (length sc.locals), value_names sc scope c g)
    body_done {sc = sc} (types_next {s = s} {rest = rest} {start = start} {action = action} {stmts = stmts} h k) scope
        c b =
        let mid = (after sc s).locals in
        let to = (after_all (after sc s) rest).locals in
        let a = stmt_done h scope c (become_before mid to finals (front_kept mid to (all_front (after sc s) rest)) b) in
        let d = body_done k (behind scope action) a.1 b in
        (more_done finals scope (length sc.locals) (length mid) (length to) start action stmts a.0 d.0, d.1)
