-- The names of the locals in scope are those that come earlier in the text.
use Rattle.std.proofs.Common.{◌≡◌, ◌∙◌, ℕ, zero, suc, true, List, [], ◌∷◌, ◌++◌, length, map, refl, sym, ap}
use Rattle.std.proofs.Common.{append_assoc}
use Rattle.std.proofs.lemmas.List.{map-append, append-nil}
use Rattle.syntax.specs.Trees.{Ident, Stmt, let_local, let_owned, let_call, var_local, assign, if_then, while, print}
use Rattle.syntax.specs.Trees.{return_value, call, Stmts, no_stmts, stmt, Otherwise, no_else, else_do, Param, Section}
use Rattle.syntax.specs.Trees.{Decl, atomic, helper}
use Rattle.resolution.specs.declared.body_limits.BodyLimits.{BodyLimits}
use Rattle.resolution.specs.Statements.{ahead_of, entry}
use Rattle.resolution.specs.Scopes as scopes
use Rattle.resolution.specs.Scopes.{Scope, outside, type_of, has_body, bound, entered, hidden_from, left}
use Rattle.core_lang.specs.declared.tree.LocalKind.TheVariants.{Parameter}
use Rattle.resolution.specs.Statements.{after, after_else, after_all}
use Rattle.resolution.specs.Where.{Has, HasBody, of_section, of_helper, HasStmt, in_body, Among, here, later, in_then}
use Rattle.resolution.specs.Where.{in_else, in_while, Binds, parameter, a_let, an_owned_let, a_called_let, a_var}
use Rattle.explanation_names.specs.NameSpaces.{bound_names, names_in_else, names_among, local_names, inner_names}

abbrev Texts : Type 0
Texts = List (List ℕ)

abbrev pub texts : List Ident → List (List ℕ)
texts xs = map (λ (x : Ident). x.text) xs

abbrev pub named : List scopes.Local → List (List ℕ)
named ls = map (λ (l : scopes.Local). l.name) ls

two : (xs ys : List Ident) → texts (xs ++ ys) ≡ texts xs ++ texts ys
two xs ys = map-append (λ (x : Ident). x.text) xs ys

hidden_named : (n : ℕ) (ls : List scopes.Local) → named (hidden_from n ls) ≡ named ls
hidden_named n [] = refl
hidden_named zero (l ∷ ls) = ap (λ r. l.name ∷ r) (hidden_named zero ls)
hidden_named (suc n) (l ∷ ls) = ap (λ r. l.name ∷ r) (hidden_named n ls)

left_named : (sc end : Scope) → named (left sc end).locals ≡ named end.locals
left_named sc end = hidden_named (length sc.locals) end.locals

one_named : (sc : Scope) (l : scopes.Local) → named (sc.locals ++ l ∷ []) ≡ named sc.locals ++ l.name ∷ []
one_named sc l = map-append (λ (x : scopes.Local). x.name) sc.locals (l ∷ [])

-- the names of `xs` and `ys`, appended in turn, are the names of `xs ++ ys`
joined : (a b c : Texts) (xs ys : List Ident) → b ≡ a ++ texts xs → c ≡ b ++ texts ys → c ≡ a ++ texts (xs ++ ys)
joined a b c xs ys e f = f ∙ ap (λ l. l ++ texts ys) e ∙ append_assoc a (texts xs) (texts ys) ∙ ap (λ l. a ++ l) (sym (two xs ys))

mutual
  pub after_named : (sc : Scope) (s : Stmt) → named (after sc s).locals ≡ named sc.locals ++ texts (bound_names s)
  after_named sc (let_local l) = one_named sc _
  after_named sc (let_owned l o) = one_named sc _
  after_named sc (let_call l) = one_named sc _
  after_named sc (var_local l) = one_named sc _
  after_named sc (assign p e) = sym (append-nil (named sc.locals))
  after_named sc (if_then start e body close other) =
      joined (named sc.locals) (named (left sc (after_all sc body)).locals) (named (after_else (left sc (after_all sc body)) other).locals)
      (names_among body) (names_in_else other)
      (left_named sc (after_all sc body) ∙ all_named sc body) (else_named (left sc (after_all sc body)) other)
  after_named sc (while start e body close) = left_named sc (after_all sc body) ∙ all_named sc body
  after_named sc (print start e) = sym (append-nil (named sc.locals))
  after_named sc (return_value start e) = sym (append-nil (named sc.locals))
  after_named sc (call start c) = sym (append-nil (named sc.locals))

  else_named : (sc : Scope) (o : Otherwise) →
      named (after_else sc o).locals ≡ named sc.locals ++ texts (names_in_else o)
  else_named sc no_else = sym (append-nil (named sc.locals))
  else_named sc (else_do body close) = left_named sc (after_all sc body) ∙ all_named sc body

  pub all_named : (sc : Scope) (ss : Stmts) → named (after_all sc ss).locals ≡ named sc.locals ++ texts (names_among ss)
  all_named sc no_stmts = sym (append-nil (named sc.locals))
  all_named sc (stmt s rest) =
      joined (named sc.locals) (named (after sc s).locals) (named (after_all (after sc s) rest).locals) (bound_names s) (names_among rest)
      (after_named sc s) (all_named (after sc s) rest)

-- ---- a statement among others

-- `names` has `part` after `before`; the locals at `part` are `first` and those named in `before`
pub record Ahead (names part : List Ident) (first there : Texts) : Type 0 where
  pub before : List Ident
  pub behind : List Ident
  pub parts : names ≡ before ++ (part ++ behind)
  pub named : there ≡ first ++ texts before

behind_some : (names part some : List Ident) (a b c : Texts) → b ≡ a ++ texts some → Ahead names part b c →
    Ahead (some ++ names) part a c
behind_some names part some a b c e x = record {
  before = some ++ x.before;
  behind = x.behind;
  parts = ap (λ l. some ++ l) x.parts ∙ sym (append_assoc some x.before (part ++ x.behind));
  named = joined a b c some x.before e x.named;
}

ahead_of_some : (names part some : List Ident) (a c : Texts) → Ahead names part a c → Ahead (names ++ some) part a c
ahead_of_some names part some a c x = record {
  before = x.before;
  behind = x.behind ++ some;
  parts = ap (λ l. l ++ some) x.parts ∙ append_assoc x.before (part ++ x.behind) some ∙ ap (λ l. x.before ++ l) (append_assoc part x.behind some);
  named = x.named;
}

pub among_named : {sc sc' : Scope} {ss : Stmts} {s : Stmt} → Among sc ss sc' s →
    Ahead (names_among ss) (bound_names s) (named sc.locals) (named sc'.locals)
among_named {sc = sc} {ss = stmt s rest} here = record {
  before = [];
  behind = names_among rest;
  parts = refl;
  named = sym (append-nil (named sc.locals));
}
among_named {sc = sc} {sc' = sc'} {s = s'} (later {s = s} {rest = rest} h) =
    behind_some (names_among rest) (bound_names s') (bound_names s) (named sc.locals) (named (after sc s).locals) (named sc'.locals)
    (after_named sc s) (among_named h)
among_named {sc = sc} {sc' = sc'} {s = s'} (in_then {body = body} {rest = rest} {other = other} h) =
    ahead_of_some (names_among body ++ names_in_else other) (bound_names s') (names_among rest) (named sc.locals) (named sc'.locals)
    (ahead_of_some (names_among body) (bound_names s') (names_in_else other) (named sc.locals) (named sc'.locals) (among_named h))
among_named {sc = sc} {sc' = sc'} {s = s'} (in_else {body = body} {other = other} {rest = rest} h) =
    ahead_of_some (names_among body ++ names_among other) (bound_names s') (names_among rest) (named sc.locals) (named sc'.locals)
    (behind_some (names_among other) (bound_names s') (names_among body) (named sc.locals) (named (left sc (after_all sc body)).locals) (named sc'.locals)
    (left_named sc (after_all sc body) ∙ all_named sc body) (among_named h))
among_named {sc = sc} {sc' = sc'} {s = s'} (in_while {body = body} {rest = rest} h) =
    ahead_of_some (names_among body) (bound_names s') (names_among rest) (named sc.locals) (named sc'.locals) (among_named h)

-- ---- sections and helpers

abbrev pub params_named : List Param → List Ident
params_named ps = map (λ (p : Param). p.name) ps

entered_named : (sc : Scope) (ps : List Param) →
    named (entered sc ps).locals ≡ named sc.locals ++ texts (params_named ps)
entered_named sc [] = sym (append-nil (named sc.locals))
entered_named sc (p ∷ ps) =
    let next = bound sc Parameter p.name (type_of (outside sc.decls) p.value_type) in
    joined (named sc.locals) (named next.locals) (named (entered next ps).locals) (p.name ∷ []) (params_named ps)
    (one_named sc _) (entered_named next ps)

-- the local `x` is declared in some declaration, after the locals in scope
pub record IsLocal (decls : List Decl) (sc : Scope) (x : Ident) : Type 0 where
  pub decl : Decl
  pub has : Has decls decl
  pub body : has_body decl ≡ true
  pub ahead : Ahead (inner_names decl) (x ∷ []) [] (named sc.locals)

of_body : {decls : List Decl} {limits : BodyLimits} {s : Section} (sc : Scope) (x : Ident) → HasBody decls limits s →
    Ahead (local_names s) (x ∷ []) [] (named sc.locals) → IsLocal decls sc x
of_body sc x (of_section h) a = record { decl = atomic _; has = h; body = refl; ahead = a }
of_body sc x (of_helper h) a = record { decl = helper _; has = h; body = refl; ahead = a }

stmt_bound : {decls : List Decl} (sc : Scope) (s : Stmt) (x : Ident) → bound_names s ≡ x ∷ [] → HasStmt decls sc s →
    IsLocal decls sc x
stmt_bound {decls = decls} sc s x is (in_body {limits = limits} {x = section} body among) =
    of_body sc x body
    (behind_some (names_among section.body.stmts) (x ∷ []) (params_named section.params) [] (named (entry decls limits section).locals) (named sc.locals)
    (entered_named (ahead_of decls limits section) section.params)
    (rw is at (among_named among)))

pub bound_local : (decls : List Decl) (sc : Scope) (x : Ident) → Binds decls sc x → IsLocal decls sc x
bound_local decls sc x (parameter {limits = limits} {x = section} p before behind body parts) =
    of_body _ _ body (record {
      before = params_named before;
      behind = params_named behind ++ names_among section.body.stmts;
      parts = ap (λ ps. params_named ps ++ names_among section.body.stmts) parts
          ∙ ap (λ l. l ++ names_among section.body.stmts) (map-append (λ (p : Param). p.name) before (p ∷ behind))
          ∙ append_assoc (params_named before) (p.name ∷ params_named behind) (names_among section.body.stmts);
      named = entered_named (ahead_of decls limits section) before;
    })
bound_local decls sc x (a_let h) = stmt_bound sc _ x refl h
bound_local decls sc x (an_owned_let h) = stmt_bound sc _ x refl h
bound_local decls sc x (a_called_let h) = stmt_bound sc _ x refl h
bound_local decls sc x (a_var h) = stmt_bound sc _ x refl h
