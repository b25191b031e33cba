-- The code finds a `var` exactly if there is one, and writes the note on it.
use Rattle.std.proofs.Common.{◌≡◌, ◌∙◌, ◌⊎◌, inl, inr, ⊎_elim, ℕ, Bool, true, false, IsTrue, List, [], ◌∷◌, ◌++◌}
use Rattle.std.proofs.Common.{Option, Some, None, refl, sym, ap, subst, lt-ltb}
use Rattle.std.specs.Prelude.{◌||◌, nat_lt, if◌then◌else◌, slice_get}
use Rattle.std.specs.Str.{bytes_eq}
use Rattle.std.proofs.lemmas.Bool.{and_parts, and_from, both_ways, ltb-true, or_parts}
use Rattle.std.proofs.lemmas.Option.{same_Some}
use Rattle.std.proofs.lemmas.Slice.Eq.{bytes_eq-Decides}
use Rattle.explanation.specs.Notes.{Note}
use Rattle.resolution.specs.Scopes.{◌>>=◌}
use Rattle.resolution.specs.Where.{Has, first, further}
use Rattle.source.specs.Tokens.{Tok}
use Rattle.syntax.specs.Trees.{Ident, lone, element, path, Expr, Local, Stmt, let_local, let_owned, let_call}
use Rattle.syntax.specs.Trees.{var_local, assign, if_then, while, print, return_value, call, Section, Decl}
use Rattle.explanation_names.specs.FirstBy.{first_by}
use Rattle.explanation_names.specs.MissingReturns.{body_of}
use Rattle.explanation_names.specs.TokensThere.{token_at, name_of, has_two_fields}
use Rattle.explanation_names.specs.Vars.{all_of, Encloses, IsAssigned, IsIn, IsVar}
use Rattle.explanation_faults.specs.VarNotes.{IsVarNote, IsVarThere, needed}
use Rattle.explanation_faults.specs.VarNotes.{not_needed, var_note, fixed_note}
use Rattle.explanation_names.specs.Working.VarsFound.{assigns, encloses, section_if, section_there, some_assigns}
use Rattle.explanation_names.specs.Working.VarsFound.{var_in}
use Rattle.explanation_faults.specs.Working.VarsFound.{var_noted}
use Rattle.explanation_faults.proofs.FirstBy.{given_by, given_back}
use Rattle.explanation_faults.proofs.VarsNoted.{noted_by}

bind_if : {A B : Type 0} (o : Option A) (f : A → Option B) (y : B) → (o >>= f) ≡ Some y →
    (x : A) × (o ≡ Some x) × (f x ≡ Some y)
bind_if (Some x) f y is = (x, refl, is)
bind_if None f y is = absurd cc

some_if : {A : Type 0} (b : Bool) (x y : A) → (if b then Some x else None) ≡ Some y → (b ≡ true) × (x ≡ y)
some_if true x y is = (refl, same_Some x y is)
some_if false x y is = absurd cc

not_none : {A : Type 0} (o : Option A) (x : A) → o ≡ Some x → o ≡ None → ⊥
not_none o x is none = let e : Some x ≡ None = sym is ∙ none in cc

none_or : {A : Type 0} (o p : Option A) → o ≡ p → ((x : A) → o ≡ Some x → ⊥) → o ≡ None
none_or o (Some x) is never = absurd (never x is)
none_or o None is never = is

none_or_some : {A : Type 0} (o : Option A) → ((x : A) → o ≡ Some x → ⊥) → o ≡ None
none_or_some o never = none_or o o refl never

-- ---- sections

module _ (at : ℕ) where
  inside_if : (s : Section) → encloses at s ≡ true → Encloses at s
  inside_if s is =
      let both = and_parts (nat_lt s.name.span.start at) (nat_lt at s.body.close.start) is in
      (ltb-true s.name.span.start at both.0, ltb-true at s.body.close.start both.1)

  inside_so : (s : Section) → Encloses at s → encloses at s ≡ true
  inside_so s is =
      and_from (nat_lt s.name.span.start at) (nat_lt at s.body.close.start) (lt-ltb s.name.span.start at is.0) (lt-ltb at s.body.close.start is.1)

  section_of : (d : Decl) (s : Section) → section_if at d ≡ Some s → (body_of d ≡ Some s) × Encloses at s
  section_of d s is =
      let body = bind_if (body_of d) (λ (t : Section). if encloses at t then Some t else None) s is in
      let found = some_if (encloses at body.0) body.0 s body.2 in
      (body.1 ∙ ap (λ (t : Section). Some t) found.1, subst (Encloses at) found.1 (inside_if body.0 found.0))

  section_so : (d : Decl) (s : Section) → body_of d ≡ Some s → Encloses at s → section_if at d ≡ Some s
  section_so d s body is =
      ap (λ (o : Option Section). o >>= λ (t : Section). if encloses at t then Some t else None) body
      ∙ ap (λ (b : Bool). if b then Some s else None) (inside_so s is)

  pub is_in : (decls : List Decl) (s : Section) → section_there decls at ≡ Some s → IsIn decls at s
  is_in decls s is =
      let g = given_by (section_if at) decls s is in
      let found = section_of g.x s g.gives in
      record {
        before = g.before;
        decl = g.x;
        behind = g.behind;
        parts = g.parts;
        body = found.0;
        encloses = found.1;
        none = λ d t has body inside. not_none (section_if at d) t (section_so d t body inside) (g.none d has);
      }

  pub in_there : (decls : List Decl) (s : Section) → IsIn decls at s → section_there decls at ≡ Some s
  in_there decls s is =
      ap (first_by (section_if at)) is.parts
      ∙ given_back (section_if at) is.before is.decl is.behind s (section_so is.decl s is.body is.encloses)
      (λ d has. none_or_some (section_if at d) (λ t found. let of = section_of d t found in is.none d t has of.0 of.1))

-- ---- the var

module _ (q : List ℕ) where
  var_if : (st : Stmt) (x : Ident) → var_in q st ≡ Some x →
      (l : Local) × (st ≡ var_local l) × (q ≡ l.name.text) × (l.name ≡ x)
  var_if (var_local l) x is =
      let found = some_if (bytes_eq q l.name.text) l.name x is in (l, refl, (bytes_eq-Decides q l.name.text).0 found.0, found.1)
  var_if (let_local l) x is = absurd cc
  var_if (let_owned l o) x is = absurd cc
  var_if (let_call l) x is = absurd cc
  var_if (assign p e) x is = absurd cc
  var_if (if_then s e b c o) x is = absurd cc
  var_if (while s e b c) x is = absurd cc
  var_if (print s e) x is = absurd cc
  var_if (return_value s e) x is = absurd cc
  var_if (call s c) x is = absurd cc

  var_so : (l : Local) → q ≡ l.name.text → var_in q (var_local l) ≡ Some l.name
  var_so l is = ap (λ (b : Bool). if b then Some l.name else None) ((bytes_eq-Decides q l.name.text).1 is)

  is_var : (ss : List Stmt) (x : Ident) → first_by (var_in q) ss ≡ Some x → IsVar ss q x
  is_var ss x is =
      let g = given_by (var_in q) ss x is in
      let found = var_if g.x x g.gives in
      record {
        before = g.before;
        local = found.0;
        behind = g.behind;
        parts = g.parts ∙ ap (λ (st : Stmt). g.before ++ st ∷ g.behind) found.1;
        named = found.2;
        is = found.3;
        none = λ l has named. not_none (var_in q (var_local l)) l.name (var_so l named) (g.none (var_local l) has);
      }

  var_first : (ss : List Stmt) (x : Ident) → IsVar ss q x → first_by (var_in q) ss ≡ Some x
  var_first ss x is =
      ap (first_by (var_in q)) is.parts
      ∙ given_back (var_in q) is.before (var_local is.local) is.behind x (var_so is.local is.named ∙ ap (λ (y : Ident). Some y) is.is)
      (λ st has. none_or_some (var_in q st) (λ y found.
      let of = var_if st y found in
      is.none of.0 (subst (Has is.before) of.1 has) of.2))

  -- ---- assignments

  here_so : (st : Stmt) (ss : List Stmt) → IsAssigned ss q → IsAssigned (st ∷ ss) q
  here_so st ss is = record { place = is.place; value = is.value; listed = further is.listed; named = is.named }

  assigned_front : (st : Stmt) (ss : List Stmt) → assigns q st ≡ true → IsAssigned (st ∷ ss) q
  assigned_front (assign (lone x) e) ss is = record { place = x; value = e; listed = first; named = (bytes_eq-Decides q x.text).0 is }
  assigned_front (assign (element x i) e) ss is = absurd cc
  assigned_front (assign (path x fs) e) ss is = absurd cc
  assigned_front (let_local l) ss is = absurd cc
  assigned_front (let_owned l o) ss is = absurd cc
  assigned_front (let_call l) ss is = absurd cc
  assigned_front (var_local l) ss is = absurd cc
  assigned_front (if_then s e b c o) ss is = absurd cc
  assigned_front (while s e b c) ss is = absurd cc
  assigned_front (print s e) ss is = absurd cc
  assigned_front (return_value s e) ss is = absurd cc
  assigned_front (call s c) ss is = absurd cc

  assigned_by : (st : Stmt) (ss : List Stmt) (b : Bool) → assigns q st ≡ b → b || some_assigns q ss ≡ true →
      (some_assigns q ss ≡ true → IsAssigned ss q) →
      IsAssigned (st ∷ ss) q
  assigned_by st ss true here is rest = assigned_front st ss here
  assigned_by st ss false here is rest = here_so st ss (rest is)

  assigned_if : (ss : List Stmt) → some_assigns q ss ≡ true → IsAssigned ss q
  assigned_if [] is = absurd cc
  assigned_if (st ∷ ss) is = assigned_by st ss (assigns q st) refl is (assigned_if ss)

  or_here : (a b : Bool) → a ≡ true → a || b ≡ true
  or_here true b e = refl
  or_here false b e = absurd cc

  or_there : (a b : Bool) → b ≡ true → a || b ≡ true
  or_there true b e = refl
  or_there false b e = e

  assigned_at : (x : Ident) (e : Expr) (ss : List Stmt) → Has ss (assign (lone x) e) → q ≡ x.text →
      some_assigns q ss ≡ true
  assigned_at x e [] has is = elim has [ ]
  assigned_at x e (st ∷ ss) first is = or_here (bytes_eq q x.text) (some_assigns q ss) ((bytes_eq-Decides q x.text).1 is)
  assigned_at x e (st ∷ ss) (further has) is = or_there (assigns q st) (some_assigns q ss) (assigned_at x e ss has is)

  assigned_so : (ss : List Stmt) → IsAssigned ss q → some_assigns q ss ≡ true
  assigned_so ss is = assigned_at is.place is.value ss is.listed is.named

-- ---- the note

or_either : (a b : Bool) → a || b ≡ true → (a ≡ true) ⊎ (b ≡ true)
or_either true b e = inl refl
or_either false b e = inr e

module _ (tokens : List Tok) (decls : List Decl) (at : ℕ) where
  by_need : (x : Ident) (v : IsVarThere tokens decls at x) (b : Bool) (note : Note) →
      has_two_fields v.i tokens || some_assigns v.q (all_of v.section.body.stmts) ≡ b → (if b then var_note x else fixed_note x) ≡ note → IsVarNote tokens decls at note
  by_need x v true note is said =
      let ss = all_of v.section.body.stmts in
      subst (IsVarNote tokens decls at) said (needed v
      (⊎_elim (λ (long : has_two_fields v.i tokens ≡ true). inl long) (λ (so : some_assigns v.q ss ≡ true). inr (assigned_if v.q ss so))
      (or_either (has_two_fields v.i tokens) (some_assigns v.q ss) is)))
  by_need x v false note is said =
      let ss = all_of v.section.body.stmts in
      let neither = or_parts (has_two_fields v.i tokens) (some_assigns v.q ss) is in
      subst (IsVarNote tokens decls at) said (not_needed v
      (λ need. ⊎_elim (λ (long : IsTrue (has_two_fields v.i tokens)). both_ways (has_two_fields v.i tokens) neither.0 long)
      (λ (so : IsAssigned ss v.q). both_ways (some_assigns v.q ss) neither.1 (assigned_so v.q ss so)) need))

  pub is_var_note : (note : Note) → var_noted tokens decls at ≡ Some note → IsVarNote tokens decls at note
  is_var_note note is =
      let token = bind_if (token_at at tokens) _ note is in
      let named = bind_if (name_of (slice_get tokens token.0)) _ note token.2 in
      let there = bind_if (section_there decls at) _ note named.2 in
      let var = bind_if (first_by (var_in named.0) (all_of there.0.body.stmts)) _ note there.2 in
      let v : IsVarThere tokens decls at var.0 = record {
        i = token.0;
        q = named.0;
        section = there.0;
        token = token.1;
        named = named.1;
        inside = is_in at decls there.0 there.1;
        is_var = is_var named.0 (all_of there.0.body.stmts) var.0 var.1;
      } in
      by_need var.0 v (has_two_fields token.0 tokens || some_assigns named.0 (all_of there.0.body.stmts)) note refl (same_Some _ note var.2)

  pub var_is_noted : (x : Ident) → IsVarThere tokens decls at x →
      (note : Note) × (var_noted tokens decls at ≡ Some note)
  var_is_noted x v =
      let ss = all_of v.section.body.stmts in
      let long = has_two_fields v.i tokens in (
        if long || some_assigns v.q ss then var_note x else fixed_note x,
        noted_by tokens decls at v.i v.q v.section (sym v.token) (sym v.named) (sym (in_there at decls v.section v.inside))
            ∙ ap (λ (o : Option Ident). o >>= λ (y : Ident). Some (if long || some_assigns v.q ss then var_note y else fixed_note y)) (var_first v.q ss x v.is_var),
      )

  pub no_var_there : var_noted tokens decls at ≡ None → (x : Ident) → IsVarThere tokens decls at x → ⊥
  no_var_there none x v = let found = var_is_noted x v in not_none (var_noted tokens decls at) found.0 found.1 none
