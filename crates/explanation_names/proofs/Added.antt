-- The names that are found, name by name and use by use.
use Rattle.std.proofs.Common.{◌≡◌, ℕ, ◌<◌, ◌≤◌, ◌+◌, List, [], ◌∷◌, ◌++◌, Bool, true, false, length, get_or, drop}
use Rattle.std.proofs.Common.{map, refl, sym, ap, ◌∙◌, append_assoc, subst, Option, Some, None, Vec, Global}
use Rattle.std.specs.List.{cons_option, filter_map}
use Rattle.std.specs.Prelude.{not, if◌then◌else◌}
use Rattle.std.proofs.lemmas.List.{append-nil, at_drop_more, at_drop_all, map-append}
use Rattle.std.proofs.lemmas.List.Concat.{flat_map-append}
use denote.Ref.{Bor}
use Rattle.syntax.specs.declared.tree.Name.{Name}
use Rattle.syntax.specs.Trees.{Ident}
use Rattle.syntax.specs.declared.tree.Param as the_param
use Rattle.syntax.specs.declared.tree.Stmt as the_stmt
use Rattle.syntax.specs.Views.{param_of, stmt_of, stmts_of}
use Rattle.explanation_names.specs.declared.found.FoundNames.{FoundNames}
use Rattle.explanation_names.specs.declared.search.LocalInScope as the_local
use Rattle.explanation_names.specs.declared.search.NameSearch.{NameSearch}
use Rattle.explanation_names.specs.Working.Found.{meant_by}
use Rattle.explanation_names.specs.Locals.{LocalInScope, declared_by, param_in_scope}
use Rattle.explanation_names.specs.Sought.{Use}
use Rattle.explanation_names.specs.Working.UsesFound.{all_declared, uses_by, uses_in_blocks, uses_in_stmts}
use Rattle.explanation_names.specs.Working.Values.{Adds, Binds, Says, decls_at, ident_at, idents, meant_for}
use Rattle.explanation_names.specs.Working.Values.{option_list, typed_seen}

pub nothing_added : (p : FoundNames) → Adds p p []
nothing_added p = record { unrefused = λ ok. ok; names = λ ok. sym (append-nil (idents p.names.items)) }

-- some names, and others after them
pub followed_by : {p q r : FoundNames} {x y : List Ident} → Adds p q x → Adds q r y → Adds p r (x ++ y)
followed_by {p = p} {x = x} {y = y} a b = record {
  unrefused = λ ok. a.unrefused (b.unrefused ok);
  names = λ ok. b.names ok ∙ ap (λ (l : List Ident). l ++ y) (a.names (b.unrefused ok)) ∙ append_assoc (idents p.names.items) x y;
}

pub spelled : {p q : FoundNames} {x y : List Ident} → x ≡ y → Adds p q x → Adds p q y
spelled {p = p} {q = q} e a = subst (Adds p q) e a

-- The invariant of a loop: the names found since it began, and those in the rest, are the whole.
pub record Leads (first here : FoundNames) (rest whole : List Ident) : Type 0 where
  pub unrefused : here.is_refused ≡ false → first.is_refused ≡ false
  pub names : here.is_refused ≡ false → idents here.names.items ++ rest ≡ idents first.names.items ++ whole

pub at_first : (p : FoundNames) (whole : List Ident) → Leads p p whole whole
at_first p whole = record { unrefused = λ ok. ok; names = λ ok. refl }

pub one_further : {p q r : FoundNames} {x rest whole : List Ident} → Leads p q (x ++ rest) whole → Adds q r x →
    Leads p r rest whole
one_further {q = q} {x = x} {rest = rest} l a = record {
  unrefused = λ ok. l.unrefused (a.unrefused ok);
  names = λ ok. ap (λ (s : List Ident). s ++ rest) (a.names ok) ∙ append_assoc (idents q.names.items) x rest ∙ l.names (a.unrefused ok);
}

pub at_last : {p q : FoundNames} {whole : List Ident} → Leads p q [] whole → Adds p q whole
at_last {q = q} l = record {
  unrefused = l.unrefused;
  names = λ ok. sym (append-nil (idents q.names.items)) ∙ l.names ok;
}

-- `rest` gives what is found in a list's rest, and `behind` what is found after an item: one item further
pub item_then : {B : Type 0} {p q r : FoundNames} {piece whole : List Ident} (rest behind : List B →
    List Ident) (xs : List B) (i : ℕ) (x : B)
    → i < length xs → x ≡ get_or xs i x → rest (x ∷ drop (i + 1) xs) ≡ piece ++ behind (drop (i + 1) xs)
    → Leads p q (rest (drop i xs)) whole → Adds q r piece → Leads p r (behind (drop (i + 1) xs)) whole
item_then {p = p} {q = q} {whole = whole} rest behind xs i x below is begins l a =
    let here = at_drop_more rest xs i x below ∙ ap (λ y. rest (y ∷ drop (i + 1) xs)) (sym is) ∙ begins in
    one_further (subst (λ (s : List Ident). Leads p q s whole) here l) a

pub item_added : {B : Type 0} {p q r : FoundNames} {piece whole : List Ident} (rest : List B →
    List Ident) (xs : List B) (i : ℕ) (x : B)
    → i < length xs → x ≡ get_or xs i x → rest (x ∷ drop (i + 1) xs) ≡ piece ++ rest (drop (i + 1) xs)
    → Leads p q (rest (drop i xs)) whole → Adds q r piece → Leads p r (rest (drop (i + 1) xs)) whole
item_added rest xs i x below is begins l a = item_then rest rest xs i x below is begins l a

-- the end of such a loop
pub all_added : {B : Type 0} {p q : FoundNames} {whole : List Ident} (rest : List B → List Ident) (xs : List B) (i : ℕ)
    → length xs ≤ i → rest [] ≡ [] → Leads p q (rest (drop i xs)) whole → Adds p q whole
all_added {p = p} {q = q} {whole = whole} rest xs i above none l =
    at_last (subst (λ (s : List Ident). Leads p q s whole) (at_drop_all rest xs i above ∙ none) l)

-- ---- one name

-- after a failed allocation no further name is added
pub refused_before : (p : FoundNames) (names : List Ident) → p.is_refused ≡ true → Adds p p names
refused_before p names refused = record { unrefused = λ ok. ok; names = λ ok. absurd cc }

pub tried : {p q : FoundNames} {went_well : Bool} (name : Bor Name) → p.is_refused ≡ false → went_well ≡ not q.is_refused
    → q.names.items ≡ (if went_well then p.names.items ++ name ∷ [] else p.names.items) → Adds p q (ident_at name ∷ [])
tried {p = p} {q = q} name fresh well e = record {
  unrefused = λ ok. fresh;
  names = λ ok.
      let pushed : q.names.items ≡ p.names.items ++ name ∷ [] = rw (well, ok) at e in
      ap idents pushed ∙ map-append ident_at p.names.items (name ∷ []);
}

-- a list with the item of an option in front
pub some_ahead : {A : Type 0} (o : Option A) (rest : List A) → cons_option o rest ≡ option_list o ++ rest
some_ahead (Some x) rest = refl
some_ahead None rest = refl

-- a function that finds at most one name in each item: one item further, and the end
pub name_added : {A B : Type 0} {p q r : FoundNames} {whole : List Ident} (f : A → Option Ident) (view : B →
    A) (xs : List B) (i : ℕ) (x : B) (o : Option Ident)
    → i < length xs → x ≡ get_or xs i x → o ≡ f (view x) → Leads p q (filter_map f (map view (drop i xs))) whole → Adds q r (option_list o)
    → Leads p r (filter_map f (map view (drop (i + 1) xs))) whole
name_added f view xs i x o below is given l a =
    item_added (λ ys. filter_map f (map view ys)) xs i x below is
    (ap (λ (z : Option Ident). cons_option z (filter_map f (map view (drop (i + 1) xs)))) (sym given) ∙ some_ahead o (filter_map f (map view (drop (i + 1) xs)))) l a

pub all_named : {A B : Type 0} {p q : FoundNames} {whole : List Ident} (f : A → Option Ident) (view : B →
    A) (xs : List B) (i : ℕ)
    → length xs ≤ i → Leads p q (filter_map f (map view (drop i xs))) whole → Adds p q whole
all_named f view xs i above = all_added (λ ys. filter_map f (map view ys)) xs i above refl

-- names that are added to none are the whole
pub all_there : {p q : FoundNames} {names : List Ident} → p.names.items ≡ [] → Adds p q names → q.is_refused ≡ false →
    idents q.names.items ≡ names
all_there {names = names} none a ok = a.names ok ∙ ap (λ (xs : List (Bor Name)). idents xs ++ names) none

-- ---- uses of names

pub nothing_said : (s : NameSearch) (p : FoundNames) → Says s p p []
nothing_said s p = record { found = nothing_added p }

pub both : {s : NameSearch} {p q r : FoundNames} {us vs : List Use} → Says s p q us → Says s q r vs → Says s p r (us ++ vs)
both {s = s} {us = us} {vs = vs} a b = record { found = spelled (sym (flat_map-append (meant_by (decls_at s) s.at) us vs)) (followed_by a.found b.found) }

pub said_as : {s : NameSearch} {p q : FoundNames} {us vs : List Use} → us ≡ vs → Says s p q us → Says s p q vs
said_as {s = s} {p = p} {q = q} e a = subst (Says s p q) e a

pub one_use : (s : NameSearch) {p q : FoundNames} (u : Use) → Adds p q (meant_by (decls_at s) s.at u) → Says s p q (u ∷ [])
one_use s u a = record { found = spelled (sym (append-nil (meant_by (decls_at s) s.at u))) a }

-- the invariant of a loop: the names meant by the uses so far, and by those in the rest, are the whole
pub record Tells (s : NameSearch) (first here : FoundNames) (rest whole : List Use) : Type 0 where
  pub leads : Leads first here (meant_for s rest) (meant_for s whole)

pub tells_first : (s : NameSearch) (p : FoundNames) (whole : List Use) → Tells s p p whole whole
tells_first s p whole = record { leads = at_first p (meant_for s whole) }

pub told_further : {s : NameSearch} {p q r : FoundNames} {us rest whole : List Use} → Tells s p q (us ++ rest) whole →
    Says s q r us → Tells s p r rest whole
told_further {s = s} {p = p} {q = q} {us = us} {rest = rest} {whole = whole} l a = record {
  leads = one_further (subst (λ (xs : List Ident). Leads p q xs (meant_for s whole)) (flat_map-append (meant_by (decls_at s) s.at) us rest) l.leads) a.found;
}

-- `rest` gives the uses in a list's rest, and `behind` those after an item: one item further
pub item_said_then : {B : Type 0} {s : NameSearch} {p q r : FoundNames} {piece whole : List Use} (rest behind : List B →
    List Use) (xs : List B) (i : ℕ) (x : B)
    → i < length xs → x ≡ get_or xs i x → rest (x ∷ drop (i + 1) xs) ≡ piece ++ behind (drop (i + 1) xs)
    → Tells s p q (rest (drop i xs)) whole → Says s q r piece → Tells s p r (behind (drop (i + 1) xs)) whole
item_said_then {s = s} {p = p} {q = q} {whole = whole} rest behind xs i x below is begins l a =
    let here = at_drop_more rest xs i x below ∙ ap (λ y. rest (y ∷ drop (i + 1) xs)) (sym is) ∙ begins in
    told_further (subst (λ (us : List Use). Tells s p q us whole) here l) a

pub item_said : {B : Type 0} {s : NameSearch} {p q r : FoundNames} {piece whole : List Use} (rest : List B →
    List Use) (xs : List B) (i : ℕ) (x : B)
    → i < length xs → x ≡ get_or xs i x → rest (x ∷ drop (i + 1) xs) ≡ piece ++ rest (drop (i + 1) xs)
    → Tells s p q (rest (drop i xs)) whole → Says s q r piece → Tells s p r (rest (drop (i + 1) xs)) whole
item_said rest xs i x below is begins l a = item_said_then rest rest xs i x below is begins l a

pub all_said : {B : Type 0} {s : NameSearch} {p q : FoundNames} {whole : List Use} (rest : List B →
    List Use) (xs : List B) (i : ℕ)
    → length xs ≤ i → rest [] ≡ [] → Tells s p q (rest (drop i xs)) whole → Says s p q whole
all_said {s = s} {p = p} {q = q} {whole = whole} rest xs i above none l = record {
  found = at_last (subst (λ (us : List Ident). Leads p q us (meant_for s whole)) (ap (meant_for s) (at_drop_all rest xs i above ∙ none)) l.leads);
}

-- ---- with locals that come into scope

-- the same uses, if no allocation failed before them
pub said_when : {s : NameSearch} {q r : FoundNames} {us vs : List Use} → (q.is_refused ≡ false → us ≡ vs) → Says s q r us →
    Says s q r vs
said_when {s = s} {q = q} e a = record {
  found = record {
    unrefused = a.found.unrefused;
    names = λ ok. a.found.names ok ∙ ap (λ (ws : List Use). idents q.names.items ++ meant_for s ws) (e (a.found.unrefused ok));
  };
}

pub told_when : {s : NameSearch} {p q : FoundNames} {us vs whole : List Use} → (q.is_refused ≡ false → us ≡ vs) →
    Tells s p q us whole → Tells s p q vs whole
told_when {s = s} {q = q} e l = record {
  leads = record {
    unrefused = l.leads.unrefused;
    names = λ ok. ap (λ (ws : List Use). idents q.names.items ++ meant_for s ws) (sym (e ok)) ∙ l.leads.names ok;
  };
}

pub after_binding : {a b : Vec the_local.LocalInScope Global} {s : NameSearch} {p q r : FoundNames} {us : List Use} {xs : List LocalInScope} → Says s p q us → Binds a b q r xs → Says s p r us
after_binding {s = s} {us = us} says binds = record { found = spelled (append-nil (meant_for s us)) (followed_by says.found binds.adds) }

-- one statement further
module _ (s : NameSearch) {q r t u : FoundNames} {b d : Vec the_local.LocalInScope Global} (ss : List the_stmt.Stmt) (i : ℕ) (x : the_stmt.Stmt) (xs o : List LocalInScope)
    (below : i < length ss) (is : x ≡ get_or ss i x) (declares : o ≡ declared_by (stmt_of x))
    (own : Says s q r (uses_by xs (stmt_of x))) (inner : Says s r t (uses_in_blocks xs (stmt_of x))) (keeps : t.is_refused ≡ false → typed_seen b.items ≡ xs)
    (binds : Binds b d t u o) where
  grown : u.is_refused ≡ false → typed_seen d.items ≡ xs ++ declared_by (stmt_of x)
  grown ok = binds.scope ok ∙ ap (λ (ys : List LocalInScope). ys ++ o) (keeps (binds.adds.unrefused ok)) ∙ ap (λ (ys : List LocalInScope). xs ++ ys) declares

  pub stmt_said : {p : FoundNames} {whole : List Use} → Tells s p q (uses_in_stmts xs (stmts_of (drop i ss))) whole →
      Tells s p u (uses_in_stmts (typed_seen d.items) (stmts_of (drop (i + 1) ss))) whole
  stmt_said l =
      told_when (λ ok. ap (λ (ys : List LocalInScope). uses_in_stmts ys (stmts_of (drop (i + 1) ss))) (sym (grown ok)))
      (item_said_then (λ l. uses_in_stmts xs (stmts_of l)) (λ l. uses_in_stmts (xs ++ declared_by (stmt_of x)) (stmts_of l)) ss i x below is refl l (after_binding (both own inner) binds))

  pub stmt_grown : {whole : List LocalInScope} →
      (q.is_refused ≡ false → xs ++ all_declared (stmts_of (drop i ss)) ≡ whole) →
      u.is_refused ≡ false → typed_seen d.items ++ all_declared (stmts_of (drop (i + 1) ss)) ≡ whole
  stmt_grown so_far ok =
      ap (λ (ys : List LocalInScope). ys ++ all_declared (stmts_of (drop (i + 1) ss))) (grown ok)
      ∙ append_assoc xs (declared_by (stmt_of x)) (all_declared (stmts_of (drop (i + 1) ss)))
      ∙ ap (λ (y : the_stmt.Stmt). xs ++ (declared_by (stmt_of y) ++ all_declared (stmts_of (drop (i + 1) ss)))) is
      ∙ sym (at_drop_more (λ l. xs ++ all_declared (stmts_of l)) ss i x below)
      ∙ so_far (own.found.unrefused (inner.found.unrefused (binds.adds.unrefused ok)))

-- the invariant of a loop over parameters: the locals in scope and the remaining parameters are all, and no name is
-- found
pub record Binding (a b : Vec the_local.LocalInScope Global) (first here : FoundNames) (rest whole : List LocalInScope) : Type 0 where
  pub leads : Leads first here [] []
  pub scope : here.is_refused ≡ false → typed_seen b.items ++ rest ≡ typed_seen a.items ++ whole

pub binds_first : (a : Vec the_local.LocalInScope Global) (p : FoundNames) (whole : List LocalInScope) →
    Binding a a p p whole whole
binds_first a p whole = record { leads = at_first p []; scope = λ ok. refl }

-- one parameter further
pub param_bound : {p q r : FoundNames} {a b d : Vec the_local.LocalInScope Global} (ps : List the_param.Param) (i : ℕ) (x : the_param.Param) (o : List LocalInScope)
    → i < length ps → x ≡ get_or ps i x → o ≡ param_in_scope (param_of x) ∷ []
    → Binding a b p q (map param_in_scope (map param_of (drop i ps))) (map param_in_scope (map param_of ps)) → Binds b d q r o
    → Binding a d p r (map param_in_scope (map param_of (drop (i + 1) ps))) (map param_in_scope (map param_of ps))
param_bound {b = b} {d = d} ps i x o below is one l binds = record {
  leads = one_further l.leads binds.adds;
  scope = λ ok.
      ap (λ (ys : List LocalInScope). ys ++ map param_in_scope (map param_of (drop (i + 1) ps))) (binds.scope ok ∙ ap (λ (ys : List LocalInScope). typed_seen b.items ++ ys) one)
      ∙ append_assoc (typed_seen b.items) (param_in_scope (param_of x) ∷ []) (map param_in_scope (map param_of (drop (i + 1) ps)))
      ∙ ap (λ (y : the_param.Param). typed_seen b.items ++ (param_in_scope (param_of y) ∷ map param_in_scope (map param_of (drop (i + 1) ps)))) is
      ∙ sym (at_drop_more (λ l. typed_seen b.items ++ map param_in_scope (map param_of l)) ps i x below)
      ∙ l.scope (binds.adds.unrefused ok);
}

pub all_bound : {p q : FoundNames} {a b : Vec the_local.LocalInScope Global} (ps : List the_param.Param) (i : ℕ) →
    length ps ≤ i
    → Binding a b p q (map param_in_scope (map param_of (drop i ps))) (map param_in_scope (map param_of ps)) → Binds a b p q (map param_in_scope (map param_of ps))
all_bound {b = b} ps i above l = record {
  adds = at_last l.leads;
  scope = λ ok.
      sym (at_drop_all (λ l. typed_seen b.items ++ map param_in_scope (map param_of l)) ps i above ∙ append-nil (typed_seen b.items)) ∙ l.scope ok;
}
