-- Names that are appended to others.
use Rattle.std.proofs.Common.{◌≡◌, ◌∙◌, ◌<◌, ◌+◌, ℕ, List, [], ◌∷◌, ◌++◌, drop, length, refl, sym, ap, ap₂}
use Rattle.std.proofs.Common.{append_assoc, get_or}
use Rattle.std.proofs.lemmas.List.{map-append, at_drop_more}
use denote.Ref.{Bor}
use Rattle.std.specs.Prelude.{Box}
use Rattle.std.proofs.Common.{Global, None}
use Rattle.std.specs.List.{filter_map}
use Rattle.std.proofs.lemmas.List.Elements.{filter_map-append}
use Rattle.syntax.specs.declared.tree.If as the_if
use Rattle.syntax.specs.declared.tree.Name.{Name}
use Rattle.syntax.specs.declared.tree.Stmt as the_stmt
use Rattle.syntax.specs.declared.tree.Stmt.{If}
use Rattle.syntax.specs.Theory.Rows.{if_of-out}
use Rattle.syntax.specs.Trees.{Ident, Stmts, no_stmts, stmt, Stmt, let_local, let_owned, let_call, var_local, assign}
use Rattle.syntax.specs.Trees.{if_then, while, print, return_value, call, Otherwise, no_else, else_do}
use Rattle.syntax.specs.Views.{stmt_of}
use Rattle.explanation_names.specs.NameSpaces.{bound_names, names_among, names_in_else}
use Rattle.explanation_names.specs.Working.Viewed.{bound_name}
use Rattle.explanation_names.specs.Working.Values.{ident_at, idents}
use Rattle.explanation_names.specs.Vars.{all_of, behind, within}

-- one more name
pub one_more : (old new : List (Bor Name)) (x : Bor Name) → new ≡ old ++ x ∷ [] →
    idents new ≡ idents old ++ ident_at x ∷ []
one_more old new x e = ap idents e ∙ map-append ident_at old (x ∷ [])

-- one turn of a loop: the names of the element are appended after `p`, and those of the rest follow
pub turn : {X : Type 0} (F : List X → List Ident) (xs : List X) (i : ℕ) (x y : X) (p q one start : List Ident) →
    i < length xs → x ≡ get_or xs i y →
    F (x ∷ drop (i + 1) xs) ≡ one ++ F (drop (i + 1) xs) → q ≡ p ++ one → p ++ F (drop i xs) ≡ start → q ++ F (drop (i + 1) xs) ≡ start
turn F xs i x y p q one start lt is front e before =
    let rest = F (drop (i + 1) xs) in
    ap (λ l. l ++ rest) e ∙ append_assoc p one rest ∙ ap (λ l. p ++ l) (sym front)
    ∙ ap (λ z. p ++ F (z ∷ drop (i + 1) xs)) is ∙ ap (λ l. p ++ l) (sym (at_drop_more F xs i y lt)) ∙ before

-- ---- the locals of a section

joined : (xs ys : List Ident) (ss ts : List Stmt) → xs ≡ filter_map bound_name ss → ys ≡ filter_map bound_name ts →
    xs ++ ys ≡ filter_map bound_name (ss ++ ts)
joined xs ys ss ts e f = ap₂ (λ (a b : List Ident). a ++ b) e f ∙ sym (filter_map-append bound_name ss ts)

mutual
  bound_listed : (s : Stmt) → bound_names s ≡ filter_map bound_name (s ∷ within s)
  bound_listed (let_local l) = refl
  bound_listed (let_owned l o) = refl
  bound_listed (let_call l) = refl
  bound_listed (var_local l) = refl
  bound_listed (assign p e) = refl
  bound_listed (if_then start e body close other) =
      joined (names_among body) (names_in_else other) (all_of body) (behind other) (names_listed body) (else_listed other)
  bound_listed (while start e body close) = names_listed body
  bound_listed (print start e) = refl
  bound_listed (return_value start e) = refl
  bound_listed (call start c) = refl

  else_listed : (o : Otherwise) → names_in_else o ≡ filter_map bound_name (behind o)
  else_listed no_else = refl
  else_listed (else_do body close) = names_listed body

  -- the locals of a section are those that its statements bind
  pub names_listed : (ss : Stmts) → names_among ss ≡ filter_map bound_name (all_of ss)
  names_listed no_stmts = refl
  names_listed (stmt s rest) = joined (bound_names s) (names_among rest) (s ∷ within s) (all_of rest) (bound_listed s) (names_listed rest)

-- a choice itself binds no local
pub none_bound : (s : the_stmt.Stmt) (b : Box the_if.If Global) → s ≡ If b → bound_name (stmt_of s) ≡ None
none_bound s b e = ap (λ (s : the_stmt.Stmt). bound_name (stmt_of s)) e ∙ ap bound_name (if_of-out b.value)
