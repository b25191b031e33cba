-- Expressions between two signs, and fields, which a dot begins.
use Rattle.std.proofs.Common.{◌≡◌, ℕ, ◌-◌, ◌<◌, true, false, List, [], ◌∷◌, Result, Ok, refl, sym, ap, ◌∙◌, subst}
use Rattle.source.specs.declared.span.Span.{Span}
use Rattle.source.specs.declared.token.Sign.TheVariants.{OpenParen, CloseParen, OpenBracket, CloseBracket, Dot}
use Rattle.source.specs.Tokens.{mark, Tok}
use Rattle.syntax.specs.Trees.{Ident, element, path, Expr, paren}
use Rattle.parser.specs.declared.stop.Stop.{Stop}
use Rattle.parser.specs.Working.Reading.{◌>>=◌, Fails, Reader, turn, many_at, is_sign, sign_at, open_at, name_at}
use Rattle.parser.specs.Working.Reading.{is_next, skip_at, next_after, after_each, choose, chosen, closed_at}
use Rattle.parser.specs.Working.Expressions.{place_at, path_at, alone_at, element_at, fields_at, parens_at, inside_at}
use Rattle.parser.specs.Working.Expressions.{condition_at, expr_at}
use Rattle.parser.specs.Theory.Readers.{fails_on}
use Rattle.parser.specs.Theory.Many.{many_at-turn}
use Rattle.parser.proofs.Rooms.{inside_at_some, parens_at_some}
use Rattle.parser.specs.Theory.Shorter.{next_name_shortens}
use Rattle.parser.specs.Theory.Signs.{closed_then, kind_is}

-- ---- expressions between two signs

module _ (room : ℕ) (x : Ident) (ts inner : List Tok) (at : Span) (opens : open_at OpenBracket room ts ≡ Ok (at, inner)) (some : 0 < room) where
  element_is : element_at room (inside_at room) x ts ≡ (closed_at CloseBracket (expr_at (room - 1)) inner >>= λ e. Ok (element x e.0, e.1))
  unfolding element_at
  element_is = rw (opens, inside_at_some room some) (closed_then (λ e us. Ok (element x e, us)) CloseBracket (expr_at (room - 1)) inner)

  pub element_done : (e : Expr) (rest : List Tok) → closed_at CloseBracket (expr_at (room - 1)) inner ≡ Ok (e, rest) →
      element_at room (inside_at room) x ts ≡ Ok (element x e, rest)
  element_done e rest read = element_is ∙ ap (λ (r : Result (Expr × List Tok) Stop). r >>= λ e. Ok (element x e.0, e.1)) read

  pub element_stops : (e : Stop) → Fails e (closed_at CloseBracket (expr_at (room - 1)) inner) →
      Fails e (element_at room (inside_at room) x ts)
  element_stops e fails = subst (Fails e) (sym element_is) (fails_on e (closed_at CloseBracket (expr_at (room - 1)) inner) (λ e. Ok (element x e.0, e.1)) fails)

pub condition_is : (room : ℕ) (ts inner : List Tok) (at : Span) → open_at OpenParen room ts ≡ Ok (at, inner) →
    0 < room → condition_at room ts ≡ closed_at CloseParen (expr_at (room - 1)) inner
unfolding condition_at
condition_is room ts inner at opens some = rw (opens, inside_at_some room some) refl

pub element_unopened : (room : ℕ) (x : Ident) (ts : List Tok) (e : Stop) → Fails e (open_at OpenBracket room ts) →
    Fails e (element_at room (inside_at room) x ts)
unfolding element_at
element_unopened room x ts e fails = fails_on e (open_at OpenBracket room ts) _ fails

pub condition_unopened : (room : ℕ) (ts : List Tok) (e : Stop) → Fails e (open_at OpenParen room ts) →
    Fails e (condition_at room ts)
unfolding condition_at
condition_unopened room ts e fails = fails_on e (open_at OpenParen room ts) _ fails

module _ (room : ℕ) (at : Span) (ts : List Tok) (some : 0 < room) where
  parens_is : parens_at room (inside_at room) at ts ≡ (closed_at CloseParen (expr_at (room - 1)) ts >>= λ e. Ok (paren at e.0, e.1))
  parens_is = rw (parens_at_some room (inside_at room) at ts some, inside_at_some room some) (closed_then (λ e us. Ok (paren at e, us)) CloseParen (expr_at (room - 1)) ts)

  pub parens_done : (e : Expr) (rest : List Tok) → closed_at CloseParen (expr_at (room - 1)) ts ≡ Ok (e, rest) →
      parens_at room (inside_at room) at ts ≡ Ok (paren at e, rest)
  parens_done e rest read = parens_is ∙ ap (λ (r : Result (Expr × List Tok) Stop). r >>= λ e. Ok (paren at e.0, e.1)) read

  pub parens_stop : (e : Stop) → Fails e (closed_at CloseParen (expr_at (room - 1)) ts) →
      Fails e (parens_at room (inside_at room) at ts)
  parens_stop e fails = subst (Fails e) (sym parens_is) (fails_on e (closed_at CloseParen (expr_at (room - 1)) ts) (λ e. Ok (paren at e.0, e.1)) fails)

-- ---- fields, which a dot begins

fields_by : (t : Tok) (ts : List Tok) → is_sign Dot t.kind ≡ true → fields_at (t ∷ ts) ≡ after_each Dot name_at (t ∷ ts)
unfolding fields_at after_each sign_at skip_at
fields_by t ts e =
    let turned : many_at [] ◌∷◌ (next_after Dot name_at) (t ∷ ts) ≡ turn [] ◌∷◌ (many_at [] ◌∷◌ (next_after Dot name_at)) (next_after Dot name_at (t ∷ ts)) (t ∷ ts) = many_at-turn [] ◌∷◌ (next_after Dot name_at) next_name_shortens (t ∷ ts) in
    rw (turned, e) refl

pub fields_are : (ts : List Tok) → is_next (mark Dot) ts ≡ true → fields_at ts ≡ after_each Dot name_at ts
fields_are [] e = absurd cc
fields_are (t ∷ ts) e = fields_by t ts (sym (kind_is Dot t.kind) ∙ e)

module _ (room : ℕ) (inner : Reader Expr) (x : Ident) (ts : List Tok) (other : is_next (mark OpenBracket) ts ≡ false) where
  no_element : place_at room inner x ts ≡ choose (mark Dot) (path_at x) (alone_at x) ts
  unfolding choose
  no_element = ap (λ b. chosen (element_at room inner x) (choose (mark Dot) (path_at x) (alone_at x)) b ts) other

  module _ (dot : is_next (mark Dot) ts ≡ true) where
    path_is : place_at room inner x ts ≡ (after_each Dot name_at ts >>= λ fs. Ok (path x fs.0, fs.1))
    unfolding choose
    path_is = no_element ∙ ap (λ b. chosen (path_at x) (alone_at x) b ts) dot ∙ ap (λ (r : Result (List Ident × List Tok) Stop). r >>= λ fs. Ok (path x fs.0, fs.1)) (fields_are ts dot)

    pub path_done : (fs : List Ident) (rest : List Tok) → after_each Dot name_at ts ≡ Ok (fs, rest) →
        place_at room inner x ts ≡ Ok (path x fs, rest)
    path_done fs rest read = path_is ∙ ap (λ (r : Result (List Ident × List Tok) Stop). r >>= λ fs. Ok (path x fs.0, fs.1)) read

    pub path_stops : (e : Stop) → Fails e (after_each Dot name_at ts) → Fails e (place_at room inner x ts)
    path_stops e fails = subst (Fails e) (sym path_is) (fails_on e (after_each Dot name_at ts) (λ fs. Ok (path x fs.0, fs.1)) fails)
