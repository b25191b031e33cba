-- Tokens that have a tree are read, unless a sign is too deep: places, expressions and conditions.
use Rattle.std.proofs.Common.{◌≡◌, ℕ, zero, suc, ◌≤◌, false, List, ◌∷◌, length, Some, None, Ok, refl, sym, ap, ◌∙◌}
use Rattle.std.proofs.Common.{subst, arith, le_trans, le_refl}
use Rattle.source.specs.declared.span.Span.{Span}
use Rattle.source.specs.declared.token.Keyword.TheVariants as keyword
use Rattle.source.specs.declared.token.Sign.TheVariants.{OpenParen, CloseParen, OpenBracket, CloseBracket, Semicolon}
use Rattle.source.specs.declared.token.Sign.TheVariants.{Comma, Dot, Equals}
use Rattle.source.specs.Tokens.{word, mark, Tok}
use Rattle.syntax.specs.declared.tree.Operator.{Operator}
use Rattle.syntax.specs.declared.tree.Operator.TheVariants.{Add, Sub, Mul, Div, Rem, And, Or}
use Rattle.syntax.specs.declared.tree.Level.{Level}
use Rattle.syntax.specs.declared.tree.Level.TheVariants.{Term, Sum, Conjunction, Disjunction}
use Rattle.syntax.specs.declared.tree.Prefix.{Prefix}
use Rattle.syntax.specs.declared.tree.Prefix.TheVariants.{Negate, Not}
use Rattle.syntax.specs.declared.tree.Comparison.{Comparison}
use Rattle.syntax.specs.declared.tree.Comparison.TheVariants.{Equal, NotEqual, Less, LessOrEqual, Greater}
use Rattle.syntax.specs.declared.tree.Comparison.TheVariants.{GreaterOrEqual}
use Rattle.source.specs.declared.token.Number.{Number}
use Rattle.syntax.specs.Trees.{Ident, Place, lone, element, path, Expr, int, null, place, paren, prefix, chain}
use Rattle.syntax.specs.Trees.{compare, Links, no_links, link}
use Rattle.syntax.specs.Grammar.{tok, name_tok, int_tok, sign_of, level_of, prefix_sign, comparison_sign, rank, below}
use Rattle.syntax.specs.Grammar.{PRIM, SUM, COMPARED, ANY, AreMany, IsAfter, AreListed, IsName, is_name, IsPlace}
use Rattle.syntax.specs.Grammar.{is_lone, is_element, is_path, IsExpr, is_int, is_null, is_place, is_paren, is_prefix}
use Rattle.syntax.specs.Grammar.{is_chain, is_compare, IsLinks, are_no_links, is_link}
use Rattle.parser.specs.Working.Reading.{◌>>=◌, Reader, turn, sign_at, open_at, name_at, skip_at, is_next, listed_at}
use Rattle.parser.specs.Working.Reading.{choose}
use Rattle.parser.specs.Working.Expressions.{op_at, next_link, add_link, links_at, chained, chain_at, element_at}
use Rattle.parser.specs.Working.Expressions.{fields_at, path_at, alone_at, place_at, prefix_at, unary_from}
use Rattle.parser.specs.Working.Expressions.{unary_with, prim_with, comparison_at, compared_from, compared_with}
use Rattle.parser.specs.Working.Expressions.{sum_with, inside_at, prim_at, operand_at, level_at, expr_at, ended_at}
use Rattle.parser.specs.Working.Expressions.{condition_at}
use Rattle.parser.specs.Theory.Readers.{Shortens}
use Rattle.parser.specs.Theory.Many.{many_at-turn}
use Rattle.parser.specs.Theory.Chains.{next_link_shortens}
use Rattle.parser.specs.Theory.ShorterStatements.{operand_shortens, next_argument_shortens}
use Rattle.parser.specs.Theory.Shorter.{next_name_shortens}
use Rattle.parser.specs.Theory.Finding.{Finds, found, deep, finds_then, same_finds, FindsPart, NotNext, NoSign}
use Rattle.parser.specs.Theory.Finding.{Closes, listed_ended, ends_found, then_found, and_found, production_found}
use Rattle.parser.specs.Theory.Finding.{sign_found, name_found, each_found, choose_left, choose_right, Anything}
use Rattle.parser.specs.Theory.Joined.{Done, done, Both, both}
use Rattle.parser.specs.Theory.Law.{IsTok, is_tok}
use Rattle.parser.specs.Theory.Productions.{IsFields, is_fields, IsEnded, ended}

-- readers by rank
abbrev pub rank_at : ℕ → ℕ → Reader Expr
rank_at zero room = prim_at room
rank_at (suc zero) room = operand_at Term room
rank_at (suc (suc zero)) room = operand_at Sum room
rank_at (suc (suc (suc zero))) room = level_at Sum room
rank_at (suc (suc (suc (suc zero)))) room = operand_at Conjunction room
rank_at (suc (suc (suc (suc (suc zero))))) room = operand_at Disjunction room
rank_at (suc (suc (suc (suc (suc (suc n)))))) room = expr_at room

rank_shortens : (k : Level) (room : ℕ) → Shortens (rank_at (below k) room)
rank_shortens Term room = operand_shortens Term room
rank_shortens Sum room = operand_shortens Sum room
rank_shortens Conjunction room = operand_shortens Conjunction room
rank_shortens Disjunction room = operand_shortens Disjunction room

rank_is : (k : Level) (room : ℕ) (ts : List Tok) → rank_at (rank k) room ts ≡ chain_at (rank_at (below k) room) k ts
rank_is Term room ts = refl
rank_is Sum room ts = refl
rank_is Conjunction room ts = refl
rank_is Disjunction room ts = refl

rank_some : (k : Level) → 1 ≤ rank k
rank_some Term = omega arith
rank_some Sum = omega arith
rank_some Conjunction = omega arith
rank_some Disjunction = omega arith

below_less : (k : Level) → below k ≤ rank k
below_less Term = omega arith
below_less Sum = omega arith
below_less Conjunction = omega arith
below_less Disjunction = omega arith

-- no place goes on with these tokens
pub record NoPlace (ts : List Tok) : Type 0 where
  pub no_bracket : is_next (mark OpenBracket) ts ≡ false
  pub no_dot : is_next (mark Dot) ts ≡ false
  pub no_field : NoSign Dot ts

-- no expression of at most this rank goes on with these tokens
pub record NoOps (n : ℕ) (ts : List Tok) : Type 0 where
  pub none : (k : Level) → rank k ≤ n → op_at k ts ≡ None
  pub no_comparison : COMPARED ≤ n → comparison_at ts ≡ None
  pub no_place : NoPlace ts

no_ops_less : (m n : ℕ) (ts : List Tok) → m ≤ n → NoOps n ts → NoOps m ts
no_ops_less m n ts le h = record {
  none = λ k low. h.none k (le_trans low le);
  no_comparison = λ low. h.no_comparison
      (le_trans low le);
  no_place = h.no_place;
}

op_found : (op : Operator) (at : Span) (ts : List Tok) →
    op_at (level_of op) (tok (mark (sign_of op)) at ∷ ts) ≡ Some (op, ts)
unfolding op_at
op_found Add at ts = refl
op_found Sub at ts = refl
op_found Mul at ts = refl
op_found Div at ts = refl
op_found Rem at ts = refl
op_found And at ts = refl
op_found Or at ts = refl

tighter : (op : Operator) (at : Span) (ts : List Tok) (k : Level) → rank k ≤ below (level_of op) →
    op_at k (tok (mark (sign_of op)) at ∷ ts) ≡ None
unfolding op_at
tighter Add at ts Term le = refl
tighter Add at ts Sum le = absurd (omega arith)
tighter Add at ts Conjunction le = absurd (omega arith)
tighter Add at ts Disjunction le = absurd (omega arith)
tighter Sub at ts Term le = refl
tighter Sub at ts Sum le = absurd (omega arith)
tighter Sub at ts Conjunction le = absurd (omega arith)
tighter Sub at ts Disjunction le = absurd (omega arith)
tighter Mul at ts Term le = absurd (omega arith)
tighter Mul at ts Sum le = absurd (omega arith)
tighter Mul at ts Conjunction le = absurd (omega arith)
tighter Mul at ts Disjunction le = absurd (omega arith)
tighter Div at ts Term le = absurd (omega arith)
tighter Div at ts Sum le = absurd (omega arith)
tighter Div at ts Conjunction le = absurd (omega arith)
tighter Div at ts Disjunction le = absurd (omega arith)
tighter Rem at ts Term le = absurd (omega arith)
tighter Rem at ts Sum le = absurd (omega arith)
tighter Rem at ts Conjunction le = absurd (omega arith)
tighter Rem at ts Disjunction le = absurd (omega arith)
tighter And at ts Term le = refl
tighter And at ts Sum le = refl
tighter And at ts Conjunction le = absurd (omega arith)
tighter And at ts Disjunction le = absurd (omega arith)
tighter Or at ts Term le = refl
tighter Or at ts Sum le = refl
tighter Or at ts Conjunction le = refl
tighter Or at ts Disjunction le = absurd (omega arith)

op_no_comparison : (op : Operator) (at : Span) (ts : List Tok) → comparison_at (tok (mark (sign_of op)) at ∷ ts) ≡ None
unfolding comparison_at
op_no_comparison Add at ts = refl
op_no_comparison Sub at ts = refl
op_no_comparison Mul at ts = refl
op_no_comparison Div at ts = refl
op_no_comparison Rem at ts = refl
op_no_comparison And at ts = refl
op_no_comparison Or at ts = refl

op_no_place : (op : Operator) (at : Span) (ts : List Tok) → NoPlace (tok (mark (sign_of op)) at ∷ ts)
unfolding skip_at
op_no_place Add at ts = record { no_bracket = refl; no_dot = refl; no_field = refl }
op_no_place Sub at ts = record { no_bracket = refl; no_dot = refl; no_field = refl }
op_no_place Mul at ts = record { no_bracket = refl; no_dot = refl; no_field = refl }
op_no_place Div at ts = record { no_bracket = refl; no_dot = refl; no_field = refl }
op_no_place Rem at ts = record { no_bracket = refl; no_dot = refl; no_field = refl }
op_no_place And at ts = record { no_bracket = refl; no_dot = refl; no_field = refl }
op_no_place Or at ts = record { no_bracket = refl; no_dot = refl; no_field = refl }

op_not_below : (op : Operator) (at : Span) (ts : List Tok) →
    NoOps (below (level_of op)) (tok (mark (sign_of op)) at ∷ ts)
op_not_below op at ts = record {
  none = tighter op at ts;
  no_comparison = λ low. op_no_comparison op at ts;
  no_place =
      op_no_place op at ts;
}

-- before a comparison

comparison_found : (c : Comparison) (at : Span) (ts : List Tok) →
    comparison_at (tok (mark (comparison_sign c)) at ∷ ts) ≡ Some (c, ts)
unfolding comparison_at
comparison_found Equal at ts = refl
comparison_found NotEqual at ts = refl
comparison_found Less at ts = refl
comparison_found LessOrEqual at ts = refl
comparison_found Greater at ts = refl
comparison_found GreaterOrEqual at ts = refl

compared_none : (c : Comparison) (at : Span) (ts : List Tok) (k : Level) →
    op_at k (tok (mark (comparison_sign c)) at ∷ ts) ≡ None
unfolding op_at
compared_none Equal at ts Term = refl
compared_none Equal at ts Sum = refl
compared_none Equal at ts Conjunction = refl
compared_none Equal at ts Disjunction = refl
compared_none NotEqual at ts Term = refl
compared_none NotEqual at ts Sum = refl
compared_none NotEqual at ts Conjunction = refl
compared_none NotEqual at ts Disjunction = refl
compared_none Less at ts Term = refl
compared_none Less at ts Sum = refl
compared_none Less at ts Conjunction = refl
compared_none Less at ts Disjunction = refl
compared_none LessOrEqual at ts Term = refl
compared_none LessOrEqual at ts Sum = refl
compared_none LessOrEqual at ts Conjunction = refl
compared_none LessOrEqual at ts Disjunction = refl
compared_none Greater at ts Term = refl
compared_none Greater at ts Sum = refl
compared_none Greater at ts Conjunction = refl
compared_none Greater at ts Disjunction = refl
compared_none GreaterOrEqual at ts Term = refl
compared_none GreaterOrEqual at ts Sum = refl
compared_none GreaterOrEqual at ts Conjunction = refl
compared_none GreaterOrEqual at ts Disjunction = refl

comparison_no_place : (c : Comparison) (at : Span) (ts : List Tok) → NoPlace (tok (mark (comparison_sign c)) at ∷ ts)
unfolding skip_at
comparison_no_place Equal at ts = record { no_bracket = refl; no_dot = refl; no_field = refl }
comparison_no_place NotEqual at ts = record { no_bracket = refl; no_dot = refl; no_field = refl }
comparison_no_place Less at ts = record { no_bracket = refl; no_dot = refl; no_field = refl }
comparison_no_place LessOrEqual at ts = record { no_bracket = refl; no_dot = refl; no_field = refl }
comparison_no_place Greater at ts = record { no_bracket = refl; no_dot = refl; no_field = refl }
comparison_no_place GreaterOrEqual at ts = record { no_bracket = refl; no_dot = refl; no_field = refl }

no_ops_comparison : (c : Comparison) (at : Span) (ts : List Tok) → NoOps SUM (tok (mark (comparison_sign c)) at ∷ ts)
no_ops_comparison c at ts = record {
  none = λ k low. compared_none c at ts k;
  no_comparison = λ low. absurd
      (omega arith);
  no_place = comparison_no_place c at ts;
}

-- no tighter operator precedes or follows links
links_stop : {k : Level} {l : Links} {ts rest : List Tok} → IsLinks k l ts rest → NoOps (rank k) rest →
    NoOps (below k) ts
links_stop {k = k} {ts = ts} are_no_links h = no_ops_less (below k) (rank k) ts (below_less k) h
links_stop (is_link {op = op} {at = at} {ts = ts} e more) h = op_not_below op at ts

more_stop : {k : Level} {op : Operator} {x : Expr} {l : Links} {ts rest : List Tok} →
    IsLinks k (link op x l) ts rest → NoOps (below k) ts
more_stop (is_link {op = op} {at = at} {ts = ts} e more) = op_not_below op at ts

module _ (operand : Reader Expr) (shorter : Shortens operand) (k : Level) where
  by_turn : (ts : List Tok) →
      links_at operand k ts ≡ turn no_links add_link (links_at operand k) (next_link operand k ts) ts
  by_turn = many_at-turn no_links add_link (next_link operand k) (next_link_shortens operand shorter k)

  no_link_found : (ts : List Tok) → op_at k ts ≡ None → Finds (links_at operand k ts) (no_links, ts)
  no_link_found ts e = found (by_turn ts ∙ rw e refl)

  link_found : (op : Operator) (x : Expr) (l : Links) (ts after mid rest : List Tok) → op_at k ts ≡ Some (op, after) →
      Finds (operand after) (x, mid) → Finds (links_at operand k mid) (l, rest) →
      Finds (links_at operand k ts) (link op x l, rest)
  link_found op x l ts after mid rest e first more =
      let item = finds_then {B = (Operator × Expr) × List Tok} (operand after) (λ y. Ok ((op, y.0), y.1)) (x, mid)
      ((op, x), mid) first (found refl) in
      same_finds (links_at operand k ts) ((operand after >>= λ y. Ok ((op, y.0), y.1)) >>= λ y. links_at operand k y.1
      >>= λ l. Ok (add_link y.0 l.0, l.1)) (link op x l, rest) (by_turn ts ∙ rw e refl)
      (finds_then (operand after >>= λ y. Ok ((op, y.0), y.1)) (λ y. links_at operand k y.1 >>= λ l. Ok
      (add_link y.0 l.0, l.1)) ((op, x), mid) (link op x l, rest) item
      (finds_then (links_at operand k mid) (λ l. Ok (link op x l.0, l.1)) (l, rest) (link op x l, rest) more
      (found refl)))

  chain_found : (x : Expr) (l : Links) (ts mid rest : List Tok) → Finds (operand ts) (x, mid) →
      Finds (links_at operand k mid) (l, rest) → Finds (chain_at operand k ts) (chained k x l, rest)
  unfolding chain_at
  chain_found x l ts mid rest first more =
      finds_then (operand ts) (λ y. links_at operand k y.1 >>= λ l. Ok (chained k y.0 l.0, l.1)) (x, mid)
      (chained k x l, rest) first (finds_then (links_at operand k mid) (λ l. Ok (chained k x l.0, l.1)) (l, rest)
      (chained k x l, rest) more (found refl))

-- ---- an expression that is read at a rank is read at a higher one

module _ (room : ℕ) (e : Expr) (ts rest : List Tok) where
  alone : (k : Level) → op_at k rest ≡ None → Finds (rank_at (below k) room ts) (e, rest) →
      Finds (chain_at (rank_at (below k) room) k ts) (e, rest)
  alone k stop f = chain_found (rank_at (below k) room) (rank_shortens k room) k e no_links ts rest rest f
      (no_link_found (rank_at (below k) room) (rank_shortens k room) k rest stop)

  uncompared : comparison_at rest ≡ None → Finds (level_at Sum room ts) (e, rest) →
      Finds (operand_at Conjunction room ts) (e, rest)
  unfolding compared_with
  uncompared stop f = finds_then (level_at Sum room ts) (λ l. compared_from (sum_with (prim_at room)) l.0
      (comparison_at l.1) l.1) (e, rest) (e, rest) f (found (ap (λ o. compared_from (sum_with (prim_at room)) e o rest)
      stop))

  step : (n : ℕ) → 1 ≤ n → NoOps (suc n) rest → Finds (rank_at n room ts) (e, rest) →
      Finds (rank_at (suc n) room ts) (e, rest)
  step zero some h f = absurd (omega arith)
  step (suc zero) some h f = alone Term (h.none Term (omega arith)) f
  step (suc (suc zero)) some h f = alone Sum (h.none Sum (omega arith)) f
  step (suc (suc (suc zero))) some h f = uncompared (h.no_comparison (omega arith)) f
  step (suc (suc (suc (suc zero)))) some h f = alone Conjunction (h.none Conjunction (omega arith)) f
  step (suc (suc (suc (suc (suc zero))))) some h f = alone Disjunction (h.none Disjunction (omega arith)) f
  step (suc (suc (suc (suc (suc (suc n)))))) some h f = f

  -- from one rank to another by single steps
  pub data Up (i : ℕ) : ℕ → Type 0 where
    level : Up i i
    higher : {n : ℕ} → i ≤ n → Up i n → Up i (suc n)

  climb : {i n : ℕ} → Up i n → 1 ≤ i → NoOps n rest → Finds (rank_at i room ts) (e, rest) →
      Finds (rank_at n room ts) (e, rest)
  climb level some h f = f
  climb {i = i} (higher {n = n} le up) some h f = step n (le_trans some le) h
      (climb up some (no_ops_less n (suc n) rest (omega arith) h) f)

  next_up : {i n : ℕ} → Up i n → Up (suc i) (suc n)
  next_up level = level
  next_up (higher le up) = higher (omega (arith, le)) (next_up up)

  up_of : (i n : ℕ) → i ≤ n → Up i n
  up_of zero zero le = level
  up_of (suc i) zero le = absurd (omega arith)
  up_of zero (suc n) le = higher (omega arith) (up_of zero n (omega arith))
  up_of (suc i) (suc n) le = next_up (up_of i n (omega arith))

  lift : (i n : ℕ) → 1 ≤ i → i ≤ n → NoOps n rest → Finds (rank_at i room ts) (e, rest) →
      Finds (rank_at n room ts) (e, rest)
  lift i n some le h f = climb (up_of i n le) some h f

  -- from the tightest rank, if no operator precedes it
  lift_prim : (n : ℕ) → prefix_at ts ≡ None → NoOps n rest → Finds (prim_at room ts) (e, rest) →
      Finds (rank_at n room ts) (e, rest)
  unfolding unary_with
  lift_prim zero bare h f = f
  lift_prim (suc n) bare h f = lift 1 (suc n) (omega arith) (omega arith) h
      (same_finds _ (prim_at room ts) (e, rest) (ap (λ o. unary_from (prim_at room) o ts) bare) f)

-- ---- the tightest

int_found_at : (room : ℕ) (v : Number) (ts : List Tok) → Finds (prim_at room (int_tok v ∷ ts)) (int v, ts)
unfolding prim_with
int_found_at room v ts = found refl

null_found_at : (room : ℕ) (at : Span) (ts : List Tok) →
    Finds (prim_at room (tok (word keyword.Null) at ∷ ts)) (null at, ts)
unfolding prim_with
null_found_at room at ts = found refl

bare_int : (v : Number) (ts : List Tok) → prefix_at (int_tok v ∷ ts) ≡ None
unfolding prefix_at
bare_int v ts = refl

bare_null : (at : Span) (ts : List Tok) → prefix_at (tok (word keyword.Null) at ∷ ts) ≡ None
unfolding prefix_at
bare_null at ts = refl

bare_place : {p : Place} {ts rest : List Tok} → IsPlace p ts rest → prefix_at ts ≡ None
unfolding prefix_at
bare_place is_lone = refl
bare_place (is_element h) = refl
bare_place (is_path h) = refl

bare_paren : (at : Span) (ts : List Tok) → prefix_at (tok (mark OpenParen) at ∷ ts) ≡ None
unfolding prefix_at
bare_paren at ts = refl

none_before_close : (at : Span) (ts : List Tok) (k : Level) → op_at k (tok (mark CloseParen) at ∷ ts) ≡ None
unfolding op_at
none_before_close at ts Term = refl
none_before_close at ts Sum = refl
none_before_close at ts Conjunction = refl
none_before_close at ts Disjunction = refl

pub no_ops_close : (at : Span) (ts : List Tok) → NoOps ANY (tok (mark CloseParen) at ∷ ts)
unfolding comparison_at skip_at
no_ops_close at ts = record {
  none = λ k low. none_before_close at ts k;
  no_comparison = λ low. refl;
  no_place = record
      { no_bracket = refl; no_dot = refl; no_field = refl };
}

none_before_comma : (at : Span) (ts : List Tok) (k : Level) → op_at k (tok (mark Comma) at ∷ ts) ≡ None
unfolding op_at
none_before_comma at ts Term = refl
none_before_comma at ts Sum = refl
none_before_comma at ts Conjunction = refl
none_before_comma at ts Disjunction = refl

pub no_ops_comma : (at : Span) (ts : List Tok) → NoOps ANY (tok (mark Comma) at ∷ ts)
unfolding comparison_at skip_at
no_ops_comma at ts = record {
  none = λ k low. none_before_comma at ts k;
  no_comparison = λ low. refl;
  no_place = record
      { no_bracket = refl; no_dot = refl; no_field = refl };
}

none_before_bracket : (at : Span) (ts : List Tok) (k : Level) → op_at k (tok (mark CloseBracket) at ∷ ts) ≡ None
unfolding op_at
none_before_bracket at ts Term = refl
none_before_bracket at ts Sum = refl
none_before_bracket at ts Conjunction = refl
none_before_bracket at ts Disjunction = refl

pub no_ops_bracket : (at : Span) (ts : List Tok) → NoOps ANY (tok (mark CloseBracket) at ∷ ts)
unfolding comparison_at skip_at
no_ops_bracket at ts = record {
  none = λ k low. none_before_bracket at ts k;
  no_comparison = λ low. refl;
  no_place =
      record { no_bracket = refl; no_dot = refl; no_field = refl };
}

none_before_semicolon : (at : Span) (ts : List Tok) (k : Level) → op_at k (tok (mark Semicolon) at ∷ ts) ≡ None
unfolding op_at
none_before_semicolon at ts Term = refl
none_before_semicolon at ts Sum = refl
none_before_semicolon at ts Conjunction = refl
none_before_semicolon at ts Disjunction = refl

pub no_ops_semicolon : (at : Span) (ts : List Tok) → NoOps ANY (tok (mark Semicolon) at ∷ ts)
unfolding comparison_at skip_at
no_ops_semicolon at ts = record {
  none = λ k low. none_before_semicolon at ts k;
  no_comparison = λ low. refl;
  no_place =
      record { no_bracket = refl; no_dot = refl; no_field = refl };
}

none_before_where : (at : Span) (ts : List Tok) (k : Level) → op_at k (tok (word keyword.Where) at ∷ ts) ≡ None
unfolding op_at
none_before_where at ts Term = refl
none_before_where at ts Sum = refl
none_before_where at ts Conjunction = refl
none_before_where at ts Disjunction = refl

pub no_ops_where : (at : Span) (ts : List Tok) → NoOps ANY (tok (word keyword.Where) at ∷ ts)
unfolding comparison_at skip_at
no_ops_where at ts = record {
  none = λ k low. none_before_where at ts k;
  no_comparison = λ low. refl;
  no_place = record
      { no_bracket = refl; no_dot = refl; no_field = refl };
}

pub no_place_equals : (at : Span) (ts : List Tok) → NoPlace (tok (mark Equals) at ∷ ts)
unfolding skip_at
no_place_equals at ts = record { no_bracket = refl; no_dot = refl; no_field = refl }

paren_found : (room : ℕ) (at close : Span) (e : Expr) (ts rest : List Tok) →
    ((r : ℕ) → Finds (rank_at ANY r ts) (e, tok (mark CloseParen) close ∷ rest)) →
    Finds (prim_at room (tok (mark OpenParen) at ∷ ts)) (paren at e, rest)
unfolding prim_with inside_at sign_at
paren_found zero at close e ts rest h = deep (suc (length ts)) refl
paren_found (suc room) at close e ts rest h =
    finds_then (rank_at ANY room ts) (λ e. sign_at CloseParen e.1 >>= λ c. Ok (paren at e.0, c.1))
    (e, tok (mark CloseParen) close ∷ rest) (paren at e, rest) (h room) (found refl)

prefix_found : (room : ℕ) (op : Prefix) (at : Span) (e : Expr) (ts rest : List Tok) →
    Finds (prim_at room ts) (e, rest) →
    Finds (operand_at Term room (tok (mark (prefix_sign op)) at ∷ ts)) (prefix op at e, rest)
unfolding unary_with prefix_at
prefix_found room Negate at e ts rest h = finds_then (prim_at room ts) (λ e. Ok (prefix Negate at e.0, e.1)) (e, rest)
    (prefix Negate at e, rest) h (found refl)
prefix_found room Not at e ts rest h = finds_then (prim_at room ts) (λ e. Ok (prefix Not at e.0, e.1)) (e, rest)
    (prefix Not at e, rest) h (found refl)

compare_found : (room : ℕ) (c : Comparison) (at : Span) (left right : Expr) (ts mid rest : List Tok) →
    Finds (level_at Sum room ts) (left, tok (mark (comparison_sign c)) at ∷ mid) →
    Finds (level_at Sum room mid) (right, rest) → Finds (operand_at Conjunction room ts) (compare left c right, rest)
unfolding compared_with
compare_found room c at left right ts mid rest f g =
    let sum = level_at Sum room in
    let behind = tok (mark (comparison_sign c)) at ∷ mid in
    finds_then (sum ts) (λ l. compared_from sum l.0 (comparison_at l.1) l.1) (left, behind) (compare left c right, rest)
    f
    (same_finds (compared_from sum left (comparison_at behind) behind) (sum mid >>= λ r. Ok (compare left c r.0, r.1))
    (compare left c right, rest) (ap (λ o. compared_from sum left o behind) (comparison_found c at mid))
    (finds_then (sum mid) (λ r. Ok (compare left c r.0, r.1)) (right, rest) (compare left c right, rest) g
    (found refl)))

-- ---- places

element_found : (room : ℕ) (x : Ident) (e : Expr) (begin close : Span) (ts rest : List Tok) →
    ((r : ℕ) → Finds (rank_at ANY r ts) (e, tok (mark CloseBracket) close ∷ rest)) →
    Finds (element_at room (inside_at room) x (tok (mark OpenBracket) begin ∷ ts)) (element x e, rest)
unfolding element_at open_at inside_at sign_at
element_found zero x e begin close ts rest h = deep (suc (length ts)) refl
element_found (suc room) x e begin close ts rest h =
    finds_then (rank_at ANY room ts) (λ e. sign_at CloseBracket e.1 >>= λ c. Ok (element x e.0, c.1))
    (e, tok (mark CloseBracket) close ∷ rest) (element x e, rest) (h room) (found refl)

fields_back : {y : List Ident} {ts rest : List Tok} → IsFields y ts rest →
    Both (IsTok (mark Dot)) (λ d. Both IsName (λ first. Both (AreMany (IsAfter Dot IsName))
    (λ more. Done (first ∷ more)))) y ts rest
fields_back (is_fields more) = both is_tok (both is_name (both more done))

done_stops : {B : Type 0} {x y : B} {ts rest : List Tok} → Done x y ts rest → NoSign Dot rest → NoSign Dot ts
done_stops done h = h

fields_found : FindsPart (NoSign Dot) IsFields fields_at
unfolding fields_at
fields_found =
    production_found IsFields
    (and_found (sign_found Dot) (and_found name_found (then_found {F = NoSign Dot}
    (each_found IsName name_at name_found Dot next_name_shortens) (λ x a y ts rest r f. done_stops r f)
    (ends_found (λ x. x.0.1 ∷ x.1)))))
    (λ y ts rest h. fields_back h)

-- a place is a name and the tokens that are read after it
pub record PlaceFound (room : ℕ) (p : Place) (ts rest : List Tok) : Type 0 where
  pub first : Ident
  pub behind : List Tok
  pub parts : ts ≡ name_tok first ∷ behind
  pub finds : Finds (place_at room (inside_at room) first behind) (p, rest)

named_found : (room : ℕ) (x : Ident) (p : Place) (ts rest : List Tok) →
    Finds (place_at room (inside_at room) x ts) (p, rest) → Finds (prim_at room (name_tok x ∷ ts)) (place p, rest)
unfolding prim_with
named_found room x p ts rest h = finds_then (place_at room (inside_at room) x ts) (λ p. Ok (place p.0, p.1)) (p, rest)
    (place p, rest) h (found refl)

place_prim : (room : ℕ) (p : Place) (ts rest : List Tok) → PlaceFound room p ts rest →
    Finds (prim_at room ts) (place p, rest)
place_prim room p ts rest h = subst (λ (us : List Tok). Finds (prim_at room us) (place p, rest)) (sym h.parts)
    (named_found room h.first p h.behind rest h.finds)

module _ (room : ℕ) (x : Ident) where
  abbrev behind_bracket : Reader Place
  behind_bracket = choose (mark Dot) (path_at x) (alone_at x)

  lone_found : (ts : List Tok) → NoPlace ts → Finds (place_at room (inside_at room) x ts) (lone x, ts)
  lone_found ts h = choose_right (mark OpenBracket) (element_at room (inside_at room) x) behind_bracket ts (lone x, ts)
      h.no_bracket (choose_right (mark Dot) (path_at x) (alone_at x) ts (lone x, ts) h.no_dot (found refl))

  path_found : (fs : List Ident) (dot : Span) (ts rest : List Tok) →
      Finds (fields_at (tok (mark Dot) dot ∷ ts)) (fs, rest) →
      Finds (place_at room (inside_at room) x (tok (mark Dot) dot ∷ ts)) (path x fs, rest)
  path_found fs dot ts rest h =
      let us = tok (mark Dot) dot ∷ ts in
      choose_right (mark OpenBracket) (element_at room (inside_at room) x) behind_bracket us (path x fs, rest) refl
      (choose_left (mark Dot) (path_at x) (alone_at x) us (path x fs, rest) refl
      (finds_then (fields_at us) (λ fs. Ok (path x fs.0, fs.1)) (fs, rest) (path x fs, rest) h (found refl)))

  bracket_found : (e : Expr) (begin : Span) (ts rest : List Tok) →
      Finds (element_at room (inside_at room) x (tok (mark OpenBracket) begin ∷ ts)) (element x e, rest) →
      Finds (place_at room (inside_at room) x (tok (mark OpenBracket) begin ∷ ts)) (element x e, rest)
  bracket_found e begin ts rest h = choose_left (mark OpenBracket) (element_at room (inside_at room) x) behind_bracket
      (tok (mark OpenBracket) begin ∷ ts) (element x e, rest) refl h

mutual
  pub expr_found : {n : ℕ} {e : Expr} {ts rest : List Tok} → IsExpr n e ts rest → (room : ℕ) → NoOps n rest →
      Finds (rank_at n room ts) (e, rest)
  expr_found {n = n} (is_int {v = v} {ts = ts}) room h = lift_prim room (int v) (int_tok v ∷ ts) ts n (bare_int v ts) h
      (int_found_at room v ts)
  expr_found {n = n} (is_null {at = at} {ts = ts}) room h = lift_prim room (null at) (tok (word keyword.Null) at ∷ ts)
      ts n (bare_null at ts) h (null_found_at room at ts)
  expr_found {n = n} (is_place {p = p} {ts = ts} {rest = rest} i) room h = lift_prim room (place p) ts rest n
      (bare_place i) h (place_prim room p ts rest (place_found i room h.no_place))
  expr_found {n = n} (is_paren {e = e} {at = at} {close = close} {ts = ts} {rest = rest} inner) room h = lift_prim room
      (paren at e) (tok (mark OpenParen) at ∷ ts) rest n (bare_paren at ts) h
      (paren_found room at close e ts rest (λ room. expr_found inner room (no_ops_close close rest)))
  expr_found {n = n} (is_prefix {op = op} {e = e} {at = at} {ts = ts} {rest = rest} low i) room h = lift room
      (prefix op at e) (tok (mark (prefix_sign op)) at ∷ ts) rest 1 n (omega arith) low h
      (prefix_found room op at e ts rest (expr_found i room (no_ops_less PRIM n rest (omega arith) h)))
  expr_found {n = n} (is_chain {k = k} {first = first} {x = x} {op = op} {more = more} {ts = ts} {mid = mid}
      {rest = rest} le a b) room h =
      lift room (chain k first (link op x more)) ts rest (rank k) n (rank_some k) le h
      (same_finds (rank_at (rank k) room ts) (chain_at (rank_at (below k) room) k ts) _ (rank_is k room ts)
      (chain_found (rank_at (below k) room) (rank_shortens k room) k first (link op x more) ts mid rest
      (expr_found a room (more_stop b)) (links_found b room (no_ops_less (rank k) n rest le h))))
  expr_found {n = n} (is_compare {c = c} {left = left} {right = right} {at = at} {ts = ts} {mid = mid} {rest = rest} le
      a b) room h =
      lift room (compare left c right) ts rest COMPARED n (omega arith) le h
      (compare_found room c at left right ts mid rest (expr_found a room (no_ops_comparison c at mid))
      (expr_found b room (no_ops_less SUM n rest (omega (arith, le)) h)))

  pub links_found : {k : Level} {l : Links} {ts rest : List Tok} → IsLinks k l ts rest → (room : ℕ) →
      NoOps (rank k) rest → Finds (links_at (rank_at (below k) room) k ts) (l, rest)
  links_found {k = k} (are_no_links {ts = ts}) room h = no_link_found (rank_at (below k) room) (rank_shortens k room) k
      ts (h.none k (le_refl (rank k)))
  links_found (is_link {op = op} {x = x} {more = l} {at = at} {ts = ts} {mid = mid} {rest = rest} e more) room h =
      link_found (rank_at (below (level_of op)) room) (rank_shortens (level_of op) room) (level_of op) op x l _ ts mid
      rest (op_found op at ts) (expr_found e room (links_stop more h)) (links_found more room h)

  pub place_found : {p : Place} {ts rest : List Tok} → IsPlace p ts rest → (room : ℕ) → NoPlace rest →
      PlaceFound room p ts rest
  place_found (is_lone {x = x} {ts = ts}) room h = record {
    first = x;
    behind = ts;
    parts = refl;
    finds = lone_found
        room x ts h;
  }
  place_found (is_element {x = x} {e = e} {begin = begin} {close = close} {ts = ts} {rest = rest} i) room h = record {
    first = x;
    behind = tok (mark OpenBracket) begin ∷ ts;
    parts = refl;
    finds = bracket_found room x e begin ts
        rest (element_found room x e begin close ts rest (λ room. expr_found i room (no_ops_bracket close rest)));
  }
  place_found (is_path {x = x} {first = first} {fields = fields} {dot = dot} {ts = ts} {rest = rest} more) room h =
      record {
        first = x;
        behind = tok (mark Dot) dot ∷ name_tok first ∷ ts;
        parts = refl;
        finds = path_found room x
            (first ∷ fields) dot (name_tok first ∷ ts) rest (fields_found (first ∷ fields)
            (tok (mark Dot) dot ∷ name_tok first ∷ ts) rest (is_fields more) h.no_field);
      }

pub any_found : {e : Expr} {ts rest : List Tok} → IsExpr ANY e ts rest → (room : ℕ) → NoOps ANY rest →
    Finds (expr_at room ts) (e, rest)
any_found h room stops = expr_found h room stops

-- no expression begins with these tokens
place_starts : {p : Place} {ts rest : List Tok} → IsPlace p ts rest →
    NotNext (mark CloseParen) ts × NotNext (word keyword.Call) ts
place_starts is_lone = (refl, refl)
place_starts (is_element h) = (refl, refl)
place_starts (is_path h) = (refl, refl)

pub expr_starts : {n : ℕ} {e : Expr} {ts rest : List Tok} → IsExpr n e ts rest →
    NotNext (mark CloseParen) ts × NotNext (word keyword.Call) ts
expr_starts is_int = (refl, refl)
expr_starts is_null = (refl, refl)
expr_starts (is_place p) = place_starts p
expr_starts (is_paren h) = (refl, refl)
expr_starts (is_prefix {op = Negate} low h) = (refl, refl)
expr_starts (is_prefix {op = Not} low h) = (refl, refl)
expr_starts (is_chain le a b) = expr_starts a
expr_starts (is_compare le a b) = expr_starts a

-- ---- expressions with what ends them

-- no operator precedes a semicolon
semicolon_stops : {A : Type 0} {R : Span → A → List Tok → List Tok → Type 0} {y : A} {ts rest : List Tok} →
    Both (IsTok (mark Semicolon)) R y ts rest → NoOps ANY ts
semicolon_stops (both {x = at} {mid = ts} is_tok r) = no_ops_semicolon at ts

ended_back : {y : Expr} {ts rest : List Tok} → IsEnded y ts rest →
    Both (IsExpr ANY) (λ e. Both (IsTok (mark Semicolon)) (λ s. Done e)) y ts rest
ended_back (ended h) = both h (both is_tok done)

pub ended_found : (room : ℕ) → FindsPart Anything IsEnded (ended_at room)
unfolding ended_at
ended_found room =
    production_found IsEnded
    (then_found {F = NoOps ANY} (λ e ts mid h f. any_found h room f) (λ x a y ts rest r f. semicolon_stops r)
    (and_found (sign_found Semicolon) (ends_found (λ x. x.0.1))))
    (λ y ts rest h. ended_back h)

pub condition_found : (room : ℕ) (e : Expr) (before behind : Span) (ts rest : List Tok) →
    IsExpr ANY e ts (tok (mark CloseParen) behind ∷ rest) →
    Finds (condition_at room (tok (mark OpenParen) before ∷ ts)) (e, rest)
unfolding condition_at open_at inside_at sign_at
condition_found zero e before behind ts rest h = deep (suc (length ts)) refl
condition_found (suc room) e before behind ts rest h = finds_then (expr_at room ts)
    (λ e. sign_at CloseParen e.1 >>= λ c. Ok (e.0, c.1)) (e, tok (mark CloseParen) behind ∷ rest) (e, rest)
    (any_found h room (no_ops_close behind rest)) (found refl)

-- ---- expressions with commas between them

-- a closing parenthesis comes next, before which an expression ends
abbrev pub ClosesAll : List Tok → Type 0
ClosesAll ts = Closes ts × NoOps ANY ts

pub arguments_found : (room r : ℕ) → room ≡ suc r →
    FindsPart ClosesAll (AreListed (IsExpr ANY)) (listed_at (inside_at room))
unfolding inside_at
arguments_found room r e =
    subst (λ (n : ℕ). FindsPart ClosesAll (AreListed (IsExpr ANY)) (listed_at (inside_at n))) (sym e)
    (listed_ended (NoOps ANY) (IsExpr ANY) (expr_at r) (λ x ts mid h stops. any_found h r stops) no_ops_comma
    (next_argument_shortens r) (λ x ts rest h. (expr_starts h).0))
