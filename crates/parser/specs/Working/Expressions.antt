-- Reading places, expressions and conditions.
use Rattle.std.specs.Prelude.{ℕ, zero, suc, List, [], ◌∷◌, Option, Some, None, Result, Ok, if◌then◌else◌}
use Rattle.source.specs.declared.span.Span.{Span}
use Rattle.source.specs.declared.token.Keyword.TheVariants.{Null}
use Rattle.source.specs.declared.token.Sign.TheVariants.{OpenParen, CloseParen, OpenBracket, CloseBracket, Semicolon}
use Rattle.source.specs.declared.token.Sign.TheVariants.{Dot, DoubleEquals, NotEquals, Less, LessEquals, Greater}
use Rattle.source.specs.declared.token.Sign.TheVariants.{GreaterEquals, Plus, Minus, Star, Slash, Percent, And, Or}
use Rattle.source.specs.declared.token.Sign.TheVariants.{Not}
use Rattle.source.specs.Tokens.{Lexeme, name, word, mark, Tok}
use Rattle.source.specs.Tokens as lexeme
use Rattle.syntax.specs.declared.tree.Operator.{Operator}
use Rattle.syntax.specs.declared.tree.Operator.TheVariants as op
use Rattle.syntax.specs.declared.tree.Operator.TheVariants.{Add, Sub, Mul, Div, Rem}
use Rattle.syntax.specs.declared.tree.Level.{Level}
use Rattle.syntax.specs.declared.tree.Level.TheVariants.{Term, Sum, Conjunction, Disjunction}
use Rattle.syntax.specs.declared.tree.Prefix.{Prefix}
use Rattle.syntax.specs.declared.tree.Prefix.TheVariants as prefix_case
use Rattle.syntax.specs.declared.tree.Comparison.{Comparison}
use Rattle.syntax.specs.declared.tree.Comparison.TheVariants as comparison
use Rattle.syntax.specs.Trees.{Ident, Place, lone, element, path, Expr, int, null, place, paren, prefix, chain}
use Rattle.syntax.specs.Trees.{compare, Links, no_links, link}
use Rattle.parser.specs.declared.stop.Stop.{Stop}
use Rattle.parser.specs.Working.Reading.{◌>>=◌, Reader, Next, many_at, same_sign, first_at, refused, too_deep}
use Rattle.parser.specs.Working.Reading.{sign_at, open_at, name_at, after_each, choose}

abbrev pub op_of : Level → Lexeme → Option Operator
op_of Sum (mark Plus) = Some Add
op_of Sum (mark Minus) = Some Sub
op_of Term (mark Star) = Some Mul
op_of Term (mark Slash) = Some Div
op_of Term (mark Percent) = Some Rem
op_of Conjunction (mark And) = Some op.And
op_of Disjunction (mark Or) = Some op.Or
op_of _ _ = None

abbrev pub before_rest : {A : Type 0} → Option A → List Tok → Option (A × List Tok)
before_rest None ts = None
before_rest (Some x) ts = Some (x, ts)

unfoldable pub op_at : Level → List Tok → Option (Operator × List Tok)
op_at k [] = None
op_at k (t ∷ ts) = before_rest (op_of k t.kind) ts

-- an operator and its operand, if an operator comes next
abbrev pub link_from : Reader Expr → Option (Operator × List Tok) → Option (Result ((Operator × Expr) × List Tok) Stop)
link_from operand None = None
link_from operand (Some o) = Some (operand o.1 >>= λ x. Ok ((o.0, x.0), x.1))

abbrev pub next_link : Reader Expr → Level → Next (Operator × Expr)
next_link operand k ts = link_from operand (op_at k ts)

abbrev pub add_link : Operator × Expr → Links → Links
add_link o more = link o.0 o.1 more

abbrev pub links_at : Reader Expr → Level → Reader Links
links_at operand k = many_at no_links add_link (next_link operand k)

abbrev pub chained : Level → Expr → Links → Expr
chained k e no_links = e
chained k e (link op x more) = chain k e (link op x more)

-- the links of a chain, after the first
abbrev pub links_behind : Reader Expr → Level → Operator × Expr → Reader Links
links_behind operand k o ts = do
  l ← links_at operand k ts
  Ok (add_link o l.0, l.1)

unfoldable pub chain_at : Reader Expr → Level → Reader Expr
chain_at operand k ts = do
  first ← operand ts
  l ← links_at operand k first.1
  Ok (chained k first.0 l.0, l.1)

-- an element, after its array's or pool's name
unfoldable pub element_at : ℕ → Reader Expr → Ident → Reader Place
element_at room inner x ts = do
  begin ← open_at OpenBracket room ts
  e ← inner begin.1
  close ← sign_at CloseBracket e.1
  Ok (element x e.0, close.1)

-- one field or more, each after a dot
unfoldable pub fields_at : Reader (List Ident)
fields_at ts = do
  dot ← sign_at Dot ts
  first ← name_at dot.1
  more ← after_each Dot name_at first.1
  Ok (first.0 ∷ more.0, more.1)

abbrev pub path_at : Ident → Reader Place
path_at x ts = do
  fs ← fields_at ts
  Ok (path x fs.0, fs.1)

abbrev pub alone_at : Ident → Reader Place
alone_at x ts = Ok (lone x, ts)

-- a place, after its first name
abbrev pub place_at : ℕ → Reader Expr → Ident → Reader Place
place_at room inner x = choose (mark OpenBracket) (element_at room inner x) (choose (mark Dot) (path_at x) (alone_at x))

-- reads an expression in parentheses, after the opening one
abbrev pub in_parens : Reader Expr → Span → Reader Expr
in_parens inner at ts = do
  e ← inner ts
  c ← sign_at CloseParen e.1
  Ok (paren at e.0, c.1)

abbrev pub parens_at : ℕ → Reader Expr → Span → Reader Expr
parens_at zero inner at ts = too_deep ts
parens_at (suc room) inner at ts = in_parens inner at ts

-- reads a number, `null`, a place or an expression in parentheses, after its first token; `room` signs may be opened,
-- and `inner` reads what follows one
abbrev pub prim_from : ℕ → Reader Expr → Lexeme → Span → Reader Expr
prim_from room inner (lexeme.int n) at ts = Ok (int (record { value = n; span = at }), ts)
prim_from room inner (word Null) at ts = Ok (null at, ts)
prim_from room inner (name x) at ts = do
  p ← place_at room inner (record { text = x; span = at }) ts
  Ok (place p.0, p.1)
prim_from room inner (mark m) at ts = if same_sign m OpenParen then parens_at room inner at ts else refused ts
prim_from room inner _ at ts = refused ts

unfoldable pub prim_with : ℕ → Reader Expr → Reader Expr
prim_with room inner = first_at (prim_from room inner)

-- an operator before an operand
abbrev pub prefix_of : Lexeme → Option Prefix
prefix_of (mark Minus) = Some prefix_case.Negate
prefix_of (mark Not) = Some prefix_case.Not
prefix_of _ = None

abbrev pub prefix_from : Option Prefix → Span → List Tok → Option ((Prefix × Span) × List Tok)
prefix_from None at ts = None
prefix_from (Some op) at ts = Some ((op, at), ts)

unfoldable pub prefix_at : List Tok → Option ((Prefix × Span) × List Tok)
prefix_at [] = None
prefix_at (t ∷ ts) = prefix_from (prefix_of t.kind) t.span ts

abbrev pub unary_from : Reader Expr → Option ((Prefix × Span) × List Tok) → Reader Expr
unary_from prim None ts = prim ts
unary_from prim (Some p) ts = do
  e ← prim p.1
  Ok (prefix p.0.0 p.0.1 e.0, e.1)

unfoldable pub unary_with : Reader Expr → Reader Expr
unary_with prim ts = unary_from prim (prefix_at ts) ts

abbrev pub comparison_of : Lexeme → Option Comparison
comparison_of (mark DoubleEquals) = Some comparison.Equal
comparison_of (mark NotEquals) = Some comparison.NotEqual
comparison_of (mark Less) = Some comparison.Less
comparison_of (mark LessEquals) = Some comparison.LessOrEqual
comparison_of (mark Greater) = Some comparison.Greater
comparison_of (mark GreaterEquals) = Some comparison.GreaterOrEqual
comparison_of _ = None

unfoldable pub comparison_at : List Tok → Option (Comparison × List Tok)
comparison_at [] = None
comparison_at (t ∷ ts) = before_rest (comparison_of t.kind) ts

-- reads the comparison that may follow a sum, and the sum after it
abbrev pub compared_from : Reader Expr → Expr → Option (Comparison × List Tok) → Reader Expr
compared_from sum left None ts = Ok (left, ts)
compared_from sum left (Some c) ts = do
  right ← sum c.1
  Ok (compare left c.0 right.0, right.1)

-- a sum, or two with a comparison between them
unfoldable pub compared_with : Reader Expr → Reader Expr
compared_with sum ts = do
  left ← sum ts
  compared_from sum left.0 (comparison_at left.1) left.1

abbrev pub sum_with : Reader Expr → Reader Expr
sum_with prim = chain_at (chain_at (unary_with prim) Term) Sum

-- the reader of a level's operands, given that of the tightest expressions
abbrev pub operand_with : Level → Reader Expr → Reader Expr
operand_with Term prim = unary_with prim
operand_with Sum prim = chain_at (unary_with prim) Term
operand_with Conjunction prim = compared_with (sum_with prim)
operand_with Disjunction prim = chain_at (compared_with (sum_with prim)) Conjunction

abbrev pub level_with : Level → Reader Expr → Reader Expr
level_with k prim = chain_at (operand_with k prim) k

-- reads an expression after an opening sign, before which `room` signs could be opened
unfoldable pub inside_at : ℕ → Reader Expr
inside_at zero = refused
inside_at (suc room) = level_with Disjunction (prim_with room (inside_at room))

abbrev pub prim_at : ℕ → Reader Expr
prim_at room = prim_with room (inside_at room)

abbrev pub operand_at : Level → ℕ → Reader Expr
operand_at k room = operand_with k (prim_at room)

-- the links of a level's chain, after the first
abbrev pub level_links : Level → ℕ → Operator × Expr → Reader Links
level_links k room = links_behind (operand_at k room) k

abbrev pub level_at : Level → ℕ → Reader Expr
level_at k room = level_with k (prim_at room)

-- any expression
abbrev pub expr_at : ℕ → Reader Expr
expr_at room = level_at Disjunction room

-- ---- expressions with what ends them

-- an expression and the semicolon after it
unfoldable pub ended_at : ℕ → Reader Expr
ended_at room ts = do
  e ← expr_at room ts
  semicolon ← sign_at Semicolon e.1
  Ok (e.0, semicolon.1)

-- an expression in parentheses
unfoldable pub condition_at : ℕ → Reader Expr
condition_at room ts = do
  before ← open_at OpenParen room ts
  e ← inside_at room before.1
  after ← sign_at CloseParen e.1
  Ok (e.0, after.1)
