-- Reading statements.
use Rattle.std.specs.Prelude.{ℕ, zero, suc, Ok}
use Rattle.source.specs.declared.span.Span.{Span}
use Rattle.source.specs.declared.token.Keyword.TheVariants.{Let, Var, If, Else, While, Print, Return, Where, Call}
use Rattle.source.specs.declared.token.Sign.TheVariants.{OpenBrace, CloseBrace, OpenParen, CloseParen, Semicolon}
use Rattle.source.specs.declared.token.Sign.TheVariants.{Colon, Equals, DoubleEquals}
use Rattle.source.specs.Tokens.{Lexeme, name, word, mark}
use Rattle.syntax.specs.Trees.{Ident, ValueType, Expr, Local, Owner, HelperCall, CalledLocal, Stmt, let_local}
use Rattle.syntax.specs.Trees.{let_owned, let_call, var_local, assign, if_then, while, print, return_value, Stmts}
use Rattle.syntax.specs.Trees.{no_stmts, stmt, Otherwise, no_else, else_do}
use Rattle.parser.specs.Working.Reading.{◌>>=◌, Reader, many_at, first_at, refused, sign_at, open_at, word_at}
use Rattle.parser.specs.Working.Reading.{name_at, next_until, listed_at, choose}
use Rattle.parser.specs.Working.Parts.{type_at}
use Rattle.syntax.specs.Views.{ident, type_of}
use Rattle.parser.specs.declared.local.TypedName as the_typed_name
use Rattle.parser.specs.Working.Expressions.{place_at, inside_at, expr_at, ended_at, condition_at}

-- a local's name and type, and the position of the first word of its statement
pub record TypedName : Type 0 where
  pub start : Span
  pub name : Ident
  pub value_type : ValueType

abbrev pub typed_of : the_typed_name.TypedName → TypedName
typed_of t = record { start = t.start; name = ident t.name; value_type = type_of t.value_type }

abbrev pub local_with : TypedName → Expr → Local
local_with t e = record { start = t.start; name = t.name; value_type = t.value_type; value = e }

abbrev pub called_with : TypedName → HelperCall → CalledLocal
called_with t c = record { start = t.start; name = t.name; value_type = t.value_type; call = c }

-- reads a local's name and type, after the word `let` or `var` and up to the sign `=`
unfoldable pub typed_at : Span → Reader TypedName
typed_at start ts = do
  x ← name_at ts
  colon ← sign_at Colon x.1
  t ← type_at colon.1
  equals ← sign_at Equals t.1
  Ok (record { start = start; name = x.0; value_type = t.0 }, equals.1)

-- reads an owner, from the word `where` on
unfoldable pub owner_at : Reader Owner
owner_at ts = do
  start ← word_at Where ts
  field ← name_at start.1
  equals ← sign_at DoubleEquals field.1
  x ← name_at equals.1
  Ok (record { field = field.0; local = x.0 }, x.1)

-- reads the end of a `let` of this local: an owner and a semicolon, or a semicolon
abbrev pub owned_at : Local → Reader Stmt
owned_at l ts = do
  o ← owner_at ts
  semicolon ← sign_at Semicolon o.1
  Ok (let_owned l o.0, semicolon.1)

abbrev pub plain_at : Local → Reader Stmt
plain_at l ts = do
  semicolon ← sign_at Semicolon ts
  Ok (let_local l, semicolon.1)

-- reads a call of a helper, after the word `call` and up to the closing parenthesis
unfoldable pub helper_call_at : ℕ → Reader HelperCall
helper_call_at room ts = do
  x ← name_at ts
  before ← open_at OpenParen room x.1
  es ← listed_at (inside_at room) before.1
  after ← sign_at CloseParen es.1
  Ok (record { helper = x.0; arguments = es.0 }, after.1)

-- reads a `let` after its sign `=`: a value and its end, or a call
abbrev pub valued_at : ℕ → TypedName → Reader Stmt
valued_at room t ts = do
  e ← expr_at room ts
  choose (word Where) (owned_at (local_with t e.0)) (plain_at (local_with t e.0)) e.1

abbrev pub called_at : ℕ → TypedName → Reader Stmt
called_at room t ts = do
  start ← word_at Call ts
  c ← helper_call_at room start.1
  semicolon ← sign_at Semicolon c.1
  Ok (let_call (called_with t c.0), semicolon.1)

-- reads a `let`, after its first word
unfoldable pub let_at : ℕ → Span → Reader Stmt
let_at room start ts = do
  t ← typed_at start ts
  choose (word Call) (called_at room t.0) (valued_at room t.0) t.1

-- reads a `var`, after its first word
unfoldable pub var_at : ℕ → Span → Reader Stmt
var_at room start ts = do
  t ← typed_at start ts
  e ← ended_at room t.1
  Ok (var_local (local_with t.0 e.0), e.1)

-- reads the statement of a call, after the word `call`
unfoldable pub call_stmt_at : ℕ → Span → Reader Stmt
call_stmt_at room start ts = do
  c ← helper_call_at room ts
  semicolon ← sign_at Semicolon c.1
  Ok (Stmt.call start c.0, semicolon.1)

-- reads an assignment, after its first name
unfoldable pub assign_at : ℕ → Ident → Reader Stmt
assign_at room x ts = do
  p ← place_at room (inside_at room) x ts
  equals ← sign_at Equals p.1
  e ← ended_at room equals.1
  Ok (assign p.0 e.0, e.1)

-- reads statements in braces; the argument reads those after the opening one
unfoldable pub braced_with : ℕ → Reader Stmts → Reader (Stmts × Span)
braced_with room body ts = do
  begin ← open_at OpenBrace room ts
  ss ← body begin.1
  close ← sign_at CloseBrace ss.1
  Ok ((ss.0, close.0), close.1)

abbrev pub some_else : ℕ → Reader Stmts → Reader Otherwise
some_else room body ts = do
  start ← word_at Else ts
  b ← braced_with room body start.1
  Ok (else_do b.0.0 b.0.1, b.1)

abbrev pub nothing_else : Reader Otherwise
nothing_else ts = Ok (no_else, ts)

abbrev pub else_with : ℕ → Reader Stmts → Reader Otherwise
else_with room body = choose (word Else) (some_else room body) nothing_else

-- reads an `if`, after its first word
unfoldable pub if_with : ℕ → Reader Stmts → Span → Reader Stmt
if_with room body start ts = do
  e ← condition_at room ts
  b ← braced_with room body e.1
  o ← else_with room body b.1
  Ok (if_then start e.0 b.0.0 b.0.1 o.0, o.1)

-- reads a `while`, after its first word
unfoldable pub while_with : ℕ → Reader Stmts → Span → Reader Stmt
while_with room body start ts = do
  e ← condition_at room ts
  b ← braced_with room body e.1
  Ok (while start e.0 b.0.0 b.0.1, b.1)

abbrev pub stmt_from : ℕ → Reader Stmts → Lexeme → Span → Reader Stmt
stmt_from room body (name x) at ts = assign_at room (record { text = x; span = at }) ts
stmt_from room body (word Let) at ts = let_at room at ts
stmt_from room body (word Var) at ts = var_at room at ts
stmt_from room body (word If) at ts = if_with room body at ts
stmt_from room body (word While) at ts = while_with room body at ts
stmt_from room body (word Print) at ts = do
  e ← ended_at room ts
  Ok (print at e.0, e.1)
stmt_from room body (word Return) at ts = do
  e ← ended_at room ts
  Ok (return_value at e.0, e.1)
stmt_from room body (word Call) at ts = call_stmt_at room at ts
stmt_from room body _ at ts = refused ts

unfoldable pub stmt_with : ℕ → Reader Stmts → Reader Stmt
stmt_with room body = first_at (stmt_from room body)

unfoldable pub stmts_with : Reader Stmt → Reader Stmts
stmts_with stmt_reader = many_at no_stmts stmt (next_until (mark CloseBrace) stmt_reader)

-- reads statements after an opening brace, before which `room` signs could be opened
unfoldable pub stmts_in : ℕ → Reader Stmts
stmts_in zero = refused
stmts_in (suc room) = stmts_with (stmt_with room (stmts_in room))

abbrev pub stmt_at : ℕ → Reader Stmt
stmt_at room = stmt_with room (stmts_in room)

abbrev pub braced_at : ℕ → Reader (Stmts × Span)
braced_at room = braced_with room (stmts_in room)
