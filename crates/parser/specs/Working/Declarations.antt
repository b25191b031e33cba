-- Reading declarations and programs.
use Rattle.std.specs.Prelude.{ℕ, zero, suc, List, [], ◌∷◌, length, Result, Ok, Err}
use Rattle.source.specs.declared.span.Span.{Span}
use Rattle.source.specs.declared.token.Keyword.TheVariants.{Lock, Struct, Final, Ref, Global, Pool, Init, Atomic}
use Rattle.source.specs.declared.token.Keyword.TheVariants.{Thread, Repeat, Call}
use Rattle.source.specs.declared.token.Sign.TheVariants.{OpenBrace, CloseBrace, OpenParen, CloseParen, OpenBracket}
use Rattle.source.specs.declared.token.Sign.TheVariants.{Semicolon, Colon, Dot, Equals}
use Rattle.source.specs.Tokens.{Lexeme, word, mark, end, Tok}
use Rattle.syntax.specs.Trees as tree
use Rattle.syntax.specs.Trees.{Ident, ValueType, Const, Member, lock_member, final_member, field_member, Section}
use Rattle.syntax.specs.Trees.{Items, no_items, Decl, lock, struct, global, array, pool, init, atomic, helper, thread}
use Rattle.parser.specs.declared.stop.Stop.{Stop}
use Rattle.parser.specs.declared.stop.Stop.TheVariants.{Unexpected}
use Rattle.parser.specs.Working.Reading.{◌>>=◌, Reader, many_at, first_at, refused, sign_at, open_at, word_at}
use Rattle.parser.specs.Working.Reading.{name_at, int_at, next_until, listed_at, maybe_at, after_at, choose}
use Rattle.parser.specs.Working.Parts.{type_at, index_at, const_at, maybe_protection, params_at, classes_at}
use Rattle.parser.specs.Working.Statements.{braced_at}

-- reads a global that is an array, after its type and name
unfoldable pub array_at : ℕ → ValueType → Ident → Reader Decl
array_at room t x ts = do
  n ← index_at room ts
  p ← maybe_protection room n.1
  semicolon ← sign_at Semicolon p.1
  Ok (array (record { name = x; value_type = t; length = n.0; protection = p.0 }), semicolon.1)

unfoldable pub variable_at : ℕ → ValueType → Ident → Reader Decl
variable_at room t x ts = do
  p ← maybe_protection room ts
  v ← maybe_at (mark Equals) (after_at Equals (const_at room)) p.1
  semicolon ← sign_at Semicolon v.1
  Ok (global (record { name = x; value_type = t; protection = p.0; value = v.0 }), semicolon.1)

-- reads a global, after the word `global`
unfoldable pub global_at : ℕ → Reader Decl
global_at room ts = do
  t ← type_at ts
  x ← name_at t.1
  choose (mark OpenBracket) (array_at room t.0 x.0) (variable_at room t.0 x.0) x.1

-- reads a section, after the word `atomic`
unfoldable pub section_at : ℕ → Reader Section
section_at room ts = do
  x ← name_at ts
  ps ← params_at room x.1
  r ← maybe_at (mark Colon) (after_at Colon type_at) ps.1
  cs ← classes_at room r.1
  b ← braced_at room cs.1
  Ok (record { name = x.0; params = ps.0; result = r.0; listed = cs.0; body = record { stmts = b.0.0; close = b.0.1 } }, b.1)

-- reads a helper, after the word `call`
unfoldable pub helper_at : ℕ → Reader Section
helper_at room ts = do
  x ← name_at ts
  ps ← params_at room x.1
  r ← maybe_at (mark Colon) (after_at Colon type_at) ps.1
  b ← braced_at room r.1
  Ok (record { name = x.0; params = ps.0; result = r.0; listed = []; body = record { stmts = b.0.0; close = b.0.1 } }, b.1)

-- reads constants after an opening parenthesis, before which `room` signs could be opened
unfoldable pub consts_in : ℕ → Reader (List Const)
consts_in zero = refused
consts_in (suc room) = listed_at (const_at room)

unfoldable pub call_at : ℕ → Reader tree.Call
call_at room ts = do
  x ← name_at ts
  before ← open_at OpenParen room x.1
  cs ← consts_in room before.1
  after ← sign_at CloseParen cs.1
  semicolon ← sign_at Semicolon after.1
  Ok (record { section = x.0; arguments = cs.0 }, semicolon.1)

abbrev pub call_item : ℕ → Reader tree.Item
call_item room ts = do
  c ← call_at room ts
  Ok (tree.Item.call c.0, c.1)

unfoldable pub repeat_with : ℕ → Reader Items → Reader tree.Item
repeat_with room body ts = do
  start ← word_at Repeat ts
  n ← int_at start.1
  begin ← open_at OpenBrace room n.1
  is ← body begin.1
  close ← sign_at CloseBrace is.1
  Ok (tree.repeat n.0 is.0, close.1)

unfoldable pub item_with : ℕ → Reader Items → Reader tree.Item
item_with room body = choose (word Repeat) (repeat_with room body) (call_item room)

unfoldable pub items_with : Reader tree.Item → Reader Items
items_with item_reader = many_at no_items tree.item (next_until (mark CloseBrace) item_reader)

-- reads items after an opening brace, before which `room` signs could be opened
unfoldable pub items_in : ℕ → Reader Items
items_in zero = refused
items_in (suc room) = items_with (item_with room (items_in room))

abbrev pub item_at : ℕ → Reader tree.Item
item_at room = item_with room (items_in room)

-- reads a thread, after the word `thread`
unfoldable pub thread_at : ℕ → Reader tree.Thread
thread_at room ts = do
  x ← name_at ts
  begin ← open_at OpenBrace room x.1
  is ← items_in room begin.1
  close ← sign_at CloseBrace is.1
  Ok (record { name = x.0; items = is.0 }, close.1)

-- reads a lock, after the word `lock`
unfoldable pub lock_at : Reader Ident
lock_at ts = do
  x ← name_at ts
  semicolon ← sign_at Semicolon x.1
  Ok (x.0, semicolon.1)

-- reads a field
unfoldable pub field_at : ℕ → Reader Member
field_at room ts = do
  t ← type_at ts
  x ← name_at t.1
  p ← maybe_protection room x.1
  semicolon ← sign_at Semicolon p.1
  Ok (field_member (record { name = x.0; value_type = t.0; protection = p.0 }), semicolon.1)

unfoldable pub final_at : Reader Member
final_at ts = do
  start ← word_at Final ts
  ref ← word_at Ref start.1
  target ← name_at ref.1
  x ← name_at target.1
  semicolon ← sign_at Semicolon x.1
  Ok (final_member (record { name = x.0; target = target.0 }), semicolon.1)

unfoldable pub lock_member_at : Reader Member
lock_member_at ts = do
  start ← word_at Lock ts
  x ← lock_at start.1
  Ok (lock_member x.0, x.1)

abbrev pub member_at : ℕ → Reader Member
member_at room = choose (word Lock) lock_member_at (choose (word Final) final_at (field_at room))

unfoldable pub members_with : Reader Member → Reader (List Member)
members_with member_reader = many_at [] ◌∷◌ (next_until (mark CloseBrace) member_reader)

-- reads members after an opening brace, before which `room` signs could be opened
unfoldable pub members_in : ℕ → Reader (List Member)
members_in zero = refused
members_in (suc room) = members_with (member_at room)

-- reads a struct, after the word `struct`
unfoldable pub struct_at : ℕ → Reader tree.Struct
struct_at room ts = do
  x ← name_at ts
  begin ← open_at OpenBrace room x.1
  ms ← members_in room begin.1
  close ← sign_at CloseBrace ms.1
  Ok (record { name = x.0; members = ms.0 }, close.1)

-- reads a pool, after the word `pool`
unfoldable pub pool_at : ℕ → Reader tree.Pool
pool_at room ts = do
  target ← name_at ts
  x ← name_at target.1
  n ← index_at room x.1
  semicolon ← sign_at Semicolon n.1
  Ok (record { name = x.0; target = target.0; length = n.0 }, semicolon.1)

-- reads an `init`, after its first word
unfoldable pub init_at : ℕ → Span → Reader tree.Init
init_at room start ts = do
  p ← name_at ts
  n ← index_at room p.1
  dot ← sign_at Dot n.1
  x ← name_at dot.1
  equals ← sign_at Equals x.1
  c ← const_at room equals.1
  semicolon ← sign_at Semicolon c.1
  Ok (record { start = start; pool = p.0; index = n.0; field = x.0; value = c.0 }, semicolon.1)

abbrev pub decl_from : ℕ → Lexeme → Span → Reader Decl
decl_from room (word Lock) at ts = do
  x ← lock_at ts
  Ok (lock x.0, x.1)
decl_from room (word Struct) at ts = do
  s ← struct_at room ts
  Ok (struct s.0, s.1)
decl_from room (word Global) at ts = global_at room ts
decl_from room (word Pool) at ts = do
  p ← pool_at room ts
  Ok (pool p.0, p.1)
decl_from room (word Init) at ts = do
  i ← init_at room at ts
  Ok (init i.0, i.1)
decl_from room (word Atomic) at ts = do
  s ← section_at room ts
  Ok (atomic s.0, s.1)
decl_from room (word Call) at ts = do
  s ← helper_at room ts
  Ok (helper s.0, s.1)
decl_from room (word Thread) at ts = do
  t ← thread_at room ts
  Ok (thread t.0, t.1)
decl_from room _ at ts = refused ts

unfoldable pub decl_at : ℕ → Reader Decl
decl_at room = first_at (decl_from room)

unfoldable pub decls_at : ℕ → Reader (List Decl)
decls_at room = many_at [] ◌∷◌ (next_until end (decl_at room))

-- the declarations that were read, if the end of the text follows and is the last token
abbrev pub end_from : List Decl → List Tok → Result (List Decl) Stop
end_from ds [] = Err (Unexpected 0)
end_from ds (t ∷ []) = Ok ds
end_from ds (t ∷ u ∷ ts) = Err (Unexpected (suc (length ts)))

unfoldable pub program_at : ℕ → List Tok → Result (List Decl) Stop
program_at room ts = do
  ds ← decls_at room ts
  end_from ds.0 ds.1

-- the first byte of the first token
abbrev pub first_start : List Tok → ℕ
first_start [] = 0
first_start (t ∷ ts) = t.span.start
