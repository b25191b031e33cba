-- Reading types, constants, parameters, annotations, lock classes and optional parts.
use Rattle.std.specs.Prelude.{ℕ, List, [], ◌∷◌, Option, Ok, if◌then◌else◌}
use Rattle.source.specs.declared.span.Span.{Span}
use Rattle.source.specs.declared.token.Keyword.TheVariants.{Ref, Int, ProtectedBy, Null, Lock}
use Rattle.source.specs.declared.token.Sign.TheVariants.{OpenParen, CloseParen, OpenBracket, CloseBracket, Colon, Dot}
use Rattle.source.specs.declared.token.Sign.TheVariants.{Equals, Minus, Comma}
use Rattle.source.specs.Tokens.{Lexeme, name, word, mark}
use Rattle.source.specs.Tokens as lexeme
use Rattle.source.specs.declared.token.Number.{Number}
use Rattle.syntax.specs.Trees.{Ident, ValueType, int_type, ref_type, Const, int_const, negative, null_const}
use Rattle.syntax.specs.Trees.{member_const, Protection, Param, ClassName}
use Rattle.parser.specs.Working.Reading.{Reader, same_sign, first_at, refused, sign_at, open_at, word_at, name_at}
use Rattle.parser.specs.Working.Reading.{int_at, after_each, listed_at, maybe_at, after_at, choose, given, ◌>>=◌}

-- ---- types and constants

abbrev pub type_from : Lexeme → Span → Reader ValueType
type_from (word Int) at ts = Ok (int_type, ts)
type_from (word Ref) at ts = do
  target ← name_at ts
  Ok (ref_type target.0, target.1)
type_from _ at ts = refused ts

unfoldable pub type_at : Reader ValueType
type_at = first_at type_from

-- a number after its sign
abbrev pub negative_from : Span → Reader Const
negative_from at ts = do
  n ← int_at ts
  Ok (negative at n.0, n.1)

-- a number in brackets
unfoldable pub index_at : ℕ → Reader Number
index_at room ts = do
  begin ← open_at OpenBracket room ts
  n ← int_at begin.1
  close ← sign_at CloseBracket n.1
  Ok (n.0, close.1)

-- a member, after its pool's name
abbrev pub member_from : ℕ → Ident → Reader Const
member_from room x ts = do
  n ← index_at room ts
  Ok (member_const x n.0, n.1)

abbrev pub const_from : ℕ → Lexeme → Span → Reader Const
const_from room (lexeme.int n) at ts = Ok (int_const (record { value = n; span = at }), ts)
const_from room (name x) at ts = member_from room (record { text = x; span = at }) ts
const_from room (word Null) at ts = Ok (null_const at, ts)
const_from room (mark m) at ts = if same_sign m Minus then negative_from at ts else refused ts
const_from room _ at ts = refused ts

unfoldable pub const_at : ℕ → Reader Const
const_at room = first_at (const_from room)

-- ---- parameters

unfoldable pub param_at : Reader Param
param_at ts = do
  t ← type_at ts
  x ← name_at t.1
  Ok (record { name = x.0; value_type = t.0 }, x.1)

-- parameters in parentheses
unfoldable pub params_at : ℕ → Reader (List Param)
params_at room ts = do
  before ← open_at OpenParen room ts
  ps ← listed_at param_at before.1
  after ← sign_at CloseParen ps.1
  Ok (ps.0, after.1)

-- ---- annotations

unfoldable pub protection_at : ℕ → Reader Protection
protection_at room ts = do
  start ← word_at ProtectedBy ts
  begin ← open_at OpenParen room start.1
  first ← name_at begin.1
  more ← after_each Dot name_at first.1
  close ← sign_at CloseParen more.1
  Ok (record { first = first.0; rest = more.0 }, close.1)

-- an annotation, or nothing
abbrev pub maybe_protection : ℕ → Reader (Option Protection)
maybe_protection room = maybe_at (word ProtectedBy) (protection_at room)

-- ---- optional parts

-- a constant after `=`, or nothing
abbrev pub maybe_value : ℕ → Reader (Option Const)
maybe_value room = maybe_at (mark Equals) (after_at Equals (const_at room))

-- a type after `:`, or nothing
abbrev pub maybe_result : Reader (Option ValueType)
maybe_result = maybe_at (mark Colon) (after_at Colon type_at)

-- ---- lock classes that a section takes whole

unfoldable pub class_at : Reader ClassName
class_at ts = do
  s ← name_at ts
  dot ← sign_at Dot s.1
  l ← name_at dot.1
  Ok (record { structure = s.0; lock = l.0 }, l.1)

-- a class, and further ones after commas
unfoldable pub class_list_at : Reader (List ClassName)
class_list_at ts = do
  first ← class_at ts
  more ← after_each Comma class_at first.1
  Ok (first.0 ∷ more.0, more.1)

-- `lock` and classes in parentheses
unfoldable pub whole_at : ℕ → Reader (List ClassName)
whole_at room ts = do
  start ← word_at Lock ts
  begin ← open_at OpenParen room start.1
  cs ← class_list_at begin.1
  close ← sign_at CloseParen cs.1
  Ok (cs.0, close.1)

-- the classes, or nothing
abbrev pub classes_at : ℕ → Reader (List ClassName)
classes_at room = choose (word Lock) (whole_at room) (given [])
