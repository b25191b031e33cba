-- The faults of the grammar and of returns, as facts about the tokens.
use Rattle.std.specs.Prelude.{◌≡◌, ℕ, List, [], ◌∷◌, ◌++◌, string_bytes}
use Rattle.source.specs.declared.fault.Code.{Code}
use Rattle.source.specs.declared.fault.Code.TheVariants.{UnexpectedToken, NestedTooDeep, MisplacedReturn}
use Rattle.source.specs.declared.fault.Refusal.{Refusal}
use Rattle.source.specs.declared.fault.Refusal.TheVariants.{Fault, NoMemory}
use Rattle.source.specs.Tokens.{end, Tok}
use Rattle.syntax.specs.Trees.{Decl}
use Rattle.syntax.specs.Grammar.{Spells, nesting, IsOpening, NESTING_LIMIT, IsShallow, HasTree}
use Rattle.syntax.specs.Returns.{ReturnsRight, IsFirstReturnFault}

-- the tokens have this tree, and each `return` of the tree is in its place
abbrev pub HasRightTree : List Tok → List Decl → Type 0
HasRightTree ts ds = HasTree ts ds × ReturnsRight ds

-- E03: some program begins with the tokens before this one, whatever its nesting, and none with this token too; no
-- opening sign before it is too deep
pub record IsUnexpected (ts : List Tok) (start : ℕ) : Type 0 where
  pub before : List Tok
  pub token : Tok
  pub after : List Tok
  pub parts : ts ≡ before ++ token ∷ after
  pub place : token.span.start ≡ start
  pub begun : (ds : List Decl) × (other : List Tok) × Spells ds (before ++ other)
  pub shallow : IsShallow before
  pub no_program : (ds : List Decl) (other : List Tok) → Spells ds (before ++ token ∷ other) → ⊥

-- E04: the first opening sign at the nesting limit, such that some program begins with the tokens up to it, whatever
-- its nesting
pub record IsTooDeep (ts : List Tok) (start : ℕ) : Type 0 where
  pub before : List Tok
  pub token : Tok
  pub after : List Tok
  pub parts : ts ≡ before ++ token ∷ after
  pub place : token.span.start ≡ start
  pub opens : IsOpening token.kind
  pub deep : nesting 0 before ≡ NESTING_LIMIT
  pub first : IsShallow before
  pub expected : (ds : List Decl) × (other : List Tok) × Spells ds (before ++ token ∷ other)

-- E18: the tokens have a tree, whose first misplaced or missing `return` is at this byte
pub record IsMisplaced (ts : List Tok) (start : ℕ) : Type 0 where
  pub tree : List Decl
  pub has_tree : HasTree ts tree
  pub first : IsFirstReturnFault tree start

-- no token is the end of the text
abbrev pub NoEnd : List Tok → Type 0
NoEnd [] = Unit {0}
NoEnd (t ∷ ts) = (t.kind ≡ end → ⊥) × NoEnd ts

-- the fault of the grammar or of returns that the tokens have; where they have no end, E03 may be at byte 0 instead
pub data IsFault (ts : List Tok) : Code → ℕ → Type 0 where
  unended : NoEnd ts → IsFault ts UnexpectedToken 0
  unexpected : {start : ℕ} → IsUnexpected ts start → IsFault ts UnexpectedToken start
  too_deep : {start : ℕ} → IsTooDeep ts start → IsFault ts NestedTooDeep start
  misplaced : {start : ℕ} → IsMisplaced ts start → IsFault ts MisplacedReturn start

-- the refusal is such a fault, without detail, or the failure of an allocation
abbrev pub IsRefusal : List Tok → Refusal → Type 0
IsRefusal ts NoMemory = Unit {0}
IsRefusal ts (Fault f) = IsFault ts f.code f.start × (string_bytes f.detail ≡ [])
