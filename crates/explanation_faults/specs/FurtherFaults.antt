-- The further faults of a text.
use Rattle.std.specs.Prelude.{◌≡◌, ◌≤◌, ℕ, List, ◌∷◌, length, map}
use Rattle.explanation.specs.Further.{Further, nothing_further}
use Rattle.resolution.specs.FirstFaults.{AreFirstFaults, Firsts, mistake_of}
use Rattle.source.specs.declared.fault.Code.{Code}
use Rattle.source.specs.declared.mistake.Mistake.{Mistake}
use Rattle.source.specs.Texts.{SOURCE_LIMIT}
use Rattle.source.specs.Tokens.{Tok}
use Rattle.syntax.specs.Trees.{Decl}
use Rattle.explanation_faults.specs.FaultNotes.{IsFirstFault}
use Rattle.explanation_faults.specs.TextNotes.{HasTextTree}

-- the further faults beside a fault of this code at this byte
pub data AreFurther (text : List ℕ) (code : Code) (at : ℕ) : Further → Type 0 where
  -- where it is the first fault of names and types: the others of the first faults of the text's tree
  others : {tokens : List Tok} {decls : List Decl} {s : Firsts} {fs : List Mistake} → length text ≤ SOURCE_LIMIT →
      HasTextTree text tokens decls → AreFirstFaults decls s → map mistake_of s.kept ≡ record { code = code; start = at } ∷ fs →
      AreFurther text code at (record { faults = fs; more = s.more })
  -- otherwise none
  none : ((tokens : List Tok) (decls : List Decl) → length text ≤ SOURCE_LIMIT → HasTextTree text tokens decls →
      IsFirstFault decls code at → ⊥) → AreFurther text code at nothing_further
