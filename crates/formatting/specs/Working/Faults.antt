-- Faults of the tokens of one text.
use Rattle.std.specs.Prelude.{ℕ, List}
use Rattle.source.specs.declared.fault.Code.{Code}
use Rattle.source.specs.declared.fault.Refusal.{Refusal}
use Rattle.source.specs.Faults.{IsFaultAt}
use Rattle.source.specs.Tokens.{Tok}
use Rattle.source.specs.Texts.{HasTokens}
use Rattle.syntax.specs.Trees.{Decl}
use Rattle.syntax.specs.Faults.{HasRightTree, IsFault, IsRefusal}

-- the tokens of a text have at most one fault
abbrev pub HasOneFault : List ℕ → Type 0
HasOneFault text = (a b : List Tok) (code : Code) (start : ℕ) (r : Refusal) → HasTokens text a → HasTokens text b →
    IsFault b code start → IsRefusal a r → IsFaultAt code start r

-- the tokens of a text have no fault if they have a right tree
abbrev pub HasFaultOrTree : List ℕ → Type 0
HasFaultOrTree text = (a b : List Tok) (code : Code) (start : ℕ) (ds : List Decl) → HasTokens text a → HasTokens text b →
    IsFault b code start → HasRightTree a ds → ⊥
