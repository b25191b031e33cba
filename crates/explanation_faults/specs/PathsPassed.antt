-- Whether a section has too many lock paths.
use Rattle.std.specs.Prelude.{◌≡◌, ℕ, List, false}
use Rattle.core_lang.specs.declared.typed.Typed.{Typed}
use Rattle.core_lang_helpers.specs.Data.{IsExpanded}
use Rattle.locks.specs.Faults.{IsFault, IsOverLimit}
use Rattle.resolution.specs.Faults.{HasNoFault}
use Rattle.resolution.specs.Resolved.{Resolves}
use Rattle.source.specs.Mistakes.{goes_before}
use Rattle.source.specs.Tokens.{Tok}
use Rattle.source.specs.declared.fault.Code.{Code}
use Rattle.source.specs.declared.fault.Code.TheVariants.{LimitExceeded}
use Rattle.syntax.specs.Faults.{HasRightTree}
use Rattle.syntax.specs.Trees.{Decl}

-- the program is the expansion of what the tokens mean
pub record IsMeantProgram (tokens : List Tok) (written : Typed) : Type 0 where
  pub tree : List Decl
  pub program : Typed
  pub has_tree : HasRightTree tokens tree
  pub resolves : Resolves tree program
  pub expanded : IsExpanded program written

-- with the access that starts at this byte, a section of the program first has more lock paths than the limit
pub record ArePathsPast (tokens : List Tok) (at : ℕ) : Type 0 where
  pub written : Typed
  pub meant : IsMeantProgram tokens written
  pub past : IsOverLimit written at

-- no fault of lock paths goes before this one
abbrev pub IsFirstOfPaths : Typed → ℕ → Type 0
IsFirstOfPaths written at =
    IsFault written LimitExceeded at
    × ((code : Code) (p : ℕ) → IsFault written code p →
    goes_before (record { code = code; start = p }) (record { code = LimitExceeded; start = at }) ≡ false)

-- the tokens mean a program, and for each such program too many lock paths are the first fault
pub record ArePathsFirst (tokens : List Tok) (at : ℕ) : Type 0 where
  pub tree : List Decl
  pub has_tree : HasRightTree tokens tree
  pub faultless : HasNoFault tree
  pub first : (written : Typed) → IsMeantProgram tokens written → IsFirstOfPaths written at
