-- The verdicts on a recorded history.
use Rattle.std.specs.Prelude.{◌≡◌, ℕ, ◌+◌, true, List, [], ◌∷◌, ◌++◌, length}
use Rattle.core_lang.specs.declared.typed.Typed.{Typed}
use Rattle.input_files.specs.declared.format.Format.{Format}
use Rattle.replay.specs.declared.callers.Callers.{Callers}
use Rattle.replay.specs.declared.verdict.Verdict.{Verdict}
use Rattle.replay.specs.declared.verdict.Verdict.TheVariants.{Same, Differs, Unsettled}
use Rattle.replay.specs.Readers.{Reader, opened, Comes, Come, IsUnsettled}

-- the history has ended: `end` has come
pub record HasEnded (reader : Reader) : Type 0 where
  pub none_due : reader.due ≡ []
  pub closed : reader.closed ≡ true

-- the line may not come, and is not of a call that the turns don't settle
pub record IsOther (turns : ℕ) (callers : Callers) (format : Format) (program : Typed) (reader : Reader) (text : List ℕ) : Type 0 where
  pub not_coming : (after : Reader) → Comes turns callers format program reader after text → ⊥
  pub not_unsettled : IsUnsettled turns callers format program reader text → ⊥

-- the first of the lines is not one that may come; or there is none, and the history has not ended
abbrev pub Stops : ℕ → Callers → Format → Typed → Reader → List (List ℕ) → Type 0
Stops turns callers format program reader [] = HasEnded reader → ⊥
Stops turns callers format program reader (text ∷ more) = IsOther turns callers format program reader text

-- the lines before the one with this number came, and these lines are left; the first line of the file has the number 1
pub record Reaches (turns : ℕ) (callers : Callers) (format : Format) (program : Typed) (lines : List (List ℕ)) (number : ℕ) (reader : Reader) (rest : List (List ℕ)) : Type 0 where
  pub first : List (List ℕ)
  pub parts : lines ≡ first ++ rest
  pub numbered : number ≡ length first + 2
  pub came : Come turns callers format program (opened program) first reader

-- all lines came, and the history ended with the last one
pub record IsSame (turns : ℕ) (callers : Callers) (format : Format) (program : Typed) (lines : List (List ℕ)) : Type 0 where
  pub reader : Reader
  pub came : Come turns callers format program (opened program) lines reader
  pub ended : HasEnded reader

-- the line with this number is the first that may not come
pub record IsDiffering (turns : ℕ) (callers : Callers) (format : Format) (program : Typed) (lines : List (List ℕ)) (number : ℕ) : Type 0 where
  pub reader : Reader
  pub rest : List (List ℕ)
  pub reached : Reaches turns callers format program lines number reader rest
  pub stops : Stops turns callers format program reader rest

-- the lines before the one with this number came, and this line is of a call that the turns don't settle
pub record IsBeyond (turns : ℕ) (callers : Callers) (format : Format) (program : Typed) (lines : List (List ℕ)) (number : ℕ) : Type 0 where
  pub reader : Reader
  pub text : List ℕ
  pub more : List (List ℕ)
  pub reached : Reaches turns callers format program lines number reader (text ∷ more)
  pub unsettled : IsUnsettled turns callers format program reader text

-- the verdict holds of the lines of a history after its first line
abbrev pub Holds : ℕ → Callers → Format → Typed → List (List ℕ) → Verdict → Type 0
Holds turns callers format program lines Same = IsSame turns callers format program lines
Holds turns callers format program lines (Differs number) = IsDiffering turns callers format program lines number
Holds turns callers format program lines (Unsettled number) = IsBeyond turns callers format program lines number
