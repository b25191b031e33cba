-- Lines that are not lines of a next call.
use Rattle.std.proofs.Common.{◌≡◌, ◌∙◌, ℕ, true, List, [], ◌∷◌, sym}
use Rattle.std.specs.Prelude.{codes}
use Rattle.core_lang.specs.declared.typed.Typed.{Typed}
use Rattle.input_files.specs.declared.format.Format.{Format}
use Rattle.replay.specs.declared.callers.Callers.{Callers}
use Rattle.replay.specs.declared.progress.Progress.{Progress}
use Rattle.replay.specs.Readers.{Reader}
use Rattle.replay.specs.Working.Reading.{IsAt, IsNoCall}
use Rattle.replay.specs.Wanted.{NamesNone}
use Rattle.replay.proofs.Heads.{head_not_cells}

module _ (callers : Callers) (format : Format) (program : Typed) (reader : Reader) where
  -- a line is due
  pub due_names_none : (text line : List ℕ) (more : List (List ℕ)) → reader.due ≡ line ∷ more →
      NamesNone callers format program reader (text ∷ [])
  due_names_none text line more is call begun names = let e = sym names.0.none_due ∙ is in absurd (cc)

  -- the line `cells` has come
  pub closed_names_none : (text : List ℕ) → reader.closed ≡ true → NamesNone callers format program reader (text ∷ [])
  closed_names_none text closed call begun names = let e = sym closed ∙ names.0.still_open in absurd (cc)

  pub cells_name_none : NamesNone callers format program reader (codes "cells" ∷ [])
  cells_name_none call begun names = head_not_cells format program call begun names.1 names.2.told

  pub no_call_names_none : (at : Progress) (text : List ℕ) → IsAt program at reader → IsNoCall callers format program at text →
      NamesNone callers format program reader (text ∷ [])
  no_call_names_none at text is never call begun names = never reader call begun names.1 is names.2
