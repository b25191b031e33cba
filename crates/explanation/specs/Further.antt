-- Faults that are reported with another: those after it, of the pass that found it.
use Rattle.std.specs.Prelude.{ℕ, Bool, List, [], ◌++◌, if◌then◌else◌, false, codes}
use Rattle.std.specs.List.{flat_map}
use Rattle.code.specs.Listing.{line}
use Rattle.source.specs.Codes.{code_name, code_text}
use Rattle.source.specs.declared.mistake.Mistake.{Mistake}
use Rattle.explanation.specs.declared.further.Further as written
use Rattle.explanation.specs.Notes.{labelled_text}

-- the faults, and whether more were found
pub record Further : Type 0 where
  pub faults : List Mistake
  pub more : Bool

-- the further faults that a value of the code stands for
abbrev pub further_of : written.Further → Further
further_of x = record { faults = x.faults.items; more = x.has_more }

-- no further faults
abbrev pub nothing_further : Further
nothing_further = record { faults = []; more = false }

-- FILE:LINE:COL: CODE TEXT, and the place
abbrev pub further_fault_text : List ℕ → List ℕ → Mistake → List ℕ
further_fault_text file text fault = labelled_text (code_name fault.code) file text fault.start (code_text fault.code)

-- a line that more faults were found, if so
abbrev pub more_text : Bool → List ℕ
more_text more = if more then line (codes "there are more faults") else []

-- the text of further faults
abbrev pub further_text : List ℕ → List ℕ → Further → List ℕ
further_text file text further = flat_map (further_fault_text file text) further.faults ++ more_text further.more
