-- What the code of a file goes through. Nobody has to believe this file.
use Rattle.std.specs.Prelude.{◌≡◌, ℕ, List, map, slice_get, Some}
use Rattle.core_lang.specs.declared.tree.Section.{Section}
use Rattle.core_lang.specs.declared.typed.Typed.{Typed}
use Rattle.code.specs.declared.listed.Listed.{Listed}
use Rattle.code.specs.LineTables.{section_begins}
use Rattle.code.specs.Listing.{text_at}
use Rattle.code.specs.Lowering.{section_code, lists_at}
use Rattle.code.specs.Working.Asked.{lists_of}
use Rattle.locks.specs.LockPaths.{lock_path_of, lock_paths}
use Rattle.c_text.specs.declared.files.Marker.{Marker}
use Rattle.c_text.specs.Files.{Source}

-- the text of the section of a number
abbrev pub at_number : (ℕ → Section → List ℕ) → Typed → ℕ → List ℕ
at_number text program k = text_at (text k) program.sections.items k

-- the section of this number, with what belongs to it
pub record IsListed (program : Typed) (lists : List (List (List ℕ))) (k : ℕ) (listed : Listed) : Type 0 where
  pub section : slice_get program.sections.items k ≡ Some listed.section.now
  pub code : listed.code.now.instructions.items ≡ section_code (lists_of listed) listed.section.now
  pub own : lists_of listed ≡ lists_at lists k
  pub begins : listed.code.now.begins.items ≡ section_begins (lists_at lists k) listed.section.now
  pub paths : map lock_path_of listed.paths.now ≡ lock_paths program listed.section.now

abbrev pub file_in : Marker → Source
file_in x = record { name = x.name.now; text = x.cursor.text.now }
