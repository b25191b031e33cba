-- The C text of a whole program: the header, which has the parts that another file can use, and the file, which begins
-- with the header.
use Rattle.std.specs.Prelude.{ℕ, Bool, List, [], ◌∷◌, ◌++◌, Option, Some, None, option_map, codes}
use Rattle.core_lang.specs.declared.tree.Section.{Section}
use Rattle.core_lang.specs.declared.typed.Typed.{Typed}
use Rattle.code.specs.LineTables.{section_begins}
use Rattle.code.specs.Lowering.{section_code, lists_at}
use Rattle.c_data.specs.Joined.{joined}
use Rattle.c_text.specs.declared.files.SourceFile.{SourceFile}
use Rattle.c_statements.specs.Acquires.{numbered}
use Rattle.c_sections.specs.Instructions.{prints}
use Rattle.c_sections.specs.Marks.{mark}
use Rattle.c_sections.specs.Sections.{prototype_text, section_text}
use Rattle.c_text.specs.Fixed as fixed
use Rattle.c_data.specs.Types.{types_text}
use Rattle.c_data.specs.Openings.{openings_text}
use Rattle.c_data.specs.Pools.{tests_text}
use Rattle.c_text.specs.Recording.{recorder_text}
use Rattle.c_text.specs.Histories.{numbers_text, shown_text, histories_text, cases_end}
use Rattle.c_text.specs.Mains.{scripts_text, case_text, call_start, run_all}

-- the program's file: its name, and its text
pub record Source : Type 0 where
  pub name : List ℕ
  pub text : List ℕ

-- the name and the text of the program's file
abbrev pub file_of : SourceFile → Source
file_of x = record { name = x.name.now; text = x.text.now }

-- that file, where its lines are to be marked
abbrev pub source_of : Option SourceFile → Option Source
source_of x = option_map file_of x

-- whether the section with a number prints, given the lists of lock paths before its points
abbrev pub is_printing : List (List (List ℕ)) → ℕ → Section → Bool
is_printing lists k section = prints (section_code (lists_at lists k) section)

-- the first lines of the header, which is read only once where it is included twice
unfoldable pub head_text : List ℕ → List ℕ
head_text prefix =
    joined (codes "/* Sections with their locks placed, by autolock. */\n#ifndef " ∷ prefix ∷ codes "Header\n#define "
    ∷ prefix
    ∷ codes "Header\n" ∷ [])

-- over the prefix, the program, and the lists of lock paths before the points of each section
module _ (prefix : List ℕ) (program : Typed) (lists : List (List (List ℕ))) where
  -- ---- the texts for the section with a number

  -- the prototype of the section
  unfoldable pub prototype_of : ℕ → Section → List ℕ
  prototype_of k section = prototype_text prefix program section (is_printing lists k section) ++ codes ";\n"

  -- the function of the section, without lines of the program's file
  unfoldable pub section_of : ℕ → Section → List ℕ
  section_of k section = section_text prefix program section (lists_at lists k) None

  -- the section whose C has the lines of the program's file
  unfoldable pub marked_of : Source → ℕ → Section → List ℕ
  marked_of source k section =
      section_text prefix program section (lists_at lists k)
      (Some (mark source.name source.text section (section_begins (lists_at lists k) section)))

  -- the case for a call of the section
  unfoldable pub case_of : ℕ → Section → List ℕ
  case_of k section = case_text prefix program k section (is_printing lists k section)

  -- the prototypes of all sections
  abbrev pub prototypes_text : List ℕ
  prototypes_text = numbered prototype_of 0 program.sections.items

  -- the functions of all sections, with lines of the program's file where it is given
  abbrev pub sections_text : Option Source → List ℕ
  sections_text None = numbered section_of 0 program.sections.items
  sections_text (Some source) = numbered (marked_of source) 0 program.sections.items

  -- the cases of all sections
  abbrev pub cases_text : List ℕ
  cases_text = numbered case_of 0 program.sections.items

  -- ---- the header

  -- the whole header
  unfoldable pub header_text : List ℕ
  header_text =
      head_text prefix ++ fixed.types_text ++ fixed.opened_text ++ types_text prefix program ++ prototypes_text
      ++ fixed.closed_text

  -- ---- the file

  -- the functions
  unfoldable pub functions_text : Option Source → List ℕ
  functions_text source =
      fixed.arithmetic_text ++ fixed.locking_text ++ recorder_text ++ tests_text prefix program
      ++ openings_text prefix program ++ numbers_text prefix program.sections.items ++ sections_text source

  -- the program that runs the threads
  unfoldable pub main_text : List ℕ
  main_text =
      fixed.runs_text ++ scripts_text prefix program.threads.items ++ call_start prefix ++ cases_text ++ cases_end
      ++ run_all prefix

  -- the file, with the lines of the program's file where they are to be marked
  unfoldable pub file_text : Option Source → List ℕ
  file_text source =
      header_text ++ functions_text source ++ shown_text prefix program ++ histories_text prefix ++ main_text
