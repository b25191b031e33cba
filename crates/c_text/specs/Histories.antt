-- The functions of a program's C text that write a history: a call's line, the cells, and the functions of the recorder
-- that a caller uses.
use Rattle.std.specs.Prelude.{ℕ, ◌==◌, not, List, [], ◌∷◌, ◌++◌, codes, string_bytes, Option, Some, None}
use Rattle.std.specs.List.{flat_map}
use Rattle.std.specs.Fmt.{decimal}
use Rattle.core_lang.specs.declared.tree.Local.{Local}
use Rattle.core_lang.specs.declared.tree.Section.{Section}
use Rattle.core_lang.specs.declared.typed.Typed.{Typed}
use Rattle.core_lang.specs.declared.value.ValueType.{ValueType}
use Rattle.core_lang.specs.declared.value.ValueType.TheVariants.{Integer, Reference}
use Rattle.locks.specs.Texts.{struct_name}
use Rattle.c_statements.specs.Acquires.{numbered}
use Rattle.c_sections.specs.Instructions.{where_true}
use Rattle.c_sections.specs.Sections.{parameters}
use Rattle.c_data.specs.Joined.{joined}
use Rattle.c_data.specs.Pools.{state_pointer, objects_text}
use Rattle.c_data.specs.Cells.{cells_text}

-- ---- the numbers of sections, with which a call begins

-- the name for the number of a section
unfoldable pub section_number : List ℕ → Section → List ℕ
section_number prefix section =
    joined (codes "  " ∷ prefix ∷ codes "Section_" ∷ string_bytes section.name ∷ codes ",\n" ∷ [])

-- the names for the numbers of all sections, in order
abbrev pub section_numbers : List ℕ → List Section → List ℕ
section_numbers prefix sections = flat_map (section_number prefix) sections

-- the constants of these numbers, and after them the number of sections
unfoldable pub numbers_text : List ℕ → List Section → List ℕ
numbers_text prefix sections =
    codes "#ifdef AL_HISTORY\nenum {\n" ++ section_numbers prefix sections
    ++ (codes "  " ++ prefix ++ codes "Sections\n};\n#endif\n")

-- ---- the line of a call, after its thread and its number

-- the comma before each argument but the first
unfoldable pub comma_text : ℕ → List ℕ
comma_text j = where_true (not (j == 0)) (codes "    fputs(\", \", f);\n")

module _ (prefix : List ℕ) (program : Typed) where
  -- the call that writes an object of a struct, whose address is a number
  unfoldable pub writer_text : ℕ → List ℕ
  writer_text s =
      (prefix ++ codes "Write_") ++ struct_name program s ++ (codes "(f, s, (struct " ++ prefix ++ codes "_")
      ++ struct_name program s ++ codes " *)(uintptr_t)"

  -- the statement that writes an argument
  unfoldable pub written_reference : ℕ → ℕ → List ℕ
  written_reference j s = codes "    " ++ writer_text s ++ (codes "a[" ++ decimal j ++ codes "]);\n")

  -- the statement that writes the argument with this number and type
  unfoldable pub written_text : ℕ → ValueType → List ℕ
  written_text j Integer = codes "    fprintf(f, \"%\" PRId64, a[" ++ decimal j ++ codes "]);\n"
  written_text j (Reference s) = written_reference j s

  -- the comma and the statement for an argument
  abbrev pub written_next : ℕ → Local → List ℕ
  written_next j local = comma_text j ++ written_text j local.value_type

  -- the statements that write all arguments
  abbrev pub all_written : List Local → List ℕ
  all_written locals = numbered written_next 0 locals

  -- the statement that writes how a call ended without a trap
  unfoldable pub reference_ending : ℕ → List ℕ
  reference_ending s =
      codes "    else {\n      fputs(\") returns \", f);\n      " ++ writer_text s
      ++ codes "value);\n      fputs(\"\\n\", f);\n    }\n"

  -- the statement that writes how a call ended without a trap, by the type of its result
  unfoldable pub ending_text : Option ValueType → List ℕ
  ending_text None = codes "    else fputs(\") ends\\n\", f);\n"
  ending_text (Some Integer) = codes "    else fprintf(f, \") returns %\" PRId64 \"\\n\", value);\n"
  ending_text (Some (Reference s)) = reference_ending s

  -- the case for a call of the section with a number
  unfoldable pub tell_text : ℕ → Section → List ℕ
  tell_text k section =
      joined (codes "  case " ∷ decimal k ∷ codes ":\n    fputs(\" " ∷ string_bytes section.name
      ∷ codes "(\", f);\n" ∷ [])
      ++ all_written (parameters section) ++ codes "    if (trap != 0) fprintf(f, \") traps %d\\n\", trap);\n"
      ++ ending_text section.result_type ++ codes "    break;\n"

  -- the cases of all sections
  abbrev pub all_tells : List ℕ
  all_tells = numbered tell_text 0 program.sections.items

-- the start of the function that writes the line of a call
unfoldable pub tell_start : List ℕ → List ℕ
tell_start prefix =
    (codes "AL_INLINE void " ++ prefix ++ codes "Tell(FILE *f, ") ++ state_pointer prefix
    ++ codes ", int section, const int64_t *a, int trap, int64_t value)\n{\n"
    ++ codes "  (void)f;\n  (void)s;\n  (void)a;\n  (void)trap;\n  (void)value;\n  switch (section) {\n"

-- the end of a function that switches over the numbers of sections
unfoldable pub cases_end : List ℕ
cases_end = codes "  default:\n    break;\n  }\n}\n"

-- the function that writes the line of a call
unfoldable pub tells_text : List ℕ → Typed → List ℕ
tells_text prefix program = tell_start prefix ++ all_tells prefix program ++ cases_end

-- ---- the functions that write calls and cells

-- all functions that write calls and cells
unfoldable pub shown_text : List ℕ → Typed → List ℕ
shown_text prefix program =
    codes "#if defined(AL_MAIN) || defined(AL_HISTORY)\n" ++ objects_text prefix program
    ++ tells_text prefix program ++ cells_text prefix program ++ codes "#endif\n"

-- ---- the functions of the recorder that a caller uses

-- opens a history, or continues it; 1 where memory is refused
unfoldable pub open_text : List ℕ → List ℕ
open_text prefix =
    joined (codes "#ifdef AL_HISTORY\nint " ∷ prefix ∷ codes "HistoryOpen(struct " ∷ prefix
    ∷ codes "State *s)\n{\n  if (s->history == NULL) s->history = autolock_history_open();\n"
    ∷ codes "  return s->history == NULL;\n}\n" ∷ [])

-- the number of the calling thread, or -1
unfoldable pub seat_text : List ℕ → List ℕ
seat_text prefix =
    joined (codes "int64_t " ∷ prefix ∷ codes "Seat(struct " ∷ prefix
    ∷ codes "State *s)\n{\n  struct autolock_seat *seat = s->history != NULL ? autolock_sit(s->history, -1) : NULL;\n"
    ∷ codes "  return seat != NULL ? seat->number : -1;\n}\n" ∷ [])

-- writes the history in format 2. A reader checks that nothing is written unless all places have their entries, and
-- that each call is written with its thread, its number and the length that it noted
unfoldable pub write_text : List ℕ → List ℕ
write_text prefix =
    joined (codes "int " ∷ prefix ∷ codes "HistoryWrite(FILE *f, struct " ∷ prefix
    ∷ codes "State *s)\n{\n  struct autolock_seat **at = s->history != NULL ? autolock_places(s->history) : NULL;\n"
    ∷ codes "  int64_t i;\n  if (at == NULL) return 1;\n  fputs(\"history 2\\n\", f);\n"
    ∷ codes "  for (i = 0; i < s->history->length; i++) {\n"
    ∷ codes "    const struct autolock_entry *e = autolock_next(at[i]);\n"
    ∷ codes "    fprintf(f, \"call %\" PRId64 \" %\" PRId64 \" %\" PRId64, at[i]->number, at[i]->told++, e->begun);\n    "
    ∷ prefix ∷ codes "Tell(f, s, e->section, e->word, e->trap, e->value);\n"
    ∷ codes "    autolock_write_prints(f, e->prints, e->word + e->arguments);\n  }\n  "
    ∷ prefix ∷ codes "Cells(f, s);\n  AL_FREE(at);\n  return fflush(f) != 0 || ferror(f) != 0;\n}\n" ∷ [])

-- drops the history
unfoldable pub close_text : List ℕ → List ℕ
close_text prefix =
    joined (codes "void " ∷ prefix ∷ codes "HistoryClose(struct " ∷ prefix
    ∷ codes "State *s)\n{\n  if (s->history != NULL) autolock_history_close(s->history);\n"
    ∷ codes "  s->history = NULL;\n}\n#endif\n" ∷ [])

-- the functions of the recorder that a caller uses
unfoldable pub histories_text : List ℕ → List ℕ
histories_text prefix = open_text prefix ++ seat_text prefix ++ write_text prefix ++ close_text prefix
