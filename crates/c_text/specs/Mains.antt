-- The program that runs the threads, which the C text has where AL_MAIN is defined. Run with the word `serial`, it
-- makes the calls thread after thread and writes their history; otherwise it makes the calls of each thread in a thread
-- of its own, and writes the cells or, where AL_HISTORY is defined too, the history.
use Rattle.std.specs.Prelude.{ℕ, Bool, List, [], ◌∷◌, ◌++◌, codes, string_bytes, Option, Some, None}
use Rattle.std.specs.List.{flat_map}
use Rattle.std.specs.Fmt.{decimal}
use Rattle.core_lang.specs.declared.tree.Local.{Local}
use Rattle.core_lang.specs.declared.tree.Section.{Section}
use Rattle.core_lang.specs.declared.typed.Call.{Call}
use Rattle.core_lang.specs.declared.typed.Thread.{Thread}
use Rattle.core_lang.specs.declared.typed.Typed.{Typed}
use Rattle.core_lang.specs.declared.value.Value.{Value}
use Rattle.core_lang.specs.declared.value.Value.TheVariants.{Int, Ref}
use Rattle.core_lang.specs.declared.value.ValueType.{ValueType}
use Rattle.core_lang.specs.declared.value.ValueType.TheVariants.{Integer, Reference}
use Rattle.locks.specs.Texts.{struct_name}
use Rattle.c_data.specs.Joined.{joined}
use Rattle.c_statements.specs.Acquires.{numbered}
use Rattle.c_sections.specs.Instructions.{where_true}
use Rattle.c_statements.specs.Names.{number_text}
use Rattle.c_sections.specs.Sections.{parameters, result_struct, cast_text}
use Rattle.c_data.specs.Pools.{state_pointer}

-- ---- the threads' calls

-- an argument: a number, or the number of an object, or -1 for null
abbrev pub argument_text : Value → List ℕ
argument_text (Int n) = number_text n
argument_text (Ref None) = codes "-1"
argument_text (Ref (Some object)) = decimal object

-- the arguments of a call; C does not have an empty list of values
abbrev pub arguments_text : List Value → List ℕ
arguments_text [] = codes "0"
arguments_text (value ∷ values) = argument_text value ++ flat_map (λ v. codes ", " ++ argument_text v) values

-- a call: the number of its section, and its arguments
unfoldable pub call_text : Call → List ℕ
call_text call =
    (codes "  { " ++ decimal call.section ++ codes ", { ") ++ arguments_text call.arguments.items ++ codes " } },\n"

-- calls one after another
abbrev pub calls_text : List Call → List ℕ
calls_text calls = flat_map call_text calls

-- the calls of the thread with this number; a call of section -1 ends them
unfoldable pub script_text : List ℕ → ℕ → Thread → List ℕ
script_text prefix k thread =
    joined (codes "static const struct autolock_call " ∷ prefix ∷ codes "Script_" ∷ decimal k ∷ codes "[] = {\n" ∷ [])
    ++ calls_text thread.calls.items ++ codes "  { -1, { 0 } }\n};\n"

-- the name of the script of the thread with this number
unfoldable pub script_name : List ℕ → ℕ → Thread → List ℕ
script_name prefix k thread = joined (codes "  " ∷ prefix ∷ codes "Script_" ∷ decimal k ∷ codes ",\n" ∷ [])

-- the scripts of all threads
abbrev pub all_scripts : List ℕ → List Thread → List ℕ
all_scripts prefix threads = numbered (script_text prefix) 0 threads

-- the names of all scripts, in order
abbrev pub script_names : List ℕ → List Thread → List ℕ
script_names prefix threads = numbered (script_name prefix) 0 threads

-- the scripts, and the list of them, which NULL ends
unfoldable pub scripts_text : List ℕ → List Thread → List ℕ
scripts_text prefix threads =
    all_scripts prefix threads ++ (codes "static const struct autolock_call *const " ++ prefix
    ++ codes "Scripts[] = {\n")
    ++ script_names prefix threads ++ codes "  NULL\n};\n"

-- ---- a call, and its lines in the history

-- the texts for a section that prints
unfoldable pub prints_declared : Bool → List ℕ
prints_declared prints = where_true prints (codes "    struct autolock_prints out;\n")

-- the argument for the prints, if the section prints
unfoldable pub prints_passed : Bool → List ℕ
prints_passed prints = where_true prints (codes ", &out")

-- the statement that writes the prints, if the section prints
unfoldable pub prints_written : Bool → List ℕ
prints_written prints = where_true prints (codes "    autolock_write_prints(f, out.count, out.value);\n")

-- the result as a number
abbrev pub result_word : Option ValueType → List ℕ
result_word None = codes "0"
result_word (Some t) = cast_text t ++ codes "r.value"

module _ (prefix : List ℕ) (program : Typed) where
  -- an argument, by its number and its type
  abbrev pub passed_text : ℕ → ValueType → List ℕ
  passed_text j Integer = codes "a[" ++ decimal j ++ codes "]"
  passed_text j (Reference s) =
      (prefix ++ codes "At_") ++ struct_name program s ++ (codes "(s, a[" ++ decimal j ++ codes "])")

  -- a comma and the argument
  abbrev pub passed_next : ℕ → Local → List ℕ
  passed_next j local = codes ", " ++ passed_text j local.value_type

  -- all arguments, each after a comma
  abbrev pub all_passed : List Local → List ℕ
  all_passed locals = numbered passed_next 0 locals

  -- the call of a section, which prints or not
  unfoldable pub made_text : Section → Bool → List ℕ
  made_text section prints =
      prints_declared prints ++ codes "    struct " ++ result_struct prefix program section.result_type
      ++ joined (codes " r = " ∷ prefix ∷ codes "_" ∷ string_bytes section.name ∷ codes "(s" ∷ [])
      ++ all_passed (parameters section)
      ++ prints_passed prints ++ codes ");\n"

  -- an argument as a number, and the text up to the next one
  unfoldable pub word_next : ℕ → Local → List ℕ
  word_next j local = cast_text local.value_type ++ passed_text j local.value_type ++ codes ", "

  -- all arguments as numbers
  abbrev pub all_words : List Local → List ℕ
  all_words locals = numbered word_next 0 locals

  -- the statements that write the lines of a call, which has at most 8 arguments
  unfoldable pub told_text : Section → Bool → List ℕ
  told_text section prints =
      (codes "    fprintf(f, \"call %d %\" PRId64, t, k);\n    " ++ prefix
      ++ codes "Tell(f, s, c->section, (const int64_t[9]) { ")
      ++ all_words (parameters section) ++ codes "0 }, r.trap, " ++ result_word section.result_type ++ codes ");\n"
      ++ prints_written prints

  -- the case for a call of the section with this number
  unfoldable pub case_text : ℕ → Section → Bool → List ℕ
  case_text k section prints =
      (codes "  case " ++ decimal k ++ codes ": {\n") ++ made_text section prints
      ++ codes "    if (f == NULL) break;\n"
      ++ told_text section prints ++ codes "    break;\n  }\n"

-- ---- the text around the cases of a call

-- the start of the function that makes a call, and writes its lines where there is a file
unfoldable pub call_start : List ℕ → List ℕ
call_start prefix =
    (codes "static void " ++ prefix ++ codes "Call(FILE *f, ") ++ state_pointer prefix
    ++ codes ", int t, int64_t k, const struct autolock_call *c)\n{\n"
    ++ codes "  const int64_t *a = c->a;\n  (void)f;\n  (void)s;\n  (void)t;\n"
    ++ codes "  (void)k;\n  (void)a;\n  switch (c->section) {\n"

-- ---- the run

-- the function of a thread: the calls of its script; where there is a history, its seat has the script's number. A
-- reader checks that it begins at the start of the script and stops at section -1
unfoldable pub run_text : List ℕ → List ℕ
run_text prefix =
    joined (codes "static struct " ∷ prefix ∷ codes "State " ∷ prefix
    ∷ codes "Main;\nstatic const struct autolock_call *" ∷ prefix ∷ codes "Starts[64];\nstatic void *" ∷ prefix
    ∷ codes "Run(void *start)\n{\n  const struct autolock_call **from = (const struct autolock_call **)start;\n" ∷ [])
    ++ joined (codes "  const struct autolock_call *c;\n#ifdef AL_HISTORY\n  autolock_sit(" ∷ prefix
    ∷ codes "Main.history, from - " ∷ prefix ∷ codes "Starts);\n#endif\n" ∷ [])
    ++ joined (codes "  for (c = *from; c->section >= 0; c++) " ∷ prefix ∷ codes "Call(NULL, &" ∷ prefix
    ∷ codes "Main, 0, 0, c);\n  return NULL;\n}\n" ∷ [])

-- the calls of all scripts, thread after thread, each written with its thread and its number
unfoldable pub serial_text : List ℕ → List ℕ
serial_text prefix =
    joined (codes "static void " ∷ prefix
    ∷ codes "Serial(FILE *f)\n{\n  int t;\n  int64_t k;\n  fputs(\"history 1\\n\", f);\n  for (t = 0; " ∷ prefix
    ∷ codes "Scripts[t] != NULL; t++)\n" ∷ [])
    ++ joined (codes "    for (k = 0; " ∷ prefix ∷ codes "Scripts[t][k].section >= 0; k++)\n      " ∷ prefix
    ∷ codes "Call(f, &" ∷ prefix ∷ codes "Main, t, k, &" ∷ prefix ∷ codes "Scripts[t][k]);\n}\n" ∷ [])

-- the run: it opens the state; with the word `serial` it makes the calls itself
unfoldable pub start_text : List ℕ → List ℕ
start_text prefix =
    joined (codes "int main(int argc, char **argv)\n{\n  static pthread_t threads[64];\n  int t;\n  "
    ∷ prefix ∷ codes "Open(&" ∷ prefix ∷ codes "Main);\n  if (argc > 1 && strcmp(argv[1], \"serial\") == 0) {\n    "
    ∷ prefix ∷ codes "Serial(stdout);\n  } else {\n#ifdef AL_HISTORY\n    if (" ∷ prefix ∷ codes "HistoryOpen(&"
    ∷ prefix ∷ codes "Main) != 0) return 4;\n#endif\n" ∷ [])

-- otherwise it starts a thread for each script, and joins all threads
unfoldable pub threads_text : List ℕ → List ℕ
threads_text prefix =
    joined (codes "    for (t = 0; " ∷ prefix ∷ codes "Scripts[t] != NULL; t++) {\n      " ∷ prefix
    ∷ codes "Starts[t] = " ∷ prefix ∷ codes "Scripts[t];\n      if (pthread_create(&threads[t], NULL, " ∷ prefix
    ∷ codes "Run, &" ∷ prefix
    ∷ codes "Starts[t]) != 0) return 4;\n    }\n    while (t > 0) pthread_join(threads[--t], NULL);\n" ∷ [])

-- the end of the run: with a history it writes the history, and status 4 says that this failed. Otherwise it writes the
-- cells. It closes the state last
unfoldable pub end_text : List ℕ → List ℕ
end_text prefix =
    joined (codes "#ifdef AL_HISTORY\n    t = " ∷ prefix ∷ codes "HistoryWrite(stdout, &" ∷ prefix
    ∷ codes "Main);\n    " ∷ prefix ∷ codes "HistoryClose(&" ∷ prefix ∷ codes "Main);\n" ∷ [])
    ++ joined (codes "    " ∷ prefix ∷ codes "Close(&" ∷ prefix
    ∷ codes "Main);\n    return t == 0 ? 0 : 4;\n#endif\n  }\n" ∷ [])
    ++ joined (codes "  " ∷ prefix ∷ codes "Cells(stdout, &" ∷ prefix ∷ codes "Main);\n  " ∷ prefix ∷ codes "Close(&"
    ∷ prefix ∷ codes "Main);\n  return 0;\n}\n#endif\n" ∷ [])

-- the functions of the run
unfoldable pub run_all : List ℕ → List ℕ
run_all prefix =
    run_text prefix ++ serial_text prefix ++ start_text prefix ++ threads_text prefix ++ end_text prefix
