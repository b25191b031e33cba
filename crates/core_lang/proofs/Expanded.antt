-- Calls have the same serial runs on a program and on its expansion.
use Rattle.std.proofs.Common.{◌≡◌, List, [], ◌∷◌, length, Some, sym, ◌∙◌}
use Rattle.std.specs.Prelude.{slice_get}
use Rattle.core_lang.specs.declared.value.Value.{Value}
use Rattle.core_lang.specs.declared.tree.Section.{Section}
use Rattle.core_lang.specs.declared.typed.Typed.{Typed}
use Rattle.core_lang.specs.Whole.{Finished}
use Rattle.core_lang.specs.Serial.{Invocation, Ended, WholeCall, Serial}
use Rattle.core_lang.specs.Expansion.{IsExpansion}
use Rattle.core_lang.specs.Laws.{CallsFill, ExpansionsRunAlike}
use Rattle.core_lang.proofs.WrittenOut.{written_out_runs_alike}

module _ (program program' : Typed) (expands : IsExpansion program program') where
  abbrev Fills : Invocation → Type 0
  Fills call = (section : Section) → slice_get program.sections.items call.section ≡ Some section → length call.arguments ≡ section.parameters

  whole_there : (call : Invocation) (heap : List Value) (finished : Finished) → Fills call →
      WholeCall program call heap finished → WholeCall program' call heap finished
  whole_there call heap finished fills (section, is, (n, e)) =
      let x = expands.there call.section section is in
      (x.0, x.1, (n, sym (written_out_runs_alike program.shape program'.shape section x.0 expands.places x.2 n call.arguments heap (fills section is)) ∙ e))

  whole_back : (call : Invocation) (heap : List Value) (finished : Finished) → Fills call →
      WholeCall program' call heap finished → WholeCall program call heap finished
  whole_back call heap finished fills (section', is, (n, e)) =
      let x = expands.back call.section section' is in
      (x.0, x.1, (n, written_out_runs_alike program.shape program'.shape x.0 section' expands.places x.2 n call.arguments heap (fills x.0 x.1) ∙ e))

  serial_there : (heap last : List Value) (calls : List Invocation) (ends : List Ended) → CallsFill program calls →
      Serial program heap calls ends last → Serial program' heap calls ends last
  serial_there heap last [] [] f s = s
  serial_there heap last [] (e ∷ es) f s = s
  serial_there heap last (call ∷ calls) [] f s = s
  serial_there heap last (call ∷ calls) (e ∷ es) f s = (s.0, whole_there call heap s.0 f.0 s.1, s.2, serial_there s.0.heap last calls es f.1 s.3)

  serial_back : (heap last : List Value) (calls : List Invocation) (ends : List Ended) → CallsFill program calls →
      Serial program' heap calls ends last → Serial program heap calls ends last
  serial_back heap last [] [] f s = s
  serial_back heap last [] (e ∷ es) f s = s
  serial_back heap last (call ∷ calls) [] f s = s
  serial_back heap last (call ∷ calls) (e ∷ es) f s = (s.0, whole_back call heap s.0 f.0 s.1, s.2, serial_back s.0.heap last calls es f.1 s.3)

pub expansions_run_alike : ExpansionsRunAlike
expansions_run_alike program program' heap last calls ends expands fill =
    (serial_there program program' expands heap last calls ends fill, serial_back program program' expands heap last calls ends fill)
