use Rattle.std.proofs.Common.{◌≡◌, ◌<◌, ℕ, length, [], Option, Some, None, refl, subst, sym, arith}
use Rattle.std.specs.List.{All}
use Rattle.std.specs.Option.{option_map_or}
use Rattle.std.specs.Prelude.{slice_get}
use Rattle.std.proofs.lemmas.Option.{slice_get_within, get_or_from_slice_get}
use Rattle.std.proofs.lemmas.List.Elements.{All-get_or, All-nil}
use Rattle.core_lang.specs.Serial.{opening_heap}
use Rattle.core_lang.specs.Theory.Items.{get_some}
use Rattle.core_lang.specs.declared.tree.Section.{Section}
use Rattle.core_lang.specs.declared.typed.Typed.{Typed}
use Rattle.code.specs.declared.section_code.ProgramCode.{ProgramCode}
use Rattle.code.specs.Lowering.{lists_at, section_code}
use Rattle.c_language.specs.Alike.{AreFitting}
use Rattle.c_language.specs.InC.{AreShort, IsShort}
use Rattle.lowering.specs.Plans.{Plan}
use Rattle.lowering.specs.Working.Lowered.{IsCodeOf}
use Rattle.worlds.specs.Worlds.{code_at}
use Rattle.c_threads.specs.Working.Codes.{IsShortCode}
use Rattle.c_threads.proofs.meaning.threads_mean.Goals as goal

-- the code of each section pushes numbers of 64 bits, wherever it is in memory
module _ (plan : Plan) (code : ProgramCode) (is : IsCodeOf plan.program plan.lists code) (short : All IsShortCode code.sections.items) where
  of_section : (k : ℕ) (o : Option Section) → slice_get plan.program.sections.items k ≡ o →
      AreShort (option_map_or (λ (section : Section). section_code (lists_at plan.lists k) section) o [])
  of_section k None at = All-nil IsShort
  of_section k (Some section) at =
      let codes = code.sections.items in
      let within = slice_get_within plan.program.sections.items k section at in
      let lt : k < length codes = omega (arith, is.long, within) in
      let made = get_some codes k lt in
      let one : IsShortCode made.0 = subst IsShortCode (get_or_from_slice_get codes k made.0 made.0 made.1) (All-get_or IsShortCode codes k made.0 lt short) in
      subst AreShort (is.each k section made.0 at made.1).instructions one

  all_short : (k : ℕ) → AreShort (code_at plan k)
  all_short k = of_section k (slice_get plan.program.sections.items k) refl

pub returns : goal.returns
returns c =
    let plan = c.args.program.now in
    let compiled = c.expanded.ensures.compiled in
    λ calls steps are fit.
    c.outside_calls_run_in_c.ensures plan calls steps compiled are
    (record {
      code = all_short plan c.code.result.now c.code.ensures c.all_are_short.ensures;
      arguments = fit;
      opening = subst AreFitting (sym compiled.laid_out.opening)
          (subst (λ (p : Typed). AreFitting (opening_heap p)) c.expanded.ensures.program c.openings_fit.ensures);
    })
