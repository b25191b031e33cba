use Rattle.std.proofs.Common.{◌<◌, length, subst, arith}
use Rattle.std.proofs.lemmas.Option.{slice_get_within, get_or_from_slice_get}
use Rattle.std.proofs.lemmas.List.Elements.{All-get_or}
use Rattle.core_lang.specs.Theory.Items.{get_some}
use Rattle.core_lang.specs.Serial.{opening_heap}
use Rattle.core_lang.specs.declared.typed.Typed.{Typed}
use Rattle.code.specs.Lowering.{lists_at}
use Rattle.c_language.specs.Alike.{AreFitting}
use Rattle.c_language.specs.InC.{AreShort}
use Rattle.c_threads.specs.Working.Codes.{IsShortCode}
use Rattle.c_threads.proofs.meaning.sections_mean.Goals as goal

pub returns : goal.returns
returns c =
    let plan = c.args.program.now in
    let codes = c.code.result.now.sections.items in
    record {
      opens = subst (λ (p : Typed). AreFitting (opening_heap p)) c.expanded.ensures.program c.openings_fit.ensures;
      each = λ k section at.
          let within = slice_get_within plan.program.sections.items k section at in
          let lt : k < length codes = omega (arith, c.code.ensures.long, within) in
          let made = get_some codes k lt in
          let short : IsShortCode made.0 = subst IsShortCode (get_or_from_slice_get codes k made.0 made.0 made.1)
          (All-get_or IsShortCode codes k made.0 lt c.all_are_short.ensures) in
          let is = (c.code.ensures.each k section made.0 at made.1).instructions in
          c.sections_behave_in_c.ensures plan.program section (lists_at plan.lists k) c.expanded.ensures.compiled.well_formed (k, at)
          (subst AreShort is short);
    }
