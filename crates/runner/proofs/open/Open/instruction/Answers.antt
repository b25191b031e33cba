use Rattle.std.specs.Prelude.{◌≡◌, ◌<◌, List, vec_len, slice_get, get_or, Option, Some}
use Rattle.std.proofs.Common.{refl, sym, ap, ◌∙◌, subst, arith}
use Rattle.std.proofs.lemmas.Option.{slice_get_read}
use Rattle.code.specs.declared.instr.Instr.{Instr}
use Rattle.code.specs.declared.section_code.SectionCode.{SectionCode}
use Rattle.code.specs.Machine.{act}
use Rattle.code.specs.Memory.{load_held, store_held}
use Rattle.worlds.specs.Worlds.{code_at, next_effect}
use Rattle.runner.specs.declared.body.SectionFrame.{SectionFrame}
use Rattle.runner.specs.Working.Opens.{OpenOf}
use Rattle.runner.specs.Working.Ties.{open_in}
use Rattle.runner.proofs.Opened.{RunsInOrder, has_code, code_read, place_there}
use Rattle.runner.proofs.open.Open.instruction.Goals as goal

pub index-requires-2 : goal.index-requires-2
index-requires-2 c =
    let x = c.self.inside in
    let o = open_in x.program.now x.ticket x.body.value in
    let r : RunsInOrder o = record {
      is_open = c.self.invariant.0.is_open;
      pending = ap (λ (o : OpenOf). o.activation.pending) c.self.view_is ∙ c.requires;
      outcome = refl;
    } in
    let place : c.place.result ≡ x.body.value.machine.machine.place =
    c.place.ensures ∙ ap (λ (b : SectionFrame). b.machine.machine.place) c.deref-body.ensures in
    let code = c.code-code.result.now in
    let of = c.code-code.ensures in
    let h = has_code o code r.is_open of in
    let its = subst (λ (b : SectionFrame). c.index.result.now ≡ get_or code.sections.items b.section c.index.result.now) c.deref-body.ensures c.index.ensures in
    let within = place_there o code h c.sections_stay_in_order.ensures r in
    subst (λ (m : SectionCode). c.place.result < vec_len m.instructions) (sym (code_read o code h c.index.result.now its))
    (omega (arith, place, within, h.made.instructions.ok.0))

pub returns : goal.returns
returns c =
    let x = c.self.inside in
    let o = open_in x.program.now x.ticket x.body.value in
    let r : RunsInOrder o = record {
      is_open = c.self.invariant.0.is_open;
      pending = ap (λ (o : OpenOf). o.activation.pending) c.self.view_is ∙ c.requires;
      outcome = refl;
    } in
    let place : c.place.result ≡ x.body.value.machine.machine.place =
    c.place.ensures ∙ ap (λ (b : SectionFrame). b.machine.machine.place) c.deref-body.ensures in
    let code = c.code-code.result.now in
    let of = c.code-code.ensures in
    let h = has_code o code r.is_open of in
    let its = subst (λ (b : SectionFrame). c.index.result.now ≡ get_or code.sections.items b.section c.index.result.now) c.deref-body.ensures c.index.ensures in
    let within = place_there o code h c.sections_stay_in_order.ensures r in
    let found = code_read o code h c.index.result.now its in
    let i = c.index-2.result.now in
    let read = c.index.result.now in
    let short : c.place.result < vec_len read.instructions =
    subst (λ (m : SectionCode). c.place.result < vec_len m.instructions) (sym found)
    (omega (arith, place, within, h.made.instructions.ok.0)) in
    let here : slice_get read.instructions.items c.place.result ≡ Some i =
    slice_get_read read.instructions.items (vec_len read.instructions) c.place.result i read.instructions.ok.0 short c.index-2.ensures in
    let at : slice_get (code_at o.plan o.activation.call.section) o.activation.machine.place ≡ Some i =
    ap (λ (is : List Instr). slice_get is o.activation.machine.place) (h.is ∙ ap (λ (m : SectionCode). m.instructions.items) (sym found))
    ∙ ap (slice_get read.instructions.items) (sym place)
    ∙ here in
    subst (λ (o : OpenOf). next_effect o.plan o.activation ≡ act load_held store_held o.plan.program.shape (Some i) o.activation.machine)
    c.self.view_is
    (ap (λ (j : Option Instr). act load_held store_held o.plan.program.shape j o.activation.machine) at)
