use Rattle.std.specs.Prelude.{◌≡◌, [], List, get_or, length}
use Rattle.std.proofs.Common.{refl, sym, ap, ◌∙◌, subst, arith}
use Rattle.core_lang.specs.declared.value.Value.{Value}
use Rattle.core_lang.specs.declared.typed.Typed.{Typed}
use Rattle.core_lang.specs.WellFormed.{CanCall}
use Rattle.core_lang.specs.Whole.{opening}
use Rattle.worlds.specs.Worlds.{locals_at}
use Rattle.runner_machine.specs.Working.Machines.{at_first}
use Rattle.runner.specs.Working.Ties.{call_of}
use Rattle.runner.proofs.Begun.{called_within, first_locals}
use Rattle.runner.proofs.body.SectionFrame.renew.Goals as goal

pub index-called-requires : goal.index-called-requires
index-called-requires c =
    let within = called_within c.args.program.now.program c.args.section c.args.arguments.now c.requires.fits in
    let same = ap (λ (t : Typed). length t.sections.items) c.expanded.ensures.program in
    omega (arith, within, same, c.expanded.result.now.sections.ok.0)

pub needed_room-room-requires : goal.needed_room-room-requires
needed_room-room-requires c =
    called_within c.args.program.now.program c.args.section c.args.arguments.now c.requires.fits

pub returns-clause-begins : goal.returns-clause-begins
returns-clause-begins c =
    let plan = c.args.program.now in
    let section = c.args.section in
    let arguments = c.refill.new.list.items in
    let x = c.index-called.result.now in
    let same : arguments ≡ c.args.arguments.now = c.in_ok-refill.ensures in
    let can : CanCall plan.program section arguments =
    subst (λ (vs : List Value). CanCall plan.program section vs) (sym same) c.requires.fits in
    let read : x ≡ get_or plan.program.sections.items section x =
    subst (λ (t : Typed). x ≡ get_or t.sections.items section x) c.expanded.ensures.program c.index-called.ensures in
    let locals : c.in_ok-locals.locals.items ≡ locals_at plan (call_of section arguments) =
    c.in_ok-locals.ensures
    ∙ ap (λ (vs : List Value). (opening x vs []).locals) (sym same)
    ∙ first_locals plan (call_of section arguments) x can read in
    record {
      compiled = c.expanded.ensures.compiled;
      fits = can;
      room_is = c.needed_room-room.ensures;
      run_is = c.in_ok-renew.ensures.ok ∙ (λ i. at_first (locals i) (c.layout.ensures i) c.needed_room-room.result);
      none_pending = c.in_ok-empty_for.ensures.none;
      none_taken = c.new-self.ensures;
      not_asked = refl;
      pending_fits = c.in_ok-empty_for.ensures.room;
    }
