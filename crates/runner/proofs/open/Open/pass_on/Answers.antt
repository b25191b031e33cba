use Rattle.std.specs.Prelude.{◌≡◌, ◌≤◌, false, List, ◌++◌, length}
use Rattle.std.proofs.Common.{refl, sym, ap, ◌∙◌, subst, arith}
use Rattle.locks.specs.declared.lock.Lock.{Lock}
use Rattle.code.specs.Machine.{passed}
use Rattle.worlds.specs.Worlds.{locks_before, next_effect}
use Rattle.runner_machine.specs.Working.Machines.{RunOf, with_machine}
use Rattle.runner.specs.Working.Asked.{AreTaken}
use Rattle.runner.specs.Working.Opens.{OpenOf}
use Rattle.runner.specs.Working.Ties.{open_as, open_in, its_call, IsKeptOpen}
use Rattle.runner.specs.declared.body.SectionFrame.{SectionFrame}
use Rattle.runner.proofs.Opened.{RunsInOrder, has_code, place_there, code_is_short, asked_fits, kept_asking}
use Rattle.runner.proofs.Taken.{taken_alone}
use Rattle.runner.proofs.open.Open.pass_on.Goals as goal

pub ask_before-body-requires-clause-room : goal.ask_before-body-requires-clause-room
ask_before-body-requires-clause-room c =
    let x = c.self.inside in
    let o = open_in x.program.now x.ticket x.body.value in
    let b = x.body.value in
    let same_body : c.deref_mut-body.result.now ≡ b = c.deref_mut-body.ensures.value in
    let r : RunsInOrder o = record {
      is_open = c.self.invariant.0.is_open;
      pending = ap (λ (o : OpenOf). o.activation.pending) c.self.view_is ∙ c.requires.pending;
      outcome = refl;
    } in
    let is = ap (λ (o : OpenOf). next_effect o.plan o.activation) c.self.view_is ∙ c.requires.asks in
    let locals : c.deref_mut-body.result.now.machine.machine.locals ≡ x.body.value.machine.machine.locals =
    ap (λ (b : SectionFrame). b.machine.machine.locals) same_body in
    let held : c.deref_mut-body.result.now.machine.locks ≡ o.activation.held =
    ap (λ (b : SectionFrame). b.machine.locks) same_body ∙ c.self.invariant.0.locks in
    let same : length (locks_before x.program.now c.deref_mut-body.result.now.section c.args.point c.deref_mut-body.result.now.machine.locks c.deref_mut-body.result.now.machine.machine.locals)
    ≡ length (locks_before o.plan o.activation.call.section c.args.point o.activation.held o.activation.machine.locals) =
    λ i. length (locks_before x.program.now (same_body i).section c.args.point (held i) (locals i)) in
    let room = ap (λ (b : SectionFrame). b.pending.room) same_body in
    omega (arith, asked_fits o c.args.point c.sections_stay_in_order.ensures r is, same, room, c.self.invariant.0.pending_fits)

pub ask_before-body-requires-clause-taken : goal.ask_before-body-requires-clause-taken
ask_before-body-requires-clause-taken c =
    let x = c.self.inside in
    let b = x.body.value in
    let same_body : c.deref_mut-body.result.now ≡ b = c.deref_mut-body.ensures.value in
    let none = ap (λ (o : OpenOf). o.activation.pending) c.self.view_is ∙ c.requires.pending in
    let held = taken_alone x.program.now b.section x.ticket.session.held b.pending.locks b.taken none c.self.invariant.2 in
    subst (λ (b : SectionFrame). AreTaken x.program.now b.section b.machine.locks b.taken) (sym same_body)
    (subst (λ (ls : List Lock). AreTaken x.program.now b.section ls b.taken) (sym c.self.invariant.0.locks) held)

pub pass-requires : goal.pass-requires
pass-requires c =
    let x = c.self.inside in
    let o = open_in x.program.now x.ticket x.body.value in
    let b = x.body.value in
    let same_body : c.deref_mut-body.result.now ≡ b = c.deref_mut-body.ensures.value in
    let r : RunsInOrder o = record {
      is_open = c.self.invariant.0.is_open;
      pending = ap (λ (o : OpenOf). o.activation.pending) c.self.view_is ∙ c.requires.pending;
      outcome = refl;
    } in
    let code = c.code-shown.result.now in
    let of = c.code-shown.ensures in
    let h = has_code o code r.is_open of in
    let same : c.deref_mut-body.result.now.machine.machine.place ≡ o.activation.machine.place =
    ap (λ (b : SectionFrame). b.machine.machine.place) same_body in
    omega (arith, same, place_there o code h c.sections_stay_in_order.ensures r, code_is_short h.made)

pub invariant_of-self : goal.invariant_of-self
invariant_of-self c =
    let x = c.self.inside in
    let o = open_in x.program.now x.ticket x.body.value in
    let b = x.body.value in
    let same_body : c.deref_mut-body.result.now ≡ b = c.deref_mut-body.ensures.value in
    let r : RunsInOrder o = record {
      is_open = c.self.invariant.0.is_open;
      pending = ap (λ (o : OpenOf). o.activation.pending) c.self.view_is ∙ c.requires.pending;
      outcome = refl;
    } in
    let is = ap (λ (o : OpenOf). next_effect o.plan o.activation) c.self.view_is ∙ c.requires.asks in
    let room = c.ask_before-body.new.pending.room in
    let longer : b.pending.room ≤ room =
    subst (λ (b : SectionFrame). b.pending.room ≤ room) same_body c.ask_before-body.ensures.room in
    let kept = kept_asking o x.ticket b.machine b.pending.room room c.args.point
    c.sections_stay_in_order.ensures r c.self.invariant.0 is longer in
    let locals : c.deref_mut-body.result.now.machine.machine.locals ≡ b.machine.machine.locals =
    ap (λ (b : SectionFrame). b.machine.machine.locals) same_body in
    let held : c.deref_mut-body.result.now.machine.locks ≡ o.activation.held =
    ap (λ (b : SectionFrame). b.machine.locks) same_body ∙ c.self.invariant.0.locks in
    let pending : c.ask_before-body.new.pending.locks
    ≡ locks_before o.plan o.activation.call.section c.args.point o.activation.held o.activation.machine.locals =
    c.ask_before-body.ensures.locks
    ∙ (λ i. locks_before x.program.now (same_body i).section c.args.point (held i) (locals i)) in
    let passed_on : c.pass.new.self ≡ with_machine b.machine (passed b.machine.machine) =
    c.pass.ensures ∙ ap (λ (b : SectionFrame). with_machine b.machine (passed b.machine.machine)) same_body in
    let at_run = subst (λ (run : RunOf).
    IsKeptOpen (open_as x.program.now x.ticket b.step (its_call b) run
    (locks_before o.plan o.activation.call.section c.args.point o.activation.held o.activation.machine.locals) false)
    x.ticket run room) (sym passed_on) kept in
    let at_pending = subst (λ (ps : List Lock).
    IsKeptOpen (open_as x.program.now x.ticket b.step (its_call b) c.pass.new.self ps false)
    x.ticket c.pass.new.self room) (sym pending) at_run in (
      subst (λ (b : SectionFrame).
          IsKeptOpen (open_as x.program.now x.ticket b.step (its_call b) c.pass.new.self c.ask_before-body.new.pending.locks false)
          x.ticket c.pass.new.self room) (sym same_body) at_pending,
      ap (λ (b : SectionFrame). b.grants.items) same_body ∙ c.self.invariant.1,
      subst (λ (ls : List Lock). AreTaken x.program.now c.deref_mut-body.result.now.section (ls ++ c.ask_before-body.new.pending.locks) c.ask_before-body.result)
          held c.ask_before-body.ensures.taken,
    )
