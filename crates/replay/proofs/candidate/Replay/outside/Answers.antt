use Rattle.std.proofs.Common.{◌≡◌, ◌∙◌, arith, ap, sym, refl, subst, true, false, Some, List}
use Rattle.std.proofs.lemmas.Bool.{false≢true}
use Rattle.core_lang.specs.declared.value.Value.{Value}
use Rattle.core_lang.specs.WellFormed.{CanCall}
use Rattle.replay.specs.declared.callers.Callers.TheVariants.{Anyone}
use Rattle.replay.specs.declared.progress.ThreadProgress.{ThreadProgress}
use Rattle.replay.specs.Working.Reading.{begins_at, invocation_at, invocation_of}
use Rattle.replay.specs.Working.Seats.{seat_in}
use Rattle.replay.proofs.Candidates.{no_told, no_thread, no_begin, no_invocation, no_fit, only_open}
use Rattle.replay.proofs.candidate.Replay.outside.Goals as goal

pub returns-in_default : goal.returns-in_default
returns-in_default c =
    no_told Anyone c.args.self.now.format c.args.self.now.program.now c.args.at.now c.args.line.now c.requires.ready.well_formed c.requires.short
    (sym c.told_by.ensures ∙ c.in_default.is)

pub returns-in_default-invoked : goal.returns-in_default-invoked
returns-in_default-invoked c =
    no_invocation c.args.self.now.format c.args.self.now.program.now c.args.at.now c.args.line.now
    (sym c.requires.told ∙ ap invocation_at c.in_default-invoked.is)

pub returns-then-told-from : goal.returns-then-told-from
returns-then-told-from c =
    no_thread c.args.self.now.format c.args.self.now.program.now c.args.at.now c.args.line.now c.requires.ready.well_formed c.requires.short
    c.in-Some.told (sym c.told_by.ensures ∙ c.in-Some.is) (omega (arith, c.if-told-from.true, c.from.ensures))

pub returns-then-not-may_begin : goal.returns-then-not-may_begin
returns-then-not-may_begin c =
    let never : begins_at c.args.self.now.format (seat_in c.args.at.now.seats c.in-Some.told.thread).least c.args.at.now.position c.in-Some.told.begun ≡ false =
    ap (λ (s : ThreadProgress). begins_at c.args.self.now.format s.least c.args.at.now.position c.in-Some.told.begun) (sym c.seat-seat.ensures)
    ∙ grind (arith, c.may_begin.ensures, c.if-not-may_begin.true) in
    no_begin Anyone c.args.self.now.format c.args.self.now.program.now c.args.at.now c.args.line.now c.requires.ready.well_formed c.requires.short
    c.in-Some.told (sym c.told_by.ensures ∙ c.in-Some.is) never

pub returns-then-not-can_call : goal.returns-then-not-can_call
returns-then-not-can_call c =
    no_fit c.args.self.now.format c.args.self.now.program.now c.args.at.now c.args.line.now c.requires.ready.well_formed c.requires.short
    c.in-Some.told (sym c.told_by.ensures ∙ c.in-Some.is) (invocation_of c.in-Some-invoked.invoked)
    (sym c.requires.told ∙ ap invocation_at c.in-Some-invoked.is)
    (λ can. false≢true (sym c.if-not-can_call.true ∙ c.can_call.ensures.1 (subst (CanCall c.args.self.now.program.now c.in-Some-invoked.invoked.section) (sym c.deref.ensures.value) can)))

pub returns : goal.returns
returns c =
    let may : begins_at c.args.self.now.format (seat_in c.args.at.now.seats c.in-Some.told.thread).least c.args.at.now.position c.in-Some.told.begun ≡ true =
    ap (λ (s : ThreadProgress). begins_at c.args.self.now.format s.least c.args.at.now.position c.in-Some.told.begun) (sym c.seat-seat.ensures)
    ∙ grind (arith, c.may_begin.ensures, c.if-not-may_begin.false) in
    let fits = subst (CanCall c.args.self.now.program.now c.in-Some-invoked.invoked.section) (c.deref.ensures.value ∙ sym c.deref-2.ensures.value)
    (c.can_call.ensures.0 c.if-not-can_call.false) in
    only_open c.args.self.now.format c.args.self.now.program.now c.args.at.now c.args.line.now c.requires.ready.well_formed c.requires.short
    c.in-Some.told (sym c.told_by.ensures ∙ c.in-Some.is) _ c.requires.sound may refl (ap (λ (s : ThreadProgress). s.called) c.seat-seat.ensures) refl
    (omega (arith, c.if-told-from.false, c.from.ensures)) fits
    (sym c.requires.told ∙ ap invocation_at c.in-Some-invoked.is
    ∙ ap (λ (xs : List Value). Some (record { section = c.in-Some-invoked.invoked.section; arguments = xs })) (sym c.deref-2.ensures.value))
