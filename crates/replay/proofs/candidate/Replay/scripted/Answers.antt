use Rattle.std.proofs.Common.{◌≡◌, ◌∙◌, sym, ap, false, true, arith, refl}
use Rattle.std.specs.Option.{option_copied}
use Rattle.replay.specs.declared.callers.Callers.TheVariants.{Scripts}
use Rattle.replay.specs.declared.progress.ThreadProgress.{ThreadProgress}
use Rattle.replay.specs.Working.Reading.{begins_at, call_in}
use Rattle.replay.specs.Working.Seats.{seat_in}
use Rattle.replay.proofs.Candidates.{no_told, no_call, no_begin, only_call}
use Rattle.replay.proofs.candidate.Replay.scripted.Goals as goal

pub returns-in_default : goal.returns-in_default
returns-in_default c =
    no_told Scripts c.args.self.now.format c.args.self.now.program.now c.args.at.now c.args.line.now c.requires.ready.well_formed c.requires.short
    (sym c.told_by.ensures ∙ c.in_default.is)

pub returns-in_default-call_in : goal.returns-in_default-call_in
returns-in_default-call_in c =
    no_call c.args.self.now.format c.args.self.now.program.now c.args.at.now c.args.line.now c.requires.ready.well_formed c.requires.short
    c.in-Some.told (sym c.told_by.ensures ∙ c.in-Some.is)
    (ap (λ (s : ThreadProgress). call_in c.args.self.now.program.now c.in-Some.told.thread s.called) (sym c.seat-seat.ensures)
    ∙ sym c.call_in.ensures ∙ ap option_copied c.in_default-call_in.is)

pub returns-then-not-may_begin : goal.returns-then-not-may_begin
returns-then-not-may_begin c =
    let never : begins_at c.args.self.now.format (seat_in c.args.at.now.seats c.in-Some.told.thread).least c.args.at.now.position c.in-Some.told.begun ≡ false =
    ap (λ (s : ThreadProgress). begins_at c.args.self.now.format s.least c.args.at.now.position c.in-Some.told.begun) (sym c.seat-seat.ensures)
    ∙ grind (arith, c.may_begin.ensures, c.if-not-may_begin.true) in
    no_begin Scripts c.args.self.now.format c.args.self.now.program.now c.args.at.now c.args.line.now c.requires.ready.well_formed c.requires.short
    c.in-Some.told (sym c.told_by.ensures ∙ c.in-Some.is) never

pub returns : goal.returns
returns c =
    let may : begins_at c.args.self.now.format (seat_in c.args.at.now.seats c.in-Some.told.thread).least c.args.at.now.position c.in-Some.told.begun ≡ true =
    ap (λ (s : ThreadProgress). begins_at c.args.self.now.format s.least c.args.at.now.position c.in-Some.told.begun) (sym c.seat-seat.ensures)
    ∙ grind (arith, c.may_begin.ensures, c.if-not-may_begin.false) in
    only_call c.args.self.now.format c.args.self.now.program.now c.args.at.now c.args.line.now c.requires.ready.well_formed c.requires.short
    c.in-Some.told (sym c.told_by.ensures ∙ c.in-Some.is)
    _ c.in-Some-call_in.call.now c.requires.sound
    (ap (λ (s : ThreadProgress). call_in c.args.self.now.program.now c.in-Some.told.thread s.called) (sym c.seat-seat.ensures)
    ∙ sym c.call_in.ensures ∙ ap option_copied c.in-Some-call_in.is) may refl (ap (λ (s : ThreadProgress). s.called) c.seat-seat.ensures) refl refl c.deref.ensures.value
