use Rattle.std.proofs.Common.{◌≡◌, ◌∙◌, arith, ap, sym, subst, true, false}
use Rattle.replay.specs.declared.progress.ThreadProgress.{ThreadProgress}
use Rattle.replay.specs.declared.wanted.Lack.TheVariants as lack
use Rattle.replay.specs.Wanted.{LacksNumber}
use Rattle.replay.specs.Working.Reading.{begins_at}
use Rattle.replay.specs.Working.Seats.{seat_in}
use Rattle.replay.proofs.Lacking.{begin_lacks, in_turn}
use Rattle.replay.proofs.candidate.Replay.number_lack.Goals as goal

pub returns-then-not-may_begin-clause-lack : goal.returns-then-not-may_begin-clause-lack
returns-then-not-may_begin-clause-lack c reader are is =
    let format = c.args.self.now.format in
    let told = c.args.told.now in
    let seat = c.seat-seat.ensures in
    let called = ap (λ (s : ThreadProgress). s.called) seat in
    let never : begins_at format (seat_in c.args.at.now.seats told.thread).least c.args.at.now.position told.begun ≡ false =
    ap (λ (s : ThreadProgress). begins_at format s.least c.args.at.now.position told.begun) (sym seat) ∙ grind (arith, c.may_begin.ensures, c.if-not-may_begin.true) in
    subst (λ (s : ThreadProgress). LacksNumber format reader.order told (lack.Begin s.least c.args.at.now.position)) (sym seat)
    (begin_lacks c.args.at.now.seats reader.order are told c.args.at.now.position is format (omega (arith, c.if-told-from.false, c.from.ensures))
    (omega (arith, called, c.if-told-seat.false)) never)

pub returns-clause-none : goal.returns-clause-none
returns-clause-none c none reader are is =
    let format = c.args.self.now.format in
    let told = c.args.told.now in
    let seat = c.seat-seat.ensures in
    let called = ap (λ (s : ThreadProgress). s.called) seat in
    let may : begins_at format (seat_in c.args.at.now.seats told.thread).least c.args.at.now.position told.begun ≡ true =
    ap (λ (s : ThreadProgress). begins_at format s.least c.args.at.now.position told.begun) (sym seat) ∙ grind (arith, c.may_begin.ensures, c.if-not-may_begin.false) in
    in_turn c.args.at.now.seats reader.order are told c.args.at.now.position is format (omega (arith, c.if-told-from.false, c.from.ensures))
    (omega (arith, called, c.if-told-seat.false)) may
