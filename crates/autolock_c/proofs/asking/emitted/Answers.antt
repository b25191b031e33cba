use Rattle.std.proofs.Common.{refl}
use Rattle.autolock_c.proofs.Emitting.{emits}
use Rattle.autolock_c.proofs.asking.emitted.Goals as goal

pub returns-clause-answer : goal.returns-clause-answer
returns-clause-answer c =
    emits _ c.args.header c.args.prefix.now c.args.text.now refl c.in-Some.ensures.0 refl c.reported.result
    c.reported.ensures.answer
