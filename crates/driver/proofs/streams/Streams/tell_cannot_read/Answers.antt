use Rattle.std.specs.Prelude.{codes}
use Rattle.driver.proofs.WritingLemmas.{Appends-both}
use Rattle.driver.proofs.streams.Streams.tell_cannot_read.Goals as goal

pub returns-clause-told : goal.returns-clause-told
returns-clause-told g c = λ whole.
    let second = c.put-3.ensures.sticky whole in
    let first = c.put-2.ensures.sticky second in
    Appends-both _ _ _ (codes "autolock: cannot read ") _ (c.put.ensures.appends first) (Appends-both _ _ _ c.args.file.now _ (rw (← c.as_bytes.ensures.value) (c.put-2.ensures.appends second)) (c.put-3.ensures.appends whole))
