use Rattle.std.proofs.Common.{◌+◌, ◌*◌, None, arith}
use Rattle.std.proofs.lemmas.List.{get_or_read}
use Rattle.lockorder.proofs.telling.Telling.at.Goals as goal

pub returns : goal.returns
returns c =
    let x = c.args.self.now in
    get_or_read x.told.items (128 * c.args.class + c.args.next) c.index.result.now (omega (arith, x.few, x.long, c.requires.class, c.requires.next)) c.index.ensures None
