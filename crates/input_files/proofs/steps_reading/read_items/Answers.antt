use Rattle.std.proofs.Common.{◌<◌, length, arith}
use Rattle.std.proofs.lemmas.List.{length-drop}
use Rattle.input_files.proofs.Pieces.{pieces_refused, pieces_end, pieces_more}
use Rattle.input_files.proofs.steps_reading.read_items.Goals as goal

pub returns-in-Err : goal.returns-in-Err
returns-in-Err c =
    pieces_refused c.args.threads.now c.pieces.start c.pieces.reader.steps 0 c.pieces.reader.items.items c.pieces.rest.now c.args.text.now
    c.item_len-len.result c.item_len-len.ensures.place c.item_len-len.ensures.bound c.pieces.invariant.0 c.in-Err.refusal c.in-Err.ensures.fault

pub returns-then-len-rest : goal.returns-then-len-rest
returns-then-len-rest c =
    pieces_end c.args.threads.now c.pieces.start c.pieces.reader.steps c.read.new.self.steps c.pieces.reader.items.items c.pieces.rest.now c.args.text.now
    c.item_len-len.result c.item_len-len.ensures.place c.item_len-len.ensures.bound c.pieces.invariant.0 c.read.new.self.items.items
    (omega arith) c.in-Ok.ensures.ok

pub pieces-preserved : goal.pieces-preserved
pieces-preserved c =
    let less : c.item_len-len.result < length c.pieces.rest.now = omega arith in
    let more = pieces_more c.args.threads.now c.pieces.start c.pieces.reader.steps c.read.new.self.steps c.pieces.reader.items.items c.pieces.rest.now
    c.args.text.now c.item_len-len.result c.item_len-len.ensures.place c.item_len-len.ensures.bound c.pieces.invariant.0
    c.read.new.self.items.items less c.in-Ok.ensures.ok in
    rw c.after-rest.ensures (more, simp length-drop (omega arith), c.in-Ok.ensures.most)
