use Rattle.std.proofs.Common.{◌≡◌, length, Some, slice_get, refl, arith}
use Rattle.std.proofs.lemmas.Option.{slice_get_read}
use Rattle.outcomes.proofs.Drawn.{calls_of_one}
use Rattle.outcomes.proofs.search.Search.left.Goals as goal

pub overflow_sub-result : goal.overflow_sub-result
overflow_sub-result c =
    let threads = c.args.self.now.program.now.threads.items in
    let is : slice_get threads c.args.thread ≡ Some c.index.result.now =
    slice_get_read threads (length threads) c.args.thread c.index.result.now refl c.requires.thread c.index.ensures in
    let calls = calls_of_one threads c.args.thread c.index.result.now is in
    omega (arith, c.requires.few, calls, c.len.ensures)

pub returns : goal.returns
returns c =
    let threads = c.args.self.now.program.now.threads.items in
    let is : slice_get threads c.args.thread ≡ Some c.index.result.now =
    slice_get_read threads (length threads) c.args.thread c.index.result.now refl c.requires.thread c.index.ensures in
    let calls = calls_of_one threads c.args.thread c.index.result.now is in
    omega (arith, c.requires.few, calls, c.len.ensures)
