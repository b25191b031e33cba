use Rattle.explanation.proofs.Ends.{ends, rest_is}
use Rattle.explanation.proofs.place_ends.end_of.Goals as goal

pub returns : goal.returns
returns c =
    let rest = rest_is c.args.text.now c.min.result in
    let counted = rw (c.min-shown.ensures, rest) at c.word_length.ensures.count in
    let whole = ends c.args.text.now c.args.start c.min.result c.word_length.result c.min.ensures counted in
    rw (c.min-length.ensures, c.max.ensures, rest) whole
