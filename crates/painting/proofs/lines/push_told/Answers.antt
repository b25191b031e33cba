use Rattle.std.proofs.Common.{rules, lit<, ℕ, List}
use Rattle.painting.specs.Painted.{painted_words}
use Rattle.painting.proofs.Words.{one_word, nothing_behind}
use Rattle.painting.proofs.lines.push_told.Goals as goal

pub returns-in-None : goal.returns-in-None
returns-in-None c =
    let none = c.in-None.ensures.byte (lit< tt) (λ w o f. f) in
    rw (one_word c.args.line.now none, nothing_behind c.args.line.now (painted_words) none) (search rules)
