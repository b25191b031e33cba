use Rattle.std.proofs.Common.{sym, ◌∙◌}
use Rattle.parser.specs.Working.Reading.{word_at, word_from}
use Rattle.parser.specs.Theory.First.{word_taken, word_other, no_word_here, refused_none}
use Rattle.parser.proofs.take.take_word.Goals as goal
use Rattle.parser.proofs.take.take_word.Goals.{in_default, in-len1-up+in-Word+else-is_same_word}
use Rattle.parser.proofs.take.take_word.Goals.{in-len1-up+in_default-first}

pub returns-then-is_same_word : goal.returns-then-is_same_word
returns-then-is_same_word c = word_taken c.args.tokens.now c.first-item.result c.in-len1-up.len_at_least c.first-item.is c.args.keyword c.in-Word.span c.in-Word.here c.in-Word.is (sym c.is_same_word.ensures ∙ c.if-is_same_word.true)

pub returns : goal.returns
unfolding word_at
returns c = elim c.if-tokens-lt1.branch [
  | in_default w ↦ refused_none (word_from c.args.keyword) c.args.tokens.now w.in_default.len_below
  | in-len1-up+in-Word+else-is_same_word w ↦ word_other c.args.tokens.now w.first-item.result w.in-len1-up.len_at_least w.first-item.is c.args.keyword w.in-Word.span w.in-Word.here w.in-Word.is (sym w.is_same_word.ensures ∙ w.if-is_same_word.false)
  | in-len1-up+in_default-first w ↦ no_word_here c.args.tokens.now w.first-item.result w.in-len1-up.len_at_least w.first-item.is c.args.keyword w.in_default-first.not-Word
]
