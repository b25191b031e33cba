use Rattle.std.proofs.Common.{sym, ◌∙◌}
use Rattle.source.specs.Tokens.{word}
use Rattle.parser.specs.Working.Reading.{is_next}
use Rattle.parser.specs.Theory.First.{word_next, no_word_next, none_left}
use Rattle.parser.proofs.take.is_word_next.Goals as goal

pub returns-in-Word : goal.returns-in-Word
returns-in-Word c = c.is_same_word.ensures ∙ sym (word_next c.args.tokens.now c.first-item.result c.in-len1-up.len_at_least c.first-item.is c.args.keyword _ c.in-Word.here c.in-Word.is)

pub returns-in_default-first : goal.returns-in_default-first
returns-in_default-first c = sym (no_word_next c.args.tokens.now c.first-item.result c.in-len1-up.len_at_least c.first-item.is c.args.keyword c.in_default-first.not-Word)

pub returns-in_default : goal.returns-in_default
returns-in_default c = sym (none_left (is_next (word c.args.keyword)) c.args.tokens.now c.in_default.len_below)
