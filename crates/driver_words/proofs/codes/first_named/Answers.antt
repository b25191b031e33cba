use Rattle.std.proofs.Common.{◌∙◌, sym, arith}
use Rattle.driver_words.specs.Codes.{is_named}
use Rattle.driver_words.proofs.Finding.{found_at, none_more}
use Rattle.driver_words.proofs.codes.first_named.Goals as goal

pub returns-then-is_named : goal.returns-then-is_named
returns-then-is_named c = sym (found_at (is_named c.args.word.now) c.args.codes.now c.loop-code.code-index _ (omega (arith, c.loop-code-test.true)) c.loop-code.invariant (sym c.is_named.ensures ∙ c.if-is_named.true))

pub loop-code-preserved : goal.loop-code-preserved
loop-code-preserved c = none_more (is_named c.args.word.now) c.args.codes.now c.loop-code.code-index _ (omega (arith, c.loop-code-test.true)) c.loop-code.invariant (sym c.is_named.ensures ∙ c.if-is_named.false)
