use Rattle.std.proofs.Common.{◌∙◌, sym, arith}
use Rattle.explanation_tokens.specs.Working.Seen.{fitting}
use Rattle.explanation_tokens.proofs.Firsts.{found_at, none_more}
use Rattle.explanation_tokens.proofs.view.View.first_of.Goals as goal

pub returns-then-fits : goal.returns-then-fits
returns-then-fits c = sym (found_at (fitting c.args.self.now) c.args.rows.now c.loop-row.row-index _ (omega (arith, c.loop-row-test.true)) c.loop-row.invariant (sym c.fits.ensures ∙ c.if-fits.true))

pub loop-row-preserved : goal.loop-row-preserved
loop-row-preserved c = none_more (fitting c.args.self.now) c.args.rows.now c.loop-row.row-index _ (omega (arith, c.loop-row-test.true)) c.loop-row.invariant (sym c.fits.ensures ∙ c.if-fits.false)
