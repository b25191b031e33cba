use Rattle.std.proofs.Common.{◌<◌, ◌∙◌, length, arith}
use Rattle.lsp_texts.proofs.WalkLemmas.{walked_to}
use Rattle.lsp_texts.proofs.walking.Walker.advance.Goals as goal

pub loop-at-init : goal.loop-at-init
loop-at-init c = record { is = c.args.self.now.is; few_lines = c.args.self.now.few_lines; few_units = c.args.self.now.few_units }

pub loop-at-preserved : goal.loop-at-preserved
loop-at-preserved c =
    let below : c.loop-at.at < length c.args.self.now.text.now = omega arith in
    record {
      is = c.behind-position.ensures.place ∙ walked_to c.args.self.now.text.now c.loop-at.at 0 _ _ below c.loop-at.invariant.is c.next_of.ensures;
      few_lines = omega (arith, c.behind-position.ensures.few_lines);
      few_units = omega (arith, c.behind-position.ensures.few_units);
    }
