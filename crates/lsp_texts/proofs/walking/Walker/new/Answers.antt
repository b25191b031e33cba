use Rattle.std.proofs.Common.{rules, sym}
use Rattle.lsp_texts.proofs.WalkLemmas.{begins}
use Rattle.lsp_texts.proofs.walking.Walker.new.Goals as goal

pub invariant_of-result : goal.invariant_of-result
invariant_of-result c = record { within = search rules; short = search rules; is = sym (begins c.args.text.now); few_lines = search rules; few_units = search rules }
