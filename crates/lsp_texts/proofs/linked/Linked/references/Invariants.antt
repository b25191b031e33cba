use Rattle.std.proofs.Common.{◌≡◌}
use Rattle.lsp_texts.specs.Links.{references_in}
use Rattle.lsp_texts.proofs.linked.Linked.references.Given as goal

abbrev pub invariant-loop-at : goal.invariant-loop-at
invariant-loop-at l = l.found.items ≡ references_in l.self.tokens.now l.itself l.declared l.at
