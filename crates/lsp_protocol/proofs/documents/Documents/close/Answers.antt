use Rattle.std.proofs.Common.{None}
use Rattle.lsp_protocol.proofs.DocumentLemmas.{set_at}
use Rattle.lsp_protocol.proofs.documents.Documents.close.Goals as goal

pub returns : goal.returns
returns c = set_at c.args.uri.now c.args.self.now.texts c.remove.new.self None c.remove.ensures.updates
