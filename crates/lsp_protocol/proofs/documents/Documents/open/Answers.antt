use Rattle.std.proofs.Common.{Some, string_bytes}
use Rattle.lsp_protocol.proofs.DocumentLemmas.{set_at}
use Rattle.lsp_protocol.proofs.documents.Documents.open.Goals as goal

pub returns-clause-ok : goal.returns-clause-ok
returns-clause-ok c =
    rw (← c.in_ok-uri.ensures.ok, ← c.in_ok-text.ensures.ok)
    (set_at (string_bytes c.in_ok-uri.uri) c.args.self.now.texts c.insert.new.self (Some c.in_ok-text.text) c.in_ok-insert.ensures.updates)
