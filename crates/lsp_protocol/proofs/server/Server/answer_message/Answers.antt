use Rattle.std.proofs.Common.{sym, subst}
use Rattle.lsp_protocol.specs.Working.ServerViews.{IsFit}
use Rattle.serde_json.specs.View.{view}
use Rattle.lsp_protocol.proofs.DeedLemmas.{fit_of}
use Rattle.lsp_protocol.proofs.server.Server.answer_message.Goals as goal

pub perform-requires : goal.perform-requires
perform-requires g c =
    subst (IsFit g.L.Language.is_method) (sym c.deed_of-deed.ensures) (fit_of g.L.Language.is_method c.args.self.now.phase (view c.args.message.now))
