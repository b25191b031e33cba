use Rattle.serde_json.specs.View.{view}
use Rattle.lsp_protocol.specs.Servers.{session_of, MeaningOf}
use Rattle.lsp_protocol.proofs.AnswerLemmas.{of_message, of_no_message}
use Rattle.lsp_protocol.proofs.server.ServerService.answer.Goals as goal

pub returns-in-Ok : goal.returns-in-Ok
returns-in-Ok g c =
    let l = g.L.Language in
    of_message (MeaningOf l.capabilities l.diagnoses l.is_method l.finds) (view c.in-Ok.message) c.args.body.now (session_of c.args.self.now)
    (session_of c.answer_message.new.self) c.answer_message.result c.in-Ok.ensures.ok c.answer_message.ensures

pub returns-in-Err-NoJson : goal.returns-in-Err-NoJson
returns-in-Err-NoJson g c =
    let l = g.L.Language in
    of_no_message (MeaningOf l.capabilities l.diagnoses l.is_method l.finds) c.args.body.now (session_of c.args.self.now) c.refusal.result
    (rw c.in-Err-NoJson.field-0-is at c.in-Err-NoJson.ensures.err) c.refusal.ensures
