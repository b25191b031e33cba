-- The answer to the body of a frame, from the answer to its message.
use Rattle.std.proofs.Common.{ℕ, List, None, Result, Ok, Err, inl, inr, refl}
use Rattle.std.specs.Prelude.{IfOk}
use Rattle.serde_json.specs.Data.{Data}
use Rattle.lsp_protocol.specs.declared.serving.ServiceAnswer.{ServiceAnswer}
use Rattle.lsp_protocol.specs.Calls.{IsMessage, IsNoMessage, id_of}
use Rattle.lsp_protocol.specs.Replies.{failure}
use Rattle.lsp_protocol.specs.declared.replies.Failure.TheVariants.{NoJson}
use Rattle.lsp_protocol.specs.Deeds.{refuse, deed_of}
use Rattle.lsp_protocol.specs.Sessions.{Meaning, Session, Answers}
use Rattle.lsp_protocol.specs.Working.ServerViews.{IsOne, AnswersMessage}

pub of_message : {E : Type 0} (meaning : Meaning) (message : Data) (body : List ℕ) (old new : Session) (r : Result ServiceAnswer E) → IsMessage body message →
    IfOk r (λ a. AnswersMessage meaning message old a.frames.items a.next new) → IfOk r (λ a. Answers meaning old body a.frames.items a.next new)
of_message meaning message body old new (Err e) is answered = tt
of_message meaning message body old new (Ok a) is (inl performs) = inl (deed_of meaning.is_method old.phase message, inr (message, is, refl), performs)
of_message meaning message body old new (Ok a) is (inr short) = inr (id_of message, inr (message, is, refl), short.0, short.1, short.2, short.3)

pub of_no_message : {E : Type 0} (meaning : Meaning) (body : List ℕ) (old : Session) (r : Result ServiceAnswer E) → IsNoMessage body →
    IfOk r (IsOne (failure None NoJson)) → IfOk r (λ a. Answers meaning old body a.frames.items a.next old)
of_no_message meaning body old (Err e) is answered = tt
of_no_message meaning body old (Ok a) is answered = inl (refuse None NoJson, inl (is, refl), (answered, (refl, (λ uri. refl), refl)))
