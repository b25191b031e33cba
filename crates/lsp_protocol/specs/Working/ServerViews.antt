-- The values of a server, as the data of `specs/`.
use Rattle.std.specs.Prelude.{◌≡◌, ◌⊎◌, ℕ, Bool, true, false, List, Option, Some, None, ⊤}
use Rattle.serde_json.specs.Data.{Data}
use Rattle.serde_json.specs.View.{view}
use Rattle.serde_json.specs.Written.{has_float}
use Rattle.lsp_protocol.specs.declared.serving.ServiceAnswer.{ServiceAnswer}
use Rattle.lsp_protocol.specs.declared.serving.Next.{Next}
use Rattle.lsp_protocol.specs.Deeds.{Act, refuse, begin, shut_down, leave, set_text, close, look_up, ignore, deed_of}
use Rattle.lsp_protocol.specs.Calls.{id_of}
use Rattle.lsp_protocol.specs.Replies.{failure}
use Rattle.lsp_protocol.specs.declared.replies.Failure.TheVariants.{OutOfMemory}
use Rattle.lsp_protocol.specs.Documents.{AreSame}
use Rattle.lsp_protocol.specs.Sessions.{Meaning, Session, Writes, Performs}
use Rattle.lsp_protocol.specs.Working.Values.{data_behind}
use Rattle.lsp_protocol.specs.declared.deeds.Deed.{Deed}
use Rattle.lsp_protocol.specs.declared.deeds.Deed.TheVariants as deed

abbrev pub view_of_deed : Deed → Act
view_of_deed (deed.Refuse id why) = refuse (data_behind id) why
view_of_deed (deed.Begin id) = begin (view id.now)
view_of_deed (deed.ShutDown id) = shut_down (view id.now)
view_of_deed deed.Exit = leave
view_of_deed (deed.Open uri text) = set_text uri.now text.now
view_of_deed (deed.Close uri) = close uri.now
view_of_deed (deed.Find id method uri params) = look_up (view id.now) method.now uri.now (view params.now)
view_of_deed deed.Ignore = ignore

-- an answer of one message
abbrev pub IsOne : Data → ServiceAnswer → Type 0
IsOne reply answer = Writes (Some reply) answer.frames.items answer.next

-- the data written for the act has no fractional numbers, and its method is one of the language
abbrev pub IsFit : (List ℕ → Bool) → Act → Type 0
IsFit is_method (refuse None why) = ⊤
IsFit is_method (refuse (Some id) why) = has_float id ≡ false
IsFit is_method (begin id) = has_float id ≡ false
IsFit is_method (shut_down id) = has_float id ≡ false
IsFit is_method leave = ⊤
IsFit is_method (set_text uri text) = ⊤
IsFit is_method (close uri) = ⊤
IsFit is_method (look_up id method uri params) = (has_float id ≡ false) × (is_method method ≡ true)
IsFit is_method ignore = ⊤

-- memory ran out, and the response goes to this id, or to none
abbrev pub RanShortFor : Option Data → Session → List ℕ → Next → Session → Type 0
RanShortFor whom old bytes then new =
    Writes (Some (failure whom OutOfMemory)) bytes then × (new.phase ≡ old.phase) × AreSame old.texts new.texts × (new.short ≡ true)

-- the answer to a message
abbrev pub AnswersMessage : Meaning → Data → Session → List ℕ → Next → Session → Type 0
AnswersMessage meaning message old bytes then new =
    Performs meaning old (deed_of meaning.is_method old.phase message) bytes then new ⊎ RanShortFor (id_of message) old bytes then new
