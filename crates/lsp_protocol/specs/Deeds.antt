-- What a server does for a message.
use Rattle.std.specs.Prelude.{ℕ, Bool, List, codes, Option, Some, None, if◌then◌else◌}
use Rattle.std.specs.Str.{bytes_eq}
use Rattle.serde_json.specs.Data.{Data}
use Rattle.lsp_protocol.specs.Calls.{Called, call_of, id_of}
use Rattle.lsp_protocol.specs.Parameters.{document_uri, opened_text, changed_text}
use Rattle.lsp_protocol.specs.declared.replies.Failure.{Failure}
use Rattle.lsp_protocol.specs.declared.replies.Failure.TheVariants.{InvalidRequest, NoMethod, InvalidParameters, NotInitialized}
use Rattle.lsp_protocol.specs.declared.deeds.Phase.{Phase}
use Rattle.lsp_protocol.specs.declared.deeds.Phase.TheVariants as phase

-- what a server does
pub data Act : Type 0 where
  -- the message of this id, if it has one, is refused
  refuse : Option Data → Failure → Act
  -- the session begins, and the request of this id gets the server's capabilities
  begin : Data → Act
  -- the server shuts down, as the request of this id asks
  shut_down : Data → Act
  -- the server ends
  leave : Act
  -- the document with this URI gets this text
  set_text : List ℕ → List ℕ → Act
  -- the document with this URI is closed
  close : List ℕ → Act
  -- the request of this id is answered by this method, for the document with this URI and these parameters
  look_up : Data → List ℕ → List ℕ → Data → Act
  ignore : Act

-- ---- notifications

-- sets the text of a document, if the URI and the text are given
abbrev pub opened_so : Option (List ℕ) → Option (List ℕ) → Act
opened_so None text = ignore
opened_so (Some uri) None = ignore
opened_so (Some uri) (Some text) = set_text uri text

-- the act of a notification that a document has this text
abbrev pub opened : Data → Option (List ℕ) → Act
opened params text = opened_so (document_uri params) text

-- closes a document, if its URI is given
abbrev pub closed_so : Option (List ℕ) → Act
closed_so None = ignore
closed_so (Some uri) = close uri

-- the act of a notification that a document is closed
abbrev pub closed : Data → Act
closed params = closed_so (document_uri params)

-- the act of a notification
abbrev pub notified : List ℕ → Option Data → Act
notified method None = ignore
notified method (Some params) =
    if bytes_eq method (codes "textDocument/didOpen") then opened params (opened_text params) else
    if bytes_eq method (codes "textDocument/didChange") then opened params (changed_text params) else
    if bytes_eq method (codes "textDocument/didClose") then closed params else ignore

-- ---- requests

-- looks up a method's result in a document, if its URI is given
abbrev pub asked_so : Data → List ℕ → Data → Option (List ℕ) → Act
asked_so id method params None = refuse (Some id) InvalidParameters
asked_so id method params (Some uri) = look_up id method uri params

-- the act of a request about a document
abbrev pub asked : Data → List ℕ → Option Data → Act
asked id method None = refuse (Some id) InvalidParameters
asked id method (Some params) = asked_so id method params (document_uri params)

-- the act of a request in a running session
abbrev pub requested : (List ℕ → Bool) → Data → List ℕ → Option Data → Act
requested is_method id method params =
    if bytes_eq method (codes "initialize") then refuse (Some id) InvalidRequest else
    if bytes_eq method (codes "shutdown") then shut_down id else
    if is_method method then asked id method params else refuse (Some id) NoMethod

-- the act of a request in a phase
abbrev pub called : (List ℕ → Bool) → Phase → Data → Called → Act
called is_method phase.New id call =
    if bytes_eq call.method (codes "initialize") then begin id else refuse (Some id) NotInitialized
called is_method phase.Running id call = requested is_method id call.method call.params
called is_method phase.ShutDown id call = refuse (Some id) InvalidRequest

-- ---- messages

-- the act of a notification in a phase
abbrev pub told : Phase → Called → Act
told phase.New call = ignore
told phase.Running call = notified call.method call.params
told phase.ShutDown call = ignore

-- the act of a call, which is a request if it has an id
abbrev pub comes_of : (List ℕ → Bool) → Phase → Option Data → Called → Act
comes_of is_method phase None call = told phase call
comes_of is_method phase (Some id) call = called is_method phase id call

-- the act of a message; one that is not a call is refused
abbrev pub act_of : (List ℕ → Bool) → Phase → Option Data → Option Called → Act
act_of is_method phase whom None = refuse whom InvalidRequest
act_of is_method phase whom (Some call) =
    if bytes_eq call.method (codes "exit") then leave else comes_of is_method phase call.id call

-- the act of a message in this phase, if the language has these methods of requests about documents
abbrev pub deed_of : (List ℕ → Bool) → Phase → Data → Act
deed_of is_method phase message = act_of is_method phase (id_of message) (call_of message)
