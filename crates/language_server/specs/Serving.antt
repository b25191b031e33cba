-- What a server of the language has written when it ends.
use Rattle.std.specs.Prelude.{ℕ, List}
use Rattle.language_server.specs.Methods.{capabilities, finds, is_method}
use Rattle.language_server.specs.declared.language.Autolock.{Autolock}
use Rattle.language_server.specs.Diagnostics.{AreDiagnosticsOf}
use Rattle.lsp_protocol.specs.Connections.{Connection}
use Rattle.lsp_protocol.specs.Loop.{Serves}
use Rattle.lsp_protocol.specs.declared.serving.End.{End}
use Rattle.lsp_protocol.specs.declared.serving.Next.{Next}
use Rattle.lsp_protocol.specs.Servers.{MeaningOf, session_of}
use Rattle.lsp_protocol.specs.Sessions.{Answers, IsNew, Meaning}
use Rattle.lsp_protocol.specs.declared.server.Server.{Server}

-- what the protocol asks of the language
abbrev pub meaning : Meaning
meaning = MeaningOf capabilities AreDiagnosticsOf is_method finds

-- a session answers the body of a message with the bytes, and continues with `then`
abbrev pub AnswersAs : Server Autolock → List ℕ → List ℕ → Next → Server Autolock → Type 0
AnswersAs old body bytes then new = Answers meaning (session_of old) body bytes then (session_of new)

-- a new session answered the messages of a connection in turn, and ended with this end; the connection was the first
-- one and is the second one now
pub record ServesEditor (had has : Connection) (ended : End) : Type 0 where
  pub server : Server Autolock
  pub is_new : IsNew (session_of server)
  pub serves : Serves AnswersAs had has server ended
