-- What the engine of `lsp` does with an editor's messages, and how it ends.
use Rattle.std.specs.Prelude.{◌≡◌, ℕ, true, false, List, [], codes, Option}
use Rattle.driver.specs.declared.status.Status.{Status}
use Rattle.driver.specs.declared.status.Status.TheVariants.{Done, Refused, Failed}
use Rattle.driver.specs.declared.status.Status.TheVariants as status
use Rattle.driver.specs.declared.streams.Streams.{Streams}
use Rattle.driver.specs.Messages.{cannot_read, cannot_write, no_memory}
use Rattle.driver.specs.Streams.{Tells}
use Rattle.language_server.specs.Serving.{ServesEditor}
use Rattle.lsp_protocol.specs.Connections.{Connection}
use Rattle.lsp_protocol.specs.declared.serving.End.{End}
use Rattle.lsp_protocol.specs.declared.serving.End.TheVariants.{Exit, Input, Unread, Unwritten, OutOfMemory}

-- the status of an end: `Done` where the editor asked to exit after it had asked to shut down
abbrev pub status_for : End → Status
status_for (Exit true) = Done
status_for (Exit false) = Refused
status_for Input = Refused
status_for Unread = Failed
status_for Unwritten = Failed
status_for OutOfMemory = status.OutOfMemory

-- the message of an end
abbrev pub message_for : End → List ℕ
message_for (Exit shut_down) = []
message_for Input = []
message_for Unread = cannot_read (codes "standard input")
message_for Unwritten = cannot_write
message_for OutOfMemory = no_memory

-- the editor was served until this end over a connection, which was the first one and is the second one now
pub record IsServed {O E : Type 0} (had has : Connection) (told : E → Option (List ℕ)) (old new : Streams O E) (status : Status) : Type 0 where
  pub ended : End
  pub serves : ServesEditor had has ended
  pub status_is : status ≡ status_for ended
  pub said : Tells told old.err new.err (message_for ended)
  pub kept : new.out ≡ old.out
