-- A session: what each act writes and changes, and the answer to the body of a frame.
use Rattle.std.specs.Prelude.{◌≡◌, ℕ, ◌⊎◌, Bool, true, false, List, [], Option, Some, None, MatchOption}
use Rattle.serde_json.specs.Data.{Data, null, array, no_items}
use Rattle.serde_json.specs.Written.{compact_text}
use Rattle.lsp_protocol.specs.Frames.{frame}
use Rattle.lsp_protocol.specs.declared.serving.Next.{Next}
use Rattle.lsp_protocol.specs.declared.serving.Next.TheVariants as next
use Rattle.lsp_protocol.specs.Calls.{IsMessage, IsNoMessage, id_of}
use Rattle.lsp_protocol.specs.Replies.{response, failure, diagnostics}
use Rattle.lsp_protocol.specs.declared.replies.Failure.TheVariants.{NoJson, InvalidParameters, OutOfMemory}
use Rattle.lsp_protocol.specs.Deeds.{Act, refuse, begin, shut_down, leave, set_text, close, look_up, ignore, deed_of}
use Rattle.lsp_protocol.specs.Documents.{Texts, IsSetTo, AreSame}
use Rattle.lsp_protocol.specs.declared.deeds.Phase.{Phase}
use Rattle.lsp_protocol.specs.declared.deeds.Phase.TheVariants as phase

-- the meaning of a language: its capabilities, diagnostics, methods and results
pub record Meaning : Type 1 where
  pub capabilities : Data
  pub diagnoses : List ℕ → List ℕ → Data → Type 0
  pub is_method : List ℕ → Bool
  pub finds : List ℕ → List ℕ → List ℕ → Data → Option Data → Type 0

-- a session with a client
pub record Session : Type 0 where
  pub phase : Phase
  -- the texts of the open documents
  pub texts : Texts
  -- whether a message was answered by the error that memory ran out
  pub short : Bool

-- ---- what is written: one frame or nothing

-- the frame of a reply, or nothing
abbrev pub written : Option Data → List ℕ
written None = []
written (Some reply) = frame (compact_text reply)

-- this reply is written, and the next message may come
abbrev pub Writes : Option Data → List ℕ → Next → Type 0
Writes reply bytes then = (bytes ≡ written reply) × (then ≡ next.Message)

-- the response with a result, or the failure that the parameters are invalid
abbrev pub result_or_failure : Data → Option Data → Data
result_or_failure id None = failure (Some id) InvalidParameters
result_or_failure id (Some found) = response id found

-- ---- the session after an act

-- the session does not change
abbrev pub Stays : Session → Session → Type 0
Stays old new = (new.phase ≡ old.phase) × AreSame old.texts new.texts × (new.short ≡ old.short)

-- the session enters a phase
abbrev pub Enters : Phase → Session → Session → Type 0
Enters phase old new = (new.phase ≡ phase) × AreSame old.texts new.texts × (new.short ≡ old.short)

-- the session sets the text of a document, or closes it
abbrev pub Sets : List ℕ → Option (List ℕ) → Session → Session → Type 0
Sets uri text old new = (new.phase ≡ old.phase) × IsSetTo old.texts new.texts uri text × (new.short ≡ old.short)

-- the client has asked to shut down
abbrev pub is_shut_down : Phase → Bool
is_shut_down phase.New = false
is_shut_down phase.Running = false
is_shut_down phase.ShutDown = true

-- a new session, without a message so far
abbrev pub IsNew : Session → Type 0
IsNew session = (session.phase ≡ phase.New) × ((uri : List ℕ) → session.texts uri ≡ None) × (session.short ≡ false)

-- ---- what an act writes and changes

-- what an act writes, what follows, and the session after it
abbrev pub Performs : Meaning → Session → Act → List ℕ → Next → Session → Type 0
Performs meaning old (refuse id why) bytes then new = Writes (Some (failure id why)) bytes then × Stays old new
Performs meaning old (begin id) bytes then new = Writes (Some (response id meaning.capabilities)) bytes then × Enters phase.Running old new
Performs meaning old (shut_down id) bytes then new = Writes (Some (response id null)) bytes then × Enters phase.ShutDown old new
Performs meaning old leave bytes then new = (bytes ≡ []) × (then ≡ next.Exit (is_shut_down old.phase)) × Stays old new
Performs meaning old (set_text uri text) bytes then new =
    (told : Data) × meaning.diagnoses uri text told × Writes (Some (diagnostics uri told)) bytes then × Sets uri (Some text) old new
Performs meaning old (close uri) bytes then new = Writes (Some (diagnostics uri (array no_items))) bytes then × Sets uri None old new
Performs meaning old (look_up id method uri params) bytes then new = MatchOption (old.texts uri) (Writes (Some (failure (Some id) InvalidParameters)) bytes then)
    (λ text. (found : Option Data) × meaning.finds method uri text params found × Writes (Some (result_or_failure id found)) bytes then) × Stays old new
Performs meaning old ignore bytes then new = Writes None bytes then × Stays old new

-- ---- the answer to the body of a frame

-- the body asks for this act
abbrev pub AsksFor : Meaning → Phase → List ℕ → Act → Type 0
AsksFor meaning phase body act =
    (IsNoMessage body × (act ≡ refuse None NoJson)) ⊎ ((message : Data) × IsMessage body message × (act ≡ deed_of meaning.is_method phase message))

-- the response has the id of the message, or none
abbrev pub GoesTo : List ℕ → Option Data → Type 0
GoesTo body whom = (whom ≡ None) ⊎ ((message : Data) × IsMessage body message × (whom ≡ id_of message))

-- memory ran out: the response says that, the session stays, and from now on it is marked as short of memory
abbrev pub RanShort : Session → List ℕ → List ℕ → Next → Session → Type 0
RanShort old body bytes then new =
    (whom : Option Data) × GoesTo body whom × Writes (Some (failure whom OutOfMemory)) bytes then
    × (new.phase ≡ old.phase) × AreSame old.texts new.texts × (new.short ≡ true)

-- the answer to the body of a frame: what its act performs, or that memory ran out
abbrev pub Answers : Meaning → Session → List ℕ → List ℕ → Next → Session → Type 0
Answers meaning old body bytes then new =
    ((act : Act) × AsksFor meaning old.phase body act × Performs meaning old act bytes then new) ⊎ RanShort old body bytes then new
