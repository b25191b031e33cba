-- What the loop of a server has written at its end.
use Rattle.std.specs.Prelude.{◌≡◌, ◌||◌, ℕ, Bool, true, false, List, [], ◌∷◌, ◌++◌, Option, Some, None, ⊤}
use Rattle.std.specs.Io.KnownBytes.{Appends}
use Rattle.lsp_protocol.specs.Connections.{Connection}
use Rattle.lsp_protocol.specs.Frames.{frame_of, NoFrameIn, TakesFrames, AppendsFront}
use Rattle.lsp_protocol.specs.declared.serving.Next.{Next}
use Rattle.lsp_protocol.specs.declared.serving.Next.TheVariants.{Message, Exit}
use Rattle.lsp_protocol.specs.declared.serving.End.{End}
use Rattle.lsp_protocol.specs.declared.serving.End.TheVariants as end

-- messages with these bodies were answered in turn by these bytes, and each but the last was followed by the next one
abbrev pub Answered : {S : Type 0} → (S → List ℕ → List ℕ → Next → S → Type 0) → S → List (List ℕ) → List ℕ → S → Type 0
Answered answers old [] out new = (out ≡ []) × (new ≡ old)
Answered {S} answers old (body ∷ bodies) out new =
    (mid : S) × (first : List ℕ) × (rest : List ℕ) × answers old body first Message mid × Answered answers mid bodies rest new × (out ≡ first ++ rest)

-- the rest of the input begins with the frame of this body, if the input is known
abbrev pub IsNext : Option (List ℕ) → List ℕ → Type 0
IsNext None body = ⊤
IsNext (Some bytes) body = (behind : List ℕ) × (frame_of bytes ≡ Some (body, behind))

-- the loop ended in this way after messages that were answered by `out`, with this rest of the input; `old` and `new`
-- are the contents of the writer
abbrev pub EndsSo : {S : Type 0} → (S → List ℕ → List ℕ → Next → S → Type 0) → Option (List ℕ) → Option (List ℕ) → Option (List ℕ) → List ℕ → S → End → Type 0
-- one more message was answered, which asked for the end
EndsSo {S} answers left old new out service (end.Exit shut_down) =
    (body : List ℕ) × (last : List ℕ) × (after : S) × IsNext left body × answers service body last (Exit shut_down) after × Appends old new (out ++ last)
-- no further message is there
EndsSo answers left old new out service end.Input = NoFrameIn left × Appends old new out
EndsSo answers left old new out service end.Unread = Appends old new out
EndsSo answers left old new out service end.OutOfMemory = Appends old new out
-- a beginning of the answer to one more message was written
EndsSo {S} answers left old new out service end.Unwritten =
    (body : List ℕ) × (last : List ℕ) × (next : Next) × (after : S) × IsNext left body × answers service body last next after
    × (mid : Option (List ℕ)) × Appends old mid out × AppendsFront mid new last

-- reading failed
abbrev pub is_unread : End → Bool
is_unread end.Unread = true
is_unread _ = false

-- writing failed
abbrev pub is_unwritten : End → Bool
is_unwritten end.Unwritten = true
is_unwritten _ = false

-- the loop ended in this way over a connection, which was the first one and is the second one now
pub record Serves {S : Type 0} (answers : S → List ℕ → List ℕ → Next → S → Type 0) (had has : Connection) (service : S) (ended : End) : Type 0 where
  -- the messages that were answered and followed by the next one
  pub bodies : List (List ℕ)
  -- the rest of the input after them
  pub left : Option (List ℕ)
  pub read : TakesFrames had.input left bodies
  -- their answers, and the service after them
  pub out : List ℕ
  pub behind : S
  pub answered : Answered answers service bodies out behind
  pub ends : EndsSo answers left had.output has.output out behind ended
  -- it ended so exactly where reading failed, or writing
  pub unread : has.unread ≡ (is_unread ended || had.unread)
  pub unwritten : has.unwritten ≡ (is_unwritten ended || had.unwritten)
