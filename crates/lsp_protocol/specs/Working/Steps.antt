-- One message of the loop.
use Rattle.std.specs.Prelude.{ℕ, Bool, false, List, [], Option, Some, None}
use Rattle.std.specs.Option.{option_map_or}
use Rattle.std.specs.Io.KnownBytes.{Appends}
use Rattle.lsp_protocol.specs.Frames.{TakesFrame}
use Rattle.lsp_protocol.specs.declared.serving.Next.{Next}
use Rattle.lsp_protocol.specs.declared.serving.Next.TheVariants.{Message}
use Rattle.lsp_protocol.specs.declared.serving.End.{End}
use Rattle.lsp_protocol.specs.Loop.{EndsSo, is_unread, is_unwritten}

-- a message was answered and the next one may come, or the loop ends
abbrev pub IsStep : {S : Type 0} → (S → List ℕ → List ℕ → Next → S → Type 0) → Option (List ℕ) → Option (List ℕ) → Option (List ℕ) → Option (List ℕ)
    → S → S → Option End → Type 0
IsStep answers had left old new service after None =
    (body : List ℕ) × (bytes : List ℕ) × TakesFrame had left body × answers service body bytes Message after × Appends old new bytes
IsStep answers had left old new service after (Some ended) = EndsSo answers had old new [] service ended

-- the loop ends since reading failed
abbrev pub stops_unread : Option End → Bool
stops_unread ended = option_map_or is_unread ended false

-- the loop ends since writing failed
abbrev pub stops_unwritten : Option End → Bool
stops_unwritten ended = option_map_or is_unwritten ended false
