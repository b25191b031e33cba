-- The session that a server holds.
use Rattle.std.specs.Prelude.{ℕ, Bool, List, Option}
use Rattle.serde_json.specs.Data.{Data}
use Rattle.lsp_protocol.specs.Documents.{text_at}
use Rattle.lsp_protocol.specs.Sessions.{Session, Meaning}
use Rattle.lsp_protocol.specs.declared.server.Server.{Server}

-- the session of a server
abbrev pub session_of : {L : Type 0} → Server L → Session
session_of server = record { phase = server.phase; texts = text_at server.documents; short = server.short }

-- the meaning of a language with these parts
abbrev pub MeaningOf : Data → (List ℕ → List ℕ → Data → Type 0) → (List ℕ → Bool) → (List ℕ → List ℕ → List ℕ → Data → Option Data → Type 0) → Meaning
MeaningOf capabilities diagnoses is_method finds = record { capabilities = capabilities; diagnoses = diagnoses; is_method = is_method; finds = finds }
