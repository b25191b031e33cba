-- The two ends of the connection to a client, and whether they failed.
use Rattle.std.specs.Prelude.{ℕ, Bool, true, false, List, Option, Result, Ok, Err}
use Rattle.lsp_protocol.specs.declared.incoming.Incoming.{Incoming}
use Rattle.lsp_protocol.specs.declared.incoming.ReadError.{ReadError}
use Rattle.lsp_protocol.specs.declared.incoming.ReadError.TheVariants.{Failed, OutOfMemory}
use Rattle.lsp_protocol.specs.declared.outgoing.Outgoing.{Outgoing}

-- the reader of a client's bytes
abbrev pub reader_of : {R : Type 0} → Incoming R → R
reader_of incoming = incoming.reader

-- whether reading failed
abbrev pub reading_failed : {R : Type 0} → Incoming R → Bool
reading_failed incoming = incoming.failed

-- the writer of a client's bytes
abbrev pub writer_of : {W : Type 0} → Outgoing W → W
writer_of outgoing = outgoing.writer

-- whether writing failed
abbrev pub writing_failed : {W : Type 0} → Outgoing W → Bool
writing_failed outgoing = outgoing.failed

-- a connection: the bytes that are left to read and those that were written, where the reader and the writer report
-- them, and whether reading failed, or writing
pub record Connection : Type 0 where
  pub input : Option (List ℕ)
  pub output : Option (List ℕ)
  pub unread : Bool
  pub unwritten : Bool

-- the connection that a reader and a writer make
abbrev pub connection : {R W : Type 0} → (R → Option (List ℕ)) → (W → Option (List ℕ)) → Incoming R → Outgoing W → Connection
connection remaining contents incoming outgoing = record {
  input = remaining (reader_of incoming);
  output = contents (writer_of outgoing);
  unread = reading_failed incoming;
  unwritten = writing_failed outgoing;
}

-- the reader failed, and did not run out of memory
abbrev pub is_failed : ReadError → Bool
is_failed Failed = true
is_failed OutOfMemory = false

-- the reader failed in this step
abbrev pub is_failure : {A : Type 0} → Result A ReadError → Bool
is_failure (Ok found) = false
is_failure (Err error) = is_failed error
