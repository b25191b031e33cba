-- The terms of clauses about the readers and writers of an engine.
use Rattle.std.specs.Prelude.{◌≡◌, ℕ, Bool, false, List, Option, None, option_map}
use Rattle.std.specs.Option.{option_map_or}
use Rattle.std.specs.Io.KnownBytes.{Appends}
use Rattle.std.specs.Io.Take.{take_inner}
use Rattle.driver.specs.declared.source_text.SourceText.{SourceText}
use Rattle.driver.specs.declared.sink.Sink.{Sink}

-- the file's name in messages
abbrev pub name_of : {R : Type 0} → SourceText R → List ℕ
name_of source = source.name.now

-- the file's reader, where the file could be opened
abbrev pub reader_of : {R : Type 0} → SourceText R → Option R
reader_of source = option_map take_inner source.reader

-- the bytes that the reader has left, where it reports them
abbrev pub left_in : {R : Type 0} → (R → Option (List ℕ)) → SourceText R → Option (List ℕ)
left_in remaining source = option_map_or remaining (reader_of source) None

-- whether reading the file failed
abbrev pub reading_failed : {R : Type 0} → SourceText R → Bool
reading_failed source = source.failed

-- the sink's writer
abbrev pub writer_of : {W : Type 0} → Sink W → W
writer_of sink = sink.writer

-- whether writing to the sink failed
abbrev pub writing_failed : {W : Type 0} → Sink W → Bool
writing_failed sink = sink.failed

-- the bytes are appended to the earlier ones; for a writer that doesn't report its bytes this says nothing
abbrev pub Writes : {W : Type 0} → (W → Option (List ℕ)) → Sink W → Sink W → List ℕ → Type 0
Writes contents old new bytes = Appends (contents (writer_of old)) (contents (writer_of new)) bytes

-- the bytes are appended, unless writing failed
abbrev pub Tells : {W : Type 0} → (W → Option (List ℕ)) → Sink W → Sink W → List ℕ → Type 0
Tells contents old new bytes = writing_failed new ≡ false → Writes contents old new bytes
