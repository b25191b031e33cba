-- The hover on the statement at a position, as the protocol's JSON.
use Rattle.std.specs.Prelude.{◌≡◌, ℕ, ◌+◌, Bool, not, ◌||◌, ◌==◌, List, codes, drop, length, min, Option, Some, None}
use Rattle.std.specs.List.{flat_map, prefix_len}
use Rattle.serde_json.specs.Data.{Data, null, object, string, member, no_members}
use Rattle.source.specs.declared.fault.Fault.{Fault}
use Rattle.compiler.specs.Programs.{Accepts, IsOfFirstPass}
use Rattle.code.specs.Listing.{line}
use Rattle.lowering.specs.Plans.{Plan, IsCompiled}
use Rattle.lsp_texts.specs.declared.walking.Position.{Position}
use Rattle.lsp_texts.specs.Ranges.{range_data}
use Rattle.language_server.specs.Held.{AreHeld, lines_of}
use Rattle.language_server.specs.Statements.{statement_at}

-- the byte does not end a line
abbrev pub is_in_line : ℕ → Bool
is_in_line b = not ((b == 10) || (b == 13))

-- the end of the line that has a byte
abbrev pub line_end : List ℕ → ℕ → ℕ
line_end text at = let here = min at (length text) in here + prefix_len is_in_line (drop here text)

-- {"contents":{"kind":"plaintext","value":LINES},"range":RANGE}, from the statement's start to its line's end
abbrev pub statement_hover : List ℕ → ℕ → List (List ℕ) → Data
statement_hover text start lines =
    object (member (codes "contents")
    (object (member (codes "kind") (string (codes "plaintext"))
    (member (codes "value") (string (flat_map line lines)) no_members)))
    (member (codes "range") (range_data text start (line_end text start)) no_members))

-- the hover on the statement that starts at this byte, if there is one
abbrev pub told_at : List ℕ → Plan → List (List (List ℕ)) → Option ℕ → Data
told_at text plan held None = null
told_at text plan held (Some start) = statement_hover text start (lines_of plan held start)

-- the text is accepted, and the hover lists the locks that are held at the statement at the position; or it has a
-- fault, and the hover is null
pub data IsStatementHoverOf (text : List ℕ) (position : Position) (told : Data) : Type 0 where
  accepted : (plan : Plan) (held : List (List (List ℕ))) → Accepts text plan.accepted → IsCompiled plan →
      AreHeld plan.program plan.ranks held → told ≡ told_at text plan held (statement_at text plan.program position) →
      IsStatementHoverOf text position told
  refused : (fault : Fault) → IsOfFirstPass text fault → told ≡ null → IsStatementHoverOf text position told
