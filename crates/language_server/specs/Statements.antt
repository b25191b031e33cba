-- The statement at a position.
use Rattle.std.specs.Prelude.{ℕ, max, List, map, fold, Option, Some, None, unwrap_or}
use Rattle.std.specs.List.{filter, flat_map}
use Rattle.core_lang.specs.declared.tree.Section.{Section}
use Rattle.core_lang.specs.declared.typed.Typed.{Typed}
use Rattle.flow.specs.Points.{points, start_of}
use Rattle.lsp_texts.specs.Positions.{offset_of}
use Rattle.source.specs.Texts.{is_between}
use Rattle.lsp_texts.specs.declared.walking.Position.{Position}

-- the greatest of the numbers, and of an earlier one
abbrev pub greatest_from : Option ℕ → List ℕ → Option ℕ
greatest_from found numbers = fold (λ best n. Some (max n (unwrap_or best 0))) found numbers

-- the starts of the statements of a section
abbrev pub section_starts : Section → List ℕ
section_starts section = map start_of (points section)

-- the last start in the range
abbrev pub last_between : ℕ → ℕ → List ℕ → Option ℕ
last_between first last starts = greatest_from None (filter (is_between first last) starts)

-- the start of the statement of an expanded program that starts last in the position's line up to the position
abbrev pub statement_at : List ℕ → Typed → Position → Option ℕ
statement_at text program position =
    last_between (offset_of text (record { line = position.line; unit = 0 })) (offset_of text position)
    (flat_map section_starts program.sections.items)
