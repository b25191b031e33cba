-- The last starts of statements, as the code finds them.
use Rattle.std.specs.Prelude.{ℕ, List, map, Option}
use Rattle.std.specs.List.{filter, flat_map}
use Rattle.core_lang.specs.declared.tree.Section.{Section}
use Rattle.core_lang.specs.declared.typed.Typed.{Typed}
use Rattle.flow.specs.Points.{Point, start_of}
use Rattle.language_server.specs.declared.statements.Stretch.{Stretch}
use Rattle.language_server.specs.Statements.{greatest_from, last_between, section_starts}
use Rattle.source.specs.Texts.{is_between}

abbrev pub latest_at : Stretch → Option ℕ → List Point → Option ℕ
latest_at x found ps = greatest_from found (filter (is_between x.first x.last) (map start_of ps))

abbrev pub latest_behind : Stretch → Option ℕ → List Section → Option ℕ
latest_behind x found ss = greatest_from found (filter (is_between x.first x.last) (flat_map section_starts ss))

abbrev pub latest_in : Stretch → Typed → Option ℕ
latest_in x program = last_between x.first x.last (flat_map section_starts program.sections.items)
