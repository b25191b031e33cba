use Rattle.std.proofs.Common.{◌≡◌, ◌++◌, map, string_bytes}
use Rattle.std.specs.List.{flat_map}
use Rattle.code.specs.Listing.{line}
use Rattle.language_server.specs.Working.Lines.{told_lines}
use Rattle.language_server.proofs.hover_object.joined.Given as goal

-- the written lines and the remaining ones are all lines
abbrev pub invariant-loop-line : goal.invariant-loop-line
invariant-loop-line l = string_bytes l.text ++ flat_map line (map string_bytes l.line-iterator) ≡ flat_map line (told_lines l.lines)
