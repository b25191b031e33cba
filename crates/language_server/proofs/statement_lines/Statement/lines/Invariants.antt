use Rattle.std.proofs.Common.{◌≡◌, drop, fold}
use Rattle.std.specs.BTreeSet.{insert_key}
use Rattle.std.specs.Cmp.Lexicographic.{slice_cmp}
use Rattle.std.specs.Ordering.{nat_cmp}
use Rattle.language_server.specs.Held.{section_lines}
use Rattle.language_server.specs.Working.Lines.{held_in, told_lines, lines_of_statement}
use Rattle.language_server.proofs.statement_lines.Statement.lines.Given as goal

-- the lines found so far and the remaining ones are all lines
abbrev pub invariant-loop-number : goal.invariant-loop-number
invariant-loop-number l =
    let plan = l.self.program.now in
    fold (insert_key (slice_cmp nat_cmp)) (told_lines l.found)
    (section_lines plan (held_in l.self.held.now) l.self.start l.number (drop l.number plan.program.sections.items))
    ≡ lines_of_statement l.self
