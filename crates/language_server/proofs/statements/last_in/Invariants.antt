use Rattle.std.proofs.Common.{◌≡◌, drop}
use Rattle.language_server.specs.Working.Latest.{latest_behind, latest_in}
use Rattle.language_server.proofs.statements.last_in.Given as goal

-- the latest statement among the sections so far and the remaining ones is that of all sections
abbrev pub invariant-loop-section : goal.invariant-loop-section
invariant-loop-section l = latest_behind l.stretch l.last (drop l.section-index l.program.sections.items) ≡ latest_in l.stretch l.program
