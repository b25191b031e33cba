use Rattle.std.proofs.Common.{◌∙◌, List, ℕ, sym, subst}
use Rattle.std.specs.Prelude.{codes, string_bytes}
use Rattle.replay.specs.Working.Reading.{Leaves}
use Rattle.replay.proofs.Steps.{reads_so}
use Rattle.replay.proofs.candidate.Replay.read_call.Goals as goal

pub returns-then-is-clause-leaves : goal.returns-then-is-clause-leaves
returns-then-is-clause-leaves c =
    subst
    (λ (text : List ℕ). Leaves c.args.self.now.turns c.args.self.now.callers c.args.self.now.format c.args.self.now.program.now text c.args.at.now c.read_cells.new.at
    (string_bytes c.args.text.now) c.read_cells.result)
    (sym (reads_so c.args.line.now (codes "cells") (sym c.is.ensures ∙ c.if-is.true))) (c.read_cells.ensures.leaves (string_bytes c.args.text.now))
