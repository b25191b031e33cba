use Rattle.std.proofs.Common.{◌∙◌, ◌<◌, List, [], ℕ, arith, length, string_bytes, sym, subst}
use Rattle.std.specs.Prelude.{codes}
use Rattle.report.specs.History.{cell_line}
use Rattle.replay.specs.Wanted.{MayCome}
use Rattle.replay.proofs.Findings.{due_comes}
use Rattle.replay.proofs.Steps.{cell_told, cell_due, last_due}
use Rattle.replay.proofs.candidate.Replay.wanted_cell.Goals as goal

pub returns-then-number-len : goal.returns-then-number-len
returns-then-number-len c line reader lines first is none =
    let turns = c.args.self.now.turns in
    let callers = c.args.self.now.callers in
    let format = c.args.self.now.format in
    let program = c.args.self.now.program.now in
    let long = program.cells.ok.0 in
    let many = c.len.ensures in
    let test = c.if-number-len.true in
    let due = last_due program c.args.at.now reader is c.args.number c.requires.stage (omega (arith, long, many, test)) in (
      subst (λ (text : List ℕ). MayCome turns callers format program reader text) (sym c.in_ok-from_str.ensures.ok)
          (_, due_comes turns callers format program reader (codes "end") [] due),
      λ call begun names. absurd (none call begun names),
      λ among named. let e = sym among.none_due ∙ due in absurd (cc),
    )

pub returns : goal.returns
returns c line reader lines first is none =
    let turns = c.args.self.now.turns in
    let callers = c.args.self.now.callers in
    let format = c.args.self.now.format in
    let program = c.args.self.now.program.now in
    let long = program.cells.ok.0 in
    let many = c.len.ensures in
    let test = c.if-number-len.false in
    let cells = c.requires.sound.cells in
    let less : c.args.number < length program.cells.items = omega (arith, long, many, test) in
    let held : c.args.number < length c.args.at.now.heap = omega (arith, less, cells) in
    let told = cell_told program c.index.result.now c.cells.result.now c.args.at.now.heap c.args.number _ (string_bytes c.new-line.result) (string_bytes c.push_cell.new.out)
    c.cells.ensures held c.in_ok-push_cell.ensures c.new-line.ensures.bytes in
    let due = cell_due program c.args.at.now reader is c.args.number c.index.result.now told.0 c.requires.stage less cells c.index.ensures told.1 in (
      subst (λ (text : List ℕ). MayCome turns callers format program reader text) (sym told.2)
          (_, due_comes turns callers format program reader (cell_line program c.index.result.now told.0) _ due),
      λ call begun names. absurd (none call begun names),
      λ among named. let e = sym among.none_due ∙ due in absurd (cc),
    )
