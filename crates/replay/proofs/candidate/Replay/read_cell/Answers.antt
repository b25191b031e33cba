use Rattle.std.proofs.Common.{◌∙◌, ◌<◌, sym, arith, refl, length, string_bytes}
use Rattle.report.specs.History.{cell_line}
use Rattle.replay.proofs.Findings.{other_due}
use Rattle.replay.specs.declared.progress.Stage.TheVariants.{Cells}
use Rattle.replay.proofs.Naming.{closed_names_none}
use Rattle.replay.proofs.Steps.{reads_so, reads_otherwise, closed_at, cell_told, cell_due, cell_came}
use Rattle.replay.proofs.candidate.Replay.read_cell.Goals as goal

pub returns-then-not-is_cell-clause-reads : goal.returns-then-not-is_cell-clause-reads
returns-then-not-is_cell-clause-reads c reader is =
    let program = c.args.self.now.program.now in
    let long = program.cells.ok.0 in
    let many = c.len.ensures in
    let test = c.if-number-len.false in
    let cells = c.requires.sound.cells in
    let less : c.args.number < length program.cells.items = omega (arith, long, many, test) in
    let held : c.args.number < length c.args.at.now.heap = omega (arith, less, cells) in
    let told = cell_told program c.index.result.now c.cells.result.now c.args.at.now.heap c.args.number _ (string_bytes c.clear.new.self) (string_bytes c.push_cell.new.out)
    c.cells.ensures held c.in_ok-push_cell.ensures c.clear.ensures.bytes in
    other_due c.args.self.now.turns c.args.self.now.callers c.args.self.now.format c.args.self.now.program.now reader c.args.line.now (cell_line program c.index.result.now told.0) _
    (cell_due program c.args.at.now reader is c.args.number c.index.result.now told.0 c.requires.stage less cells c.index.ensures told.1)
    (λ same. reads_otherwise c.args.line.now c.as_str.result.now (sym c.is-is_cell.ensures ∙ c.if-not-is_cell.true) (same ∙ sym (c.as_str.ensures.value ∙ told.2)))

pub returns-clause-reads : goal.returns-clause-reads
returns-clause-reads c reader is =
    let program = c.args.self.now.program.now in
    let long = program.cells.ok.0 in
    let many = c.len.ensures in
    let test = c.if-number-len.false in
    let cells = c.requires.sound.cells in
    let less : c.args.number < length program.cells.items = omega (arith, long, many, test) in
    let held : c.args.number < length c.args.at.now.heap = omega (arith, less, cells) in
    let told = cell_told program c.index.result.now c.cells.result.now c.args.at.now.heap c.args.number _ (string_bytes c.clear.new.self) (string_bytes c.push_cell.new.out)
    c.cells.ensures held c.in_ok-push_cell.ensures c.clear.ensures.bytes in
    cell_came c.args.self.now.turns c.args.self.now.callers c.args.self.now.format c.args.self.now.program.now c.args.at.now reader c.args.number c.index.result.now told.0 c.args.line.now is c.requires.stage less cells c.index.ensures told.1
    (reads_so c.args.line.now c.as_str.result.now (sym c.is-is_cell.ensures ∙ c.if-not-is_cell.false) ∙ c.as_str.ensures.value ∙ told.2)

pub returns-then-not-is_cell-clause-leaves : goal.returns-then-not-is_cell-clause-leaves
returns-then-not-is_cell-clause-leaves c = record {
  same = refl;
  names = λ reader is.
      closed_names_none c.args.self.now.callers c.args.self.now.format c.args.self.now.program.now reader c.args.line.now
      (closed_at c.args.self.now.program.now c.args.at.now reader is (Cells c.args.number) c.requires.stage);
}

pub returns-then-number-len-clause-leaves : goal.returns-then-number-len-clause-leaves
returns-then-number-len-clause-leaves c = c.read_last.ensures.leaves _
