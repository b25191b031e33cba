use Rattle.std.proofs.Common.{◌≡◌, Some, sym, ap, ◌∙◌, subst}
use Rattle.std.specs.Prelude.{is_some}
use Rattle.locks.specs.Locks.{IsLock}
use Rattle.layout.proofs.Locked.{cell_locked, of_cell}
use Rattle.layout.proofs.protection.lock_of_cell.Goals as goal
use Rattle.core_lang.specs.Theory.Items.{read_at}

pub unwrap-requires : goal.unwrap-requires
unwrap-requires c =
    let at = read_at c.args.program.now.cells.items c.args.cell c.index.result.now c.requires.cell c.index.ensures in
    let x = cell_locked c.args.program.now c.args.cell c.index.result.now c.requires.program at in
    ap is_some (c.protecting.ensures ∙ x.is)

pub returns-clause-protects : goal.returns-clause-protects
returns-clause-protects c =
    let at = read_at c.args.program.now.cells.items c.args.cell c.index.result.now c.requires.cell c.index.ensures in
    of_cell c.args.program.now c.args.cell c.index.result.now at ∙ sym c.protecting.ensures ∙ c.unwrap.ensures

pub returns-clause-listed : goal.returns-clause-listed
returns-clause-listed c =
    let at = read_at c.args.program.now.cells.items c.args.cell c.index.result.now c.requires.cell c.index.ensures in
    let x = cell_locked c.args.program.now c.args.cell c.index.result.now c.requires.program at in
    let both : Some x.lock ≡ Some c.unwrap.result = sym x.is ∙ sym c.protecting.ensures ∙ c.unwrap.ensures in
    let same : x.lock ≡ c.unwrap.result = cc in
    subst (IsLock c.args.program.now) same x.listed
