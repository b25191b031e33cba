use Rattle.std.proofs.Common.{◌≡◌, ℕ, ◌<◌, ◌∙◌, length, Some, sym, ap, subst, arith}
use Rattle.std.specs.Prelude.{slice_get}
use Rattle.std.specs.List.{All}
use Rattle.std.proofs.lemmas.Option.{slice_get_within}
use Rattle.layout.specs.LockCells.{cells_of}
use Rattle.lock_manager.specs.Working.Committed.{CommittedOf}
use Rattle.lock_manager.proofs.Members.{rows_count, row_is, cells_within, within_same}
use Rattle.lock_manager.proofs.committed.Committed.row.Goals.{After-as_slice}
use Rattle.lock_manager.proofs.committed.Committed.row.Goals as goal
use Rattle.core_lang.specs.Theory.Items.{read_at}

-- the row of the lock
found : (c : After-as_slice) → c.as_slice.result.now ≡ cells_of c.self.inside.layout.now.cell_locks c.args.lock
found c =
    let x = c.self.inside in
    let n = c.number_of.result in
    let at : slice_get x.layout.now.locks n ≡ Some c.args.lock = ap (λ (v : CommittedOf). slice_get v.layout.locks n) c.self.view_is ∙ c.number_of.ensures.at in
    let lt : n < length x.members.items = omega (arith, rows_count x.layout.now x.members.items c.self.invariant.members, slice_get_within x.layout.now.locks n c.args.lock at) in
    c.as_slice.ensures.value
    ∙ row_is x.layout.now x.members.items c.self.invariant.members n c.args.lock c.index.result.now at (read_at x.members.items n c.index.result.now lt c.index.ensures)

pub returns-clause-cells : goal.returns-clause-cells
returns-clause-cells c = found c ∙ ap (λ (v : CommittedOf). cells_of v.layout.cell_locks c.args.lock) c.self.view_is

pub returns-clause-within : goal.returns-clause-within
returns-clause-within c =
    let x = c.self.inside in
    within_same c.as_slice.result.now (length x.layout.now.cell_locks) (length c.args.self.now.values)
    (sym c.self.invariant.count ∙ ap (λ (v : CommittedOf). length v.values) c.self.view_is)
    (subst (All (λ (cell : ℕ). cell < length x.layout.now.cell_locks)) (sym (found c)) (cells_within x.layout.now.cell_locks c.args.lock))

pub index-requires : goal.index-requires
index-requires c =
    let x = c.self.inside in
    let at : slice_get x.layout.now.locks c.number_of.result ≡ Some c.args.lock = ap (λ (v : CommittedOf). slice_get v.layout.locks c.number_of.result) c.self.view_is ∙ c.number_of.ensures.at in
    omega (
      arith,
      rows_count x.layout.now x.members.items c.self.invariant.members,
      slice_get_within x.layout.now.locks c.number_of.result c.args.lock at,
      x.members.ok.0,
    )
