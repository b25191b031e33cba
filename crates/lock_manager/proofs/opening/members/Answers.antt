use Rattle.std.proofs.Common.{ℕ, ◌<◌, ◌≤◌, length, take, replicate, [], ◌∙◌, sym, ap, arith, subst}
use Rattle.std.proofs.lemmas.Option.{slice_get_within}
use Rattle.lock_manager.proofs.Members.{none_yet, cell_added, as_many, all_cells}
use Rattle.lock_manager.proofs.opening.members.Goals as goal
use Rattle.core_lang.specs.Theory.Items.{read_at}

pub loop-cell-init : goal.loop-cell-init
loop-cell-init c = c.in_ok-all.ensures ∙ ap (λ (n : ℕ). replicate n []) c.locks_count.ensures ∙ sym (none_yet c.args.layout.now.locks)

pub index_mut-requires : goal.index_mut-requires
index_mut-requires c =
    omega (
      arith,
      as_many c.loop-cell.all.items (take c.loop-cell.cell c.args.layout.now.cell_locks) c.args.layout.now.locks c.loop-cell.invariant,
      slice_get_within c.args.layout.now.locks c.lock_number-number.result c.lock_of.result c.lock_number-number.ensures,
      c.loop-cell.all.ok.0,
    )

pub loop-cell-preserved : goal.loop-cell-preserved
loop-cell-preserved c =
    let locks = c.args.layout.now.locks in
    let n = c.lock_number-number.result in
    let lt : n < length c.loop-cell.all.items = omega (
      arith,
      as_many c.loop-cell.all.items (take c.loop-cell.cell c.args.layout.now.cell_locks) locks c.loop-cell.invariant,
      slice_get_within locks n c.lock_of.result c.lock_number-number.ensures,
    ) in
    cell_added locks c.args.layout.now.cell_locks c.loop-cell.all.items c.index_mut.result.now c.push.new.self c.loop-cell.cell n c.lock_of.result c.requires.1.distinct
    c.loop-cell.invariant c.lock_of.ensures.lock c.lock_number-number.ensures (read_at c.loop-cell.all.items n c.index_mut.result.now lt c.index_mut.ensures.value) c.in_ok-push.ensures.items

pub returns : goal.returns
returns c =
    c.loop-cell.invariant
    ∙ all_cells c.args.layout.now.locks c.args.layout.now.cell_locks c.loop-cell.cell (subst (λ (n : ℕ). n ≤ c.loop-cell.cell) c.cells_count-cell-end.ensures c.loop-cell-test.false)
