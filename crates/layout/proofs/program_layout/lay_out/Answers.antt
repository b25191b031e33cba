use Rattle.std.proofs.Common.{◌≡◌, ℕ, ◌+◌, ◌++◌, List, ◌∷◌, [], length, Some, sym, ap, ◌∙◌, subst, arith, add-one}
use Rattle.std.proofs.Common.{length-append}
use Rattle.std.specs.Prelude.{slice_get}
use Rattle.std.specs.List.{Contains}
use Rattle.std.proofs.lemmas.List.{length-map}
use Rattle.core_lang.specs.declared.typed.Cell.{Cell}
use Rattle.core_lang.specs.Serial.{opening_heap}
use Rattle.locks.specs.declared.lock.Lock.{Lock}
use Rattle.layout.specs.Layouts.{LayoutOf, AreDistinct}
use Rattle.layout.proofs.Lists.{take_one_more, taken_whole}
use Rattle.layout.proofs.Listed.{listed}
use Rattle.layout.proofs.Found.{below_end}
use Rattle.layout.proofs.Laid.{AreLocked, one_locked, laid_out}
use Rattle.layout.proofs.program_layout.lay_out.Goals as goal
use Rattle.core_lang.specs.Theory.Items.{read_at, map_at}

pub loop-cell-init : goal.loop-cell-init
loop-cell-init c =
    let e = c.in_ok-layout.ensures in
    let cell_locks = ap (λ (v : LayoutOf). v.cell_locks) e in
    record {
      locks = ap (λ (v : LayoutOf). v.locks) e ∙ c.in_ok-numbering.ensures.locks;
      opening = ap (λ (v : LayoutOf). v.opening) e;
      long = ap length cell_locks;
      cell_locks = λ k lt. absurd (omega (arith, lt));
    }

pub add-requires-clause-lock : goal.add-requires-clause-lock
add-requires-clause-lock c =
    subst (λ (ls : List Lock). Contains ls c.lock_of_cell.result) (sym c.loop-cell.invariant.locks)
    ((listed c.args.program.now c.requires c.lock_of_cell.result).1 c.lock_of_cell.ensures.listed)

pub add-requires-clause-few : goal.add-requires-clause-few
add-requires-clause-few c = omega (arith, c.loop-cell.invariant.long, c.loop-cell-test.true, c.len-cell-end.ensures, c.args.program.now.cells.ok.0, c.requires.within.cells)

pub loop-cell-preserved : goal.loop-cell-preserved
loop-cell-preserved c =
    let program = c.args.program.now in
    let n = c.loop-cell.cell in
    let old = c.loop-cell.layout in
    let i = c.loop-cell.invariant in
    let e = c.in_ok-add.ensures in
    let at : slice_get program.cells.items n ≡ Some c.index.result.now =
    read_at program.cells.items n c.index.result.now (omega (arith, c.loop-cell-test.true, c.len-cell-end.ensures, program.cells.ok.0)) c.index.ensures in
    let opens : slice_get (opening_heap program) n ≡ Some c.index.result.now.opening = map_at (λ (x : Cell). x.opening) program.cells.items n c.index.result.now at in
    let cell_locks = ap (λ (v : LayoutOf). v.cell_locks) e in
    record {
      locks = ap (λ (v : LayoutOf). v.locks) e ∙ i.locks;
      opening = ap (λ (v : LayoutOf). v.opening) e ∙ ap (λ vs. vs ++ c.index.result.now.opening ∷ []) i.opening
          ∙ rw add-one (sym (take_one_more (opening_heap program) n c.index.result.now.opening opens));
      long = ap length cell_locks ∙ length-append old.cell_locks _ ∙ ap (λ k. k + 1) i.long;
      cell_locks = one_locked program n old.cell_locks c.add.new.self.cell_locks c.lock_of_cell.result i.cell_locks i.long c.lock_of_cell.ensures.protects cell_locks;
    }

pub returns : goal.returns
returns c =
    let program = c.args.program.now in
    let i = c.loop-cell.invariant in
    let through : c.loop-cell.cell ≡ length program.cells.items =
    omega (arith, c.loop-cell-test.false, c.loop-cell.auto.cell-end, c.len-cell-end.ensures, program.cells.ok.0) in
    let layout = c.loop-cell.layout in
    let opening : layout.opening ≡ opening_heap program =
    i.opening ∙ taken_whole (opening_heap program) c.loop-cell.cell (omega (arith, through, length-map program.cells.items (λ (x : Cell). x.opening))) in
    let locks = c.in_ok-numbering.ensures.locks ∙ sym i.locks in
    laid_out program layout c.requires opening (i.long ∙ through) (subst (λ (n : ℕ). AreLocked program n layout.cell_locks) through i.cell_locks) i.locks
    (subst AreDistinct locks c.in_ok-numbering.ensures.distinct)

pub lock_of_cell-requires-clause-cell : goal.lock_of_cell-requires-clause-cell
lock_of_cell-requires-clause-cell c = below_end c.loop-cell.cell c.len-cell-end.result _ (length c.args.program.now.cells.items) c.loop-cell-test.true c.len-cell-end.ensures c.args.program.now.cells.ok.0
