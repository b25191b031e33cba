use Rattle.std.proofs.Common.{◌≡◌, ◌∙◌, ◌++◌, ℕ, List, map, take, take_all, ap, sym, subst}
use Rattle.std.specs.List.{Contains}
use Rattle.std.proofs.lemmas.List.Elements.{Contains-append_left, Contains-append_right}
use Rattle.std.proofs.lemmas.List.Sorted.{Contains-permutation, IsNonDecreasingBy-from_sort}
use Rattle.core_lang.specs.declared.value.Value.{Value}
use Rattle.outcomes.proofs.ChangeLemmas.{among_cells}
use Rattle.outcomes.proofs.changes.Writes.cells.Goals as goal

abbrev cells_of : List (ℕ × Value) → List ℕ
cells_of writes = map (λ (w : ℕ × Value). w.0) writes

pub returns-clause-order : goal.returns-clause-order
returns-clause-order c = IsNonDecreasingBy-from_sort (λ x. x) _ c.sort_unstable.ensures.sorted

-- the cells of two lists of writes, before they are sorted
both : (first then : List (ℕ × Value)) (i : ℕ) (cells : List ℕ) → cells ≡ cells_of first ++ cells_of (take i then) →
    take i then ≡ then → cells ≡ cells_of first ++ cells_of then
both first then i cells is all = is ∙ ap (λ (l : List (ℕ × Value)). cells_of first ++ cells_of l) all

pub returns-clause-first : goal.returns-clause-first
returns-clause-first c = λ cell among.
    let w = c.args.self.now in
    let i = c.loop-write-2.write-index in
    let is = both w.first.now w.then.now i c.loop-write-2.cells.items c.loop-write-2.invariant (take_all i w.then.now c.loop-write-2-test.false) in
    Contains-permutation c.loop-write-2.cells.items c.sort_unstable.new.self.items cell c.sort_unstable.ensures.permutation
    (subst (λ (l : List ℕ). Contains l cell) (sym is)
    (Contains-append_left (cells_of w.first.now) (cells_of w.then.now) cell (among_cells w.first.now cell among)))

pub returns-clause-then : goal.returns-clause-then
returns-clause-then c = λ cell among.
    let w = c.args.self.now in
    let i = c.loop-write-2.write-index in
    let is = both w.first.now w.then.now i c.loop-write-2.cells.items c.loop-write-2.invariant (take_all i w.then.now c.loop-write-2-test.false) in
    Contains-permutation c.loop-write-2.cells.items c.sort_unstable.new.self.items cell c.sort_unstable.ensures.permutation
    (subst (λ (l : List ℕ). Contains l cell) (sym is)
    (Contains-append_right (cells_of w.first.now) (cells_of w.then.now) cell (among_cells w.then.now cell among)))
