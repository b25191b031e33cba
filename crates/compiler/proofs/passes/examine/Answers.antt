use Rattle.std.proofs.Common.{◌≡◌, ◌∙◌, ap, sym, subst, subst₂}
use Rattle.std.proofs.lemmas.Result.{err_from_is_err_and}
use Rattle.core_lang.specs.WellFormed.{IsChecked, IsWellFormed}
use Rattle.core_lang_helpers.specs.Data.{IsExpanded}
use Rattle.lockorder.specs.Faults.{IsCycleOf, IsFaultOf}
use Rattle.lowering.specs.declared.compiled.Trees.{Trees}
use Rattle.lowering.specs.Working.Compiled.{program_of}
use Rattle.resolution.specs.Resolved.{Resolves}
use Rattle.compiler.specs.Cycles.{IsWrittenProgram}
use Rattle.compiler.specs.Programs.{in_order}
use Rattle.compiler.proofs.RefusalLemmas.{no_memory_refused, tokens_refused, tree_refused, paths_refused}
use Rattle.compiler.proofs.FaultlessLemmas.{faultless, tokens_faultless}
use Rattle.compiler.proofs.passes.examine.Goals as goal

pub returns-in_err-tree-clause-fault : goal.returns-in_err-tree-clause-fault
returns-in_err-tree-clause-fault c =
    let p = err_from_is_err_and c.from_residual-in_err-tree.result c.from_residual-in_err-tree.ensures.1 in
    rw (p.1, p.2)
    (tokens_refused _ _ c.in_err-tree.field-0.0 c.in_ok-tokens.ensures.refused c.in_ok-tokens.ensures.found (rw c.deref.ensures.value at c.in_err-tree.ensures.fault))

pub returns-in_err-accepted-clause-fault : goal.returns-in_err-accepted-clause-fault
returns-in_err-accepted-clause-fault c =
    let p = err_from_is_err_and c.from_residual-in_err-accepted.result c.from_residual-in_err-accepted.ensures.1 in
    let right = rw c.deref.ensures.value at c.in_ok-tree.ensures.found in
    let placed = rw c.deref.ensures.value at c.in_ok-tree.ensures.misplaced in
    rw (p.1, p.2)
    (tree_refused _ _ _ c.in_err-accepted.field-0.0 c.in_ok-tokens.ensures.refused c.in_ok-tokens.ensures.found
    (λ code start. tokens_faultless _ _ _ code start c.in_ok-tokens.ensures.found right placed) right
    c.in_err-accepted.ensures.fault c.in_err-accepted.ensures.least)

pub returns-in_err-trees-clause-fault : goal.returns-in_err-trees-clause-fault
returns-in_err-trees-clause-fault c =
    let p = err_from_is_err_and c.from_residual-in_err-trees.result c.from_residual-in_err-trees.ensures.1 in
    rw (p.1, p.2) (no_memory_refused _ c.in_err-trees.field-0.0 c.in_err-trees.ensures.fault)

pub returns-in_err-found-clause-fault : goal.returns-in_err-found-clause-fault
returns-in_err-found-clause-fault c =
    let p = err_from_is_err_and c.from_residual-in_err-found.result c.from_residual-in_err-found.ensures.1 in
    let right = rw c.deref.ensures.value at c.in_ok-tree.ensures.found in
    let placed = rw c.deref.ensures.value at c.in_ok-tree.ensures.misplaced in
    rw (p.1, p.2)
    (paths_refused _ _ _ _ _ c.in_err-found.field-0.0 c.in_ok-tokens.ensures.refused c.in_ok-tokens.ensures.found
    (λ code start. tokens_faultless _ _ _ code start c.in_ok-tokens.ensures.found right placed) right c.in_ok-accepted.ensures.faultless
    c.in_ok-accepted.ensures.resolves c.in_ok-trees.ensures.expanded (rw c.program.ensures at c.in_err-found.ensures.fault) (rw c.program.ensures at c.in_err-found.ensures.least))

pub returns-in_err-points-clause-fault : goal.returns-in_err-points-clause-fault
returns-in_err-points-clause-fault c =
    let p = err_from_is_err_and c.from_residual-in_err-points.result c.from_residual-in_err-points.ensures.1 in
    rw (p.1, p.2) (no_memory_refused _ c.in_err-points.field-0.0 c.in_err-points.ensures.fault)

pub returns-in-Ok-clause-order : goal.returns-in-Ok-clause-order
returns-in-Ok-clause-order c =
    let right = rw c.deref.ensures.value at c.in_ok-tree.ensures.found in
    let stable = rw c.program.ensures at c.in_ok-found.ensures.faultless in
    record {
      accepts = record {
        tokens = _;
        tree = _;
        has_tokens = c.in_ok-tokens.ensures.found;
        has_tree = right;
        resolves = subst (Resolves _) (sym c.in_ok-trees.ensures.accepted) c.in_ok-accepted.ensures.resolves;
        faultless = faultless _ _ _ _ _ c.in_ok-tokens.ensures.refused c.one_program.ensures
            c.in_ok-tokens.ensures.only c.in_ok-tokens.ensures.found right
            (rw c.deref.ensures.value at c.in_ok-tree.ensures.misplaced) (rw c.deref.ensures.value at c.in_ok-tree.ensures.only)
            c.in_ok-accepted.ensures.faultless c.in_ok-accepted.ensures.resolves c.in_ok-trees.ensures.expanded stable
            (rw c.program-3.ensures at c.in-Ok.ensures.faultless);
      };
      checked = subst IsChecked (sym c.in_ok-trees.ensures.accepted) c.in_ok-accepted.ensures.checked;
      expanded = subst (λ accepted. IsExpanded accepted (program_of c.in_ok-trees.trees)) (sym c.in_ok-trees.ensures.accepted) c.in_ok-trees.ensures.expanded;
      well_formed = c.in_ok-trees.ensures.well_formed;
      paths = rw c.program.ensures at c.in_ok-found.ensures.paths;
      stable = stable;
      points = rw c.program-2.ensures at c.in_ok-points.ensures.points;
      ranks = rw c.program-3.ensures at c.in-Ok.ensures.ranks;
      rise = rw c.program-3.ensures at c.in-Ok.ensures.rise;
    }

pub returns-in-Ok-with_cycle-clause-cycle : goal.returns-in-Ok-with_cycle-clause-cycle
returns-in-Ok-with_cycle-clause-cycle c =
    let right = rw c.deref.ensures.value at c.in_ok-tree.ensures.found in
    let placed = rw c.deref.ensures.value at c.in_ok-tree.ensures.misplaced in
    let same : program_of c.in-Ok-with_cycle.cyclic.trees ≡ program_of c.in_ok-trees.trees = ap program_of c.in-Ok-with_cycle.ensures.trees in
    let accepted = ap (λ (x : Trees). x.accepted) c.in-Ok-with_cycle.ensures.trees ∙ c.in_ok-trees.ensures.accepted in
    record {
      program = subst₂ (IsWrittenProgram c.args.text.now) (sym accepted) (sym same) (record {
        tokens = _;
        tree = _;
        has_tokens = c.in_ok-tokens.ensures.found;
        has_tree = right;
        resolves = c.in_ok-accepted.ensures.resolves;
        expanded = c.in_ok-trees.ensures.expanded;
      });
      well_formed = subst IsWellFormed (sym same) c.in_ok-trees.ensures.well_formed;
      paths = rw (same, c.in-Ok-with_cycle.ensures.paths, ← c.program.ensures) c.in_ok-found.ensures.paths;
      cycle = subst (λ p. IsCycleOf p c.in-Ok-with_cycle.cyclic.edges.items) (sym same) c.in-Ok-with_cycle.ensures.cycle;
      told = subst (λ p. IsFaultOf p c.in-Ok-with_cycle.cyclic.edges.items c.in-Ok-with_cycle.cyclic.fault) (sym same) c.in-Ok-with_cycle.ensures.told;
      first = in_order _ _ _ _ c.in_ok-tokens.ensures.refused c.in_ok-tokens.ensures.found
          (λ code start. tokens_faultless _ _ _ code start c.in_ok-tokens.ensures.found right placed) right c.in_ok-accepted.ensures.faultless
          c.in_ok-accepted.ensures.resolves c.in_ok-trees.ensures.expanded (rw c.program.ensures at c.in_ok-found.ensures.faultless) c.in-Ok-with_cycle.ensures.first;
    }
