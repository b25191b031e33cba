use Rattle.std.proofs.Common.{◌∙◌, ◌++◌, ap, append-nil, refl, sym}
use Rattle.std.proofs.lemmas.List.{at_drop_all}
use Rattle.syntax.specs.declared.tree.If.{out-If}
use Rattle.syntax.specs.Views.{else_of, stmt_of, stmts_of}
use Rattle.syntax.specs.Theory.Rows.{while_seen}
use Rattle.explanation_names.specs.Working.UsesFound.{all_declared, uses_by, uses_in_blocks, uses_in_else}
use Rattle.explanation_names.specs.Working.UsesFound.{uses_in_stmts}
use Rattle.explanation_names.specs.Working.Values.{typed_seen}
use Rattle.explanation_names.proofs.Added.{all_said, both, said_as, said_when, stmt_grown, stmt_said, tells_first}
use Rattle.explanation_names.proofs.Seen.{blocks_seen, taken_off}
use Rattle.explanation_names.proofs.search.NameSearch.+stmts.Goals as goal

pub in_block-returns-clause-scope : goal.in_block-returns-clause-scope
in_block-returns-clause-scope t c =
    λ ok. ap typed_seen c.truncate.ensures.items
    ∙ taken_off c.args.scope.now.items c.in_stmts.new.scope.items c.len-ahead.result _ (c.len-ahead.ensures ∙ c.args.scope.now.ok.0) (c.in_stmts.ensures.scope ok)

pub in_blocks-returns-in-If-clause-found : goal.in_blocks-returns-in-If-clause-found
in_blocks-returns-in-If-clause-found t c =
    let xs = typed_seen c.args.scope.now.items in
    said_as (blocks_seen xs xs c.args.s.now c.in-If.choice c.deref.result.now c.deref-in-If.result.now c.in-If.is c.deref.ensures c.deref-in-If.ensures refl)
    (both c.in_block.ensures.found (said_when (λ ok. ap (λ ys. uses_in_else ys (else_of (out-If c.deref-in-If.result.now).otherwise)) (c.in_block.ensures.scope ok)) c.in_else.ensures.found))

pub in_blocks-returns-in-While-clause-found : goal.in_blocks-returns-in-While-clause-found
in_blocks-returns-in-While-clause-found t c =
    said_as (ap (uses_in_blocks (typed_seen c.args.scope.now.items)) (while_seen c.args.s.now c.in-While.repetition c.deref-in-While.result.now c.in-While.is c.deref-in-While.ensures))
    c.in_block-in-While.ensures.found

pub in_stmts-loop-s-init : goal.in_stmts-loop-s-init
in_stmts-loop-s-init t c = record { found = tells_first _ _ _; scope = λ ok. refl }

pub in_stmts-loop-s-preserved : goal.in_stmts-loop-s-preserved
in_stmts-loop-s-preserved t c =
    let s = c.args.self.now in
    let ss = c.args.stmts.now in
    let i = c.loop-s.s-index in
    let x = c.s-item.result in
    let xs = typed_seen c.loop-s.scope.items in
    let own = said_as (ap (λ l. uses_by (typed_seen l) (stmt_of x)) c.as_slice.ensures.value) (record { found = c.in_own.ensures.found }) in
    record {
      found = stmt_said s ss i x xs _ c.loop-s-test.true c.s-item.is c.declared_by.ensures own c.in_blocks.ensures.found c.in_blocks.ensures.scope c.bind.ensures c.loop-s.invariant.found;
      scope = stmt_grown s ss i x xs _ c.loop-s-test.true c.s-item.is c.declared_by.ensures own c.in_blocks.ensures.found c.in_blocks.ensures.scope c.bind.ensures c.loop-s.invariant.scope;
    }

pub in_stmts-returns-clause-found : goal.in_stmts-returns-clause-found
in_stmts-returns-clause-found t c =
    all_said (λ l. uses_in_stmts (typed_seen c.loop-s.scope.items) (stmts_of l)) c.args.stmts.now c.loop-s.s-index c.loop-s-test.false refl c.loop-s.invariant.found

pub in_stmts-returns-clause-scope : goal.in_stmts-returns-clause-scope
in_stmts-returns-clause-scope t c =
    λ ok. sym (at_drop_all (λ l. typed_seen c.loop-s.scope.items ++ all_declared (stmts_of l)) c.args.stmts.now c.loop-s.s-index c.loop-s-test.false ∙ append-nil (typed_seen c.loop-s.scope.items))
    ∙ c.loop-s.invariant.scope ok
