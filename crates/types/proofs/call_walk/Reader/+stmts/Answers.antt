use Rattle.std.proofs.Common.{◌≡◌, ◌+◌, ◌++◌, List, Vec, Global, ap, ◌∙◌, subst}
use Rattle.std.specs.Prelude.{OnOk}
use Rattle.syntax.specs.declared.tree.If.{out-If}
use Rattle.syntax.specs.Trees.{Stmt}
use Rattle.syntax.specs.Views.{stmts_of}
use Rattle.syntax.specs.Theory.Rows.{while_seen}
use Rattle.resolution.specs.Statements.{after}
use Rattle.resolution.specs.CallGraphs.{stmt_calls, stmts_calls, stmt_points}
use Rattle.core_lang_helpers.specs.declared.graph.CallSite.{CallSite}
use Rattle.types_symbols.specs.{decls_of, KnownLocals}
use Rattle.types_symbols.specs.Theory.Steps.{on_ok_by}
use Rattle.types.specs.Working.Walks.{scope_at, behind_block}
use Rattle.types.proofs.Steps.{left_is, if_scope, if_calls, if_points}
use Rattle.types.proofs.call_walk.Reader.+stmts.Goals as goal

pub block-returns-clause-scope : goal.block-returns-clause-scope
block-returns-clause-scope t c =
    let reader = c.args.self.now in
    let old = c.args.walk.now.locals in
    left_is (decls_of reader.symbols.now) old c.stmts.new.walk.locals c.hide_from.new.self c.len-ahead.result (stmts_of c.deref.result.now) c.len-ahead.ensures c.in_ok-stmts.ensures.scope
    c.hide_from.ensures.hidden c.hide_from.ensures.result_type c.hide_from.ensures.limits
    ∙ ap (λ ss. behind_block (scope_at reader old) (stmts_of ss)) c.deref.ensures.value

pub choice-returns-clause-scope : goal.choice-returns-clause-scope
choice-returns-clause-scope t c =
    let reader = c.args.self.now in
    let sc = scope_at reader c.args.walk.now.locals in
    let sc2 = scope_at reader c.block.new.walk.locals in
    let behind : sc2 ≡ behind_block sc (stmts_of (out-If c.args.choice.now).block.stmts.items) =
    c.in_ok-block.ensures.scope ∙ ap (λ (k : KnownLocals). behind_block (scope_at reader k) (stmts_of (out-If c.args.choice.now).block.stmts.items)) c.in_ok-point.ensures.locals in
    on_ok_by c.otherwise.result (if_scope sc sc2 c.args.choice.now behind _) c.otherwise.ensures.scope

pub choice-returns-clause-calls : goal.choice-returns-clause-calls
choice-returns-clause-calls t c =
    let reader = c.args.self.now in
    let sc = scope_at reader c.args.walk.now.locals in
    let sc2 = scope_at reader c.block.new.walk.locals in
    let body = stmts_of (out-If c.args.choice.now).block.stmts.items in
    let behind : sc2 ≡ behind_block sc body = c.in_ok-block.ensures.scope ∙ ap (λ (k : KnownLocals). behind_block (scope_at reader k) body) c.in_ok-point.ensures.locals in
    let first : c.block.new.walk.calls.items ≡ c.args.walk.now.calls.items ++ stmts_calls sc body =
    c.in_ok-block.ensures.calls ∙ ap (λ (l : List CallSite). l ++ stmts_calls (scope_at reader c.point.new.self.locals) body) (ap (λ (v : Vec CallSite Global). v.items) c.in_ok-point.ensures.calls)
    ∙ ap (λ (k : KnownLocals). c.args.walk.now.calls.items ++ stmts_calls (scope_at reader k) body) c.in_ok-point.ensures.locals in
    on_ok_by c.otherwise.result (if_calls sc sc2 c.args.choice.now behind c.args.walk.now.calls.items c.block.new.walk.calls.items _ first) c.otherwise.ensures.calls

pub choice-returns-clause-points : goal.choice-returns-clause-points
choice-returns-clause-points t c =
    on_ok_by c.otherwise.result
    (if_points c.args.choice.now c.args.walk.now.points c.point.new.self.points c.block.new.walk.points _ c.in_ok-point.ensures.points c.in_ok-block.ensures.points)
    c.otherwise.ensures.points

pub stmt-returns-in-While-clause-scope : goal.stmt-returns-in-While-clause-scope
stmt-returns-in-While-clause-scope t c =
    let sc = scope_at c.args.self.now c.args.walk.now.locals in
    subst (λ (s : Stmt). OnOk c.repetition.result (scope_at c.args.self.now c.repetition.new.walk.locals ≡ after sc s)) (while_seen c.args.s.now c.in-While.repetition _ c.in-While.is c.deref-in-While.ensures) c.repetition.ensures.scope

pub stmt-returns-in-While-clause-calls : goal.stmt-returns-in-While-clause-calls
stmt-returns-in-While-clause-calls t c =
    let sc = scope_at c.args.self.now c.args.walk.now.locals in
    subst (λ (s : Stmt). OnOk c.repetition.result (c.repetition.new.walk.calls.items ≡ c.args.walk.now.calls.items ++ stmt_calls sc s)) (while_seen c.args.s.now c.in-While.repetition _ c.in-While.is c.deref-in-While.ensures) c.repetition.ensures.calls

pub stmt-returns-in-While-clause-points : goal.stmt-returns-in-While-clause-points
stmt-returns-in-While-clause-points t c =
    subst (λ (s : Stmt). OnOk c.repetition.result (c.repetition.new.walk.points ≡ c.args.walk.now.points + stmt_points s)) (while_seen c.args.s.now c.in-While.repetition _ c.in-While.is c.deref-in-While.ensures) c.repetition.ensures.points
