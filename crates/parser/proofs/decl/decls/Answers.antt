use Rattle.std.proofs.Common.{sym, ◌∙◌}
use Rattle.std.proofs.lemmas.Result.{err_from_is_err_and}
use Rattle.source.specs.Tokens.{seen}
use Rattle.syntax.specs.Views.{decl_of}
use Rattle.parser.specs.Working.Declarations.{decl_at}
use Rattle.parser.specs.Theory.Loops.{fewer}
use Rattle.parser.proofs.Turns.{decl_shortens, decls_go_on, decls_end, decls_stop}
use Rattle.parser.proofs.decl.decls.Goals as goal

pub returns-in_err-next : goal.returns-in_err-next
returns-in_err-next c =
    let p = err_from_is_err_and c.from_residual.result c.from_residual.ensures.1 in
    rw (p.1, p.2) (decls_stop c.args.room c.items.decls.items (seen c.items.rest.now) _ c.in_err-next.field-0.0 (sym c.is_end_next.ensures ∙ c.items-test.true) c.in_err-next.ensures c.items.invariant)

pub items-smaller : goal.items-smaller
items-smaller c = fewer (decl_at c.args.room) (decl_shortens c.args.room) c.items.rest.now c.in_ok-next.after.now (decl_of c.in_ok-next.next) c.in_ok-next.ensures

pub items-preserved : goal.items-preserved
items-preserved c =
    rw c.in_ok-push.ensures.items (decls_go_on c.args.room c.items.decls.items (seen c.items.rest.now) _ c.in_ok-next.next (seen c.in_ok-next.after.now) (sym c.is_end_next.ensures ∙ c.items-test.true) c.in_ok-next.ensures c.items.invariant)

pub returns : goal.returns
returns c = decls_end c.args.room c.items.decls.items (seen c.items.rest.now) _ (sym c.is_end_next.ensures ∙ c.items-test.false) c.items.invariant
