use Rattle.std.proofs.Common.{List, subst}
use Rattle.core_lang_helpers.specs.declared.graph.CallSite.{CallSite}
use Rattle.core_lang_helpers.specs.Graphs.{body_of, bodies_of}
use Rattle.core_lang_helpers.specs.Working.Tables.{AddsCaller}
use Rattle.core_lang_helpers.proofs.Calling.{one_caller}
use Rattle.core_lang_helpers.proofs.Having.{body_at}
use Rattle.core_lang_helpers.proofs.callers.Callers.new.Goals as goal

pub loop-from-preserved : goal.loop-from-preserved
loop-from-preserved c =
    let helpers = bodies_of c.args.helpers.now in
    let i = c.loop-from.from in
    let x = c.index-helpers-from.result in
    one_caller helpers c.loop-from.rows.items c.add_caller.new.rows.items i (body_of x) c.loop-from.invariant
    (body_at c.args.helpers.now i x c.loop-from-test.true c.index-helpers-from.is)
    (subst (λ (cs : List CallSite). AddsCaller c.loop-from.rows.items c.add_caller.new.rows.items i cs) c.deref.ensures.value c.in_ok-add_caller.ensures)
