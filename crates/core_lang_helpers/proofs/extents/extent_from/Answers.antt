use Rattle.std.proofs.Common.{◌≡◌, ◌<◌, List, length, get_or, ap, ◌∙◌, false, arith}
use Rattle.core_lang_helpers.specs.declared.graph.CallSite.{CallSite}
use Rattle.core_lang_helpers.specs.declared.extents.Extent.{Extent}
use Rattle.core_lang_helpers.specs.Graphs.{body_of, bodies_of}
use Rattle.core_lang_helpers.specs.Counts.{hidden}
use Rattle.core_lang_helpers.specs.Working.Tables.{extent_seen}
use Rattle.core_lang_helpers.proofs.Extending.{depth_next, locals_next, points_next}
use Rattle.core_lang_helpers.proofs.extents.extent_from.Goals as goal

pub loop-call-preserved : goal.loop-call-preserved
loop-call-preserved c =
    let table = c.args.table.now in
    let helpers = bodies_of c.args.helpers.now in
    let b = body_of c.args.body.now in
    let cs = c.args.body.now.calls.items in
    let i = c.loop-call.call-index in
    let d : CallSite = record { helper = 0; start = 0; is_bound = false } in
    let same : c.deref-call-items.result.now ≡ cs = c.deref-call-items.ensures.value in
    let lt : i < length cs = omega (arith, c.loop-call-test.true, ap (λ (l : List CallSite). length l) same) in
    let item : get_or c.deref-call-items.result.now i d ≡ get_or cs i d = ap (λ (l : List CallSite). get_or l i d) same in
    let callee : c.extent_of-callee.result ≡ extent_seen table (get_or cs i d).helper = c.extent_of-callee.ensures ∙ ap (λ (x : CallSite). extent_seen table x.helper) item in
    record {
      depth = depth_next table helpers b cs i d lt _ _ _ c.loop-call.invariant.depth (ap (λ (e : Extent). e.depth) callee) c.max-depth.ensures;
      locals = locals_next table helpers b cs i d lt _ _ _ _ _ c.loop-call.invariant.locals (ap (λ (e : Extent). e.locals) callee)
          (c.hidden_local.ensures ∙ ap (hidden helpers) item) c.sum_up_to-brought.ensures c.sum_up_to-locals-in-loop-call.ensures;
      points = points_next table helpers b cs i d lt _ _ _ c.loop-call.invariant.points (ap (λ (e : Extent). e.points) callee) c.sum_up_to-points-in-loop-call.ensures;
    }
