use Rattle.std.proofs.Common.{◌≡◌, ◌+◌, take}
use Rattle.std.specs.List.{sum_by}
use Rattle.core_lang_helpers.specs.declared.graph.CallSite.{CallSite}
use Rattle.core_lang_helpers.specs.Graphs.{bodies_of}
use Rattle.core_lang_helpers.specs.Depths.{deepest_of}
use Rattle.core_lang_helpers.specs.Counts.{hidden}
use Rattle.core_lang_helpers.specs.Faults.{LOCAL_LIMIT, POINT_LIMIT}
use Rattle.core_lang_helpers.specs.Working.Tables.{up_to, extent_seen}
use Rattle.core_lang_helpers.proofs.extents.extent_from.Given as goal

abbrev pub invariant-loop-call : goal.invariant-loop-call
invariant-loop-call l = record {
  depth : l.depth ≡ deepest_of (λ h. (extent_seen l.table h).depth) (take l.call-index l.body.calls.items);
  locals : l.locals ≡ up_to LOCAL_LIMIT (l.body.locals + sum_by (λ (c : CallSite). (extent_seen l.table c.helper).locals + hidden (bodies_of l.helpers) c) (take l.call-index l.body.calls.items));
  points : l.points ≡ up_to POINT_LIMIT (l.body.parameters + l.body.points + sum_by (λ (c : CallSite). (extent_seen l.table c.helper).points) (take l.call-index l.body.calls.items));
}
