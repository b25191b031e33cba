use Rattle.std.proofs.Common.{◌≡◌, ◌+◌, take}
use Rattle.std.specs.List.{sum_by}
use Rattle.core_lang_helpers.specs.Graphs.{body_of}
use Rattle.core_lang_helpers.specs.Counts.{brought_locals, brought_points}
use Rattle.core_lang_helpers.specs.Faults.{LOCAL_LIMIT, POINT_LIMIT}
use Rattle.core_lang_helpers.specs.Working.Tables.{up_to}
use Rattle.core_lang_helpers.specs.Working.Knowledge.{bodies}
use Rattle.core_lang_helpers.proofs.Noting.{NotedSo}
use Rattle.core_lang_helpers.proofs.graph_faults.Known.report_section.Given as goal

abbrev pub invariant-loop-call : goal.invariant-loop-call
invariant-loop-call l = record {
  local_limit : l.locals.limit ≡ LOCAL_LIMIT;
  point_limit : l.points.limit ≡ POINT_LIMIT;
  locals : l.locals.count ≡ up_to LOCAL_LIMIT (l.section.locals + sum_by (brought_locals (bodies l.self)) (take l.call-index l.section.calls.items));
  points : l.points.count ≡ up_to POINT_LIMIT (sum_by (brought_points (bodies l.self)) (take l.call-index l.section.calls.items));
  noted : NotedSo (bodies l.self) (body_of l.section) l.fn.least l.least l.call-index;
}
