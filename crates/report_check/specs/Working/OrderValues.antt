-- The text of `order`, as values of the code have it. Nobody has to believe these.
use Rattle.std.specs.Prelude.{ℕ, List, map}
use Rattle.flow.specs.declared.points.PointRef.{PointRef}
use Rattle.flow.specs.Working.PointList.{point_at}
use Rattle.lockorder.specs.declared.ranks.ClassPair.{ClassPair}
use Rattle.lockorder.specs.declared.ranks.Edge.{Edge}
use Rattle.report_check.specs.declared.cyclic.CyclicOrder.{CyclicOrder}
use Rattle.report_check.specs.declared.edges.Edges.{Edges}
use Rattle.report_check.specs.declared.order.Order.{Order}
use Rattle.report_check.specs.declared.positions.Positions.{Positions}
use Rattle.report_check.specs.Order.{point_text, numbered_point, use_text, edge_text, edge_texts, order_text}
use Rattle.report_check.specs.Order.{cyclic_order_text}

abbrev pub text_of : Edges → List ℕ
text_of x = x.positions.now.text.now

abbrev pub point_text_of : Positions → PointRef → List ℕ
point_text_of x point = point_text x.text.now (point_at point)

abbrev pub numbered_point_of : Positions → List PointRef → ℕ → List ℕ
numbered_point_of x list p = numbered_point x.text.now (map point_at list) p

abbrev pub use_text_of : Edges → Edge → List ℕ
use_text_of x edge = use_text (text_of x) x.program.now edge

abbrev pub edge_text_of : Edges → ClassPair → List ℕ
edge_text_of x pair = edge_text (text_of x) x.program.now x.cycle.now pair

abbrev pub edge_texts_of : Edges → List ClassPair → List ℕ
edge_texts_of x pairs = edge_texts (text_of x) x.program.now x.cycle.now pairs

abbrev pub order_text_of : Order → List ℕ
order_text_of x = order_text x.text.now x.program.now x.ranks.now x.pairs.now

abbrev pub cyclic_order_text_of : CyclicOrder → List ℕ
cyclic_order_text_of x = cyclic_order_text x.text.now x.program.now x.pairs.now x.cycle.now
