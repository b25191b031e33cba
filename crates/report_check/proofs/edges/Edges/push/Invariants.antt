use Rattle.std.proofs.Common.{◌≡◌, ◌++◌, string_bytes, take}
use Rattle.report_check.specs.Order.{edge_texts}
use Rattle.report_check.proofs.edges.Edges.push.Given as goal

abbrev pub invariant-loop-pair : goal.invariant-loop-pair
invariant-loop-pair l =
    string_bytes l.out ≡ string_bytes l.initial.out ++ edge_texts l.self.positions.now.text.now l.self.program.now l.self.cycle.now (take l.pair-index l.pairs)
