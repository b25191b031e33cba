use Rattle.std.proofs.Common.{◌≡◌, ◌++◌, ◌-◌, length, string_bytes}
use Rattle.std.specs.List.{flat_map, range_with_len}
use Rattle.report_check.specs.Order.{node_text, node_texts}
use Rattle.report_check.proofs.order.push_nodes.Given as goal

-- the written text and that of the remaining items are the whole text
abbrev pub invariant-loop-rank : goal.invariant-loop-rank
invariant-loop-rank l =
    string_bytes l.out ++ flat_map (node_text l.program l.ranks) (range_with_len l.rank (length l.ranks - l.rank))
    ≡ string_bytes l.initial.out ++ node_texts l.program l.ranks
