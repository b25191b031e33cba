use Rattle.std.proofs.Common.{◌≡◌, ◌++◌, ◌-◌, length, string_bytes}
use Rattle.std.specs.List.{flat_map, range_with_len}
use Rattle.report_check.specs.Order.{class_text, class_texts}
use Rattle.report_check.proofs.cyclic.push_nodes.Given as goal

-- the written text and that of the remaining items are the whole text
abbrev pub invariant-loop-class : goal.invariant-loop-class
invariant-loop-class l =
    string_bytes l.out ++ flat_map (class_text l.program) (range_with_len l.class (length l.program.classes.items - l.class))
    ≡ string_bytes l.initial.out ++ class_texts l.program
