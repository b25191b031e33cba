use Rattle.std.proofs.Common.{◌≡◌, ◌++◌, string_bytes, take}
use Rattle.explanation.specs.Working.Values.{further_fault_texts_of}
use Rattle.explanation.proofs.notes.Places.push_further_faults.Given as goal

abbrev pub invariant-loop-fault : goal.invariant-loop-fault
invariant-loop-fault l =
    string_bytes l.out ≡ string_bytes l.initial.out ++ further_fault_texts_of l.self (take l.fault-index l.faults)
