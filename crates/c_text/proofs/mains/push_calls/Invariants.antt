use Rattle.std.proofs.Common.{◌≡◌, ◌++◌, string_bytes, take}
use Rattle.c_text.specs.Mains.{call_text}
use Rattle.std.specs.List.{flat_map}
use Rattle.c_text.proofs.mains.push_calls.Given as goal

abbrev pub invariant-loop-call : goal.invariant-loop-call
invariant-loop-call l =
    string_bytes l.out ≡ string_bytes l.initial.out ++ flat_map call_text (take l.call-index l.thread.calls.items)
