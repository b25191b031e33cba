use Rattle.std.proofs.Common.{◌≡◌, ◌++◌, string_bytes, take}
use Rattle.std.specs.List.{flat_map}
use Rattle.driver.specs.Replays.{call_wanted}
use Rattle.driver.proofs.why.push_calls.Given as goal

abbrev pub invariant-loop-head : goal.invariant-loop-head
invariant-loop-head l = string_bytes l.out ≡ string_bytes l.initial.out ++ flat_map (λ head. call_wanted (string_bytes head)) (take l.head-index l.heads)
