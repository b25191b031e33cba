use Rattle.std.proofs.Common.{◌≡◌, map, take}
use Rattle.serde_json.specs.View.{view}
use Rattle.explanation.specs.Json.{further_fault_data}
use Rattle.explanation.proofs.json_objects.further_values.Given as goal

abbrev pub invariant-loop-fault : goal.invariant-loop-fault
invariant-loop-fault l =
    map view l.values.items ≡ map (further_fault_data l.places.text.now) (take l.fault-index l.faults)
