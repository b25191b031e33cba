use Rattle.std.proofs.Common.{◌≡◌, map, take}
use Rattle.serde_json.specs.View.{view}
use Rattle.language_server.specs.Diagnostics.{further_data}
use Rattle.language_server.proofs.diagnostic_list.further_values.Given as goal

abbrev pub invariant-loop-fault : goal.invariant-loop-fault
invariant-loop-fault l =
    map view l.values.items ≡ map (further_data l.places.document.text.now) (take l.fault-index l.faults)
