use Rattle.std.proofs.Common.{◌≡◌, map, take}
use Rattle.explanation.specs.Warnings.{warning_of}
use Rattle.serde_json.specs.View.{view}
use Rattle.language_server.specs.Diagnostics.{warning_data}
use Rattle.language_server.proofs.diagnostic_list.warning_values.Given as goal

abbrev pub invariant-loop-warning : goal.invariant-loop-warning
invariant-loop-warning l =
    map view l.values.items ≡ map (warning_data l.places.document.text.now) (map warning_of (take l.warning-index l.warnings))
