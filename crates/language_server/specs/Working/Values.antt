-- What a value of the code says.
use Rattle.std.specs.Prelude.{string_bytes}
use Rattle.language_server.specs.Changes as said
use Rattle.language_server.specs.declared.changes.Change.{Change}

abbrev pub change_of : Change → said.Change
change_of change =
    record { start = change.start; end = change.end; new = string_bytes change.new; title = string_bytes change.title }
