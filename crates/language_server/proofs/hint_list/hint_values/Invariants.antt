use Rattle.std.proofs.Common.{◌≡◌, ◌++◌, map}
use Rattle.std.specs.List.{filter}
use Rattle.serde_json.specs.View.{view}
use Rattle.language_server.specs.Hints.{hint_data, is_asked}
use Rattle.language_server.specs.Working.Sets.{told_by, told_in}
use Rattle.language_server.proofs.hint_list.hint_values.Given as goal

-- the hints so far and the remaining ones are all hints
abbrev pub invariant-loop-take : goal.invariant-loop-take
invariant-loop-take l =
    record {
      text : l.walker.text.now ≡ l.text;
      told : map view l.values.items ++ map (hint_data l.text) (filter (is_asked l.text l.lines.first l.lines.last) (map told_by l.take-iterator))
          ≡ map (hint_data l.text) (filter (is_asked l.text l.lines.first l.lines.last) (told_in l.takes));
    }
