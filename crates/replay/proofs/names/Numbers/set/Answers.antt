use Rattle.std.proofs.Common.{Some}
use Rattle.std.proofs.lemmas.Map.Text.{btree_map_updates_str}
use Rattle.replay.proofs.names.Numbers.set.Goals as goal

pub returns : goal.returns
returns c = λ text.
    btree_map_updates_str c.args.name.now c.args.self.now.numbers c.insert.new.self (Some c.args.number) c.in_ok-insert.ensures.updates text
