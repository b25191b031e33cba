use Rattle.worlds.proofs.InTurn.{asked_in_turn}
use Rattle.worlds.proofs.laws.locks_are_asked_in_turn.Goals as goal

pub returns : goal.returns
returns c = asked_in_turn (record {
  classes = c.paths_have_classes.ensures;
  listed = c.each_path_once.ensures.listed;
  strict = c.precedes_is_strict.ensures;
  rise = c.asks_rise.ensures.rise;
})
