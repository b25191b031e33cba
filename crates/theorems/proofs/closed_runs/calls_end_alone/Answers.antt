use Rattle.theorems.proofs.Turns.{calls_end_alone}
use Rattle.theorems.proofs.closed_runs.calls_end_alone.Goals as goal

pub returns : goal.returns
returns c = calls_end_alone (record {
  moves = c.steps_go_alike.ensures.moves;
  asks = c.steps_go_alike.ensures.asks;
  finishes = c.steps_go_alike.ensures.finishes;
  ends = c.sections_end_alike.ensures.ends;
  heap = c.one_entry_more.ensures.heap;
  size = c.one_entry_more.ensures.size;
  opening = c.steps_keep_sound.ensures.opening;
  step = c.steps_keep_sound.ensures.step;
  ready = c.worlds_stay_ready.ensures;
  goes_on = c.rising_sections_go_on.ensures.goes_on;
})
