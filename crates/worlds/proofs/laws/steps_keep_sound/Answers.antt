use Rattle.worlds.proofs.Steps.{opening_sound, sound_step}
use Rattle.worlds.proofs.Well.{Laws}
use Rattle.worlds.proofs.laws.steps_keep_sound.Goals as goal

pub returns-clause-opening : goal.returns-clause-opening
returns-clause-opening c = opening_sound

pub returns-clause-step : goal.returns-clause-step
returns-clause-step c =
    let laws : Laws = record {
      keeps = c.steps_go_alike.ensures.keeps;
      moves = c.steps_go_alike.ensures.moves;
      asks = c.steps_go_alike.ensures.asks;
      finishes = c.steps_go_alike.ensures.finishes;
      unwritten = c.written_values_stand.ensures.unwritten;
      ends_only = c.sections_end_alike.ensures.ends_only;
      heap = c.one_entry_more.ensures.heap;
      legal = c.one_entry_more.ensures.legal;
      all_true = c.one_entry_more.ensures.all_true;
    } in
    sound_step laws
