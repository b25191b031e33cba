use Rattle.worlds.proofs.Headline.{headline}
use Rattle.worlds.proofs.laws.every_run.Goals as goal

pub returns : goal.returns
returns c = headline (record {
  opening = c.steps_keep_sound.ensures.opening;
  step = c.steps_keep_sound.ensures.step;
  ready = c.worlds_stay_ready.ensures;
  no_cycle = c.rising_sections_go_on.ensures.no_cycle;
  waits = c.rising_sections_go_on.ensures.waits;
  goes_on = c.rising_sections_go_on.ensures.goes_on;
  serial = c.legal_is_serial.ensures;
  alike = c.compiled_run_alike.ensures;
  strict = c.precedes_is_strict.ensures;
})
