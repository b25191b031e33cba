use Rattle.c_threads.proofs.Headline.{every_run_in_c}
use Rattle.c_threads.proofs.laws.every_run_in_c.Goals as goal

pub returns : goal.returns
returns c = every_run_in_c (record {
  waits = record {
    runs = record {
      steps = record {
        locks = c.notes_stay.ensures;
        groups = c.groups_do_alike.ensures.on_held;
        plans = c.sections_have_plans.ensures;
        sound = c.steps_keep_sound.ensures.step;
        ready = c.worlds_stay_ready.ensures;
        strict = c.precedes_is_strict.ensures;
        given = c.ends_give_back_what_is_held.ensures;
      };
      opening = c.steps_keep_sound.ensures.opening;
      behave = c.sections_behave_in_c.ensures;
      numbers = c.numbers_stay_fitting.ensures;
      size = c.one_entry_more.ensures.size;
    };
    no_circle = c.no_circle.ensures;
    goes_on = c.rising_sections_go_on.ensures.goes_on;
  };
  every_run = c.every_run.ensures;
})
