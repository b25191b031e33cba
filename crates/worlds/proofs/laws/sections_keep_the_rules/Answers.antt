use Rattle.worlds.proofs.Headline.{rules_kept}
use Rattle.worlds.proofs.laws.sections_keep_the_rules.Goals as goal

pub returns : goal.returns
returns c =
    rules_kept c.precedes_is_strict.ensures c.steps_keep_sound.ensures.opening c.steps_keep_sound.ensures.step
    c.worlds_stay_ready.ensures
