use Rattle.worlds.proofs.Headline.{have_their_case}
use Rattle.worlds.proofs.laws.instructions_have_their_case.Goals as goal

pub returns : goal.returns
returns c =
    have_their_case c.steps_keep_sound.ensures.opening c.steps_keep_sound.ensures.step c.worlds_stay_ready.ensures
