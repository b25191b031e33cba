use Rattle.runner.proofs.Parts.{stay_part}
use Rattle.runner.proofs.laws.sections_stay_part.Goals as goal

pub returns : goal.returns
returns c =
    stay_part c.written_values_stand.ensures.written c.written_values_stand.ensures.unwritten c.written_values_stand.ensures.size
    c.steps_go_alike.ensures.keeps c.heaps_have_values.ensures.agree c.one_entry_more.ensures.size
