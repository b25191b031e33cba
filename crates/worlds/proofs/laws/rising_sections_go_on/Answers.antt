use Rattle.worlds.proofs.Rising.{rising_has_no_cycle, rising_waits_for_holders, rising_goes_on}
use Rattle.worlds.proofs.laws.rising_sections_go_on.Goals as goal

pub returns-clause-no_cycle : goal.returns-clause-no_cycle
returns-clause-no_cycle c = rising_has_no_cycle c.no_circle.ensures

pub returns-clause-waits : goal.returns-clause-waits
returns-clause-waits c = rising_waits_for_holders c.precedes_is_strict.ensures

pub returns-clause-goes_on : goal.returns-clause-goes_on
returns-clause-goes_on c = rising_goes_on c.precedes_is_strict.ensures
