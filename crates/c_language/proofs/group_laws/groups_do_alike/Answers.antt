use Rattle.c_language.proofs.Alike.{groups_do_alike}
use Rattle.c_language.proofs.Runs.{groups_lead_on}
use Rattle.c_language.proofs.group_laws.groups_do_alike.Goals as goal

pub returns-clause-alike : goal.returns-clause-alike
returns-clause-alike g c = groups_do_alike

pub returns-clause-leads : goal.returns-clause-leads
returns-clause-leads g c = groups_lead_on

pub returns-clause-on_held : goal.returns-clause-on_held
returns-clause-on_held g c = groups_lead_on
