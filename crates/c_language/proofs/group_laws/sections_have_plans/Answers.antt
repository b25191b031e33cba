use Rattle.c_language.proofs.Plans.{sections_have_plans}
use Rattle.c_language.proofs.group_laws.sections_have_plans.Goals as goal

pub returns : goal.returns
returns g c = sections_have_plans
