use Rattle.c_language.proofs.InC.{behaves}
use Rattle.c_language.proofs.group_laws.sections_behave_in_c.Goals as goal

pub returns : goal.returns
returns g c = λ program section lists well here short. behaves program section lists short (c.sections_behave.ensures program section lists well here)
