use Rattle.c_language.proofs.Fits.{numbers_stay_fitting}
use Rattle.c_language.proofs.group_laws.numbers_stay_fitting.Goals as goal

pub returns : goal.returns
returns c = numbers_stay_fitting
