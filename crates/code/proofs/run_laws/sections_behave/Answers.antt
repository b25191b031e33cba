use Rattle.core_lang.specs.Theory.Checked.{calls_nothing}
use Rattle.code.proofs.run_laws.sections_behave.Goals as goal

pub returns : goal.returns
returns g c program section lists well here =
    let only = calls_nothing program here.0 section well here.1 in
    record {
      ends = λ arguments heap finished whole. c.sections_end_alike.ensures.ends lists section program.shape arguments heap finished only whole;
      ends_only = λ arguments heap n finished e. c.sections_end_alike.ensures.ends_only lists section program.shape arguments heap n finished only e;
      goes_on = c.sections_go_on.ensures program section lists well here;
    }
