use Rattle.core_lang_helpers.proofs.Printing.{prints_at_most}
use Rattle.core_lang_helpers.proofs.laws.no_run_prints_more.Goals as goal

pub returns : goal.returns
returns c = prints_at_most
