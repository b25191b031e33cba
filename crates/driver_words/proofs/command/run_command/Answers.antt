use Rattle.std.specs.Prelude.{codes}
use Rattle.driver_words.specs.Commands.{with_file, with_seed_choice}
use Rattle.driver_words.proofs.CommandLemmas.{added}
use Rattle.driver_words.proofs.command.run_command.Goals as goal

pub returns : goal.returns
returns c =
    let one = added _ _ _ _ (with_file (codes "run")) c.with_argument-command.ensures c.seed_choice_argument.ensures.rule c.file_command.ensures in
    added _ _ _ _ (with_seed_choice (with_file (codes "run"))) c.with_argument.ensures c.times_argument.ensures.rule one
