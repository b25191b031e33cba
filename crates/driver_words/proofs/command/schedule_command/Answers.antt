use Rattle.std.specs.Prelude.{codes}
use Rattle.driver_words.specs.Commands.{with_file, with_length, with_seed}
use Rattle.driver_words.proofs.CommandLemmas.{added}
use Rattle.driver_words.proofs.command.schedule_command.Goals as goal

pub returns : goal.returns
returns c =
    let one = added _ _ _ _ (with_file (codes "schedule")) c.with_argument-command.ensures c.items_argument.ensures.rule c.file_command.ensures in
    let two = added _ _ _ _ (with_seed (with_file (codes "schedule"))) c.with_argument-command-2.ensures c.length_argument.ensures.rule one in
    added _ _ _ _ (with_length (with_seed (with_file (codes "schedule")))) c.with_argument.ensures c.flag_argument.ensures.rule two
