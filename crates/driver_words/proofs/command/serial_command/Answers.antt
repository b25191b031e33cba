use Rattle.std.specs.Prelude.{codes}
use Rattle.driver_words.specs.Commands.{with_file, with_turns}
use Rattle.driver_words.proofs.CommandLemmas.{added}
use Rattle.driver_words.proofs.command.serial_command.Goals as goal

pub returns : goal.returns
returns c =
    let one = added _ _ _ _ (with_file (codes "serial")) c.with_argument-command.ensures c.turns_argument.ensures.rule c.file_command.ensures in
    added _ _ _ _ (with_turns (with_file (codes "serial"))) c.with_argument.ensures c.flag_argument.ensures.rule one
