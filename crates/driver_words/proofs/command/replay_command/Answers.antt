use Rattle.std.specs.Prelude.{codes}
use Rattle.driver_words.specs.Commands.{with_file, with_history, with_turns, with_why}
use Rattle.driver_words.proofs.CommandLemmas.{added}
use Rattle.driver_words.proofs.command.replay_command.Goals as goal

pub returns : goal.returns
returns c =
    let one = added _ _ _ _ (with_file (codes "replay")) c.with_argument-command.ensures c.history_argument.ensures.rule c.file_command-command.ensures in
    let two = added _ _ _ _ (with_history (with_file (codes "replay"))) c.with_argument-command-2.ensures c.turns_argument.ensures.rule one in
    let three = added _ _ _ _ (with_turns (with_history (with_file (codes "replay")))) c.with_argument-command-3.ensures c.flag_argument.ensures.rule two in
    added _ _ _ _ (with_why (with_turns (with_history (with_file (codes "replay"))))) c.with_argument.ensures c.flag_argument-2.ensures.rule three
