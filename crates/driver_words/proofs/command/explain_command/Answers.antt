use Rattle.std.specs.Prelude.{codes}
use Rattle.driver_words.specs.Commands.{with_file, with_json}
use Rattle.driver_words.proofs.CommandLemmas.{added}
use Rattle.driver_words.proofs.command.explain_command.Goals as goal

pub returns : goal.returns
returns c =
    let one = added _ _ _ _ (with_file (codes "explain")) c.with_argument-command.ensures c.flag_argument.ensures.rule c.operand_command-command.ensures in
    added _ _ _ _ (with_json (with_file (codes "explain"))) c.with_argument.ensures c.color_argument.ensures.rule one
