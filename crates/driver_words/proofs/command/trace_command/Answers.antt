use Rattle.std.specs.Prelude.{codes}
use Rattle.driver_words.specs.Commands.{with_file, with_sections, with_steps}
use Rattle.driver_words.proofs.CommandLemmas.{added}
use Rattle.driver_words.proofs.command.trace_command.Goals as goal

pub returns : goal.returns
returns c =
    let one = added _ _ _ _ (with_file (codes "trace")) c.with_argument-command.ensures c.steps_argument.ensures.rule c.file_command-command.ensures in
    let two = added _ _ _ _ (with_steps (with_file (codes "trace"))) c.with_argument-command-2.ensures c.flag_argument.ensures.rule one in
    added _ _ _ _ (with_sections (with_steps (with_file (codes "trace")))) c.with_argument.ensures c.flag_argument-2.ensures.rule two
