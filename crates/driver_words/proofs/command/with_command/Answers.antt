use Rattle.std.proofs.lemmas.Result.{IfOk-weaker, IfOk-at_ok}
use Rattle.driver_words.specs.Commands.{IsCommand}
use Rattle.driver_words.proofs.CommandLemmas.{subcommand_is}
use Rattle.driver_words.proofs.command.with_command.Goals as goal

pub returns : goal.returns
returns c a b line command =
    let first : IsCommand a c.in_ok-line.field-0 = IfOk-at_ok (IsCommand a) c.in_ok-line.was line in
    let second : IsCommand b c.in_ok-command.field-0 = IfOk-at_ok (IsCommand b) c.in_ok-command.was command in
    IfOk-weaker c.subcommand.result _ _ (λ r adds. subcommand_is _ _ _ a b first second adds) c.subcommand.ensures
