use Rattle.std.proofs.Common.{refl}
use Rattle.std.proofs.lemmas.Result.{IfOk-weaker, IfOk-at_ok}
use Rattle.clap.specs.Words.{rule_of}
use Rattle.driver_words.specs.Commands.{IsCommand}
use Rattle.driver_words.proofs.CommandLemmas.{arg_is}
use Rattle.driver_words.proofs.command.with_argument.Goals as goal

pub returns : goal.returns
returns c a command =
    let first : IsCommand a c.in_ok-command.field-0 = IfOk-at_ok (IsCommand a) c.in_ok-command.was command in
    IfOk-weaker c.arg.result _ _
    (λ r adds. arg_is c.in_ok-command.field-0 r c.args.argument a (rule_of c.args.argument) first refl c.requires adds)
    c.arg.ensures
