use Rattle.std.proofs.lemmas.Result.{IfOk-weaker}
use Rattle.driver_words.proofs.CommandLemmas.{arg_is}
use Rattle.driver_words.proofs.command.check_command.Goals as goal

pub returns : goal.returns
returns c =
    IfOk-weaker c.arg.result _ _
    (λ r adds.
    let argument = c.flag_argument.ensures in
    arg_is _ _ _ _ _ c.in_ok-file_command.ensures argument.rule argument.local adds)
    c.arg.ensures
