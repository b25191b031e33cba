use Rattle.std.proofs.lemmas.Result.{IfOk-weaker}
use Rattle.source.specs.Tokens.{seen}
use Rattle.explanation_faults.proofs.PathsPassed.{told_of_paths}
use Rattle.explanation_faults.proofs.lock_paths.are_paths_past.Goals as goal

pub returns : goal.returns
returns c =
    let meant = rw c.in-Some.is at c.in_ok-written.ensures in
    IfOk-weaker c.is_first_limit.result _ _ (λ is decides. told_of_paths (seen c.args.tokens.now) c.args.at c.in-Some.written is meant.0 decides)
    c.is_first_limit.ensures
