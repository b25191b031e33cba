use Rattle.std.proofs.lemmas.Result.{IfOk-weaker}
use Rattle.language_server.specs.Hovers.{of_statement}
use Rattle.language_server.proofs.hovers.hover.Goals as goal

pub returns-in-None-clause-told : goal.returns-in-None-clause-told
returns-in-None-clause-told c =
    let none = rw c.in-None.is at c.in_ok-told.ensures.told in
    IfOk-weaker c.hover.result _ _ (λ told is. of_statement none is) c.hover.ensures.told
