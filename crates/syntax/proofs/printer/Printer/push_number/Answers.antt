use Rattle.syntax.proofs.Added.{refused_before, tried_as}
use Rattle.syntax.proofs.printer.Printer.push_number.Goals as goal

pub returns-then-self : goal.returns-then-self
returns-then-self c = refused_before _ _ c.if-self.true

pub returns : goal.returns
returns c =
    tried_as c.append_number.result c.if-self.false c.is_err-self.ensures.negation c.append_number.ensures
