use Rattle.syntax.proofs.Added.{refused_before, tried}
use Rattle.syntax.proofs.printer.Printer.push_str.Goals as goal

pub returns-then-self : goal.returns-then-self
returns-then-self c = refused_before _ _ c.if-self.true

pub returns : goal.returns
returns c = tried c.if-self.false c.is_err-self.ensures.negation c.push_str.ensures.bytes
