use Rattle.layout.proofs.Numbered.{has_found, has_none}
use Rattle.layout.proofs.numbering.Numbering.has.Goals as goal

pub returns-in-Some : goal.returns-in-Some
returns-in-Some c = has_found c.args.self.now.locks.items c.args.lock c.in-Some.number c.is_at.result c.is_at.ensures c.in-Some.ensures

pub returns-in-None : goal.returns-in-None
returns-in-None c = has_none c.args.self.now.locks.items c.args.lock c.in-None.ensures
