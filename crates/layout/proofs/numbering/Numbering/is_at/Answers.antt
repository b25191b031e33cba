use Rattle.locks.specs.Theory.Written.{item_here, item_past}
use Rattle.layout.proofs.Placed.{is_same_lock}
use Rattle.layout.proofs.Numbered.{none_there}
use Rattle.layout.proofs.numbering.Numbering.is_at.Goals as goal

pub returns-in-Some : goal.returns-in-Some
returns-in-Some c =
    let locks = c.args.self.now.locks.items in
    let x = c.in-Some.other in
    is_same_lock locks c.args.number x.now c.args.lock c.eq.result
    (item_here locks c.deref.result.now c.args.number c.deref.ensures.value x c.in-Some.ensures.lookup) c.eq.ensures

pub returns-in-None : goal.returns-in-None
returns-in-None c =
    let locks = c.args.self.now.locks.items in
    none_there locks c.args.number c.args.lock (item_past locks c.deref.result.now c.args.number c.deref.ensures.value c.in-None.ensures.lookup)
