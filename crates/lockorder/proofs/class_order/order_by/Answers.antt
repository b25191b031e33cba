use Rattle.std.proofs.Common.{length, sym, subst}
use Rattle.std.proofs.lemmas.Option.{MatchOption-at_some}
use Rattle.lockorder.specs.Edges.{Edge}
use Rattle.lockorder.specs.Ranks.{AreRanks, IsCycle}
use Rattle.lockorder.specs.Working.Tables.{InTable, AreRanksIn}
use Rattle.lockorder.proofs.Rising.{ranks_by, cycle_by, ranks_rise}
use Rattle.lockorder.proofs.Blame.{no_fault}
use Rattle.lockorder.proofs.class_order.order_by.Goals as goal
use Rattle.lockorder.proofs.class_order.order_by.Goals.{After-drop-table-in-Some}

are : (c : After-drop-table-in-Some) →
    AreRanks (Edge c.args.program.now) (length c.args.program.now.classes.items) c.in-Some.ranks.items
are c =
    let before = c.in_ok-table.table.before.items in
    let edges = c.in_ok-table.ensures.edges in
    let ranks : AreRanksIn before c.in-Some.ranks.items = MatchOption-at_some _ _ c.in-Some.ranks c.in-Some.is c.in_ok-ranks.ensures in
    subst (λ n. AreRanks (Edge c.args.program.now) n c.in-Some.ranks.items) c.in_ok-table.ensures.classes
    (ranks_by (InTable before) (Edge c.args.program.now) (λ b d. (edges b d).0) (λ b d. (edges b d).1) (length before) c.in-Some.ranks.items ranks)

pub returns-in-Some-clause-ranks : goal.returns-in-Some-clause-ranks
returns-in-Some-clause-ranks c = are c

pub returns-in-Some-clause-rise : goal.returns-in-Some-clause-rise
returns-in-Some-clause-rise c = ranks_rise (Edge c.args.program.now) (length c.args.program.now.classes.items) c.in-Some.ranks.items (are c)

pub returns-in-Some-clause-faultless : goal.returns-in-Some-clause-faultless
returns-in-Some-clause-faultless c = no_fault c.args.program.now c.in-Some.ranks.items c.requires.program c.paths_have_classes.ensures (are c)

pub told_cycle-requires-clause-cycle : goal.told_cycle-requires-clause-cycle
told_cycle-requires-clause-cycle c =
    let before = c.in_ok-table.table.before.items in
    subst (IsCycle (Edge c.args.program.now)) (sym c.deref.ensures.value)
    (cycle_by (InTable before) (Edge c.args.program.now) (λ b d. (c.in_ok-table.ensures.edges b d).0) c.in_ok-cycle-in-None.cycle.items c.in_ok-cycle-in-None.ensures)
