use Rattle.std.proofs.Common.{◌≡◌, drop, fold}
use Rattle.std.specs.BTreeSet.{insert_key}
use Rattle.language_server.specs.Takes.{compare, in_order, section_takes, takes_of}
use Rattle.language_server.specs.Working.Sets.{told_in}
use Rattle.language_server.proofs.takes.takes.Given as goal

-- the takes found so far and the remaining ones are all takes
abbrev pub invariant-loop-number : goal.invariant-loop-number
invariant-loop-number l =
    let plan = l.program in
    fold (insert_key compare) (told_in l.found) (section_takes plan.program (drop l.number plan.program.sections.items) (drop l.number plan.lists))
    ≡ in_order (takes_of plan)
