use Rattle.std.proofs.Common.{ℕ, List, length, refl, ap, ◌∙◌, arith}
use Rattle.std.proofs.lemmas.Option.{slice_get_read, slice_get_past}
use Rattle.locks.specs.declared.lock.Lock.{Lock}
use Rattle.runner.specs.Working.Asked.{asked_at}
use Rattle.runner.proofs.Asked.{listed_before, none_before}
use Rattle.runner.proofs.Taken.{taken_at_first}
use Rattle.runner.proofs.asker.Asker.ask_before.Goals as goal

pub ask-requires-clause-room : goal.ask-requires-clause-room
ask-requires-clause-room c =
    let a = c.args.self.now in
    let lists = c.lists_before.result.now in
    let list = c.in-Some.list.now in
    let at = slice_get_read lists (length lists) c.args.point list refl c.in-Some.ensures.lookup.3.0 c.in-Some.ensures.lookup.1 in
    let same = listed_before a.program.now a.section c.args.point a.machine.now.locks a.machine.now.machine.locals lists c.lists_before.ensures list at in
    let read = ap (λ (ns : List ℕ). length (asked_at a.program.now a.section a.machine.now.locks a.machine.now.machine.locals ns)) c.deref.ensures.value in
    omega (arith, c.requires.room, ap (λ (ls : List Lock). length ls) same, read)

pub returns-in-Some-clause-locks : goal.returns-in-Some-clause-locks
returns-in-Some-clause-locks c =
    let a = c.args.self.now in
    let lists = c.lists_before.result.now in
    let list = c.in-Some.list.now in
    let at = slice_get_read lists (length lists) c.args.point list refl c.in-Some.ensures.lookup.3.0 c.in-Some.ensures.lookup.1 in
    c.ask.ensures.locks
    ∙ ap (λ (ns : List ℕ). asked_at a.program.now a.section a.machine.now.locks a.machine.now.machine.locals ns) c.deref.ensures.value
    ∙ listed_before a.program.now a.section c.args.point a.machine.now.locks a.machine.now.machine.locals lists c.lists_before.ensures list at

pub returns-in-None-clause-locks : goal.returns-in-None-clause-locks
returns-in-None-clause-locks c =
    let a = c.args.self.now in
    let lists = c.lists_before.result.now in
    c.requires.none
    ∙ none_before a.program.now a.section c.args.point a.machine.now.locks a.machine.now.machine.locals lists c.lists_before.ensures
    (slice_get_past lists c.args.point c.in-None.ensures.lookup.3)

pub returns-in-None-clause-taken : goal.returns-in-None-clause-taken
returns-in-None-clause-taken c =
    let a = c.args.self.now in
    taken_at_first a.program.now a.section a.machine.now.locks c.args.pending.now.locks a.taken c.requires.none c.requires.taken
