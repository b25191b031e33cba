use Rattle.std.proofs.Common.{List, Err, refl, subst}
use Rattle.input_files.specs.declared.item.Item.{Item}
use Rattle.input_files.specs.Steps.{IfFault}
use Rattle.interleavings.specs.Working.Found.{CountsItems, CountIsTooMuch}
use Rattle.interleavings.proofs.Finding.{all_refused_first, all_refused_last, all_found, rest_is}
use Rattle.interleavings.proofs.items.turns_of.Goals as goal

pub returns-in-Err : goal.returns-in-Err
returns-in-Err c =
    all_refused_first c.args.program.now c.args.items.now c.uncounted_len-len.result (record { turns = c.new.result; left = 10000000 })
    c.new.ensures.items refl (Unit {0}) c.in-Err.refusal c.in-Err.ensures.fault

pub returns-in-Err-count : goal.returns-in-Err-count
returns-in-Err-count c =
    all_refused_last c.args.program.now c.args.items.now c.uncounted_len-len.result (record { turns = c.new.result; left = 10000000 })
    c.new.ensures.items refl c.run_from_opening.new.self c.in-Ok.ensures.ok c.uncounted_len-len.ensures.rest
    (Unit {0}) c.in-Err-count.refusal
    (subst (λ (l : List Item). IfFault {T = Unit {0}} (Err c.in-Err-count.refusal) (CountIsTooMuch l c.run_from_opening.new.self))
    (rest_is c.args.items.now c.uncounted_len-len.result c.uncounted_len-len.ensures.within) c.in-Err-count.ensures.fault)

pub returns : goal.returns
returns c =
    all_found c.args.program.now c.args.items.now c.uncounted_len-len.result (record { turns = c.new.result; left = 10000000 })
    c.new.ensures.items refl c.run_from_opening.new.self c.in-Ok.ensures.ok c.uncounted_len-len.ensures.rest
    c.count.new.self
    (subst (λ (l : List Item). CountsItems l c.run_from_opening.new.self c.count.new.self)
    (rest_is c.args.items.now c.uncounted_len-len.result c.uncounted_len-len.ensures.within) c.in-Ok-count.ensures.ok)
