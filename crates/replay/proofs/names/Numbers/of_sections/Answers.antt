use Rattle.std.proofs.Common.{◌∙◌, ◌-◌, length, arith, map, string_bytes, subst, ap, sym, List, ℕ}
use Rattle.core_lang.specs.declared.tree.Section.{Section}
use Rattle.replay.specs.Working.Names.{IsWithName}
use Rattle.replay.proofs.Numbering.{last_none, last_more}
use Rattle.replay.proofs.names.Numbers.of_sections.Goals as goal

pub loop-left-init : goal.loop-left-init
loop-left-init c = last_none (map (λ (x : Section). string_bytes x.name) c.args.sections.now) c.new-numbers.result c.new-numbers.ensures

pub loop-left-preserved : goal.loop-left-preserved
loop-left-preserved c =
    let number = length c.args.sections.now - 1 - c.loop-left.left in
    last_more (λ (x : Section). string_bytes x.name) c.args.sections.now c.loop-left.left number c.index-sections-number.result c.loop-left.numbers c.set.new.self
    c.loop-left.invariant (omega (arith, c.loop-left-test.true)) c.index-sections-number.is
    (subst (λ (name : List ℕ). IsWithName name number c.loop-left.numbers c.set.new.self)
    (c.as_bytes.ensures.value ∙ c.as_str.ensures.value ∙ ap (λ (x : Section). string_bytes x.name) (sym c.index-sections-number.is)) c.in_ok-set.ensures)
