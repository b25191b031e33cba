use Rattle.std.proofs.Common.{rules, ℕ, sym, ap, ◌∙◌, subst, arith}
use Rattle.std.proofs.lemmas.List.Sorted.{IsNonDecreasingBy-from_sort_by_key}
use Rattle.core_lang.specs.declared.value.Value.{Value}
use Rattle.runner_machine.specs.Working.Noted.{NotesOf, in_order, EachOnce}
use Rattle.runner_machine.proofs.Rising.{in_order_twice}
use Rattle.runner_machine.proofs.Sorted.{sorted_in_order}
use Rattle.runner_machine.proofs.notes.Notes.finish.Goals as goal

pub invariant_of-self : goal.invariant_of-self
invariant_of-self c =
    let all = ap (λ (n : NotesOf). n.list) c.self.view_is in
    let sorted = sorted_in_order c.self.inside.list.items c.sort_unstable_by_key.new.self.items c.sort_unstable_by_key.ensures.permutation
    (subst EachOnce (sym all) c.requires)
    (IsNonDecreasingBy-from_sort_by_key (λ (x : ℕ × Value). x.0) _ c.sort_unstable_by_key.ensures.sorted (λ a r q k. search rules)) in
    (omega arith, omega (arith, c.self.invariant.1), omega (arith, c.self.invariant.2), omega arith, λ zero. ap in_order sorted ∙ in_order_twice c.self.inside.list.items ∙ sym sorted)

pub returns-clause-list : goal.returns-clause-list
returns-clause-list c =
    let all = ap (λ (n : NotesOf). n.list) c.self.view_is in
    sorted_in_order c.self.inside.list.items c.sort_unstable_by_key.new.self.items c.sort_unstable_by_key.ensures.permutation
    (subst EachOnce (sym all) c.requires)
    (IsNonDecreasingBy-from_sort_by_key (λ (x : ℕ × Value). x.0) _ c.sort_unstable_by_key.ensures.sorted (λ a r q k. search rules))
    ∙ ap in_order all
