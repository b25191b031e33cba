use Rattle.std.proofs.Common.{◌≡◌, ◌+◌, ◌∙◌, ℕ, List, [], ap, sym, drop}
use Rattle.std.proofs.lemmas.List.{drop_all}
use Rattle.std.specs.Prelude.{map, nat_le, ◌&&◌}
use Rattle.source.specs.declared.fault.Code.TheVariants.{LimitExceeded}
use Rattle.resolution.specs.Working.Findings.{found_in}
use Rattle.syntax.specs.declared.tree.Member.{Member}
use Rattle.syntax.specs.Trees.{Ident}
use Rattle.syntax.specs.Views.{member_of}
use Rattle.resolution.specs.Limits.{CLASS_LIMIT, MEMBER_LIMIT}
use Rattle.resolution.specs.Numbers.{is_lock}
use Rattle.resolution.specs.Scopes.{member_name}
use Rattle.resolution.specs.Working.FaultLists.{one_if, member_counts, lock_count}
use Rattle.types_symbols.specs.Theory.Steps.{step, noted_two}
use Rattle.types_symbols.proofs.Counting.{few_more}
use Rattle.types_symbols.proofs.totals.report_members.Goals as goal

pub loop-place-preserved : goal.loop-place-preserved
loop-place-preserved c =
    let i = c.loop-place.place in
    let classes = c.loop-place.classes in
    let x = c.index-members-place.result in
    let m = member_of x in
    let f = c.loop-place.firsts in
    let g = c.report_if.new.firsts in
    let h = c.report_lock-classes.new.firsts in
    let rest = map member_of (drop (i + 1) c.args.members.now) in
    let start = (member_name m).span.start in
    let passed = λ (at : Ident). one_if (nat_le MEMBER_LIMIT i) LimitExceeded at.span.start in
    let over = λ (at : Ident). one_if (is_lock m && nat_le CLASS_LIMIT classes) LimitExceeded at.span.start in
    record {
      faults = step (λ (ms : List Member). found_in f (member_counts classes i (map member_of ms))) (λ (ms : List Member). found_in h (member_counts c.report_lock-classes.result (i + 1) (map member_of ms))) c.args.members.now i x _ c.loop-place-test.true c.index-members-place.is
          (ap (λ (n : ℕ). found_in h (member_counts n (i + 1) rest)) c.report_lock-classes.ensures.classes
          ∙ noted_two f g h (passed (member_name m)) (over (member_name m)) (member_counts (classes + lock_count (is_lock m)) (i + 1) rest)
          (c.report_if.ensures ∙ ap (λ (at : Ident). found_in f (passed at)) c.name_of.ensures)
          (c.report_lock-classes.ensures.faults ∙ ap (λ (at : Ident). found_in g (over at)) c.name_of.ensures))
          c.loop-place.invariant.faults;
      few = few_more (is_lock m) c.report_lock-classes.result classes i (CLASS_LIMIT + 1) c.report_lock-classes.ensures.classes c.loop-place.invariant.few;
    }

pub returns : goal.returns
returns c =
    let none : drop c.loop-place.place c.args.members.now ≡ [] = drop_all c.loop-place.place c.args.members.now c.loop-place-test.false in
    sym (ap (λ (ms : List Member). found_in c.loop-place.firsts (member_counts c.loop-place.classes c.loop-place.place (map member_of ms))) none) ∙ c.loop-place.invariant.faults
