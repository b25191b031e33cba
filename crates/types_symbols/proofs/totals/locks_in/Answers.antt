use Rattle.std.proofs.Common.{◌≡◌, ◌≤◌, ◌+◌, ◌∙◌, ◌<◌, ◌∷◌, ℕ, List, [], ap, sym, subst, refl, drop, length, get_or}
use Rattle.std.proofs.lemmas.List.{drop_all}
use Rattle.std.specs.Prelude.{map}
use Rattle.syntax.specs.declared.tree.Member.{Member}
use Rattle.syntax.specs.Views.{member_of}
use Rattle.resolution.specs.Limits.{CLASS_LIMIT}
use Rattle.resolution.specs.Numbers.{is_lock}
use Rattle.resolution.specs.Scopes.{count}
use Rattle.types_symbols.specs.Working.Capped.{capped}
use Rattle.types_symbols.specs.Theory.Steps.{step}
use Rattle.types_symbols.proofs.Counting.{sum_step, sum_done, count_lock, count_other}
use Rattle.types_symbols.proofs.totals.locks_in.Goals as goal
use Rattle.types_symbols.proofs.totals.locks_in.Goals.{in-Lock, in_default}

pub loop-m-preserved : goal.loop-m-preserved
loop-m-preserved c =
    let ms = c.args.structure.now.members.items in
    let i = c.loop-m.m-index in
    let x = c.m-item.result in
    let old = c.loop-m.locks in
    let new = c.match-m.locks in
    let rest = map member_of (drop (i + 1) ms) in
    let lent = c.deref-m-items.ensures.value in
    let lt = subst (λ (xs : List Member). i < length xs) lent c.loop-m-test.true in
    let is = subst (λ (xs : List Member). x ≡ get_or xs i x) lent c.m-item.is in
    let next : capped CLASS_LIMIT (new + count is_lock rest) ≡ capped CLASS_LIMIT (old + count is_lock (member_of x ∷ rest)) → capped CLASS_LIMIT (new + count is_lock rest) ≡ capped CLASS_LIMIT (count is_lock (map member_of ms)) =
    λ turn. step (λ (xs : List Member). capped CLASS_LIMIT (old + count is_lock (map member_of xs))) (λ (xs : List Member). capped CLASS_LIMIT (new + count is_lock (map member_of xs))) ms i x _ lt is turn c.loop-m.invariant.sum in
    elim c.match-m.branch [
      | in-Lock w ↦ (
          record {
            sum = next (sum_step CLASS_LIMIT old 1 1 new (count is_lock rest) refl (w.locks-is ∙ w.add-locks.ensures.sum)
                ∙ ap (λ (n : ℕ). capped CLASS_LIMIT (old + n)) (sym (count_lock x w.in-Lock.field-0 rest w.in-Lock.is)));
            within = subst (λ (n : ℕ). n ≤ CLASS_LIMIT + 1) (sym w.locks-is) w.add-locks.ensures.within;
          })
      | in_default w ↦ (
          record {
            sum = next (ap (λ (n : ℕ). capped CLASS_LIMIT (n + count is_lock rest)) w.locks-is
                ∙ ap (λ (n : ℕ). capped CLASS_LIMIT (old + n)) (sym (count_other x rest w.in_default.not-Lock)));
            within = subst (λ (n : ℕ). n ≤ CLASS_LIMIT + 1) (sym w.locks-is) c.loop-m.invariant.within;
          })
    ]

pub returns : goal.returns
returns c =
    let ms = c.args.structure.now.members.items in
    let none : drop c.loop-m.m-index ms ≡ [] = subst (λ (xs : List Member). drop c.loop-m.m-index xs ≡ []) c.deref-m-items.ensures.value (drop_all c.loop-m.m-index c.deref-m-items.result.now c.loop-m-test.false) in
    sum_done CLASS_LIMIT c.loop-m.locks (count is_lock (map member_of (drop c.loop-m.m-index ms))) (count is_lock (map member_of ms)) c.loop-m.invariant.within
    (ap (λ (xs : List Member). count is_lock (map member_of xs)) none) c.loop-m.invariant.sum
