use Rattle.std.proofs.Common.{◌≡◌, ◌<◌, ◌+◌, ◌++◌, ◌∷◌, [], ℕ, List, length, slice_set, sym, subst, arith}
use Rattle.history.specs.Commits.{Commit}
use Rattle.workers.specs.Working.Rules.{AreEnds}
use Rattle.workers.proofs.Ends.{ends_more}
use Rattle.workers.proofs.log.Log.enter.Goals as goal

pub invariant_of-self-2 : goal.invariant_of-self-2
invariant_of-self-2 g c =
    let ends = c.self.inside.ends.items in
    let log = c.self.inside.front in
    let e = c.args.entry.now in
    let t = c.thread-thread.result in
    let added : c.add.new.self ≡ log ++ e ∷ [] = c.if-not-add.ensures in
    let below : t < length ends = omega (arith, c.if-thread-len.false, c.len.ensures) in
    subst (λ (l : List Commit). AreEnds (slice_set ends t (c.len-count.result + 1)) l) (sym added)
    (subst (λ (n : ℕ). AreEnds (slice_set ends t (n + 1)) (log ++ e ∷ [])) (sym c.len-count.ensures)
    (ends_more ends log e t c.thread-thread.ensures below c.self.invariant))
