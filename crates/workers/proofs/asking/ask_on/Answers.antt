use Rattle.std.proofs.Common.{subst}
use Rattle.lock_manager.specs.Working.Calls.{KeepsEntries}
use Rattle.runner.specs.Working.Opens.{Gets, IsSame}
use Rattle.runner.specs.Working.Answers.{open_of}
use Rattle.runner.specs.declared.states.Asked.TheVariants.{Got}
use Rattle.runner.specs.declared.states.Next.{Next}
use Rattle.runner.specs.declared.states.Next.TheVariants.{Asking}
use Rattle.workers.proofs.Guarding.{same-trans}
use Rattle.workers.proofs.Parts.{answered_kept}
use Rattle.workers.proofs.Asked.{kept-trans, known_on, asked_on}
use Rattle.workers.proofs.asking.ask_on.Goals as goal

pub loop-granted-preserved : goal.loop-granted-preserved
loop-granted-preserved c =
    let m₀ = c.args.manager.now in
    let m = c.loop-granted.manager in
    let m' = c.ask.new.manager in
    let o = c.loop-granted.asking in
    let o' = c.in-Got-Asking.further in
    let was = c.loop-granted.invariant in
    let is = c.in-Got-Asking.field-0-is in
    let gets : Gets m o o' m' = subst (λ (n : Next). Gets m o (open_of n) m') is c.in-Got-Asking.ensures.answered in
    let same : IsSame o o' = subst (λ (n : Next). IsSame o (open_of n)) is c.in-Got-Asking.ensures.same in
    let entries : KeepsEntries m m' = answered_kept m m' o c.ask.result c.ask.ensures.answered in
    record {
      same = same-trans c.args.asking o o' was.same same;
      entries = kept-trans m₀ m m' was.entries entries;
      known = known_on m m' o o' was.known same gets entries;
      part = λ part.
          asked_on c.sections_stay_part.ensures m₀ m m' o (Got (Asking o')) c.keeps_its_rules-in-loop-granted.ensures.rules_kept was.known
          c.keeps_its_rules.ensures.kept gets was.entries (was.part part);
    }
