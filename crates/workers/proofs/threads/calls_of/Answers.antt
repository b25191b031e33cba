use Rattle.std.proofs.Common.{rules, ◌≡◌, sym, subst, length, slice_get, refl, Some}
use Rattle.std.proofs.lemmas.Option.{slice_get_read}
use Rattle.workers.specs.Working.Within.{HasCalls}
use Rattle.workers.proofs.Scripts.{has_calls}
use Rattle.workers.proofs.threads.calls_of.Goals as goal

pub returns : goal.returns
returns c =
    let plan = c.args.program.now in
    let thread = c.in_ok-thread.thread.now in
    let all = plan.program.threads.items in
    let there = c.in_ok-thread.ensures.lookup in
    let same : c.deref.result.now ≡ all = search rules in
    let got : slice_get c.deref.result.now c.args.thread ≡ Some thread = slice_get_read c.deref.result.now _ c.args.thread thread refl there.3.0 there.1 in
    let is : slice_get all c.args.thread ≡ Some thread = subst (λ xs. slice_get xs c.args.thread ≡ Some thread) same got in
    let long : c.len.result ≡ length thread.calls.items = search rules in
    subst (HasCalls plan c.args.thread) (sym long) (has_calls plan c.args.thread thread is)
