use Rattle.std.proofs.Common.{◌≡◌, ◌+◌, ◌<◌, ◌≤◌, ℕ, List, length, take, get_or, Vec, Global, ap, sym, subst, false, arith}
use Rattle.std.proofs.lemmas.List.{get_or_default}
use Rattle.core_lang_helpers.specs.declared.graph.CallSite.{CallSite}
use Rattle.core_lang_helpers.specs.Working.Tables.{AddsCaller}
use Rattle.core_lang_helpers.proofs.Calling.{caller_added, caller_passed}
use Rattle.core_lang_helpers.proofs.callers.add_caller.Goals as goal
use Rattle.core_lang_helpers.proofs.callers.add_caller.Goals.{then-call-len+in_ok-push, else-call-len}

pub loop-call-preserved : goal.loop-call-preserved
loop-call-preserved c =
    let old = c.args.rows.now.items in
    let rows = c.loop-call.rows.items in
    let cs = c.args.calls.now in
    let i = c.loop-call.call-index in
    let d : CallSite = record { helper = 0; start = 0; is_bound = false } in
    let x = get_or cs i d in
    let same : x ≡ get_or cs i x = get_or_default cs i d x c.loop-call-test.true in
    elim c.if-call-len.branch [
      | then-call-len+in_ok-push w ↦
          let lt : x.helper < length rows = omega (arith, w.if-call-len.true, c.len.ensures, c.loop-call.rows.ok.0) in
          subst (λ (l : List (Vec ℕ Global)). AddsCaller old l c.args.from (take (i + 1) cs)) (sym (ap (λ (v : Vec (Vec ℕ Global) Global). v.items) w.rows-is))
          (caller_added old rows c.args.from cs i x c.loop-call.invariant c.loop-call-test.true same w.index_mut.result.now w.push.new.self lt w.index_mut.ensures.value
          w.in_ok-push.ensures.items)
      | else-call-len w ↦
          let past : length rows ≤ x.helper = omega (arith, w.if-call-len.false, c.len.ensures, c.loop-call.rows.ok.0) in
          subst (λ (l : List (Vec ℕ Global)). AddsCaller old l c.args.from (take (i + 1) cs)) (sym (ap (λ (v : Vec (Vec ℕ Global) Global). v.items) w.rows-is))
          (caller_passed old rows c.args.from cs i x c.loop-call.invariant c.loop-call-test.true same past)
    ]
