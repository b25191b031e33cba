use Rattle.std.proofs.Common.{◌≡◌, ◌<◌, ℕ, ◌+◌, Bool, true, false, take, set, Vec, Global, List, length, get_or, ap, sym, ◌∙◌, subst, arith}
use Rattle.std.proofs.lemmas.List.{get_or_read, get_or_default}
use Rattle.core_lang_helpers.specs.Working.Tables.{is_marked, Marks}
use Rattle.core_lang_helpers.proofs.Leading.{mark_passed, mark_added}
use Rattle.core_lang_helpers.proofs.callers.mark_all.Goals as goal
use Rattle.core_lang_helpers.proofs.callers.mark_all.Goals.{then-helper-len+then-not-index+in_ok-push, else-helper-len}
use Rattle.core_lang_helpers.proofs.callers.mark_all.Goals.{else-helper-len-via-then-helper-len+else-not-index, else-helper-len-via-else-helper-len}

pub loop-helper-preserved : goal.loop-helper-preserved
loop-helper-preserved c = elim c.if-helper-len.branch [
  | then-helper-len+then-not-index+in_ok-push w ↦
      let row = c.args.row.now in
      let i = c.loop-helper.helper-index in
      let x = get_or row i 0 in
      let marks = c.loop-helper.marks.items in
      let lt : x < length marks = omega (arith, w.if-helper-len.true, c.len.ensures, c.loop-helper.marks.ok.0) in
      let read : is_marked marks x ≡ w.index.result.now = sym (get_or_read marks x w.index.result.now lt w.index.ensures false) in
      subst (λ (l : List Bool). Marks (take (i + 1) row) c.args.marks.now.items l c.args.pending.now.items c.if-helper-len.pending.items)
      (sym (ap (λ (v : Vec Bool Global). v.items) w.marks-is))
      (subst (λ (l : List ℕ). Marks (take (i + 1) row) c.args.marks.now.items (set marks x true) c.args.pending.now.items l)
      (sym (ap (λ (v : Vec ℕ Global). v.items) w.pending-is ∙ w.in_ok-push.ensures.items))
      (mark_added row c.args.marks.now.items marks c.args.pending.now.items c.loop-helper.pending.items i x c.loop-helper.invariant c.loop-helper-test.true
      (get_or_default row i 0 x c.loop-helper-test.true) lt (read ∙ w.if-not-index.true)))
  | else-helper-len w ↦
      let row = c.args.row.now in
      let i = c.loop-helper.helper-index in
      let x = get_or row i 0 in
      let marks = c.loop-helper.marks.items in
      let passed : (x < length marks → is_marked marks x ≡ true) = elim w.else-helper-len.branch [
        | else-helper-len-via-then-helper-len+else-not-index w' ↦ λ lt. sym (get_or_read marks x w'.index.result.now lt w'.index.ensures false) ∙ w'.if-not-index.false
        | else-helper-len-via-else-helper-len w' ↦ λ lt. absurd (omega (arith, lt, w'.if-helper-len.false, c.len.ensures, c.loop-helper.marks.ok.0))
      ] in
      subst (λ (l : List Bool). Marks (take (i + 1) row) c.args.marks.now.items l c.args.pending.now.items c.if-helper-len.pending.items)
      (sym (ap (λ (v : Vec Bool Global). v.items) w.marks-is))
      (subst (λ (l : List ℕ). Marks (take (i + 1) row) c.args.marks.now.items marks c.args.pending.now.items l)
      (sym (ap (λ (v : Vec ℕ Global). v.items) w.pending-is))
      (mark_passed row c.args.marks.now.items marks c.args.pending.now.items c.loop-helper.pending.items i x c.loop-helper.invariant c.loop-helper-test.true
      (get_or_default row i 0 x c.loop-helper-test.true) passed))
]
