use Rattle.std.proofs.Common.{◌∙◌, ◌+◌, take, map, sym, ap}
use Rattle.std.proofs.lemmas.List.{take-map}
use Rattle.std.proofs.lemmas.Result.{IfOk-weaker}
use Rattle.resolution.specs.Working.Building.{few_calls}
use Rattle.syntax.specs.Views.{decl_of}
use Rattle.explanation_faults.proofs.AmountsPassed.{ends_by, ends_no}
use Rattle.explanation_faults.proofs.amounts_passed.ends_few_calls.Goals as goal

pub returns-then-branch : goal.returns-then-branch
returns-then-branch c =
    let ds = c.args.decls.now in
    let k = c.args.place in
    sym (ends_no (few_calls (take (k + 1) (map decl_of ds))) (few_calls (take k (map decl_of ds)))
    (ap few_calls (take-map decl_of (k + 1) ds) ∙ sym c.in_ok-has_few_calls.ensures ∙ c.if-branch.true))

pub returns : goal.returns
returns c =
    let ds = c.args.decls.now in
    let k = c.args.place in
    IfOk-weaker c.has_few_calls-2.result _ _
    (λ few is.
    is ∙ ap few_calls (sym (take-map decl_of k ds))
    ∙ sym (ends_by (few_calls (take (k + 1) (map decl_of ds))) (few_calls (take k (map decl_of ds)))
    (ap few_calls (take-map decl_of (k + 1) ds) ∙ sym c.in_ok-has_few_calls.ensures ∙ c.if-branch.false)))
    c.has_few_calls-2.ensures
