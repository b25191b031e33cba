use Rattle.std.proofs.Common.{◌∙◌, ◌++◌, List, ℕ, ap, append_assoc, string_bytes}
use Rattle.std.proofs.lemmas.Result.{on_ok_weaker}
use Rattle.std.specs.Prelude.{codes}
use Rattle.std.specs.Fmt.{decimal}
use Rattle.explanation_faults.proofs.reasons.push_counts.Goals as goal

pub returns : goal.returns
returns c =
    let left = codes "arguments expected: " ++ decimal c.args.wanted in
    let right = codes ", given: " ++ decimal c.args.given in
    let old = string_bytes c.args.words.now in
    on_ok_weaker c.push_count-2.result (λ e. e ∙ ap (λ (t : List ℕ). t ++ right) c.in_ok-push_count.ensures ∙ append_assoc old left right)
    c.push_count-2.ensures
