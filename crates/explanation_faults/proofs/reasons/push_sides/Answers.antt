use Rattle.std.proofs.Common.{◌∙◌, ◌++◌, List, ℕ, ap, append_assoc, string_bytes}
use Rattle.std.proofs.lemmas.Result.{on_ok_weaker}
use Rattle.std.specs.Prelude.{codes}
use Rattle.types_symbols.specs.{decls_of}
use Rattle.explanation_faults.specs.ReasonNotes.{kind_words}
use Rattle.explanation_faults.proofs.reasons.push_sides.Goals as goal

pub returns : goal.returns
returns c =
    let ds = decls_of c.args.symbols.now in
    let left = codes "the left side is " ++ kind_words ds c.args.left in
    let right = codes ", the right side is " ++ kind_words ds c.args.right in
    let old = string_bytes c.args.words.now in
    on_ok_weaker c.push_side-2.result (λ e. e ∙ ap (λ (t : List ℕ). t ++ right) c.in_ok-push_side.ensures ∙ append_assoc old left right)
    c.push_side-2.ensures
