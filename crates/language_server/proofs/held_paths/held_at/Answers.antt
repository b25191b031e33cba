use Rattle.std.proofs.Common.{◌∙◌, ℕ, length, ap}
use Rattle.std.proofs.lemmas.Result.{IfOk-weaker}
use Rattle.language_server.specs.Working.Lines.{numbers_of}
use Rattle.language_server.proofs.held_paths.held_at.Goals as goal

pub returns : goal.returns
returns c =
    let classes = c.args.points.now.classes in
    IfOk-weaker c.numbers.result _ _
    (λ lists is. (
      c.in_ok-sets.sets.items,
      c.in_ok-sets.ensures,
      is ∙ ap (λ (n : ℕ). numbers_of n c.deref.result.now) (c.len.ensures ∙ classes.ok.0)
          ∙ ap (numbers_of (length classes.items)) c.deref.ensures.value,
    ))
    c.numbers.ensures
