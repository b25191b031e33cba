use Rattle.std.proofs.Common.{refl, arith}
use Rattle.explanation_faults.proofs.TextTrees.{limit_found, name_limit, no_limit, source_limit}
use Rattle.explanation_faults.proofs.text_notes.text_limit.Goals as goal
use Rattle.explanation_faults.proofs.text_notes.text_limit.Goals.{else-is_limit_at-via-then-is_limit_at+else-is_limit_at-2}
use Rattle.explanation_faults.proofs.text_notes.text_limit.Goals.{else-is_limit_at-via-else-is_limit_at}

pub returns-then-text-gt-SOURCE_LIMIT : goal.returns-then-text-gt-SOURCE_LIMIT
returns-then-text-gt-SOURCE_LIMIT c =
    let text = c.args.text.now in
    let at = c.args.fault.now.start in (
      (c.if-is_limit_at-2.ensures.0 refl).0,
      source_limit text at (limit_found text c.args.found.now at c.requires (c.if-is_limit_at.ensures.0 refl)) c.if-text-gt-SOURCE_LIMIT.true,
    )

pub returns-then-is_limit_at-2 : goal.returns-then-is_limit_at-2
returns-then-is_limit_at-2 c =
    let text = c.args.text.now in
    let at = c.args.fault.now.start in (
      (c.if-is_limit_at-2.ensures.0 refl).0,
      name_limit text at (limit_found text c.args.found.now at c.requires (c.if-is_limit_at.ensures.0 refl)) (omega (arith, c.if-text-gt-SOURCE_LIMIT.false)),
    )

pub returns : goal.returns
returns c =
    no_limit c.args.text.now c.args.found.now c.args.fault.now c.requires (λ there here.
    elim c.else-is_limit_at.branch [
      | else-is_limit_at-via-then-is_limit_at+else-is_limit_at-2 w ↦ let e = w.if-is_limit_at-2.ensures.1 here in absurd cc
      | else-is_limit_at-via-else-is_limit_at w ↦ let e = w.if-is_limit_at.ensures.1 there in absurd cc
    ])
