use Rattle.std.proofs.Common.{◌≡◌, ◌∙◌, ℕ, List, length, drop, get_or, ap, arith}
use Rattle.lsp_texts.specs.Positions.{bytes_to}
use Rattle.lsp_texts.specs.Working.Steps.{step}
use Rattle.lsp_texts.proofs.WalkLemmas.{bytes_at, bytes_end}
use Rattle.lsp_texts.proofs.offsets.offset_of.Goals as goal

at_end : (text : List ℕ) (lines units at : ℕ) → at ≡ length text → bytes_to lines units (drop at text) ≡ 0
at_end text lines units at is = ap (λ n. bytes_to lines units (drop n text)) is ∙ bytes_end lines units text

pub returns : goal.returns
returns c =
    let is : c.loop-at.at ≡ length c.args.text.now = omega arith in
    omega (arith, c.loop-at.invariant, at_end c.args.text.now c.loop-at.lines c.loop-at.units c.loop-at.at is)

pub returns-in-None : goal.returns-in-None
returns-in-None c =
    let text = c.args.text.now in
    let at = c.loop-at.at in
    let none = bytes_at text c.loop-at.lines c.loop-at.units at 0 _ c.loop-at-test.true
    (c.in-None.ensures ∙ ap (step c.loop-at.lines c.loop-at.units (get_or text at 0)) c.next_of.ensures) in
    omega (arith, c.loop-at.invariant, none)

pub loop-at-preserved : goal.loop-at-preserved
loop-at-preserved c =
    let text = c.args.text.now in
    let at = c.loop-at.at in
    let some = bytes_at text c.loop-at.lines c.loop-at.units at 0 _ c.loop-at-test.true
    (c.in-Some.ensures ∙ ap (step c.loop-at.lines c.loop-at.units (get_or text at 0)) c.next_of.ensures) in
    omega (arith, c.loop-at.invariant, some)
