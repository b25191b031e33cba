use Rattle.std.proofs.Common.{◌≡◌, ◌∙◌, ℕ, suc, ◌+◌, ◌-◌, ◌<◌, ◌∷◌, ◌++◌, string_bytes, refl, sym, ap, append_assoc, arith}
use Rattle.std.specs.List.{flat_map, range_with_len}
use Rattle.lsp_texts.specs.Lines.{piece}
use Rattle.lsp_texts.proofs.lines.Line.push.Goals as goal

-- the numbers from a to below n are a and those after it
range_more : (a n : ℕ) → a < n → range_with_len a (n - a) ≡ a ∷ range_with_len (a + 1) (n - (a + 1))
range_more a n lt = let e : n - a ≡ suc (n - (a + 1)) = omega arith in rw e refl

pub loop-at-preserved : goal.loop-at-preserved
loop-at-preserved c =
    let f = piece c.args.self.now.tokens.now c.args.self.now.first in
    let at = c.loop-at.at in
    let n = c.args.end in
    let before = string_bytes c.loop-at.out in
    let rest = flat_map f (range_with_len (at + 1) (n - (at + 1))) in
    ap (λ b. b ++ rest) c.in_ok-push_piece.ensures ∙ append_assoc before (f at) rest
    ∙ sym (ap (λ rs. before ++ flat_map f rs) (range_more at n c.loop-at-test.true)) ∙ c.loop-at.invariant
