use Rattle.std.proofs.Common.{◌≡◌, length, min, arith}
use Rattle.lsp_texts.proofs.PlaceLemmas.{up_to}
use Rattle.lsp_texts.proofs.scopes.Place.at.Goals as goal

pub loop-before-init : goal.loop-before-init
loop-before-init c = c.first-place.ensures c.args.tokens.now

pub returns : goal.returns
returns c =
    let to : c.loop-before.before ≡ min c.args.at (length c.args.tokens.now) = omega arith in
    up_to c.args.tokens.now c.loop-before.before c.args.at c.loop-before.place to c.loop-before.invariant
