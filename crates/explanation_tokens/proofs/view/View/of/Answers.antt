use Rattle.std.proofs.Common.{◌≡◌, ◌∙◌, ap, refl}
use Rattle.source.specs.Tokens.{seen}
use Rattle.explanation_tokens.specs.Around.{Around, around, area_of, behind_all, inner_of}
use Rattle.explanation_tokens.specs.Working.Seen.{around_of}
use Rattle.explanation_tokens.proofs.Firsts.{seen_front}
use Rattle.explanation_tokens.proofs.view.View.of.Goals as goal

pub returns : goal.returns
returns c =
    let tokens = c.args.tokens.now in
    let n = c.args.number in
    let is : around_of c.in_ok-around.around ≡ around n (seen tokens) = c.in_ok-around.ensures ∙ ap behind_all (seen_front tokens n) in
    record {
      tokens = refl;
      number = refl;
      area = c.area.ensures ∙ ap area_of is;
      inner = c.inner.ensures ∙ ap (λ (s : Around). inner_of s.opened) is;
    }
