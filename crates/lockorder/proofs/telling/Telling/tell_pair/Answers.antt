use Rattle.std.proofs.Common.{◌∙◌, ap, refl, sym}
use Rattle.std.specs.Prelude.{not}
use Rattle.std.proofs.lemmas.Option.{MatchOption-at_some}
use Rattle.lockorder.specs.Working.Sections.{IsFirstBehind, IsNotBehind}
use Rattle.lockorder.proofs.Steps.{pair_kept, pair_told, not_told, match_none}
use Rattle.lockorder.proofs.telling.Telling.tell_pair.Goals as goal

pub returns-in-Some-clause-told : goal.returns-in-Some-clause-told
returns-in-Some-clause-told c =
    let x = c.args.bindings.now.points.now in
    let t = c.args.self.now in
    let first = MatchOption-at_some _ (IsFirstBehind x c.args.usage.point c.args.next) c.in-Some.bound c.in-Some.is c.first.ensures in
    pair_told x c.args.usage c.args.next t.classes t.told.items t.few t.long c.requires.class c.requires.next c.in-Some.bound first
    (sym c.at.ensures ∙ not_told c.at.result (c.is_none.ensures ∙ ap not c.if-is_none.true)) _ refl

pub returns-in_default-clause-told : goal.returns-in_default-clause-told
returns-in_default-clause-told c =
    let x = c.args.bindings.now.points.now in
    let t = c.args.self.now in
    pair_kept x c.args.usage c.args.next t.classes t.told.items t.told.items refl
    (λ none. match_none (IsNotBehind x c.args.usage.point c.args.next) (IsFirstBehind x c.args.usage.point c.args.next) c.first.result c.first.ensures c.in_default.not-Some)
