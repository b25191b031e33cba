use Rattle.std.proofs.Common.{◌≡◌, List, [], ◌∷◌, ◌++◌, Option, Some, Vec, Global, ap, ◌∙◌}
use Rattle.std.specs.Option.{option_zip}
use Rattle.std.specs.Prelude.{map, option_map}
use Rattle.std.proofs.lemmas.List.{map-append}
use Rattle.core_lang.specs.declared.tree.Expr as e
use Rattle.resolution.specs.Core as core
use Rattle.resolution.specs.CoreViews.{core_expr}
use Rattle.types_bodies.specs.Working.Parts.{pushed}
use Rattle.types_bodies.specs.Theory.Zips.{zipped}
use Rattle.types_bodies.specs.Working.Calls.{values_seen}
use Rattle.types_bodies.proofs.call.with_value.Goals as goal

values_made : (vs : Option (Vec e.Expr Global)) (x : Option e.Expr) (v : Vec e.Expr Global) (y : e.Expr) (items : List e.Expr) →
    Some (v, y) ≡ option_zip vs x → items ≡ v.items ++ y ∷ [] → Some (map core_expr items) ≡ pushed (values_seen vs) (option_map core_expr x)
values_made vs x v y items both is =
    ap (λ (k : List e.Expr). Some (map core_expr k)) is ∙ ap (λ (k : List core.Expr). Some k) (map-append core_expr v.items (y ∷ []))
    ∙ zipped (λ a b. pushed (values_seen a) (option_map core_expr b)) vs x v y both

pub returns : goal.returns
returns c = values_made c.args.values c.args.value c.in-Some.values c.in-Some.value c.push.new.self.items c.in-Some.ensures c.in_default-push.ensures.items
