use Rattle.std.proofs.Common.{◌≡◌, ℕ, List, [], ◌∷◌, ◌++◌, Option, Some, Vec, Global, ap, ◌∙◌}
use Rattle.std.specs.Option.{option_zip}
use Rattle.types_bodies.specs.Working.Parts.{items_of, pushed}
use Rattle.types_bodies.specs.Theory.Zips.{zipped}
use Rattle.types_bodies.proofs.section.with_class.Goals as goal

classes_made : (cs : Option (Vec ℕ Global)) (x : Option ℕ) (v : Vec ℕ Global) (y : ℕ) (items : List ℕ) →
    Some (v, y) ≡ option_zip cs x → items ≡ v.items ++ y ∷ [] → Some items ≡ pushed (items_of cs) x
classes_made cs x v y items both is = ap Some is ∙ zipped (λ a b. pushed (items_of a) b) cs x v y both

pub returns : goal.returns
returns c = classes_made c.args.classes c.args.class c.in-Some.classes c.in-Some.class c.push.new.self.items c.in-Some.ensures c.in_default-push.ensures.items
