use Rattle.std.proofs.Common.{◌≡◌, List, [], ◌∷◌, ◌++◌, Option, Some, Vec, Global, ap, ◌∙◌}
use Rattle.std.specs.Option.{option_zip}
use Rattle.std.specs.Prelude.{option_map}
use Rattle.std.proofs.lemmas.List.{map-append}
use Rattle.core_lang.specs.declared.tree.Local as l
use Rattle.resolution.specs.CoreViews.{core_local, core_locals}
use Rattle.types_bodies.specs.Working.Parts.{pushed}
use Rattle.types_bodies.specs.Theory.Zips.{zipped}
use Rattle.types_bodies.proofs.section.with_local.Goals as goal

locals_made : (ls : Option (Vec l.Local Global)) (x : Option l.Local) (v : Vec l.Local Global) (y : l.Local) (items : List l.Local) →
    Some (v, y) ≡ option_zip ls x → items ≡ v.items ++ y ∷ [] → Some (core_locals items) ≡ pushed (option_map (λ w. core_locals w.items) ls) (option_map core_local x)
locals_made ls x v y items both is =
    ap (λ (k : List l.Local). Some (core_locals k)) is ∙ ap Some (map-append core_local v.items (y ∷ []))
    ∙ zipped (λ a b. pushed (option_map (λ w. core_locals w.items) a) (option_map core_local b)) ls x v y both

pub returns : goal.returns
returns c = locals_made c.args.locals c.args.local c.in-Some.locals c.in-Some.local c.push.new.self.items c.in-Some.ensures c.in_default-push.ensures.items
