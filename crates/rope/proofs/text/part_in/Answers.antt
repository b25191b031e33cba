use Rattle.std.proofs.Common.{◌≡◌, ◌≤◌, ℕ, List, [], Vec, Global, length, map, Some, refl, sym, ap, ◌∙◌, subst, arith}
use Rattle.std.specs.Prelude.{slice_get, slice_index_or, string_bytes, String}
use Rattle.std.specs.Option.{option_map, option_map_or}
use Rattle.std.proofs.lemmas.List.{get_or_past, length-map}
use Rattle.std.proofs.lemmas.Option.{slice_get_read, slice_get-map}
use Rattle.rope.proofs.text.part_in.Goals as goal

pub returns-in-None : goal.returns-in-None
returns-in-None c =
    let groups = c.args.groups.now in
    let parts = c.in-Some.parts.now in
    let texts : Vec (String Global) Global → List (List ℕ) = λ ps. map string_bytes ps.items in
    let at : slice_get groups c.args.group ≡ Some parts =
    slice_get_read groups (length groups) c.args.group parts refl c.in-Some.ensures.lookup.3.0 c.in-Some.ensures.lookup.1 in
    let past : length parts.items ≤ c.args.number = subst (λ (xs : List (String Global)). length xs ≤ c.args.number) c.deref.ensures.value c.in-None.ensures.lookup.3 in
    sym (ap (λ o. option_map_or (λ ps. slice_index_or ps c.args.number []) o [])
    (slice_get-map texts groups c.args.group ∙ ap (option_map texts) at)
    ∙ get_or_past (texts parts) c.args.number [] (omega (arith, past, length-map parts.items string_bytes)))
