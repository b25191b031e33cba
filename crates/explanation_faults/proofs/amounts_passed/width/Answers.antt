use Rattle.std.proofs.Common.{◌≡◌, ◌∙◌, ◌+◌, ◌∷◌, ◌++◌, [], List, take, drop, map, refl, sym, ap, arith}
use Rattle.std.proofs.lemmas.List.{map-append, take-map, take_more}
use Rattle.resolution.specs.Numbers.{fields_from, new_field}
use Rattle.resolution.specs.Scopes.{member_bears, member_name, place_of}
use Rattle.types_symbols.specs.Theory.Steps.{step}
use Rattle.types_symbols.specs.Working.Views.{members_seen}
use Rattle.syntax.specs.Trees.{Member}
use Rattle.syntax.specs.Views.{member_of}
use Rattle.syntax.specs.declared.tree.Member as written
use Rattle.syntax.specs.declared.tree.Struct as the_struct
use Rattle.explanation_faults.specs.Working.AmountsFound.{field_count}
use Rattle.explanation_faults.proofs.AmountsPassed.{counted_new}
use Rattle.explanation_names.specs.Theory.Viewed.{viewed_at}
use Rattle.explanation_faults.proofs.amounts_passed.width.Goals as goal

pub loop-place-preserved : goal.loop-place-preserved
loop-place-preserved c =
    let items = c.deref-member-items.result.now in
    let i = c.loop-place.place in
    let x = c.member-item.result in
    let is = c.member-item.is in
    let lt = c.loop-place-test.true in
    let m = member_of x in
    let ms = map member_of (take i items) in
    let rest = map member_of (drop (i + 1) items) in
    let n = c.field_count-width.result in
    let seen : map member_of items ≡ members_seen c.args.structure.now =
    ap (map member_of) (c.deref-member-items.ensures.value ∙ ap (λ (s : the_struct.Struct). s.members.items) c.item.ensures) in
    let new : n ≡ new_field (place_of member_bears ms (member_name m).text) m =
    c.field_count-width.ensures.counted ∙ ap (λ (l : List Member). field_count l i m) (sym seen)
    ∙ counted_new (map member_of items) i m (viewed_at member_of items items i x refl is lt)
    ∙ ap (λ (l : List Member). new_field (place_of member_bears l (member_name m).text) m) (take-map member_of i items) in
    let more : map member_of (take (i + 1) items) ≡ ms ++ m ∷ [] =
    ap (map member_of) (take_more items i x lt ∙ ap (λ (y : written.Member). take i items ++ y ∷ []) (sym is)) ∙ map-append member_of (take i items) (x ∷ []) in
    record {
      width = step (λ xs. c.loop-place.width + fields_from ms (map member_of xs)) (λ xs. (c.loop-place.width + n) + fields_from (map member_of (take (i + 1) items)) (map member_of xs)) items i x _ lt is
          (ap (λ (l : List Member). (c.loop-place.width + n) + fields_from l rest) more ∙ omega (arith, new)) c.loop-place.invariant.width;
      few = let few = c.loop-place.invariant.few in let one = c.field_count-width.ensures.few in omega (arith, few, one);
    }
