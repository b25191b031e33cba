use Rattle.std.proofs.Common.{◌≡◌, ◌∙◌, Some, None, sym, ap, below_more, arith}
use Rattle.std.specs.Option.{option_map}
use Rattle.std.proofs.lemmas.Option.{same_Some}
use Rattle.resolution.specs.Scopes.{member_bears}
use Rattle.types_symbols.specs.Working.Views.{members_seen}
use Rattle.syntax.specs.Trees.{final_member}
use Rattle.syntax.specs.Views.{member_of}
use Rattle.syntax.specs.declared.tree.Struct.{Struct}
use Rattle.explanation_faults.specs.Working.Values.{due_final, final_at}
use Rattle.explanation_faults.proofs.Given.{named_at}
use Rattle.explanation_faults.proofs.MissingInits.{found_due}
use Rattle.explanation_names.specs.Theory.Viewed.{viewed_at, within_view}
use Rattle.explanation_faults.proofs.missing_inits.missing_final.Goals as goal
use Rattle.explanation_faults.proofs.missing_inits.missing_final.Goals.{in-Some+in_default-first_without, in_default}

pub loop-place-preserved : goal.loop-place-preserved
loop-place-preserved c =
    let items = c.args.structure.now.members.items in
    let ms = members_seen c.args.structure.now in
    let read = c.deref-member-items.ensures.value ∙ ap (λ (s : Struct). s.members.items) c.item.ensures in
    let here = viewed_at member_of items _ c.loop-place.place c.member-item.result read c.member-item.is c.loop-place-test.true in
    below_more _ _ c.loop-place.invariant
    (λ m f at due.
    let same : m ≡ member_of c.member-item.result = same_Some m (member_of c.member-item.result) (sym at ∙ here) in
    elim c.match-due_final.branch [
      | in-Some+in_default-first_without w ↦ rw w.in_default-first_without.is at w.first_without.ensures
      | in_default w ↦
          let none : None ≡ due_final ms c.loop-place.place (member_of c.member-item.result) = ap (option_map final_at) (sym w.in_default.is) ∙ c.due_final.ensures in
          let e : None ≡ Some f = none ∙ ap (due_final ms c.loop-place.place) (sym same) ∙ due in
          absurd cc
    ])

pub returns : goal.returns
returns c m f found =
    let items = c.args.structure.now.members.items in
    let ms = members_seen c.args.structure.now in
    let here = (named_at member_bears ms f.name.text m (final_member f) found).here in
    let read = c.deref-member-items.ensures.value ∙ ap (λ (s : Struct). s.members.items) c.item.ensures in
    let within = within_view member_of items _ m (final_member f) read here in
    c.loop-place.invariant m (omega arith) (final_member f) f here (found_due ms m f found)
