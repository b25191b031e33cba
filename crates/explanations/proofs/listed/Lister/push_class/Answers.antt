use Rattle.std.specs.Prelude.{◌≡◌, List, length, slice_get, Some, None, true, false}
use Rattle.std.proofs.Common.{ℕ, refl, sym, ap, ◌∙◌}
use Rattle.std.proofs.lemmas.Option.{slice_get_read, slice_get_past}
use Rattle.syntax.specs.Views.{class_name_of}
use Rattle.explanations.specs.ListedClasses.{listed_warning}
use Rattle.explanations.proofs.Listing.{listed_at, judged_at, none_added, one_added}
use Rattle.explanations.proofs.listed.Lister.push_class.Goals as goal

pub returns-in_default : goal.returns-in_default
returns-in_default c =
    let a = c.args.self.now in
    let none : slice_get a.section.now.listed.items c.args.place ≡ None =
    ap (λ (xs : List ℕ). slice_get xs c.args.place) (sym c.deref.ensures.value)
    ∙ slice_get_past c.deref.result.now c.args.place c.in_default.ensures.lookup.3 in
    none_added c.args.warnings.now.items _
    (listed_at a.program.now a.section.now c.args.place (class_name_of c.args.name.now) None none)

pub returns-then-needs : goal.returns-then-needs
returns-then-needs c =
    let a = c.args.self.now in
    let list = c.deref.result.now in
    let some : slice_get a.section.now.listed.items c.args.place ≡ Some c.in-Some.class.now =
    ap (λ (xs : List ℕ). slice_get xs c.args.place) (sym c.deref.ensures.value)
    ∙ slice_get_read list (length list) c.args.place c.in-Some.class.now refl c.in-Some.ensures.lookup.3.0 c.in-Some.ensures.lookup.1 in
    none_added c.args.warnings.now.items _
    (judged_at a.program.now a.section.now c.args.place c.in-Some.class.now (class_name_of c.args.name.now) true some c.if-needs.ensures)

pub returns : goal.returns
returns c =
    let a = c.args.self.now in
    let list = c.deref.result.now in
    let some : slice_get a.section.now.listed.items c.args.place ≡ Some c.in-Some.class.now =
    ap (λ (xs : List ℕ). slice_get xs c.args.place) (sym c.deref.ensures.value)
    ∙ slice_get_read list (length list) c.args.place c.in-Some.class.now refl c.in-Some.ensures.lookup.3.0 c.in-Some.ensures.lookup.1 in
    one_added c.args.warnings.now.items c.push.new.self.items c.in_ok-unneeded.field-0 (listed_warning (class_name_of c.args.name.now)) _
    c.in_ok-push.ensures.items c.in_ok-unneeded.ensures
    (judged_at a.program.now a.section.now c.args.place c.in-Some.class.now (class_name_of c.args.name.now) false some c.if-needs.ensures)
