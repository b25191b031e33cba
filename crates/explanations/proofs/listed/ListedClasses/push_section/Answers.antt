use Rattle.std.specs.Prelude.{◌≡◌, ◌<◌, List, length, slice_get, Some, None, map}
use Rattle.std.proofs.Common.{ℕ, refl, sym, ap, subst, ◌∙◌}
use Rattle.std.proofs.lemmas.Option.{slice_get_read, slice_get_past}
use Rattle.core_lang.specs.declared.tree.Section as core
use Rattle.syntax.specs.Views.{class_name_of, section_of}
use Rattle.syntax.specs.declared.tree.ClassName as written
use Rattle.explanations.specs.ListedClasses.{class_warnings}
use Rattle.explanations.proofs.Added.{added_as}
use Rattle.explanations.proofs.Listing.{section_at, none_added}
use Rattle.explanations.proofs.listed.ListedClasses.push_section.Goals as goal

pub returns-in_default : goal.returns-in_default
returns-in_default c =
    let program = c.args.self.now.program.now in
    let none : slice_get program.sections.items c.args.number ≡ None =
    ap (λ (xs : List core.Section). slice_get xs c.args.number) (sym c.deref.ensures.value)
    ∙ slice_get_past c.deref.result.now c.args.number c.in_default.ensures.lookup.3 in
    none_added c.args.warnings.now.items _ (section_at program c.args.number (section_of c.args.section.now) None none)

pub push_classes-requires : goal.push_classes-requires
push_classes-requires c =
    let number = c.args.number in
    let program = c.args.self.now.program.now in
    let found = c.args.self.now.paths.now.sections.items in
    let sections = c.deref.result.now in
    let typed = c.in-Some.typed.now in
    let some : slice_get program.sections.items number ≡ Some typed =
    ap (λ (xs : List core.Section). slice_get xs number) (sym c.deref.ensures.value)
    ∙ slice_get_read sections (length sections) number typed refl c.in-Some.ensures.lookup.3.0 c.in-Some.ensures.lookup.1 in
    let few : number < length found =
    subst (λ (n : ℕ). number < n) (ap length c.deref.ensures.value ∙ sym c.requires.sections) c.in-Some.ensures.lookup.3.0 in
    c.requires.each number typed c.index.result.now some
    (slice_get_read found (length found) number c.index.result.now refl few c.index.ensures)

pub returns : goal.returns
returns c =
    let program = c.args.self.now.program.now in
    let sections = c.deref.result.now in
    let typed = c.in-Some.typed.now in
    let some : slice_get program.sections.items c.args.number ≡ Some typed =
    ap (λ (xs : List core.Section). slice_get xs c.args.number) (sym c.deref.ensures.value)
    ∙ slice_get_read sections (length sections) c.args.number typed refl c.in-Some.ensures.lookup.3.0 c.in-Some.ensures.lookup.1 in
    added_as c.push_classes.result _ _ _ _
    (ap (λ (xs : List written.ClassName). class_warnings program typed 0 (map class_name_of xs)) c.deref-2.ensures.value
    ∙ sym (section_at program c.args.number (section_of c.args.section.now) (Some typed) some)) c.push_classes.ensures
