use Rattle.std.specs.Prelude.{◌≡◌, List, length, slice_get, Some, None}
use Rattle.std.proofs.Common.{refl, sym, ap, ◌∙◌}
use Rattle.std.proofs.lemmas.Option.{slice_get_read, slice_get_past}
use Rattle.locks.specs.declared.path.LockPath.{LockPath}
use Rattle.lockpaths.specs.declared.table.SectionPaths.{SectionPaths}
use Rattle.runner.proofs.Asked.{no_section, no_path, of_path}
use Rattle.runner.proofs.asker.Asker.path.Goals as goal

pub returns-in_default-clause-none : goal.returns-in_default-clause-none
returns-in_default-clause-none c = λ locals.
    let a = c.args.self.now in
    let sections = c.deref.result.now in
    let none : slice_get c.paths.result.now.sections.items a.section ≡ None =
    ap (λ (xs : List SectionPaths). slice_get xs a.section) (sym c.deref.ensures.value)
    ∙ slice_get_past sections a.section c.in_default.ensures.lookup.3 in
    no_section a.program.now a.section locals c.args.number c.paths.result.now c.paths.ensures none

pub returns-in_default-get-clause-none : goal.returns-in_default-get-clause-none
returns-in_default-get-clause-none c = λ locals.
    let a = c.args.self.now in
    let sections = c.deref.result.now in
    let at : slice_get c.paths.result.now.sections.items a.section ≡ Some c.in-Some.paths.now =
    ap (λ (xs : List SectionPaths). slice_get xs a.section) (sym c.deref.ensures.value)
    ∙ slice_get_read sections (length sections) a.section c.in-Some.paths.now refl c.in-Some.ensures.lookup.3.0 c.in-Some.ensures.lookup.1 in
    let none : slice_get c.in-Some.paths.now.paths.items c.args.number ≡ None =
    ap (λ (xs : List LockPath). slice_get xs c.args.number) (sym c.deref-2.ensures.value)
    ∙ slice_get_past c.deref-2.result.now c.args.number c.in_default-get.ensures.lookup.3 in
    no_path a.program.now a.section locals c.args.number c.paths.result.now c.in-Some.paths.now c.paths.ensures at none

pub returns-clause-some : goal.returns-clause-some
returns-clause-some c = λ locals.
    let a = c.args.self.now in
    let sections = c.deref.result.now in
    let paths = c.deref-2.result.now in
    let path = c.in-Some-get.path.now in
    let at : slice_get c.paths.result.now.sections.items a.section ≡ Some c.in-Some.paths.now =
    ap (λ (xs : List SectionPaths). slice_get xs a.section) (sym c.deref.ensures.value)
    ∙ slice_get_read sections (length sections) a.section c.in-Some.paths.now refl c.in-Some.ensures.lookup.3.0 c.in-Some.ensures.lookup.1 in
    let some : slice_get c.in-Some.paths.now.paths.items c.args.number ≡ Some path =
    ap (λ (xs : List LockPath). slice_get xs c.args.number) (sym c.deref-2.ensures.value)
    ∙ slice_get_read paths (length paths) c.args.number path refl c.in-Some-get.ensures.lookup.3.0 c.in-Some-get.ensures.lookup.1 in
    of_path a.program.now a.section locals c.args.number c.paths.result.now c.in-Some.paths.now path c.paths.ensures at some
