use Rattle.std.proofs.Common.{◌∙◌, List, Some, Option, ap, sym}
use Rattle.std.specs.Prelude.{map}
use Rattle.syntax.specs.declared.tree.Name.{Name}
use Rattle.syntax.specs.declared.tree.Protection as rust
use Rattle.syntax.specs.Views.{ident, option_of, protection_of as protection_view}
use Rattle.resolution.specs.Working.Findings.{found_in}
use Rattle.resolution.specs.Annotations.{AnnotationCursor, cursor_at}
use Rattle.resolution.specs.Working.FaultLists.{along_faults, protection_faults}
use Rattle.resolution.specs.Scopes.{the_member}
use Rattle.types_symbols.specs.Theory.Steps.{on_ok_by}
use Rattle.types_symbols.specs.Working.Views.{decls_of, members_seen}
use Rattle.types_symbols.proofs.AnnotationNames.{seen_some, faults_own}
use Rattle.types_symbols.proofs.annotation.FieldAnnotations.report.Goals as goal

pub returns-then-is_some : goal.returns-then-is_some
returns-then-is_some c =
    let decls = decls_of c.args.self.now.symbols.now in
    let place = c.args.self.now.place in
    let ms = members_seen c.args.self.now.structure.now in
    let p = c.in-Some.p in
    let x = ident p.first in
    let named = seen_some _ c.find.result (the_member ms x.text) (c.find.ensures ∙ ap (the_member ms) c.as_str.ensures.value) (sym c.is_some.ensures ∙ c.if-is_some.true) in
    let same =
    ap (λ (own : AnnotationCursor). along_faults decls p.first.start (Some own) x (map ident c.deref.result.now)) c.own.ensures
    ∙ ap (λ (ys : List Name). along_faults decls p.first.start (Some (cursor_at place ms)) x (map ident ys)) c.deref.ensures.value
    ∙ sym (faults_own decls (cursor_at place ms) (protection_view p) (the_member ms x.text) named)
    ∙ ap (λ (o : Option rust.Protection). protection_faults decls place ms c.args.name.now.start (option_of protection_view o)) (sym c.in-Some.is) in
    on_ok_by c.report_along.result (λ e. e ∙ ap (found_in c.args.firsts.now) same) c.report_along.ensures
