use Rattle.std.proofs.Common.{◌∙◌, ap, sym}
use Rattle.syntax.specs.Views.{decl_of}
use Rattle.resolution.specs.Working.Findings.{found_in}
use Rattle.resolution.specs.Scopes.{the_decl}
use Rattle.types_symbols.specs.Working.Views.{decls_of}
use Rattle.types_symbols.specs.Theory.Steps.{found_as}
use Rattle.types_symbols.proofs.AnnotationNames.{lock_alone, lock_behind}
use Rattle.types_symbols.proofs.annotation.report_global_lock.Goals as goal

pub returns-then-not-is_empty : goal.returns-then-not-is_empty
returns-then-not-is_empty c =
    let decls = decls_of c.args.symbols.now in
    let s = c.in-Some-default-Lock in
    c.report-then-not-is_empty.ensures
    ∙ sym (ap (found_in c.args.firsts.now) (lock_behind decls _ s.field-0-0 _ (found_as decl_of (the_decl decls) c.as_str.result.now _ c.as_str.ensures.value s.field-0-0 s.field-0-1.now _ s.ensures s.field-0-1-is) c.args.first.now.start c.args.rest.now c.is_empty.result c.is_empty.ensures c.if-not-is_empty.true))

pub returns-else-not-is_empty : goal.returns-else-not-is_empty
returns-else-not-is_empty c =
    let decls = decls_of c.args.symbols.now in
    let s = c.in-Some-default-Lock in
    sym (ap (found_in c.args.firsts.now) (lock_alone decls _ s.field-0-0 _ (found_as decl_of (the_decl decls) c.as_str.result.now _ c.as_str.ensures.value s.field-0-0 s.field-0-1.now _ s.ensures s.field-0-1-is) c.args.first.now.start c.args.rest.now c.is_empty.result c.is_empty.ensures c.if-not-is_empty.false))
