use Rattle.std.proofs.Common.{◌∙◌, ap, sym, Some}
use Rattle.syntax.specs.Views.{decl_of}
use Rattle.resolution.specs.Scopes.{the_decl}
use Rattle.types_symbols.specs.Working.Views.{decls_of}
use Rattle.types_symbols.specs.Theory.Steps.{found_as}
use Rattle.types_symbols.proofs.AnnotationNames.{class_alone, class_behind}
use Rattle.types_symbols.proofs.annotation.class_in.Goals as goal

pub returns-then-is_empty : goal.returns-then-is_empty
returns-then-is_empty c =
    let decls = decls_of c.args.symbols.now in
    let s = c.in-Some-default-Lock in
    ap Some c.class.ensures
    ∙ sym (class_alone decls _ s.place _ (found_as decl_of (the_decl decls) c.as_str.result.now _ c.as_str.ensures.value s.place s.field-0-1.now _ s.ensures s.field-0-1-is) c.args.rest.now c.is_empty.result c.is_empty.ensures c.if-is_empty.true)

pub returns-else-is_empty : goal.returns-else-is_empty
returns-else-is_empty c =
    let decls = decls_of c.args.symbols.now in
    let s = c.in-Some-default-Lock in
    sym (class_behind decls _ s.place _ (found_as decl_of (the_decl decls) c.as_str.result.now _ c.as_str.ensures.value s.place s.field-0-1.now _ s.ensures s.field-0-1-is) c.args.rest.now c.is_empty.result c.is_empty.ensures c.if-is_empty.false)
