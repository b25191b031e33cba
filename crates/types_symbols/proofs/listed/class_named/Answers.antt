use Rattle.std.proofs.Common.{◌∙◌, ap}
use Rattle.syntax.specs.Views.{ident}
use Rattle.types_symbols.specs.Working.Views.{decls_of, decl_named}
use Rattle.types_symbols.proofs.ListedNames.{class_of_struct, class_by_struct}
use Rattle.types_symbols.proofs.listed.class_named.Goals as goal

pub returns : goal.returns
returns c =
    let decls = decls_of c.args.symbols.now in
    let y = ident c.args.class.now.lock in
    c.class_in.ensures ∙ ap (class_of_struct decls y) c.in_ok-place.ensures ∙ class_by_struct decls y (decl_named c.args.symbols.now c.args.class.now.structure)

pub returns-in_err-place : goal.returns-in_err-place
returns-in_err-place c =
    let decls = decls_of c.args.symbols.now in
    let y = ident c.args.class.now.lock in
    rw c.from_residual.ensures (ap (class_of_struct decls y) c.in_err-place.ensures ∙ class_by_struct decls y (decl_named c.args.symbols.now c.args.class.now.structure))
