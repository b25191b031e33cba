use Rattle.std.proofs.Common.{◌∙◌, ap}
use Rattle.syntax.specs.Views.{ident}
use Rattle.resolution.specs.Working.Findings.{found_in}
use Rattle.types_symbols.specs.Working.Views.{decls_of, decl_named}
use Rattle.types_symbols.proofs.ListedNames.{faults_of_struct, faults_by_struct}
use Rattle.types_symbols.proofs.listed.report_lock_name.Goals as goal

pub returns : goal.returns
returns c =
    let decls = decls_of c.args.symbols.now in
    let y = ident c.args.class.now.lock in
    c.report_no_lock.ensures
    ∙ ap (found_in c.args.firsts.now) (ap (faults_of_struct decls y) c.in-Some.ensures ∙ faults_by_struct decls y (decl_named c.args.symbols.now c.args.class.now.structure))

pub returns-in_default : goal.returns-in_default
returns-in_default c =
    let decls = decls_of c.args.symbols.now in
    let y = ident c.args.class.now.lock in
    ap (found_in c.args.firsts.now) (ap (faults_of_struct decls y) c.in_default.ensures ∙ faults_by_struct decls y (decl_named c.args.symbols.now c.args.class.now.structure))
