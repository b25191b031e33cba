use Rattle.std.proofs.Common.{◌∙◌, sym, ap}
use Rattle.syntax.specs.Trees.{Struct}
use Rattle.syntax.specs.Views.{decl_of, struct_of}
use Rattle.types_symbols.specs.Working.Views.{decls_of}
use Rattle.explanation_names.specs.FirstBy.{first_by}
use Rattle.explanation_names.specs.Working.PassedFound.{met_for, met_of}
use Rattle.explanation_names.proofs.Structs.{struct_found, struct_missed}
use Rattle.explanation_names.proofs.passed_members.passed_of.Goals as goal

pub returns-in-Some : goal.returns-in-Some
returns-in-Some c =
    let decls = decls_of c.args.symbols.now in
    let same = struct_found decls c.args.place c.number.result c.args.decl.now c.in-Struct.field-0 c.requires c.in-Struct.is c.number.ensures
    (struct_of c.in-Some.structure.now) c.in-Some.ensures in
    c.passed_in.ensures
    ∙ ap (λ (s : Struct). first_by (met_for c.args.sought decls s.members) s.members) same
    ∙ ap (λ d. met_of c.args.sought decls (decl_of d)) (sym c.in-Struct.is)

pub returns-in-None : goal.returns-in-None
returns-in-None c =
    absurd (struct_missed (decls_of c.args.symbols.now) c.args.place c.number.result c.args.decl.now c.in-Struct.field-0 c.requires c.in-Struct.is c.number.ensures
    c.in-None.ensures)
