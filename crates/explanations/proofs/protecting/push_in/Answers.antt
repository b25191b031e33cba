use Rattle.std.proofs.Common.{◌∙◌, List, ap, map, sym}
use Rattle.std.specs.List.{flat_map}
use Rattle.syntax.specs.Trees.{Struct}
use Rattle.syntax.specs.Views.{decl_of, member_of, struct_of}
use Rattle.syntax.specs.declared.tree.Decl as written
use Rattle.syntax.specs.declared.tree.Member as written_member
use Rattle.syntax.specs.declared.tree.Struct as written_struct
use Rattle.types_symbols.specs.Working.Views.{decls_of, members_seen}
use Rattle.explanations.specs.Working.Found.{class_for, classes_for, classes_in_struct}
use Rattle.explanations.proofs.Added.{added_as}
use Rattle.explanations.proofs.Structs.{struct_found, struct_missed}
use Rattle.explanations.proofs.protecting.push_in.Goals as goal

pub returns-in_default-structure : goal.returns-in_default-structure
returns-in_default-structure c =
    absurd (struct_missed (decls_of c.args.symbols.now) c.args.place c.number.result c.args.decl.now c.in-Struct.field-0 c.requires c.in-Struct.is c.number.ensures
    c.in_default-structure.ensures)

pub returns : goal.returns
returns c =
    let decls = decls_of c.args.symbols.now in
    let here = c.in-Some.structure.now in
    let same = struct_found decls c.args.place c.number.result c.args.decl.now c.in-Struct.field-0 c.requires c.in-Struct.is c.number.ensures (struct_of here) c.in-Some.ensures in
    added_as c.push_for_all.result _ _ _ _
    (ap (λ (ms : List written_member.Member). flat_map (class_for decls c.args.place (members_seen here)) (map member_of ms)) (c.deref.ensures.value ∙ ap (λ (s : written_struct.Struct). s.members.items) c.item.ensures)
    ∙ ap (λ (s : Struct). classes_for decls c.args.place s.members) same
    ∙ ap (λ (d : written.Decl). classes_in_struct decls c.args.place (decl_of d)) (sym c.in-Struct.is))
    c.push_for_all.ensures
