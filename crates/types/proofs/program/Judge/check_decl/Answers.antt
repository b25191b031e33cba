use Rattle.std.proofs.Common.{◌≡◌, ap, sym, ◌∙◌, subst, OnOk}
use Rattle.std.specs.Prelude.{option_map}
use Rattle.syntax.specs.Trees.{Decl, struct}
use Rattle.syntax.specs.Views.{struct_of, decl_of}
use Rattle.resolution.specs.Working.Findings.{found_in}
use Rattle.core_lang.specs.Theory.Items.{some_same}
use Rattle.resolution.specs.Working.FaultLists.{decl_faults}
use Rattle.types_symbols.specs.Working.Views.{decls_of}
use Rattle.types.specs.Working.Grown.{built}
use Rattle.types.specs.Working.Whole.{extended_if}
use Rattle.types.proofs.Whole.{at_place, none_some}
use Rattle.types.proofs.program.Judge.check_decl.Goals as goal

pub unreachable-requires : goal.unreachable-requires
unreachable-requires c =
    none_some (struct_of c.in-Struct.field-0)
    (sym (ap (option_map (λ s. struct_of s.now)) c.in_default.is) ∙ at_place (decls_of c.args.self.now.builder.symbols.now) c.args.place c.number.result c.args.d.now c.in-Struct.field-0 _ c.requires c.in-Struct.is c.number.ensures c.structure.ensures)

pub returns-in-Some-clause-value : goal.returns-in-Some-clause-value
returns-in-Some-clause-value c =
    let same : struct_of c.in-Some.table.now ≡ struct_of c.in-Struct.field-0 =
    some_same _ _ (sym (ap (option_map (λ s. struct_of s.now)) c.in-Some.is) ∙ at_place (decls_of c.args.self.now.builder.symbols.now) c.args.place c.number.result c.args.d.now c.in-Struct.field-0 _ c.requires c.in-Struct.is c.number.ensures c.structure.ensures) in
    let P : Decl → Type 0 = λ d. OnOk c.check_struct.result (built c.check_struct.new.grown ≡ extended_if (decls_of c.args.self.now.builder.symbols.now) c.args.place (built c.args.grown.now) d) in
    subst P (ap struct same ∙ sym (ap decl_of c.in-Struct.is)) c.check_struct.ensures.value

pub returns-in-Some-clause-faults : goal.returns-in-Some-clause-faults
returns-in-Some-clause-faults c =
    let same : struct_of c.in-Some.table.now ≡ struct_of c.in-Struct.field-0 =
    some_same _ _ (sym (ap (option_map (λ s. struct_of s.now)) c.in-Some.is) ∙ at_place (decls_of c.args.self.now.builder.symbols.now) c.args.place c.number.result c.args.d.now c.in-Struct.field-0 _ c.requires c.in-Struct.is c.number.ensures c.structure.ensures) in
    let P : Decl → Type 0 = λ d. OnOk c.check_struct.result (c.check_struct.new.firsts ≡ found_in c.args.firsts.now (decl_faults (decls_of c.args.self.now.builder.symbols.now) c.args.place d)) in
    subst P (ap struct same ∙ sym (ap decl_of c.in-Struct.is)) c.check_struct.ensures.faults
