use Rattle.std.proofs.Common.{◌∙◌, ◌++◌, length, string_bytes, ap}
use Rattle.std.specs.Prelude.{codes}
use Rattle.c_sections.specs.Instructions.{prints}
use Rattle.c_sections.specs.Sections.{prototype_text, uses, begun_text}
use Rattle.c_sections.specs.Working.Prototypes.{declarations_of, code_of}
use Rattle.c_statements.specs.Theory.Chains.{more}
use Rattle.c_sections.proofs.names.Writer.push_front.Goals as goal

pub returns : goal.returns
returns c =
    let x = c.args.self.now in
    let section = c.args.listed.section.now in
    let old = string_bytes c.args.out.now in
    let a = prototype_text x.prefix.now x.program.now section (prints (code_of c.args.listed)) in
    let b = codes "\n{\n" in
    let d = declarations_of x c.args.listed in
    let u = uses section (length c.args.listed.paths.now) in
    let h = begun_text x.prefix.now section (prints (code_of c.args.listed)) in
    let m1 = string_bytes c.push_prototype.new.out in
    let m2 = string_bytes c.push_str.new.self in
    let m3 = string_bytes c.push_declarations.new.out in
    let m4 = string_bytes c.push_uses.new.out in
    let m5 = string_bytes c.push_begun.new.out in
    let printed = c.prints-printed.ensures ∙ ap prints c.deref.ensures.value in
    more old (a ++ b ++ d ++ u) h m4 m5 (more old (a ++ b ++ d) u m3 m4 (more old (a ++ b) d m2 m3
    (more old a b m1 m2 (c.in_ok-push_prototype.ensures ∙ ap (λ p. old ++ prototype_text x.prefix.now x.program.now section p) printed)
    c.in_ok-push_str.ensures.bytes) c.in_ok-push_declarations.ensures) c.in_ok-push_uses.ensures)
    (c.in_ok-push_begun.ensures ∙ ap (λ p. m4 ++ begun_text x.prefix.now section p) printed)
