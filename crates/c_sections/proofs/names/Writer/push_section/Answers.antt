use Rattle.std.proofs.Common.{◌≡◌, ◌∙◌, ◌++◌, ℕ, List, Option, map, length, string_bytes, sym, ap, subst}
use Rattle.std.specs.List.Sorted.{IsNonDecreasing}
use Rattle.std.specs.Prelude.{codes}
use Rattle.std.proofs.lemmas.List.{length-map}
use Rattle.core_lang.specs.declared.typed.Typed.{Typed}
use Rattle.core_lang.specs.declared.tree.Section.{Section}
use Rattle.locks.specs.LockPaths.{LockPath, lock_path_of, lock_paths}
use Rattle.code.specs.Lowering.{section_code}
use Rattle.code.specs.Working.Asked.{lists_of}
use Rattle.code.specs.declared.instr.Instr.{Instr}
use Rattle.code.specs.declared.listed.Listed.{Listed}
use Rattle.c_language.specs.Plans.{IsPlan, plan}
use Rattle.c_sections.specs.declared.instructions.InstructionLines.{InstructionLines}
use Rattle.c_sections.specs.declared.marks.LineMarks.{LineMarks}
use Rattle.c_sections.specs.Instructions.{prints, body_text}
use Rattle.c_sections.specs.Sections.{front_text, end_text, checks, text_of, section_text}
use Rattle.c_sections.specs.Working.Bodies as body
use Rattle.c_sections.specs.Working.Marked.{marks_of}
use Rattle.c_sections.specs.Working.Prototypes.{front_of, code_of}
use Rattle.c_statements.specs.Theory.Chains.{more}
use Rattle.c_sections.proofs.names.Writer.push_section.Goals as goal

has_plan : (program : Typed) (code : List Instr) (lists : List (List ℕ)) (section : Section) → code ≡ section_code lists section →
    IsPlan program (section_code lists section) (plan program (section_code lists section)) → IsPlan program code (plan program code)
has_plan program code lists section is law = subst (λ (is : List Instr). IsPlan program is (plan program is)) (sym is) law

lines_plan : (program : Typed) (listed : Listed) (x : InstructionLines) → body.IsBodyOf program listed x →
    IsPlan program (code_of listed) (plan program (code_of listed)) → IsPlan (body.program_of x) (body.code_of x) (plan (body.program_of x) (body.code_of x))
lines_plan program listed x b law =
    subst (λ (p : Typed). IsPlan p (body.code_of x) (plan p (body.code_of x))) (sym b.program_is)
    (subst (λ (l : Listed). IsPlan program (code_of l) (plan program (code_of l))) (sym b.listed_is) law)

lines_text : (marks : Option LineMarks) (program : Typed) (listed : Listed) (x : InstructionLines) → body.IsBodyOf program listed x →
    body.body_of x (marks_of marks x.listed.code.now)
    ≡ body_text program listed.section.now (lists_of listed) (map lock_path_of listed.paths.now) (marks_of marks listed.code.now) (code_of listed)
lines_text marks program listed x b =
    let written = λ (p : Typed) (s : Section) (l : Listed).
    body_text p s (lists_of l) (map lock_path_of l.paths.now) (marks_of marks l.code.now) (code_of l) in
    ap (λ p. written p x.scope.section.now x.listed) b.program_is
    ∙ ap (λ s. written program s x.listed) b.section_is
    ∙ ap (λ (l : Listed). written program listed.section.now l) b.listed_is

-- the section's text, by its code and its lock paths
is_text : (prefix : List ℕ) (program : Typed) (section : Section) (lists : List (List ℕ)) (mark : Option (ℕ → List ℕ)) (code : List Instr)
    (paths : List LockPath) (n : ℕ) → n ≡ length paths → code ≡ section_code lists section → paths ≡ lock_paths program section →
    front_text prefix program section code n ++ end_text program section (prints code) paths ++ checks prefix program section
    ++ body_text program section lists paths mark code ++ codes "}\n" ≡ section_text prefix program section lists mark
is_text prefix program section lists mark code paths n count is all =
    ap (λ k. front_text prefix program section code k ++ end_text program section (prints code) paths ++ checks prefix program section
    ++ body_text program section lists paths mark code ++ codes "}\n") count
    ∙ ap (λ c. text_of prefix program section lists c paths mark) is
    ∙ ap (λ ps. text_of prefix program section lists (section_code lists section) ps mark) all

pub push_front-requires : goal.push_front-requires
push_front-requires c =
    let program = c.args.self.now.program.now in
    let listed = c.args.listed in
    let lists = lists_of listed in
    has_plan program (code_of listed) lists listed.section.now c.requires.code (c.sections_have_plans.ensures program lists listed.section.now)

pub push-requires-clause-plan : goal.push-requires-clause-plan
push-requires-clause-plan c =
    let program = c.args.self.now.program.now in
    let listed = c.args.listed in
    let lists = lists_of listed in
    lines_plan program listed c.in_ok-lines.lines c.in_ok-lines.ensures.body
    (has_plan program (code_of listed) lists listed.section.now c.requires.code (c.sections_have_plans.ensures program lists listed.section.now))

pub push-requires-clause-rises : goal.push-requires-clause-rises
push-requires-clause-rises c =
    subst (λ (l : Listed). IsNonDecreasing l.code.now.begins.items) (sym c.in_ok-lines.ensures.body.listed_is) c.requires.rises

pub returns : goal.returns
returns c =
    let x = c.args.self.now in
    let program = x.program.now in
    let listed = c.args.listed in
    let lines = c.in_ok-lines.lines in
    let n = length listed.paths.now in
    let paths = map lock_path_of listed.paths.now in
    let mark = marks_of c.args.marks listed.code.now in
    let old = string_bytes c.args.out.now in
    let a = front_of x listed in
    let z = end_text program listed.section.now (prints (code_of listed)) paths in
    let t = checks x.prefix.now program listed.section.now in
    let b = body_text program listed.section.now (lists_of listed) paths mark (code_of listed) in
    let m1 = string_bytes c.push_front.new.out in
    let m2 = string_bytes c.push_end.new.out in
    let m3 = string_bytes c.push_checks.new.out in
    let m4 = string_bytes c.push.new.out in
    let new = string_bytes c.push_str.new.self in
    let whole : new ≡ old ++ (a ++ z ++ t ++ b ++ codes "}\n") =
    more old (a ++ z ++ t ++ b) (codes "}\n") m4 new
    (more old (a ++ z ++ t) b m3 m4
    (more old (a ++ z) t m2 m3
    (more old a z m1 m2 c.in_ok-push_front.ensures
    (c.in_ok-push_end.ensures
    ∙ ap (λ p. m1 ++ end_text program listed.section.now p paths) (c.prints-printed.ensures ∙ ap prints c.deref.ensures.value)))
    c.in_ok-push_checks.ensures)
    (c.in_ok-push.ensures ∙ ap (λ t. m3 ++ t) (lines_text c.args.marks program listed lines c.in_ok-lines.ensures.body)))
    c.in_ok-push_str.ensures.bytes in
    whole ∙ ap (λ t. old ++ t)
    (is_text x.prefix.now program listed.section.now (lists_of listed) mark (code_of listed) paths n
    (sym (length-map listed.paths.now lock_path_of)) c.requires.code c.requires.paths)
