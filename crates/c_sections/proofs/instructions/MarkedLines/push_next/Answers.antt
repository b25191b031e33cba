use Rattle.std.proofs.Common.{◌≡◌, ◌∙◌, ◌<◌, ◌++◌, ◌∷◌, [], ℕ, zero, suc, List, length, string_bytes, refl, ap, append_assoc, arith}
use Rattle.code.specs.declared.instr.Instr.{Instr}
use Rattle.code.specs.Listing.{text_at}
use Rattle.code.specs.Working.Asked.{lists_of}
use Rattle.c_sections.specs.Instructions as text
use Rattle.c_sections.specs.Marks.{flat}
use Rattle.c_sections.specs.Working.Bodies.{begins_of, code_of, instr_of, paths_of, program_of}
use Rattle.c_sections.specs.Working.Marked.{mark_in}
use Rattle.c_sections.proofs.instructions.MarkedLines.push_next.Goals as goal

-- the text of the instruction at a place, after another and in one line
marked_there : (mark : List ℕ) (text : Instr → List ℕ) (code : List Instr) (place : ℕ) → place < length code →
    mark ++ flat (text_at text code place) ≡ text_at (λ i. mark ++ flat (text i)) code place
marked_there mark text [] place h = absurd (omega arith)
marked_there mark text (i ∷ is) zero h = refl
marked_there mark text (i ∷ is) (suc place) h = let less : place < length is = omega arith in marked_there mark text is place less

pub returns-clause-text : goal.returns-clause-text
returns-clause-text c =
    let x = c.args.self.now.lines.now in
    let place = c.args.place in
    let old = string_bytes c.args.out.now in
    let mark = mark_in c.args.self.now.marks (begins_of x) place in
    let written = text.instr_text (program_of x) x.scope.section.now (lists_of x.listed) (paths_of x) (code_of x) place in
    let line = c.deref.ensures ∙ c.in_ok-push_next.ensures.text ∙ ap (λ b. b ++ instr_of x place) c.new-line.ensures.bytes in
    c.in_ok-push_flat.ensures ∙ ap (λ t. t ++ flat c.deref.result.now) c.in_ok-push.ensures
    ∙ append_assoc old mark (flat c.deref.result.now) ∙ ap (λ t. old ++ (mark ++ flat t)) line
    ∙ ap (λ t. old ++ t) (marked_there mark written (code_of x) place c.requires.within)
