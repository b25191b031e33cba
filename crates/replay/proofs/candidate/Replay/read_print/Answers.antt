use Rattle.std.proofs.Common.{rules, arith, ◌≡◌, ◌∙◌, ◌++◌, sym, ap, refl, List, ℕ, to_z, of_z, w64}
use Rattle.std.proofs.lemmas.Int.{ints, to_z-of_z}
use Rattle.report.specs.History.{print_line}
use Rattle.replay.proofs.Findings.{other_due}
use Rattle.replay.proofs.Naming.{due_names_none}
use Rattle.replay.proofs.Steps.{reads_so, reads_otherwise, print_due, print_came}
use Rattle.replay.proofs.candidate.Replay.read_print.Goals as goal

pub returns-then-not-is_print-clause-reads : goal.returns-then-not-is_print-clause-reads
returns-then-not-is_print-clause-reads c reader is =
    let number = c.index.result.now in
    let same : to_z w64 (of_z w64 number) ≡ number = first_of (search (rules, ints, to_z-of_z), grind (arith, ints, to_z-of_z)) in
    let word : c.as_str.result.now ≡ print_line number =
    c.as_str.ensures.value ∙ c.in_ok-push_print.ensures ∙ ap (λ (b : List ℕ). b ++ print_line (to_z w64 (of_z w64 number))) c.clear.ensures.bytes
    ∙ ap print_line same in
    other_due c.args.self.now.turns c.args.self.now.callers c.args.self.now.format c.args.self.now.program.now reader c.args.line.now (print_line number) _
    (print_due c.args.self.now.program.now c.args.at.now reader is number c.requires.stage c.requires.due c.index.ensures)
    (λ same_line. reads_otherwise c.args.line.now c.as_str.result.now (sym c.is-is_print.ensures ∙ c.if-not-is_print.true) (same_line ∙ sym word))

pub returns-clause-reads : goal.returns-clause-reads
returns-clause-reads c reader is =
    let number = c.index.result.now in
    let same : to_z w64 (of_z w64 number) ≡ number = first_of (search (rules, ints, to_z-of_z), grind (arith, ints, to_z-of_z)) in
    let word : c.as_str.result.now ≡ print_line number =
    c.as_str.ensures.value ∙ c.in_ok-push_print.ensures ∙ ap (λ (b : List ℕ). b ++ print_line (to_z w64 (of_z w64 number))) c.clear.ensures.bytes
    ∙ ap print_line same in
    print_came c.args.self.now.turns c.args.self.now.callers c.args.self.now.format c.args.self.now.program.now c.args.at.now reader number c.args.line.now is c.requires.stage c.requires.due c.index.ensures
    (reads_so c.args.line.now c.as_str.result.now (sym c.is-is_print.ensures ∙ c.if-not-is_print.false) ∙ word)

pub returns-then-not-is_print-clause-leaves : goal.returns-then-not-is_print-clause-leaves
returns-then-not-is_print-clause-leaves c = record {
  same = refl;
  names = λ reader is.
      due_names_none c.args.self.now.callers c.args.self.now.format c.args.self.now.program.now reader c.args.line.now (print_line c.index.result.now) _
      (print_due c.args.self.now.program.now c.args.at.now reader is c.index.result.now c.requires.stage c.requires.due c.index.ensures);
}
