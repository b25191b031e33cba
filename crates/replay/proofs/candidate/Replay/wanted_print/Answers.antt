use Rattle.std.proofs.Common.{rules, arith, ◌≡◌, ◌∙◌, ◌+◌, ◌∷◌, ◌++◌, drop, sym, ap, List, ℕ, string_bytes, to_z}
use Rattle.std.proofs.Common.{of_z, w64}
use Rattle.std.proofs.lemmas.Int.{ints, to_z-of_z}
use Rattle.report.specs.History.{print_line}
use Rattle.replay.specs.Readers.{print_lines}
use Rattle.replay.proofs.Findings.{due_comes}
use Rattle.replay.proofs.Steps.{print_due}
use Rattle.replay.proofs.candidate.Replay.wanted_print.Goals as goal

pub returns : goal.returns
returns c line reader lines first is none =
    let number = c.index.result.now in
    let same : to_z w64 (of_z w64 number) ≡ number = first_of (search (rules, ints, to_z-of_z), grind (arith, ints, to_z-of_z)) in
    let word : string_bytes c.push_print.new.out ≡ print_line number =
    c.in_ok-push_print.ensures ∙ ap (λ (b : List ℕ). b ++ print_line (to_z w64 (of_z w64 number))) c.new-line.ensures.bytes ∙ ap print_line same in
    let more = print_lines (drop (c.args.at.now.told + 1) c.args.at.now.prints.items) in
    let due = print_due c.args.self.now.program.now c.args.at.now reader is number c.requires.stage c.requires.due c.index.ensures in (
      (
        _,
        due_comes c.args.self.now.turns c.args.self.now.callers c.args.self.now.format c.args.self.now.program.now reader (string_bytes c.push_print.new.out) more
            (due ∙ ap (λ (text : List ℕ). text ∷ more) (sym word)),
      ),
      λ call begun names. absurd (none call begun names),
      λ among named. let e = sym among.none_due ∙ due in absurd (cc),
    )
