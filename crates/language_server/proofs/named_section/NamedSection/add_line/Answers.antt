use Rattle.std.proofs.Common.{◌∙◌, map, ap, refl, string_bytes}
use Rattle.std.specs.Cmp.Lexicographic.{slice_cmp}
use Rattle.std.specs.Ordering.{nat_cmp}
use Rattle.language_server.specs.Working.Lines.{told_lines}
use Rattle.language_server.proofs.Sorting.{one_more}
use Rattle.language_server.proofs.Telling.{one_line}
use Rattle.language_server.proofs.named_section.NamedSection.add_line.Goals as goal

pub returns : goal.returns
returns c =
    ap (map string_bytes) c.in_ok-insert.ensures.keys
    ∙ one_more string_bytes _ (slice_cmp nat_cmp) (λ a b. refl) c.args.found.now.keys c.in_ok-line.line
    ∙ one_line c.args.self.now.program.now c.args.self.now.section.now c.args.meant c.args.locks.held.now c.args.locks.taken.now _
    (told_lines c.args.found.now) c.if-not-meant.false c.in_ok-line.ensures
