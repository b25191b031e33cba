use Rattle.std.proofs.Common.{◌∙◌, ◌++◌, ℕ, List, string_bytes, ap}
use Rattle.std.specs.Prelude.{codes}
use Rattle.std.specs.Fmt.{decimal}
use Rattle.locks.specs.Theory.Written.{piece_added}
use Rattle.c_statements.specs.Theory.Chains.{then, more}
use Rattle.c_sections.specs.Sections.{release_text}
use Rattle.c_sections.proofs.Lines.{tested_line}
use Rattle.c_sections.proofs.releases.push_unlock.Goals as goal

pub returns : goal.returns
returns c =
    let path = c.args.path.now in
    let old = string_bytes c.args.out.now in
    let d = decimal c.args.number in
    let a = codes "  if (h[" ++ (d ++ codes "] != NULL) ") in
    let r = release_text c.args.program.now c.args.number path.class path.root in
    let m1 = string_bytes c.write.new.self in
    let m2 = string_bytes c.push_release.new.out in
    let new = string_bytes c.push_str.new.self in
    then c.push_str.result (piece_added c.push_str.result new m2 (codes "\n") c.push_str.ensures.bytes)
    (λ e. more old (a ++ r) (codes "\n") m2 new (more old a r m1 m2 c.in_ok-write.ensures.bytes c.in_ok-push_release.ensures) e
    ∙ ap (λ (t : List ℕ). old ++ t)
    (tested_line (codes "  ") (codes "if (") (codes "h[") d (codes "]") (codes " != NULL) ") r (codes "\n")))
