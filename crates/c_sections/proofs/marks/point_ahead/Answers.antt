use Rattle.std.proofs.Common.{◌≡◌, ◌∙◌, ◌<◌, ◌-◌, ℕ, zero, suc, List, ap, arith}
use Rattle.code.specs.LineTables.{point_at}
use Rattle.c_sections.specs.Marks as text
use Rattle.c_sections.proofs.marks.point_ahead.Goals as goal

ahead : (begins : List ℕ) (place : ℕ) → 0 < place → point_at begins (place - 1) ≡ text.point_ahead begins place
ahead begins zero h = absurd (omega arith)
ahead begins (suc k) h = let e : suc k - 1 ≡ k = omega arith in ap (point_at begins) e

pub returns : goal.returns
returns c =
    let h : 0 < c.args.place = omega arith in
    c.point_at.ensures ∙ ahead c.args.code.now.begins.items c.args.place h
