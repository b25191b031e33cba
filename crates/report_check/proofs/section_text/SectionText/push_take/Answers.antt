use Rattle.std.proofs.Common.{◌≡◌, ◌++◌, ◌∷◌, [], ℕ, List, Option, Some, None, Bor, false, length, ap, sym, ◌∙◌}
use Rattle.std.proofs.Common.{append-nil, append_assoc, true≢false}
use Rattle.std.specs.Prelude.{codes, ◌==◌}
use Rattle.std.proofs.lemmas.Result.{on_ok_weaker}
use Rattle.source.specs.Faults.{line_of, column_of}
use Rattle.core_lang.specs.declared.tree.Section.{Section}
use Rattle.core_lang.specs.declared.typed.Typed.{Typed}
use Rattle.rope.specs.Working.Ropes.{RopeOf, rope_text, AddsTo}
use Rattle.code.specs.Listing.{paths_text}
use Rattle.code.specs.LineTables.{position_text}
use Rattle.report_check.specs.declared.sources.Sources.{Sources}
use Rattle.report_check.specs.Sources.{source_line}
use Rattle.report_check.specs.Working.Values.{AreOf, at_text_of, line_text_of, take_by}
use Rattle.report_check.proofs.section_text.SectionText.push_take.Goals as goal

-- one text after another
both : (a b c : RopeOf) (p q : List ℕ) → AddsTo p a b → AddsTo q b c → AddsTo (p ++ q) a c
both a b c p q first second = (
  second.0 ∙ ap (λ (t : List ℕ). t ++ q) first.0 ∙ append_assoc (rope_text a) p q,
  second.1 ∙ first.1,
)

-- the line of a list that is not empty
line_is : (sources : Option (Bor Sources)) (text : List ℕ) (program : Typed) (section : Section) (start : ℕ)
    (list : List ℕ) →
    AreOf text sources → (length list == 0) ≡ false →
    at_text_of text sources start ++ codes " take" ++ paths_text program section list ++ codes "\n"
    ++ line_text_of sources start
    ≡ take_by sources text program section start list
line_is None text program section start [] of some = absurd (true≢false some)
line_is None text program section start (i ∷ is) of some =
    let place = codes "at " ++ position_text (line_of text start) (column_of text start) in
    let behind = λ (at : List ℕ). at ++ codes " take" ++ paths_text program section (i ∷ is) ++ codes "\n" in
    append-nil (behind (place ++ [])) ∙ ap behind (append-nil place)
line_is (Some s) text program section start [] of some = absurd (true≢false some)
line_is (Some s) text program section start (i ∷ is) of some =
    let before = at_text_of text (Some s) start ++ codes " take" ++ paths_text program section (i ∷ is) ++ codes "\n" in
    ap (λ (t : List ℕ). before ++ source_line t start) of

pub returns-clause-line : goal.returns-clause-line
returns-clause-line c =
    let x = c.args.self.now in
    let text = c.args.cursor.now.text.now in
    let start = c.args.start in
    let list = c.args.list.now in
    let at = at_text_of text x.sources start in
    let paths = paths_text x.program.now x.section.now list in
    let old = c.args.out.now in
    let r1 = c.push_at.new.out in
    let r2 = c.push_str.new.self in
    let r3 = c.push_taken.new.out in
    let r4 = c.push_str-2.new.self in
    let word = both old r1 r2 at (codes " take") c.in_ok-push_at.ensures.at c.in_ok-push_str.ensures in
    let taken = both old r2 r3 (at ++ codes " take") paths word c.in_ok-push_taken.ensures in
    let ended = both old r3 r4 (at ++ codes " take" ++ paths) (codes "\n") taken c.in_ok-push_str-2.ensures in
    let some = sym c.is_empty.ensures ∙ c.if-is_empty.false in
    let is = line_is x.sources text x.program.now x.section.now start list c.requires.of_text some in
    on_ok_weaker c.push_line.result
    (λ last.
    let behind = line_text_of x.sources start in
    let all = both old r4 c.push_line.new.out (at ++ codes " take" ++ paths ++ codes "\n") behind ended last in
    (all.0 ∙ ap (λ (t : List ℕ). rope_text old ++ t) is, all.1))
    c.push_line.ensures
