use Rattle.std.proofs.Common.{◌∙◌, List, Option, ap, refl, subst, sym, ℕ}
use Rattle.std.proofs.lemmas.Result.{IfOk-weaker}
use Rattle.report_runs.specs.ExpectationTexts.{said_of}
use Rattle.report_runs.specs.ExpectationCells.{names_of}
use Rattle.code.specs.Listing.{line}
use Rattle.driver.specs.Outcomes.{AreExpectedNames, is_expected, unknown_cell, unknown_named}
use Rattle.driver.proofs.exploring.Exploring.expecting.Goals as goal

pub returns-in-Err-Unknown : goal.returns-in-Err-Unknown
returns-in-Err-Unknown c =
    let names = names_of (said_of c.in-Ok.expectation) in
    let bad = rw (c.in-Err-Unknown.is, c.in-Err-Unknown.field-0-is, c.program.ensures) at c.in_ok-comparison.ensures in
    IfOk-weaker c.unknown_cell.result _ _
    (λ answer is. unknown_named (record {
      names = names;
      expected = subst (λ (o : Option (List ℕ)). AreExpectedNames o names) (sym c.requires.text) (said_of c.in-Ok.expectation, c.in-Ok.ensures, refl);
      name = bad.0;
      first = is_expected bad.1 bad.2.1;
      ended = is.0;
      written = is.1;
      told = is.2 ∙ ap (λ (n : List ℕ). line (unknown_cell n)) bad.2.0;
    }))
    c.unknown_cell.ensures
