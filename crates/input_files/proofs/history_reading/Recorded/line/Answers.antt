use Rattle.std.proofs.Common.{◌≡◌, ◌∙◌, add-one, ap, arith, refl, slice_get, subst, sym, List, ℕ, Some}
use Rattle.input_files.specs.Histories.{recorded_lines}
use Rattle.input_files.proofs.ReadingLemmas.{at_rest, none_further, rest_further}
use Rattle.input_files.proofs.history_reading.Recorded.line.Goals as goal

pub returns-in-None : goal.returns-in-None
returns-in-None c =
    none_further (recorded_lines c.args.self.now) c.loop-passed._passed c.args.number
    (c.loop-passed.invariant ∙ c.in-None.ensures.none refl) (omega (arith, c.loop-passed-test.true))

pub loop-passed-preserved : goal.loop-passed-preserved
loop-passed-preserved c =
    rw (add-one c.loop-passed._passed)
    (rest_further (recorded_lines c.args.self.now) c.loop-passed._passed _ _ (c.loop-passed.invariant ∙ c.in-Some.ensures.some))

pub returns-in-Some-next_line : goal.returns-in-Some-next_line
returns-in-Some-next_line c =
    let here : c.loop-passed._passed ≡ c.args.number = omega (arith, c.loop-passed-test.false, c.loop-passed.auto._passed-end) in
    subst (λ n. Some c.in-Some-next_line.line.now ≡ slice_get (recorded_lines c.args.self.now) n) here
    (sym (at_rest (recorded_lines c.args.self.now) c.loop-passed._passed
    ∙ ap (λ (xs : List (List ℕ)). slice_get xs 0) (c.loop-passed.invariant ∙ c.in-Some-next_line.ensures.some)))

pub returns-in-None-next_line : goal.returns-in-None-next_line
returns-in-None-next_line c =
    none_further (recorded_lines c.args.self.now) c.loop-passed._passed c.args.number
    (c.loop-passed.invariant ∙ c.in-None-next_line.ensures.none refl) (omega (arith, c.loop-passed.auto._passed-end))
