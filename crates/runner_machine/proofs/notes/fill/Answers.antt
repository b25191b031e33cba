use Rattle.std.proofs.Common.{◌≡◌, ◌≤◌, ◌<◌, ◌++◌, ◌+◌, ◌∷◌, [], ℕ, List, length, ap, sym, ◌∙◌, arith, rules, length-append}
use Rattle.runner_machine.proofs.Padded.{one_zero_more}
use Rattle.runner_machine.proofs.notes.fill.Goals as goal

pub loop-marks-preserved : goal.loop-marks-preserved
loop-marks-preserved c =
    let pushed : c.push.new.self.items ≡ c.loop-marks.marks.items ++ 0 ∷ [] = search rules in
    let long : length c.push.new.self.items ≡ length c.loop-marks.marks.items + 1 = ap length pushed ∙ length-append c.loop-marks.marks.items (0 ∷ []) in
    record {
      stored = (c.loop-marks.invariant.stored.0 + 1, pushed ∙ one_zero_more c.args.marks.now.items c.loop-marks.marks.items c.loop-marks.invariant.stored.0 c.loop-marks.invariant.stored.1);
      within = λ most le lt. omega (arith, long, lt, c.loop-marks-test.true, c.len.ensures);
      capacity = search rules;
    }
