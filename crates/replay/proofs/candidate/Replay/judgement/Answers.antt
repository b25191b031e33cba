use Rattle.std.proofs.Common.{◌∷◌, List, ℕ, arith, refl, subst, sym}
use Rattle.input_files.specs.Histories.{lines_in, recorded_lines}
use Rattle.replay.specs.Working.Reading.{IsAt}
use Rattle.replay.proofs.Replays.{HasRead, read_start, read_more, ended_holds, ended_explains, explained, wanted_at}
use Rattle.replay.proofs.candidate.Replay.judgement.Goals as goal

pub lines-init : goal.lines-init
lines-init c = record {
  read = read_start c.args.self.now.turns c.args.self.now.callers c.args.self.now.format c.args.self.now.program.now (recorded_lines c.args.recorded.now)
      c.in_ok-at.at c.in_ok-at.ensures.at (c.in_ok-at.ensures.sound c.args.self.now.callers) c.in_ok-at.ensures.position;
  number = omega arith;
}

pub returns-in_default-clause-holds : goal.returns-in_default-clause-holds
returns-in_default-clause-holds c =
    ended_holds c.args.self.now.turns c.args.self.now.callers c.args.self.now.format c.args.self.now.program.now (recorded_lines c.args.recorded.now) c.lines.number c.lines.at
    (subst (λ (rest : List (List ℕ)). HasRead c.args.self.now.turns c.args.self.now.callers c.args.self.now.format c.args.self.now.program.now (recorded_lines c.args.recorded.now) c.lines.number rest c.lines.at)
    (c.in_default.ensures.none refl) c.lines.invariant.read) c.at_end.result c.at_end.ensures.holds

pub returns-in_default-clause-why : goal.returns-in_default-clause-why
returns-in_default-clause-why c =
    ended_explains c.args.self.now.turns c.args.self.now.callers c.args.self.now.format c.args.self.now.program.now (recorded_lines c.args.recorded.now) c.lines.number c.lines.at
    (subst (λ (rest : List (List ℕ)). HasRead c.args.self.now.turns c.args.self.now.callers c.args.self.now.format c.args.self.now.program.now (recorded_lines c.args.recorded.now) c.lines.number rest c.lines.at)
    (c.in_default.ensures.none refl) c.lines.invariant.read) c.at_end.result c.at_end.ensures.holds

pub returns-in-Other-clause-why : goal.returns-in-Other-clause-why
returns-in-Other-clause-why c =
    let rest = c.in-Some.line.now ∷ lines_in c.in-Some.more.now in
    let lines = recorded_lines c.args.recorded.now in
    let read = subst (λ (rest : List (List ℕ)). HasRead c.args.self.now.turns c.args.self.now.callers c.args.self.now.format c.args.self.now.program.now lines c.lines.number rest c.lines.at)
    c.in-Some.ensures.some c.lines.invariant.read in
    let left = rw c.in-Other.is at c.in_ok-read.ensures.leaves in
    let is = subst (λ at. IsAt c.args.self.now.program.now at read.reader) (sym left.same) read.is in
    explained c.args.self.now.turns c.args.self.now.callers c.args.self.now.format c.args.self.now.program.now lines c.lines.number
    c.in_ok-wanted-in-Other.wanted _ _ c.differing.ensures.verdict c.differing.ensures.wanted
    (wanted_at c.args.self.now.turns c.args.self.now.callers c.args.self.now.format c.args.self.now.program.now lines rest c.lines.number read.reader
    c.in_ok-wanted-in-Other.wanted read.reached
    (c.in_ok-wanted-in-Other.ensures read.reader rest refl is (left.names read.reader read.is)))

pub lines-preserved : goal.lines-preserved
lines-preserved c =
    let lines = recorded_lines c.args.recorded.now in
    let read = subst (λ (rest : List (List ℕ)). HasRead c.args.self.now.turns c.args.self.now.callers c.args.self.now.format c.args.self.now.program.now lines c.lines.number rest c.lines.at)
    c.in-Some.ensures.some c.lines.invariant.read in
    let shorter = c.in-Some.ensures.shorter in
    let number = c.lines.invariant.number in
    record {
      read = read_more c.args.self.now.turns c.args.self.now.callers c.args.self.now.format c.args.self.now.program.now lines c.lines.number c.in-Some.line.now (lines_in c.in-Some.more.now)
          c.lines.at read c.read.new.at (rw c.in-Came.is at c.in_ok-read.ensures.reads) c.in_ok-read.ensures.sound c.in_ok-read.ensures.position;
      number = omega (arith, shorter, number);
    }
