use Rattle.std.proofs.Common.{◌∙◌, ◌++◌, sym, ap, subst, refl, List, ℕ}
use Rattle.core_lang.specs.declared.typed.Typed.{Typed}
use Rattle.core_lang.specs.Typing.{IsHeap}
use Rattle.core_lang.specs.WellFormed.{IsChecked}
use Rattle.report.specs.Entry.{scheduled_called}
use Rattle.report.specs.Pieces.{outcome_text}
use Rattle.replay.proofs.Steps.{head_told, reads_so, reads_otherwise, call_beyond, call_otherwise, call_comes, call_came}
use Rattle.replay.proofs.candidate.Replay.read_end.Goals as goal

pub returns-in_default-clause-reads : goal.returns-in_default-clause-reads
returns-in_default-clause-reads c reader is =
    let same = c.requires.ready.prepared in
    let beyond = rw (same, c.in_default.is) at
    (c.in_ok-run.ensures.beyond (subst IsChecked (sym same) c.requires.ready.well_formed)
    (subst (λ (p : Typed). IsHeap p c.args.at.now.heap) (sym same) c.requires.sound.typed)) in
    call_beyond c.args.self.now.turns c.args.self.now.callers c.args.self.now.format c.args.self.now.program.now c.args.at.now reader c.args.line.now _ c.args.call is c.requires.stage c.requires.none_due
    c.requires.only c.requires.head beyond

pub returns-then-not-is_told-clause-reads : goal.returns-then-not-is_told-clause-reads
returns-then-not-is_told-clause-reads c reader is =
    let over = rw (c.requires.ready.prepared, c.in-Some.is) at c.in_ok-run.ensures.answer in
    let tail = outcome_text c.args.self.now.program.now.shape c.in-Some.end.outcome in
    let word = c.as_str.ensures.value ∙ c.in_ok-push_outcome.ensures ∙ ap (λ (b : List ℕ). b ++ tail) c.requires.head.is in
    call_otherwise c.args.self.now.turns c.args.self.now.callers c.args.self.now.format c.args.self.now.program.now c.args.at.now reader c.args.line.now _ c.args.call c.in-Some.end _ is c.requires.stage c.requires.none_due
    c.requires.only c.requires.head over
    (λ told. reads_otherwise c.args.line.now c.as_str.result.now (sym c.is-is_told.ensures ∙ c.if-not-is_told.true) (told ∙ sym word))

pub returns-clause-reads : goal.returns-clause-reads
returns-clause-reads c reader is =
    let over = rw (c.requires.ready.prepared, c.in-Some.is) at c.in_ok-run.ensures.answer in
    let tail = outcome_text c.args.self.now.program.now.shape c.in-Some.end.outcome in
    let word = c.as_str.ensures.value ∙ c.in_ok-push_outcome.ensures ∙ ap (λ (b : List ℕ). b ++ tail) c.requires.head.is in
    call_came c.args.self.now.turns c.args.self.now.callers c.args.self.now.format c.args.self.now.program.now c.args.at.now reader c.args.line.now c.args.call c.in-Some.end _ is c.requires.stage c.requires.none_due
    c.requires.only over (reads_so c.args.line.now c.as_str.result.now (sym c.is-is_told.ensures ∙ c.if-not-is_told.false) ∙ word)
    c.in_ok-set_seat.ensures refl refl refl c.requires.stage

pub returns-then-not-is_told-clause-leaves : goal.returns-then-not-is_told-clause-leaves
returns-then-not-is_told-clause-leaves c reader is =
    let over = rw (c.requires.ready.prepared, c.in-Some.is) at c.in_ok-run.ensures.answer in
    let tail = outcome_text c.args.self.now.program.now.shape c.in-Some.end.outcome in
    let word = c.in_ok-push_outcome.ensures ∙ ap (λ (b : List ℕ). b ++ tail) c.requires.head.is in
    let rest = head_told c.args.self.now.turns c.args.self.now.callers c.args.self.now.format c.args.self.now.program.now c.args.line.now _ c.args.call c.requires.head in (
      (
        _,
        call_comes c.args.self.now.turns c.args.self.now.callers c.args.self.now.format c.args.self.now.program.now c.args.at.now reader c.args.line.now _ c.args.call c.in-Some.end _ is
            c.requires.stage c.requires.none_due c.requires.only rest.0 rest.1 over word,
      ),
      λ call begun names.
          let same = c.requires.only.only reader call begun names.1 is names.2 in
          (tail, word ∙ ap (λ (b : List ℕ). b ++ tail) (sym same.1)),
      λ among none. absurd (none (scheduled_called c.args.call) c.args.call.begun (
        among,
        rest.0,
        record {
          next = c.requires.only.next reader rest.0 is rest.1;
          begins = c.requires.only.begins reader is;
          told = rest.1;
        },
      )),
    )
