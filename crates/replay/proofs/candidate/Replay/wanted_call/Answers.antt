use Rattle.std.proofs.Common.{◌≡◌, ◌∙◌, List, ℕ, refl, sym, subst}
use Rattle.std.proofs.lemmas.Bool.{false≢true}
use Rattle.replay.specs.declared.progress.Stage.TheVariants.{Calls}
use Rattle.replay.specs.declared.callers.Callers.{Callers}
use Rattle.replay.specs.declared.callers.Callers.TheVariants.{Scripts, Anyone}
use Rattle.replay.specs.Wanted.{MayCome}
use Rattle.replay.proofs.Steps.{all_called, all_counted, none_due, closed_at, cells_came}
use Rattle.replay.proofs.candidate.Replay.wanted_call.Goals as goal

-- those that aren't anyone are the scripts
scripts_call : (callers : Callers) → (callers ≡ Anyone → ⊥) → callers ≡ Scripts
scripts_call Scripts other = refl
scripts_call Anyone other = absurd (other refl)

pub returns-then-all_called : goal.returns-then-all_called
returns-then-all_called c reader lines first is none =
    let turns = c.args.self.now.turns in
    let callers = c.args.self.now.callers in
    let format = c.args.self.now.format in
    let program = c.args.self.now.program.now in
    let came = cells_came turns callers format program c.args.at.now reader is c.requires.stage c.requires.none_due (c.all_called.ensures.0 c.if-all_called.true) in (
      subst (λ (text : List ℕ). MayCome turns callers format program reader text) (sym c.in_ok-from_str.ensures.ok) (came.0, came.1),
      λ call begun names. absurd (none call begun names),
      λ among named. (
        scripts_call callers c.in_default.not-Anyone,
        all_called callers program c.args.at.now.seats reader.order is.seats (c.all_called.ensures.0 c.if-all_called.true),
      ),
    )

pub returns : goal.returns
returns c reader lines first is none = (
  record {
    none_due = none_due c.args.self.now.program.now c.args.at.now reader is c.requires.stage c.requires.none_due;
    still_open = closed_at c.args.self.now.program.now c.args.at.now reader is Calls c.requires.stage;
  },
  λ all. false≢true (sym c.if-all_called.false ∙ c.all_called.ensures.1
      (all_counted c.args.self.now.callers c.args.self.now.program.now c.args.at.now.seats reader.order is.seats all)),
  none,
  c.in_ok-next_heads.ensures reader is,
)
