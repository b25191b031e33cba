-- The headline, from a sound and ready world at the end of a run.
use Rattle.std.proofs.Common.{◌≡◌, ℕ, true, List, [], ◌∷◌, map, take, Some, slice_get, sym, ◌∙◌, subst}
use Rattle.core_lang.specs.Serial.{Serial}
use Rattle.history.specs.Commits.{call_of, answer_of, committed}
use Rattle.locks.specs.Order.{PrecedesIsStrict}
use Rattle.history.specs.Working.Laws.{LegalIsSerial}
use Rattle.lowering.specs.Plans.{Plan, IsCompiled, CompiledRunAlike}
use Rattle.locks.specs.Locks.{among}
use Rattle.worlds.specs.Worlds.{World, happens, world_after, opening_world, final}
use Rattle.worlds.specs.Claims.{IsSerial, HeldCellsAre, FollowsScripts, EveryRunHasIt, EveryWorldKeepsTheRules}
use Rattle.worlds.specs.Waiting.{RisingHasNoCycle, RisingWaitsForHolders, RisingGoesOn, InstructionsHaveTheirCase}
use Rattle.worlds.specs.Waiting.{PendingRises}
use Rattle.worlds.specs.Working.States.{IsSound, OpeningIsSound, StepsKeepSound}
use Rattle.worlds.specs.Working.Ahead.{IsReadyWorld, WorldsStayReady}
use Rattle.locks.specs.Theory.Order.{contains_among, among_contains}
use Rattle.worlds.proofs.Well.{opening_size}
use Rattle.worlds.proofs.Ends.{in_order, have_entries}
use Rattle.worlds.proofs.Scripts.{follows_scripts}
use Rattle.worlds.proofs.Filled.{history_of_scripts, of_scripts_run_alike}
use Rattle.worlds.proofs.Runs.{ends_are_runs}
use Rattle.worlds.proofs.Rules.{Once, once_step, once_at_first, keeps_the_rules}

-- ---- the fields

held_cells : (plan : Plan) (w : World) → IsCompiled plan → IsSound plan w → HeldCellsAre plan w
held_cells plan w ok s cell lock is =
    let here : slice_get plan.layout.cell_locks cell ≡ Some lock = ok.laid_out.cell_locks cell ∙ is in (
      λ none. (let found = s.somewhere cell none in
          let of = (s.well found.0 found.1 found.2).only cell found.3 in
          let same : Some of.0 ≡ Some lock = sym of.1 ∙ here in
          let as_one : of.0 ≡ lock = cc same in
          record {
            by = found.0;
            section = found.1;
            is_open = found.2;
            holds = among_contains found.1.held lock (subst (λ l. among found.1.held l ≡ true) as_one of.2);
          }),
      λ h. (s.fit h.by h.section h.is_open).moved cell
          ((s.well h.by h.section h.is_open).all cell (lock, here, contains_among h.section.held lock h.holds)),
    )

serial : LegalIsSerial → CompiledRunAlike → (plan : Plan) (w : World) → IsCompiled plan → IsSound plan w →
    FollowsScripts plan w →
    IsSerial plan w (committed plan.layout.opening w.history)
serial law alike plan w ok s follows =
    of_scripts_run_alike alike plan w.history (committed plan.layout.opening w.history) ok (history_of_scripts plan w follows)
    (subst (λ h. Serial plan.program h (map call_of w.history) (map answer_of w.history) (committed plan.layout.opening w.history)) ok.laid_out.opening
    (law plan.program plan.layout.opening w.history (opening_size plan ok) s.legal s.true_commits))

-- ---- the whole

pub record HeadlineLaws : Type 0 where
  pub opening : OpeningIsSound
  pub step : StepsKeepSound
  pub ready : WorldsStayReady
  pub no_cycle : RisingHasNoCycle
  pub waits : RisingWaitsForHolders
  pub goes_on : RisingGoesOn
  pub serial : LegalIsSerial
  pub alike : CompiledRunAlike
  pub strict : PrecedesIsStrict

record IsKept (plan : Plan) (w : World) : Type 0 where
  sound : IsSound plan w
  ready : IsReadyWorld plan w

kept_after : StepsKeepSound → WorldsStayReady → (plan : Plan) (w : World) (steps : List ℕ) → IsCompiled plan →
    IsKept plan w →
    IsKept plan (world_after plan w steps)
kept_after step ready plan w [] ok x = x
kept_after step ready plan w (t ∷ ts) ok x =
    kept_after step ready plan (happens plan w t).1 ts ok
    (record { sound = step plan w t ok x.sound; ready = ready.step plan w t ok x.sound x.ready })

-- the claim about each world that is reached
kept : OpeningIsSound → StepsKeepSound → WorldsStayReady → (plan : Plan) (steps : List ℕ) → IsCompiled plan →
    IsKept plan (final plan steps)
kept opening step ready plan steps ok =
    kept_after step ready plan (opening_world plan) steps ok (record { sound = opening plan; ready = ready.opening plan ok })

-- no lock is held twice in any world that is reached
once_after : PrecedesIsStrict → StepsKeepSound → WorldsStayReady → (plan : Plan) (w : World) (steps : List ℕ) →
    IsCompiled plan →
    IsKept plan w → Once w → Once (world_after plan w steps)
once_after strict step ready plan w [] ok x once = once
once_after strict step ready plan w (t ∷ ts) ok x once =
    once_after strict step ready plan (happens plan w t).1 ts ok
    (record { sound = step plan w t ok x.sound; ready = ready.step plan w t ok x.sound x.ready })
    (once_step strict plan w t (ready.rises plan w x.ready) once)

pub rules_kept : PrecedesIsStrict → OpeningIsSound → StepsKeepSound → WorldsStayReady → EveryWorldKeepsTheRules
rules_kept strict opening step ready plan steps ok =
    let is = kept opening step ready plan steps ok in
    let first : IsKept plan (opening_world plan) = record { sound = opening plan; ready = ready.opening plan ok } in
    keeps_the_rules plan (final plan steps) ok is.sound (ready.rises plan (final plan steps) is.ready)
    (once_after strict step ready plan (opening_world plan) steps ok first (once_at_first plan))

pub headline : HeadlineLaws → EveryRunHasIt
headline laws plan steps ok =
    let w = final plan steps in
    let is = kept laws.opening laws.step laws.ready plan steps ok in
    let there : (n : ℕ) → IsKept plan (final plan (take n steps)) = λ n. kept laws.opening laws.step laws.ready plan (take n steps) ok in
    let rises : (n : ℕ) → PendingRises plan.ranks (final plan (take n steps)) =
    λ n. laws.ready.rises plan (final plan (take n steps)) (there n).ready in
    record {
      heap = committed plan.layout.opening w.history;
      results_and_prints = serial laws.serial laws.alike plan w ok is.sound (follows_scripts plan steps);
      free_cells = is.sound.values;
      all_cells = is.sound.size ∙ opening_size plan ok;
      order = in_order plan steps;
      runs = ends_are_runs plan steps;
      scripts = follows_scripts plan steps;
      entries = have_entries plan steps;
      held_cells = λ n. held_cells plan (final plan (take n steps)) ok (there n).sound;
      rules = λ n. rules_kept laws.strict laws.opening laws.step laws.ready plan (take n steps) ok;
      no_cycle = λ n. laws.no_cycle plan.ranks (final plan (take n steps)) (rises n);
      waits = λ n. laws.waits plan (final plan (take n steps)) (rises n);
      goes_on = λ n. laws.goes_on plan (final plan (take n steps)) (rises n);
      next = λ n. laws.ready.next plan (final plan (take n steps)) ok (there n).sound (there n).ready;
    }

pub have_their_case : OpeningIsSound → StepsKeepSound → WorldsStayReady → InstructionsHaveTheirCase
have_their_case opening step ready plan steps ok =
    let is = kept opening step ready plan steps ok in ready.next plan (final plan steps) ok is.sound is.ready
