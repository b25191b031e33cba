-- Runs of threads in C, by induction, and the claim about each world that they reach.
use Rattle.std.proofs.Common.{◌≡◌, ℕ, suc, List, [], ◌∷◌, length, Some, None}
use Rattle.std.proofs.Common.{slice_get, refl, sym, ap, ◌∙◌, subst}
use Rattle.std.specs.Prelude.{⊤}
use Rattle.std.proofs.lemmas.List.{length-map}
use Rattle.core_lang.specs.declared.value.Value.{Value}
use Rattle.core_lang.specs.declared.typed.Cell.{Cell}
use Rattle.core_lang.specs.Serial.{Invocation}
use Rattle.core_lang.specs.Theory.Items.{map_at, map_back}
use Rattle.code.specs.Working.Laws.{on_heap}
use Rattle.history.specs.Commits.{Commit, call_of, committed}
use Rattle.history.specs.Working.Laws.{CommittedKeepsSize}
use Rattle.lowering.specs.Plans.{Plan, IsCompiled}
use Rattle.worlds.specs.Worlds as worlds
use Rattle.worlds.specs.Worlds.{World, ThreadState, Activation, HasOpen, opening_world, final, scripts, call_at}
use Rattle.worlds.specs.Working.States.{OpeningIsSound, standing}
use Rattle.c_language.specs.Alike.{AreFitting}
use Rattle.c_language.specs.InC.{NumbersStayFitting, SectionsBehaveInC, StandsFitting}
use Rattle.c_threads.specs.Threads.{Entry, ThreadInC, WorldInC, Step, Idle, Waits, Goes, Breaks}
use Rattle.c_threads.specs.Threads.{State, At, step, stepped, state_after, at_first, opening_in_c}
use Rattle.c_threads.specs.Claims.{entry_of, HasFittingNumbers}
use Rattle.c_threads.proofs.InOrder.{from_here, InOrder, Leaves, step_leaves, opening_in_order}
use Rattle.c_threads.proofs.Numbers.{ArgumentsFit, heap_fits, section_fits, machine_fits}
use Rattle.c_threads.proofs.Stands.{Reached, ThreadStands, Stands}
use Rattle.c_threads.proofs.Calls.{section_is}
use Rattle.c_threads.proofs.Steps.{StepLaws, Follows, step_follows}

pub record RunLaws : Type 0 where
  pub steps : StepLaws
  pub opening : OpeningIsSound
  pub behave : SectionsBehaveInC ℕ
  pub numbers : NumbersStayFitting
  pub size : CommittedKeepsSize

-- a world, and a world in C that stands for it, both with their invariants
pub record Kept (plan : Plan) (base : WorldInC) (w : World) (c : WorldInC) : Type 0 where
  pub reached : Reached plan w
  pub stands : Stands plan w c
  pub order : InOrder plan base c

-- the same, with the world itself as the base
pub again : (plan : Plan) (base : WorldInC) (w : World) (c : WorldInC) → Kept plan base w c → Kept plan c w c
again plan base w c k = record { reached = k.reached; stands = k.stands; order = from_here plan base c k.order }

module _ (laws : RunLaws) (plan : Plan) (ok : IsCompiled plan) (short : HasFittingNumbers plan) (base : WorldInC) where
  -- ---- numbers

  module _ (w : World) (c : WorldInC) (k : Kept plan base w c) where
    call_fits : (t : ℕ) (a : Activation) → HasOpen w t a → AreFitting a.call.arguments
    call_fits t a o =
        let mine = section_is plan w c k.stands t a o in
        subst (λ (i : Invocation). AreFitting i.arguments) (sym mine.stands.call)
        (short.arguments t (length mine.x.answers) mine.call.call (k.order.scripted t mine.x mine.call mine.runs))

    arguments_from : (cs : List Commit) → ((p : ℕ) (d : Commit) → slice_get cs p ≡ Some d → AreFitting d.arguments) → ArgumentsFit plan ok short cs
    arguments_from [] h = tt
    arguments_from (d ∷ cs) h = (h 0 d refl, arguments_from cs (λ p e i. h (suc p) e i))

    entries_fit : ArgumentsFit plan ok short w.history
    entries_fit = arguments_from w.history (λ p d i.
        let at : slice_get c.history p ≡ Some (entry_of d) = ap (λ hs. slice_get hs p) (sym k.stands.history) ∙ map_at entry_of w.history p d i in
        let e = k.order.entries p (entry_of d) at in
        short.arguments d.thread d.step (call_of d) e.scripted)

    abbrev pub heap : List Value
    heap = committed plan.layout.opening w.history

    opening_size : length plan.layout.opening ≡ length plan.program.cells.items
    opening_size = ap length ok.laid_out.opening ∙ length-map plan.program.cells.items (λ (cell : Cell). cell.opening)

    pub history_fits : AreFitting heap
    history_fits =
        heap_fits plan ok short laws.behave plan.layout.opening w.history opening_size short.opening k.reached.sound.true_commits k.reached.sound.legal entries_fit

    pub open_fits : (t : ℕ) (a : Activation) → HasOpen w t a → StandsFitting (standing a.outcome (on_heap heap a.machine))
    open_fits t a o = section_fits plan ok short laws.numbers laws.size w t a k.reached.sound o (call_fits t a o) history_fits

    pub stack_fits : (t : ℕ) (a : Activation) → HasOpen w t a → a.outcome ≡ None → AreFitting a.machine.stack
    stack_fits t a o none = (machine_fits plan ok short a heap none (open_fits t a o)).stack

  -- ---- one step

  abbrev pub KeptOn : WorldInC → Step → Type 0
  KeptOn c Idle = ⊤
  KeptOn c (Waits lock) = ⊤
  KeptOn c (Goes next) = (w : World) × Kept plan base w next × ((p : ℕ) (e : Entry) → slice_get c.history p ≡ Some e → slice_get next.history p ≡ Some e)
  KeptOn c Breaks = ⊥

  both : (c : WorldInC) (s : Step) → Follows laws.steps plan ok s → Leaves plan base c s → KeptOn c s
  both c Idle f l = tt
  both c (Waits lock) f l = tt
  both c (Goes next) f l = (f.0, record { reached = f.1; stands = f.2; order = l.0 }, l.1)
  both c Breaks f l = f

  pub kept_step : (w : World) (c : WorldInC) (t : ℕ) → Kept plan base w c → KeptOn c (step plan c t)
  kept_step w c t k =
      both c (step plan c t) (step_follows laws.steps plan ok w c k.reached k.stands t (λ a o none. stack_fits w c k t a o none)) (step_leaves plan base c t k.order)

  -- ---- steps

  -- a state is a world, whose history begins with that of an earlier one
  pub record Comes (c : WorldInC) (s : State) : Type 0 where
    pub w : World
    pub now : WorldInC
    pub is : s ≡ At now
    pub kept : Kept plan base w now
    pub old : (p : ℕ) (e : Entry) → slice_get c.history p ≡ Some e → slice_get now.history p ≡ Some e

  comes_on : (c : WorldInC) (s : Step) (ts : List ℕ) (w : World) → Kept plan base w c → KeptOn c s →
      ((v : World) (d : WorldInC) → Kept plan base v d → Comes d (state_after plan (At d) ts)) → Comes c (state_after plan (stepped c s) ts)
  comes_on c Idle ts w k on rest = rest w c k
  comes_on c (Waits lock) ts w k on rest = rest w c k
  comes_on c (Goes next) ts w k on rest =
      let r = rest on.0 next on.1 in
      record { w = r.w; now = r.now; is = r.is; kept = r.kept; old = λ p e i. r.old p e (on.2 p e i) }
  comes_on c Breaks ts w k on rest = absurd on

  pub comes : (ts : List ℕ) (w : World) (c : WorldInC) → Kept plan base w c → Comes c (state_after plan (At c) ts)
  comes [] w c k = record { w = w; now = c; is = refl; kept = k; old = λ p e i. i }
  comes (t ∷ ts) w c k = comes_on c (step plan c t) ts w k (kept_step w c t k) (comes ts)

-- ---- before any step

module _ (laws : RunLaws) (plan : Plan) (ok : IsCompiled plan) where
  opening_free : (cell : ℕ) (v : Value) → slice_get (opening_world plan).cells cell ≡ Some (Some v) → slice_get plan.layout.opening cell ≡ Some v
  opening_free cell v e = (let r = map_back (λ (v : Value). Some v) plan.layout.opening cell (Some v) e in r.1 ∙ r.2)

  opening_stands : Stands plan (opening_world plan) (opening_in_c plan)
  opening_stands = record {
    history = refl;
    size = sym (length-map plan.layout.opening (λ (v : Value). Some v));
    free = opening_free;
    count = length-map (scripts plan) at_first ∙ sym (length-map (scripts plan) worlds.at_first);
    threads = λ t thread x at at'. (let one = map_back worlds.at_first (scripts plan) t thread at in
        let two = map_back at_first (scripts plan) t x at' in
        subst (λ (z : ThreadState). ThreadStands plan plan.layout.opening z x x.active) one.2
        (subst (λ (z : ThreadInC). ThreadStands plan plan.layout.opening (worlds.at_first one.0) z z.active) two.2 (refl, refl, refl)));
  }

  pub opening_kept : Kept plan (opening_in_c plan) (opening_world plan) (opening_in_c plan)
  opening_kept = record {
    reached = record { steps = []; is = refl; sound = laws.opening plan; ready = laws.steps.ready.opening plan ok };
    stands = opening_stands;
    order = opening_in_order plan;
  }
