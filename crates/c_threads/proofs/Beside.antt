-- A call in C and the open section of a world that it stands for: one group of its statements does what the section's
-- next instruction does.
use Rattle.std.proofs.Common.{◌≡◌, ℕ, ◌+◌, false, List, [], ◌∷◌, ◌++◌, Option, Some, None}
use Rattle.std.proofs.Common.{slice_get, refl, sym, ap, ◌∙◌, subst, inl, inr}
use Rattle.std.specs.Prelude.{unwrap_or}
use Rattle.std.specs.Option.{option_map_or}
use Rattle.std.proofs.lemmas.Option.{none-some}
use Rattle.core_lang.specs.declared.value.Value.{Value}
use Rattle.core_lang.specs.declared.value.Outcome.{Outcome}
use Rattle.core_lang.specs.declared.tree.Section.{Section}
use Rattle.core_lang.specs.Serial.{Invocation}
use Rattle.core_lang.specs.Theory.Items.{lookup_at}
use Rattle.locks.specs.declared.lock.Lock.{Lock}
use Rattle.code.specs.declared.instr.Instr.{Instr}
use Rattle.code.specs.declared.instr.Instr.TheVariants as instr
use Rattle.code.specs.Machine.{Machine, Effect, Moves, Asks, Finishes, Undefined, act, passed}
use Rattle.code.specs.Memory.{HeldCells, value_at, load_held, store_held, load_from, store_to, none_held}
use Rattle.code.specs.Lowering.{section_code, lists_at}
use Rattle.lowering.specs.Plans.{Plan, IsCompiled}
use Rattle.worlds.specs.Worlds.{Activation, activation, section_at, code_at, locals_at, next_effect, instructed, granted}
use Rattle.worlds.specs.Working.States.{IsWell}
use Rattle.worlds.specs.Working.Ahead.{SeesTyped, IsReady}
use Rattle.c_language.specs.declared.statement.Operand.{Operand}
use Rattle.c_language.specs.Meaning.{Frame, After, Next, At_label, At_end, Anything}
use Rattle.c_language.specs.Groups.{Group}
use Rattle.c_language.specs.Plans.{Spot, IsPlan, plan as spots, SectionsHavePlans}
use Rattle.c_language.specs.Alike.{machine_of, Hold, IsLow, AreFitting, Beside}
use Rattle.c_language.specs.Runs.{begin_group, GroupsLeadOn, LeadsOn, IsAcquire}
use Rattle.c_threads.specs.Locking.{Acquired, acquired, no_notes}
use Rattle.core_lang.specs.Typing.{Fit}
use Rattle.core_lang.specs.WellFormed.{CanCall}
use Rattle.c_threads.specs.Working.Noted.{IsNoted, NotesStay}
use Rattle.c_threads.specs.Threads.{now_at}
use Rattle.c_threads.specs.Threads.{Taking, Over, CallInC, spots_at, group_in}
use Rattle.c_threads.specs.Threads.{frame, come, acquired_at, begun_call}
use Rattle.c_threads.proofs.Worlds.{value_cases}
use Rattle.c_threads.proofs.Shared.{Sees, Kept, over, Alike, runs_alike}

-- ---- a call beside a section

-- the section of the call `c`, with this operand stack and these held cells
abbrev pub in_world : CallInC → List Lock → List Lock → List Value → HeldCells → Activation
in_world c locked pending stack memory = record {
  call = c.call;
  begun = c.begun;
  machine = machine_of c.place stack (frame c memory);
  held = locked;
  pending = pending;
  asked = false;
  outcome = None;
}

-- a call that has these calls of AL_LOCK to make, and then goes on with a group
pub record GoesOn (plan : Plan) (cells : List Value) (locked : List Lock) (c : CallInC) (pending : List Lock) (a : Activation) : Type 0 where
  pub stack : List Value
  pub memory : HeldCells
  pub is : a ≡ in_world c locked pending stack memory
  pub low : IsLow (spots_at plan c.call.section c.place).operands
  pub hold : Hold (spots_at plan c.call.section c.place).operands c.variables c.temporaries stack
  pub sees : Sees cells memory
  pub noted : IsNoted plan a c.notes

-- a call whose last group is done
pub record IsOver (plan : Plan) (cells : List Value) (locked : List Lock) (c : CallInC) (result : Outcome) (a : Activation) : Type 0 where
  pub call : a.call ≡ c.call
  pub begun : a.begun ≡ c.begun
  pub held : a.held ≡ locked
  pub pending : a.pending ≡ []
  pub outcome : a.outcome ≡ Some result
  pub prints : a.machine.prints ≡ c.prints
  pub sees : Sees cells a.machine.memory
  pub noted : IsNoted plan a c.notes

module _ (plan_law : SectionsHavePlans ℕ) where
  pub is_plan : (plan : Plan) (k : ℕ) → IsPlan plan.program (code_at plan k) (spots_at plan k)
  is_plan plan k = by (section_at plan k)
    where
      code_of : Option Section → List Instr
      code_of o = option_map_or (λ (section : Section). section_code (lists_at plan.lists k) section) o []

      by : (o : Option Section) → IsPlan plan.program (option_map_or (λ (section : Section). section_code (lists_at plan.lists k) section) o [])
          (spots plan.program (option_map_or (λ (section : Section). section_code (lists_at plan.lists k) section) o []))
      by None = record { begins = refl; goes = λ place i e. absurd (none-some i e) }
      by (Some section) = plan_law plan.program (lists_at plan.lists k) section

-- ---- one group

-- the effect of an instruction on the section, and where the group leads
module _ (plan : Plan) (cells : List Value) (memory : HeldCells) (locked : List Lock) (c : CallInC) where
  abbrev pub Behind : Activation → After (List Value) → Type 0
  Behind a (Next g) = (go : GoesOn plan g.memory locked (come c (c.place + 1) g) [] a) × Kept cells memory g.memory go.memory
  Behind a (At_label label g) = (go : GoesOn plan g.memory locked (come c label g) [] a) × Kept cells memory g.memory go.memory
  Behind a (At_end outcome g) = IsOver plan g.memory locked (now_at (come c c.place g) (Over outcome)) outcome a × Kept cells memory g.memory a.machine.memory
  Behind a Anything = ⊥

module _ (laws : NotesStay) (plan : Plan) (ok : IsCompiled plan) (cells : List Value)
    (locked : List Lock) (c : CallInC) (stack : List Value) (memory : HeldCells) (sees : Sees cells memory) where
  abbrev here : Activation
  here = in_world c locked [] stack memory

  abbrev spots_here : ℕ → Spot
  spots_here = spots_at plan c.call.section

  module _ (well : IsWell plan here) (noted : IsNoted plan here c.notes) where
    -- an instruction that asks for no locks keeps what is noted
    stays : ((point : ℕ) → next_effect plan here ≡ Asks point → ⊥) → IsNoted plan (instructed plan here (next_effect plan here)) c.notes
    stays none = laws.moves plan here c.notes ok well noted refl refl none

    -- the section after an instruction that leads to a place
    moved_to : (place : ℕ) (next : Machine HeldCells) (f : Frame HeldCells) (mem : List Value) (ops : List Operand) (left : List Value) →
        next_effect plan here ≡ Moves next → next ≡ machine_of place left f → IsLow ops → Hold ops f.variables f.temporaries left →
        (spots_here place).operands ≡ ops → Kept cells memory mem f.memory →
        (go : GoesOn plan mem locked (come c place (over f mem)) [] (record here { machine = next })) × Kept cells memory mem go.memory
    moved_to place next f mem ops left effect e low hold leads kept = (
      record {
        stack = left;
        memory = f.memory;
        is = ap (λ (m : Machine HeldCells). record here { machine = m }) e;
        low = subst IsLow (sym leads) low;
        hold = subst (λ o. Hold o f.variables f.temporaries left) (sym leads) hold;
        sees = kept.sees;
        noted = subst (λ x. IsNoted plan (instructed plan here x) c.notes) effect (stays (λ point e. let bad : Moves next ≡ Asks point = sym effect ∙ e in cc bad));
      },
      kept,
    )

    arrive : (x : Effect HeldCells) (y : After HeldCells) (z : After (List Value)) (ops : List Operand) → next_effect plan here ≡ x → IsLow ops →
        Beside c.place (frame c memory) ops x y → LeadsOn spots_here c.place ops y → (x ≡ Undefined → ⊥) → Alike cells memory y z →
        Behind plan cells memory locked c (instructed plan here x) z
    arrive (Moves next) (Next f) (Next g) ops effect low b leads some k =
        subst (λ h. Behind plan cells memory locked c (record here { machine = next }) (Next h)) (sym k.is)
        (moved_to (c.place + 1) next f g.memory ops b.0 effect b.1 low b.2 leads k.kept)
    arrive (Moves next) (At_label label f) (At_label other g) ops effect low b leads some k =
        subst (λ n. Behind plan cells memory locked c (record here { machine = next }) (At_label n g)) (sym k.0)
        (subst (λ h. Behind plan cells memory locked c (record here { machine = next }) (At_label label h)) (sym k.1.is)
        (moved_to label next f g.memory ops b.0 effect b.1 low b.2 leads k.1.kept))
    arrive (Finishes outcome) (At_end result f) (At_end other g) ops effect low b leads some k =
        subst (λ o. Behind plan cells memory locked c (record here { outcome = Some outcome }) (At_end o g)) (b.0 ∙ sym k.0)
        (subst (λ h. Behind plan cells memory locked c (record here { outcome = Some outcome }) (At_end outcome h)) (sym k.1.is) (
          record {
            call = refl;
            begun = refl;
            held = refl;
            pending = refl;
            outcome = refl;
            prints = sym b.2;
            sees = subst (Sees g.memory) b.1 k.1.kept.sees;
            noted = subst (λ x. IsNoted plan (instructed plan here x) c.notes) effect
                (stays (λ point e. let bad : Finishes outcome ≡ Asks point = sym effect ∙ e in cc bad));
          },
          subst (Kept cells memory g.memory) b.1 k.1.kept,
        ))
    arrive (Moves next) (Next f) (At_label label g) ops effect low b leads some k = absurd k
    arrive (Moves next) (Next f) (At_end outcome g) ops effect low b leads some k = absurd k
    arrive (Moves next) (Next f) Anything ops effect low b leads some k = absurd k
    arrive (Moves next) (At_label label f) (Next g) ops effect low b leads some k = absurd k
    arrive (Moves next) (At_label label f) (At_end outcome g) ops effect low b leads some k = absurd k
    arrive (Moves next) (At_label label f) Anything ops effect low b leads some k = absurd k
    arrive (Moves next) (At_end outcome f) z ops effect low b leads some k = absurd b
    arrive (Moves next) Anything z ops effect low b leads some k = absurd b
    arrive (Finishes outcome) (At_end result f) (Next g) ops effect low b leads some k = absurd k
    arrive (Finishes outcome) (At_end result f) (At_label label g) ops effect low b leads some k = absurd k
    arrive (Finishes outcome) (At_end result f) Anything ops effect low b leads some k = absurd k
    arrive (Finishes outcome) (Next f) z ops effect low b leads some k = absurd b
    arrive (Finishes outcome) (At_label label f) z ops effect low b leads some k = absurd b
    arrive (Finishes outcome) Anything z ops effect low b leads some k = absurd b
    arrive (Asks point) y z ops effect low b leads some k = absurd b
    arrive Undefined y z ops effect low b leads some k = absurd (some refl)

    group_alike : (o : Option Group) →
        Alike cells memory (begin_group load_held store_held plan.program o (frame c memory)) (begin_group load_from store_to plan.program o (frame c cells))
    group_alike None = tt
    group_alike (Some g) = runs_alike plan.program.shape g.statements (frame c memory) cells sees

    module _ (group_law : GroupsLeadOn HeldCells) (plan_law : SectionsHavePlans ℕ) (low : IsLow (spots_here c.place).operands)
        (hold : Hold (spots_here c.place).operands c.variables c.temporaries stack) where
      -- the group of an instruction that asks for no locks
      pub group_stands : (i : Instr) → (IsAcquire i → ⊥) → slice_get (code_at plan c.call.section) c.place ≡ Some i → AreFitting stack →
          (next_effect plan here ≡ Undefined → ⊥) →
          Behind plan cells memory locked c (instructed plan here (next_effect plan here))
          (begin_group load_from store_to plan.program (group_in plan c.call.section c.place i) (frame c cells))
      group_stands i other e fit some =
          let machine = machine_of c.place stack (frame c memory) in
          let effect : next_effect plan here ≡ act load_held store_held plan.program.shape (Some i) machine =
          ap (λ o. act load_held store_held plan.program.shape o machine) e in
          let s = group_law load_held store_held plan.program (code_at plan c.call.section) spots_here c.place i stack (frame c memory)
          (is_plan plan_law plan c.call.section) e other low hold fit in
          subst (λ x. Behind plan cells memory locked c (instructed plan here x)
          (begin_group load_from store_to plan.program (group_in plan c.call.section c.place i) (frame c cells))) (sym effect)
          (arrive (act load_held store_held plan.program.shape (Some i) machine)
          (begin_group load_held store_held plan.program (group_in plan c.call.section c.place i) (frame c memory))
          (begin_group load_from store_to plan.program (group_in plan c.call.section c.place i) (frame c cells)) s.operands effect s.low s.beside s.leads
          (λ u. some (effect ∙ u)) (group_alike (group_in plan c.call.section c.place i)))

      -- an acquire: the notes after it, and the calls of AL_LOCK that it makes
      pub record Acquires (point : ℕ) : Type 0 where
        pub now : Acquired
        pub is : acquired_at plan c point ≡ Some now
        pub go : GoesOn plan cells locked (record c { place = c.place + 1; notes = now.notes; progress = Taking now.calls }) now.calls
            (instructed plan here (next_effect plan here))

      operands_in : Option Group → List Operand
      operands_in (Some g) = g.operands
      operands_in None = []

      pub acquire_stands : (point : ℕ) → slice_get (code_at plan c.call.section) c.place ≡ Some (instr.Acquire point) → Acquires point
      unfolding operands_in
      acquire_stands point e =
          let machine = machine_of c.place stack (frame c memory) in
          let effect : next_effect plan here ≡ Asks point = ap (λ o. act load_held store_held plan.program.shape o machine) e in
          let asked = laws.asks plan here c.notes point ok well noted refl refl effect in
          let goes = (is_plan plan_law plan c.call.section).goes c.place (instr.Acquire point) e in
          let same : (spots_here (c.place + 1)).operands ≡ (spots_here c.place).operands = goes.2.0 ∙ sym (ap operands_in goes.1) in
          record {
            now = asked.after;
            is = lookup_at (section_at plan c.call.section) asked.section
                (λ section. acquired plan.program section c.variables (unwrap_or (slice_get (lists_at plan.lists c.call.section) point) []) c.notes)
                asked.is ∙ asked.acquires;
            go = record {
              stack = stack;
              memory = memory;
              is = ap (instructed plan here) effect
                  ∙ ap (λ locks. record here { machine = passed machine; pending = locks; asked = false }) (sym asked.calls);
              low = subst IsLow (sym same) low;
              hold = subst (λ o. Hold o c.variables c.temporaries stack) (sym same) hold;
              sees = sees;
              noted = subst (λ x. IsNoted plan (instructed plan here x) asked.after.notes) (sym effect) asked.noted;
            };
          }

-- ---- begins

can_call : (plan : Plan) (call : Invocation) (section : Section) → section_at plan call.section ≡ Some section →
    Fit plan.program section call.arguments → CanCall plan.program call.section call.arguments
unfolding CanCall
can_call plan call section is fit = (section, is, fit)

pub call_begins : NotesStay → SectionsHavePlans ℕ → (plan : Plan) (n : ℕ) (call : Invocation) (cells : List Value) → IsCompiled plan →
    IsReady plan (activation plan n call) → GoesOn plan cells [] (begun_call plan n call) [] (activation plan n call)
call_begins laws plan_law plan n call cells ok ready =
    let none = (is_plan plan_law plan call.section).begins in
    let notes : no_notes plan.program ready.section ≡ (begun_call plan n call).notes =
    sym (ap (λ o. option_map_or (λ (section : Section). no_notes plan.program section) o []) ready.is) in
    record {
      stack = [];
      memory = none_held;
      is = refl;
      low = subst IsLow (sym none) tt;
      hold = subst (λ o. Hold o (locals_at plan call) (λ t. None) []) (sym none) tt;
      sees = λ c v h. absurd (none-some v h);
      noted = subst (IsNoted plan (activation plan n call)) notes
          (laws.begins plan n call ready.section ok (can_call plan call ready.section ready.is ready.fit) ready.is);
    }

-- ---- a lock is granted

pub call_gets : NotesStay → (plan : Plan) (cells : List Value) (locked : List Lock) (c : CallInC) (lock : Lock) (rest : List Lock)
    (a : Activation) (values : List (ℕ × Value)) → GoesOn plan cells locked c (lock ∷ rest) a →
    SeesTyped plan.program (λ cell. value_at values cell) →
    ((cell : ℕ) (v : Value) → value_at values cell ≡ Some v → slice_get cells cell ≡ Some v) →
    GoesOn plan cells (locked ++ lock ∷ []) (now_at c (Taking rest)) rest (granted a lock rest values)
call_gets laws plan cells locked c lock rest a values go typed there = record {
  stack = go.stack;
  memory = record go.memory { cells = go.memory.cells ++ values };
  is = ap (λ (b : Activation). granted b lock rest values) go.is;
  low = go.low;
  hold = go.hold;
  sees = λ cell v h. elim (value_cases go.memory.cells values cell v h) [ inl e ↦ go.sees cell v e | inr e ↦ there cell v e ];
  noted = laws.gets plan a c.notes lock rest values go.noted (ap (λ (b : Activation). b.pending) go.is) typed;
}
