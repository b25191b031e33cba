-- The headline for each world that threads in C reach.
use Rattle.std.proofs.Common.{◌≡◌, ◌<◌, ℕ, true, false, List, [], ◌∷◌, ◌++◌, length, map, Option, Some, None}
use Rattle.std.proofs.Common.{slice_get, refl, sym, ap, ◌∙◌, subst, arith, inl, inr}
use Rattle.std.specs.List.{Contains}
use Rattle.std.proofs.lemmas.Option.{slice_get_within}
use Rattle.core_lang.specs.declared.value.Value.{Value}
use Rattle.core_lang.specs.Serial.{SerialFromOpening}
use Rattle.core_lang.specs.Theory.Items.{get_some, same_value, not_in_none, in_cases}
use Rattle.locks.specs.declared.lock.Lock.{Lock}
use Rattle.locks.specs.Locks.{among, lock_of_cell}
use Rattle.code.specs.Memory.{overwritten}
use Rattle.history.specs.Commits.{Commit, call_of, answer_of, committed}
use Rattle.lowering.specs.Plans.{Plan, IsCompiled}
use Rattle.worlds.specs.Worlds.{World, Activation, final}
use Rattle.worlds.specs.Claims as sections
use Rattle.c_language.specs.Meaning.{held}
use Rattle.c_language.specs.declared.statement.Operand.{Operand}
use Rattle.c_language.specs.declared.statement.Temporary.{Temporary}
use Rattle.c_language.specs.Alike.{Hold, IsFitting, AreFitting}
use Rattle.c_threads.specs.Threads.{Entry, Taking, WorldInC, State, At}
use Rattle.c_threads.specs.Threads.{is_locked, spots_at}
use Rattle.c_threads.specs.Threads.{state_after, opening_in_c, happens as happens_in_c}
use Rattle.c_threads.specs.Claims.{Reaches, HasFittingNumbers}
use Rattle.c_threads.specs.Claims.{NumbersFit, entry_of}
use Rattle.c_threads.specs.Claims.{WorldStandsFor, EveryRunIsOfWorlds, IsSerial, FreeCellsAre, HasEntries, EndsInOrder, HeadlineInC, EveryRunInC}
use Rattle.c_threads.proofs.Lists.{nobody_locked}
use Rattle.c_threads.proofs.InOrder.{ends_in_order, from_here}
use Rattle.c_threads.proofs.Numbers.{get_fits, all_fit, machine_fits, held_fits}
use Rattle.c_threads.proofs.Covered.{covered, apart, no_races}
use Rattle.c_threads.proofs.Waiting.{WaitLaws, no_cycle, someone_goes_on}
use Rattle.c_threads.proofs.Calls.{section_is, call_at_progress, world_stands, given_back}
use Rattle.c_threads.proofs.Runs.{RunLaws, again, Kept, comes, opening_kept, history_fits, open_fits, stack_fits}

-- ---- small facts

calls_are : (cs : List Commit) → map (λ (e : Entry). e.call) (map entry_of cs) ≡ map call_of cs
calls_are [] = refl
calls_are (c ∷ cs) = ap (λ xs. call_of c ∷ xs) (calls_are cs)

answers_are : (cs : List Commit) → map (λ (e : Entry). e.answer) (map entry_of cs) ≡ map answer_of cs
answers_are [] = refl
answers_are (c ∷ cs) = ap (λ xs. answer_of c ∷ xs) (answers_are cs)

-- an operand whose stack has only numbers of 64 bits has 64 bits
operand_fits : (ops : List Operand) (variables : List Value) (temporaries : Temporary → Option Value) (stack : List Value) (a : Operand) (v : Value) →
    Hold ops variables temporaries stack → AreFitting stack → Contains ops a → held a variables temporaries ≡ Some v → IsFitting v
operand_fits [] variables temporaries stack a v h f c is = absurd (not_in_none a c)
operand_fits (b ∷ ops) variables temporaries [] a v h f c is = absurd h
operand_fits (b ∷ ops) variables temporaries (s ∷ stack) a v h f c is = elim (in_cases b a ops c) [
  | inl e ↦ (let same : s ≡ v = same_value (held a variables temporaries) s v (ap (λ o. held o variables temporaries) (sym e) ∙ h.0) is in
      subst IsFitting same f.0)
  | inr r ↦ operand_fits ops variables temporaries stack a v h.1 f.1 r is
]

-- ---- of a world that is reached

pub record ClaimLaws : Type 0 where
  pub waits : WaitLaws
  pub every_run : sections.EveryRunHasIt

module _ (laws : ClaimLaws) (plan : Plan) (ok : IsCompiled plan) (short : HasFittingNumbers plan) where
  module _ (base : WorldInC) (w : World) (c : WorldInC) (k : Kept plan base w c) where
    -- ---- the history, and what it leaves

    pub headline : sections.Headline plan k.reached.steps
    headline = laws.every_run plan k.reached.steps ok

    pub is_serial : IsSerial plan c headline.heap
    is_serial =
        let of_world : SerialFromOpening plan.accepted (map call_of w.history) (map answer_of w.history) headline.heap =
        subst (λ (v : World). SerialFromOpening plan.accepted (map call_of v.history) (map answer_of v.history) headline.heap) k.reached.is headline.results_and_prints in
        subst (λ (hs : List Entry). SerialFromOpening plan.accepted (map (λ (e : Entry). e.call) hs) (map (λ (e : Entry). e.answer) hs) headline.heap) k.stands.history
        (subst (λ es. SerialFromOpening plan.accepted (map (λ (e : Entry). e.call) (map entry_of w.history)) es headline.heap) (sym (answers_are w.history))
        (subst (λ is. SerialFromOpening plan.accepted is (map answer_of w.history) headline.heap) (sym (calls_are w.history)) of_world))

    world_size : length w.cells ≡ length plan.program.cells.items
    world_size = ap (λ (v : World). length v.cells) (sym k.reached.is) ∙ headline.all_cells

    -- the world has a cell whose lock no thread has locked
    free_there : (cell : ℕ) (lock : Lock) → lock_of_cell plan.program cell ≡ Some lock → is_locked c.threads lock ≡ false →
        (v : Value) × (slice_get w.cells cell ≡ Some (Some v))
    free_there cell lock of free =
        let listed : slice_get plan.layout.cell_locks cell ≡ Some lock = ok.laid_out.cell_locks cell ∙ of in
        let less : cell < length plan.layout.cell_locks = slice_get_within plan.layout.cell_locks cell lock listed in
        let many = ok.laid_out.cells in
        let size = world_size in
        let there = get_some w.cells cell (omega (arith, less, many, size)) in
        by listed there.0 there.1
      where
        by : slice_get plan.layout.cell_locks cell ≡ Some lock → (o : Option Value) → slice_get w.cells cell ≡ Some o → (v : Value) × (slice_get w.cells cell ≡ Some (Some v))
        by listed (Some v) e = (v, e)
        by listed None e =
            absurd (let holder = k.reached.sound.somewhere cell e in
            let mine = (k.reached.sound.well holder.0 holder.1 holder.2).only cell holder.3 in
            let same : Some mine.0 ≡ Some lock = sym mine.1 ∙ listed in
            let as_one : mine.0 ≡ lock = cc same in
            let s = section_is plan w c k.stands holder.0 holder.1 holder.2 in
            nobody_locked c.threads holder.0 s.x lock free s.runs.at
            (ap (λ xs. among xs lock) (sym s.stands.locks) ∙ subst (λ l. among holder.1.held l ≡ true) as_one mine.2))

    pub free_are : FreeCellsAre plan c headline.heap
    free_are cell lock of free =
        let there = free_there cell lock of free in
        let of_world : slice_get (final plan k.reached.steps).cells cell ≡ Some (Some there.0) = ap (λ (v : World). slice_get v.cells cell) k.reached.is ∙ there.1 in
        k.stands.free cell there.0 there.1 ∙ sym (headline.free_cells cell there.0 of_world)

    pub has_entries : HasEntries plan c
    has_entries = record {
      returned = k.order.returned;
      scripted = λ p e i. (k.order.entries p e i).scripted;
      begun = λ p e i. (k.order.entries p e i).begun;
      once = k.order.once;
    }

    -- ---- numbers

    abbrev heap_now : List Value
    heap_now = committed plan.layout.opening w.history

    cell_fits : (cell : ℕ) (v : Value) → slice_get c.cells cell ≡ Some v → IsFitting v
    cell_fits cell v at =
        let less : cell < length c.cells = slice_get_within c.cells cell v at in
        let size = k.stands.size in
        let there = get_some w.cells cell (omega (arith, less, size)) in
        by there.0 there.1
      where
        by : (o : Option Value) → slice_get w.cells cell ≡ Some o → IsFitting v
        by (Some u) e =
            let same : u ≡ v = same_value (slice_get c.cells cell) u v (k.stands.free cell u e) at in
            subst IsFitting same (get_fits heap_now cell u (history_fits laws.waits.runs plan ok short base w c k) (k.reached.sound.values cell u e))
        by None e =
            let holder = k.reached.sound.somewhere cell e in
            let held_value = holder.3 in
            let s = section_is plan w c k.stands holder.0 holder.1 holder.2 in
            let same : held_value.0 ≡ v = same_value (slice_get c.cells cell) held_value.0 v (s.sees cell held_value.0 held_value.1) at in
            let fits = held_fits plan ok short holder.1 heap_now (open_fits laws.waits.runs plan ok short base w c k holder.0 holder.1 holder.2) in
            subst IsFitting same (get_fits (overwritten heap_now holder.1.machine.memory.writes) cell held_value.0 fits
            ((k.reached.sound.fit holder.0 holder.1 holder.2).part.now cell held_value.0 held_value.1))

    pub numbers : NumbersFit plan c
    numbers = record {
      cells = all_fit c.cells cell_fits;
      variables = λ t x call locks h e. (let r = call_at_progress plan w c k.stands t x call (Taking locks) h e in
          let go = r.2.3 in
          let out = ap (λ (a : Activation). a.outcome) go.is in
          let fit = machine_fits plan ok short r.2.1 heap_now out (open_fits laws.waits.runs plan ok short base w c k t r.2.1 (r.0, r.1, r.2.2)) in
          subst (λ (a : Activation). AreFitting a.machine.locals) go.is fit.locals);
      operands = λ t x call locks a v h e has is. (let r = call_at_progress plan w c k.stands t x call (Taking locks) h e in
          let go = r.2.3 in
          let out = ap (λ (a : Activation). a.outcome) go.is in
          let fit = stack_fits laws.waits.runs plan ok short base w c k t r.2.1 (r.0, r.1, r.2.2) out in
          operand_fits (spots_at plan call.call.section call.place).operands call.variables call.temporaries go.stack a v go.hold
          (subst (λ (a : Activation). AreFitting a.machine.stack) go.is fit) has is);
    }

  -- ---- the whole

  states_more : (s : State) (xs ys : List ℕ) → state_after plan s (xs ++ ys) ≡ state_after plan (state_after plan s xs) ys
  states_more s [] ys = refl
  states_more s (t ∷ xs) ys = states_more (happens_in_c plan s t) xs ys

  later_orders : (steps : List ℕ) (base : WorldInC) (w : World) (c : WorldInC) → Kept plan base w c → Reaches plan steps c → (more : List ℕ) (later : WorldInC) →
      Reaches plan (steps ++ more) later → EndsInOrder c later
  later_orders steps base w c k at more later at' =
      let r = comes laws.waits.runs plan ok short c more w c (again plan base w c k) in
      let both : At later ≡ At r.now = sym at' ∙ (states_more (At (opening_in_c plan)) steps more ∙ (ap (λ s. state_after plan s more) at ∙ r.is)) in
      let same : r.now ≡ later = sym (cc both) in
      subst (EndsInOrder c) same (ends_in_order plan c r.now r.kept.order (from_here plan base c k.order) r.old)

  pub run_in_c : (steps : List ℕ) → (w : WorldInC) × Reaches plan steps w × HeadlineInC plan steps w
  run_in_c steps =
      let r = comes laws.waits.runs plan ok short (opening_in_c plan) steps _ _ (opening_kept laws.waits.runs plan ok) in
      let k = r.kept in
      let base = opening_in_c plan in (
        r.now,
        r.is,
        record {
          heap = (headline base r.w r.now k).heap;
          answers = is_serial base r.w r.now k;
          free_cells = free_are base r.w r.now k;
          all_cells = k.stands.size ∙ world_size base r.w r.now k;
          entries = has_entries base r.w r.now k;
          order = later_orders steps (opening_in_c plan) r.w r.now k r.is;
          covered = covered laws.waits.runs plan ok short base r.w r.now k;
          apart = apart laws.waits.runs plan ok short base r.w r.now k;
          no_races = no_races laws.waits.runs plan ok short base r.w r.now k;
          given_back = given_back plan r.w r.now k.stands;
          no_cycle = no_cycle laws.waits plan ok short base r.w r.now k;
          goes_on = someone_goes_on laws.waits plan ok short base r.w r.now k;
          numbers = numbers base r.w r.now k;
        },
      )

pub every_run_is_of_worlds : RunLaws → EveryRunIsOfWorlds
every_run_is_of_worlds laws plan steps ok short =
    let r = comes laws plan ok short (opening_in_c plan) steps _ _ (opening_kept laws plan ok) in
    (r.now, r.is, r.kept.reached.steps, subst (λ (v : World). WorldStandsFor v r.now) (sym r.kept.reached.is) (world_stands plan r.w r.now r.kept.stands))

pub every_run_in_c : ClaimLaws → EveryRunInC
every_run_in_c laws plan steps ok short = run_in_c laws plan ok short steps
