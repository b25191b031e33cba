-- Each step of a thread in C is defined, and is one step or no step of the world that stands for it.
use Rattle.std.proofs.Common.{◌≡◌, ◌≢◌, ℕ, ◌+◌, true, false, if◌then◌else◌, List, [], ◌∷◌, ◌++◌, length, map, Option, Some, None}
use Rattle.std.proofs.Common.{slice_get, set, refl, sym, ap, ◌∙◌, subst, inl, inr}
use Rattle.std.specs.Prelude.{⊤}
use Rattle.std.specs.Option.{option_map_or}
use Rattle.std.proofs.lemmas.List.{length-map, map-append, length_push, append-nil}
use Rattle.core_lang.specs.declared.value.Value.{Value}
use Rattle.core_lang.specs.declared.value.Outcome.{Outcome}
use Rattle.core_lang.specs.declared.tree.Section.{Section}
use Rattle.core_lang.specs.Serial.{Invocation}
use Rattle.locks.specs.declared.lock.Lock.{Lock}
use Rattle.locks.specs.Locks.{among}
use Rattle.locks.specs.Order.{PrecedesIsStrict}
use Rattle.locks.specs.Theory.Order.{among_contains}
use Rattle.layout.specs.LockCells.{cells_of}
use Rattle.code.specs.declared.instr.Instr.{Instr}
use Rattle.code.specs.declared.instr.Instr.TheVariants as instr
use Rattle.code.specs.Machine.{Undefined, act}
use Rattle.code.specs.Memory.{HeldCells, value_at, load_held, store_held, load_from, store_to}
use Rattle.lowering.specs.Plans.{Plan, IsCompiled}
use Rattle.worlds.specs.Worlds.{World, ThreadState, Activation, HasOpen, activation, code_at, call_at, happens, opening_world}
use Rattle.worlds.specs.Worlds.{section_at, with_active, next_effect, instructed, granted, taken, without, with_back, commit}
use Rattle.worlds.specs.Theory.Steps.{steps_more}
use Rattle.worlds.specs.Working.States.{IsWell, StepsKeepSound}
use Rattle.worlds.specs.Working.Ahead.{IsReady, WorldsStayReady}
use Rattle.c_language.specs.Meaning.{After, Next, At_label, At_end, Anything}
use Rattle.c_language.specs.Alike.{AreFitting, IsLow, Hold}
use Rattle.c_language.specs.Plans.{SectionsHavePlans}
use Rattle.c_language.specs.Runs.{begin_group, GroupsLeadOn, IsAcquire}
use Rattle.c_threads.specs.Locking.{given_back, NotesAre}
use Rattle.c_threads.specs.Working.Noted.{IsNoted, NotesStay}
use Rattle.c_threads.specs.LockClaims.{EndsGiveBackWhatIsHeld}
use Rattle.c_threads.specs.Threads.{Entry, Progress, Taking, Over, Leaving, CallInC, ThreadInC, WorldInC, Step, Idle, Waits, Goes, Breaks}
use Rattle.c_threads.specs.Threads.{with_thread, with_call, without_lock, unlocks, behind, come, acquires, does, group_in, frame, begun_call, answer, entry, ends, step, is_locked, spots_at}
use Rattle.c_threads.specs.Threads.{with_locked, now_at, given_at}
use Rattle.c_threads.specs.Claims.{Runs, entry_of}
use Rattle.c_threads.proofs.Lists.{set_there, none_among}
use Rattle.c_threads.proofs.Turns.{answered, Turn, idles, starts, relocks, waits, gets, moves, over, gives, returns, turn}
use Rattle.c_threads.proofs.Shared.{Sees, Kept, kept_same, some_or_none}
use Rattle.c_threads.proofs.Worlds.{happens_begins, happens_gets, happens_ends, happens_moves, taken_only, without_some, length-without, back_some, length-with_back}
use Rattle.c_threads.proofs.Beside.{GoesOn, in_world, Behind, group_stands, acquire_stands, call_begins, call_gets}
use Rattle.c_threads.proofs.Giving.{GivesBack, all_given_back}
use Rattle.c_threads.proofs.Stands.{Reached, CallStands, ThreadStands, Stands, thread_of, seen_on, none_holds, changed_stands, same_world}

pub record StepLaws : Type 0 where
  pub locks : NotesStay
  pub groups : GroupsLeadOn HeldCells
  pub plans : SectionsHavePlans ℕ
  pub sound : StepsKeepSound
  pub ready : WorldsStayReady
  pub strict : PrecedesIsStrict
  pub given : EndsGiveBackWhatIsHeld

module _ (laws : StepLaws) (plan : Plan) (ok : IsCompiled plan) where
  -- ---- steps of the world

  pub reached_on : (w : World) (t : ℕ) → Reached plan w → Reached plan (happens plan w t).1
  reached_on w t r = record {
    steps = r.steps ++ t ∷ [];
    is = steps_more plan (opening_world plan) r.steps (t ∷ []) ∙ ap (λ v. (happens plan v t).1) r.is;
    sound = laws.sound plan w t ok r.sound;
    ready = laws.ready.step plan w t ok r.sound r.ready;
  }

  -- what a step in C needs: it leads to a world in C that stands for a reached world
  abbrev pub Follows : Step → Type 0
  Follows Idle = ⊤
  Follows (Waits lock) = ⊤
  Follows (Goes next) = (w : World) × Reached plan w × Stands plan w next
  Follows Breaks = ⊥

  module _ (w : World) (c : WorldInC) (r : Reached plan w) (s : Stands plan w c) (t : ℕ) where
    -- a step of the world's thread, which leads to this world
    by_step : (now : World) (next : WorldInC) → (happens plan w t).1 ≡ now → Stands plan now next → Follows (Goes next)
    by_step now next e st = (now, subst (Reached plan) e (reached_on w t r), st)

    -- no step of the world
    by_none : (next : WorldInC) → Stands plan w next → Follows (Goes next)
    by_none next st = (w, r, st)

    others_stay : (u : ℕ) (other : ThreadState) (y : ThreadInC) → t ≢ u → slice_get w.threads u ≡ Some other → slice_get c.threads u ≡ Some y →
        ThreadStands plan c.cells other y y.active → ThreadStands plan c.cells other y y.active
    others_stay u other y ne a b h = h

    -- the relation of a thread to its thread in C, by the active call of the latter
    stands_at : (x : ThreadInC) (thread : ThreadState) (o : Option CallInC) → slice_get c.threads t ≡ Some x → slice_get w.threads t ≡ Some thread →
        x.active ≡ o → ThreadStands plan c.cells thread x o
    stands_at x thread o at at' is = subst (ThreadStands plan c.cells thread x) is (s.threads t thread x at' at)

    call_stands : (x : ThreadInC) (thread : ThreadState) (call : CallInC) (p : Progress) → Runs c t x call → slice_get w.threads t ≡ Some thread →
        call.progress ≡ p → CallStands plan c.cells thread x call p
    call_stands x thread call p h at' e = subst (CallStands plan c.cells thread x call) e (stands_at x thread (Some call) h.at at' h.is)

    -- ---- a call begins

    begins : (x : ThreadInC) (call : Invocation) → slice_get c.threads t ≡ Some x → x.active ≡ None → call_at plan t (length x.answers) ≡ Some call →
        Follows (Goes (with_call c t x (begun_call plan (length c.history) call)))
    begins x call at none called =
        let mine = thread_of plan w c s t x at in
        let thread = mine.0 in
        let h = stands_at x thread None at mine.1 none in
        let long : length w.history ≡ length c.history = sym (length-map w.history entry_of) ∙ ap length s.history in
        let section = activation plan (length w.history) call in
        let now : ThreadState = record { step = thread.step; active = Some section } in
        let leads = happens_begins plan w t thread mine.1 call h.1 (ap (call_at plan t) h.0 ∙ called) in
        let reached : Reached plan (with_active w t thread section) = subst (Reached plan) leads (reached_on w t r) in
        let ready : IsReady plan section = reached.ready.sections t section (now, set_there w.threads t thread now mine.1, refl) in
        let go = call_begins laws.locks laws.plans plan (length w.history) call c.cells ok ready in
        by_step _ (with_call c t x (begun_call plan (length c.history) call)) leads
        (subst (λ n. Stands plan (with_active w t thread (activation plan (length w.history) call)) (with_call c t x (begun_call plan n call))) long
        (changed_stands plan w c t (record { step = thread.step; active = Some (activation plan (length w.history) call) })
        (record x { active = Some (begun_call plan (length w.history) call) }) w.cells c.cells w.history c.history s (record {
          history = s.history;
          size = s.size;
          free = s.free;
          mine = (
            h.0,
            activation plan (length w.history) call,
            refl,
            subst (λ locked. GoesOn plan c.cells locked (begun_call plan (length w.history) call) [] (activation plan (length w.history) call)) (sym h.2) go,
          );
          others = others_stay;
        })))

    -- ---- locks

    -- a thread does not ask for a lock that it has locked
    no_relock : (x : ThreadInC) (call : CallInC) (lock : Lock) (rest : List Lock) → Runs c t x call → call.progress ≡ Taking (lock ∷ rest) →
        among x.locked lock ≡ true → ⊥
    no_relock x call lock rest h e m =
        let mine = thread_of plan w c s t x h.at in
        let st = call_stands x mine.0 call (Taking (lock ∷ rest)) h mine.1 e in
        let a = st.1 in
        let held : among a.held lock ≡ true = ap (λ (b : Activation). among b.held lock) st.3.is ∙ m in
        laws.strict.not_itself plan.ranks lock
        (laws.ready.rises plan w r.ready t a lock lock rest (mine.0, mine.1, st.2) (ap (λ (b : Activation). b.pending) st.3.is) (among_contains a.held lock held))

    grants : (x : ThreadInC) (call : CallInC) (lock : Lock) (rest : List Lock) → Runs c t x call → call.progress ≡ Taking (lock ∷ rest) →
        is_locked c.threads lock ≡ false → Follows (Goes (with_locked c t x (x.locked ++ lock ∷ []) (now_at call (Taking rest))))
    grants x call lock rest h e free =
        let mine = thread_of plan w c s t x h.at in
        let thread = mine.0 in
        let st = call_stands x thread call (Taking (lock ∷ rest)) h mine.1 e in
        let a = st.1 in
        let cells = cells_of plan.layout.cell_locks lock in
        by_step _ (with_locked c t x (x.locked ++ lock ∷ []) (now_at call (Taking rest)))
        (happens_gets plan w t thread mine.1 a st.2 lock rest (ap (λ (b : Activation). b.pending) st.3.is) (none_holds plan w c s lock free))
        (changed_stands plan w c t (record { step = thread.step; active = Some (granted a lock rest (taken w.cells cells)) })
        (record x { locked = x.locked ++ lock ∷ []; active = Some (now_at call (Taking rest)) }) (without w.cells cells) c.cells w.history c.history s (record {
          history = s.history;
          size = s.size ∙ sym (length-without w.cells cells);
          free = λ cell v i. s.free cell v (without_some w.cells cells cell v i);
          mine = (
            st.0,
            granted a lock rest (taken w.cells cells),
            refl,
            call_gets laws.locks plan c.cells x.locked call lock rest a (taken w.cells cells) st.3 (laws.locks.typed plan w lock r.sound r.ready)
                (λ cell v i. s.free cell v (taken_only w.cells cells cell v i)),
          );
          others = others_stay;
        }))

    -- the calls of AL_UNLOCK are for locks that are locked
    record Unlocks (from : WorldInC) (x : ThreadInC) (call : CallInC) (outcome : Outcome) (locks : List Lock) : Type 0 where
      locked : List Lock
      left : List Lock
      is : unlocks from t x call outcome locks
          ≡ Goes (with_thread from t (record x { locked = locked; active = Some (now_at call (Leaving outcome left)) }))
      gives : GivesBack locked left

    unlocks_go : (from : WorldInC) (x : ThreadInC) (call : CallInC) (outcome : Outcome) (locks : List Lock) → GivesBack x.locked locks →
        Unlocks from x call outcome locks
    unlocks_go from x call outcome [] g = record { locked = x.locked; left = []; is = refl; gives = g }
    unlocks_go from x call outcome (lock ∷ rest) g = record {
      locked = without_lock x.locked lock;
      left = rest;
      is = ap (λ b. if b then Goes (with_thread from t (record x { locked = without_lock x.locked lock; active = Some (now_at call (Leaving outcome rest)) })) else Breaks) g.0;
      gives = g.1;
    }

    gives_back : (x : ThreadInC) (call : CallInC) (outcome : Outcome) (locks : List Lock) → Runs c t x call → call.progress ≡ Leaving outcome locks →
        Follows (unlocks c t x call outcome locks)
    gives_back x call outcome locks h e =
        let mine = thread_of plan w c s t x h.at in
        let st = call_stands x mine.0 call (Leaving outcome locks) h mine.1 e in
        let u = unlocks_go c x call outcome locks st.2 in
        subst Follows (sym u.is)
        (by_none _ (same_world plan w c t mine.0 (record x { locked = u.locked; active = Some (now_at call (Leaving outcome u.left)) }) s mine.1
        (st.0, st.1, u.gives)))

    comes_back : (x : ThreadInC) (call : CallInC) (outcome : Outcome) → Runs c t x call → call.progress ≡ Leaving outcome [] →
        Follows (Goes (with_thread c t (answered x call outcome)))
    comes_back x call outcome h e =
        let mine = thread_of plan w c s t x h.at in
        let st = call_stands x mine.0 call (Leaving outcome []) h mine.1 e in
        let many = length_push x.answers (answer call outcome) in
        by_none _ (same_world plan w c t mine.0 (answered x call outcome) s mine.1 (st.0 ∙ sym many, st.1, none_among x.locked st.2))

    -- ---- the end

    finishes : (x : ThreadInC) (call : CallInC) (outcome : Outcome) → Runs c t x call → call.progress ≡ Over outcome →
        Follows (ends plan c t x call outcome)
    finishes x call outcome h e =
        let mine = thread_of plan w c s t x h.at in
        let thread = mine.0 in
        let st = call_stands x thread call (Over outcome) h mine.1 e in
        let a = st.1 in
        let over = st.3 in
        let section = over.noted.section in
        let notes : NotesAre plan.program section call.notes x.locked = subst (NotesAre plan.program section call.notes)
        (ap (λ locks. a.held ++ locks) over.pending ∙ (append-nil a.held ∙ over.held)) over.noted.are in
        let from : WorldInC = record c { history = c.history ++ entry t x call outcome ∷ [] } in
        let back : given_at plan call ≡ given_back plan.program section call.notes =
        ap (λ o. option_map_or (λ (z : Section). given_back plan.program z call.notes) o [])
        (ap (λ (z : Invocation). section_at plan z.section) (sym over.call) ∙ over.noted.is) in
        let u = unlocks_go from x call outcome (given_at plan call) (subst (GivesBack x.locked) (sym back)
        (all_given_back laws.given plan.program section call.notes x.locked ok.well_formed notes)) in
        let made : entry_of (commit t thread.step a outcome) ≡ entry t x call outcome =
        λ i. record { thread = t; step = st.0 i; call = over.call i; begun = over.begun i; answer = record { outcome = outcome; prints = over.prints i } } in
        let entries : map entry_of (w.history ++ commit t thread.step a outcome ∷ []) ≡ c.history ++ entry t x call outcome ∷ [] =
        map-append entry_of w.history (commit t thread.step a outcome ∷ []) ∙ (ap (λ hs. hs ++ entry_of (commit t thread.step a outcome) ∷ []) s.history
        ∙ ap (λ (d : Entry). c.history ++ d ∷ []) made) in
        subst Follows (sym u.is)
        (by_step _ _ (happens_ends plan w t thread mine.1 a st.2 outcome over.pending over.outcome)
        (changed_stands plan w c t (record { step = thread.step + 1; active = None })
        (record x { locked = u.locked; active = Some (now_at call (Leaving outcome u.left)) }) (with_back w.cells a.machine.memory.cells) c.cells
        (w.history ++ commit t thread.step a outcome ∷ []) (c.history ++ entry t x call outcome ∷ []) s (record {
          history = entries;
          size = s.size ∙ sym (length-with_back w.cells a.machine.memory.cells);
          free = λ cell v i. elim (back_some w.cells a.machine.memory.cells cell v i) [ inl q ↦ over.sees cell v q | inr q ↦ s.free cell v q ];
          mine = (ap (λ n. n + 1) st.0, refl, u.gives);
          others = others_stay;
        })))

    -- ---- groups

    module _ (fits : (a : Activation) → HasOpen w t a → a.outcome ≡ None → AreFitting a.machine.stack) (x : ThreadInC) (call : CallInC)
        (h : Runs c t x call) (e : call.progress ≡ Taking []) (thread : ThreadState) (at : slice_get w.threads t ≡ Some thread) (stack : List Value)
        (memory : HeldCells) (sees : Sees c.cells memory) (step : thread.step ≡ length x.answers)
        (active : thread.active ≡ Some (in_world call x.locked [] stack memory)) where
      abbrev here : Activation
      here = in_world call x.locked [] stack memory

      opened : HasOpen w t here
      opened = (thread, at, active)

      well : IsWell plan here
      well = r.sound.well t here opened

      -- this section does not hold a cell that another one holds
      not_mine : (u : ℕ) (other : ThreadState) (b : Activation) (cell : ℕ) (v : Value) → t ≢ u → slice_get w.threads u ≡ Some other →
          other.active ≡ Some b → value_at b.machine.memory.cells cell ≡ Some v → value_at memory.cells cell ≡ None
      not_mine u other b cell v ne at' is there = elim (some_or_none (value_at memory.cells cell)) [
        | inl mine ↦ (let theirs = (r.sound.well u b (other, at', is)).only cell (v, there) in
            let ours = well.only cell mine in
            let same : Some theirs.0 ≡ Some ours.0 = sym theirs.1 ∙ ours.1 in
            let lock : theirs.0 ≡ ours.0 = cc same in
            absurd (ne (r.sound.apart t u here b ours.0 opened (other, at', is) ours.2 (subst (λ l. among b.held l ≡ true) lock theirs.2))))
        | inr none ↦ none
      ]

      -- this section does not hold a cell that the world has
      not_free : (cell : ℕ) (v : Value) → slice_get w.cells cell ≡ Some (Some v) → value_at memory.cells cell ≡ None
      not_free cell v there = elim (some_or_none (value_at memory.cells cell)) [
        | inl mine ↦ absurd (let away = (r.sound.fit t here opened).moved cell mine in
            let same : Some (Some v) ≡ Some None = sym there ∙ away in
            let none : Some v ≡ None = cc same in
            cc none)
        | inr none ↦ none
      ]

      -- the section after an instruction, and the call after its group, which wrote to this memory
      arrives : (now : Activation) (next : CallInC) (mem : List Value) (held : HeldCells) → instructed plan here (next_effect plan here) ≡ now →
          Kept c.cells memory mem held →
          CallStands plan mem (record { step = thread.step; active = Some now }) (record x { active = Some next }) next next.progress →
          Follows (Goes (with_call (record c { cells = mem }) t x next))
      arrives now next mem held is kept mine =
          by_step _ _ (happens_moves plan w t thread at here active refl refl)
          (subst (λ (a : Activation). Stands plan
          (record w { threads = set w.threads t (record { step = thread.step; active = Some a }) }) (with_call (record c { cells = mem }) t x next)) (sym is)
          (changed_stands plan w c t (record { step = thread.step; active = Some now }) (record x { active = Some next }) w.cells mem w.history c.history s (record {
            history = s.history;
            size = kept.size ∙ s.size;
            free = λ cell v i. (kept.others cell (not_free cell v i)).1 ∙ s.free cell v i;
            mine = mine;
            others = λ u other y ne a b old. seen_on plan c.cells mem other y y.active
                (λ section cell v opens there. (kept.others cell (not_mine u other section cell v ne a opens there)).1) old;
          })))

      abbrev now : Activation
      now = instructed plan here (next_effect plan here)

      leads : (y : After (List Value)) → Behind plan c.cells memory x.locked call now y → Follows (behind c t x call y)
      leads (Next g) b =
          arrives now (come call (call.place + 1) g) g.memory b.0.memory refl b.1
          (subst (CallStands plan g.memory (record { step = thread.step; active = Some now })
          (record x { active = Some (come call (call.place + 1) g) }) (come call (call.place + 1) g)) (sym e) (step, now, refl, b.0))
      leads (At_label label g) b =
          arrives now (come call label g) g.memory b.0.memory refl b.1
          (subst (CallStands plan g.memory (record { step = thread.step; active = Some now })
          (record x { active = Some (come call label g) }) (come call label g)) (sym e) (step, now, refl, b.0))
      leads (At_end outcome g) b =
          arrives now (now_at (come call call.place g) (Over outcome)) g.memory now.machine.memory refl b.1 (step, now, refl, b.0)
      leads Anything b = b

      module _ (low : IsLow (spots_at plan call.call.section call.place).operands) (hold : Hold (spots_at plan call.call.section call.place).operands call.variables call.temporaries stack)
          (noted : IsNoted plan here call.notes) where
        some : next_effect plan here ≡ Undefined → ⊥
        some = (laws.ready.next plan w ok r.sound r.ready t here opened refl refl).defined

        group : (i : Instr) → (IsAcquire i → ⊥) → slice_get (code_at plan call.call.section) call.place ≡ Some i →
            Follows (behind c t x call (begin_group load_from store_to plan.program (group_in plan call.call.section call.place i) (frame call c.cells)))
        group i other is =
            leads (begin_group load_from store_to plan.program (group_in plan call.call.section call.place i) (frame call c.cells))
            (group_stands laws.locks plan ok c.cells x.locked call stack memory sees well noted laws.groups laws.plans low hold i other is
            (fits here opened refl) some)

        instruction : (o : Option Instr) → slice_get (code_at plan call.call.section) call.place ≡ o → Follows (does plan c t x call o)
        instruction None is = absurd (some (ap (λ o. act load_held store_held plan.program.shape o here.machine) is))
        instruction (Some (instr.Acquire point)) is =
            let a = acquire_stands laws.locks plan ok c.cells x.locked call stack memory sees well noted laws.groups laws.plans low hold point is in
            let next : CallInC = record call { place = call.place + 1; notes = a.now.notes; progress = Taking a.now.calls } in
            subst (λ o. Follows (acquires c t x call o)) (sym a.is)
            (arrives now next c.cells memory refl (kept_same c.cells memory memory sees refl) (step, now, refl, a.go))
        instruction (Some i) is = group i (λ other. other) is

    moved_on : ((a : Activation) → HasOpen w t a → a.outcome ≡ None → AreFitting a.machine.stack) → (x : ThreadInC) (call : CallInC) →
        Runs c t x call → call.progress ≡ Taking [] → Follows (does plan c t x call (slice_get (code_at plan call.call.section) call.place))
    moved_on fits x call h e =
        let mine = thread_of plan w c s t x h.at in
        let st = call_stands x mine.0 call (Taking []) h mine.1 e in
        let go = st.3 in
        instruction fits x call h e mine.0 mine.1 go.stack go.memory go.sees st.0 (st.2 ∙ ap (λ (a : Activation). Some a) go.is) go.low go.hold
        (subst (λ (a : Activation). IsNoted plan a call.notes) go.is go.noted) (slice_get (code_at plan call.call.section) call.place) refl

    -- ---- all

    turn_follows : ((a : Activation) → HasOpen w t a → a.outcome ≡ None → AreFitting a.machine.stack) → (y : Step) → Turn plan c t y → Follows y
    turn_follows fits y idles = tt
    turn_follows fits y (starts {x} {call} at none called) = begins x call at none called
    turn_follows fits y (relocks {x} {c = call} {lock} {rest} h e m) = no_relock x call lock rest h e m
    turn_follows fits y (waits h e m a) = tt
    turn_follows fits y (gets {x} {c = call} {lock} {rest} h e free) = grants x call lock rest h e free
    turn_follows fits y (moves {x} {c = call} h e) = moved_on fits x call h e
    turn_follows fits y (over {x} {c = call} {outcome} h e) = finishes x call outcome h e
    turn_follows fits y (gives {x} {c = call} {outcome} {lock} {rest} h e) = gives_back x call outcome (lock ∷ rest) h e
    turn_follows fits y (returns {x} {c = call} {outcome} h e) = comes_back x call outcome h e

    pub step_follows : ((a : Activation) → HasOpen w t a → a.outcome ≡ None → AreFitting a.machine.stack) → Follows (step plan c t)
    step_follows fits = turn_follows fits (step plan c t) (turn plan c t)
