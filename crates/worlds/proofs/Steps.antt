-- Each step keeps a world sound.
use Rattle.std.proofs.Common.{◌≡◌, ◌⊎◌, ◌<◌, ℕ, zero, suc, ◌+◌, Bool, true, false, if◌then◌else◌, List, [], ◌∷◌, ◌++◌}
use Rattle.std.proofs.Common.{length, map, Option, Some, None, slice_get, refl, sym, ap, ◌∙◌, subst, arith, inl, inr}
use Rattle.std.proofs.Common.{true≢false}
use Rattle.std.proofs.lemmas.List.{length-map}
use Rattle.std.proofs.lemmas.Bool.{cases_eq}
use Rattle.std.proofs.lemmas.Option.{slice_get_within}
use Rattle.std.specs.Option.{option_map_or}
use Rattle.core_lang.specs.declared.value.Value.{Value}
use Rattle.core_lang.specs.declared.value.Outcome.{Outcome}
use Rattle.core_lang.specs.declared.tree.Section.{Section}
use Rattle.core_lang.specs.declared.typed.Typed.{Typed}
use Rattle.core_lang.specs.Serial.{Invocation, invocation}
use Rattle.core_lang.specs.Typing.{Fit}
use Rattle.core_lang.specs.WellFormed.{IsWellFormed, CanCall}
use Rattle.core_lang.specs.Theory.Items.{map_back}
use Rattle.locks.specs.declared.lock.Lock.{Lock}
use Rattle.layout.specs.LockCells.{cells_of}
use Rattle.code.specs.Memory.{value_at, overwritten}
use Rattle.history.specs.Commits.{committed}
use Rattle.lowering.specs.Plans.{Plan, IsCompiled}
use Rattle.worlds.specs.declared.event.Event.{Event}
use Rattle.locks.specs.Locks.{among}
use Rattle.worlds.specs.Worlds.{World, ThreadState, Activation, activation, commit, granted, taken, without, with_back}
use Rattle.worlds.specs.Worlds.{holds, holder_from, holder, instructed, next_effect, script_of, scripts, call_at}
use Rattle.worlds.specs.Worlds.{section_at, at_first, happens, opening_world, HasOpen}
use Rattle.worlds.specs.Working.States.{IsWell, IsFit, IsSound}
use Rattle.worlds.specs.Claims.{HoldsCell}
use Rattle.worlds.proofs.Turns.{Active, Turn, idles, starts, gets, waits, over, moves, turn, same_open}
use Rattle.worlds.proofs.Cells.{among_more, among_last, among_push, cells_of_has, cells_of_only, taken_only, taken_has}
use Rattle.worlds.proofs.Cells.{some_or_none, length-without, without_some, without_none, without_none_cases}
use Rattle.worlds.proofs.Cells.{length-with_back, back_other, back_some, back_none, overwritten_cong, agrees_kept}
use Rattle.worlds.proofs.Sound.{ElsewhereHeld, changed, sound_changed}
use Rattle.worlds.proofs.Well.{Laws, cells_are, well_instructed, Alike, alike_instructed, well_asked, well_begun}
use Rattle.worlds.proofs.Well.{unwritten_of, well_granted, fit_granted, true_commit}

-- ---- the calls of a script

pub can_call : (program : Typed) (k : ℕ) (arguments : List Value) → CanCall program k arguments →
    (section : Section) × (slice_get program.sections.items k ≡ Some section) × Fit program section arguments
unfolding CanCall
can_call program k arguments c = c

pub section_of_call : (plan : Plan) → IsWellFormed plan.program → (t step : ℕ) (call : Invocation) →
    call_at plan t step ≡ Some call →
    (section : Section) × (section_at plan call.section ≡ Some section) × Fit plan.program section call.arguments
section_of_call plan well t step call h = elim (some_or_none (slice_get (scripts plan) t)) [
  | inl s ↦ (let inside : slice_get s.0 step ≡ Some call =
      sym (ap (λ x. option_map_or (λ (calls : List Invocation). slice_get calls step) x None) s.1) ∙ h in
      let thread = map_back script_of plan.program.threads.items t s.0 s.1 in
      let of_thread : slice_get (map invocation thread.0.calls.items) step ≡ Some call = ap (λ xs. slice_get xs step) thread.2 ∙ inside in
      let called = map_back invocation thread.0.calls.items step call of_thread in
      let found = can_call plan.program called.0.section called.0.arguments.items (well.scripts t step thread.0 called.0 thread.1 called.1) in (
        found.0,
        ap (λ (x : Invocation). section_at plan x.section) (sym called.2) ∙ found.1,
        subst (λ (x : Invocation). Fit plan.program found.0 x.arguments) called.2 found.2,
      ))
  | inr n ↦ absurd (let bad : None ≡ Some call = sym (ap (λ x. option_map_or (λ (calls : List Invocation). slice_get calls step) x None) n) ∙ h in cc bad)
]

-- ---- the holder of a lock

nobody : (n : ℕ) (threads : List ThreadState) (lock : Lock) → holder_from n threads lock ≡ None →
    (t : ℕ) (thread : ThreadState) (a : Activation) →
    slice_get threads t ≡ Some thread → thread.active ≡ Some a → among a.held lock ≡ true → ⊥
nobody n [] lock e t thread a at is held = cc
nobody n (x ∷ xs) lock e t thread a at is held =
    first (holds lock x) refl e t at (λ k f at'. nobody (n + 1) xs lock f k thread a at' is held) where
      first : (b : Bool) → holds lock x ≡ b → (if b then Some n else holder_from (n + 1) xs lock) ≡ None → (t : ℕ) →
          slice_get (x ∷ xs) t ≡ Some thread →
          ((k : ℕ) → holder_from (n + 1) xs lock ≡ None → slice_get xs k ≡ Some thread → ⊥) → ⊥
      first true e none t at go = cc none
      first false e none zero at go =
          let same : x ≡ thread = cc at in
          let h : holds lock x ≡ true = ap (holds lock) same ∙ (ap (λ y. option_map_or (λ (a : Activation). among a.held lock) y false) is ∙ held) in
          true≢false (sym h ∙ e)
      first false e none (suc t) at go = go t none at

-- ---- abbreviations

-- a cell is held by another thread, or by this thread's section
held_cases : (plan : Plan) (w : World) (t : ℕ) (thread : ThreadState) (a : Activation) → IsSound plan w →
    Active w t thread a → (c : ℕ) →
    slice_get w.cells c ≡ Some None → ElsewhereHeld w t c ⊎ HoldsCell a c
held_cases plan w t thread a s at c none =
    let found = s.somewhere c none in
    elim (cases_eq t found.0) [
      | inl e ↦ (let mine : HasOpen w t found.1 = (found.2.0, ap (slice_get w.threads) e ∙ found.2.1, found.2.2) in
          inr (subst (λ x. HoldsCell x c) (sym (same_open w t thread a found.1 at mine)) found.3))
      | inr ne ↦ inl (record { by = found.0; section = found.1; is_open = found.2; other = ne; holds = found.3 })
    ]

-- ---- the steps

-- the thread's section changes, but not the cells that it holds
keeps_cells : (plan : Plan) (w : World) (t : ℕ) (thread : ThreadState) (a b : Activation) → IsSound plan w →
    Active w t thread a → IsWell plan b →
    Alike (committed plan.layout.opening w.history) a b →
    IsSound plan (changed w t (record { step = thread.step; active = Some b }) w.cells w.history)
keeps_cells plan w t thread a b s at well like =
    let mine : HasOpen w t a = (thread, at.at, at.is) in
    let fit = s.fit t a mine in
    sound_changed plan w t (record { step = thread.step; active = Some b }) w.cells w.history s (record {
      before = thread;
      at = at.at;
      legal = s.legal;
      true_commits = s.true_commits;
      size = s.size;
      values = s.values;
      others = λ u x ne o. s.fit u x o;
      mine = λ x e. (let same : b ≡ x = cc e in
          subst (λ y. IsWell plan y × IsFit w.cells (committed plan.layout.opening w.history) y) same
          (well, record { moved = λ c h. fit.moved c (like.before c h); part = like.part fit.part }));
      apart = λ u x y lock ne e o hx hy. (let same : b ≡ x = cc e in
          ne (s.apart t u a y lock mine o (ap (λ z. among z lock) (sym like.held) ∙ (ap (λ z. among z.held lock) same ∙ hx)) hy));
      somewhere = λ c none. elim (held_cases plan w t thread a s at c none) [
        | inl h ↦ inl h
        | inr h ↦ inr (record { section = b; is_open = refl; holds = like.after c h })
      ];
    })

sound_starts : (plan : Plan) (w : World) (t : ℕ) (thread : ThreadState) (call : Invocation) → IsCompiled plan →
    IsSound plan w →
    slice_get w.threads t ≡ Some thread → thread.active ≡ None → call_at plan t thread.step ≡ Some call →
    IsSound plan (changed w t (record { step = thread.step; active = Some (activation plan (length w.history) call) }) w.cells w.history)
sound_starts plan w t thread call ok s at none called =
    let fresh = activation plan (length w.history) call in
    let section = section_of_call plan ok.well_formed t thread.step call called in
    sound_changed plan w t (record { step = thread.step; active = Some fresh }) w.cells w.history s (record {
      before = thread;
      at = at;
      legal = s.legal;
      true_commits = s.true_commits;
      size = s.size;
      values = s.values;
      others = λ u x ne o. s.fit u x o;
      mine = λ x e. (let same : fresh ≡ x = cc e in
          subst (λ y. IsWell plan y × IsFit w.cells (committed plan.layout.opening w.history) y) same (
            well_begun plan (length w.history) call section.0 section.1,
            record {
              moved = λ c h. absurd (let bad : None ≡ Some h.0 = h.1 in cc bad);
              part = record { now = λ c v h. absurd cc; reads = tt };
            },
          ));
      apart = λ u x y lock ne e o hx hy. (let same : fresh ≡ x = cc e in
          true≢false (sym (ap (λ z. among z.held lock) same ∙ hx)));
      somewhere = λ c away. (let found = s.somewhere c away in elim (cases_eq t found.0) [
        | inl e ↦ absurd (let as_one : Some thread ≡ Some found.2.0 = sym at ∙ (ap (slice_get w.threads) e ∙ found.2.1) in
            let same : thread ≡ found.2.0 = cc as_one in
            let bad : None ≡ Some found.1 = sym none ∙ (ap (λ x. x.active) same ∙ found.2.2) in cc bad)
        | inr ne ↦ inl (record { by = found.0; section = found.1; is_open = found.2; other = ne; holds = found.3 })
      ]);
    })

-- the cells of a lock that nobody holds are in the world
free_cells : (plan : Plan) → IsCompiled plan → (w : World) → IsSound plan w → (lock : Lock) → holder w lock ≡ None →
    (c : ℕ) →
    slice_get plan.layout.cell_locks c ≡ Some lock → (v : Value) × (slice_get w.cells c ≡ Some (Some v))
free_cells plan ok w s lock free c is =
    elim (some_or_none (slice_get w.cells c)) [
      | inl x ↦ elim (some_or_none x.0) [
        | inl v ↦ (v.0, x.1 ∙ ap (λ (y : Option Value). Some y) v.1)
        | inr n ↦ absurd (let found = s.somewhere c (x.1 ∙ ap (λ (y : Option Value). Some y) n) in
            let held = (s.well found.0 found.1 found.2).only c found.3 in
            let same : Some held.0 ≡ Some lock = sym held.1 ∙ is in
            let as_one : held.0 ≡ lock = cc same in
            nobody 0 w.threads lock free found.0 found.2.0 found.1 found.2.1 found.2.2 (subst (λ l. among found.1.held l ≡ true) as_one held.2))
      ]
      | inr n ↦ absurd (let less : c < length plan.layout.cell_locks = slice_get_within plan.layout.cell_locks c lock is in
          let there : c < length w.cells = (let one = cells_are plan ok in let two = s.size in omega (arith, less, one, two)) in
          missing w.cells c there n)
    ] where
      missing : {X : Type 0} (xs : List X) (c : ℕ) → c < length xs → slice_get xs c ≡ None → ⊥
      missing [] c less e = omega (arith, less)
      missing (x ∷ xs) zero less e = cc e
      missing (x ∷ xs) (suc c) less e = missing xs c (omega (arith, less)) e

sound_gets : Laws →
    (plan : Plan) (w : World) (t : ℕ) (thread : ThreadState) (a : Activation) (lock : Lock) (rest : List Lock) →
    IsCompiled plan →
    IsSound plan w → Active w t thread a → holder w lock ≡ None →
    IsSound plan (changed w t (record { step = thread.step; active = Some (granted a lock rest (taken w.cells (cells_of plan.layout.cell_locks lock))) })
    (without w.cells (cells_of plan.layout.cell_locks lock)) w.history)
sound_gets laws plan w t thread a lock rest ok s at free =
    let numbers = cells_of plan.layout.cell_locks lock in
    let b = granted a lock rest (taken w.cells numbers) in
    let mine : HasOpen w t a = (thread, at.at, at.is) in
    let locks = plan.layout.cell_locks in
    let has : (c : ℕ) → slice_get locks c ≡ Some lock → (v : Value) × (value_at (taken w.cells numbers) c ≡ Some v) =
    λ c is. (let v = free_cells plan ok w s lock free c is in
    (v.0, taken_has w.cells numbers c v.0 (cells_of_has locks lock c is) v.1)) in
    let well : IsWell plan b = well_granted plan a lock rest (taken w.cells numbers) (s.well t a mine)
    (λ c v h. cells_of_only locks lock c (taken_only w.cells numbers c v h).0) has in
    sound_changed plan w t (record { step = thread.step; active = Some b }) (without w.cells numbers) w.history s (record {
      before = thread;
      at = at.at;
      legal = s.legal;
      true_commits = s.true_commits;
      size = length-without w.cells numbers ∙ s.size;
      values = λ c v h. s.values c v (without_some w.cells numbers c v h);
      others = λ u x ne o. (let f = s.fit u x o in
          record { moved = λ c h. without_none w.cells numbers c (f.moved c h); part = f.part });
      mine = λ x e. (let same : b ≡ x = cc e in
          subst (λ y. IsWell plan y × IsFit (without w.cells numbers) (committed plan.layout.opening w.history) y) same
          (well, fit_granted laws plan a lock rest w.cells (committed plan.layout.opening w.history) (s.well t a mine) (s.fit t a mine) s.values));
      apart = λ u x y l ne e o hx hy. (let same : b ≡ x = cc e in
          elim (among_push a.held lock l (ap (λ z. among z.held l) same ∙ hx)) [
            | inl h ↦ ne (s.apart t u a y l mine o h hy)
            | inr h ↦ nobody 0 w.threads lock free u o.0 y o.1 o.2 (subst (λ k. among y.held k ≡ true) (sym h) hy)
          ]);
      somewhere = λ c none. elim (without_none_cases w.cells numbers c none) [
        | inl h ↦ (let is_mine = cells_of_only plan.layout.cell_locks lock c h in
            inr (record { section = b; is_open = refl; holds = well.all c (lock, is_mine, last_one a.held lock) }))
        | inr h ↦ elim (held_cases plan w t thread a s at c h) [
          | inl x ↦ inl x
          | inr x ↦ (let l = (s.well t a mine).only c x in
              inr (record { section = b; is_open = refl; holds = well.all c (l.0, l.1, more a.held lock l.0 l.2) }))
        ]
      ];
    }) where
      last_one : (xs : List Lock) (l : Lock) → among (xs ++ l ∷ []) l ≡ true
      last_one xs l = among_last xs l

      more : (xs : List Lock) (k l : Lock) → among xs l ≡ true → among (xs ++ k ∷ []) l ≡ true
      more xs k l h = among_more xs (k ∷ []) l h

sound_ends : Laws → (plan : Plan) (w : World) (t : ℕ) (thread : ThreadState) (a : Activation) (outcome : Outcome) →
    IsCompiled plan →
    IsSound plan w → Active w t thread a → a.outcome ≡ Some outcome →
    IsSound plan (changed w t (record { step = thread.step + 1; active = None }) (with_back w.cells a.machine.memory.cells)
    (w.history ++ commit t thread.step a outcome ∷ []))
sound_ends laws plan w t thread a outcome ok s at out =
    let mine : HasOpen w t a = (thread, at.at, at.is) in
    let well = s.well t a mine in
    let fit = s.fit t a mine in
    let opening = plan.layout.opening in
    let heap = committed opening w.history in
    let c = commit t thread.step a outcome in
    let after = committed opening (w.history ++ c ∷ []) in
    let is_after : after ≡ overwritten heap a.machine.memory.writes = laws.heap opening w.history c in
    let kept : (cell : ℕ) → (HoldsCell a cell → ⊥) → slice_get after cell ≡ slice_get heap cell =
    λ cell not. ap (λ h. slice_get h cell) is_after ∙ laws.unwritten heap a.machine.memory.writes cell (unwritten_of a well.consistent cell not) in
    sound_changed plan w t (record { step = thread.step + 1; active = None }) (with_back w.cells a.machine.memory.cells) (w.history ++ c ∷ []) s (record {
      before = thread;
      at = at.at;
      legal = laws.legal opening w.history c s.legal fit.part.reads;
      true_commits = laws.all_true plan.program w.history c s.true_commits (true_commit laws.ends_only plan ok t thread.step a outcome well out);
      size = length-with_back w.cells a.machine.memory.cells ∙ s.size;
      values = λ cell v h. elim (back_some w.cells a.machine.memory.cells cell v h) [
        | inl e ↦ ap (λ x. slice_get x cell) is_after ∙ fit.part.now cell v e
        | inr e ↦ kept cell (λ held. (let bad : None ≡ Some held.0 = sym e.0 ∙ held.1 in cc bad)) ∙ s.values cell v e.1
      ];
      others = λ u x ne o. (let f = s.fit u x o in
          let other = s.well u x o in
          let away : (cell : ℕ) → HoldsCell x cell → HoldsCell a cell → ⊥ =
          λ cell hx ha. (let lx = other.only cell hx in
          let la = well.only cell ha in
          let same : Some la.0 ≡ Some lx.0 = sym la.1 ∙ lx.1 in
          let as_one : la.0 ≡ lx.0 = cc same in
          ne (s.apart t u a x lx.0 mine o (subst (λ l. among a.held l ≡ true) as_one la.2) lx.2)) in
          let not_back : (cell : ℕ) → HoldsCell x cell → value_at a.machine.memory.cells cell ≡ None =
          λ cell hx. elim (some_or_none (value_at a.machine.memory.cells cell)) [
            | inl y ↦ absurd (away cell hx y)
            | inr n ↦ n
          ] in
          record {
            moved = λ cell h. back_other w.cells a.machine.memory.cells cell (not_back cell h) ∙ f.moved cell h;
            part = record {
              now = λ cell v h. overwritten_cong after heap x.machine.memory.writes cell (kept cell (away cell (v, h))) ∙ f.part.now cell v h;
              reads = agrees_kept heap after x.machine.memory.reads
                  (λ cell v h. kept cell (away cell (read_held x other cell v h))) f.part.reads;
            };
          });
      mine = λ x e. absurd cc;
      apart = λ u x y l ne e o hx hy. cc;
      somewhere = λ cell none. (let back = back_none w.cells a.machine.memory.cells cell none in
          elim (held_cases plan w t thread a s at cell back.1) [
            | inl h ↦ inl h
            | inr h ↦ absurd (let bad : None ≡ Some h.0 = sym back.0 ∙ h.1 in cc bad)
          ]);
    }) where
      -- each cell that was read is held
      read_held : (x : Activation) → IsWell plan x → (cell : ℕ) (v : Value) →
          value_at x.machine.memory.reads cell ≡ Some v → HoldsCell x cell
      read_held x well cell v h = elim (some_or_none (value_at x.machine.memory.writes cell)) [
        | inl y ↦ (y.0, well.consistent.written cell y.0 y.1)
        | inr n ↦ (v, well.consistent.read cell v n h)
      ]

turn_sound : Laws → (plan : Plan) (w : World) (t : ℕ) (e : Event) (after : World) → IsCompiled plan → IsSound plan w →
    Turn plan w t e after → IsSound plan after
turn_sound laws plan w t e after ok s idles = s
turn_sound laws plan w t e after ok s (starts {thread} {call} at none called) = sound_starts plan w t thread call ok s at none called
turn_sound laws plan w t e after ok s (gets {thread} {a} {lock} {rest} at want free) = sound_gets laws plan w t thread a lock rest ok s at free
turn_sound laws plan w t e after ok s (waits {thread} {a} at want busy) =
    keeps_cells plan w t thread a (record a { asked = true }) s at (well_asked plan a (s.well t a (thread, at.at, at.is)))
    (record { held = refl; after = λ c h. h; before = λ c h. h; part = λ p. p })
turn_sound laws plan w t e after ok s (over {thread} {a} {outcome} at none out) = sound_ends laws plan w t thread a outcome ok s at out
turn_sound laws plan w t e after ok s (moves {thread} {a} at none out) =
    keeps_cells plan w t thread a (instructed plan a (next_effect plan a)) s at
    (well_instructed laws plan ok a (s.well t a (thread, at.at, at.is)) out (next_effect plan a) refl)
    (alike_instructed laws plan a (committed plan.layout.opening w.history) (next_effect plan a) refl)

pub sound_step : Laws → (plan : Plan) (w : World) (t : ℕ) → IsCompiled plan → IsSound plan w →
    IsSound plan (happens plan w t).1
sound_step laws plan w t ok s = turn_sound laws plan w t (happens plan w t).0 (happens plan w t).1 ok s (turn plan w t)

-- ---- before any step

opening_values : (xs : List Value) (c : ℕ) (v : Value) →
    slice_get (map (λ (v : Value). Some v) xs) c ≡ Some (Some v) → slice_get xs c ≡ Some v
opening_values [] c v h = absurd cc
opening_values (x ∷ xs) zero v h = cc
opening_values (x ∷ xs) (suc c) v h = opening_values xs c v h

opening_there : (xs : List Value) (c : ℕ) → slice_get (map (λ (v : Value). Some v) xs) c ≡ Some None → ⊥
opening_there [] c h = cc
opening_there (x ∷ xs) zero h = cc
opening_there (x ∷ xs) (suc c) h = opening_there xs c h

pub none_open : (ss : List (List Invocation)) (t : ℕ) (thread : ThreadState) (a : Activation) →
    slice_get (map at_first ss) t ≡ Some thread →
    thread.active ≡ Some a → ⊥
none_open ss t thread a at is =
    let x = map_back at_first ss t thread at in
    let bad : None ≡ Some a = ap (λ y. y.active) x.2 ∙ is in cc bad

pub opening_sound : (plan : Plan) → IsSound plan (opening_world plan)
opening_sound plan = record {
  legal = tt;
  true_commits = tt;
  size = length-map plan.layout.opening (λ (v : Value). Some v);
  values = opening_values plan.layout.opening;
  well = λ t a o. absurd (none_open (scripts plan) t o.0 a o.1 o.2);
  fit = λ t a o. absurd (none_open (scripts plan) t o.0 a o.1 o.2);
  somewhere = λ c h. absurd (opening_there plan.layout.opening c h);
  apart = λ t u a b lock oa ob ha hb. absurd (none_open (scripts plan) t oa.0 a oa.1 oa.2);
}
