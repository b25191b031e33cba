-- The notes of an open section, along its own steps.
use Rattle.std.proofs.Common.{◌≡◌, ◌⊎◌, ℕ, suc, ◌+◌, true, List, [], ◌∷◌, ◌++◌, map, length, Option, Some, None, slice_get}
use Rattle.std.proofs.Common.{refl, sym, ap, ◌∙◌, subst, arith, inl, inr}
use Rattle.std.proofs.lemmas.Option.{none-some, same_Some, slice_get_within}
use Rattle.std.proofs.lemmas.List.{append-nil}
use Rattle.std.specs.Prelude.{unwrap_or}
use Rattle.std.specs.Option.{option_map_or}
use Rattle.std.specs.List.{Contains}
use Rattle.core_lang.specs.Theory.Checked.{calls_nothing}
use Rattle.core_lang.specs.declared.value.Value.{Value}
use Rattle.core_lang.specs.declared.tree.Section.{Section}
use Rattle.core_lang.specs.declared.typed.Typed.{Typed}
use Rattle.core_lang.specs.Serial.{Invocation}
use Rattle.core_lang.specs.WellFormed.{CanCall}
use Rattle.core_lang.specs.Typing.{local_types, cell_types, Fit}
use Rattle.core_lang.specs.Working.Soundness.{IsTypedState, LeadsToTyped}
use Rattle.core_lang.specs.Theory.Items.{get_some, contains_at, map_back, not_in_none}
use Rattle.flow.specs.Skeletons.{skeleton}
use Rattle.flow.specs.Flow.{Follows, Before, Plus, one, more}
use Rattle.flow.specs.Points.{points, scopes, IsScopeAt}
use Rattle.locks.specs.declared.lock.Lock.{Lock}
use Rattle.locks.specs.Locks.{lock_of_cell}
use Rattle.locks.specs.LockPaths.{LockPath, lock_paths, locks_named}
use Rattle.inserter.specs.Working.Runs.{IsListed, Run, goes}
use Rattle.layout.specs.LockCells.{cells_of}
use Rattle.code.specs.declared.instr.Instr.{Instr}
use Rattle.code.specs.declared.instr.Instr.TheVariants.{Acquire}
use Rattle.code.specs.Machine.{Machine, Effect, Moves, Asks, Finishes, Undefined, act, passed}
use Rattle.code.specs.Memory.{HeldCells, load_held, store_held, value_at}
use Rattle.code.specs.Working.Seen.{held_value, IsSeen}
use Rattle.code.specs.Working.Spots.{HasAt, Spot, InSection}
use Rattle.code.specs.Lowering.{acquire_any, acquire_code, section_code, lists_at}
use Rattle.code.specs.Needs.{operand_need}
use Rattle.code.specs.Working.Ahead.{Goes, Steps, between_points, MayEnd, HasComeOn}
use Rattle.code.specs.Theory.Safety.{safe_steps, safe_more, steps_more}
use Rattle.history.specs.Commits.{committed}
use Rattle.lowering.specs.Plans.{Plan, IsCompiled}
use Rattle.worlds.specs.Asking.{locks_numbered, to_ask}
use Rattle.worlds.specs.Worlds.{World, Activation, activation, granted, section_at, locks_before, instructed}
use Rattle.worlds.specs.Worlds.{next_effect, taken}
use Rattle.worlds.specs.Working.States.{IsSound}
use Rattle.worlds.specs.Working.InTurn.{RiseBehind}
use Rattle.worlds.specs.Working.Ahead.{SeesTyped, Any, HasCome, IsAtPoint, IsAsking, CanGoOn, IsReadyWorld}
use Rattle.worlds.specs.Working.Ahead as ahead
use Rattle.worlds.proofs.Cells.{value_cases, taken_only}
use Rattle.worlds.proofs.Covering.{state_of, leads_typed, can_execute}
use Rattle.worlds.proofs.Going.{GoingLaws, ordered, begun_on}
use Rattle.worlds.proofs.Heaps.{type_at, IsShown, shown}
use Rattle.worlds.proofs.InTurn.{behind}
use Rattle.worlds.proofs.Ready.{has_cells}
use Rattle.worlds.proofs.Steps.{can_call}
use Rattle.c_threads.specs.Locking.{Pointer, had, stood_for, noted_at, NotesAre, no_notes}
use Rattle.c_threads.specs.LockClaims.{TakesWhatIsAsked}
use Rattle.c_threads.specs.Working.Noted.{WasListed, NotesStand, IsAtNoted, NotesGoOn, running, asking, over, IsNoted}
use Rattle.c_threads.specs.Working.Noted.{AcquiresNoted, NotesStay}
use Rattle.c_threads.proofs.Taking.{TakingLaws, acquires_take}
use Rattle.c_threads.proofs.Roots.{listed_roots_stay}

pub record StandingLaws : Type 0 where
  pub going : GoingLaws
  pub taking : TakingLaws

-- one more flow pair at the end
then_follows : {R : ℕ → ℕ → Type 0} {p q s : ℕ} → Plus R p q → R q s → Plus R p s
then_follows (one r) last = more r (one last)
then_follows (more r rest) last = more r (then_follows rest last)

module _ (laws : StandingLaws) (plan : Plan) (ok : IsCompiled plan) (k : ℕ) (section : Section)
    (is : section_at plan k ≡ Some section) where
  abbrev lists : List (List ℕ)
  lists = lists_at plan.lists k

  abbrev code : List Instr
  code = section_code lists section

  abbrev room : ℕ
  room = operand_need section

  abbrev At : List Lock → List Pointer → Machine HeldCells → Type 0
  At held notes m = IsAtNoted plan k section held notes m

  abbrev Stand : ℕ → List Value → List Pointer → Type 0
  Stand p locals notes = NotesStand plan k section p locals notes

  abbrev IsStepping : List Lock → List Pointer → Machine HeldCells → Type 0
  IsStepping held notes m = Steps load_held store_held plan.program.shape code Any (At held notes) room m

  abbrev HasCells : List Lock → Machine HeldCells → Type 0
  HasCells held m =
      (cell : ℕ) (lock : Lock) → lock_of_cell plan.program cell ≡ Some lock → Contains held lock → IsSeen (held_value m.memory) cell

  abbrev HoldsListed : ℕ → List Lock → List Value → Type 0
  HoldsListed p held locals = (lock : Lock) → IsListed plan.program section plan.ranks lists p locals lock → Contains held lock

  scope_at : (x : Spot) → InSection lists section x → (scope : List ℕ) × IsScopeAt section x.number scope
  scope_at x inside =
      let less = slice_get_within (points section) x.number x.point (laws.going.spots lists section x inside) in
      let same = laws.going.scopes section in
      get_some (scopes section) x.number (omega (arith, less, same))

  -- ---- from point to point

  -- a path that was listed before a point was listed before the point that follows
  listed_on : (p q i : ℕ) → Follows (skeleton section) p q → WasListed plan k section p i → WasListed plan k section q i
  listed_on p q i follows was = record { at = was.at; listed = was.listed; order = inr (by was.order) } where
    by : (was.at ≡ p) ⊎ Before (skeleton section) was.at p → Before (skeleton section) was.at q
    by (inl same) = subst (λ n. Before (skeleton section) n q) (sym same) (one follows)
    by (inr before) = then_follows before follows

  stands_on : (x : Spot) → InSection lists section x → (held : List Lock) (m : Machine HeldCells) (notes : List Pointer)
      (h : IsShown plan.program m.memory) (next : Machine HeldCells) →
      (on : HasComeOn held_value plan.program.shape lists section x (state_of m h.heap) (held_value m.memory) next) →
      Stand x.number m.locals notes → Stand on.to.number on.later.locals notes
  stands_on x inside held m notes h next on stand = record {
    fit = record { long = stand.fit.long; named = named };
    listed = λ i lock e. listed_on x.number on.to.number i on.follows (stand.listed i lock e);
  } where
    named_by : (i : ℕ) (lock : Lock) → WasListed plan k section x.number i → (o : Option LockPath) →
        slice_get (lock_paths plan.program section) i ≡ o →
        Contains (option_map_or (λ (path : LockPath). locks_named path plan.program.shape m.locals) o []) lock →
        Contains (option_map_or (λ (path : LockPath). locks_named path plan.program.shape on.later.locals) o []) lock
    named_by i lock was None e c = absurd (not_in_none lock c)
    named_by i lock was (Some path) e c =
        let program = plan.program in
        let s = state_of m h.heap in
        let user = (laws.taking.listed program section path).0 (contains_at (lock_paths program section) i path e) in
        let here = laws.going.spots lists section x inside in
        let same =
        laws.going.names program section x.number user.0 x.point path s on.later (ok.well_formed.scopes k section is) here user.1
        (λ binds. listed_roots_stay laws.taking plan k was.at x.number i section path ok is was.listed e was.order binds)
        on.leads in
        subst (λ ls. Contains ls lock) (sym same) c

    named : (i : ℕ) (lock : Lock) → slice_get notes i ≡ Some (Some lock) →
        Contains (locks_numbered plan.program section on.later.locals i) lock
    named i lock e =
        named_by i lock (stand.listed i lock e) (slice_get (lock_paths plan.program section) i) refl (stand.fit.named i lock e)

  comes_on : (x : Spot) → InSection lists section x → (held : List Lock) (m : Machine HeldCells) (notes : List Pointer)
      (h : IsShown plan.program m.memory) → HasCome plan section lists x.number held m → Stand x.number m.locals notes →
      HoldsListed x.number held m.locals → (next : Machine HeldCells) →
      HasComeOn held_value plan.program.shape lists section x (state_of m h.heap) (held_value m.memory) next →
      At held notes next
  comes_on x inside held m notes h come stand all next on =
      let program = plan.program in
      let s = state_of m h.heap in
      let here = laws.going.spots lists section x inside in
      let scoped = ok.well_formed.scopes k section is in
      let leads =
      leads_typed laws.going.cover plan section lists ok.stable (ordered laws.going plan ok k section is) x.number x.point here
      held m h.heap come h.is_heap h.shows in
      let later : IsTypedState program (local_types section.locals.items) on.later =
      subst (LeadsToTyped program (local_types section.locals.items)) on.leads leads in
      let scope = scope_at on.to on.inside in
      subst (At held notes) (sym on.is) (record {
        at = record {
          point = on.to;
          inside = on.inside;
          place = refl;
          stack = refl;
          come = record {
            scope = scope.0;
            scoped = scope.1;
            locals = later.locals;
            lets = laws.going.later_lets section x.number on.to.number x.point come.scope scope.0 program.shape s on.later scoped
                here come.scoped scope.1 on.follows come.lets on.leads;
            cells = λ c v e. type_at program.shape (cell_types program) on.later.heap later.heap c v (on.shows c v e);
            run = goes come.run all (λ user path uses free. laws.going.names program section x.number user x.point path s on.later
                scoped here uses free on.leads) on.follows;
          };
        };
        stand = stands_on x inside held m notes h next on stand;
      })

  point_steps : (x : Spot) → InSection lists section x → (held : List Lock) (m : Machine HeldCells) (notes : List Pointer) →
      m.place ≡ x.place + length (acquire_code lists x.number) → m.stack ≡ [] → HasCome plan section lists x.number held m →
      Stand x.number m.locals notes → HoldsListed x.number held m.locals → HasCells held m → IsStepping held notes m
  point_steps x inside held m notes place stack come stand all has =
      let program = plan.program in
      let go = laws.going in
      let h = shown go.written go.unwritten go.size program ok.well_formed m.memory come.cells in
      let s = state_of m h.heap in
      let can =
      can_execute go.cover plan section lists ok.stable (ordered go plan ok k section is) x.number x.point
      (go.spots lists section x inside) held m h.heap come h.is_heap h.shows all has in
      let g =
      go.go_on program.shape lists section x s m.memory room (calls_nothing program k section ok.well_formed is) inside
      (omega arith) can in
      let start = x.place + length (acquire_code lists x.number) in
      let at : IsStepping held notes (between_points start s m.memory) =
      steps_more load_held store_held program.shape code room (MayEnd program.shape x.point s) Any
      (HasComeOn held_value program.shape lists section x s (held_value m.memory)) (At held notes)
      (λ outcome f. tt) (comes_on x inside held m notes h come stand all) _ g in
      let machine : ℕ → List Value → Machine HeldCells =
      λ place stack. record { place = place; stack = stack; locals = m.locals; memory = m.memory; prints = m.prints } in
      subst (λ place. IsStepping held notes (machine place m.stack)) (sym place)
      (subst (λ stack. IsStepping held notes (machine start stack)) (sym stack) at)

  -- ---- where a point begins

  record IsAtAcquire (held : List Lock) (notes : List Pointer) (m : Machine HeldCells) : Type 0 where
    at : At held notes m
    list : List ℕ
    listed : slice_get lists at.at.point.number ≡ Some list
    only : acquire_code lists at.at.point.number ≡ Acquire at.at.point.number ∷ []
    here : slice_get code m.place ≡ Some (Acquire at.at.point.number)

  abbrev IsMoving : List Lock → List Pointer → Machine HeldCells → Type 0
  IsMoving held notes m = IsStepping held notes m ⊎ IsAtAcquire held notes m

  nothing : (held : List Lock) (notes : List Pointer) (m : Machine HeldCells) (x : At held notes m) →
      acquire_code lists x.at.point.number ≡ [] → HoldsListed x.at.point.number held m.locals → HasCells held m →
      IsMoving held notes m
  nothing held notes m x empty all has =
      let at = x.at in
      let none : length (acquire_code lists at.point.number) ≡ 0 = ap (λ (xs : List Instr). length xs) empty in
      let place = at.place in
      inl (point_steps at.point at.inside held m notes (omega (arith, place, none)) at.stack at.come x.stand all has)

  at_point : (held : List Lock) (notes : List Pointer) (m : Machine HeldCells) → At held notes m → HasCells held m →
      IsMoving held notes m
  at_point held notes m x has = by (slice_get lists x.at.point.number) refl where
    by : (o : Option (List ℕ)) → slice_get lists x.at.point.number ≡ o → IsMoving held notes m
    by None e =
        nothing held notes m x (ap (λ o. acquire_any o x.at.point.number) e)
        (λ lock l. absurd (none-some l.list (sym e ∙ l.here))) has
    by (Some []) e =
        nothing held notes m x (ap (λ o. acquire_any o x.at.point.number) e)
        (λ lock l. absurd (not_in_none l.number
        (subst (λ list. Contains list l.number) (sym (same_Some [] l.list (sym e ∙ l.here))) l.listed))) has
    by (Some (i ∷ is)) e =
        let only : acquire_code lists x.at.point.number ≡ Acquire x.at.point.number ∷ [] =
        ap (λ o. acquire_any o x.at.point.number) e in
        let acquired = subst (HasAt code x.at.point.place) only (laws.going.acquired lists section x.at.point x.at.inside) in
        inr (record { at = x; list = i ∷ is; listed = e; only = only; here = ap (slice_get code) x.at.place ∙ acquired.0 })

-- ---- an open section

module _ (laws : StandingLaws) (plan : Plan) (ok : IsCompiled plan) (a : Activation) (notes : List Pointer)
    (section : Section) (is : section_at plan a.call.section ≡ Some section) where
  abbrev k : ℕ
  k = a.call.section

  abbrev mine : List (List ℕ)
  mine = lists_at plan.lists k

  abbrev its_code : List Instr
  its_code = section_code mine section

  abbrev On : Activation → List Pointer → Type 0
  On b now = NotesGoOn plan k section b now

  abbrev does : List Instr → Effect HeldCells
  does instrs = act load_held store_held plan.program.shape (slice_get instrs a.machine.place) a.machine

  does_same : next_effect plan a ≡ does its_code
  does_same = ap does (ap (λ x. option_map_or (λ (s : Section). section_code mine s) x []) is)

  moving : On a notes → a.pending ≡ [] → a.outcome ≡ None → HasCells laws plan ok k section is a.held a.machine →
      IsMoving laws plan ok k section is a.held notes a.machine
  moving (over p' o') p o has = absurd (none-some _ (sym o ∙ o'))
  moving (asking f stand) p o has =
      let same : a.held ++ a.pending ≡ a.held = ap (λ xs. a.held ++ xs) p ∙ append-nil a.held in
      inl (point_steps laws plan ok k section is f.point f.inside a.held a.machine notes f.place f.stack
      (subst (λ held. HasCome plan section mine f.point.number held a.machine) same f.come) stand
      (λ lock l. subst (λ held. Contains held lock) same (f.all lock l)) has)
  moving (running p' s) p o has =
      elim (safe_steps load_held store_held plan.program.shape its_code (operand_need section) Any
      (IsAtNoted plan k section a.held notes) a.machine s) [
        | inl at ↦ at_point laws plan ok k section is a.held notes a.machine at has
        | inr g ↦ inl g
      ]

  -- ---- an instruction that asks for nothing

  abbrev GoesOn : Effect HeldCells → Type 0
  GoesOn x =
      Goes load_held store_held plan.program.shape its_code Any (IsAtNoted plan k section a.held notes) (operand_need section) x

  kept_by : (x : Effect HeldCells) → a.pending ≡ [] → NotesAre plan.program section notes (a.held ++ a.pending) → GoesOn x →
      IsNoted plan (instructed plan a x) notes
  kept_by (Moves m) p are g = record { section = section; is = is; are = are; goes_on = running p g }
  kept_by (Asks point) p are g = absurd g
  kept_by (Finishes outcome) p are g = record { section = section; is = is; are = are; goes_on = over p refl }
  kept_by Undefined p are g = absurd g

  asks_there : (x : IsAtAcquire laws plan ok k section is a.held notes a.machine) →
      next_effect plan a ≡ Asks x.at.at.point.number
  asks_there x = does_same ∙ ap (λ i. act load_held store_held plan.program.shape i a.machine) x.here

  pub moves_on : On a notes → a.pending ≡ [] → a.outcome ≡ None → HasCells laws plan ok k section is a.held a.machine →
      NotesAre plan.program section notes (a.held ++ a.pending) → ((point : ℕ) → next_effect plan a ≡ Asks point → ⊥) →
      IsNoted plan (instructed plan a (next_effect plan a)) notes
  moves_on on p o has are not =
      elim (moving on p o has) [
        | inl g ↦ subst (λ x. IsNoted plan (instructed plan a x) notes) (sym does_same) (kept_by (does its_code) p are g.1)
        | inr x ↦ absurd (not x.at.at.point.number (asks_there x))
      ]

  -- ---- an acquire

  module _ (x : IsAtAcquire laws plan ok k section is a.held notes a.machine) (p : a.pending ≡ [])
      (are : NotesAre plan.program section notes (a.held ++ a.pending)) where
    abbrev number : ℕ
    number = x.at.at.point.number

    takes : TakesWhatIsAsked plan k number section a.machine.locals a.held notes
    takes =
        let come = x.at.at.come in
        let same : a.held ++ a.pending ≡ a.held = ap (λ xs. a.held ++ xs) p ∙ append-nil a.held in
        acquires_take laws.taking plan k number section a.machine.locals a.held notes ok is come.locals
        (subst (NotesAre plan.program section notes) same are) x.at.stand.fit

    locks_are : to_ask plan.program section plan.ranks a.held a.machine.locals x.list
        ≡ locks_before plan k number a.held a.machine.locals
    locks_are =
        let ask : Section → List ℕ → List Lock = λ s list. to_ask plan.program s plan.ranks a.held a.machine.locals list in
        let list : List ℕ = unwrap_or (slice_get mine number) [] in
        sym (ap (λ o. option_map_or (λ (s : Section). ask s list) o []) is ∙ ap (λ o. ask section (unwrap_or o [])) x.listed)

    abbrev asks_now : IsAsking plan section mine a.held (to_ask plan.program section plan.ranks a.held a.machine.locals x.list)
        (passed a.machine)
    asks_now =
        let come = x.at.at.come in
        let turn =
        laws.going.in_turn plan.program section plan.ranks mine number a.machine.locals a.held x.list
        (ordered laws.going plan ok k section is) come.run x.listed in
        let one : length (acquire_code mine number) ≡ 1 = ap (λ (xs : List Instr). length xs) x.only in
        let place = x.at.at.place in
        record {
          point = x.at.at.point;
          inside = x.at.at.inside;
          place = omega (arith, place, one);
          stack = x.at.at.stack;
          rise = turn.0;
          come = record { scope = come.scope; scoped = come.scoped; locals = come.locals; lets = come.lets; cells = come.cells; run = turn.1 };
          all = turn.2;
        }

    abbrev asked_for : List Lock
    asked_for = locks_before plan k number a.held a.machine.locals

    -- the notes after the acquire are right for this point
    stands_now : NotesStand plan k section number a.machine.locals takes.after.notes
    stands_now = record {
      fit = takes.fit;
      listed = λ i lock e. elim (takes.new i lock e) [
        | inl before ↦ x.at.stand.listed i lock before
        | inr listed ↦ record { at = number; listed = listed; order = inl refl }
      ];
    }

    abbrev AsksNow : List Lock → Type 0
    AsksNow pending =
        (f : IsAsking plan section mine a.held pending (passed a.machine))
        × NotesStand plan k section f.point.number a.machine.locals takes.after.notes

    asking_now : (pending : List Lock) → to_ask plan.program section plan.ranks a.held a.machine.locals x.list ≡ pending →
        AsksNow pending
    asking_now pending e = subst AsksNow e now where
      now : AsksNow (to_ask plan.program section plan.ranks a.held a.machine.locals x.list)
      now = (asks_now, stands_now)

    acquires_on : AcquiresNoted plan a number notes
    acquires_on =
        let now = asking_now asked_for locks_are in
        record {
          section = section;
          is = is;
          after = takes.after;
          acquires = takes.is;
          calls = takes.calls;
          rise = subst (RiseBehind plan.ranks a.held) (sym takes.calls) now.0.rise;
          noted = record {
            section = section;
            is = is;
            are = subst (λ locks. NotesAre plan.program section takes.after.notes (a.held ++ locks)) takes.calls takes.noted;
            goes_on = asking now.0 now.1;
          };
        }

  pub asks_on : On a notes → a.pending ≡ [] → a.outcome ≡ None → HasCells laws plan ok k section is a.held a.machine →
      NotesAre plan.program section notes (a.held ++ a.pending) → (point : ℕ) → next_effect plan a ≡ Asks point → AcquiresNoted plan a point notes
  asks_on on p o has are point e =
      elim (moving on p o has) [
        | inl g ↦ absurd (subst GoesOn (sym does_same ∙ e) g.1)
        | inr x ↦ (let both : Asks x.at.at.point.number ≡ Asks point = sym (asks_there x) ∙ e in
            let same : x.at.at.point.number ≡ point = cc both in
            subst (λ n. AcquiresNoted plan a n notes) same (acquires_on x p are))
      ]

-- ---- a lock that is granted

granted_on : (plan : Plan) (a : Activation) (notes : List Pointer) (lock : Lock) (rest : List Lock)
    (values : List (ℕ × Value)) → IsNoted plan a notes → a.pending ≡ lock ∷ rest →
    SeesTyped plan.program (λ cell. value_at values cell) → IsNoted plan (granted a lock rest values) notes
granted_on plan a notes lock rest values noted want typed = record {
  section = noted.section;
  is = noted.is;
  are = subst (NotesAre plan.program noted.section notes) same noted.are;
  goes_on = by noted.goes_on;
} where
  same : a.held ++ a.pending ≡ (a.held ++ lock ∷ []) ++ rest
  same = ap (λ xs. a.held ++ xs) want ∙ sym (behind a.held lock rest)

  by : NotesGoOn plan a.call.section noted.section a notes →
      NotesGoOn plan a.call.section noted.section (granted a lock rest values) notes
  by (running p s) = absurd (let bad : [] ≡ lock ∷ rest = sym p ∙ want in cc bad)
  by (over p o) = absurd (let bad : [] ≡ lock ∷ rest = sym p ∙ want in cc bad)
  by (asking f stand) =
      let come = f.come in
      asking (record {
        point = f.point;
        inside = f.inside;
        place = f.place;
        stack = f.stack;
        rise = (subst (RiseBehind plan.ranks a.held) want f.rise).1;
        come = record {
          scope = come.scope;
          scoped = come.scoped;
          locals = come.locals;
          lets = come.lets;
          cells = λ c v h. elim (value_cases a.machine.memory.cells values c v h) [
            | inl old ↦ come.cells c v old
            | inr new ↦ typed c v new
          ];
          run = subst (λ held. Run plan.program noted.section plan.ranks (lists_at plan.lists a.call.section) f.point.number
              a.machine.locals held) same come.run;
        };
        all = λ l listed. subst (λ held. Contains held l) same (f.all l listed);
      }) stand

asked_on : (plan : Plan) (a : Activation) (notes : List Pointer) → IsNoted plan a notes →
    IsNoted plan (record a { asked = true }) notes
asked_on plan a notes noted = record { section = noted.section; is = noted.is; are = noted.are; goes_on = by noted.goes_on } where
  by : NotesGoOn plan a.call.section noted.section a notes →
      NotesGoOn plan a.call.section noted.section (record a { asked = true }) notes
  by (running p s) = running p s
  by (asking f stand) = asking f stand
  by (over p o) = over p o

-- ---- a begin

none_noted : (program : Typed) (section : Section) (i : ℕ) (lock : Lock) → slice_get (no_notes program section) i ≡ Some (Some lock) → ⊥
none_noted program section i lock e =
    let r = map_back {B = Pointer} (λ (path : LockPath). None) (lock_paths program section) i (Some lock) e in
    none-some lock r.2

none_stands : (program : Typed) (section : Section) (i : ℕ) (lock : Lock) →
    Contains (noted_at program section (no_notes program section) i) lock → ⊥
none_stands program section i lock c = by (slice_get (no_notes program section) i) refl c where
  by : (o : Option Pointer) → slice_get (no_notes program section) i ≡ o → Contains (had (stood_for program section i) o) lock → ⊥
  by None e c = not_in_none lock c
  by (Some None) e c = not_in_none lock c
  by (Some (Some noted)) e c = none_noted program section i noted e

begun_noted : StandingLaws → (plan : Plan) (begun : ℕ) (call : Invocation) (section : Section) → IsCompiled plan →
    CanCall plan.program call.section call.arguments → section_at plan call.section ≡ Some section →
    IsNoted plan (activation plan begun call) (no_notes plan.program section)
begun_noted laws plan begun call section ok can is = record {
  section = section;
  is = is;
  are = record {
    noted = λ lock c. absurd (not_in_none lock c);
    only = λ i lock c. absurd (none_stands plan.program section i lock c);
    once = λ i j lock c d. absurd (none_stands plan.program section i lock c);
  };
  goes_on = by (begun_on laws.going plan ok begun call section is fit);
} where
  a : Activation
  a = activation plan begun call

  fit : Fit plan.program section call.arguments
  fit =
      let found = can_call plan.program call.section call.arguments can in
      let same : found.0 ≡ section = same_Some found.0 section (sym found.1 ∙ is) in
      subst (λ s. Fit plan.program s call.arguments) same found.2

  stands : (p : ℕ) (locals : List Value) → NotesStand plan call.section section p locals (no_notes plan.program section)
  stands p locals = record {
    fit = record {
      long = many (lock_paths plan.program section);
      named = λ i lock e. absurd (none_noted plan.program section i lock e);
    };
    listed = λ i lock e. absurd (none_noted plan.program section i lock e);
  } where
    many : (ps : List LockPath) → length (map {B = Pointer} (λ (path : LockPath). None) ps) ≡ length ps
    many [] = refl
    many (p ∷ ps) = ap suc (many ps)

  by : CanGoOn plan section (lists_at plan.lists call.section) (activation plan begun call) →
      NotesGoOn plan call.section section (activation plan begun call) (no_notes plan.program section)
  by (ahead.running p s) =
      running p (safe_more load_held store_held plan.program.shape (section_code (lists_at plan.lists call.section) section)
      (operand_need section) Any Any (IsAtPoint plan section (lists_at plan.lists call.section) [])
      (IsAtNoted plan call.section section [] (no_notes plan.program section)) (λ outcome f. tt)
      (λ m at. record { at = at; stand = stands at.point.number m.locals }) _ s)
  by (ahead.asking f) = asking f (stands f.point.number _)
  by (ahead.over p o) = over p o

-- ---- cells of a world

taken_typed : (plan : Plan) (w : World) (lock : Lock) → IsSound plan w → IsReadyWorld plan w →
    SeesTyped plan.program (λ cell. value_at (taken w.cells (cells_of plan.layout.cell_locks lock)) cell)
taken_typed plan w lock s r c v h =
    type_at plan.program.shape (cell_types plan.program) (committed plan.layout.opening w.history) r.heap c v
    (s.values c v (taken_only w.cells (cells_of plan.layout.cell_locks lock) c v h).1)

pub notes_stay : StandingLaws → NotesStay
notes_stay laws = record {
  begins = begun_noted laws;
  moves = λ plan a notes ok well noted p o not.
      moves_on laws plan ok a notes noted.section noted.is noted.goes_on p o (has_cells plan ok a well) noted.are not;
  asks = λ plan a notes point ok well noted p o e.
      asks_on laws plan ok a notes noted.section noted.is noted.goes_on p o (has_cells plan ok a well) noted.are point e;
  gets = granted_on;
  waits = asked_on;
  typed = taken_typed;
}
