-- A section stays ready: from its begin, along its instructions, and with each lock that it is granted.
use Rattle.std.proofs.Common.{◌≡◌, ◌⊎◌, ◌≤◌, ℕ, ◌+◌, true, List, [], ◌∷◌, ◌++◌, length, Option, Some, None, slice_get}
use Rattle.std.proofs.Common.{refl, sym, ap, ◌∙◌, subst, arith, inl, inr}
use Rattle.std.proofs.lemmas.Option.{slice_get_within}
use Rattle.std.specs.Prelude.{unwrap_or}
use Rattle.std.specs.Option.{option_map_or}
use Rattle.std.specs.List.{Contains}
use Rattle.core_lang.specs.Theory.Checked.{calls_nothing}
use Rattle.core_lang.specs.declared.value.Value.{Value}
use Rattle.core_lang.specs.declared.tree.Section.{Section}
use Rattle.core_lang.specs.Serial.{Invocation}
use Rattle.core_lang.specs.Whole.{opening}
use Rattle.core_lang.specs.Typing.{local_types, cell_types, HaveTypes, Fit}
use Rattle.core_lang.specs.Working.Soundness.{IsTypedState, LeadsToTyped}
use Rattle.core_lang.specs.Theory.Openings.{opening_has}
use Rattle.core_lang.specs.Theory.Items.{get_some}
use Rattle.flow.specs.Skeletons.{Skeleton, Nil, Step, Fork, Loop, skeleton}
use Rattle.flow.specs.Flow.{head}
use Rattle.flow.specs.Points.{points, scopes, IsScopeAt}
use Rattle.flow.specs.Working.Laws.{ScopesAreCounted}
use Rattle.locks.specs.declared.lock.Lock.{Lock}
use Rattle.locks.specs.Locks.{lock_of_cell}
use Rattle.locks.specs.Working.Laws.{LetsAgreeAtFirst, LetsKeepAgreeing, NamesStay}
use Rattle.inserter.specs.Working.Runs.{IsListed, Run, begins, goes}
use Rattle.inserter.specs.Working.Laws.{IsOrdered, PlacementsAreOrdered}
use Rattle.code.specs.declared.instr.Instr.{Instr}
use Rattle.code.specs.declared.instr.Instr.TheVariants.{Acquire}
use Rattle.code.specs.Machine.{Machine, Effect, Moves, Asks, Finishes, Undefined, act, passed}
use Rattle.code.specs.Memory.{HeldCells, load_held, store_held, value_at}
use Rattle.code.specs.Working.Seen.{held_value, IsSeen}
use Rattle.code.specs.Working.Spots.{HasAt, Spot, InSection}
use Rattle.code.specs.Lowering.{acquire_any, acquire_code, section_code, lists_at}
use Rattle.code.specs.Needs.{operand_need}
use Rattle.code.specs.Working.Ahead.{there, finishes, Goes, Steps, between_points, MayEnd, HasComeOn}
use Rattle.code.specs.Theory.Safety.{safe_steps, steps_more}
use Rattle.code.specs.Working.Laws.{HasWritten, KeepsUnwritten, KeepsSize}
use Rattle.code.specs.Working.PointLaws.{PointsGoOn, SpotsArePoints, FirstPointIsAtStart, EmptyHasEnd, SpotsAcquire}
use Rattle.lowering.specs.Plans.{Plan, IsCompiled}
use Rattle.worlds.specs.Asking.{to_ask}
use Rattle.worlds.specs.Worlds.{Activation, activation, granted, section_at, code_at, locals_at, locks_before}
use Rattle.worlds.specs.Worlds.{instructed, next_effect}
use Rattle.worlds.specs.Working.InTurn.{RiseBehind, AskedInTurn}
use Rattle.worlds.specs.Working.Ahead.{SeesTyped, Any, HasCome, IsAtPoint, IsAsking, IsRunning, CanGoOn, running}
use Rattle.worlds.specs.Working.Ahead.{asking, over}
use Rattle.worlds.proofs.Cells.{value_cases}
use Rattle.worlds.proofs.InTurn.{behind, with_none}
use Rattle.worlds.proofs.Heaps.{type_at, IsShown, shown}
use Rattle.worlds.proofs.Covering.{CoverLaws, state_of, leads_typed, can_execute}

pub record GoingLaws : Type 0 where
  pub cover : CoverLaws
  pub first_lets : LetsAgreeAtFirst
  pub later_lets : LetsKeepAgreeing
  pub names : NamesStay
  pub scopes : ScopesAreCounted
  pub go_on : PointsGoOn ℕ HeldCells load_held store_held held_value
  pub spots : SpotsArePoints ℕ
  pub first : FirstPointIsAtStart ℕ
  pub none : EmptyHasEnd ℕ
  pub acquired : SpotsAcquire ℕ
  pub ordered : PlacementsAreOrdered
  pub in_turn : AskedInTurn
  pub written : HasWritten
  pub unwritten : KeepsUnwritten
  pub size : KeepsSize

first_is_zero : (c : Skeleton) (p : ℕ) → head c 0 None ≡ Some p → p ≡ 0
first_is_zero Nil p e = absurd cc
first_is_zero (Step r) p e = cc
first_is_zero (Fork a b r) p e = cc
first_is_zero (Loop a r) p e = cc

-- the lists of a section that has some
record HasLists (plan : Plan) (k : ℕ) : Type 0 where
  lists : List (List ℕ)
  is : slice_get plan.lists k ≡ Some lists
  at : lists_at plan.lists k ≡ lists

has_lists : (plan : Plan) → IsCompiled plan → (k : ℕ) (section : Section) → section_at plan k ≡ Some section →
    HasLists plan k
has_lists plan ok k section is =
    let less = slice_get_within plan.program.sections.items k section is in
    let same = ok.placed.long in
    let x = get_some plan.lists k (omega (arith, less, same)) in
    record { lists = x.0; is = x.1; at = ap (λ o. unwrap_or o []) x.1 }

module _ (laws : GoingLaws) (plan : Plan) (ok : IsCompiled plan) (k : ℕ) (section : Section) (is : section_at plan k ≡ Some section) where
  abbrev lists : List (List ℕ)
  lists = lists_at plan.lists k

  abbrev code : List Instr
  code = section_code lists section

  abbrev room : ℕ
  room = operand_need section

  pub ordered : IsOrdered plan.program section plan.ranks lists
  ordered =
      let x = has_lists plan ok k section is in
      subst (λ ls. IsOrdered plan.program section plan.ranks ls) (sym x.at)
      (laws.ordered plan.program plan.ranks plan.lists k section x.lists ok.well_formed ok.ranked ok.rise ok.placed is x.is)

  code_is : code_at plan k ≡ code
  code_is = ap (λ x. option_map_or (λ (s : Section). section_code lists s) x []) is

  -- a machine that goes on by its next instruction
  abbrev IsStepping : List Lock → Machine HeldCells → Type 0
  IsStepping held m = Steps load_held store_held plan.program.shape code Any (IsAtPoint plan section lists held) room m

  abbrev GoesOn : List Lock → Effect HeldCells → Type 0
  GoesOn held x = Goes load_held store_held plan.program.shape code Any (IsAtPoint plan section lists held) room x

  -- the machine has each cell of a held lock
  abbrev HasCells : List Lock → Machine HeldCells → Type 0
  HasCells held m =
      (cell : ℕ) (lock : Lock) → lock_of_cell plan.program cell ≡ Some lock → Contains held lock → IsSeen (held_value m.memory) cell

  abbrev HoldsListed : ℕ → List Lock → List Value → Type 0
  HoldsListed p held locals = (lock : Lock) → IsListed plan.program section plan.ranks lists p locals lock → Contains held lock

  -- ---- from point to point

  scope_at : (x : Spot) → InSection lists section x → (scope : List ℕ) × IsScopeAt section x.number scope
  scope_at x inside =
      let less = slice_get_within (points section) x.number x.point (laws.spots lists section x inside) in
      let same = laws.scopes section in
      get_some (scopes section) x.number (omega (arith, less, same))

  comes_on : (x : Spot) → InSection lists section x →
      (held : List Lock) (m : Machine HeldCells) (h : IsShown plan.program m.memory) →
      HasCome plan section lists x.number held m → HoldsListed x.number held m.locals → (next : Machine HeldCells) →
      HasComeOn held_value plan.program.shape lists section x (state_of m h.heap) (held_value m.memory) next →
      IsAtPoint plan section lists held next
  comes_on x inside held m h come all next on =
      let program = plan.program in
      let s = state_of m h.heap in
      let here = laws.spots lists section x inside in
      let scoped = ok.well_formed.scopes k section is in
      let leads = leads_typed laws.cover plan section lists ok.stable ordered x.number x.point here held m h.heap come h.is_heap h.shows in
      let later : IsTypedState program (local_types section.locals.items) on.later =
      subst (LeadsToTyped program (local_types section.locals.items)) on.leads leads in
      let scope = scope_at on.to on.inside in
      subst (IsAtPoint plan section lists held) (sym on.is) (record {
        point = on.to;
        inside = on.inside;
        place = refl;
        stack = refl;
        come = record {
          scope = scope.0;
          scoped = scope.1;
          locals = later.locals;
          lets = laws.later_lets section x.number on.to.number x.point come.scope scope.0 program.shape s on.later scoped here come.scoped scope.1
              on.follows come.lets on.leads;
          cells = λ c v e. type_at program.shape (cell_types program) on.later.heap later.heap c v (on.shows c v e);
          run = goes come.run all (λ user path uses free. laws.names program section x.number user x.point path s on.later scoped here uses free on.leads)
              on.follows;
        };
      })

  -- after the acquire before a point, with each listed lock held
  point_steps : (x : Spot) → InSection lists section x → (held : List Lock) (m : Machine HeldCells) →
      m.place ≡ x.place + length (acquire_code lists x.number) → m.stack ≡ [] → HasCome plan section lists x.number held m →
      HoldsListed x.number held m.locals → HasCells held m → IsStepping held m
  point_steps x inside held m place stack come all has =
      let program = plan.program in
      let h = shown laws.written laws.unwritten laws.size program ok.well_formed m.memory come.cells in
      let s = state_of m h.heap in
      let can = can_execute laws.cover plan section lists ok.stable ordered x.number x.point (laws.spots lists section x inside) held m h.heap come
      h.is_heap h.shows all has in
      let g = laws.go_on program.shape lists section x s m.memory room (calls_nothing program k section ok.well_formed is) inside (omega arith) can in
      let at : IsStepping held (between_points (x.place + length (acquire_code lists x.number)) s m.memory) =
      steps_more load_held store_held program.shape code room (MayEnd program.shape x.point s) Any
      (HasComeOn held_value program.shape lists section x s (held_value m.memory)) (IsAtPoint plan section lists held)
      (λ outcome f. tt) (comes_on x inside held m h come all) _ g in
      let machine : ℕ → List Value → Machine HeldCells =
      λ place stack. record { place = place; stack = stack; locals = m.locals; memory = m.memory; prints = m.prints } in
      subst (λ place. IsStepping held (machine place m.stack)) (sym place)
      (subst (λ stack. IsStepping held (machine (x.place + length (acquire_code lists x.number)) stack)) (sym stack) at)

  -- ---- the begin of a point

  record IsAtAcquire (held : List Lock) (m : Machine HeldCells) : Type 0 where
    at : IsAtPoint plan section lists held m
    list : List ℕ
    listed : slice_get lists at.point.number ≡ Some list
    one : acquire_code lists at.point.number ≡ Acquire at.point.number ∷ []
    here : slice_get code m.place ≡ Some (Acquire at.point.number)

  -- a machine that can move is within a point, or at the acquire before one
  abbrev IsMoving : List Lock → Machine HeldCells → Type 0
  IsMoving held m = IsStepping held m ⊎ IsAtAcquire held m

  -- a point that acquires nothing
  nothing : (held : List Lock) (m : Machine HeldCells) (at : IsAtPoint plan section lists held m) →
      acquire_code lists at.point.number ≡ [] →
      HoldsListed at.point.number held m.locals → HasCells held m → IsMoving held m
  nothing held m at empty all has =
      let none : length (acquire_code lists at.point.number) ≡ 0 = ap (λ (xs : List Instr). length xs) empty in
      let place = at.place in
      inl (point_steps at.point at.inside held m (omega (arith, place, none)) at.stack at.come all has)

  at_point : (held : List Lock) (m : Machine HeldCells) → IsAtPoint plan section lists held m → HasCells held m →
      IsMoving held m
  at_point held m at has = by (slice_get lists at.point.number) refl where
    by : (o : Option (List ℕ)) → slice_get lists at.point.number ≡ o → IsMoving held m
    by None e = nothing held m at (ap (λ o. acquire_any o at.point.number) e) (λ lock l. absurd (let bad : None ≡ Some l.list = sym e ∙ l.here in cc bad)) has
    by (Some []) e = nothing held m at (ap (λ o. acquire_any o at.point.number) e) (λ lock l.
        absurd (let both : Some [] ≡ Some l.list = sym e ∙ l.here in
        let same : l.list ≡ [] = cc both in
        let c : Contains [] l.number = subst (λ list. Contains list l.number) same l.listed in
        let less = c.1 in omega (arith, less))) has
    by (Some (i ∷ is)) e =
        let one : acquire_code lists at.point.number ≡ Acquire at.point.number ∷ [] = ap (λ o. acquire_any o at.point.number) e in
        let acquired = subst (HasAt code at.point.place) one (laws.acquired lists section at.point at.inside) in
        inr (record { at = at; list = i ∷ is; listed = e; one = one; here = ap (slice_get code) at.place ∙ acquired.0 })

module _ (laws : GoingLaws) (plan : Plan) (ok : IsCompiled plan) (a : Activation) (section : Section)
    (is : section_at plan a.call.section ≡ Some section) where
  abbrev k : ℕ
  k = a.call.section

  abbrev mine : List (List ℕ)
  mine = lists_at plan.lists k

  abbrev CanGo : Activation → Type 0
  CanGo b = CanGoOn plan section mine b

  -- the effect of an instruction of the section's code
  abbrev does : List Instr → Effect HeldCells
  does instrs = act load_held store_held plan.program.shape (slice_get instrs a.machine.place) a.machine

  does_same : next_effect plan a ≡ does (section_code mine section)
  does_same = ap does (code_is laws plan ok k section is)

  moving : CanGo a → a.pending ≡ [] → a.outcome ≡ None → HasCells laws plan ok k section is a.held a.machine →
      IsMoving laws plan ok k section is a.held a.machine
  moving (over p' o') p o has = absurd (let bad : None ≡ Some _ = sym o ∙ o' in cc bad)
  moving (asking f) p o has =
      let same : a.held ++ a.pending ≡ a.held = ap (λ xs. a.held ++ xs) p ∙ with_none a.held in
      inl (point_steps laws plan ok k section is f.point f.inside a.held a.machine f.place f.stack
      (subst (λ held. HasCome plan section mine f.point.number held a.machine) same f.come)
      (λ lock l. subst (λ held. Contains held lock) same (f.all lock l)) has)
  moving (running p' s) p o has =
      elim (safe_steps load_held store_held plan.program.shape (section_code mine section) (operand_need section) Any (IsAtPoint plan section mine a.held) a.machine s) [
        | inl at ↦ at_point laws plan ok k section is a.held a.machine at has
        | inr g ↦ inl g
      ]

  -- ---- an instruction

  kept_by : (x : Effect HeldCells) → a.pending ≡ [] → GoesOn laws plan ok k section is a.held x →
      CanGo (instructed plan a x)
  kept_by (Moves m) p g = running p g
  kept_by (Asks point) p g = absurd g
  kept_by (Finishes outcome) p g = over p refl
  kept_by Undefined p g = absurd g

  acquires : (x : IsAtAcquire laws plan ok k section is a.held a.machine) →
      CanGo (instructed plan a (Asks x.at.point.number))
  acquires x = asking (by (locks_before plan k x.at.point.number a.held a.machine.locals) locks_are) where
    locks_are : to_ask plan.program section plan.ranks a.held a.machine.locals x.list
        ≡ locks_before plan k x.at.point.number a.held a.machine.locals
    locks_are =
        let ask : Section → List ℕ → List Lock = λ s list. to_ask plan.program s plan.ranks a.held a.machine.locals list in
        let list : List ℕ = unwrap_or (slice_get mine x.at.point.number) [] in
        sym (ap (λ o. option_map_or (λ (s : Section). ask s list) o []) is ∙ ap (λ o. ask section (unwrap_or o [])) x.listed)

    by : (pending : List Lock) → to_ask plan.program section plan.ranks a.held a.machine.locals x.list ≡ pending →
        IsAsking plan section mine a.held pending (passed a.machine)
    by pending e =
        let come = x.at.come in
        let turn = laws.in_turn plan.program section plan.ranks mine x.at.point.number a.machine.locals a.held x.list
        (ordered laws plan ok k section is) come.run x.listed in
        let one : length (acquire_code mine x.at.point.number) ≡ 1 = ap (λ (xs : List Instr). length xs) x.one in
        let place = x.at.place in
        subst (λ pending. IsAsking plan section mine a.held pending (passed a.machine)) e (record {
          point = x.at.point;
          inside = x.at.inside;
          place = omega (arith, place, one);
          stack = x.at.stack;
          rise = turn.0;
          come = record { scope = come.scope; scoped = come.scoped; locals = come.locals; lets = come.lets; cells = come.cells; run = turn.1 };
          all = turn.2;
        })

  pub instructed_on : CanGo a → a.pending ≡ [] → a.outcome ≡ None →
      HasCells laws plan ok k section is a.held a.machine →
      CanGo (instructed plan a (next_effect plan a))
  instructed_on can p o has =
      subst (λ x. CanGo (instructed plan a x)) (sym does_same) (elim (moving can p o has) [
        | inl g ↦ kept_by (does (section_code mine section)) p g.1
        | inr x ↦ subst (λ x. CanGo (instructed plan a x))
            (sym (ap (λ i. act load_held store_held plan.program.shape i a.machine) x.here)) (acquires x)
      ])

  -- the next instruction has its case, and its operands fit
  pub has_case : CanGo a → a.pending ≡ [] → a.outcome ≡ None → HasCells laws plan ok k section is a.held a.machine →
      next_effect plan a ≡ Undefined → ⊥
  has_case can p o has e =
      elim (moving can p o has) [
        | inl g ↦ subst (GoesOn laws plan ok k section is a.held) (sym does_same ∙ e) g.1
        | inr x ↦ (let asks : does (section_code mine section) ≡ Asks x.at.point.number =
            ap (λ i. act load_held store_held plan.program.shape i a.machine) x.here in
            let bad : Asks x.at.point.number ≡ Undefined = sym asks ∙ (sym does_same ∙ e) in cc bad)
      ]

  pub has_room : CanGo a → a.pending ≡ [] → a.outcome ≡ None → HasCells laws plan ok k section is a.held a.machine →
      length a.machine.stack ≤ operand_need section
  has_room can p o has =
      elim (moving can p o has) [
        | inl g ↦ g.0
        | inr x ↦ (let empty : length a.machine.stack ≡ 0 = ap (λ (xs : List Value). length xs) x.at.stack in omega (arith, empty))
      ]

  -- ---- a lock that is granted

  pub granted_on : (lock : Lock) (rest : List Lock) (values : List (ℕ × Value)) → CanGo a → a.pending ≡ lock ∷ rest →
      SeesTyped plan.program (λ c. value_at values c) → CanGo (granted a lock rest values)
  granted_on lock rest values (running p s) e typed = absurd (let bad : [] ≡ lock ∷ rest = sym p ∙ e in cc bad)
  granted_on lock rest values (over p o) e typed = absurd (let bad : [] ≡ lock ∷ rest = sym p ∙ e in cc bad)
  granted_on lock rest values (asking f) e typed =
      let same : a.held ++ a.pending ≡ (a.held ++ lock ∷ []) ++ rest = ap (λ xs. a.held ++ xs) e ∙ sym (behind a.held lock rest) in
      let come = f.come in
      asking (record {
        point = f.point;
        inside = f.inside;
        place = f.place;
        stack = f.stack;
        rise = (subst (RiseBehind plan.ranks a.held) e f.rise).1;
        come = record {
          scope = come.scope;
          scoped = come.scoped;
          locals = come.locals;
          lets = come.lets;
          cells = λ c v h. elim (value_cases a.machine.memory.cells values c v h) [ inl old ↦ come.cells c v old | inr new ↦ typed c v new ];
          run = subst (λ held. Run plan.program section plan.ranks mine f.point.number a.machine.locals held) same come.run;
        };
        all = λ l listed. subst (λ held. Contains held l) same (f.all l listed);
      })

  -- ---- a lock that is asked for and not granted

  pub asked_on : CanGo a → CanGo (record a { asked = true })
  asked_on (running p s) = running p s
  asked_on (asking f) = asking f
  asked_on (over p o) = over p o

-- ---- a begin

module _ (laws : GoingLaws) (plan : Plan) (ok : IsCompiled plan) (n : ℕ) (call : Invocation) (section : Section)
    (is : section_at plan call.section ≡ Some section) (fit : Fit plan.program section call.arguments) where
  abbrev its : List (List ℕ)
  its = lists_at plan.lists call.section

  abbrev fresh : Machine HeldCells
  fresh = (activation plan n call).machine

  locals_are : (opening section call.arguments []).locals ≡ locals_at plan call
  locals_are = sym (ap (λ o. option_map_or (λ (s : Section). (opening s call.arguments []).locals) o []) is)

  comes_first : (scope : List ℕ) → IsScopeAt section 0 scope → HasCome plan section its 0 [] fresh
  comes_first scope scoped = record {
    scope = scope;
    scoped = scoped;
    locals = subst (HaveTypes plan.program.shape (local_types section.locals.items)) locals_are
        (opening_has plan.program.shape section.parameters section.locals.items call.arguments fit);
    lets = laws.first_lets section scope plan.program.shape fresh.locals (ok.well_formed.scopes call.section section is) scoped;
    cells = λ c v h. absurd cc;
    run = begins;
  }

  starts : (o : Option ℕ) → head (skeleton section) 0 None ≡ o → IsRunning plan section its [] fresh
  starts None e =
      finishes (omega arith) (ap (λ i. act load_held store_held plan.program.shape i fresh) (laws.none its section e)) tt
  starts (Some p) e =
      let first = laws.first its section p e in
      let zero_is : 0 ≡ first.0.number = sym (first.2 ∙ first_is_zero (skeleton section) p e) in
      let scope = scope_at laws plan ok call.section section is first.0 first.1 in
      there (record {
        point = first.0;
        inside = first.1;
        place = sym first.3;
        stack = refl;
        come = subst (λ q. HasCome plan section its q [] fresh) zero_is
            (comes_first scope.0 (subst (λ q. IsScopeAt section q scope.0) (sym zero_is) scope.1));
      })

  pub begun_on : CanGoOn plan section its (activation plan n call)
  begun_on = running refl (starts (head (skeleton section) 0 None) refl)
