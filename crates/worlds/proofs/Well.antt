-- The properties that an open section has by itself hold along its own steps.
use Rattle.std.proofs.Common.{◌≡◌, ◌<◌, ℕ, zero, suc, true, List, [], ◌∷◌, length, map, Option, Some, None, slice_get}
use Rattle.std.proofs.Common.{refl, sym, ap, ◌∙◌, arith, inl, inr, true≢false}
use Rattle.std.proofs.lemmas.List.{length-map}
use Rattle.std.proofs.Common.{nat_eq}
use Rattle.std.proofs.lemmas.Bool.{cases_eq, cond-true, cond-false, eq-eqb, ne_eqb}
use Rattle.std.proofs.lemmas.Option.{slice_get_within}
use Rattle.std.specs.Option.{option_map_or}
use Rattle.core_lang.specs.Theory.Checked.{calls_nothing}
use Rattle.core_lang.specs.declared.value.Value.{Value}
use Rattle.core_lang.specs.declared.value.Outcome.{Outcome}
use Rattle.core_lang.specs.declared.tree.Section.{Section}
use Rattle.core_lang.specs.declared.typed.Cell.{Cell}
use Rattle.core_lang.specs.Serial.{Invocation}
use Rattle.core_lang.specs.Whole.{opening}
use Rattle.locks.specs.declared.lock.Lock.{Lock}
use Rattle.layout.specs.LockCells.{cells_of}
use Rattle.code.specs.Machine.{Effect, Moves, Asks, Finishes, Undefined, At, Halted, act, passed, exec, proceed}
use Rattle.code.specs.Memory.{HeldCells, value_at, load_from, store_to, overwritten, Agrees, IsCovered, IsConsistent}
use Rattle.code.specs.Memory.{IsPartOf}
use Rattle.code.specs.Alone.{alone, starting}
use Rattle.code.specs.Lowering.{section_code, lists_at}
use Rattle.code.specs.Working.Laws.{KeepsHeld, MovesAlike, AsksAlike, FinishesAlike, KeepsUnwritten, on_heap}
use Rattle.code.specs.Working.RunLaws.{EndsOnlyAsSection}
use Rattle.code.specs.Theory.Values.{value_left, value_right}
use Rattle.history.specs.Working.Laws.{CommittedOfOneMore, LegalOfOneMore, TrueOfOneMore}
use Rattle.history.specs.Commits.{IsTrueCommit}
use Rattle.lowering.specs.Plans.{Plan, IsCompiled}
use Rattle.worlds.specs.Worlds.{Activation, activation, commit, granted, taken, section_at, code_at, locals_at}
use Rattle.worlds.specs.Worlds.{instructed, next_effect}
use Rattle.worlds.specs.Working.States.{standing, IsWell, IsFit}
use Rattle.worlds.specs.Claims.{HoldsCell}
use Rattle.worlds.proofs.Alone.{one_more}
use Rattle.worlds.proofs.Cells.{among_more, among_last, among_push, value_cases, some_or_none, taken_only, without_none}
use Rattle.worlds.proofs.Cells.{without_away}
use Rattle.worlds.specs.Worlds.{without}

-- the laws on which this stands
pub record Laws : Type 0 where
  pub keeps : KeepsHeld
  pub moves : MovesAlike
  pub asks : AsksAlike
  pub finishes : FinishesAlike
  pub unwritten : KeepsUnwritten
  pub ends_only : EndsOnlyAsSection ℕ
  pub heap : CommittedOfOneMore
  pub legal : LegalOfOneMore
  pub all_true : TrueOfOneMore

pub opening_size : (plan : Plan) → IsCompiled plan → length plan.layout.opening ≡ length plan.program.cells.items
opening_size plan ok = ap length ok.laid_out.opening ∙ length-map plan.program.cells.items (λ (c : Cell). c.opening)

pub cells_are : (plan : Plan) → IsCompiled plan → length plan.layout.cell_locks ≡ length plan.layout.opening
cells_are plan ok = ok.laid_out.cells ∙ sym (opening_size plan ok)

-- ---- which cells are held

key_of : ℕ × Value → ℕ
key_of x = x.0

-- two lists with the same cells have values for the same cells
same_keys : (xs ys : List (ℕ × Value)) → map (λ (x : ℕ × Value). x.0) ys ≡ map (λ (x : ℕ × Value). x.0) xs →
    (c : ℕ) (v : Value) →
    value_at ys c ≡ Some v → (u : Value) × (value_at xs c ≡ Some u)
same_keys xs [] e c v h = absurd cc
same_keys [] (y ∷ ys) e c v h = absurd cc
same_keys (x ∷ xs) (y ∷ ys) e c v h =
    let k : y.0 ≡ x.0 = cc e in
    let more : map (λ (x : ℕ × Value). x.0) ys ≡ map (λ (x : ℕ × Value). x.0) xs = cc e in
    by_key (x.0) (y.0) k (x.1) (y.1) (same_keys xs ys more c v) h where
      by_key : (a b : ℕ) → b ≡ a → (p q : Value) → (value_at ys c ≡ Some v → (u : Value) × (value_at xs c ≡ Some u)) →
          value_at ((b, q) ∷ ys) c ≡ Some v → (u : Value) × (value_at ((a, p) ∷ xs) c ≡ Some u)
      by_key a b same p q rest h = elim (cases_eq a c) [
        | inl e ↦ (p, cond-true (nat_eq a c) (Some p) (value_at xs c) (eq-eqb a c e))
        | inr ne ↦ (let r = rest (sym (cond-false (nat_eq b c) (Some q) (value_at ys c) (ne_eqb b c (λ f. ne (sym same ∙ f)))) ∙ h) in
            (r.0, cond-false (nat_eq a c) (Some p) (value_at xs c) (ne_eqb a c ne) ∙ r.1))
      ]

-- ---- an instruction

covered : (plan : Plan) → IsCompiled plan → (a : Activation) → IsWell plan a → (heap : List Value) →
    length heap ≡ length plan.layout.opening →
    IsCovered a.machine.memory.cells heap
covered plan ok a w heap n cell v h =
    let lock = w.only cell (v, h) in
    let less : cell < length plan.layout.cell_locks = slice_get_within plan.layout.cell_locks cell lock.0 lock.1 in
    let same = cells_are plan ok in
    omega (arith, less, same, n)

-- the state of the section, alone
there : (plan : Plan) (a : Activation) (w : IsWell plan a) (heap : List Value) → a.outcome ≡ None →
    length heap ≡ length plan.layout.opening →
    Agrees heap a.machine.memory.reads →
    alone plan.program.shape (code_at plan a.call.section) w.count (locals_at plan a.call) heap ≡ At (on_heap heap a.machine)
there plan a w heap none n agree = w.truth heap n agree ∙ ap (λ x. standing x (on_heap heap a.machine)) none

-- one more instruction, by its effect
further : (plan : Plan) (a : Activation) (w : IsWell plan a) (heap : List Value) → a.outcome ≡ None →
    length heap ≡ length plan.layout.opening →
    Agrees heap a.machine.memory.reads → (x : Effect (List Value)) →
    act load_from store_to plan.program.shape (slice_get (code_at plan a.call.section) a.machine.place) (on_heap heap a.machine) ≡ x →
    alone plan.program.shape (code_at plan a.call.section) (suc w.count) (locals_at plan a.call) heap
    ≡ proceed load_from store_to plan.program.shape (on_heap heap a.machine) x (exec load_from store_to plan.program.shape (code_at plan a.call.section) zero)
further plan a w heap none n agree x is =
    let shape = plan.program.shape in
    let code = code_at plan a.call.section in
    one_more load_from store_to shape code w.count (starting (locals_at plan a.call) heap) (on_heap heap a.machine) (there plan a w heap none n agree)
    ∙ ap (λ y. proceed load_from store_to shape (on_heap heap a.machine) y (exec load_from store_to shape code zero)) is

pub well_instructed : Laws → (plan : Plan) → IsCompiled plan → (a : Activation) → IsWell plan a → a.outcome ≡ None →
    (x : Effect HeldCells) →
    next_effect plan a ≡ x → IsWell plan (instructed plan a x)
well_instructed laws plan ok a w none (Moves m) is =
    let k = laws.keeps plan.program.shape (slice_get (code_at plan a.call.section) a.machine.place) a.machine m is in
    record {
      section = w.section;
      is = w.is;
      only = λ cell h. w.only cell (same_keys a.machine.memory.cells m.memory.cells k.cells cell h.0 h.1);
      all = λ cell h. (let old = w.all cell h in same_keys m.memory.cells a.machine.memory.cells (sym k.cells) cell old.0 old.1);
      consistent = k.consistent w.consistent;
      count = suc w.count;
      truth = λ heap n agree.
          (let before = k.agreed heap w.consistent agree in
          further plan a w heap none n before (Moves (on_heap heap m))
          (laws.moves plan.program.shape (slice_get (code_at plan a.call.section) a.machine.place) a.machine m heap is w.consistent (covered plan ok a w heap n) agree)
          ∙ ap (λ y. standing y (on_heap heap m)) (sym none));
    }
well_instructed laws plan ok a w none (Asks point) is = record {
  section = w.section;
  is = w.is;
  only = w.only;
  all = w.all;
  consistent = w.consistent;
  count = suc w.count;
  truth = λ heap n agree.
      further plan a w heap none n agree (Asks point)
      (laws.asks plan.program.shape (slice_get (code_at plan a.call.section) a.machine.place) a.machine point heap is)
      ∙ ap (λ y. standing y (on_heap heap (passed a.machine))) (sym none);
}
well_instructed laws plan ok a w none (Finishes outcome) is = record {
  section = w.section;
  is = w.is;
  only = w.only;
  all = w.all;
  consistent = w.consistent;
  count = suc w.count;
  truth = λ heap n agree.
      further plan a w heap none n agree (Finishes outcome)
      (laws.finishes plan.program.shape (slice_get (code_at plan a.call.section) a.machine.place) a.machine outcome heap is);
}
well_instructed laws plan ok a w none Undefined is = w

-- an instruction changes no lock and no cell that is held, and what is held stays part of the heap
pub record Alike (heap : List Value) (a b : Activation) : Type 0 where
  pub held : b.held ≡ a.held
  pub after : (cell : ℕ) → HoldsCell a cell → HoldsCell b cell
  pub before : (cell : ℕ) → HoldsCell b cell → HoldsCell a cell
  pub part : IsPartOf heap a.machine.memory → IsPartOf heap b.machine.memory

pub alike_instructed : Laws → (plan : Plan) (a : Activation) (heap : List Value) (x : Effect HeldCells) →
    next_effect plan a ≡ x →
    Alike heap a (instructed plan a x)
alike_instructed laws plan a heap (Moves m) is =
    let k = laws.keeps plan.program.shape (slice_get (code_at plan a.call.section) a.machine.place) a.machine m is in
    record {
      held = refl;
      after = λ cell h. same_keys m.memory.cells a.machine.memory.cells (sym k.cells) cell h.0 h.1;
      before = λ cell h. same_keys a.machine.memory.cells m.memory.cells k.cells cell h.0 h.1;
      part = k.part heap;
    }
alike_instructed laws plan a heap (Asks point) is = record { held = refl; after = λ cell h. h; before = λ cell h. h; part = λ p. p }
alike_instructed laws plan a heap (Finishes outcome) is = record { held = refl; after = λ cell h. h; before = λ cell h. h; part = λ p. p }
alike_instructed laws plan a heap Undefined is = record { held = refl; after = λ cell h. h; before = λ cell h. h; part = λ p. p }

-- ---- a begin, and an ask

pub well_asked : (plan : Plan) (a : Activation) → IsWell plan a → IsWell plan (record a { asked = true })
well_asked plan a w = record {
  section = w.section;
  is = w.is;
  only = w.only;
  all = w.all;
  consistent = w.consistent;
  count = w.count;
  truth = w.truth;
}

pub well_begun : (plan : Plan) (n : ℕ) (call : Invocation) (section : Section) →
    section_at plan call.section ≡ Some section →
    IsWell plan (activation plan n call)
well_begun plan n call section is = record {
  section = section;
  is = is;
  only = λ cell h. absurd (let bad : None ≡ Some h.0 = h.1 in cc bad);
  all = λ cell h. absurd (true≢false (sym h.2));
  consistent = record { written = λ cell v h. absurd cc; read = λ cell v none h. absurd cc };
  count = 0;
  truth = λ heap size agree. refl;
}

-- ---- a lock that is granted

pub unwritten_of : (a : Activation) → IsConsistent a.machine.memory → (cell : ℕ) → (HoldsCell a cell → ⊥) →
    value_at a.machine.memory.writes cell ≡ None
unwritten_of a ok cell not = elim (some_or_none (value_at a.machine.memory.writes cell)) [
  | inl s ↦ absurd (not (s.0, ok.written cell s.0 s.1))
  | inr n ↦ n
]

pub well_granted : (plan : Plan) (a : Activation) (lock : Lock) (rest : List Lock) (more : List (ℕ × Value)) →
    IsWell plan a →
    ((cell : ℕ) (v : Value) → value_at more cell ≡ Some v → slice_get plan.layout.cell_locks cell ≡ Some lock) →
    ((cell : ℕ) → slice_get plan.layout.cell_locks cell ≡ Some lock → (v : Value) × (value_at more cell ≡ Some v)) →
    IsWell plan (granted a lock rest more)
well_granted plan a lock rest more w only has =
    let locks = plan.layout.cell_locks in
    let mine = a.machine.memory.cells in
    record {
      section = w.section;
      is = w.is;
      only = λ cell h. elim (value_cases mine more cell h.0 h.1) [
        | inl e ↦ (let old = w.only cell (h.0, e) in (old.0, old.1, among_more a.held (lock ∷ []) old.0 old.2))
        | inr e ↦ (lock, only cell h.0 e, among_last a.held lock)
      ];
      all = λ cell h. elim (some_or_none (value_at mine cell)) [
        | inl s ↦ (s.0, value_left mine more cell s.0 s.1)
        | inr n ↦ elim (among_push a.held lock h.0 h.2) [
          | inl e ↦ (let old = w.all cell (h.0, h.1, e) in (old.0, value_left mine more cell old.0 old.1))
          | inr e ↦ (let is_mine : slice_get locks cell ≡ Some lock = h.1 ∙ ap (λ (x : Lock). Some x) (sym e) in
              let v = has cell is_mine in
              (v.0, value_right mine more cell n ∙ v.1))
        ]
      ];
      consistent = record {
        written = λ cell v h. value_left mine more cell v (w.consistent.written cell v h);
        read = λ cell v none h. value_left mine more cell v (w.consistent.read cell v none h);
      };
      count = w.count;
      truth = w.truth;
    }

pub fit_granted : Laws →
    (plan : Plan) (a : Activation) (lock : Lock) (rest : List Lock) (cells : List (Option Value)) (heap : List Value) →
    IsWell plan a → IsFit cells heap a → ((c : ℕ) (v : Value) → slice_get cells c ≡ Some (Some v) → slice_get heap c ≡ Some v) →
    IsFit (without cells (cells_of plan.layout.cell_locks lock)) heap (granted a lock rest (taken cells (cells_of plan.layout.cell_locks lock)))
fit_granted laws plan a lock rest cells heap w f values =
    let numbers = cells_of plan.layout.cell_locks lock in
    let mine = a.machine.memory.cells in
    record {
      moved = λ cell h. elim (value_cases mine (taken cells numbers) cell h.0 h.1) [
        | inl e ↦ without_none cells numbers cell (f.moved cell (h.0, e))
        | inr e ↦ (let t = taken_only cells numbers cell h.0 e in without_away cells numbers cell (Some h.0) t.0 t.1)
      ];
      part = record {
        now = λ cell v h. elim (value_cases mine (taken cells numbers) cell v h) [
          | inl e ↦ f.part.now cell v e
          | inr e ↦ (let t = taken_only cells numbers cell v e in
              let not : HoldsCell a cell → ⊥ = λ held. (let away = f.moved cell held in
              let bad : Some None ≡ Some (Some v) = sym away ∙ t.1 in cc bad) in
              laws.unwritten heap a.machine.memory.writes cell (unwritten_of a w.consistent cell not) ∙ values cell v t.1)
        ];
        reads = f.part.reads;
      };
    }

-- ---- an end

pub true_commit : EndsOnlyAsSection ℕ → (plan : Plan) → IsCompiled plan →
    (t step : ℕ) (a : Activation) (outcome : Outcome) → IsWell plan a →
    a.outcome ≡ Some outcome → IsTrueCommit plan.program (commit t step a outcome)
true_commit ends_only plan ok t step a outcome w is heap n agree =
    let size : length heap ≡ length plan.layout.opening = n ∙ (sym ok.laid_out.cells ∙ cells_are plan ok) in
    let section = w.section in
    let lists = lists_at plan.lists a.call.section in
    let code : code_at plan a.call.section ≡ section_code lists section =
    ap (λ x. option_map_or (λ (s : Section). section_code lists s) x []) w.is in
    let locals : locals_at plan a.call ≡ (opening section a.call.arguments heap).locals =
    ap (λ x. option_map_or (λ (s : Section). (opening s a.call.arguments []).locals) x []) w.is in
    let halts : alone plan.program.shape (section_code lists section) w.count (opening section a.call.arguments heap).locals heap
    ≡ Halted outcome (overwritten heap a.machine.memory.writes) a.machine.prints =
    ap (λ c. alone plan.program.shape c w.count (opening section a.call.arguments heap).locals heap) (sym code)
    ∙ (ap (λ l. alone plan.program.shape (code_at plan a.call.section) w.count l heap) (sym locals)
    ∙ (w.truth heap size agree ∙ ap (λ x. standing x (on_heap heap a.machine)) is)) in
    (section, w.is, ends_only lists section plan.program.shape a.call.arguments heap w.count _ (calls_nothing plan.program a.call.section section ok.well_formed w.is) halts)
