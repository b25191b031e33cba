-- An instruction on held cells and the same instruction on a heap, and whole runs of both.
use Rattle.std.proofs.Common.{◌≡◌, ℕ, zero, suc, ◌+◌, ◌<◌, List, [], ◌∷◌, length, Option, Some, None, Bool, true, false}
use Rattle.std.proofs.Common.{Result, Ok, Err, inl, inr, refl, sym, ap, ◌∙◌, subst, arith}
use Rattle.std.specs.Prelude.{slice_get, slice_set, not, ⊤}
use Rattle.std.proofs.lemmas.Bool.Decides.{eqb_tells}
use Rattle.std.proofs.lemmas.Option.{none-some, same_Some, slice_get_within, slice_get-get_or}
use Rattle.core_lang.specs.declared.value.Value.{Value}
use Rattle.core_lang.specs.declared.value.Failure.{Failure}
use Rattle.core_lang.specs.declared.value.Failure.TheVariants.{Trap, Wrong}
use Rattle.core_lang.specs.declared.shape.Shape.{Shape}
use Rattle.core_lang.specs.Arithmetic.{on_values, negated, compared}
use Rattle.core_lang.specs.Cells.{with, found, element_cell, member_of, field_cell, final_value, owned, not_null}
use Rattle.code.specs.declared.instr.Instr.{Instr}
use Rattle.code.specs.declared.instr.Instr.TheVariants.{PushNumber, PushNull, GetLocal, PutLocal, LoadGlobal, PutGlobal}
use Rattle.code.specs.declared.instr.Instr.TheVariants.{LoadElement, Bound, PutElement, GetMember, LoadFinal, LoadField}
use Rattle.code.specs.declared.instr.Instr.TheVariants.{NonNull, PutField, Where, NegateTop, NotTop, Operate, Test}
use Rattle.code.specs.declared.instr.Instr.TheVariants.{Jump, JumpBack, JumpIfFalse, JumpIfTrue, PrintTop, Acquire}
use Rattle.code.specs.declared.instr.Instr.TheVariants.{Return, End}
use Rattle.code.specs.Machine.{Machine, Effect, Moves, Asks, Finishes, Undefined, Standing, At, Halted, Stuck, passed}
use Rattle.code.specs.Machine.{advances, jumps_if, or_trap, on_top, on_two, if_there, is_true, negation, printed, loads}
use Rattle.code.specs.Machine.{stores, act, proceed, exec}
use Rattle.code.specs.Memory.{HeldCells, value_at, with_value, with_changed, beside, load_from, written_where, store_to}
use Rattle.code.specs.Memory.{noted, read_if_held, load_held, write_if_held, store_held, overwritten, Agrees, IsCovered}
use Rattle.code.specs.Memory.{IsConsistent, IsPartOf, Keeps}
use Rattle.code.specs.Working.Laws.{on_heap}
use Rattle.code.specs.Theory.Values.{set_same, set_other, changed_same, changed_other, changed_cells, changed_covered}
use Rattle.code.specs.Theory.Values.{length-overwritten, written_cell, unwritten_cell, overwritten_with, agrees_noted}
use Rattle.code.specs.Theory.Values.{noted_agrees, set_here, set_there}

-- ---- properties of held cells that a read and a write keep

keeps_all : (held : HeldCells) → Keeps held held
keeps_all held = record { cells = refl; consistent = λ ok. ok; part = λ heap part. part; agreed = λ heap ok agrees. agrees }

keeps_noted : (held : HeldCells) (c : ℕ) (v : Value) (w : Option Value) → value_at held.cells c ≡ Some v →
    value_at held.writes c ≡ w →
    Keeps held (noted held c v w)
keeps_noted held c v (Some u) here e = keeps_all held
keeps_noted held c v None here e = record {
  cells = refl;
  consistent = λ ok. record { written = ok.written; read = still_read ok };
  part = λ heap part. record {
    now = part.now;
    reads = noted_agrees heap held.reads c v (sym (unwritten_cell heap held.writes c e) ∙ part.now c v here) part.reads;
  };
  agreed = λ heap ok agrees. (agrees_noted heap held.reads c v (λ old is. same_Some _ _ (sym (ok.read c old e is) ∙ here)) agrees).1;
}
  where
    still_read : IsConsistent held → (k : ℕ) (u : Value) → value_at held.writes k ≡ None →
        value_at (with_value held.reads c v) k ≡ Some u →
        value_at held.cells k ≡ Some u
    still_read ok k u unwritten is =
        elim (eqb_tells c k) [
          | inl h ↦
              let both : Some v ≡ Some u = sym (set_same held.reads c v) ∙ ap (value_at (with_value held.reads c v)) h.1 ∙ is in
              ap (value_at held.cells) (sym h.1) ∙ here ∙ both
          | inr h ↦ ok.read k u unwritten (sym (set_other held.reads c k v h.1) ∙ is)
        ]

keeps_wrote : (held : HeldCells) (c : ℕ) (old v : Value) → value_at held.cells c ≡ Some old →
    Keeps held (record held { cells = with_changed held.cells c v; writes = with_value held.writes c v })
keeps_wrote held c old v here = record {
  cells = changed_cells held.cells c v;
  consistent = λ ok. record { written = still_written ok; read = still_read ok };
  part = λ heap part. record { now = still_now heap part; reads = part.reads };
  agreed = λ heap ok agrees. agrees;
}
  where
    still_written : IsConsistent held → (k : ℕ) (u : Value) → value_at (with_value held.writes c v) k ≡ Some u →
        value_at (with_changed held.cells c v) k ≡ Some u
    still_written ok k u is =
        elim (eqb_tells c k) [
          | inl h ↦
              let both : Some v ≡ Some u = sym (set_same held.writes c v) ∙ ap (value_at (with_value held.writes c v)) h.1 ∙ is in
              ap (value_at (with_changed held.cells c v)) (sym h.1) ∙ changed_same held.cells c old v here ∙ both
          | inr h ↦ changed_other held.cells c k v h.1 ∙ ok.written k u (sym (set_other held.writes c k v h.1) ∙ is)
        ]

    still_read : IsConsistent held → (k : ℕ) (u : Value) → value_at (with_value held.writes c v) k ≡ None →
        value_at held.reads k ≡ Some u →
        value_at (with_changed held.cells c v) k ≡ Some u
    still_read ok k u unwritten is =
        elim (eqb_tells c k) [
          | inl h ↦ absurd (none-some _ (sym unwritten ∙ ap (value_at (with_value held.writes c v)) (sym h.1) ∙ set_same held.writes c v))
          | inr h ↦ changed_other held.cells c k v h.1 ∙ ok.read k u (sym (set_other held.writes c k v h.1) ∙ unwritten) is
        ]

    still_now : (heap : List Value) → IsPartOf heap held → (k : ℕ) (u : Value) →
        value_at (with_changed held.cells c v) k ≡ Some u →
        slice_get (overwritten heap (with_value held.writes c v)) k ≡ Some u
    still_now heap part k u is =
        ap (λ h. slice_get h k) (overwritten_with heap held.writes c v)
        ∙ elim (eqb_tells c k) [
          | inl h ↦
              let both : Some v ≡ Some u = sym (changed_same held.cells c old v here) ∙ ap (value_at (with_changed held.cells c v)) h.1 ∙ is in
              ap (slice_get (slice_set (overwritten heap held.writes) c v)) (sym h.1)
              ∙ set_here (overwritten heap held.writes) c v (slice_get_within (overwritten heap held.writes) c old (part.now c old here)) ∙ both
          | inr h ↦
              set_there (overwritten heap held.writes) c k v (λ q. h.1 (sym q))
              ∙ part.now k u (sym (changed_other held.cells c k v h.1) ∙ is)
        ]

module _ (heap : List Value) (shape : Shape) where
  -- ---- one instruction

  -- the effect of an instruction on held cells, beside its effect on the heap
  abbrev pub Beside : Effect HeldCells → Effect (List Value) → Machine HeldCells → Type 0
  Beside (Moves next) y m =
      Keeps m.memory next.memory × (IsCovered m.memory.cells heap → IsCovered next.memory.cells heap)
      × (IsConsistent m.memory → IsCovered m.memory.cells heap → Agrees heap next.memory.reads → y ≡ Moves (on_heap heap next))
  Beside (Asks point) y m = y ≡ Asks point
  Beside (Finishes outcome) y m = y ≡ Finishes outcome
  Beside Undefined y m = ⊤

  trap_beside : {A : Type 0} (r : Result A Failure) (m : Machine HeldCells) (go : A → Effect HeldCells) (go' : A →
      Effect (List Value)) →
      ((a : A) → Beside (go a) (go' a) m) → Beside (or_trap r go) (or_trap r go') m
  trap_beside (Ok a) m go go' h = h a
  trap_beside (Err (Trap t)) m go go' h = refl
  trap_beside (Err Wrong) m go go' h = tt

  top_beside : (stack : List Value) (m : Machine HeldCells) (go : Value → List Value →
      Effect HeldCells) (go' : Value → List Value → Effect (List Value)) →
      ((v : Value) (rest : List Value) → Beside (go v rest) (go' v rest) m) → Beside (on_top stack go) (on_top stack go') m
  top_beside [] m go go' h = tt
  top_beside (v ∷ rest) m go go' h = h v rest

  two_beside : (stack : List Value) (m : Machine HeldCells) (go : Value → Value → List Value →
      Effect HeldCells) (go' : Value → Value → List Value → Effect (List Value)) →
      ((u v : Value) (rest : List Value) → Beside (go u v rest) (go' u v rest) m) → Beside (on_two stack go) (on_two stack go') m
  two_beside [] m go go' h = tt
  two_beside (v ∷ []) m go go' h = tt
  two_beside (v ∷ u ∷ rest) m go go' h = h u v rest

  -- a move that leaves the memory as it is
  moves_beside : (m next : Machine HeldCells) → next.memory ≡ m.memory →
      Beside (Moves next) (Moves (on_heap heap next)) m
  moves_beside m next e =
      (subst (Keeps m.memory) (sym e) (keeps_all m.memory), λ covered. subst (λ h. IsCovered h.cells heap) (sym e) covered, λ ok covered agrees. refl)

  jump_beside : (b : Bool) (m : Machine HeldCells) (over : ℕ) (rest : List Value) →
      Beside (jumps_if b m over rest) (jumps_if b (on_heap heap m) over rest) m
  jump_beside true m over rest = moves_beside m _ refl
  jump_beside false m over rest = moves_beside m _ refl

  -- a load
  noted_same : (held : HeldCells) (c : ℕ) (v : Value) (w : Option Value) →
      overwritten heap (noted held c v w).writes ≡ overwritten heap held.writes
  noted_same held c v (Some u) = refl
  noted_same held c v None = refl

  noted_covered : (held : HeldCells) (c : ℕ) (v : Value) (w : Option Value) → IsCovered held.cells heap →
      IsCovered (noted held c v w).cells heap
  noted_covered held c v (Some u) covered = covered
  noted_covered held c v None covered = covered

  -- a read value is that of the heap with the writes made
  read_there : (held : HeldCells) (c : ℕ) (v : Value) (w : Option Value) → value_at held.cells c ≡ Some v →
      value_at held.writes c ≡ w →
      IsConsistent held → IsCovered held.cells heap → Agrees heap (noted held c v w).reads → slice_get (overwritten heap held.writes) c ≡ Some v
  read_there held c v (Some u) here e ok covered agrees =
      written_cell heap held.writes c u (covered c v here) e ∙ sym (ok.written c u e) ∙ here
  read_there held c v None here e ok covered agrees =
      unwritten_cell heap held.writes c e ∙ (agrees_noted heap held.reads c v (λ old is. same_Some _ _ (sym (ok.read c old e is) ∙ here)) agrees).0

  load_by : (o : Option Value) (m : Machine HeldCells) (c : ℕ) (rest : List Value) → value_at m.memory.cells c ≡ o →
      Beside (if_there (read_if_held m.memory c o) (λ r. advances (record m { memory = r.1 }) (r.0 ∷ rest)))
      (loads load_from store_to shape (on_heap heap m) c rest) m
  load_by None m c rest here = tt
  load_by (Some v) m c rest here =
      let w = value_at m.memory.writes c in (
        keeps_noted m.memory c v w here refl,
        noted_covered m.memory c v w,
        λ ok covered agrees.
            ap (λ o. if_there (beside (overwritten heap m.memory.writes) o) (λ r. advances (record (on_heap heap m) { memory = r.1 }) (r.0 ∷ rest)))
            (read_there m.memory c v w here refl ok covered agrees)
            ∙ ap (λ h. Moves (record { place = m.place + 1; stack = v ∷ rest; locals = m.locals; memory = h; prints = m.prints })) (sym (noted_same m.memory c v w)),
      )

  load_beside : (m : Machine HeldCells) (c : ℕ) (rest : List Value) →
      Beside (loads load_held store_held shape m c rest) (loads load_from store_to shape (on_heap heap m) c rest) m
  load_beside m c rest = load_by (value_at m.memory.cells c) m c rest refl

  -- a store
  store_by : (o : Option Value) (m : Machine HeldCells) (c : ℕ) (v : Value) (rest : List Value) →
      value_at m.memory.cells c ≡ o →
      Beside (if_there (write_if_held m.memory o c v) (λ memory. advances (record m { memory = memory }) rest))
      (stores load_from store_to shape (on_heap heap m) c v rest) m
  store_by None m c v rest here = tt
  store_by (Some old) m c v rest here = (
    keeps_wrote m.memory c old v here,
    changed_covered m.memory.cells c old v heap here,
    λ ok covered agrees.
        let now = overwritten heap m.memory.writes in
        let lt : c < length now = omega (arith, length-overwritten heap m.memory.writes, covered c old here) in
        ap (λ o. if_there (written_where o now c v) (λ memory. advances (record (on_heap heap m) { memory = memory }) rest)) (slice_get-get_or now c v lt)
        ∙ ap (λ h. Moves (record { place = m.place + 1; stack = rest; locals = m.locals; memory = h; prints = m.prints }))
        (sym (overwritten_with heap m.memory.writes c v)),
  )

  store_beside : (m : Machine HeldCells) (c : ℕ) (v : Value) (rest : List Value) →
      Beside (stores load_held store_held shape m c v rest) (stores load_from store_to shape (on_heap heap m) c v rest) m
  store_beside m c v rest = store_by (value_at m.memory.cells c) m c v rest refl

  pub act_beside : (i : Option Instr) (m : Machine HeldCells) →
      Beside (act load_held store_held shape i m) (act load_from store_to shape i (on_heap heap m)) m
  act_beside None m = tt
  act_beside (Some (PushNumber n)) m = moves_beside m _ refl
  act_beside (Some PushNull) m = moves_beside m _ refl
  act_beside (Some (GetLocal k)) m = trap_beside (found (slice_get m.locals k)) m _ _ (λ v. moves_beside m _ refl)
  act_beside (Some (PutLocal k)) m =
      top_beside m.stack m _ _ (λ v rest. trap_beside (found (slice_get m.locals k)) m _ _ (λ old. moves_beside m _ refl))
  act_beside (Some (LoadGlobal cell)) m = load_beside m cell m.stack
  act_beside (Some (PutGlobal cell)) m = top_beside m.stack m _ _ (λ v rest. store_beside m cell v rest)
  act_beside (Some (LoadElement array)) m =
      top_beside m.stack m _ _ (λ i rest. trap_beside (element_cell shape array i) m _ _ (λ cell. load_beside m cell rest))
  act_beside (Some (Bound array)) m =
      top_beside m.stack m _ _ (λ i rest. trap_beside (element_cell shape array i) m _ _ (λ cell. moves_beside m _ refl))
  act_beside (Some (PutElement array)) m =
      two_beside m.stack m _ _ (λ i v rest. trap_beside (element_cell shape array i) m _ _ (λ cell. store_beside m cell v rest))
  act_beside (Some (GetMember pool)) m =
      top_beside m.stack m _ _ (λ i rest. trap_beside (member_of shape pool i) m _ _ (λ r. moves_beside m _ refl))
  act_beside (Some (LoadFinal f structure)) m =
      top_beside m.stack m _ _ (λ r rest. trap_beside (final_value shape r f) m _ _ (λ v. moves_beside m _ refl))
  act_beside (Some (LoadField f structure)) m =
      top_beside m.stack m _ _ (λ r rest. trap_beside (field_cell shape r f) m _ _ (λ cell. load_beside m cell rest))
  act_beside (Some NonNull) m = top_beside m.stack m _ _ (λ r rest. trap_beside (not_null r) m _ _ (λ same. moves_beside m _ refl))
  act_beside (Some (PutField f structure)) m =
      two_beside m.stack m _ _ (λ r v rest. trap_beside (field_cell shape r f) m _ _ (λ cell. store_beside m cell v rest))
  act_beside (Some (Where f structure k)) m =
      top_beside m.stack m _ _ (λ v rest. trap_beside (with (found (slice_get m.locals k)) (λ owner. owned shape v f owner)) m _ _ (λ w. moves_beside m _ refl))
  act_beside (Some NegateTop) m = top_beside m.stack m _ _ (λ v rest. trap_beside (negated v) m _ _ (λ w. moves_beside m _ refl))
  act_beside (Some NotTop) m = top_beside m.stack m _ _ (λ v rest. trap_beside (negation v) m _ _ (λ w. moves_beside m _ refl))
  act_beside (Some (Operate o)) m = two_beside m.stack m _ _ (λ a b rest. trap_beside (on_values o a b) m _ _ (λ w. moves_beside m _ refl))
  act_beside (Some (Test c)) m = two_beside m.stack m _ _ (λ a b rest. trap_beside (compared c a b) m _ _ (λ holds. moves_beside m _ refl))
  act_beside (Some (Jump over)) m = moves_beside m _ refl
  act_beside (Some (JumpBack back)) m = moves_beside m _ refl
  act_beside (Some (JumpIfFalse over)) m =
      top_beside m.stack m _ _ (λ v rest. trap_beside (is_true v) m _ _ (λ b. jump_beside (not b) m over rest))
  act_beside (Some (JumpIfTrue over)) m = top_beside m.stack m _ _ (λ v rest. trap_beside (is_true v) m _ _ (λ b. jump_beside b m over rest))
  act_beside (Some PrintTop) m = top_beside m.stack m _ _ (λ v rest. trap_beside (printed m.prints v) m _ _ (λ prints. moves_beside m _ refl))
  act_beside (Some (Acquire point)) m = refl
  act_beside (Some Return) m = top_beside m.stack m _ _ (λ v rest. refl)
  act_beside (Some End) m = refl

  -- ---- runs

  -- the state of a machine on held cells, beside that of the machine on the heap
  abbrev pub StandsBeside : Standing HeldCells → Standing (List Value) → HeldCells → Type 0
  StandsBeside (At next) y from = Agrees heap next.memory.reads → Agrees heap from.reads × (y ≡ At (on_heap heap next))
  StandsBeside (Halted outcome held prints) y from =
      Agrees heap held.reads → Agrees heap from.reads × (y ≡ Halted outcome (overwritten heap held.writes) prints)
  StandsBeside Stuck y from = ⊤

  -- after a move
  moved : (x : Standing HeldCells) (y y' : Standing (List Value)) (next from : HeldCells) → StandsBeside x y next →
      (Agrees heap next.reads → Agrees heap from.reads × (y' ≡ y)) → StandsBeside x y' from
  moved (At m) y y' next from h k = λ agrees. let a = h agrees in let b = k a.0 in (b.0, b.1 ∙ a.1)
  moved (Halted outcome held prints) y y' next from h k = λ agrees. let a = h agrees in let b = k a.0 in (b.0, b.1 ∙ a.1)
  moved Stuck y y' next from h k = tt

  module _ (code : List Instr) where
    step_beside : (n : ℕ) →
        ((m : Machine HeldCells) → IsConsistent m.memory → IsCovered m.memory.cells heap →
        StandsBeside (exec load_held store_held shape code n m) (exec load_from store_to shape code n (on_heap heap m)) m.memory) →
        (m : Machine HeldCells) (x : Effect HeldCells) (y : Effect (List Value)) → Beside x y m → IsConsistent m.memory → IsCovered m.memory.cells heap →
        StandsBeside (proceed load_held store_held shape m x (exec load_held store_held shape code n))
        (proceed load_from store_to shape (on_heap heap m) y (exec load_from store_to shape code n)) m.memory
    step_beside n ih m (Moves next) y h ok covered =
        moved (exec load_held store_held shape code n next) (exec load_from store_to shape code n (on_heap heap next)) _ next.memory m.memory
        (ih next (h.0.consistent ok) (h.1 covered))
        (λ agrees. (h.0.agreed heap ok agrees, ap (λ z. proceed load_from store_to shape (on_heap heap m) z (exec load_from store_to shape code n)) (h.2 ok covered agrees)))
    step_beside n ih m (Asks point) y h ok covered =
        moved (exec load_held store_held shape code n (passed m)) (exec load_from store_to shape code n (on_heap heap (passed m))) _ m.memory m.memory
        (ih (passed m) ok covered)
        (λ agrees. (agrees, ap (λ z. proceed load_from store_to shape (on_heap heap m) z (exec load_from store_to shape code n)) h))
    step_beside n ih m (Finishes outcome) y h ok covered =
        λ agrees. (agrees, ap (λ z. proceed load_from store_to shape (on_heap heap m) z (exec load_from store_to shape code n)) h)
    step_beside n ih m Undefined y h ok covered = tt

    pub run_beside : (n : ℕ) (m : Machine HeldCells) → IsConsistent m.memory → IsCovered m.memory.cells heap →
        StandsBeside (exec load_held store_held shape code n m) (exec load_from store_to shape code n (on_heap heap m)) m.memory
    run_beside zero m ok covered = λ agrees. (agrees, refl)
    run_beside (suc n) m ok covered =
        step_beside n (run_beside n) m (act load_held store_held shape (slice_get code m.place) m) _ (act_beside (slice_get code m.place) m) ok covered

    -- the cells stay part of the heap
    abbrev pub StandsOn : Standing HeldCells → Type 0
    StandsOn (At next) = IsPartOf heap next.memory
    StandsOn (Halted outcome held prints) = IsPartOf heap held
    StandsOn Stuck = ⊤

    step_part : (n : ℕ) →
        ((m : Machine HeldCells) → IsPartOf heap m.memory → StandsOn (exec load_held store_held shape code n m)) →
        (m : Machine HeldCells) (x : Effect HeldCells) (y : Effect (List Value)) → Beside x y m → IsPartOf heap m.memory →
        StandsOn (proceed load_held store_held shape m x (exec load_held store_held shape code n))
    step_part n ih m (Moves next) y h part = ih next (h.0.part heap part)
    step_part n ih m (Asks point) y h part = ih (passed m) part
    step_part n ih m (Finishes outcome) y h part = part
    step_part n ih m Undefined y h part = tt

    pub run_part : (n : ℕ) (m : Machine HeldCells) → IsPartOf heap m.memory →
        StandsOn (exec load_held store_held shape code n m)
    run_part zero m part = part
    run_part (suc n) m part =
        step_part n (run_part n) m (act load_held store_held shape (slice_get code m.place) m) _ (act_beside (slice_get code m.place) m) part
