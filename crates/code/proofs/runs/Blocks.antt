-- Statements with their points and blocks, and whole sections: their code settles what they lead to.
use Rattle.std.proofs.Common.{◌≡◌, ℕ, zero, suc, ◌+◌, ◌-◌, ◌≤◌, List, [], ◌∷◌, ◌++◌, length, Option, Some, None}
use Rattle.std.proofs.Common.{Result, Ok, Err, Bool, true, false, refl, sym, subst, arith, length-append}
use Rattle.std.specs.Prelude.{slice_get}
use Rattle.core_lang.specs.declared.value.Value.{Value}
use Rattle.core_lang.specs.declared.value.Failure.{Failure}
use Rattle.core_lang.specs.declared.value.Failure.TheVariants.{Trap, Wrong}
use Rattle.core_lang.specs.declared.value.Outcome.TheVariants as out
use Rattle.core_lang.specs.declared.shape.Shape.{Shape}
use Rattle.core_lang.specs.declared.tree.Expr.{Expr}
use Rattle.core_lang.specs.declared.tree.Condition.{Condition}
use Rattle.core_lang.specs.declared.tree.Stmt.{Stmt}
use Rattle.core_lang.specs.declared.tree.Action.{Action, Bind, SetLocal, SetGlobal, SetElement, SetField, Call, Print}
use Rattle.core_lang.specs.declared.tree.Action.{If', IfElse', While', Row_of-Stmt, end_of-Stmt, more_of-Stmt}
use Rattle.core_lang.specs.declared.tree.Return.{Return as Result_of}
use Rattle.core_lang.specs.Cells.{with, element_cell, field_cell, not_null}
use Rattle.core_lang.specs.Meaning.{State, Flow, GoesOn, Traps, Beyond, Astray, given, after, choose, turns, written}
use Rattle.core_lang.specs.Meaning.{stored, place_of, value_of, truth_of, effect_of, effects_of, sequence}
use Rattle.core_lang.specs.Meaning as meaning
use Rattle.core_lang.specs.Whole.{Run, over, returned, ending, concluded}
use Rattle.core_lang.specs.Helpers.{CallsOnly, AllCallOnly, EachCallsOnly, NoHelper}
use Rattle.code.specs.declared.instr.Instr.{Instr}
use Rattle.code.specs.declared.instr.Instr.TheVariants.{Bound, PutElement, NonNull, PutField, PutLocal, PutGlobal}
use Rattle.code.specs.declared.instr.Instr.TheVariants.{PrintTop, Jump, JumpBack, JumpIfFalse, Acquire, Return, End}
use Rattle.code.specs.Machine.{truth}
use Rattle.code.specs.Lowering.{path_code, expr_code, test_code, points_of, points_in, while_code, acquire_any}
use Rattle.code.specs.Lowering.{acquire_code, stmt_code, block_code, end_code, body_code}
use Rattle.code.proofs.runs.Places.{HasAt, has_front, has_back, has_length}
use Rattle.code.proofs.runs.Settling.{resolve, conclude, machine, Settles, Onward, fewer, counts, takes}
use Rattle.code.proofs.runs.Straight.{resolve-with, conclude-given, path_settles, expr_settles, test_settles}
use Rattle.code.proofs.runs.Straight.{put_local_settles, put_global_settles, element_settles, field_settles}
use Rattle.code.proofs.runs.Straight.{print_settles}

-- one instruction less, unless there is none to take away, for one turn less
one_less : (k m : ℕ) → k ≤ suc m → (j : ℕ) × (k ≤ suc j) × (j ≤ m) × (j ≤ k)
one_less zero m le = (0, omega arith, omega arith, omega arith)
one_less (suc k) m le = (k, omega arith, omega (arith, le), omega arith)

module _ (shape : Shape) (code : List Instr) where
  -- from a place in a state, with nothing on the stack
  abbrev pub Runs : ℕ → ℕ → State → Run → Type 0
  Runs k place s run = Settles shape code k (machine place [] s) run

  -- at the place's other name
  ends_at : (k place end : ℕ) (s : State) (run : Run) → place ≡ end → Runs k end s run → Runs k place s run
  ends_at k place end s run e h = subst (λ p. Runs k p s run) (sym e) h

  conclude-after : (k place : ℕ) (s : State) (flow : Flow) (f : State → Flow) (go : State → Run) →
      Runs k place s (conclude flow (λ s'. conclude (f s') go)) → Runs k place s (conclude (after flow f) go)
  conclude-after k place s (GoesOn s') f go h = h
  conclude-after k place s (Traps t s') f go h = h
  conclude-after k place s Beyond f go h = h
  conclude-after k place s Astray f go h = h

  -- a truth value is on the stack: on if it is true, else over the given number of instructions
  chosen : (k place over : ℕ) (s : State) (f g : Flow) (go : State → Run) →
      slice_get code place ≡ Some (JumpIfFalse over) →
      Runs k (place + 1) s (conclude f go) → Runs k (place + 1 + over) s (conclude g go) →
      (b : Bool) → Settles shape code (suc k) (machine place (truth b ∷ []) s) (conclude (choose b f g) go)
  chosen k place over s f g go at on_true on_false true = counts shape code k (JumpIfFalse over) (machine place (truth true ∷ []) s) (conclude f go) at on_true
  chosen k place over s f g go at on_true on_false false = counts shape code k (JumpIfFalse over) (machine place (truth false ∷ []) s) (conclude g go) at on_false

  -- over the turns that each execution of a loop makes at most, and the lists of lock paths before the points
  module _ {P : Type 0} (n : ℕ) (lists : List (List P)) where
    -- the locks that are asked for before a point: alone, the machine passes on
    acquire_settles : (o : Option (List P)) (point k place end : ℕ) (s : State) (run : Run) →
        HasAt code place (acquire_any o point) end → Runs k end s run → Runs k place s run
    acquire_settles None point k place end s run has h = ends_at k place end s run has h
    acquire_settles (Some []) point k place end s run has h = ends_at k place end s run has h
    acquire_settles (Some (path ∷ paths)) point k place end s run has h =
        takes shape code k (Acquire point) (machine place [] s) run has.0 (ends_at k (place + 1) end s run has.1 h)

    -- after the acquire before a point
    acquired : (point k place end : ℕ) (s : State) (rest : List Instr) (run : Run) →
        HasAt code place (acquire_code lists point ++ rest) end →
        ((at : ℕ) → HasAt code at rest end → Runs k at s run) → Runs k place s run
    acquired point k place end s rest run has h =
        let first = acquire_code lists point in
        acquire_settles (slice_get lists point) point k place (place + length first) s run (has_front code place end first rest has)
        (h (place + length first) (has_back code place end first rest has))

    -- a point's condition, and the place to which its jump leads
    condition_settles : (c : Condition) (point j k place mid over : ℕ) (s : State) (f g : Flow) (go : State → Run) →
        k ≤ suc j →
        HasAt code place (acquire_code lists point ++ test_code c) mid → slice_get code mid ≡ Some (JumpIfFalse over) →
        Runs j (mid + 1) s (conclude f go) → Runs j (mid + 1 + over) s (conclude g go) →
        Runs k place s (conclude (given (truth_of c shape s.locals s.heap) s (λ b. choose b f g)) go)
    condition_settles c point j k place mid over s f g go le has at true_leads false_leads =
        acquired point k place mid s (test_code c) _ has
        (λ start here. conclude-given shape code k s start [] (truth_of c shape s.locals s.heap) (λ b. choose b f g) go
        (test_settles shape code k s c start mid [] (λ b. conclude (choose b f g) go) here
        (λ b. fewer shape code k (suc j) (machine mid (truth b ∷ []) s) (conclude (choose b f g) go) le (chosen j mid over s f g go at true_leads false_leads b))))

    -- a loop: each turn makes an instruction at least, so m turns settle as many instructions
    loop_settles : (c : Condition) (body : List Instr) (point place end : ℕ) (effect : State → Flow) (go : State →
        Run) →
        HasAt code place (while_code (acquire_code lists point ++ test_code c) body) end →
        ((at stop j : ℕ) (s : State) (next : State → Run) → j ≤ n → HasAt code at body stop → Onward shape code j stop next → Runs j at s (conclude (effect s) next)) →
        (m k : ℕ) → k ≤ m → m ≤ n → Onward shape code k end go →
        (s : State) → Runs k place s (conclude (turns m (λ s. truth_of c shape s.locals s.heap) effect s) go)
    loop_settles c body point place end effect go has runs = by_turns
      where
        test : List Instr
        test = acquire_code lists point ++ test_code c

        mid : ℕ
        mid = place + length test

        back : ℕ
        back = length test + 1 + length body

        behind : HasAt code mid (JumpIfFalse (length body + 1) ∷ (body ++ JumpBack back ∷ [])) end
        behind = has_back code place end test _ has

        stop : ℕ
        stop = mid + 1 + length body

        over_body : mid + 1 + (length body + 1) ≡ end
        over_body =
            let whole = has_length code (mid + 1) end (body ++ JumpBack back ∷ []) behind.1 in
            omega (arith, whole, length-append body (JumpBack back ∷ []))

        at_start : stop - back ≡ place
        at_start = omega arith

        by_turns : (m k : ℕ) → k ≤ m → m ≤ n → Onward shape code k end go →
            (s : State) → Runs k place s (conclude (turns m (λ s. truth_of c shape s.locals s.heap) effect s) go)
        by_turns zero k le le' h s =
            condition_settles c point 0 k place mid (length body + 1) s Beyond (GoesOn s) go (omega (arith, le)) (has_front code place end test _ has) behind.0 tt
            (ends_at 0 (mid + 1 + (length body + 1)) end s (go s) over_body (fewer shape code 0 k (machine end [] s) (go s) (omega arith) (h s)))
        by_turns (suc m) k le le' h s =
            let one = one_less k m le in
            let more = turns m (λ (s : State). truth_of c shape s.locals s.heap) effect in
            let h' : Onward shape code one.0 end go = λ s. fewer shape code one.0 k (machine end [] s) (go s) one.3 (h s) in
            condition_settles c point one.0 k place mid (length body + 1) s (after (effect s) more) (GoesOn s) go one.1 (has_front code place end test _ has) behind.0
            (conclude-after one.0 (mid + 1) s (effect s) more go
            (runs (mid + 1) stop one.0 s (λ s. conclude (more s) go) (omega (arith, one.2, le')) (has_front code (mid + 1) end body _ behind.1)
            (λ s. takes shape code one.0 (JumpBack back) (machine stop [] s) (conclude (more s) go) (has_back code (mid + 1) end body _ behind.1).0
            (ends_at one.0 (stop - back) place s (conclude (more s) go) at_start (by_turns m one.0 one.2 (omega (arith, le')) h' s)))))
            (ends_at one.0 (mid + 1 + (length body + 1)) end s (go s) over_body (h' s))

    -- a value, and the code after it
    value_settles : (e : Expr) (rest : List Instr) (k place end : ℕ) (s : State) (f : Value → Flow) (go : State →
        Run) → HasAt code place (expr_code e ++ rest) end →
        ((v : Value) (at : ℕ) → HasAt code at rest end → Settles shape code k (machine at (v ∷ []) s) (conclude (f v) go)) →
        Runs k place s (conclude (given (value_of e shape s.locals s.heap) s f) go)
    value_settles e rest k place end s f go has h =
        let ce = expr_code e in
        conclude-given shape code k s place [] (value_of e shape s.locals s.heap) f go
        (expr_settles shape code k s e place (place + length ce) [] (λ v. conclude (f v) go) (has_front code place end ce rest has)
        (λ v. h v (place + length ce) (has_back code place end ce rest has)))

    mutual
      stmt_settles : (x : Action) (point k place end : ℕ) (s : State) (go : State → Run) → CallsOnly NoHelper x →
          k ≤ n → HasAt code place (stmt_code lists x point) end → Onward shape code k end go →
          Runs k place s (conclude (effect_of x shape n s) go)
      stmt_settles (Bind local e) point k place end s go only le has h =
          acquired point k place end s (expr_code e ++ PutLocal local ∷ []) _ has (λ at here.
          value_settles e (PutLocal local ∷ []) k at end s (λ v. stored local v s) go here (λ v at' last. put_local_settles shape code k s local at' end v go last h))
      stmt_settles (SetLocal local e) point k place end s go only le has h =
          acquired point k place end s (expr_code e ++ PutLocal local ∷ []) _ has (λ at here.
          value_settles e (PutLocal local ∷ []) k at end s (λ v. stored local v s) go here (λ v at' last. put_local_settles shape code k s local at' end v go last h))
      stmt_settles (SetGlobal cell e) point k place end s go only le has h =
          acquired point k place end s (expr_code e ++ PutGlobal cell ∷ []) _ has (λ at here.
          value_settles e (PutGlobal cell ∷ []) k at end s (λ v. written cell v s) go here (λ v at' last. put_global_settles shape code k s cell at' end v go last h))
      stmt_settles (SetElement array i e) point k place end s go only le has h =
          let rest = Bound array ∷ (expr_code e ++ PutElement array ∷ []) in
          acquired point k place end s (expr_code i ++ rest) _ has (λ at here.
          value_settles i rest k at end s (λ x. given (element_cell shape array x) s (λ cell. given (value_of e shape s.locals s.heap) s (λ v. written cell v s))) go here
          (λ x at' last. element_settles shape code k s array x e at' end go last h))
      stmt_settles (SetField path structure f e) point k place end s go only le has h =
          let cp = path_code path in
          let rest = NonNull ∷ (expr_code e ++ PutField f structure ∷ []) in
          let base = place_of path shape s.locals s.heap in
          let effect = λ (b : Value). given (value_of e shape s.locals s.heap) s (λ v. given (field_cell shape b f) s (λ cell. written cell v s)) in
          acquired point k place end s (cp ++ rest) _ has (λ at here.
          conclude-given shape code k s at [] (with base not_null) effect go
          (resolve-with shape code k s at [] base not_null (λ b. conclude (effect b) go)
          (path_settles shape code k s path at (at + length cp) [] (λ r. resolve (not_null r) s (λ b. conclude (effect b) go)) (has_front code at end cp rest here)
          (λ r. field_settles shape code k s structure f r e (at + length cp) end go (has_back code at end cp rest here) h))))
      stmt_settles (Call f es r) point k place end s go only le has h = absurd only
      stmt_settles (Print e) point k place end s go only le has h =
          acquired point k place end s (expr_code e ++ PrintTop ∷ []) _ has (λ at here.
          value_settles e (PrintTop ∷ []) k at end s (λ v. meaning.printed v s) go here (λ v at' last. print_settles shape code k s v at' end go last h))
      stmt_settles (If' c m block) point k place end s go only le has h =
          let test = acquire_code lists point ++ test_code c in
          let cb = block_code lists block (point + 1) in
          let mid = place + length test in
          let behind = has_back code place end test _ has in
          condition_settles c point k k place mid (length cb) s (effects_of block shape n s) (GoesOn s) go (omega arith) (has_front code place end test _ has) behind.0
          (block_settles block (point + 1) k (mid + 1) end s go only le behind.1 h)
          (ends_at k (mid + 1 + length cb) end s (go s) (has_length code (mid + 1) end cb behind.1) (h s))
      stmt_settles (IfElse' c m block j otherwise) point k place end s go only le has h =
          let test = acquire_code lists point ++ test_code c in
          let ca = block_code lists block (point + 1) in
          let next = point + 1 + points_in block in
          let cb = block_code lists otherwise next in
          let mid = place + length test in
          let stop = mid + 1 + length ca in
          let behind = has_back code place end test _ has in
          let last = has_back code (mid + 1) end ca _ behind.1 in
          let after_first : mid + 1 + (length ca + 1) ≡ stop + 1 = omega arith in
          condition_settles c point k k place mid (length ca + 1) s (effects_of block shape n s) (effects_of otherwise shape n s) go (omega arith)
          (has_front code place end test _ has) behind.0
          (block_settles block (point + 1) k (mid + 1) stop s go only.0 le (has_front code (mid + 1) end ca _ behind.1)
          (λ s'. takes shape code k (Jump (length cb)) (machine stop [] s') (go s') last.0
          (ends_at k (stop + 1 + length cb) end s' (go s') (has_length code (stop + 1) end cb last.1) (h s'))))
          (ends_at k (mid + 1 + (length ca + 1)) (stop + 1) s _ after_first (block_settles otherwise next k (stop + 1) end s go only.1 le last.1 h))
      stmt_settles (While' c m body) point k place end s go only le has h =
          loop_settles c (block_code lists body (point + 1)) point place end (effects_of body shape n) go has
          (λ at stop j s next le here h. block_settles body (point + 1) j at stop s next only le here h) n k le (omega arith) h s

      block_settles : {m : _} (row : Row_of-Stmt m) (point k place end : ℕ) (s : State) (go : State → Run) →
          AllCallOnly NoHelper row → k ≤ n → HasAt code place (block_code lists row point) end →
          Onward shape code k end go → Runs k place s (conclude (effects_of row shape n s) go)
      block_settles end_of-Stmt point k place end s go only le has h = ends_at k place end s (go s) has (h s)
      block_settles (more_of-Stmt start x rest) point k place end s go only le has h =
          let cx = stmt_code lists x point in
          let cr = block_code lists rest (point + points_of x) in
          let mid = place + length cx in
          conclude-after k place s (effect_of x shape n s) (effects_of rest shape n) go
          (stmt_settles x point k place mid s (λ s'. conclude (effects_of rest shape n s') go) only.0 le (has_front code place end cx cr has)
          (λ s'. block_settles rest (point + points_of x) k mid end s' go only.1 le (has_back code place end cx cr has) h))

    -- ---- a whole section

    settles-returned : (k place : ℕ) (s : State) (r : Result Value Failure) →
        Runs k place s (resolve r s (λ v. over (out.Returns v) s)) → Runs k place s (returned r s)
    settles-returned k place s (Ok v) h = h
    settles-returned k place s (Err (Trap t)) h = h
    settles-returned k place s (Err Wrong) h = h

    end_settles : (result : Option Result_of) (point k place end : ℕ) (s : State) →
        HasAt code place (end_code lists result point) end → Runs k place s (ending result shape s)
    end_settles None point k place end s has = takes shape code k End (machine place [] s) (over out.Ends s) has.0 refl
    end_settles (Some result) point k place end s has =
        let e = result.value in
        let ce = expr_code e in
        acquired point k place end s (ce ++ Return ∷ []) _ has (λ at here.
        settles-returned k at s (value_of e shape s.locals s.heap)
        (expr_settles shape code k s e at (at + length ce) [] (λ v. over (out.Returns v) s) (has_front code at end ce _ here)
        (λ v. takes shape code k Return (machine (at + length ce) (v ∷ []) s) (over (out.Returns v) s) (has_back code at end ce _ here).0 refl)))

    settles-concluded : (result : Option Result_of) (k place : ℕ) (s : State) (flow : Flow) (f : State → Flow) →
        Runs k place s (conclude flow (λ s'. concluded result shape (f s'))) → Runs k place s (concluded result shape (after flow f))
    settles-concluded result k place s (GoesOn s') f h = h
    settles-concluded result k place s (Traps t s') f h = h
    settles-concluded result k place s Beyond f h = h
    settles-concluded result k place s Astray f h = h

    pub body_settles : (xs : List Stmt) (result : Option Result_of) (point k place end : ℕ) (s : State) →
        EachCallsOnly NoHelper xs → k ≤ n → HasAt code place (body_code lists xs point result) end →
        Runs k place s (concluded result shape (sequence xs shape n s))
    body_settles [] result point k place end s only le has = end_settles result point k place end s has
    body_settles (x ∷ xs) result point k place end s only le has =
        let cx = stmt_code lists x.action point in
        let cr = body_code lists xs (point + points_of x.action) result in
        let mid = place + length cx in
        settles-concluded result k place s (effect_of x.action shape n s) (sequence xs shape n)
        (stmt_settles x.action point k place mid s (λ s'. concluded result shape (sequence xs shape n s')) only.0 le (has_front code place end cx cr has)
        (λ s'. body_settles xs result (point + points_of x.action) k mid end s' only.1 le (has_back code place end cx cr has)))
