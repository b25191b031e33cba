-- Expressions, conditions and statements without blocks: their code settles what it leads to.
use Rattle.std.proofs.Common.{◌≡◌, ℕ, ◌+◌, ℤ, pos, List, [], ◌∷◌, ◌++◌, length, Option, Some, None, Result, Ok, Err}
use Rattle.std.proofs.Common.{Bool, true, false, refl, sym, ap, ◌∙◌, subst}
use Rattle.std.specs.Prelude.{slice_get, slice_set, nat_lt, not, if◌then◌else◌}
use Rattle.core_lang.specs.declared.value.Value.{Value}
use Rattle.core_lang.specs.declared.value.Value.TheVariants.{Int, Ref}
use Rattle.core_lang.specs.declared.value.Trap.TheVariants.{TooManyPrints}
use Rattle.core_lang.specs.declared.value.Failure.{Failure}
use Rattle.core_lang.specs.declared.value.Failure.TheVariants.{Trap, Wrong}
use Rattle.core_lang.specs.declared.shape.Shape.{Shape}
use Rattle.core_lang.specs.declared.tree.FieldStep.{FieldStep}
use Rattle.core_lang.specs.declared.tree.FieldStep.TheVariants.{Final, Field}
use Rattle.core_lang.specs.declared.tree.Path.{Path}
use Rattle.core_lang.specs.declared.tree.Expr.{Expr, Number, Null, Place, Global, Element', Member', Negate', Owned'}
use Rattle.core_lang.specs.declared.tree.Expr.{Chain', Row_of-Operation, end_of-Operation, more_of-Operation}
use Rattle.core_lang.specs.declared.tree.Condition.{Condition, Compare, Not', And', Or', Row_of-Condition}
use Rattle.core_lang.specs.declared.tree.Condition.{end_of-Condition, more_of-Condition}
use Rattle.core_lang.specs.Arithmetic.{on_values, negated, compared}
use Rattle.core_lang.specs.Cells.{with, found, element_cell, member_of, field_cell, final_value, owned, not_null, read}
use Rattle.core_lang.specs.Meaning.{State, Flow, GoesOn, Traps, given, written, stored, along, place_of, value_of}
use Rattle.core_lang.specs.Meaning.{chained, and_then, or_else, truth_of, all_true, any_true}
use Rattle.core_lang.specs.Meaning as meaning
use Rattle.core_lang.specs.Whole.{Run}
use Rattle.code.specs.declared.instr.Instr.{Instr}
use Rattle.code.specs.declared.instr.Instr.TheVariants.{PushNumber, PushNull, GetLocal, PutLocal, LoadGlobal}
use Rattle.code.specs.declared.instr.Instr.TheVariants.{PutGlobal, LoadElement, Bound, PutElement, GetMember}
use Rattle.code.specs.declared.instr.Instr.TheVariants.{LoadFinal, LoadField, NonNull, PutField, Where, NegateTop}
use Rattle.code.specs.declared.instr.Instr.TheVariants.{NotTop, Operate, Test, Jump, JumpIfFalse, JumpIfTrue}
use Rattle.code.specs.declared.instr.Instr.TheVariants.{PrintTop}
use Rattle.code.specs.Machine.{truth, printed, act, or_trap, if_there, loads, stores, advances}
use Rattle.code.specs.Memory.{beside, load_from, written_where, store_to}
use Rattle.code.specs.Lowering.{fields_code, path_code, expr_code, chain_code, test_code, all_code, any_code}
use Rattle.code.proofs.runs.Places.{HasAt, has_front, has_back, has_length}
use Rattle.code.proofs.runs.Settling.{resolve, conclude, machine, Settles, Onward, Goes, takes, goes-or_trap}

module _ (shape : Shape) (code : List Instr) (k : ℕ) (s : State) where
  -- from a place with this stack
  abbrev pub From : ℕ → List Value → Run → Type 0
  From place stack run = Settles shape code k (machine place stack s) run

  -- ---- parts of a result

  pub resolve-with : {A B : Type 0} (place : ℕ) (stack : List Value) (r : Result A Failure) (f : A →
      Result B Failure) (go : B → Run) →
      From place stack (resolve r s (λ a. resolve (f a) s go)) → From place stack (resolve (with r f) s go)
  resolve-with place stack (Ok a) f go h = h
  resolve-with place stack (Err (Trap t)) f go h = h
  resolve-with place stack (Err Wrong) f go h = h

  pub conclude-given : {A : Type 0} (place : ℕ) (stack : List Value) (r : Result A Failure) (f : A →
      Flow) (go : State → Run) →
      From place stack (resolve r s (λ a. conclude (f a) go)) → From place stack (conclude (given r s f) go)
  conclude-given place stack (Ok a) f go h = h
  conclude-given place stack (Err (Trap t)) f go h = h
  conclude-given place stack (Err Wrong) f go h = h

  chained-Err : {m : _} (row : Row_of-Operation m) (f : Failure) → chained row shape s.locals s.heap (Err f) ≡ Err f
  chained-Err end_of-Operation f = refl
  chained-Err (more_of-Operation o e rest) f = chained-Err rest f

  resolve-chained : {m : _} (place : ℕ) (stack : List Value) (row : Row_of-Operation m) (left : Result Value Failure) (go : Value → Run) →
      From place stack (resolve left s (λ a. resolve (chained row shape s.locals s.heap (Ok a)) s go)) →
      From place stack (resolve (chained row shape s.locals s.heap left) s go)
  resolve-chained place stack row (Ok a) go h = h
  resolve-chained place stack row (Err (Trap t)) go h = subst (λ r. From place stack (resolve r s go)) (sym (chained-Err row (Trap t))) h
  resolve-chained place stack row (Err Wrong) go h = subst (λ r. From place stack (resolve r s go)) (sym (chained-Err row Wrong)) h

  resolve-and_then : (place : ℕ) (stack : List Value) (r next : Result Bool Failure) (go : Bool → Run) →
      From place stack (resolve r s (λ b. resolve (and_then (Ok b) next) s go)) → From place stack (resolve (and_then r next) s go)
  resolve-and_then place stack (Ok b) next go h = h
  resolve-and_then place stack (Err (Trap t)) next go h = h
  resolve-and_then place stack (Err Wrong) next go h = h

  resolve-or_else : (place : ℕ) (stack : List Value) (r next : Result Bool Failure) (go : Bool → Run) →
      From place stack (resolve r s (λ b. resolve (or_else (Ok b) next) s go)) → From place stack (resolve (or_else r next) s go)
  resolve-or_else place stack (Ok b) next go h = h
  resolve-or_else place stack (Err (Trap t)) next go h = h
  resolve-or_else place stack (Err Wrong) next go h = h

  -- ---- an instruction that pushes a value

  -- at the place's other name
  ends_at : (place end : ℕ) (stack : List Value) (run : Run) → place ≡ end → From end stack run → From place stack run
  ends_at place end stack run e h = subst (λ p. From p stack run) (sym e) h

  pub pushes : (i : Instr) (r : Result Value Failure) (place end : ℕ) (old stack : List Value) (go : Value → Run) →
      HasAt code place (i ∷ []) end →
      act load_from store_to shape (Some i) (machine place old s) ≡ or_trap r (λ w. advances (machine place old s) (w ∷ stack)) →
      ((w : Value) → From end (w ∷ stack) (go w)) → From place old (resolve r s go)
  pushes i r place end old stack go has op h =
      takes shape code k i (machine place old s) (resolve r s go) has.0
      (subst (λ x. Goes shape code k (machine place old s) x (resolve r s go)) (sym op)
      (goes-or_trap shape code k place old s r (λ w. advances (machine place old s) (w ∷ stack)) go
      (λ w e. ends_at (place + 1) end (w ∷ stack) (go w) has.1 (h w))))

  load_goes : (cell place end : ℕ) (old stack : List Value) (go : Value → Run) → place + 1 ≡ end →
      ((v : Value) → From end (v ∷ stack) (go v)) →
      Goes shape code k (machine place old s) (loads load_from store_to shape (machine place old s) cell stack) (resolve (read s.heap cell) s go)
  load_goes cell place end old stack go e h = by (slice_get s.heap cell)
    where
      by : (o : Option Value) →
          Goes shape code k (machine place old s) (if_there (beside s.heap o) (λ r. advances (record (machine place old s) { memory = r.1 }) (r.0 ∷ stack)))
          (resolve (found o) s go)
      by (Some v) = ends_at (place + 1) end (v ∷ stack) (go v) e (h v)
      by None = refl

  -- the value of a cell
  pub loading : (i : Instr) (r : Result ℕ Failure) (place end : ℕ) (old stack : List Value) (go : Value → Run) →
      HasAt code place (i ∷ []) end →
      act load_from store_to shape (Some i) (machine place old s) ≡ or_trap r (λ cell. loads load_from store_to shape (machine place old s) cell stack) →
      ((w : Value) → From end (w ∷ stack) (go w)) → From place old (resolve (with r (read s.heap)) s go)
  loading i r place end old stack go has op h =
      resolve-with place old r (read s.heap) go
      (takes shape code k i (machine place old s) (resolve r s (λ cell. resolve (read s.heap cell) s go)) has.0
      (subst (λ x. Goes shape code k (machine place old s) x (resolve r s (λ cell. resolve (read s.heap cell) s go))) (sym op)
      (goes-or_trap shape code k place old s r (λ cell. loads load_from store_to shape (machine place old s) cell stack) (λ cell. resolve (read s.heap cell) s go)
      (λ cell e. load_goes cell place end old stack go has.1 h))))

  -- ---- expressions

  fields_settle : (fs : List FieldStep) (v : Value) (place end : ℕ) (stack : List Value) (go : Value → Run) →
      HasAt code place (fields_code fs) end →
      ((w : Value) → From end (w ∷ stack) (go w)) → From place (v ∷ stack) (resolve (along shape s.heap v fs) s go)
  fields_settle [] v place end stack go has h = ends_at place end (v ∷ stack) (go v) has (h v)
  fields_settle (Final structure f ∷ fs) v place end stack go has h =
      resolve-with place (v ∷ stack) (final_value shape v f) (λ w. along shape s.heap w fs) go
      (pushes (LoadFinal f structure) (final_value shape v f) place (place + 1) (v ∷ stack) stack (λ w. resolve (along shape s.heap w fs) s go) (has.0, refl) refl
      (λ w. fields_settle fs w (place + 1) end stack go has.1 h))
  fields_settle (Field structure f ∷ fs) v place end stack go has h =
      resolve-with place (v ∷ stack) (with (field_cell shape v f) (read s.heap)) (λ w. along shape s.heap w fs) go
      (loading (LoadField f structure) (field_cell shape v f) place (place + 1) (v ∷ stack) stack (λ w. resolve (along shape s.heap w fs) s go) (has.0, refl) refl
      (λ w. fields_settle fs w (place + 1) end stack go has.1 h))

  pub path_settles : (path : Path) (place end : ℕ) (stack : List Value) (go : Value → Run) →
      HasAt code place (path_code path) end →
      ((w : Value) → From end (w ∷ stack) (go w)) → From place stack (resolve (place_of path shape s.locals s.heap) s go)
  path_settles path place end stack go has h =
      let fs = path.fields.items in
      resolve-with place stack (found (slice_get s.locals path.local)) (λ v. along shape s.heap v fs) go
      (pushes (GetLocal path.local) (found (slice_get s.locals path.local)) place (place + 1) stack stack (λ v. resolve (along shape s.heap v fs) s go)
      (has.0, refl) refl
      (λ v. fields_settle fs v (place + 1) end stack go has.1 h))

  mutual
    pub expr_settles : (e : Expr) (place end : ℕ) (stack : List Value) (go : Value → Run) →
        HasAt code place (expr_code e) end →
        ((v : Value) → From end (v ∷ stack) (go v)) → From place stack (resolve (value_of e shape s.locals s.heap) s go)
    expr_settles (Number n) place end stack go has h = pushes (PushNumber n) (Ok (Int n)) place end stack stack go has refl h
    expr_settles Null place end stack go has h = pushes PushNull (Ok (Ref None)) place end stack stack go has refl h
    expr_settles (Place path) place end stack go has h = path_settles path place end stack go has h
    expr_settles (Global start cell) place end stack go has h = loading (LoadGlobal cell) (Ok cell) place end stack stack go has refl h
    expr_settles (Element' start array p index) place end stack go has h =
        let ci = expr_code index in
        resolve-with place stack (value_of index shape s.locals s.heap) (λ i. with (element_cell shape array i) (read s.heap)) go
        (expr_settles index place (place + length ci) stack (λ i. resolve (with (element_cell shape array i) (read s.heap)) s go) (has_front code place end ci _ has)
        (λ i. loading (LoadElement array) (element_cell shape array i) (place + length ci) end (i ∷ stack) stack go (has_back code place end ci _ has) refl h))
    expr_settles (Member' pool p index) place end stack go has h =
        let ci = expr_code index in
        resolve-with place stack (value_of index shape s.locals s.heap) (member_of shape pool) go
        (expr_settles index place (place + length ci) stack (λ i. resolve (member_of shape pool i) s go) (has_front code place end ci _ has)
        (λ i. pushes (GetMember pool) (member_of shape pool i) (place + length ci) end (i ∷ stack) stack go (has_back code place end ci _ has) refl h))
    expr_settles (Owned' p e structure final start local) place end stack go has h =
        let ce = expr_code e in
        let test = λ (v : Value). with (found (slice_get s.locals local)) (λ (owner : Value). owned shape v final owner) in
        resolve-with place stack (value_of e shape s.locals s.heap) test go
        (expr_settles e place (place + length ce) stack (λ v. resolve (test v) s go) (has_front code place end ce _ has)
        (λ v. pushes (Where final structure local) (test v) (place + length ce) end (v ∷ stack) stack go (has_back code place end ce _ has) refl h))
    expr_settles (Negate' p e) place end stack go has h =
        let ce = expr_code e in
        resolve-with place stack (value_of e shape s.locals s.heap) negated go
        (expr_settles e place (place + length ce) stack (λ v. resolve (negated v) s go) (has_front code place end ce _ has)
        (λ v. pushes NegateTop (negated v) (place + length ce) end (v ∷ stack) stack go (has_back code place end ce _ has) refl h))
    expr_settles (Chain' p first m rest) place end stack go has h =
        let ca = expr_code first in
        resolve-chained place stack rest (value_of first shape s.locals s.heap) go
        (expr_settles first place (place + length ca) stack (λ a. resolve (chained rest shape s.locals s.heap (Ok a)) s go) (has_front code place end ca _ has)
        (λ a. chain_settles rest a (place + length ca) end stack go (has_back code place end ca _ has) h))

    chain_settles : {m : _} (row : Row_of-Operation m) (a : Value) (place end : ℕ) (stack : List Value) (go : Value →
        Run) → HasAt code place (chain_code row) end →
        ((v : Value) → From end (v ∷ stack) (go v)) → From place (a ∷ stack) (resolve (chained row shape s.locals s.heap (Ok a)) s go)
    chain_settles end_of-Operation a place end stack go has h = ends_at place end (a ∷ stack) (go a) has (h a)
    chain_settles (more_of-Operation o e rest) a place end stack go has h =
        let ce = expr_code e in
        let mid = place + length (ce ++ Operate o ∷ []) in
        let front = has_front code place end (ce ++ Operate o ∷ []) (chain_code rest) has in
        let back = has_back code place end (ce ++ Operate o ∷ []) (chain_code rest) has in
        let right = value_of e shape s.locals s.heap in
        let more = λ (w : Value). resolve (chained rest shape s.locals s.heap (Ok w)) s go in
        resolve-chained place (a ∷ stack) rest (with right (on_values o a)) go
        (resolve-with place (a ∷ stack) right (on_values o a) more
        (expr_settles e place (place + length ce) (a ∷ stack) (λ b. resolve (on_values o a b) s more) (has_front code place mid ce _ front)
        (λ b. pushes (Operate o) (on_values o a b) (place + length ce) mid (b ∷ a ∷ stack) stack more (has_back code place mid ce _ front) refl
        (λ w. chain_settles rest w mid end stack go back h))))

  -- ---- conditions

  not_settles : (b : Bool) (place end : ℕ) (stack : List Value) (go : Bool → Run) → HasAt code place (NotTop ∷ []) end →
      ((b : Bool) → From end (truth b ∷ stack) (go b)) → From place (truth b ∷ stack) (go (not b))
  not_settles true place end stack go has h =
      takes shape code k NotTop (machine place (truth true ∷ stack) s) (go false) has.0 (ends_at (place + 1) end (truth false ∷ stack) (go false) has.1 (h false))
  not_settles false place end stack go has h =
      takes shape code k NotTop (machine place (truth false ∷ stack) s) (go true) has.0 (ends_at (place + 1) end (truth true ∷ stack) (go true) has.1 (h true))

  -- an operand of && is on the stack: if it is true, the next place; else past the others
  and_settles : (b : Bool) (next : Result Bool Failure) (over place stop end : ℕ) (stack : List Value) (go : Bool →
      Run) → slice_get code place ≡ Some (JumpIfFalse over) →
      place + 1 + over ≡ stop → HasAt code stop (PushNumber (pos 0) ∷ []) end → ((b : Bool) → From end (truth b ∷ stack) (go b)) →
      From (place + 1) stack (resolve next s go) → From place (truth b ∷ stack) (resolve (and_then (Ok b) next) s go)
  and_settles true next over place stop end stack go at e push h more =
      takes shape code k (JumpIfFalse over) (machine place (truth true ∷ stack) s) (resolve next s go) at more
  and_settles false next over place stop end stack go at e push h more =
      takes shape code k (JumpIfFalse over) (machine place (truth false ∷ stack) s) (go false) at
      (ends_at (place + 1 + over) stop stack (go false) e
      (takes shape code k (PushNumber (pos 0)) (machine stop stack s) (go false) push.0 (ends_at (stop + 1) end (truth false ∷ stack) (go false) push.1 (h false))))

  or_settles : (b : Bool) (next : Result Bool Failure) (over place stop end : ℕ) (stack : List Value) (go : Bool →
      Run) → slice_get code place ≡ Some (JumpIfTrue over) →
      place + 1 + over ≡ stop → HasAt code stop (PushNumber (pos 1) ∷ []) end → ((b : Bool) → From end (truth b ∷ stack) (go b)) →
      From (place + 1) stack (resolve next s go) → From place (truth b ∷ stack) (resolve (or_else (Ok b) next) s go)
  or_settles false next over place stop end stack go at e push h more =
      takes shape code k (JumpIfTrue over) (machine place (truth false ∷ stack) s) (resolve next s go) at more
  or_settles true next over place stop end stack go at e push h more =
      takes shape code k (JumpIfTrue over) (machine place (truth true ∷ stack) s) (go true) at
      (ends_at (place + 1 + over) stop stack (go true) e
      (takes shape code k (PushNumber (pos 1)) (machine stop stack s) (go true) push.0 (ends_at (stop + 1) end (truth true ∷ stack) (go true) push.1 (h true))))

  -- the last operand is on the stack, and a jump passes the truth value after it
  last_settles : (b : Bool) (place stop end : ℕ) (stack : List Value) (go : Bool → Run) →
      HasAt code place (Jump 1 ∷ []) stop → stop + 1 ≡ end →
      From end (truth b ∷ stack) (go b) → From place (truth b ∷ stack) (go b)
  last_settles b place stop end stack go has e h =
      let at : place + 1 + 1 ≡ end = ap (λ p. p + 1) has.1 ∙ e in
      takes shape code k (Jump 1) (machine place (truth b ∷ stack) s) (go b) has.0 (ends_at (place + 1 + 1) end (truth b ∷ stack) (go b) at h)

  mutual
    pub test_settles : (c : Condition) (place end : ℕ) (stack : List Value) (go : Bool → Run) →
        HasAt code place (test_code c) end →
        ((b : Bool) → From end (truth b ∷ stack) (go b)) → From place stack (resolve (truth_of c shape s.locals s.heap) s go)
    test_settles (Compare comparison a b) place end stack go has h =
        let ca = expr_code a in let cb = expr_code b in
        let x = value_of a shape s.locals s.heap in let y = value_of b shape s.locals s.heap in
        let mid = place + length ca in
        let back = has_back code place end ca _ has in
        let last = has_back code mid end cb _ back in
        resolve-with place stack x (λ u. with y (compared comparison u)) go
        (expr_settles a place mid stack (λ u. resolve (with y (compared comparison u)) s go) (has_front code place end ca _ has)
        (λ u. resolve-with mid (u ∷ stack) y (compared comparison u) go
        (expr_settles b mid (mid + length cb) (u ∷ stack) (λ v. resolve (compared comparison u v) s go) (has_front code mid end cb _ back)
        (λ v. takes shape code k (Test comparison) (machine (mid + length cb) (v ∷ u ∷ stack) s) (resolve (compared comparison u v) s go) last.0
        (goes-or_trap shape code k (mid + length cb) (v ∷ u ∷ stack) s (compared comparison u v) _ go
        (λ b e. ends_at (mid + length cb + 1) end (truth b ∷ stack) (go b) last.1 (h b)))))))
    test_settles (Not' p c) place end stack go has h =
        let ct = test_code c in
        resolve-with place stack (truth_of c shape s.locals s.heap) (λ b. Ok (not b)) go
        (test_settles c place (place + length ct) stack (λ b. go (not b)) (has_front code place end ct _ has)
        (λ b. not_settles b (place + length ct) end stack go (has_back code place end ct _ has) h))
    test_settles (And' m before p last) place end stack go has h =
        let cl = test_code last in
        let all = all_code before (cl ++ Jump 1 ∷ []) in
        let stop = place + length all in
        let push = has_back code place end all _ has in
        all_settle before (cl ++ Jump 1 ∷ []) (truth_of last shape s.locals s.heap) place stop end stack go push (has_front code place end all _ has) h
        (λ at here. test_settles last at (at + length cl) stack go (has_front code at stop cl _ here)
        (λ b. last_settles b (at + length cl) stop end stack go (has_back code at stop cl _ here) push.1 (h b)))
    test_settles (Or' m before p last) place end stack go has h =
        let cl = test_code last in
        let any = any_code before (cl ++ Jump 1 ∷ []) in
        let stop = place + length any in
        let push = has_back code place end any _ has in
        any_settles before (cl ++ Jump 1 ∷ []) (truth_of last shape s.locals s.heap) place stop end stack go push (has_front code place end any _ has) h
        (λ at here. test_settles last at (at + length cl) stack go (has_front code at stop cl _ here)
        (λ b. last_settles b (at + length cl) stop end stack go (has_back code at stop cl _ here) push.1 (h b)))

    -- stop is the place of the truth value after the operands
    all_settle : {m : _} (row : Row_of-Condition m) (cl : List Instr) (last : Result Bool Failure) (place stop end : ℕ) (stack : List Value) (go : Bool → Run) →
        HasAt code stop (PushNumber (pos 0) ∷ []) end → HasAt code place (all_code row cl) stop → ((b : Bool) → From end (truth b ∷ stack) (go b)) →
        ((at : ℕ) → HasAt code at cl stop → From at stack (resolve last s go)) →
        From place stack (resolve (all_true row shape s.locals s.heap last) s go)
    all_settle end_of-Condition cl last place stop end stack go push has h l = l place has
    all_settle (more_of-Condition c rest) cl last place stop end stack go push has h l =
        let ct = test_code c in let cr = all_code rest cl in
        let next = all_true rest shape s.locals s.heap last in
        let mid = place + length ct in
        let back = has_back code place stop ct _ has in
        resolve-and_then place stack (truth_of c shape s.locals s.heap) next go
        (test_settles c place mid stack (λ b. resolve (and_then (Ok b) next) s go) (has_front code place stop ct _ has)
        (λ b. and_settles b next (length cr) mid stop end stack go back.0 (has_length code (mid + 1) stop cr back.1) push h
        (all_settle rest cl last (mid + 1) stop end stack go push back.1 h l)))

    any_settles : {m : _} (row : Row_of-Condition m) (cl : List Instr) (last : Result Bool Failure) (place stop end : ℕ) (stack : List Value) (go : Bool → Run) →
        HasAt code stop (PushNumber (pos 1) ∷ []) end → HasAt code place (any_code row cl) stop → ((b : Bool) → From end (truth b ∷ stack) (go b)) →
        ((at : ℕ) → HasAt code at cl stop → From at stack (resolve last s go)) →
        From place stack (resolve (any_true row shape s.locals s.heap last) s go)
    any_settles end_of-Condition cl last place stop end stack go push has h l = l place has
    any_settles (more_of-Condition c rest) cl last place stop end stack go push has h l =
        let ct = test_code c in let cr = any_code rest cl in
        let next = any_true rest shape s.locals s.heap last in
        let mid = place + length ct in
        let back = has_back code place stop ct _ has in
        resolve-or_else place stack (truth_of c shape s.locals s.heap) next go
        (test_settles c place mid stack (λ b. resolve (or_else (Ok b) next) s go) (has_front code place stop ct _ has)
        (λ b. or_settles b next (length cr) mid stop end stack go back.0 (has_length code (mid + 1) stop cr back.1) push h
        (any_settles rest cl last (mid + 1) stop end stack go push back.1 h l)))

  -- ---- the effect of a statement's last instruction

  onward_at : (place end : ℕ) (s' : State) (go : State → Run) → place ≡ end → Onward shape code k end go →
      Settles shape code k (machine place [] s') (go s')
  onward_at place end s' go e h = subst (λ p. Settles shape code k (machine p [] s') (go s')) (sym e) (h s')

  pub put_local_settles : (local place end : ℕ) (v : Value) (go : State → Run) →
      HasAt code place (PutLocal local ∷ []) end → Onward shape code k end go →
      From place (v ∷ []) (conclude (stored local v s) go)
  put_local_settles local place end v go has h =
      let s' : State = record s { locals = slice_set s.locals local v } in
      conclude-given place (v ∷ []) (found (slice_get s.locals local)) (λ old. GoesOn s') go
      (takes shape code k (PutLocal local) (machine place (v ∷ []) s) (resolve (found (slice_get s.locals local)) s (λ old. go s')) has.0
      (goes-or_trap shape code k place (v ∷ []) s (found (slice_get s.locals local)) _ (λ old. go s') (λ old e. onward_at (place + 1) end s' go has.1 h)))

  pub store_goes : (cell place end : ℕ) (old : List Value) (v : Value) (go : State → Run) → place + 1 ≡ end →
      Onward shape code k end go →
      Goes shape code k (machine place old s) (stores load_from store_to shape (machine place old s) cell v []) (conclude (written cell v s) go)
  store_goes cell place end old v go e h = by (slice_get s.heap cell)
    where
      by : (o : Option Value) →
          Goes shape code k (machine place old s)
          (if_there (written_where o s.heap cell v) (λ memory. advances (record (machine place old s) { memory = memory }) []))
          (conclude (given (found o) s (λ old. GoesOn (record s { heap = slice_set s.heap cell v }))) go)
      by (Some w) = onward_at (place + 1) end (record s { heap = slice_set s.heap cell v }) go e h
      by None = refl

  pub print_settles : (v : Value) (place end : ℕ) (go : State → Run) → HasAt code place (PrintTop ∷ []) end →
      Onward shape code k end go →
      From place (v ∷ []) (conclude (meaning.printed v s) go)
  print_settles v place end go has h =
      takes shape code k PrintTop (machine place (v ∷ []) s) (conclude (meaning.printed v s) go) has.0 (goes v)
    where
      room : (n : ℤ) (b : Bool) →
          Goes shape code k (machine place (Int n ∷ []) s)
          (or_trap (if b then Ok (s.prints ++ n ∷ []) else Err (Trap TooManyPrints)) (λ prints. advances (record (machine place (Int n ∷ []) s) { prints = prints }) []))
          (conclude (if b then GoesOn (record s { prints = s.prints ++ n ∷ [] }) else Traps TooManyPrints s) go)
      room n true = onward_at (place + 1) end (record s { prints = s.prints ++ n ∷ [] }) go has.1 h
      room n false = refl

      goes : (v : Value) →
          Goes shape code k (machine place (v ∷ []) s)
          (or_trap (printed s.prints v) (λ prints. advances (record (machine place (v ∷ []) s) { prints = prints }) []))
          (conclude (meaning.printed v s) go)
      goes (Int n) = room n (nat_lt (length s.prints) 256)
      goes (Ref r) = refl

  -- ---- statements that write a cell

  pub put_global_settles : (cell place end : ℕ) (v : Value) (go : State → Run) →
      HasAt code place (PutGlobal cell ∷ []) end → Onward shape code k end go →
      From place (v ∷ []) (conclude (written cell v s) go)
  put_global_settles cell place end v go has h =
      takes shape code k (PutGlobal cell) (machine place (v ∷ []) s) (conclude (written cell v s) go) has.0 (store_goes cell place end (v ∷ []) v go has.1 h)

  -- the index is on the stack
  pub element_settles : (array : ℕ) (i : Value) (e : Expr) (place end : ℕ) (go : State → Run) →
      HasAt code place (Bound array ∷ (expr_code e ++ PutElement array ∷ [])) end →
      Onward shape code k end go →
      From place (i ∷ []) (conclude (given (element_cell shape array i) s (λ cell. given (value_of e shape s.locals s.heap) s (λ v. written cell v s))) go)
  element_settles array i e place end go has h =
      let r = element_cell shape array i in
      let value = value_of e shape s.locals s.heap in
      let ce = expr_code e in
      let mid = place + 1 + length ce in
      let last = has_back code (place + 1) end ce _ has.1 in
      conclude-given place (i ∷ []) r (λ cell. given value s (λ v. written cell v s)) go
      (takes shape code k (Bound array) (machine place (i ∷ []) s) (resolve r s (λ cell. conclude (given value s (λ v. written cell v s)) go)) has.0
      (goes-or_trap shape code k place (i ∷ []) s r _ (λ cell. conclude (given value s (λ v. written cell v s)) go)
      (λ cell is. conclude-given (place + 1) (i ∷ []) value (λ v. written cell v s) go
      (expr_settles e (place + 1) mid (i ∷ []) (λ v. conclude (written cell v s) go) (has_front code (place + 1) end ce _ has.1)
      (λ v. takes shape code k (PutElement array) (machine mid (v ∷ i ∷ []) s) (conclude (written cell v s) go) last.0
      (subst (λ x. Goes shape code k (machine mid (v ∷ i ∷ []) s) (or_trap x (λ c. stores load_from store_to shape (machine mid (v ∷ i ∷ []) s) c v [])) (conclude (written cell v s) go))
      (sym is) (store_goes cell mid end (v ∷ i ∷ []) v go last.1 h)))))))

  not_null_same : (r base : Value) → not_null r ≡ Ok base → r ≡ base
  not_null_same (Int n) base e = cc
  not_null_same (Ref None) base e = cc
  not_null_same (Ref (Some o)) base e = cc

  -- the reference is on the stack
  pub field_settles : (structure f : ℕ) (r : Value) (e : Expr) (place end : ℕ) (go : State → Run) →
      HasAt code place (NonNull ∷ (expr_code e ++ PutField f structure ∷ [])) end → Onward shape code k end go →
      From place (r ∷ [])
      (resolve (not_null r) s (λ base. conclude (given (value_of e shape s.locals s.heap) s (λ v. given (field_cell shape base f) s (λ cell. written cell v s))) go))
  field_settles structure f r e place end go has h =
      let value = value_of e shape s.locals s.heap in
      let ce = expr_code e in
      let mid = place + 1 + length ce in
      let last = has_back code (place + 1) end ce _ has.1 in
      let effect = λ (base v : Value). given (field_cell shape base f) s (λ cell. written cell v s) in
      takes shape code k NonNull (machine place (r ∷ []) s) (resolve (not_null r) s (λ base. conclude (given value s (effect base)) go)) has.0
      (goes-or_trap shape code k place (r ∷ []) s (not_null r) _ (λ base. conclude (given value s (effect base)) go)
      (λ base is. subst (λ x. From (place + 1) (r ∷ []) (conclude (given value s (effect x)) go)) (not_null_same r base is)
      (conclude-given (place + 1) (r ∷ []) value (effect r) go
      (expr_settles e (place + 1) mid (r ∷ []) (λ v. conclude (effect r v) go) (has_front code (place + 1) end ce _ has.1)
      (λ v. conclude-given mid (v ∷ r ∷ []) (field_cell shape r f) (λ cell. written cell v s) go
      (takes shape code k (PutField f structure) (machine mid (v ∷ r ∷ []) s) (resolve (field_cell shape r f) s (λ cell. conclude (written cell v s) go)) last.0
      (goes-or_trap shape code k mid (v ∷ r ∷ []) s (field_cell shape r f) _ (λ cell. conclude (written cell v s) go)
      (λ cell here. store_goes cell mid end (v ∷ r ∷ []) v go last.1 h))))))))
