-- A run prints at most as many numbers as its statements allow.
use Rattle.std.proofs.Common.{◌≡◌, ℕ, zero, suc, ◌+◌, ◌<◌, ◌≤◌, List, [], ◌∷◌, ◌++◌, length, refl, subst, arith, Result}
use Rattle.std.proofs.Common.{Ok, Err, Bool, true, false, Option, Some, None, ℤ, if◌then◌else◌}
use Rattle.std.specs.Prelude.{slice_get, nat_lt}
use Rattle.std.proofs.lemmas.List.{length_push}
use borrow.Author.Tests.{ltb-true}
use Rattle.core_lang.specs.declared.value.Value.{Value}
use Rattle.core_lang.specs.declared.value.Value.TheVariants.{Int, Ref}
use Rattle.core_lang.specs.declared.value.Outcome.{Outcome}
use Rattle.core_lang.specs.declared.value.Outcome.TheVariants as out
use Rattle.core_lang.specs.declared.value.Failure.{Failure}
use Rattle.core_lang.specs.declared.value.Failure.TheVariants.{Trap, Wrong}
use Rattle.core_lang.specs.declared.value.Trap.TheVariants.{TooManyPrints}
use Rattle.core_lang.specs.declared.shape.Shape.{Shape}
use Rattle.core_lang.specs.declared.tree.Return.{Return}
use Rattle.core_lang.specs.declared.tree.Section.{Section}
use Rattle.core_lang.specs.declared.tree.Stmt.{Stmt}
use Rattle.core_lang.specs.declared.tree.Action.{Action, Bind, SetLocal, SetGlobal, SetElement, SetField, Call, Print}
use Rattle.core_lang.specs.declared.tree.Action.{If', IfElse', While', Row_of-Stmt, end_of-Stmt, more_of-Stmt}
use Rattle.core_lang.specs.Cells.{with, found, element_cell, field_cell, not_null, read}
use Rattle.core_lang.specs.Meaning.{State, Flow, GoesOn, Traps, Beyond, Astray, Helpers, given, choose, after, turns}
use Rattle.core_lang.specs.Meaning.{values_of, value_of, truth_of, place_of, printed, written, stored, received, back}
use Rattle.core_lang.specs.Meaning.{effect_by, effects_by, sequence_by, if_there, helped, deepest, returned, ending}
use Rattle.core_lang.specs.Whole.{Finished, Run, Over, Beyond_turns, Gone_astray, opening, concluded, run_of}
use Rattle.core_lang_helpers.specs.Prints.{repeated, prints_in, prints_in_row, prints_in_all, most_prints}
use Rattle.core_lang_helpers.specs.Laws.{NoRunPrintsMore}

-- at most the given number, and never more than 256
record Few (most : ℕ) (prints : List ℤ) : Type 0 where
  pub within : length prints ≤ most
  pub cap : length prints ≤ 256

-- at most m numbers are printed at the end of a statement
abbrev LeadsTo : ℕ → Flow → Type 0
LeadsTo m (GoesOn s) = Few m s.prints
LeadsTo m (Traps t s) = Few m s.prints
LeadsTo m Beyond = Unit {0}
LeadsTo m Astray = Unit {0}

-- so few are printed at the end
abbrev EndsWith : ℕ → Run → Type 0
EndsWith m (Over finished) = Few m finished.prints
EndsWith m Beyond_turns = Unit {0}
EndsWith m Gone_astray = Unit {0}

fewer : {m k : ℕ} (prints : List ℤ) → m ≤ k → Few m prints → Few k prints
fewer prints le few = record { within = omega (arith, few.within, le); cap = few.cap }

capped : {m : ℕ} (prints : List ℤ) → Few m prints → Few 256 prints
capped prints few = record { within = few.cap; cap = few.cap }

leads_to_fewer : (m k : ℕ) (flow : Flow) → m ≤ k → LeadsTo m flow → LeadsTo k flow
leads_to_fewer m k (GoesOn s) le few = fewer s.prints le few
leads_to_fewer m k (Traps t s) le few = fewer s.prints le few
leads_to_fewer m k Beyond le few = tt
leads_to_fewer m k Astray le few = tt

leads_to_capped : (m : ℕ) (flow : Flow) → LeadsTo m flow → LeadsTo 256 flow
leads_to_capped m (GoesOn s) few = capped s.prints few
leads_to_capped m (Traps t s) few = capped s.prints few
leads_to_capped m Beyond few = tt
leads_to_capped m Astray few = tt

-- ---- parts of statements

given_few : {A : Type 0} (m : ℕ) (r : Result A Failure) (s : State) (go : A → Flow) → Few m s.prints →
    ((a : A) → LeadsTo m (go a)) → LeadsTo m (given r s go)
given_few m (Ok a) s go few h = h a
given_few m (Err (Trap t)) s go few h = few
given_few m (Err Wrong) s go few h = tt

after_few : (m k : ℕ) (flow : Flow) (go : State → Flow) → m ≤ k → LeadsTo m flow →
    ((s : State) → Few m s.prints → LeadsTo k (go s)) → LeadsTo k (after flow go)
after_few m k (GoesOn s) go le few h = h s few
after_few m k (Traps t s) go le few h = fewer s.prints le few
after_few m k Beyond go le few h = tt
after_few m k Astray go le few h = tt

choose_few : (m : ℕ) (b : Bool) (x y : Flow) → LeadsTo m x → LeadsTo m y → LeadsTo m (choose b x y)
choose_few m true x y hx hy = hx
choose_few m false x y hx hy = hy

written_few : (m cell : ℕ) (v : Value) (s : State) → Few m s.prints → LeadsTo m (written cell v s)
written_few m cell v s few = given_few m (read s.heap cell) s _ few (λ _. few)

stored_few : (m k : ℕ) (v : Value) (s : State) → Few m s.prints → LeadsTo m (stored k v s)
stored_few m k v s few = given_few m (found (slice_get s.locals k)) s _ few (λ _. few)

print_if : (m : ℕ) (b : Bool) (n : ℤ) (s : State) → Few m s.prints → nat_lt (length s.prints) 256 ≡ b →
    LeadsTo (m + 1) (if b then GoesOn (record s { prints = s.prints ++ n ∷ [] }) else Traps TooManyPrints s)
print_if m true n s few room =
    let below : length s.prints < 256 = ltb-true (length s.prints) 256 room in record {
      within = omega (arith, length_push s.prints n, few.within);
      cap = omega (arith, length_push s.prints n, below);
    }
print_if m false n s few room = fewer s.prints (omega arith) few

printed_few : (m : ℕ) (v : Value) (s : State) → Few m s.prints → LeadsTo (m + 1) (printed v s)
printed_few m (Int n) s few = print_if m (nat_lt (length s.prints) 256) n s few refl
printed_few m (Ref r) s few = tt

-- a body that prints no further
turns_few : (m n : ℕ) (test : State → Result Bool Failure) (body : State → Flow) →
    ((s : State) → Few m s.prints → LeadsTo m (body s)) → (s : State) → Few m s.prints → LeadsTo m (turns n test body s)
turns_few m zero test body h s few = given_few m (test s) s _ few (λ b. choose_few m b Beyond (GoesOn s) tt few)
turns_few m (suc n) test body h s few =
    given_few m (test s) s _ few (λ b.
    choose_few m b _ (GoesOn s) (after_few m m (body s) _ (omega arith) (h s few) (turns_few m n test body h)) few)

-- any body
loop_few : (m k n : ℕ) (test : State → Result Bool Failure) (body : State → Flow) →
    ((m : ℕ) (s : State) → Few m s.prints → LeadsTo (m + k) (body s)) → (s : State) → Few m s.prints →
    LeadsTo (m + repeated k) (turns n test body s)
loop_few m zero n test body h s few =
    leads_to_fewer m (m + 0) (turns n test body s) (omega arith)
    (turns_few m n test body (λ t now. leads_to_fewer (m + 0) m (body t) (omega arith) (h m t now)) s few)
loop_few m (suc k) n test body h s few =
    leads_to_fewer 256 (m + 256) (turns n test body s) (omega arith)
    (turns_few 256 n test body (λ t now. leads_to_capped (256 + suc k) (body t) (h 256 t now)) s (capped s.prints few))

received_few : (m : ℕ) (outcome : Outcome) (result : Option ℕ) (s : State) → Few m s.prints →
    LeadsTo m (received outcome result s)
received_few m out.Ends None s few = few
received_few m out.Ends (Some k) s few = tt
received_few m (out.Returns v) None s few = few
received_few m (out.Returns v) (Some k) s few = stored_few m k v s few
received_few m (out.Traps t) result s few = few

back_few : (m : ℕ) (run : Run) (result : Option ℕ) (s : State) → EndsWith m run → LeadsTo m (back run result s)
back_few m (Over f) result s few = received_few m f.outcome result (record s { heap = f.heap; prints = f.prints }) few
back_few m Beyond_turns result s few = tt
back_few m Gone_astray result s few = tt

-- ---- statements, if helpers print few

abbrev HelpersPrintFew : Helpers → Type 0
HelpersPrintFew call =
    (helper : ℕ) (values heap : List Value) (prints : List ℤ) → Few 256 prints → EndsWith 256 (call helper values heap prints)

-- none is printed here
still : (m : ℕ) (s : State) → Few m s.prints → Few (m + 0) s.prints
still m s few = fewer s.prints (omega arith) few

module _ (call : Helpers) (shape : Shape) (n : ℕ) (help : HelpersPrintFew call) where
  mutual
    effect_few : (x : Action) (m : ℕ) (s : State) → Few m s.prints → LeadsTo (m + prints_in x) (effect_by call x shape n s)
    effect_few (Bind k e) m s few =
        let now = still m s few in given_few (m + 0) (value_of e shape s.locals s.heap) s _ now (λ v. stored_few (m + 0) k v s now)
    effect_few (SetLocal k e) m s few =
        let now = still m s few in given_few (m + 0) (value_of e shape s.locals s.heap) s _ now (λ v. stored_few (m + 0) k v s now)
    effect_few (SetGlobal cell e) m s few =
        let now = still m s few in given_few (m + 0) (value_of e shape s.locals s.heap) s _ now (λ v. written_few (m + 0) cell v s now)
    effect_few (SetElement array i e) m s few =
        let now = still m s few in
        given_few (m + 0) (value_of i shape s.locals s.heap) s _ now (λ v.
        given_few (m + 0) (element_cell shape array v) s _ now (λ cell.
        given_few (m + 0) (value_of e shape s.locals s.heap) s _ now (λ w. written_few (m + 0) cell w s now)))
    effect_few (SetField path structure field e) m s few =
        let now = still m s few in
        given_few (m + 0) (with (place_of path shape s.locals s.heap) not_null) s _ now (λ base.
        given_few (m + 0) (value_of e shape s.locals s.heap) s _ now (λ v.
        given_few (m + 0) (field_cell shape base field) s _ now (λ cell. written_few (m + 0) cell v s now)))
    effect_few (Call helper arguments result) m s few =
        let now : Few (m + 256) s.prints = fewer s.prints (omega arith) few in
        given_few (m + 256) (values_of arguments.items shape s.locals s.heap) s _ now (λ vs.
        leads_to_fewer 256 (m + 256) (back (call helper vs s.heap s.prints) result s) (omega arith)
        (back_few 256 (call helper vs s.heap s.prints) result s (help helper vs s.heap s.prints (capped s.prints few))))
    effect_few (Print e) m s few =
        given_few (m + 1) (value_of e shape s.locals s.heap) s _ (fewer s.prints (omega arith) few) (λ v. printed_few m v s few)
    effect_few (If' c k a) m s few =
        let now : Few (m + prints_in_row a) s.prints = fewer s.prints (omega arith) few in
        given_few (m + prints_in_row a) (truth_of c shape s.locals s.heap) s _ now (λ t.
        choose_few (m + prints_in_row a) t _ (GoesOn s) (effects_few a m s few) now)
    effect_few (IfElse' c k a j b) m s few =
        let all = m + (prints_in_row a + prints_in_row b) in
        given_few all (truth_of c shape s.locals s.heap) s _ (fewer s.prints (omega arith) few) (λ t.
        choose_few all t _ _
        (leads_to_fewer (m + prints_in_row a) all (effects_by call a shape n s) (omega arith) (effects_few a m s few))
        (leads_to_fewer (m + prints_in_row b) all (effects_by call b shape n s) (omega arith) (effects_few b m s few)))
    effect_few (While' c k body) m s few =
        loop_few m (prints_in_row body) n (λ t. truth_of c shape t.locals t.heap) (effects_by call body shape n) (effects_few body) s few

    effects_few : {k : _} (row : Row_of-Stmt k) (m : ℕ) (s : State) → Few m s.prints →
        LeadsTo (m + prints_in_row row) (effects_by call row shape n s)
    effects_few end_of-Stmt m s few = still m s few
    effects_few (more_of-Stmt start x rest) m s few =
        let first = m + prints_in x in
        let all = m + (prints_in x + prints_in_row rest) in
        after_few first all (effect_by call x shape n s) (effects_by call rest shape n) (omega arith) (effect_few x m s few)
        (λ t now. leads_to_fewer (first + prints_in_row rest) all (effects_by call rest shape n t) (omega arith) (effects_few rest first t now))

  sequence_few : (xs : List Stmt) (m : ℕ) (s : State) → Few m s.prints →
      LeadsTo (m + prints_in_all xs) (sequence_by call xs shape n s)
  sequence_few [] m s few = still m s few
  sequence_few (x ∷ xs) m s few =
      let first = m + prints_in x.action in
      let all = m + (prints_in x.action + prints_in_all xs) in
      after_few first all (effect_by call x.action shape n s) (sequence_by call xs shape n) (omega arith) (effect_few x.action m s few)
      (λ t now. leads_to_fewer (first + prints_in_all xs) all (sequence_by call xs shape n t) (omega arith) (sequence_few xs first t now))

-- ---- ends

returned_few : (m : ℕ) (r : Result Value Failure) (s : State) → Few m s.prints → EndsWith m (returned r s)
returned_few m (Ok v) s few = few
returned_few m (Err (Trap t)) s few = few
returned_few m (Err Wrong) s few = tt

ending_few : (m : ℕ) (result : Option Return) (shape : Shape) (s : State) → Few m s.prints →
    EndsWith m (ending result shape s)
ending_few m None shape s few = few
ending_few m (Some result) shape s few = returned_few m (value_of result.value shape s.locals s.heap) s few

concluded_few : (m : ℕ) (result : Option Return) (shape : Shape) (flow : Flow) → LeadsTo m flow →
    EndsWith m (concluded result shape flow)
concluded_few m result shape (GoesOn s) few = ending_few m result shape s few
concluded_few m result shape (Traps t s) few = few
concluded_few m result shape Beyond few = tt
concluded_few m result shape Astray few = tt

-- ---- helpers, however deep their calls go

if_there_few : (m : ℕ) (there : Option Section) (go : Section → Run) → ((x : Section) → EndsWith m (go x)) →
    EndsWith m (if_there there go)
if_there_few m (Some x) go h = h x
if_there_few m None go h = tt

helped_few : (depth : ℕ) (shape : Shape) (n : ℕ) → HelpersPrintFew (helped depth shape n)
helped_few zero shape n helper values heap prints few = tt
helped_few (suc depth) shape n helper values heap prints few =
    if_there_few 256 (slice_get shape.helpers.items helper) _ (λ x.
    let s : State = record (opening x values heap) { prints = prints } in
    let flow = sequence_by (helped depth shape n) x.body.items shape n s in
    concluded_few 256 x.result shape flow
    (leads_to_capped (256 + prints_in_all x.body.items) flow
    (sequence_few (helped depth shape n) shape n (helped_few depth shape n) x.body.items 256 s few)))

-- ---- the whole

over_few : (m : ℕ) (run : Run) (finished : Finished) → run ≡ Over finished → EndsWith m run → Few m finished.prints
over_few m run finished is few = subst (EndsWith m) is few

pub prints_at_most : NoRunPrintsMore
unfolding most_prints
prints_at_most section shape arguments heap finished (n, is) =
    let s = opening section arguments heap in
    let flow = sequence_by (helped deepest shape n) section.body.items shape n s in
    let none : Few 0 s.prints = record { within = omega arith; cap = omega arith } in
    let led = sequence_few (helped deepest shape n) shape n (helped_few deepest shape n) section.body.items 0 s none in
    let few = over_few (0 + prints_in_all section.body.items) (run_of section shape n arguments heap) finished is
    (concluded_few (0 + prints_in_all section.body.items) section.result shape flow led) in
    omega (arith, few.within, few.cap)
