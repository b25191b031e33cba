-- The effect of a body depends only on the cells that it may read or write, and it changes only those that it may
-- write.
use Rattle.std.proofs.Common.{◌≡◌, ℕ, zero, suc, List, [], ◌∷◌, ◌++◌, Some, None, Option, Result, Ok, Err, Bool, true}
use Rattle.std.proofs.Common.{false, refl, sym, ap, ◌∙◌, subst, ℤ, ◌≢◌}
use Rattle.std.specs.Prelude.{slice_get, slice_set, not, length, nat_lt, if◌then◌else◌, ⊤}
use Rattle.core_lang.specs.declared.value.Value.{Value}
use Rattle.core_lang.specs.declared.value.Value.TheVariants.{Int, Ref}
use Rattle.core_lang.specs.declared.value.Failure.{Failure}
use Rattle.core_lang.specs.declared.value.Failure.TheVariants.{Trap, Wrong}
use Rattle.core_lang.specs.declared.value.Trap.TheVariants.{TooManyPrints}
use Rattle.core_lang.specs.declared.shape.Shape.{Shape}
use Rattle.core_lang.specs.declared.tree.FieldStep.{FieldStep}
use Rattle.core_lang.specs.declared.tree.FieldStep.TheVariants.{Final, Field}
use Rattle.core_lang.specs.declared.tree.Path.{Path}
use Rattle.core_lang.specs.declared.tree.Expr.{Expr, Number, Null, Place, Global, Element', Member', Negate', Owned'}
use Rattle.core_lang.specs.declared.tree.Expr.{Chain', Row_of-Operation, end_of-Operation, more_of-Operation}
use Rattle.core_lang.specs.declared.tree.Condition.{Condition, Compare, Not', And', Or', Row_of-Condition}
use Rattle.core_lang.specs.declared.tree.Condition.{end_of-Condition, more_of-Condition}
use Rattle.core_lang.specs.declared.tree.Stmt.{Stmt}
use Rattle.core_lang.specs.declared.tree.Action.{Action, Bind, SetLocal, SetGlobal, SetElement, SetField, Call, Print}
use Rattle.core_lang.specs.declared.tree.Action.{If', IfElse', While', Row_of-Stmt, end_of-Stmt, more_of-Stmt}
use Rattle.core_lang.specs.Arithmetic.{negated, compared}
use Rattle.core_lang.specs.Cells.{with, found, element_cell, member_of, field_cell, final_value, owned, not_null, read}
use Rattle.core_lang.specs.Cells.{step_value}
use Rattle.core_lang.specs.Meaning.{State, Flow, GoesOn, Traps, Beyond, Astray, Helpers, along, place_of, joined, value_of}
use Rattle.core_lang.specs.Meaning.{chained, and_then, or_else, truth_of, all_true, any_true, given, after, choose}
use Rattle.core_lang.specs.Meaning.{printed, written, stored, turns, effect_by, effects_by, sequence_by}
use Rattle.core_lang.specs.Theory.Items.{set_other}
use Rattle.outcomes.specs.Footprints.{MayHold, MayEnd, MayGive, FieldIn, LeadsWithin, PathWithin}
use Rattle.outcomes.specs.Footprints.{ReadsWithin, OperandsWithin, TestsWithin, EachTestsWithin, ActsWithin}
use Rattle.outcomes.specs.Footprints.{EachActsWithin, AllActWithin}

with_alike : {A B : Type 0} (r : Result A Failure) (f g : A → Result B Failure) →
    ((a : A) → r ≡ Ok a → f a ≡ g a) → with r f ≡ with r g
with_alike (Ok a) f g h = h a refl
with_alike (Err e) f g h = refl

-- a result in two steps has a result in the first step
pub with_ok : {A B : Type 0} (r : Result A Failure) (f : A → Result B Failure) (b : B) → with r f ≡ Ok b →
    (a : A) × (r ≡ Ok a) × (f a ≡ Ok b)
with_ok (Ok a) f b e = (a, refl, e)
with_ok (Err x) f b e = let wrong : ⊥ = cc in absurd wrong

pub found_some : {A : Type 0} (o : Option A) (a : A) → found o ≡ Ok a → o ≡ Some a
found_some (Some x) a e = cc
found_some None a e = let wrong : ⊥ = cc in absurd wrong

-- each parameter holds its argument
abbrev pub Knows : List Value → List Value → Type 0
Knows arguments locals = (k : ℕ) (v : Value) → slice_get arguments k ≡ Some v → slice_get locals k ≡ Some v

module _ (shape : Shape) (arguments : List Value) (Read Write : ℕ → Type 0) where
  module _ (locals h g : List Value) (knows : Knows arguments locals)
      (agree : (c : ℕ) → Read c → slice_get h c ≡ slice_get g c) where
    holds : (k : ℕ) (v : Value) → found (slice_get locals k) ≡ Ok v → MayHold arguments k v
    holds k v e w is =
        let here : slice_get locals k ≡ Some v = found_some (slice_get locals k) v e in
        let same : slice_get locals k ≡ Some w = knows k w is in
        cc

    ends : (k : ℕ) (fields : List FieldStep) (v : Value) →
        with (found (slice_get locals k)) (λ base. along shape g base fields) ≡ Ok v → MayEnd arguments k fields v
    ends k [] v e =
        let two = with_ok (found (slice_get locals k)) (λ base. along shape g base []) v e in
        let same : two.0 ≡ v = let ok : Ok two.0 ≡ Ok v = two.2 in cc in
        subst (λ x. MayHold arguments k x) same (holds k two.0 two.1)
    ends k (f ∷ fs) v e = tt

    gives : (e : Expr) (v : Value) → value_of e shape locals g ≡ Ok v → MayGive arguments e v
    gives (Number n) v is = cc
    gives Null v is = tt
    gives (Place path) v is = ends path.local path.fields.items v is
    gives (Global start cell) v is = tt
    gives (Element' start array p index) v is = tt
    gives (Member' pool p index) v is = tt
    gives (Negate' p e) v is = tt
    gives (Owned' p e structure final start local) v is = tt
    gives (Chain' p first m rest) v is = tt

    along_alike : (Has : Value → Type 0) (v : Value) (fs : List FieldStep) →
        LeadsWithin shape arguments Read Write Has v fs →
        along shape h v fs ≡ along shape g v fs
    along_alike Has v [] is = refl
    along_alike Has v (Final s f ∷ fs) is = with_alike (final_value shape v f) _ _
        (λ w e. along_alike Has w fs (is w e))
    along_alike Has v (Field s f ∷ fs) is =
        ap (λ r. with r (λ w. along shape h w fs))
        (with_alike (field_cell shape v f) (λ cell. read h cell) (λ cell. read g cell)
        (λ cell e. ap found (agree cell (is cell e).0)))
        ∙ with_alike (step_value shape g v (Field s f)) _ _ (λ w e.
        let at = with_ok (field_cell shape v f) (λ cell. read g cell) w e in
        along_alike Has w fs ((is at.0 at.1).1 w))

    along_has : (Has : Value → Type 0) (v : Value) (fs : List FieldStep) (w : Value) →
        LeadsWithin shape arguments Read Write Has v fs →
        along shape g v fs ≡ Ok w → Has w
    along_has Has v [] w is e = let same : v ≡ w = cc in subst Has same is
    along_has Has v (Final s f ∷ fs) w is e =
        let two = with_ok (final_value shape v f) (λ x. along shape g x fs) w e in
        along_has Has two.0 fs w (is two.0 two.1) two.2
    along_has Has v (Field s f ∷ fs) w is e =
        let two = with_ok (step_value shape g v (Field s f)) (λ x. along shape g x fs) w e in
        let at = with_ok (field_cell shape v f) (λ cell. read g cell) two.0 two.1 in
        along_has Has two.0 fs w ((is at.0 at.1).1 two.0) two.2

    place_alike : (Has : Value → Type 0) (path : Path) → PathWithin shape arguments Read Write Has path →
        place_of path shape locals h ≡ place_of path shape locals g
    place_alike Has path is = with_alike (found (slice_get locals path.local)) _ _
        (λ v e. along_alike Has v path.fields.items (is v (holds path.local v e)))

    place_has : (Has : Value → Type 0) (path : Path) (w : Value) → PathWithin shape arguments Read Write Has path →
        place_of path shape locals g ≡ Ok w → Has w
    place_has Has path w is e =
        let two = with_ok (found (slice_get locals path.local)) (λ base. along shape g base path.fields.items) w e in
        along_has Has two.0 path.fields.items w (is two.0 (holds path.local two.0 two.1)) two.2

    mutual
      pub value_alike : (e : Expr) → ReadsWithin shape arguments Read Write e →
          value_of e shape locals h ≡ value_of e shape locals g
      value_alike (Number n) is = refl
      value_alike Null is = refl
      value_alike (Place path) is = place_alike (λ v. ⊤) path is
      value_alike (Global start cell) is = ap found (agree cell is)
      value_alike (Element' start array p index) is =
          ap (λ r. with r (λ i. with (element_cell shape array i) (λ cell. read h cell))) (value_alike index is.0)
          ∙ with_alike (value_of index shape locals g) _ _
          (λ v e. with_alike (element_cell shape array v) _ _
          (λ cell e'. ap found (agree cell (is.1 v cell (gives index v e) e'))))
      value_alike (Member' pool p index) is = ap (λ r. with r (member_of shape pool)) (value_alike index is)
      value_alike (Negate' p e) is = ap (λ r. with r negated) (value_alike e is)
      value_alike (Owned' p e structure final start local) is =
          ap (λ r. with r (λ v. with (found (slice_get locals local)) (λ owner. owned shape v final owner)))
          (value_alike e is)
      value_alike (Chain' p first m rest) is =
          ap (chained rest shape locals h) (value_alike first is.0)
          ∙ chained_alike rest (value_of first shape locals g) is.1

      chained_alike : {m : _} (row : Row_of-Operation m) (left : Result Value Failure) →
          OperandsWithin shape arguments Read Write row →
          chained row shape locals h left ≡ chained row shape locals g left
      chained_alike end_of-Operation left is = refl
      chained_alike (more_of-Operation o e rest) left is =
          ap (λ r. chained rest shape locals h (joined o left r)) (value_alike e is.0)
          ∙ chained_alike rest (joined o left (value_of e shape locals g)) is.1

    mutual
      pub truth_alike : (c : Condition) → TestsWithin shape arguments Read Write c →
          truth_of c shape locals h ≡ truth_of c shape locals g
      truth_alike (Compare c a b) is =
          ap (λ r. with r (λ v. with (value_of b shape locals h) (λ w. compared c v w))) (value_alike a is.0)
          ∙ ap (λ r. with (value_of a shape locals g) (λ v. with r (λ w. compared c v w))) (value_alike b is.1)
      truth_alike (Not' p c) is = ap (λ r. with r (λ b. Ok (not b))) (truth_alike c is)
      truth_alike (And' m before p last) is =
          ap (all_true before shape locals h) (truth_alike last is.1)
          ∙ all_alike before (truth_of last shape locals g) is.0
      truth_alike (Or' m before p last) is =
          ap (any_true before shape locals h) (truth_alike last is.1)
          ∙ any_alike before (truth_of last shape locals g) is.0

      all_alike : {m : _} (row : Row_of-Condition m) (last : Result Bool Failure) →
          EachTestsWithin shape arguments Read Write row →
          all_true row shape locals h last ≡ all_true row shape locals g last
      all_alike end_of-Condition last is = refl
      all_alike (more_of-Condition c rest) last is =
          ap (λ r. and_then r (all_true rest shape locals h last)) (truth_alike c is.0)
          ∙ ap (and_then (truth_of c shape locals g)) (all_alike rest last is.1)

      any_alike : {m : _} (row : Row_of-Condition m) (last : Result Bool Failure) →
          EachTestsWithin shape arguments Read Write row →
          any_true row shape locals h last ≡ any_true row shape locals g last
      any_alike end_of-Condition last is = refl
      any_alike (more_of-Condition c rest) last is =
          ap (λ r. or_else r (any_true rest shape locals h last)) (truth_alike c is.0)
          ∙ ap (or_else (truth_of c shape locals g)) (any_alike rest last is.1)

-- ---- lists in which something is written

set_alike : {A : Type 0} (xs ys : List A) (i j : ℕ) (x : A) → slice_get xs i ≡ slice_get ys i →
    slice_get xs j ≡ slice_get ys j →
    slice_get (slice_set xs i x) j ≡ slice_get (slice_set ys i x) j
set_alike [] [] i j x e e' = refl
set_alike [] (y ∷ ys) zero j x e e' = let wrong : ⊥ = cc in absurd wrong
set_alike [] (y ∷ ys) (suc i) zero x e e' = e'
set_alike [] (y ∷ ys) (suc i) (suc j) x e e' = set_alike [] ys i j x e e'
set_alike (z ∷ xs) [] zero j x e e' = let wrong : ⊥ = cc in absurd wrong
set_alike (z ∷ xs) [] (suc i) zero x e e' = e'
set_alike (z ∷ xs) [] (suc i) (suc j) x e e' = set_alike xs [] i j x e e'
set_alike (z ∷ xs) (y ∷ ys) zero zero x e e' = refl
set_alike (z ∷ xs) (y ∷ ys) zero (suc j) x e e' = e'
set_alike (z ∷ xs) (y ∷ ys) (suc i) zero x e e' = e'
set_alike (z ∷ xs) (y ∷ ys) (suc i) (suc j) x e e' = set_alike xs ys i j x e e'

other_set : {A : Type 0} (P : ℕ → Type 0) (xs : List A) (i j : ℕ) (x : A) → P i → (P j → ⊥) →
    slice_get (slice_set xs i x) j ≡ slice_get xs j
other_set P xs i j x is not_j = set_other xs i j x (λ e. not_j (subst P e is))

-- ---- statements

module _ (shape : Shape) (arguments : List Value) (Read Write : ℕ → Type 0) (heap heap' : List Value) where
  -- the states of two runs are alike: they agree but for cells that the runs do not write, which each heap keeps
  pub record AreAlike (s t : State) : Type 0 where
    pub locals : s.locals ≡ t.locals
    pub prints : s.prints ≡ t.prints
    pub knows : Knows arguments s.locals
    pub reads : (c : ℕ) → Read c → slice_get s.heap c ≡ slice_get t.heap c
    pub writes : (c : ℕ) → Write c → slice_get s.heap c ≡ slice_get t.heap c
    pub kept : (c : ℕ) → (Write c → ⊥) → slice_get s.heap c ≡ slice_get heap c
    pub kept' : (c : ℕ) → (Write c → ⊥) → slice_get t.heap c ≡ slice_get heap' c

  -- both runs lead to states that are alike
  abbrev pub LeadAlike : Flow → Flow → Type 0
  LeadAlike (GoesOn s) (GoesOn t) = AreAlike s t
  LeadAlike (Traps c s) (Traps d t) = (c ≡ d) × AreAlike s t
  LeadAlike Beyond Beyond = ⊤
  LeadAlike Astray Astray = ⊤
  LeadAlike _ _ = ⊥

  pub value_both : (e : Expr) (s t : State) → AreAlike s t → ReadsWithin shape arguments Read Write e →
      value_of e shape s.locals s.heap ≡ value_of e shape t.locals t.heap
  value_both e s t a is =
      value_alike shape arguments Read Write s.locals s.heap t.heap a.knows a.reads e is
      ∙ ap (λ locals. value_of e shape locals t.heap) a.locals

  truth_both : (c : Condition) (s t : State) → AreAlike s t → TestsWithin shape arguments Read Write c →
      truth_of c shape s.locals s.heap ≡ truth_of c shape t.locals t.heap
  truth_both c s t a is =
      truth_alike shape arguments Read Write s.locals s.heap t.heap a.knows a.reads c is
      ∙ ap (λ locals. truth_of c shape locals t.heap) a.locals

  given_same : {A : Type 0} (r : Result A Failure) (s t : State) (f g : A → Flow) → AreAlike s t →
      ((a : A) → r ≡ Ok a → LeadAlike (f a) (g a)) → LeadAlike (given r s f) (given r t g)
  given_same (Ok x) s t f g a h = h x refl
  given_same (Err (Trap c)) s t f g a h = (refl, a)
  given_same (Err Wrong) s t f g a h = tt

  given_both : {A : Type 0} (r r' : Result A Failure) (s t : State) (f g : A → Flow) → AreAlike s t → r ≡ r' →
      ((a : A) → r ≡ Ok a → LeadAlike (f a) (g a)) → LeadAlike (given r s f) (given r' t g)
  given_both r r' s t f g a e h = subst (λ x. LeadAlike (given r s f) (given x t g)) e (given_same r s t f g a h)

  choose_both : (b : Bool) (x x' y y' : Flow) → LeadAlike x x' → LeadAlike y y' →
      LeadAlike (choose b x y) (choose b x' y')
  choose_both true x x' y y' h k = h
  choose_both false x x' y y' h k = k

  after_both : (x y : Flow) (f g : State → Flow) → LeadAlike x y →
      ((s t : State) → AreAlike s t → LeadAlike (f s) (g t)) →
      LeadAlike (after x f) (after y g)
  after_both (GoesOn s) (GoesOn t) f g h k = k s t h
  after_both (GoesOn s) (Traps d t) f g h k = absurd h
  after_both (GoesOn s) Beyond f g h k = absurd h
  after_both (GoesOn s) Astray f g h k = absurd h
  after_both (Traps c s) (GoesOn t) f g h k = absurd h
  after_both (Traps c s) (Traps d t) f g h k = h
  after_both (Traps c s) Beyond f g h k = absurd h
  after_both (Traps c s) Astray f g h k = absurd h
  after_both Beyond (GoesOn t) f g h k = absurd h
  after_both Beyond (Traps d t) f g h k = absurd h
  after_both Beyond Beyond f g h k = tt
  after_both Beyond Astray f g h k = absurd h
  after_both Astray (GoesOn t) f g h k = absurd h
  after_both Astray (Traps d t) f g h k = absurd h
  after_both Astray Beyond f g h k = absurd h
  after_both Astray Astray f g h k = tt

  store_both : (k : ℕ) (v : Value) (s t : State) → AreAlike s t → slice_get arguments k ≡ None →
      LeadAlike (stored k v s) (stored k v t)
  store_both k v s t a none =
      given_both (found (slice_get s.locals k)) (found (slice_get t.locals k)) s t _ _ a
      (ap (λ locals. found (slice_get locals k)) a.locals)
      (λ old e. record {
        locals = ap (λ locals. slice_set locals k v) a.locals;
        prints = a.prints;
        knows = λ j w is.
            let differ : k ≢ j = λ same. let wrong : None ≡ Some w = sym none ∙ ap (slice_get arguments) same ∙ is in
            cc in
            set_other s.locals k j v differ ∙ a.knows j w is;
        reads = a.reads;
        writes = a.writes;
        kept = a.kept;
        kept' = a.kept';
      })

  write_both : (cell : ℕ) (v : Value) (s t : State) → AreAlike s t → Write cell →
      LeadAlike (written cell v s) (written cell v t)
  write_both cell v s t a is =
      given_both (read s.heap cell) (read t.heap cell) s t _ _ a (ap found (a.writes cell is))
      (λ old e. record {
        locals = a.locals;
        prints = a.prints;
        knows = a.knows;
        reads = λ c r. set_alike s.heap t.heap cell c v (a.writes cell is) (a.reads c r);
        writes = λ c w. set_alike s.heap t.heap cell c v (a.writes cell is) (a.writes c w);
        kept = λ c w. other_set Write s.heap cell c v is w ∙ a.kept c w;
        kept' = λ c w. other_set Write t.heap cell c v is w ∙ a.kept' c w;
      })

  print_if : (b : Bool) (n : ℤ) (s t : State) → AreAlike s t →
      LeadAlike (if b then GoesOn (record s { prints = s.prints ++ n ∷ [] }) else Traps TooManyPrints s)
      (if b then GoesOn (record t { prints = t.prints ++ n ∷ [] }) else Traps TooManyPrints t)
  print_if true n s t a = record {
    locals = a.locals;
    prints = ap (λ ns. ns ++ n ∷ []) a.prints;
    knows = a.knows;
    reads = a.reads;
    writes = a.writes;
    kept = a.kept;
    kept' = a.kept';
  }
  print_if false n s t a = (refl, a)

  print_both : (v : Value) (s t : State) → AreAlike s t → LeadAlike (printed v s) (printed v t)
  print_both (Int n) s t a =
      subst (λ b. LeadAlike (printed (Int n) s)
      (if b then GoesOn (record t { prints = t.prints ++ n ∷ [] }) else Traps TooManyPrints t))
      (ap (λ ns. nat_lt (length ns) 256) a.prints) (print_if (nat_lt (length s.prints) 256) n s t a)
  print_both (Ref r) s t a = tt

  -- a test with the same result in states alike, and a body that keeps states alike
  module _ (test : State → Result Bool Failure) (body : State → Flow)
      (tests : (s t : State) → AreAlike s t → test s ≡ test t)
      (leads : (s t : State) → AreAlike s t → LeadAlike (body s) (body t)) where
    turns_both : (n : ℕ) (s t : State) → AreAlike s t → LeadAlike (turns n test body s) (turns n test body t)
    turns_both zero s t a = given_both (test s) (test t) s t _ _ a (tests s t a)
        (λ b e. choose_both b Beyond Beyond (GoesOn s) (GoesOn t) tt a)
    turns_both (suc n) s t a =
        given_both (test s) (test t) s t _ _ a (tests s t a) (λ b e. choose_both b _ _ (GoesOn s) (GoesOn t)
        (after_both (body s) (body t) _ _ (leads s t a) (turns_both n)) a)

  base_both : (path : Path) (Has : Value → Type 0) (s t : State) → AreAlike s t →
      PathWithin shape arguments Read Write Has path →
      with (place_of path shape s.locals s.heap) not_null ≡ with (place_of path shape t.locals t.heap) not_null
  base_both path Has s t a is =
      ap (λ r. with r not_null) (place_alike shape arguments Read Write s.locals s.heap t.heap a.knows a.reads Has
      path is
      ∙ ap (λ locals. place_of path shape locals t.heap) a.locals)

  not_null_is : (v w : Value) → not_null v ≡ Ok w → v ≡ w
  not_null_is (Int n) w e = let wrong : ⊥ = cc in absurd wrong
  not_null_is (Ref None) w e = let wrong : ⊥ = cc in absurd wrong
  not_null_is (Ref (Some o)) w e = cc

  base_has : (path : Path) (Has : Value → Type 0) (s t : State) (v : Value) → AreAlike s t →
      PathWithin shape arguments Read Write Has path →
      with (place_of path shape s.locals s.heap) not_null ≡ Ok v → Has v
  base_has path Has s t v a is e =
      let two = with_ok (place_of path shape s.locals s.heap) not_null v e in
      subst Has (not_null_is two.0 v two.2)
      (place_has shape arguments Read Write s.locals s.heap s.heap a.knows (λ c r. refl) Has path two.0 is two.1)

  module _ (call : Helpers) (n : ℕ) where
    mutual
      effect_both : (x : Action) (s t : State) → AreAlike s t → ActsWithin shape arguments Read Write x →
          LeadAlike (effect_by call x shape n s) (effect_by call x shape n t)
      effect_both (Bind k e) s t a is = given_both _ _ s t _ _ a (value_both e s t a is.1)
          (λ v _. store_both k v s t a is.0)
      effect_both (SetLocal k e) s t a is = given_both _ _ s t _ _ a (value_both e s t a is.1)
          (λ v _. store_both k v s t a is.0)
      effect_both (SetGlobal cell e) s t a is = given_both _ _ s t _ _ a (value_both e s t a is.1)
          (λ v _. write_both cell v s t a is.0)
      effect_both (SetElement array i e) s t a is =
          given_both _ _ s t _ _ a (value_both i s t a is.0) (λ v ev.
          given_both (element_cell shape array v) _ s t _ _ a refl (λ cell ec.
          given_both _ _ s t _ _ a (value_both e s t a is.2) (λ w _.
          write_both cell w s t a (is.1 v cell (gives shape arguments Read Write s.locals s.heap s.heap a.knows
          (λ c r. refl) i v ev) ec))))
      effect_both (SetField path structure f e) s t a is =
          given_both _ _ s t _ _ a (base_both path _ s t a is.0) (λ v ev.
          given_both _ _ s t _ _ a (value_both e s t a is.1) (λ w _.
          given_both (field_cell shape v f) _ s t _ _ a refl (λ cell ec.
          write_both cell w s t a (base_has path (λ b. FieldIn shape Write b f) s t v a is.0 ev cell ec))))
      effect_both (Call helper es result) s t a is = absurd is
      effect_both (Print e) s t a is = given_both _ _ s t _ _ a (value_both e s t a is) (λ v _. print_both v s t a)
      effect_both (If' c m x) s t a is =
          given_both _ _ s t _ _ a (truth_both c s t a is.0)
          (λ b _. choose_both b _ _ _ _ (effects_both x s t a is.1) a)
      effect_both (IfElse' c m x k y) s t a is =
          given_both _ _ s t _ _ a (truth_both c s t a is.0)
          (λ b _. choose_both b _ _ _ _ (effects_both x s t a is.1) (effects_both y s t a is.2))
      effect_both (While' c m body) s t a is =
          turns_both (λ s. truth_of c shape s.locals s.heap) (effects_by call body shape n)
          (λ s1 t1 a1. truth_both c s1 t1 a1 is.0)
          (λ s1 t1 a1. effects_both body s1 t1 a1 is.1) n s t a

      effects_both : {m : _} (row : Row_of-Stmt m) (s t : State) → AreAlike s t →
          EachActsWithin shape arguments Read Write row →
          LeadAlike (effects_by call row shape n s) (effects_by call row shape n t)
      effects_both end_of-Stmt s t a is = a
      effects_both (more_of-Stmt start x rest) s t a is =
          after_both _ _ _ _ (effect_both x s t a is.0) (λ s1 t1 a1. effects_both rest s1 t1 a1 is.1)

    pub sequence_both : (xs : List Stmt) (s t : State) → AreAlike s t → AllActWithin shape arguments Read Write xs →
        LeadAlike (sequence_by call xs shape n s) (sequence_by call xs shape n t)
    sequence_both [] s t a is = a
    sequence_both (x ∷ xs) s t a is =
        after_both _ _ _ _ (effect_both x.action s t a is.0) (λ s1 t1 a1. sequence_both xs s1 t1 a1 is.1)
