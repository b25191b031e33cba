-- A section with its helpers expanded has the same meaning.
use Rattle.std.proofs.Common.{◌≡◌, ℕ, zero, suc, ◌+◌, ◌<◌, ◌≤◌, ℤ, List, [], ◌∷◌, ◌++◌, length, map, drop, Option, Some}
use Rattle.std.proofs.Common.{None, Result, Ok, Err, Bool, true, false, refl, sym, ap, ◌∙◌, subst, arith, inl, inr}
use Rattle.std.specs.Prelude.{slice_get, slice_set, nat_lt, if◌then◌else◌, ⊤}
use Rattle.std.specs.List.{Contains}
use Rattle.std.proofs.lemmas.Option.{none-some}
use Rattle.core_lang.specs.declared.value.Value.{Value}
use Rattle.core_lang.specs.declared.value.Value.TheVariants.{Int, Ref}
use Rattle.core_lang.specs.declared.value.Trap.TheVariants.{TooManyPrints}
use Rattle.core_lang.specs.declared.value.Failure.{Failure}
use Rattle.core_lang.specs.declared.value.Failure.TheVariants.{Trap, Wrong}
use Rattle.core_lang.specs.declared.value.Outcome.{Outcome}
use Rattle.core_lang.specs.declared.value.Outcome.TheVariants as out
use Rattle.core_lang.specs.declared.shape.Shape.{Shape}
use Rattle.core_lang.specs.declared.tree.Expr.{Expr}
use Rattle.core_lang.specs.declared.tree.Condition.{Condition}
use Rattle.core_lang.specs.declared.tree.Stmt.{Stmt}
use Rattle.core_lang.specs.declared.tree.Action.{Action, Bind, SetLocal, SetGlobal, SetElement, SetField, Call, Print}
use Rattle.core_lang.specs.declared.tree.Action.{If', IfElse', While', If, IfElse, While, Row_of-Stmt, end_of-Stmt}
use Rattle.core_lang.specs.declared.tree.Action.{more_of-Stmt}
use Rattle.core_lang.specs.declared.tree.Return.{Return}
use Rattle.core_lang.specs.declared.tree.Local.{Local}
use Rattle.core_lang.specs.declared.tree.Section.{Section}
use Rattle.core_lang.specs.Cells.{with, found, element_cell, field_cell, not_null, read}
use Rattle.core_lang.specs.Meaning.{State, Flow, GoesOn, Traps, Beyond, Astray, Helpers, Run, Over, place_of, value_of}
use Rattle.core_lang.specs.Meaning.{values_of, truth_of, given, after, choose, printed, written, stored, turns, over}
use Rattle.core_lang.specs.Meaning.{returned, ending, concluded, default_local, opening, back, effect_by, effects_by}
use Rattle.core_lang.specs.Meaning.{sequence_by, run_from, if_there, helped, deepest, effect_of, sequence}
use Rattle.core_lang.specs.Theory.Lists.{effect_of-If, effect_of-IfElse, effect_of-While, after-same}
use Rattle.core_lang.specs.Whole.{run_of}
use Rattle.core_lang.specs.Expansion.{Pair, pair, At, Renames, RenamesTest, RenamesResult, HasSamePlaces, behind_bound}
use Rattle.core_lang.specs.Expansion.{behind_block, parameters_at, entered, one, Arguments, Bound, Bodies, Writes}
use Rattle.core_lang.specs.Expansion.{WritesRow, WritesAll, WritesBody, HelpersWritten, IsWrittenOut}
use Rattle.core_lang.proofs.Renamed.{Agree, value_same, truth_same, place_same, element_same, cell_same}
use Rattle.core_lang.proofs.WrittenScopes.{get_set_same, get_set_other, length_set, Ordered, first_below, all_below}
use Rattle.core_lang.proofs.WrittenScopes.{raised, set_agree, new_agree, bound_agree, BodiesGrow, writes_grow}
use Rattle.core_lang.proofs.WrittenScopes.{row_grows, all_grow, helpers_grow}
use Rattle.core_lang.specs.Theory.Items.{not_in_none, in_cases, get_some}

-- ---- flows

after_go : (flow : Flow) → after flow (λ s. GoesOn s) ≡ flow
after_go (GoesOn s) = refl
after_go (Traps t s) = refl
after_go Beyond = refl
after_go Astray = refl

after_after : (flow : Flow) (f g : State → Flow) → after (after flow f) g ≡ after flow (λ s. after (f s) g)
after_after (GoesOn s) f g = refl
after_after (Traps t s) f g = refl
after_after Beyond f g = refl
after_after Astray f g = refl

sequence_append : (xs ys : List Stmt) (shape : Shape) (n : ℕ) (s : State) →
    sequence (xs ++ ys) shape n s ≡ after (sequence xs shape n s) (sequence ys shape n)
sequence_append [] ys shape n s = refl
sequence_append (x ∷ xs) ys shape n s =
    after-same (effect_of x.action shape n s) (sequence (xs ++ ys) shape n) (λ t. after (sequence xs shape n t) (sequence ys shape n)) (λ t. sequence_append xs ys shape n t)
    ∙ sym (after_after (effect_of x.action shape n s) (sequence xs shape n) (sequence ys shape n))

stored_there : (k : ℕ) (v old : Value) (s : State) → slice_get s.locals k ≡ Some old →
    stored k v s ≡ GoesOn (record s { locals = slice_set s.locals k v })
stored_there k v old s e = ap (λ (o : Option Value). given (found o) s (λ _. GoesOn (record s { locals = slice_set s.locals k v }))) e

-- ---- what the written tree keeps

-- the locals below a number, and how many there are
abbrev Keeps : ℕ → State → Flow → Type 0
Keeps first t (GoesOn u) = ((j : ℕ) → j < first → slice_get u.locals j ≡ slice_get t.locals j) × (length u.locals ≡ length t.locals)
Keeps first t (Traps c u) = ⊤
Keeps first t Beyond = ⊤
Keeps first t Astray = ⊤

-- values in locals that follow one another
abbrev Placed : List Value → ℕ → List Value → Type 0
Placed locals first [] = ⊤
Placed locals first (v ∷ vs) = (slice_get locals first ≡ Some v) × Placed locals (first + 1) vs

-- the expanded body of a helper ends as the helper does
abbrev BodiesMean : Shape → ℕ → Helpers → Bodies → Type 0
BodiesMean shape' n call Body =
    (helper count first : ℕ) (body : List Stmt) (r : Option Return) (fresh : ℕ) → Body helper count first body r fresh → (vs : List Value) (t : State) → length vs ≡ count →
    Placed t.locals first vs → fresh ≤ length t.locals →
    (call helper vs t.heap t.prints ≡ concluded r shape' (sequence body shape' n t)) × Keeps first t (sequence body shape' n t)

module _ (shape shape' : Shape) (same : HasSamePlaces shape shape') (n : ℕ) (call : Helpers) (Body : Bodies) (bodies : BodiesGrow Body) (mean : BodiesMean shape' n call Body)
    (first : ℕ) (base : List Value) (many many' : ℕ) where
  -- a state of the tree and one of the written tree
  record Linked (scope : List Pair) (s s' : State) : Type 0 where
    heap : s'.heap ≡ s.heap
    prints : s'.prints ≡ s.prints
    locals : Agree scope s.locals s'.locals
    own_count : length s.locals ≡ many
    count : length s'.locals ≡ many'
    kept : (j : ℕ) → j < first → slice_get s'.locals j ≡ slice_get base j

  abbrev LinkedFlow : List Pair → Flow → Flow → Type 0
  LinkedFlow scope (GoesOn s) (GoesOn s') = Linked scope s s'
  LinkedFlow scope (Traps t s) (Traps t' s') = (t' ≡ t) × (s'.heap ≡ s.heap) × (s'.prints ≡ s.prints)
  LinkedFlow scope Beyond Beyond = ⊤
  LinkedFlow scope Astray Astray = ⊤
  LinkedFlow scope _ _ = ⊥

  both : (scope : List Pair) (f g f' g' : Flow) → f ≡ g → f' ≡ g' → LinkedFlow scope g g' → LinkedFlow scope f f'
  both scope f g f' g' e e' h = subst (λ z. LinkedFlow scope z f') (sym e) (subst (LinkedFlow scope g) (sym e') h)

  given_one : {A : Type 0} (scope : List Pair) (r : Result A Failure) (s s' : State) (f f' : A → Flow) →
      s'.heap ≡ s.heap → s'.prints ≡ s.prints →
      ((a : A) → LinkedFlow scope (f a) (f' a)) → LinkedFlow scope (given r s f) (given r s' f')
  given_one scope (Ok a) s s' f f' e p h = h a
  given_one scope (Err (Trap t)) s s' f f' e p h = (refl, e, p)
  given_one scope (Err Wrong) s s' f f' e p h = tt

  given_linked : {A : Type 0} (scope old : List Pair) (r r' : Result A Failure) (s s' : State) (f f' : A → Flow) →
      r' ≡ r → Linked old s s' →
      ((a : A) → LinkedFlow scope (f a) (f' a)) → LinkedFlow scope (given r s f) (given r' s' f')
  given_linked scope old r r' s s' f f' e l h = subst (λ z. LinkedFlow scope (given r s f) (given z s' f')) (sym e) (given_one scope r s s' f f' l.heap l.prints h)

  after_linked : (scope old : List Pair) (f f' : Flow) (g g' : State → Flow) → LinkedFlow old f f' →
      ((s s' : State) → Linked old s s' → LinkedFlow scope (g s) (g' s')) →
      LinkedFlow scope (after f g) (after f' g')
  after_linked scope old (GoesOn s) (GoesOn s') g g' l h = h s s' l
  after_linked scope old (Traps t s) (Traps t' s') g g' l h = l
  after_linked scope old Beyond Beyond g g' l h = tt
  after_linked scope old Astray Astray g g' l h = tt
  after_linked scope old _ _ g g' l h = absurd l

  choose_linked : (scope : List Pair) (b : Bool) (f f' g g' : Flow) → LinkedFlow scope f f' → LinkedFlow scope g g' →
      LinkedFlow scope (choose b f g) (choose b f' g')
  choose_linked scope true f f' g g' l m = l
  choose_linked scope false f f' g g' l m = m

  weaker : (scope old : List Pair) (s s' : State) → ((p : Pair) → Contains scope p → Contains old p) →
      Linked old s s' → Linked scope s s'
  weaker scope old s s' sub l =
      record { heap = l.heap; prints = l.prints; locals = λ a b c. l.locals a b (sub (pair a b) c); own_count = l.own_count; count = l.count; kept = l.kept }

  weaker_flow : (scope old : List Pair) (f f' : Flow) → ((p : Pair) → Contains scope p → Contains old p) →
      LinkedFlow old f f' → LinkedFlow scope f f'
  weaker_flow scope old (GoesOn s) (GoesOn s') sub l = weaker scope old s s' sub l
  weaker_flow scope old (Traps t s) (Traps t' s') sub l = l
  weaker_flow scope old Beyond Beyond sub l = tt
  weaker_flow scope old Astray Astray sub l = tt
  weaker_flow scope old _ _ sub l = absurd l

  turns_linked : (scope : List Pair) (k : ℕ) (test test' : State → Result Bool Failure) (f f' : State → Flow) →
      ((s s' : State) → Linked scope s s' → test' s' ≡ test s) →
      ((s s' : State) → Linked scope s s' → LinkedFlow scope (f s) (f' s')) → (s s' : State) → Linked scope s s' → LinkedFlow scope (turns k test f s) (turns k test' f' s')
  turns_linked scope zero test test' f f' t h s s' l =
      given_linked scope scope (test s) (test' s') s s' _ _ (t s s' l) l (λ b. choose_linked scope b Beyond Beyond (GoesOn s) (GoesOn s') tt l)
  turns_linked scope (suc k) test test' f f' t h s s' l =
      given_linked scope scope (test s) (test' s') s s' _ _ (t s s' l) l
      (λ b. choose_linked scope b (after (f s) (turns k test f)) (after (f' s') (turns k test' f')) (GoesOn s) (GoesOn s')
      (after_linked scope scope (f s) (f' s') (turns k test f) (turns k test' f') (h s s' l) (turns_linked scope k test test' f f' t h)) l)

  -- ---- single statements

  values : (scope : List Pair) (s s' : State) (e e' : Expr) → Linked scope s s' → Renames scope e e' →
      value_of e' shape' s'.locals s'.heap ≡ value_of e shape s.locals s.heap
  values scope s s' e e' l r = ap (value_of e' shape' s'.locals) l.heap ∙ value_same shape shape' same scope s.locals s'.locals s.heap l.locals e e' r

  tests : (scope : List Pair) (s s' : State) (c c' : Condition) → Linked scope s s' → RenamesTest scope c c' →
      truth_of c' shape' s'.locals s'.heap ≡ truth_of c shape s.locals s.heap
  tests scope s s' c c' l r = ap (truth_of c' shape' s'.locals) l.heap ∙ truth_same shape shape' same scope s.locals s'.locals s.heap l.locals c c' r

  written_linked : (scope : List Pair) (cell : ℕ) (v : Value) (s s' : State) → Linked scope s s' →
      LinkedFlow scope (written cell v s) (written cell v s')
  written_linked scope cell v s s' l =
      given_linked scope scope (read s.heap cell) (read s'.heap cell) s s' _ _ (ap (λ h. read h cell) l.heap) l
      (λ _. record { heap = ap (λ h. slice_set h cell v) l.heap; prints = l.prints; locals = l.locals; own_count = l.own_count; count = l.count; kept = l.kept })

  printed_if : (scope : List Pair) (b : Bool) (z : ℤ) (s s' : State) → Linked scope s s' →
      LinkedFlow scope (if b then GoesOn (record s { prints = s.prints ++ z ∷ [] }) else Traps TooManyPrints s) (if b then GoesOn (record s' { prints = s'.prints ++ z ∷ [] }) else Traps TooManyPrints s')
  printed_if scope true z s s' l =
      record { heap = l.heap; prints = ap (λ p. p ++ z ∷ []) l.prints; locals = l.locals; own_count = l.own_count; count = l.count; kept = l.kept }
  printed_if scope false z s s' l = (refl, l.heap, l.prints)

  printed_linked : (scope : List Pair) (v : Value) (s s' : State) → Linked scope s s' →
      LinkedFlow scope (printed v s) (printed v s')
  printed_linked scope (Int z) s s' l =
      subst (λ b. LinkedFlow scope (printed (Int z) s) (if b then GoesOn (record s' { prints = s'.prints ++ z ∷ [] }) else Traps TooManyPrints s'))
      (sym (ap (λ (p : List ℤ). nat_lt (length p) 256) l.prints)) (printed_if scope (nat_lt (length s.prints) 256) z s s' l)
  printed_linked scope (Ref r) s s' l = tt

  -- a local in scope is assigned to
  assigned_linked : (a : At) (k k' : ℕ) (v : Value) (s s' : State) → Ordered first a.own a.fresh a.scope →
      Contains a.scope (pair k k') → Linked a.scope s s' →
      LinkedFlow a.scope (stored k v s) (stored k' v s')
  assigned_linked a k k' v s s' o c l =
      let x = l.locals k k' c in
      let low = all_below first a.own a.fresh a.scope k k' o c in
      both a.scope (stored k v s) (GoesOn (record s { locals = slice_set s.locals k v })) (stored k' v s') (GoesOn (record s' { locals = slice_set s'.locals k' v }))
      (stored_there k v x.0 s x.1) (stored_there k' v x.0 s' x.2)
      (record {
        heap = l.heap;
        prints = l.prints;
        locals = set_agree first a.own a.fresh a.scope s.locals s'.locals k k' v o c l.locals;
        own_count = length_set s.locals k v ∙ l.own_count;
        count = length_set s'.locals k' v ∙ l.count;
        kept = λ j lt. get_set_other s'.locals k' j v (λ e. omega (arith, e, lt, low.2)) ∙ l.kept j lt;
      })

  -- a new local is bound
  bound_linked : (a : At) (v : Value) (s s' : State) → Ordered first a.own a.fresh a.scope → a.own < many →
      a.fresh < many' → Linked a.scope s s' →
      LinkedFlow (pair a.own a.fresh ∷ a.scope) (stored a.own v s) (stored a.fresh v s')
  bound_linked a v s s' o lt lt' l =
      let at : a.own < length s.locals = let c = l.own_count in omega (arith, c, lt) in
      let at' : a.fresh < length s'.locals = let c = l.count in omega (arith, c, lt') in
      let x = get_some s.locals a.own at in
      let x' = get_some s'.locals a.fresh at' in
      let low = first_below first a.own a.fresh a.scope o in
      both (pair a.own a.fresh ∷ a.scope) (stored a.own v s) (GoesOn (record s { locals = slice_set s.locals a.own v }))
      (stored a.fresh v s') (GoesOn (record s' { locals = slice_set s'.locals a.fresh v })) (stored_there a.own v x.0 s x.1) (stored_there a.fresh v x'.0 s' x'.1)
      (record {
        heap = l.heap;
        prints = l.prints;
        locals = bound_agree first a.own a.fresh a.scope s.locals s'.locals v o at at' l.locals;
        own_count = length_set s.locals a.own v ∙ l.own_count;
        count = length_set s'.locals a.fresh v ∙ l.count;
        kept = λ j lt. get_set_other s'.locals a.fresh j v (λ e. omega (arith, e, lt, low)) ∙ l.kept j lt;
      })

  -- a statement that is written as one statement
  arrives : (flow : Flow) (s' : State) (start : ℕ) (x' : Action) (ys : List Stmt) (b c : At) → ys ≡ one start x' →
      b ≡ c → LinkedFlow c.scope flow (effect_of x' shape' n s') →
      LinkedFlow b.scope flow (sequence ys shape' n s')
  arrives flow s' start x' ys b c e f h =
      subst (λ (z : At). LinkedFlow z.scope flow (sequence ys shape' n s')) (sym f)
      (subst (λ zs. LinkedFlow c.scope flow (sequence zs shape' n s')) (sym e) (subst (LinkedFlow c.scope flow) (sym (after_go (effect_of x' shape' n s'))) h))

  -- ---- calls

  -- arguments, and the `let`s of them
  abbrev ArgumentsLinked : ℕ → ℕ → State → Result (List Value) Failure → Flow → Type 0
  ArgumentsLinked fresh count s' (Ok vs) (GoesOn t) =
      (t.heap ≡ s'.heap) × (t.prints ≡ s'.prints) × (length t.locals ≡ length s'.locals) × ((j : ℕ) → j < fresh → slice_get t.locals j ≡ slice_get s'.locals j) ×
      Placed t.locals fresh vs × (length vs ≡ count)
  ArgumentsLinked fresh count s' (Err (Trap c)) (Traps c' t) = (c' ≡ c) × (t.heap ≡ s'.heap) × (t.prints ≡ s'.prints)
  ArgumentsLinked fresh count s' (Err Wrong) Astray = ⊤
  ArgumentsLinked fresh count s' _ _ = ⊥

  one_argument : (fresh count : ℕ) (v : Value) (s' : State) (q : Result (List Value) Failure) (flow : Flow) →
      fresh < length s'.locals →
      ArgumentsLinked (fresh + 1) count (record s' { locals = slice_set s'.locals fresh v }) q flow → ArgumentsLinked fresh (suc count) s' (with q (λ vs. Ok (v ∷ vs))) flow
  one_argument fresh count v s' (Ok vs) (GoesOn t) lt (h, p, c, k, placed, e) = (
    h,
    p,
    c ∙ length_set s'.locals fresh v,
    λ j less. k j (omega (arith, less)) ∙ get_set_other s'.locals fresh j v (λ e. omega (arith, e, less)),
    (k fresh (omega arith) ∙ get_set_same s'.locals fresh v lt, placed),
    ap suc e,
  )
  one_argument fresh count v s' (Err (Trap c)) (Traps c' t) lt l = l
  one_argument fresh count v s' (Err Wrong) Astray lt l = tt
  one_argument fresh count v s' _ _ lt l = absurd l

  argument_on : (q : Result Value Failure) (scope : List Pair) (own : ℕ) (es : List Expr) (fresh : ℕ) (rest : List Stmt) (s s' : State) → Ordered first own fresh scope →
      fresh < many' → Linked scope s s' →
      ((next : State) → Linked scope s next → ArgumentsLinked (fresh + 1) (length es) next (values_of es shape s.locals s.heap) (sequence rest shape' n next)) →
      ArgumentsLinked fresh (suc (length es)) s' (with q (λ v. with (values_of es shape s.locals s.heap) (λ vs. Ok (v ∷ vs))))
      (after (given q s' (λ v. stored fresh v s')) (sequence rest shape' n))
  argument_on (Ok v) scope own es fresh rest s s' o lt l ih =
      let at : fresh < length s'.locals = let c = l.count in omega (arith, c, lt) in
      let old = get_some s'.locals fresh at in
      let low = first_below first own fresh scope o in
      let next : State = record s' { locals = slice_set s'.locals fresh v } in
      let linked : Linked scope s next =
      record {
        heap = l.heap;
        prints = l.prints;
        locals = new_agree first own fresh scope s.locals s'.locals fresh v o (omega arith) l.locals;
        own_count = l.own_count;
        count = length_set s'.locals fresh v ∙ l.count;
        kept = λ j less. get_set_other s'.locals fresh j v (λ x. omega (arith, x, less, low)) ∙ l.kept j less;
      } in
      subst (λ f. ArgumentsLinked fresh (suc (length es)) s' (with (values_of es shape s.locals s.heap) (λ vs. Ok (v ∷ vs))) (after f (sequence rest shape' n)))
      (sym (stored_there fresh v old.0 s' old.1))
      (one_argument fresh (length es) v s' (values_of es shape s.locals s.heap) (sequence rest shape' n next) at (ih next linked))
  argument_on (Err (Trap t)) scope own es fresh rest s s' o lt l ih = (refl, refl, refl)
  argument_on (Err Wrong) scope own es fresh rest s s' o lt l ih = tt

  arguments_linked : (start : ℕ) (scope : List Pair) (own : ℕ) (es : List Expr) (fresh : ℕ) (lets : List Stmt) (s s' : State) → Arguments start scope es fresh lets →
      Ordered first own fresh scope → fresh + length es ≤ many' → Linked scope s s' →
      ArgumentsLinked fresh (length es) s' (values_of es shape s.locals s.heap) (sequence lets shape' n s')
  arguments_linked start scope own [] fresh lets s s' w o le l =
      subst (λ zs. ArgumentsLinked fresh 0 s' (Ok []) (sequence zs shape' n s')) (sym w) (refl, refl, refl, λ j lt. refl, tt, refl)
  arguments_linked start scope own (e ∷ es) fresh lets s s' (e', rest, r, w, ws) o le l =
      subst (λ zs. ArgumentsLinked fresh (suc (length es)) s' (values_of (e ∷ es) shape s.locals s.heap) (sequence zs shape' n s')) (sym w)
      (subst (λ q. ArgumentsLinked fresh (suc (length es)) s' (values_of (e ∷ es) shape s.locals s.heap) (after (given q s' (λ v. stored fresh v s')) (sequence rest shape' n)))
      (sym (values scope s s' e e' l r))
      (argument_on (value_of e shape s.locals s.heap) scope own es fresh rest s s' o (omega (arith, le)) l
      (λ next linked. arguments_linked start scope own es (fresh + 1) rest s next ws (raised first own fresh own (fresh + 1) scope (omega arith) (omega arith) o) (omega (arith, le)) linked)))

  -- the state after a call: the caller's locals, with the heap and the prints of the written tree
  abbrev returns_to : State → State → State
  returns_to s u = record s { heap = u.heap; prints = u.prints }

  result_on : (q : Result Value Failure) (a b : At) (result : Option ℕ) (r : Return) (fresh : ℕ) (last : List Stmt) (s u : State) → Bound result (Some r) a fresh last b →
      Ordered first a.own fresh a.scope → b.own ≤ many → b.fresh ≤ many' → Linked a.scope (returns_to s u) u →
      LinkedFlow b.scope (back (returned q u) result s) (given q u (λ v. stored fresh v u))
  result_on (Ok v) a b None r fresh last s u w o le le' l =
      let lt : fresh < many' = let e = ap (λ (z : At). z.fresh) w.1 in omega (arith, e, le') in
      let at : fresh < length u.locals = let c = l.count in omega (arith, c, lt) in
      let old = get_some u.locals fresh at in
      let low = first_below first a.own fresh a.scope o in
      subst (λ (z : At). LinkedFlow z.scope (GoesOn (returns_to s u)) (stored fresh v u)) (sym w.1)
      (subst (LinkedFlow a.scope (GoesOn (returns_to s u))) (sym (stored_there fresh v old.0 u old.1))
      (record {
        heap = refl;
        prints = refl;
        locals = new_agree first a.own fresh a.scope s.locals u.locals fresh v o (omega arith) l.locals;
        own_count = l.own_count;
        count = length_set u.locals fresh v ∙ l.count;
        kept = λ j less. get_set_other u.locals fresh j v (λ x. omega (arith, x, less, low)) ∙ l.kept j less;
      }))
  result_on (Ok v) a b (Some k) r fresh last s u w o le le' l =
      let c : At = record a { fresh = fresh } in
      let lt : a.own < many = let e = ap (λ (z : At). z.own) w.2 in omega (arith, e, le) in
      let lt' : fresh < many' = let e = ap (λ (z : At). z.fresh) w.2 in omega (arith, e, le') in
      subst (λ (z : At). LinkedFlow z.scope (stored k v (returns_to s u)) (stored fresh v u)) (sym w.2)
      (subst (λ j. LinkedFlow (pair a.own fresh ∷ a.scope) (stored j v (returns_to s u)) (stored fresh v u)) (sym w.0)
      (bound_linked c v (returns_to s u) u o lt lt' l))
  result_on (Err (Trap t)) a b result r fresh last s u w o le le' l = (refl, refl, refl)
  result_on (Err Wrong) a b result r fresh last s u w o le le' l = tt

  ended_linked : (a b : At) (result : Option ℕ) (r : Option Return) (fresh : ℕ) (last : List Stmt) (s u : State) →
      Bound result r a fresh last b →
      Ordered first a.own fresh a.scope → b.own ≤ many → b.fresh ≤ many' → Linked a.scope (returns_to s u) u →
      LinkedFlow b.scope (back (ending r shape' u) result s) (sequence last shape' n u)
  ended_linked a b None None fresh last s u w o le le' l =
      subst (λ (z : At). LinkedFlow z.scope (GoesOn (returns_to s u)) (sequence last shape' n u)) (sym w.1)
      (subst (λ zs. LinkedFlow a.scope (GoesOn (returns_to s u)) (sequence zs shape' n u)) (sym w.0) l)
  ended_linked a b (Some k) None fresh last s u w o le le' l = absurd w
  ended_linked a b None (Some r) fresh last s u w o le le' l =
      arrives (back (ending (Some r) shape' u) None s) u r.start (Bind fresh r.value) last b b w.0 refl
      (result_on (value_of r.value shape' u.locals u.heap) a b None r fresh last s u w o le le' l)
  ended_linked a b (Some k) (Some r) fresh last s u w o le le' l =
      arrives (back (ending (Some r) shape' u) (Some k) s) u r.start (Bind fresh r.value) last b b w.1 refl
      (result_on (value_of r.value shape' u.locals u.heap) a b (Some k) r fresh last s u w o le le' l)

  back_linked : (a b : At) (result : Option ℕ) (r : Option Return) (fresh : ℕ) (last : List Stmt) (s s' t : State) (flow : Flow) → Bound result r a fresh last b →
      Ordered first a.own a.fresh a.scope → a.fresh ≤ fresh → b.own ≤ many → b.fresh ≤ many' → Linked a.scope s s' → length t.locals ≡ length s'.locals →
      ((j : ℕ) → j < a.fresh → slice_get t.locals j ≡ slice_get s'.locals j) → Keeps a.fresh t flow →
      LinkedFlow b.scope (back (concluded r shape' flow) result s) (after flow (sequence last shape' n))
  back_linked a b result r fresh last s s' t (GoesOn u) w o more le le' l count same_below keeps =
      let stays : (j : ℕ) → j < a.fresh → slice_get u.locals j ≡ slice_get s'.locals j = λ j lt. keeps.0 j lt ∙ same_below j lt in
      let low = first_below first a.own a.fresh a.scope o in
      ended_linked a b result r fresh last s u w (raised first a.own a.fresh a.own fresh a.scope (omega arith) more o) le le'
      (record {
        heap = refl;
        prints = refl;
        locals = λ x y c. let old = l.locals x y c in let below = all_below first a.own a.fresh a.scope x y o c in (old.0, old.1, stays y below.1 ∙ old.2);
        own_count = l.own_count;
        count = keeps.1 ∙ count ∙ l.count;
        kept = λ j lt. stays j (omega (arith, lt, low)) ∙ l.kept j lt;
      })
  back_linked a b result r fresh last s s' t (Traps c u) w o more le le' l count same_below keeps = (refl, refl, refl)
  back_linked a b result r fresh last s s' t Beyond w o more le le' l count same_below keeps = tt
  back_linked a b result r fresh last s s' t Astray w o more le le' l count same_below keeps = tt

  call_on : (q : Result (List Value) Failure) (flow : Flow) (helper count : ℕ) (a b : At) (result : Option ℕ) (r : Option Return) (fresh : ℕ) (body last : List Stmt) (s s' : State) →
      ArgumentsLinked a.fresh count s' q flow → Body helper count a.fresh body r fresh → Bound result r a fresh last b → Ordered first a.own a.fresh a.scope → b.own ≤ many →
      b.fresh ≤ many' → fresh ≤ many' → Linked a.scope s s' →
      LinkedFlow b.scope (given q s (λ vs. back (call helper vs s.heap s.prints) result s)) (after flow (λ t. after (sequence body shape' n t) (sequence last shape' n)))
  call_on (Ok vs) (GoesOn t) helper count a b result r fresh body last s s' (h, p, c, k, placed, e) inside w o le le' few l =
      let within : fresh ≤ length t.locals = let x = l.count in omega (arith, c, x, few) in
      let m = mean helper count a.fresh body r fresh inside vs t e placed within in
      let more = bodies helper count a.fresh body r fresh inside in
      let run : call helper vs s.heap s.prints ≡ concluded r shape' (sequence body shape' n t) =
      ap (λ z. call helper vs z s.prints) (sym (h ∙ l.heap)) ∙ ap (call helper vs t.heap) (sym (p ∙ l.prints)) ∙ m.0 in
      subst (λ z. LinkedFlow b.scope (back z result s) (after (sequence body shape' n t) (sequence last shape' n))) (sym run)
      (back_linked a b result r fresh last s s' t (sequence body shape' n t) w o (omega (arith, more)) le le' l c k m.1)
  call_on (Err (Trap x)) (Traps x' t) helper count a b result r fresh body last s s' (e, h, p) inside w o le le' few l = (e, h ∙ l.heap, p ∙ l.prints)
  call_on (Err Wrong) Astray helper count a b result r fresh body last s s' g inside w o le le' few l = tt
  call_on _ _ helper count a b result r fresh body last s s' g inside w o le le' few l = absurd g

  fresh_within : (result : Option ℕ) (r : Option Return) (a b : At) (fresh : ℕ) (last : List Stmt) →
      Bound result r a fresh last b → fresh ≤ b.fresh
  fresh_within None None a b fresh last w = let e = ap (λ (z : At). z.fresh) w.1 in omega (arith, e)
  fresh_within None (Some r) a b fresh last w = let e = ap (λ (z : At). z.fresh) w.1 in omega (arith, e)
  fresh_within (Some k) None a b fresh last w = absurd w
  fresh_within (Some k) (Some r) a b fresh last w = let e = ap (λ (z : At). z.fresh) w.2 in omega (arith, e)

  -- ---- statements

  mutual
    action_linked : (x : Action) (start : ℕ) (a b : At) (ys : List Stmt) (s s' : State) → Writes Body x start a ys b →
        Ordered first a.own a.fresh a.scope → b.own ≤ many →
        b.fresh ≤ many' → Linked a.scope s s' → LinkedFlow b.scope (effect_by call x shape n s) (sequence ys shape' n s')
    action_linked (Bind k e) start a b ys s s' (e', r, same_k, w, f) o le le' l =
        let lt : a.own < many = let z = ap (λ (z : At). z.own) f in omega (arith, z, le) in
        let lt' : a.fresh < many' = let z = ap (λ (z : At). z.fresh) f in omega (arith, z, le') in
        arrives (effect_by call (Bind k e) shape n s) s' start (Bind a.fresh e') ys b (behind_bound a) w f
        (given_linked (pair a.own a.fresh ∷ a.scope) a.scope (value_of e shape s.locals s.heap) (value_of e' shape' s'.locals s'.heap) s s' _ _ (values a.scope s s' e e' l r) l
        (λ v. subst (λ j. LinkedFlow (pair a.own a.fresh ∷ a.scope) (stored j v s) (stored a.fresh v s')) (sym same_k) (bound_linked a v s s' o lt lt' l)))
    action_linked (SetLocal k e) start a b ys s s' (k', e', c, r, w, f) o le le' l =
        arrives (effect_by call (SetLocal k e) shape n s) s' start (SetLocal k' e') ys b a w f
        (given_linked a.scope a.scope (value_of e shape s.locals s.heap) (value_of e' shape' s'.locals s'.heap) s s' _ _ (values a.scope s s' e e' l r) l
        (λ v. assigned_linked a k k' v s s' o c l))
    action_linked (SetGlobal cell e) start a b ys s s' (e', r, w, f) o le le' l =
        arrives (effect_by call (SetGlobal cell e) shape n s) s' start (SetGlobal cell e') ys b a w f
        (given_linked a.scope a.scope (value_of e shape s.locals s.heap) (value_of e' shape' s'.locals s'.heap) s s' _ _ (values a.scope s s' e e' l r) l
        (λ v. written_linked a.scope cell v s s' l))
    action_linked (SetElement array i e) start a b ys s s' (i', e', ri, r, w, f) o le le' l =
        arrives (effect_by call (SetElement array i e) shape n s) s' start (SetElement array i' e') ys b a w f
        (given_linked a.scope a.scope (value_of i shape s.locals s.heap) (value_of i' shape' s'.locals s'.heap) s s' _ _ (values a.scope s s' i i' l ri) l
        (λ v. given_linked a.scope a.scope (element_cell shape array v) (element_cell shape' array v) s s' _ _ (element_same shape shape' same array v) l
        (λ cell. given_linked a.scope a.scope (value_of e shape s.locals s.heap) (value_of e' shape' s'.locals s'.heap) s s' _ _ (values a.scope s s' e e' l r) l
        (λ w'. written_linked a.scope cell w' s s' l))))
    action_linked (SetField p k g e) start a b ys s s' (p', e', rp, r, w, f) o le le' l =
        let places : place_of p' shape' s'.locals s'.heap ≡ place_of p shape s.locals s.heap =
        ap (place_of p' shape' s'.locals) l.heap ∙ place_same shape shape' same a.scope s.locals s'.locals s.heap l.locals p p' rp in
        arrives (effect_by call (SetField p k g e) shape n s) s' start (SetField p' k g e') ys b a w f
        (given_linked a.scope a.scope (with (place_of p shape s.locals s.heap) not_null) (with (place_of p' shape' s'.locals s'.heap) not_null) s s' _ _
        (ap (λ z. with z not_null) places) l
        (λ v. given_linked a.scope a.scope (value_of e shape s.locals s.heap) (value_of e' shape' s'.locals s'.heap) s s' _ _ (values a.scope s s' e e' l r) l
        (λ w'. given_linked a.scope a.scope (field_cell shape v g) (field_cell shape' v g) s s' _ _ (cell_same shape shape' same v g) l
        (λ cell. written_linked a.scope cell w' s s' l))))
    action_linked (Call k es result) start a b ys s s' (lets, body, last, r, fresh, args, inside, w, e) o le le' l =
        let few = fresh_within result r a b fresh last w in
        let more = bodies k (length es.items) a.fresh body r fresh inside in
        let together : sequence ys shape' n s' ≡ after (sequence lets shape' n s') (λ t. after (sequence body shape' n t) (sequence last shape' n)) =
        ap (λ zs. sequence zs shape' n s') e ∙ sequence_append lets (body ++ last) shape' n s'
        ∙ after-same (sequence lets shape' n s') (sequence (body ++ last) shape' n) (λ t. after (sequence body shape' n t) (sequence last shape' n))
        (λ t. sequence_append body last shape' n t) in
        subst (LinkedFlow b.scope (effect_by call (Call k es result) shape n s)) (sym together)
        (call_on (values_of es.items shape s.locals s.heap) (sequence lets shape' n s') k (length es.items) a b result r fresh body last s s'
        (arguments_linked start a.scope a.own es.items a.fresh lets s s' args o (omega (arith, more, few, le')) l) inside w o le le' (omega (arith, few, le')) l)
    action_linked (Print e) start a b ys s s' (e', r, w, f) o le le' l =
        arrives (effect_by call (Print e) shape n s) s' start (Print e') ys b a w f
        (given_linked a.scope a.scope (value_of e shape s.locals s.heap) (value_of e' shape' s'.locals s'.heap) s s' _ _ (values a.scope s s' e e' l r) l
        (λ v. printed_linked a.scope v s s' l))
    action_linked (If' c m block) start a b ys s s' (c', block', middle, r, w, e, f) o le le' l =
        let g = row_grows Body bodies first block a middle block'.items w in
        let own = ap (λ (z : At). z.own) f in
        let fresh = ap (λ (z : At). z.fresh) f in
        arrives (effect_by call (If' c m block) shape n s) s' start (If c' block') ys b (behind_block a middle) e f
        (subst (LinkedFlow a.scope (effect_by call (If' c m block) shape n s)) (sym (effect_of-If c' block' shape' n s'))
        (given_linked a.scope a.scope (truth_of c shape s.locals s.heap) (truth_of c' shape' s'.locals s'.heap) s s' _ _ (tests a.scope s s' c c' l r) l
        (λ t. choose_linked a.scope t (effects_by call block shape n s) (sequence block'.items shape' n s') (GoesOn s) (GoesOn s')
        (weaker_flow a.scope middle.scope (effects_by call block shape n s) (sequence block'.items shape' n s') g.scope
        (row_linked block a middle block'.items s s' w o (omega (arith, own, le)) (omega (arith, fresh, le')) l)) l)))
    action_linked (IfElse' c m block k otherwise) start a b ys s s' (c', block', otherwise', middle, last, r, w, w', e, f) o le le' l =
        let g = row_grows Body bodies first block a middle block'.items w in
        let h = row_grows Body bodies first otherwise (behind_block a middle) last otherwise'.items w' in
        let own = ap (λ (z : At). z.own) f in
        let fresh = ap (λ (z : At). z.fresh) f in
        let own_less = h.own in
        let fresh_less = h.fresh in
        let o' : Ordered first middle.own middle.fresh a.scope = raised first a.own a.fresh middle.own middle.fresh a.scope g.own g.fresh o in
        arrives (effect_by call (IfElse' c m block k otherwise) shape n s) s' start (IfElse c' block' otherwise') ys b (behind_block a last) e f
        (subst (LinkedFlow a.scope (effect_by call (IfElse' c m block k otherwise) shape n s)) (sym (effect_of-IfElse c' block' otherwise' shape' n s'))
        (given_linked a.scope a.scope (truth_of c shape s.locals s.heap) (truth_of c' shape' s'.locals s'.heap) s s' _ _ (tests a.scope s s' c c' l r) l
        (λ t. choose_linked a.scope t (effects_by call block shape n s) (sequence block'.items shape' n s') (effects_by call otherwise shape n s) (sequence otherwise'.items shape' n s')
        (weaker_flow a.scope middle.scope (effects_by call block shape n s) (sequence block'.items shape' n s') g.scope
        (row_linked block a middle block'.items s s' w o (omega (arith, own, own_less, le)) (omega (arith, fresh, fresh_less, le')) l))
        (weaker_flow a.scope last.scope (effects_by call otherwise shape n s) (sequence otherwise'.items shape' n s') h.scope
        (row_linked otherwise (behind_block a middle) last otherwise'.items s s' w' o' (omega (arith, own, le)) (omega (arith, fresh, le')) l)))))
    action_linked (While' c m body) start a b ys s s' (c', body', middle, r, w, e, f) o le le' l =
        let g = row_grows Body bodies first body a middle body'.items w in
        let own = ap (λ (z : At). z.own) f in
        let fresh = ap (λ (z : At). z.fresh) f in
        arrives (effect_by call (While' c m body) shape n s) s' start (While c' body') ys b (behind_block a middle) e f
        (subst (LinkedFlow a.scope (effect_by call (While' c m body) shape n s)) (sym (effect_of-While c' body' shape' n s'))
        (turns_linked a.scope n (λ s. truth_of c shape s.locals s.heap) (λ s. truth_of c' shape' s.locals s.heap) (effects_by call body shape n) (sequence body'.items shape' n)
        (λ u u' lu. tests a.scope u u' c c' lu r)
        (λ u u' lu. weaker_flow a.scope middle.scope (effects_by call body shape n u) (sequence body'.items shape' n u') g.scope
        (row_linked body a middle body'.items u u' w o (omega (arith, own, le)) (omega (arith, fresh, le')) lu)) s s' l))

    row_linked : {m : _} (row : Row_of-Stmt m) (a b : At) (ys : List Stmt) (s s' : State) →
        WritesRow Body row a ys b → Ordered first a.own a.fresh a.scope → b.own ≤ many →
        b.fresh ≤ many' → Linked a.scope s s' → LinkedFlow b.scope (effects_by call row shape n s) (sequence ys shape' n s')
    row_linked end_of-Stmt a b ys s s' (e, f) o le le' l =
        subst (λ (z : At). LinkedFlow z.scope (GoesOn s) (sequence ys shape' n s')) (sym f) (subst (λ zs. LinkedFlow a.scope (GoesOn s) (sequence zs shape' n s')) (sym e) l)
    row_linked (more_of-Stmt start x rest) a b ys s s' (front, rear, middle, w, ws, e) o le le' l =
        let g = writes_grow Body bodies first x start a middle front w in
        let h = row_grows Body bodies first rest middle b rear ws in
        let own = h.own in
        let fresh = h.fresh in
        subst (LinkedFlow b.scope (effects_by call (more_of-Stmt start x rest) shape n s)) (sym (ap (λ zs. sequence zs shape' n s') e ∙ sequence_append front rear shape' n s'))
        (after_linked b.scope middle.scope (effect_by call x shape n s) (sequence front shape' n s') (effects_by call rest shape n) (sequence rear shape' n)
        (action_linked x start a middle front s s' w o (omega (arith, own, le)) (omega (arith, fresh, le')) l)
        (λ u u' lu. row_linked rest middle b rear u u' ws (g.ordered o) le le' lu))

  all_linked : (xs : List Stmt) (a b : At) (ys : List Stmt) (s s' : State) → WritesAll Body xs a ys b →
      Ordered first a.own a.fresh a.scope → b.own ≤ many →
      b.fresh ≤ many' → Linked a.scope s s' → LinkedFlow b.scope (sequence_by call xs shape n s) (sequence ys shape' n s')
  all_linked [] a b ys s s' (e, f) o le le' l =
      subst (λ (z : At). LinkedFlow z.scope (GoesOn s) (sequence ys shape' n s')) (sym f) (subst (λ zs. LinkedFlow a.scope (GoesOn s) (sequence zs shape' n s')) (sym e) l)
  all_linked (x ∷ xs) a b ys s s' (front, rear, middle, w, ws, e) o le le' l =
      let g = writes_grow Body bodies first x.action x.start a middle front w in
      let h = all_grow Body bodies first xs middle b rear ws in
      let own = h.own in
      let fresh = h.fresh in
      subst (LinkedFlow b.scope (sequence_by call (x ∷ xs) shape n s)) (sym (ap (λ zs. sequence zs shape' n s') e ∙ sequence_append front rear shape' n s'))
      (after_linked b.scope middle.scope (effect_by call x.action shape n s) (sequence front shape' n s') (sequence_by call xs shape n) (sequence rear shape' n)
      (action_linked x.action x.start a middle front s s' w o (omega (arith, own, le)) (omega (arith, fresh, le')) l)
      (λ u u' lu. all_linked xs middle b rear u u' ws (g.ordered o) le le' lu))

  -- ---- ends

  over_same : (o : Outcome) (s s' : State) → s'.heap ≡ s.heap → s'.prints ≡ s.prints → over o s ≡ over o s'
  over_same o s s' h p =
      ap (λ z. Over (record { outcome = o; prints = z; heap = s.heap })) (sym p) ∙ ap (λ z. Over (record { outcome = o; prints = s'.prints; heap = z })) (sym h)

  returned_same : (q : Result Value Failure) (s s' : State) → s'.heap ≡ s.heap → s'.prints ≡ s.prints →
      returned q s ≡ returned q s'
  returned_same (Ok v) s s' h p = over_same (out.Returns v) s s' h p
  returned_same (Err (Trap t)) s s' h p = over_same (out.Traps t) s s' h p
  returned_same (Err Wrong) s s' h p = refl

  ending_same : (scope : List Pair) (result r : Option Return) (s s' : State) → Linked scope s s' →
      RenamesResult scope result r → ending result shape s ≡ ending r shape' s'
  ending_same scope None None s s' l w = over_same out.Ends s s' l.heap l.prints
  ending_same scope (Some x) (Some y) s s' l w =
      ap (λ z. returned z s) (sym (values scope s s' x.value y.value l w.1)) ∙ returned_same (value_of y.value shape' s'.locals s'.heap) s s' l.heap l.prints
  ending_same scope None (Some y) s s' l w = absurd w
  ending_same scope (Some x) None s s' l w = absurd w

  concluded_same : (scope : List Pair) (result r : Option Return) (flow flow' : Flow) → LinkedFlow scope flow flow' →
      RenamesResult scope result r →
      concluded result shape flow ≡ concluded r shape' flow'
  concluded_same scope result r (GoesOn s) (GoesOn s') l w = ending_same scope result r s s' l w
  concluded_same scope result r (Traps t s) (Traps t' s') (e, h, p) w = over_same (out.Traps t) s s' h p ∙ ap (λ z. over (out.Traps z) s') (sym e)
  concluded_same scope result r Beyond Beyond l w = refl
  concluded_same scope result r Astray Astray l w = refl
  concluded_same scope result r _ _ l w = absurd l

  keeps_linked : (scope : List Pair) (flow flow' : Flow) (t : State) → LinkedFlow scope flow flow' → t.locals ≡ base →
      length t.locals ≡ many' → Keeps first t flow'
  keeps_linked scope (GoesOn s) (GoesOn s') t l e c = (λ j lt. l.kept j lt ∙ ap (λ z. slice_get z j) (sym e), l.count ∙ sym c)
  keeps_linked scope flow (Traps x u) t l e c = tt
  keeps_linked scope flow Beyond t l e c = tt
  keeps_linked scope flow Astray t l e c = tt
  keeps_linked scope (Traps x u) (GoesOn s') t l e c = absurd l
  keeps_linked scope Beyond (GoesOn s') t l e c = absurd l
  keeps_linked scope Astray (GoesOn s') t l e c = absurd l

-- ---- bodies

-- the arguments, in the locals that stand for the parameters
arguments_agree : (count : ℕ) (first : ℕ) (ls ls' : List Value) →
    ((k : ℕ) → k < count → (v : Value) × (slice_get ls k ≡ Some v) × (slice_get ls' (first + k) ≡ Some v)) →
    Agree (parameters_at count first) ls ls'
arguments_agree zero first ls ls' all a b c = absurd (not_in_none (pair a b) c)
arguments_agree (suc n) first ls ls' all a b c =
    elim (in_cases (pair n (first + n)) (pair a b) (parameters_at n first) c) [
      | inl e ↦
          let x : n ≡ a = ap (λ (z : Pair). z.own) e in
          let y : first + n ≡ b = ap (λ (z : Pair). z.written) e in
          let here = all n (omega arith) in
          (here.0, ap (slice_get ls) (sym x) ∙ here.1, ap (slice_get ls') (sym y) ∙ here.2)
      | inr d ↦ arguments_agree n first ls ls' (λ k lt. all k (omega (arith, lt))) a b d
    ]

parameters_ordered : (count first : ℕ) → Ordered first count (first + count) (parameters_at count first)
parameters_ordered zero first = omega arith
parameters_ordered (suc n) first = (omega arith, omega arith, parameters_ordered n first)

placed_there : (ls : List Value) (first : ℕ) (vs : List Value) (k : ℕ) → Placed ls first vs → k < length vs →
    (v : Value) × (slice_get vs k ≡ Some v) × (slice_get ls (first + k) ≡ Some v)
placed_there ls first [] k p lt = absurd (omega (arith, lt))
placed_there ls first (v ∷ vs) zero p lt = let z : first + 0 ≡ first = omega arith in (v, refl, ap (slice_get ls) z ∙ p.0)
placed_there ls first (v ∷ vs) (suc k) p lt =
    let x = placed_there ls (first + 1) vs k p.1 (omega (arith, lt)) in
    let z : first + suc k ≡ first + 1 + k = omega arith in
    (x.0, x.1, ap (slice_get ls) z ∙ x.2)

get_front : (xs ys : List Value) (k : ℕ) (v : Value) → slice_get xs k ≡ Some v → slice_get (xs ++ ys) k ≡ Some v
get_front [] ys k v e = absurd (none-some v e)
get_front (x ∷ xs) ys zero v e = e
get_front (x ∷ xs) ys (suc k) v e = get_front xs ys k v e

long_enough : (vs : List Value) (ls : List Local) → length ls ≤ length (vs ++ map default_local (drop (length vs) ls))
long_enough [] ls = all ls
  where
    all : (xs : List Local) → length xs ≤ length (map default_local xs)
    all [] = omega arith
    all (x ∷ xs) = let rest = all xs in omega (arith, rest)
long_enough (v ∷ vs) [] = omega arith
long_enough (v ∷ vs) (l ∷ ls) = let rest = long_enough vs ls in omega (arith, rest)

body_means : (shape shape' : Shape) → HasSamePlaces shape shape' → (n : ℕ) (call : Helpers) (Body : Bodies) →
    BodiesGrow Body → BodiesMean shape' n call Body →
    (section : Section) (first : ℕ) (body : List Stmt) (r : Option Return) (fresh : ℕ) → WritesBody Body section first body r fresh → (vs : List Value) (t : State) →
    length vs ≡ section.parameters → Placed t.locals first vs → fresh ≤ length t.locals →
    (run_from call section shape n (record (opening section vs t.heap) { prints = t.prints }) ≡ concluded r shape' (sequence body shape' n t)) × Keeps first t (sequence body shape' n t)
body_means shape shape' same n call Body bodies mean section first body r fresh (b, w, ends, own, last) vs t count placed few =
    let s : State = record (opening section vs t.heap) { prints = t.prints } in
    let many = length s.locals in
    let many' = length t.locals in
    let scope = parameters_at section.parameters first in
    let agree : Agree scope s.locals t.locals =
    arguments_agree section.parameters first s.locals t.locals (λ k lt.
    let x = placed_there t.locals first vs k placed (omega (arith, lt, count)) in
    (x.0, get_front vs (map default_local (drop (length vs) section.locals.items)) k x.0 x.1, x.2)) in
    let l : Linked shape shape' same n call Body bodies mean first t.locals many many' scope s t =
    record { heap = refl; prints = refl; locals = agree; own_count = refl; count = refl; kept = λ j lt. refl } in
    let long = long_enough vs section.locals.items in
    let flow = all_linked shape shape' same n call Body bodies mean first t.locals many many' section.body.items (entered section.parameters first) b body s t w
    (parameters_ordered section.parameters first) (omega (arith, own, long)) (omega (arith, last, few)) l in (
      concluded_same shape shape' same n call Body bodies mean first t.locals many many' b.scope section.result r (sequence_by call section.body.items shape n s) (sequence body shape' n t) flow ends,
      keeps_linked shape shape' same n call Body bodies mean first t.locals many many' b.scope (sequence_by call section.body.items shape n s) (sequence body shape' n t) t flow refl refl,
    )

helpers_mean : (shape shape' : Shape) → HasSamePlaces shape shape' → (n depth : ℕ) →
    BodiesMean shape' n (helped depth shape n) (HelpersWritten shape depth)
helpers_mean shape shape' same n zero helper count first body r fresh w vs t e placed few = absurd w
helpers_mean shape shape' same n (suc depth) helper count first body r fresh (h, is, c, w) vs t e placed few =
    let m = body_means shape shape' same n (helped depth shape n) (HelpersWritten shape depth) (helpers_grow shape depth) (helpers_mean shape shape' same n depth) h first body r fresh w vs t
    (e ∙ c) placed few in
    let go : Section → Run = λ section. run_from (helped depth shape n) section shape n (record (opening section vs t.heap) { prints = t.prints }) in
    (ap (λ o. if_there o go) is ∙ m.0, m.1)

-- a section with its helpers written out has the run that it had, whatever the turns
pub written_out_runs_alike : (shape shape' : Shape) (section section' : Section) → HasSamePlaces shape shape' →
    IsWrittenOut shape section section' → (n : ℕ) (arguments heap : List Value) →
    length arguments ≡ section.parameters → run_of section shape n arguments heap ≡ run_of section' shape' n arguments heap
written_out_runs_alike shape shape' section section' same w n arguments heap count =
    let t : State = opening section' arguments heap in
    (body_means shape shape' same n (helped deepest shape n) (HelpersWritten shape deepest) (helpers_grow shape deepest) (helpers_mean shape shape' same n deepest) section 0
    section'.body.items section'.result (length section'.locals.items) w.body arguments t count
    (place arguments 0 t.locals (λ k v e. let z : 0 + k ≡ k = omega arith in ap (slice_get t.locals) z ∙ get_front arguments (map default_local (drop (length arguments) section'.locals.items)) k v e)) (long_enough arguments section'.locals.items)).0
  where
    place : (vs : List Value) (before : ℕ) (ls : List Value) →
        ((k : ℕ) (v : Value) → slice_get vs k ≡ Some v → slice_get ls (before + k) ≡ Some v) → Placed ls before vs
    place [] before ls h = tt
    place (v ∷ vs) before ls h =
        let z : before ≡ before + 0 = omega arith in (
          ap (slice_get ls) z ∙ h 0 v refl,
          place vs (before + 1) ls (λ k w e. let y : before + 1 + k ≡ before + suc k = omega arith in ap (slice_get ls) y ∙ h (suc k) w e),
        )
