-- Visits of the accesses of the parts of a tree.
use Rattle.std.proofs.Common.{◌≡◌, ◌⊎◌, inl, inr, ℕ, ◌+◌, ◌<◌, ◌≤◌, List, [], ◌∷◌, ◌++◌, length, map, drop, take}
use Rattle.std.proofs.Common.{get_or, Option, Some, None, Bool, true, false, refl, sym, ap, ◌∙◌, add-one, Vec, Box}
use Rattle.std.proofs.Common.{Global}
use Rattle.std.proofs.Math.Seq.{drop-cons, take-suc}
use Rattle.std.proofs.lemmas.List.Sums.{fold-append}
use Rattle.std.specs.Prelude.{if◌then◌else◌}
use Rattle.std.specs.Option.{option_map}
use Rattle.core_lang.specs.declared.tree.FieldStep.{FieldStep}
use Rattle.core_lang.specs.declared.tree.FieldStep.TheVariants.{Final, Field}
use Rattle.core_lang.specs.declared.tree.Local.{Local}
use Rattle.core_lang.specs.declared.tree.Section.{Section}
use Rattle.core_lang.specs.declared.tree.Operation.{Operation}
use Rattle.core_lang.specs.declared.tree.Expr.{Expr, Chain}
use Rattle.core_lang.specs.declared.tree.Action.{Action, SetElement, SetField}
use Rattle.core_lang.specs.declared.tree.Comparison.{Comparison}
use Rattle.core_lang.specs.declared.tree.Condition.{Condition, Compare, And, Or}
use Rattle.core_lang.specs.declared.tree.Path.{Path}
use Rattle.core_lang.specs.Typing.{lookup}
use Rattle.locks.specs.Accesses.{Access, access, along, in_action, in_path, in_expr, in_condition}
use Rattle.locks.specs.Accesses as target
use Rattle.locks.specs.LockPaths.{is_fixed, all_final, stable}
use Rattle.locks.specs.Theory.Lists.{in_expr-Chain, in_condition-And, in_condition-Or}
use Rattle.lockpaths.specs.declared.finder.Finder.{Finder}
use Rattle.lockpaths.specs.Working.Gathering.{Gathered}
use Rattle.lockpaths.specs.Working.Told.{Told}
use Rattle.lockpaths.specs.Working.Finding.{over, over_point, over_points, over_owner, over_owners, in_all, in_operands}
use Rattle.flow.specs.Points.{Point}
use Rattle.std.specs.List.{flat_map}
use Rattle.core_lang.specs.Theory.Items.{drop_past, next_of}

over_append : (f : Finder) (g : Told) (xs ys : List Access) → over f g (xs ++ ys) ≡ over f (over f g xs) ys
over_append f g xs ys = ap (λ (x : Gathered). record { table = g.table; gathered = x }) (fold-append _ g.gathered xs ys)

-- ---- a fault of the base

if_none : {A B : Type 0} (b : Bool) (f : A → B) (o : Option A) → o ≡ None → (if b then option_map f o else None) ≡ None
if_none true f o e = ap (option_map f) e
if_none false f o e = refl

lookup_none : {A B : Type 0} (o : Option A) (f : A → Option B) → ((a : A) → f a ≡ None) → lookup o f ≡ None
lookup_none (Some a) f h = h a
lookup_none None f h = refl

pub stable_none : (section : Section) (k : ℕ) (fields : List FieldStep) → all_final fields ≡ None →
    stable section k fields ≡ None
stable_none section k fields e = lookup_none _ _ (λ (local : Local). if_none (is_fixed local.kind) _ (all_final fields) e)

pub none_behind : (before : List FieldStep) (s f : ℕ) → all_final (before ++ Field s f ∷ []) ≡ None
none_behind [] s f = refl
none_behind (Final t g ∷ fs) s f = ap (option_map (λ rest. g ∷ rest)) (none_behind fs s f)
none_behind (Field t g ∷ fs) s f = refl

-- ---- lists of accesses

pub over_chain : (f : Finder) (g h k : Told) (e one : Expr) (first : Box Expr Global) (rest : Vec Operation Global) (ops : List Operation) (i : ℕ) → e ≡ Chain first rest → one ≡ first.value →
    ops ≡ rest.items → h ≡ over f g (in_expr one) → length ops ≤ i → over f k (in_operands (drop i ops)) ≡ over f h (in_operands ops) → k ≡ over f g (in_expr e)
over_chain f g h k e one first rest ops i is value same met past all =
    sym (ap (λ os. over f k (in_operands os)) (drop_past ops i past)) ∙ all
    ∙ ap (λ x. over f x (in_operands ops)) (met ∙ ap (λ y. over f g (in_expr y)) value)
    ∙ ap (λ os. over f (over f g (in_expr first.value)) (in_operands os)) same
    ∙ sym (over_append f g (in_expr first.value) (in_operands rest.items))
    ∙ ap (over f g) (sym (in_expr-Chain first rest)) ∙ ap (λ x. over f g (in_expr x)) (sym is)

over_last : (f : Finder) (g h k : Told) (x end : Condition) (before : Vec Condition Global) (last : Box Condition Global) (cs : List Condition) → cs ≡ before.items → end ≡ last.value →
    in_condition x ≡ in_all before.items ++ in_condition last.value → h ≡ over f g (in_all cs) → k ≡ over f h (in_condition end) → k ≡ over f g (in_condition x)
over_last f g h k x end before last cs same value e one all =
    all ∙ ap (λ y. over f y (in_condition end)) one ∙ ap (λ ys. over f (over f g (in_all ys)) (in_condition end)) same
    ∙ ap (λ y. over f (over f g (in_all before.items)) (in_condition y)) value
    ∙ sym (over_append f g (in_all before.items) (in_condition last.value)) ∙ ap (over f g) (sym e)

pub over_both : (f : Finder) (g h k : Told) (x end : Condition) (before : Vec Condition Global) (last : Box Condition Global) (cs : List Condition) →
    (x ≡ And before last) ⊎ (x ≡ Or before last) → cs ≡ before.items → end ≡ last.value → h ≡ over f g (in_all cs) → k ≡ over f h (in_condition end) →
    k ≡ over f g (in_condition x)
over_both f g h k x end before last cs (inl is) same value one all =
    over_last f g h k x end before last cs same value (ap in_condition is ∙ in_condition-And before last) one all
over_both f g h k x end before last cs (inr is) same value one all =
    over_last f g h k x end before last cs same value (ap in_condition is ∙ in_condition-Or before last) one all

-- ---- one field more of a path

more : (fields : List FieldStep) (k : ℕ) (step : FieldStep) → step ≡ get_or fields k step → k < length fields →
    (drop k fields ≡ step ∷ drop (k + 1) fields) × (take (k + 1) fields ≡ take k fields ++ step ∷ [])
more fields k step is h =
    let d : drop k fields ≡ get_or fields k step ∷ drop (k + 1) fields = rw (add-one, drop-cons fields k step) in
    let t : take (k + 1) fields ≡ take k fields ++ get_or fields k step ∷ [] = rw (add-one, take-suc fields k step) in
    (d ∙ ap (λ x. x ∷ drop (k + 1) fields) (sym is), t ∙ ap (λ x. take k fields ++ x ∷ []) (sym is))

map_none : {A B : Type 0} (f : A → B) (o : Option A) → option_map f o ≡ None → o ≡ None
map_none f (Some a) e = cc
map_none f None e = refl

none_more : (before : List FieldStep) (s n : ℕ) → all_final before ≡ None → all_final (before ++ Final s n ∷ []) ≡ None
none_more [] s n e = cc
none_more (Final t g ∷ fs) s n e = ap (option_map (λ rest. g ∷ rest)) (none_more fs s n (map_none _ (all_final fs) e))
none_more (Field t g ∷ fs) s n e = refl

module _ (f : Finder) (g g' : Told) (start local : ℕ) (fields : List FieldStep) (k s n : ℕ) (b b' : Bool) (all : Told) (step : FieldStep)
    (is : step ≡ get_or fields k step) (h : k < length fields) (met : over f g (along start local (take k fields) (drop k fields)) ≡ all)
    (behind : b ≡ true → all_final (take k fields) ≡ None) where
  module _ (final : step ≡ Final s n) (same : g' ≡ g) (flag : b' ≡ b) where
    taken : take (k + 1) fields ≡ take k fields ++ Final s n ∷ []
    taken = (more fields k step is h).1 ∙ ap (λ x. take k fields ++ x ∷ []) final

    dropped : drop k fields ≡ Final s n ∷ drop (k + 1) fields
    dropped = (more fields k step is h).0 ∙ ap (λ x. x ∷ drop (k + 1) fields) final

    pub final_met : over f g' (along start local (take (k + 1) fields) (drop (k + 1) fields)) ≡ all
    final_met =
        ap (λ x. over f x (along start local (take (k + 1) fields) (drop (k + 1) fields))) same
        ∙ ap (λ l. over f g (along start local l (drop (k + 1) fields))) taken
        ∙ sym (ap (λ l. over f g (along start local (take k fields) l)) dropped) ∙ met

    pub final_behind : b' ≡ true → all_final (take (k + 1) fields) ≡ None
    final_behind e = ap all_final taken ∙ none_more (take k fields) s n (behind (sym flag ∙ e))

  module _ (field : step ≡ Field s n) (given : List FieldStep) (front : given ≡ take k fields) (same : g' ≡ over f g (access start (target.field local given s n) ∷ [])) where
    taken_field : take (k + 1) fields ≡ take k fields ++ Field s n ∷ []
    taken_field = (more fields k step is h).1 ∙ ap (λ x. take k fields ++ x ∷ []) field

    dropped_field : drop k fields ≡ Field s n ∷ drop (k + 1) fields
    dropped_field = (more fields k step is h).0 ∙ ap (λ x. x ∷ drop (k + 1) fields) field

    pub field_met : over f g' (along start local (take (k + 1) fields) (drop (k + 1) fields)) ≡ all
    field_met =
        ap (λ x. over f x (along start local (take (k + 1) fields) (drop (k + 1) fields))) (same ∙ ap (λ l. over f g (access start (target.field local l s n) ∷ [])) front)
        ∙ ap (λ l. over f (over f g (access start (target.field local (take k fields) s n) ∷ [])) (along start local l (drop (k + 1) fields))) taken_field
        ∙ sym (ap (λ l. over f g (along start local (take k fields) l)) dropped_field) ∙ met

    pub field_behind : all_final (take (k + 1) fields) ≡ None
    field_behind = ap all_final taken_field ∙ none_behind (take k fields) s n

-- ---- one part more of a list

module _ {A : Type 0} (f : Finder) (h k : Told) where
  pub over_next : (part : A → List Access) (xs : List A) (i : ℕ) (x : A) → i < length xs → x ≡ get_or xs i x →
      k ≡ over f h (part x) →
      over f k (flat_map part (drop (i + 1) xs)) ≡ over f h (flat_map part (drop i xs))
  over_next part xs i x lt is all =
      ap (λ (g : Told). over f g (flat_map part (drop (i + 1) xs))) all
      ∙ sym (over_append f h (part x) (flat_map part (drop (i + 1) xs)))
      ∙ sym (ap (λ (ys : List A). over f h (flat_map part ys)) (next_of xs i x lt is))

  pub points_next : (at : A → Point) (xs : List A) (i : ℕ) (x : A) → i < length xs → x ≡ get_or xs i x →
      k ≡ over_point f h (at x) →
      over_points f k (map at (drop (i + 1) xs)) ≡ over_points f h (map at (drop i xs))
  points_next at xs i x lt is all =
      ap (λ (g : Told). over_points f g (map at (drop (i + 1) xs))) all
      ∙ sym (ap (λ (ys : List A). over_points f h (map at ys)) (next_of xs i x lt is))

  -- and past the last
  pub points_past : (at : A → Point) (xs : List A) (i : ℕ) → length xs ≤ i →
      over_points f h (map at (drop i xs)) ≡ k → h ≡ k
  points_past at xs i past all = sym (ap (λ (ys : List A). over_points f h (map at ys)) (drop_past xs i past)) ∙ all

  pub owners_next : (at : A → Point) (xs : List A) (i : ℕ) (x : A) → i < length xs → x ≡ get_or xs i x →
      k ≡ over_owner f h (at x) →
      over_owners f k (map at (drop (i + 1) xs)) ≡ over_owners f h (map at (drop i xs))
  owners_next at xs i x lt is all =
      ap (λ (g : Told). over_owners f g (map at (drop (i + 1) xs))) all
      ∙ sym (ap (λ (ys : List A). over_owners f h (map at ys)) (next_of xs i x lt is))

  pub owners_past : (at : A → Point) (xs : List A) (i : ℕ) → length xs ≤ i →
      over_owners f h (map at (drop i xs)) ≡ k → h ≡ k
  owners_past at xs i past all = sym (ap (λ (ys : List A). over_owners f h (map at ys)) (drop_past xs i past)) ∙ all

-- ---- the parts of a comparison and of an assignment

pub over_compare : (f : Finder) (g h k : Told) (x : Condition) (sign : Comparison) (a b : Expr) →
    x ≡ Compare sign a b → h ≡ over f g (in_expr a) → k ≡ over f h (in_expr b) →
    k ≡ over f g (in_condition x)
over_compare f g h k x sign a b is one all =
    all ∙ ap (λ (y : Told). over f y (in_expr b)) one ∙ sym (over_append f g (in_expr a) (in_expr b)) ∙ sym (ap (λ (y : Condition). over f g (in_condition y)) is)

module _ (f : Finder) (g h m k : Told) (start : ℕ) (action : Action) where
  pub over_element : (array : ℕ) (index value : Expr) → action ≡ SetElement array index value →
      h ≡ over f g (access start (target.element array) ∷ []) → m ≡ over f h (in_expr index) →
      k ≡ over f m (in_expr value) → k ≡ over f g (in_action start action)
  over_element array index value is one two all =
      let first = access start (target.element array) in
      all ∙ ap (λ (y : Told). over f y (in_expr value)) (two ∙ ap (λ (y : Told). over f y (in_expr index)) one)
      ∙ sym (over_append f (over f g (first ∷ [])) (in_expr index) (in_expr value))
      ∙ sym (ap (λ (y : Action). over f g (in_action start y)) is)

  pub over_field : (base : Path) (s n : ℕ) (value : Expr) → action ≡ SetField base s n value →
      (given : List FieldStep) → h ≡ over f g (in_path base) → given ≡ base.fields.items →
      m ≡ over f h (access base.start (target.field base.local given s n) ∷ []) → k ≡ over f m (in_expr value) → k ≡ over f g (in_action start action)
  over_field base s n value is given one same two all =
      let here = access base.start (target.field base.local base.fields.items s n) in
      all
      ∙ ap (λ (y : Told). over f y (in_expr value)) (two ∙ ap (λ (l : List FieldStep). over f h (access base.start (target.field base.local l s n) ∷ [])) same)
      ∙ ap (λ (y : Told). over f y (here ∷ in_expr value)) one
      ∙ sym (over_append f g (in_path base) (here ∷ in_expr value))
      ∙ sym (ap (λ (y : Action). over f g (in_action start y)) is)
