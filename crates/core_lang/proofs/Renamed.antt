-- Renamed expressions and conditions have the same values.
use Rattle.std.proofs.Common.{◌≡◌, ℕ, ◌+◌, List, [], ◌∷◌, Some, None, Option, Result, Ok, Err, Bool, refl, sym, ap, ◌∙◌}
use Rattle.std.specs.Prelude.{slice_get, not, map, option_map}
use Rattle.std.specs.List.{Contains}
use Rattle.core_lang.specs.declared.value.Value.{Value}
use Rattle.core_lang.specs.declared.value.Value.TheVariants.{Int, Ref}
use Rattle.core_lang.specs.declared.value.Failure.{Failure}
use Rattle.core_lang.specs.declared.shape.Array.{Array}
use Rattle.core_lang.specs.declared.shape.Pool.{Pool}
use Rattle.core_lang.specs.declared.shape.Object.{Object}
use Rattle.core_lang.specs.declared.shape.Shape.{Shape}
use Rattle.core_lang.specs.declared.tree.Operator.{Operator}
use Rattle.core_lang.specs.declared.tree.Comparison.TheVariants.{Equal}
use Rattle.core_lang.specs.declared.tree.FieldStep.{FieldStep}
use Rattle.core_lang.specs.declared.tree.FieldStep.TheVariants.{Final, Field}
use Rattle.core_lang.specs.declared.tree.Path.{Path}
use Rattle.core_lang.specs.declared.tree.Expr.{Expr, Number, Null, Place, Global, Element', Member', Negate', Owned'}
use Rattle.core_lang.specs.declared.tree.Expr.{Chain', Row_of-Operation, end_of-Operation, more_of-Operation}
use Rattle.core_lang.specs.declared.tree.Condition.{Condition, Compare, Not', And', Or', Row_of-Condition}
use Rattle.core_lang.specs.declared.tree.Condition.{end_of-Condition, more_of-Condition}
use Rattle.core_lang.specs.Arithmetic.{negated, compared}
use Rattle.core_lang.specs.Cells.{with, found, at_index, element_cell, reference_to, member_of, object_of, field_cell}
use Rattle.core_lang.specs.Cells.{final_value, if_named, owned, read, step_value}
use Rattle.core_lang.specs.Meaning.{along, place_of, joined, value_of, chained, and_then, or_else, truth_of, all_true}
use Rattle.core_lang.specs.Meaning.{any_true}
use Rattle.core_lang.specs.Expansion.{Pair, pair, RenamesPath, Renames, RenamesEach, RenamesTest, RenamesTests}
use Rattle.core_lang.specs.Expansion.{ArrayData, array_data, PoolData, pool_data, HasSamePlaces}
use Rattle.core_lang.specs.Theory.Items.{get_mapped}

-- each local in scope has the value of the one that stands for it
abbrev pub Agree : List Pair → List Value → List Value → Type 0
Agree scope locals locals' =
    (own written : ℕ) → Contains scope (pair own written) → (v : Value) × (slice_get locals own ≡ Some v) × (slice_get locals' written ≡ Some v)

with_same : {A B : Type 0} (r : Result A Failure) (f g : A → Result B Failure) → ((a : A) → f a ≡ g a) →
    with r f ≡ with r g
with_same (Ok a) f g h = h a
with_same (Err e) f g h = refl

get_same : {A B : Type 0} (f : A → B) (xs ys : List A) (k : ℕ) → map f ys ≡ map f xs →
    option_map f (slice_get ys k) ≡ option_map f (slice_get xs k)
get_same f xs ys k e = sym (get_mapped f ys k) ∙ ap (λ zs. slice_get zs k) e ∙ get_mapped f xs k

-- which cell, and which member, by an array and a pool as data
cell_in : Option ArrayData → Value → Result ℕ Failure
cell_in o v = with (found o) (λ (a : ArrayData). at_index a.first a.count v)

cell_by_data : (o : Option Array) (v : Value) →
    with (found o) (λ (a : Array). at_index a.first a.length v) ≡ cell_in (option_map array_data o) v
unfolding cell_in
cell_by_data None v = refl
cell_by_data (Some a) v = refl

member_in : Option PoolData → Value → Result Value Failure
member_in o v = with (found o) (λ (p : PoolData). with (at_index p.first p.count v) reference_to)

member_by_data : (o : Option Pool) (v : Value) →
    with (found o) (λ (p : Pool). with (at_index p.first p.length v) reference_to) ≡ member_in (option_map pool_data o) v
unfolding member_in
member_by_data None v = refl
member_by_data (Some p) v = refl

module _ (shape shape' : Shape) (same : HasSamePlaces shape shape') where
  object_same : (v : Value) → object_of shape' v ≡ object_of shape v
  object_same (Int n) = refl
  object_same (Ref None) = refl
  object_same (Ref (Some o)) = ap (λ (xs : List Object). found (slice_get xs o)) same.objects

  pub cell_same : (v : Value) (f : ℕ) → field_cell shape' v f ≡ field_cell shape v f
  cell_same v f = ap (λ r. with r (λ (o : Object). Ok (o.cells + f))) (object_same v)

  final_same : (v : Value) (f : ℕ) → final_value shape' v f ≡ final_value shape v f
  final_same v f =
      ap (λ (r : Result Object Failure). with r (λ (o : Object). with (found (slice_get shape'.finals.items (o.finals + f))) (λ target. Ok (Ref (Some target))))) (object_same v)
      ∙ ap (λ (xs : List ℕ). with (object_of shape v) (λ (o : Object). with (found (slice_get xs (o.finals + f))) (λ target. Ok (Ref (Some target))))) same.finals

  owned_same : (v : Value) (f : ℕ) (owner : Value) → owned shape' v f owner ≡ owned shape v f owner
  owned_same (Int n) f owner = refl
  owned_same (Ref None) f owner = refl
  owned_same (Ref (Some o)) f owner =
      ap (λ r. with r (λ named. with (compared Equal named owner) (λ b. if_named b (Ref (Some o))))) (final_same (Ref (Some o)) f)

  pub element_same : (array : ℕ) (v : Value) → element_cell shape' array v ≡ element_cell shape array v
  element_same array v =
      cell_by_data (slice_get shape'.arrays.items array) v
      ∙ ap (λ o. cell_in o v) (get_same array_data shape.arrays.items shape'.arrays.items array same.arrays)
      ∙ sym (cell_by_data (slice_get shape.arrays.items array) v)

  member_same : (pool : ℕ) (v : Value) → member_of shape' pool v ≡ member_of shape pool v
  member_same pool v =
      member_by_data (slice_get shape'.pools.items pool) v
      ∙ ap (λ o. member_in o v) (get_same pool_data shape.pools.items shape'.pools.items pool same.pools)
      ∙ sym (member_by_data (slice_get shape.pools.items pool) v)

  step_same : (heap : List Value) (v : Value) (step : FieldStep) →
      step_value shape' heap v step ≡ step_value shape heap v step
  step_same heap v (Final s f) = final_same v f
  step_same heap v (Field s f) = ap (λ r. with r (λ cell. read heap cell)) (cell_same v f)

  along_same : (heap : List Value) (v : Value) (fs : List FieldStep) → along shape' heap v fs ≡ along shape heap v fs
  along_same heap v [] = refl
  along_same heap v (f ∷ fs) =
      ap (λ r. with r (λ w. along shape' heap w fs)) (step_same heap v f)
      ∙ with_same (step_value shape heap v f) (λ w. along shape' heap w fs) (λ w. along shape heap w fs) (λ w. along_same heap w fs)

  module _ (scope : List Pair) (locals locals' heap : List Value) (agree : Agree scope locals locals') where
    found_same : (own written : ℕ) → Contains scope (pair own written) →
        found (slice_get locals' written) ≡ found (slice_get locals own)
    found_same own written c = let a = agree own written c in ap found (a.2 ∙ sym a.1)

    pub place_same : (p q : Path) → RenamesPath scope p q →
        place_of q shape' locals' heap ≡ place_of p shape locals heap
    place_same p q r =
        ap (λ x. with x (λ base. along shape' heap base q.fields.items)) (found_same p.local q.local r.local)
        ∙ with_same (found (slice_get locals p.local)) (λ base. along shape' heap base q.fields.items) (λ base. along shape heap base p.fields.items)
        (λ base. ap (along shape' heap base) r.fields ∙ along_same heap base p.fields.items)

    joined_with : (o : Operator) (left r r' : Result Value Failure) → r' ≡ r → joined o left r' ≡ joined o left r
    joined_with o left r r' e = ap (joined o left) e

    mutual
      pub value_same : (e e' : Expr) → Renames scope e e' →
          value_of e' shape' locals' heap ≡ value_of e shape locals heap
      value_same (Number n) (Number m) r = ap (λ z. Ok (Int z)) r
      value_same Null Null r = refl
      value_same (Place p) (Place q) r = place_same p q r
      value_same (Global start cell) (Global start' cell') r = ap (read heap) r.1
      value_same (Element' start array p i) (Element' start' array' p' i') r =
          ap (λ x. with x (λ v. with (element_cell shape' array' v) (λ cell. read heap cell))) (value_same i i' r.2)
          ∙ with_same (value_of i shape locals heap) _ _
          (λ v. ap (λ x. with x (λ cell. read heap cell)) (ap (λ a. element_cell shape' a v) r.1 ∙ element_same array v))
      value_same (Member' pool p i) (Member' pool' p' i') r =
          ap (λ x. with x (member_of shape' pool')) (value_same i i' r.1)
          ∙ with_same (value_of i shape locals heap) _ _ (λ v. ap (λ a. member_of shape' a v) r.0 ∙ member_same pool v)
      value_same (Negate' p e) (Negate' p' e') r = ap (λ x. with x negated) (value_same e e' r)
      value_same (Owned' p e s f start k) (Owned' p' e' s' f' start' k') r =
          ap (λ x. with x (λ v. with (found (slice_get locals' k')) (λ owner. owned shape' v f' owner))) (value_same e e' r.4)
          ∙ with_same (value_of e shape locals heap) _ _ (λ v.
          ap (λ x. with x (λ owner. owned shape' v f' owner)) (found_same k k' r.3)
          ∙ with_same (found (slice_get locals k)) _ _ (λ owner. ap (λ g. owned shape' v g owner) r.1 ∙ owned_same v f owner))
      value_same (Chain' p first m rest) (Chain' p' first' m' rest') r =
          ap (chained rest' shape' locals' heap) (value_same first first' r.0) ∙ chained_same rest rest' (value_of first shape locals heap) r.1
      value_same _ _ r = absurd r

      chained_same : {m m' : _} (row : Row_of-Operation m) (row' : Row_of-Operation m') (left : Result Value Failure) → RenamesEach scope row row' →
          chained row' shape' locals' heap left ≡ chained row shape locals heap left
      chained_same end_of-Operation end_of-Operation left r = refl
      chained_same (more_of-Operation o e rest) (more_of-Operation o' e' rest') left r =
          ap (chained rest' shape' locals' heap) (ap (λ p. joined p left (value_of e' shape' locals' heap)) r.0 ∙ ap (joined o left) (value_same e e' r.1))
          ∙ chained_same rest rest' (joined o left (value_of e shape locals heap)) r.2
      chained_same _ _ left r = absurd r

    mutual
      pub truth_same : (c c' : Condition) → RenamesTest scope c c' →
          truth_of c' shape' locals' heap ≡ truth_of c shape locals heap
      truth_same (Compare c a b) (Compare c' a' b') r =
          ap (λ x. with x (λ v. with (value_of b' shape' locals' heap) (λ w. compared c' v w))) (value_same a a' r.1)
          ∙ with_same (value_of a shape locals heap) _ _ (λ v.
          ap (λ x. with x (λ w. compared c' v w)) (value_same b b' r.2)
          ∙ ap (λ d. with (value_of b shape locals heap) (λ w. compared d v w)) r.0)
      truth_same (Not' p c) (Not' p' c') r = ap (λ x. with x (λ b. Ok (not b))) (truth_same c c' r)
      truth_same (And' m before p last) (And' m' before' p' last') r =
          ap (all_true before' shape' locals' heap) (truth_same last last' r.1) ∙ all_same before before' (truth_of last shape locals heap) r.0
      truth_same (Or' m before p last) (Or' m' before' p' last') r =
          ap (any_true before' shape' locals' heap) (truth_same last last' r.1) ∙ any_same before before' (truth_of last shape locals heap) r.0
      truth_same _ _ r = absurd r

      all_same : {m m' : _} (row : Row_of-Condition m) (row' : Row_of-Condition m') (last : Result Bool Failure) →
          RenamesTests scope row row' →
          all_true row' shape' locals' heap last ≡ all_true row shape locals heap last
      all_same end_of-Condition end_of-Condition last r = refl
      all_same (more_of-Condition c rest) (more_of-Condition c' rest') last r =
          ap (λ x. and_then x (all_true rest' shape' locals' heap last)) (truth_same c c' r.0)
          ∙ ap (and_then (truth_of c shape locals heap)) (all_same rest rest' last r.1)
      all_same _ _ last r = absurd r

      any_same : {m m' : _} (row : Row_of-Condition m) (row' : Row_of-Condition m') (last : Result Bool Failure) →
          RenamesTests scope row row' →
          any_true row' shape' locals' heap last ≡ any_true row shape locals heap last
      any_same end_of-Condition end_of-Condition last r = refl
      any_same (more_of-Condition c rest) (more_of-Condition c' rest') last r =
          ap (λ x. or_else x (any_true rest' shape' locals' heap last)) (truth_same c c' r.0)
          ∙ ap (or_else (truth_of c shape locals heap)) (any_same rest rest' last r.1)
      any_same _ _ last r = absurd r
