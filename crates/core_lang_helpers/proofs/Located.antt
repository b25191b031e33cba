-- The places of an expansion's locals in the list of all locals, and the locals that they replace.
use Rattle.std.proofs.Common.{◌≡◌, ℕ, zero, suc, ◌+◌, ◌<◌, ◌≤◌, List, [], ◌∷◌, ◌++◌, length, map, take, Some, ◌⊎◌, inl}
use Rattle.std.proofs.Common.{inr, refl, sym, ap, ◌∙◌, subst, arith}
use Rattle.std.specs.Prelude.{slice_get, option_map, ◌≢◌, ⊤}
use Rattle.std.specs.List.{Contains}
use Rattle.core_lang.specs.declared.value.ValueType.{ValueType}
use Rattle.core_lang.specs.declared.tree.LocalKind.TheVariants.{Parameter, Var}
use Rattle.core_lang.specs.declared.tree.Local.{Local}
use Rattle.core_lang.specs.Typing.{local_types}
use Rattle.core_lang.specs.Expansion.{Pair, pair, parameters_at}
use Rattle.core_lang.specs.WrittenLocals.{LocalData, parameter_data}
use Rattle.core_lang.specs.Theory.Items.{get_mapped, in_cases, in_first, in_rest, not_in_none, still_at}

-- ---- lists

pub in_either : {X : Type 0} (xs ys : List X) (y : X) → Contains (xs ++ ys) y → Contains xs y ⊎ Contains ys y
in_either [] ys y c = inr c
in_either (x ∷ xs) ys y c =
    elim (in_cases x y (xs ++ ys) c) [
      | inl e ↦ inl (subst (λ z. Contains (x ∷ xs) z) e (in_first x xs))
      | inr d ↦ elim (in_either xs ys y d) [
        | inl f ↦ inl (in_rest x y xs f)
        | inr g ↦ inr g
      ]
    ]

pub get_past : {X : Type 0} (front ys : List X) (i : ℕ) → slice_get (front ++ ys) (length front + i) ≡ slice_get ys i
get_past [] ys i = let e : 0 + i ≡ i = omega arith in ap (slice_get ys) e
get_past (x ∷ front) ys i = let e : length (x ∷ front) + i ≡ suc (length front + i) = omega arith in ap (slice_get (x ∷ (front ++ ys))) e ∙ get_past front ys i

-- the one that follows the given number of items
pub get_behind : {X : Type 0} (front rest : List X) (x : X) (k : ℕ) → length front ≡ k →
    slice_get (front ++ x ∷ rest) k ≡ Some x
get_behind front rest x k e = let at : k ≡ length front + 0 = omega (arith, e) in ap (slice_get (front ++ x ∷ rest)) at ∙ get_past front (x ∷ rest) 0

pub get_taken : {X : Type 0} (xs : List X) (n k : ℕ) → k < n → slice_get (take n xs) k ≡ slice_get xs k
get_taken xs zero k lt = absurd (omega (arith, lt))
get_taken [] (suc n) k lt = refl
get_taken (x ∷ xs) (suc n) zero lt = refl
get_taken (x ∷ xs) (suc n) (suc k) lt = get_taken xs n k (omega (arith, lt))

-- ---- what stands for what

abbrev pub types_of : List LocalData → List ValueType
types_of all = map (λ (d : LocalData). d.value_type) all

-- each local in scope is one of the tree, and the one that stands for it has its type; a `var` stands for a `var`
abbrev pub StandsFor : List Local → List LocalData → List Pair → Type 0
StandsFor own all scope =
    (k written : ℕ) → Contains scope (pair k written) →
    (l : Local) × (d : LocalData) × (slice_get own k ≡ Some l) × (slice_get all written ≡ Some d) × (d.value_type ≡ l.value_type) × (l.kind ≡ Var → d.kind ≡ Var)

-- a local that may be assigned to
abbrev pub IsVar : List LocalData → ℕ → Type 0
IsVar all k = (d : LocalData) × (slice_get all k ≡ Some d) × (d.kind ≡ Var)

-- none of them is a parameter
abbrev pub NoParameters : List LocalData → Type 0
NoParameters [] = ⊤
NoParameters (d ∷ ds) = (d.kind ≢ Parameter) × NoParameters ds

pub none_of_both : (xs ys : List LocalData) → NoParameters xs → NoParameters ys → NoParameters (xs ++ ys)
none_of_both [] ys h k = k
none_of_both (x ∷ xs) ys h k = (h.0, none_of_both xs ys h.1 k)

pub none_there : (ds : List LocalData) (k : ℕ) (d : LocalData) → NoParameters ds → slice_get ds k ≡ Some d →
    d.kind ≢ Parameter
none_there [] k d h is = absurd cc
none_there (x ∷ ds) zero d h is = let same : x ≡ d = cc in subst (λ (z : LocalData). z.kind ≢ Parameter) same h.0
none_there (x ∷ ds) (suc k) d h is = none_there ds k d h.1 is

pub no_parameters : (ls : List Local) → NoParameters (map parameter_data ls)
no_parameters [] = tt
no_parameters (l ∷ ls) = ((λ e. absurd cc), no_parameters ls)

-- a type of the tree's local is that of the one that stands for it
pub type_there : (own : List Local) (all : List LocalData) (k written : ℕ) (t : ValueType) (l : Local) (d : LocalData) → slice_get own k ≡ Some l →
    slice_get all written ≡ Some d → d.value_type ≡ l.value_type → slice_get (local_types own) k ≡ Some t → slice_get (types_of all) written ≡ Some t
type_there own all k written t l d is is' same has =
    get_mapped (λ (z : LocalData). z.value_type) all written ∙ ap (option_map (λ (z : LocalData). z.value_type)) is' ∙ ap Some same
    ∙ sym (get_mapped (λ (z : Local). z.value_type) own k ∙ ap (option_map (λ (z : Local). z.value_type)) is) ∙ has

-- one more is bound
pub stands_more : (own : List Local) (all : List LocalData) (scope : List Pair) (k written : ℕ) (l : Local) (d : LocalData) → StandsFor own all scope →
    slice_get own k ≡ Some l → slice_get all written ≡ Some d → d.value_type ≡ l.value_type → (l.kind ≡ Var → d.kind ≡ Var) → StandsFor own all (pair k written ∷ scope)
stands_more own all scope k written l d stands is is' same kind a b c =
    elim (in_cases (pair k written) (pair a b) scope c) [
      | inl e ↦
          let x : k ≡ a = ap (λ (z : Pair). z.own) e in
          let y : written ≡ b = ap (λ (z : Pair). z.written) e in
          (l, d, ap (slice_get own) (sym x) ∙ is, ap (slice_get all) (sym y) ∙ is', same, kind)
      | inr rest ↦ stands a b rest
    ]

-- parameters stand for parameters
pub parameters_stand : (own : List Local) (all : List LocalData) (p n first : ℕ) → n ≤ p →
    ((i : ℕ) → i < p → (l : Local) × (d : LocalData) × (slice_get own i ≡ Some l) × (slice_get all (first + i) ≡ Some d) × (d.value_type ≡ l.value_type) × (l.kind ≡ Var → d.kind ≡ Var)) →
    StandsFor own all (parameters_at n first)
parameters_stand own all p zero first le each k written c = absurd (not_in_none (pair k written) c)
parameters_stand own all p (suc n) first le each k written c =
    let this = each n (omega (arith, le)) in
    stands_more own all (parameters_at n first) n (first + n) this.0 this.1 (parameters_stand own all p n first (omega (arith, le)) each) this.2 this.3 this.4 this.5 k written c

-- a parameter, if the list of all locals has those of the parameters after others
pub parameter_there : (f : Local →
    LocalData) (own : List Local) (all front rest : List LocalData) (p i : ℕ) (l : Local) → i < p → slice_get own i ≡ Some l →
    all ≡ front ++ (map f (take p own) ++ rest) → slice_get all (length front + i) ≡ Some (f l)
parameter_there f own all front rest p i l lt is e =
    let mine : slice_get (map f (take p own)) i ≡ Some (f l) = get_mapped f (take p own) i ∙ ap (option_map f) (get_taken own p i lt ∙ is) in
    ap (λ (xs : List LocalData). slice_get xs (length front + i)) e ∙ get_past front (map f (take p own) ++ rest) i ∙ still_at (map f (take p own)) rest i (f l) mine
