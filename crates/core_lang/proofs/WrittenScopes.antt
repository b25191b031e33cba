-- How scopes grow in an expansion, and the locals that a write does not change.
use Rattle.std.proofs.Common.{◌≡◌, ℕ, zero, suc, ◌+◌, ◌<◌, ◌≤◌, List, [], ◌∷◌, length, Option, Some, None, ◌⊎◌, inl}
use Rattle.std.proofs.Common.{inr, refl, sym, ap, ◌∙◌, subst, arith}
use Rattle.std.specs.Prelude.{slice_get, slice_set}
use Rattle.std.specs.List.{Contains}
use Rattle.std.proofs.lemmas.Option.{slice_get_within}
use Rattle.core_lang.specs.declared.value.Value.{Value}
use Rattle.core_lang.specs.declared.tree.Stmt.{Stmt}
use Rattle.core_lang.specs.declared.tree.Action.{Action, Bind, SetLocal, SetGlobal, SetElement, SetField, Call, Print}
use Rattle.core_lang.specs.declared.tree.Action.{If', IfElse', While', Row_of-Stmt, end_of-Stmt, more_of-Stmt}
use Rattle.core_lang.specs.declared.tree.Return.{Return}
use Rattle.core_lang.specs.declared.shape.Shape.{Shape}
use Rattle.core_lang.specs.Expansion.{Pair, pair, At, behind_bound, behind_block, entered, Bound, Bodies, Writes}
use Rattle.core_lang.specs.Expansion.{WritesRow, WritesAll, HelpersWritten}
use Rattle.core_lang.proofs.Renamed.{Agree}
use Rattle.core_lang.specs.Theory.Items.{in_cases, in_rest, not_in_none}

-- ---- lists

pub get_set_same : (xs : List Value) (k : ℕ) (v : Value) → k < length xs → slice_get (slice_set xs k v) k ≡ Some v
get_set_same [] k v lt = absurd (omega (arith, lt))
get_set_same (x ∷ xs) zero v lt = refl
get_set_same (x ∷ xs) (suc k) v lt = get_set_same xs k v (omega (arith, lt))

pub get_set_other : (xs : List Value) (k j : ℕ) (v : Value) → (j ≡ k → ⊥) →
    slice_get (slice_set xs k v) j ≡ slice_get xs j
get_set_other [] k j v n = refl
get_set_other (x ∷ xs) zero zero v n = absurd (n refl)
get_set_other (x ∷ xs) zero (suc j) v n = refl
get_set_other (x ∷ xs) (suc k) zero v n = refl
get_set_other (x ∷ xs) (suc k) (suc j) v n = get_set_other xs k j v (λ e. n (ap suc e))

pub length_set : (xs : List Value) (k : ℕ) (v : Value) → length (slice_set xs k v) ≡ length xs
length_set [] k v = refl
length_set (x ∷ xs) zero v = refl
length_set (x ∷ xs) (suc k) v = ap suc (length_set xs k v)

same_or_not : (a b : ℕ) → (a ≡ b) ⊎ (a ≡ b → ⊥)
same_or_not zero zero = inl refl
same_or_not zero (suc b) = inr (λ e. omega (arith, e))
same_or_not (suc a) zero = inr (λ e. omega (arith, e))
same_or_not (suc a) (suc b) = elim (same_or_not a b) [ inl e ↦ inl (ap suc e) | inr n ↦ inr (λ e. n (omega (arith, e))) ]

-- ---- scopes in order

-- each pair is below the one that is bound after it, in both numbers, and no new number is below the first
abbrev pub Ordered : ℕ → ℕ → ℕ → List Pair → Type 0
Ordered first own fresh [] = first ≤ fresh
Ordered first own fresh (p ∷ ps) = (p.own < own) × (p.written < fresh) × Ordered first p.own p.written ps

pub first_below : (first own fresh : ℕ) (scope : List Pair) → Ordered first own fresh scope → first ≤ fresh
first_below first own fresh [] o = o
first_below first own fresh (p ∷ ps) o = let rest = first_below first p.own p.written ps o.2 in omega (arith, o.1, rest)

pub all_below : (first own fresh : ℕ) (scope : List Pair) (a b : ℕ) → Ordered first own fresh scope →
    Contains scope (pair a b) → (a < own) × (b < fresh) × (first ≤ b)
all_below first own fresh [] a b o c = absurd (not_in_none (pair a b) c)
all_below first own fresh (p ∷ ps) a b o c =
    elim (in_cases p (pair a b) ps c) [
      | inl e ↦
          let x : p.own ≡ a = ap (λ (z : Pair). z.own) e in
          let y : p.written ≡ b = ap (λ (z : Pair). z.written) e in
          let low = first_below first p.own p.written ps o.2 in
          (omega (arith, o.0, x), omega (arith, o.1, y), omega (arith, low, y))
      | inr d ↦ let rest = all_below first p.own p.written ps a b o.2 d in (omega (arith, rest.0, o.0), omega (arith, rest.1, o.1), rest.2)
    ]

pub raised : (first own fresh own' fresh' : ℕ) (scope : List Pair) → own ≤ own' → fresh ≤ fresh' →
    Ordered first own fresh scope → Ordered first own' fresh' scope
raised first own fresh own' fresh' [] le le' o = omega (arith, le', o)
raised first own fresh own' fresh' (p ∷ ps) le le' o = (omega (arith, o.0, le), omega (arith, o.1, le'), o.2)

one_written : (first own fresh : ℕ) (scope : List Pair) (k a b : ℕ) → Ordered first own fresh scope →
    Contains scope (pair k a) → Contains scope (pair k b) → a ≡ b
one_written first own fresh [] k a b o c d = absurd (not_in_none (pair k a) c)
one_written first own fresh (p ∷ ps) k a b o c d =
    elim (in_cases p (pair k a) ps c) [
      | inl e ↦ elim (in_cases p (pair k b) ps d) [
        | inl f ↦ ap (λ (z : Pair). z.written) (sym e ∙ f)
        | inr g ↦ let x : p.own ≡ k = ap (λ (z : Pair). z.own) e in let low = all_below first p.own p.written ps k b o.2 g in absurd (omega (arith, low.0, x))
      ]
      | inr h ↦ elim (in_cases p (pair k b) ps d) [
        | inl f ↦ let x : p.own ≡ k = ap (λ (z : Pair). z.own) f in let low = all_below first p.own p.written ps k a o.2 h in absurd (omega (arith, low.0, x))
        | inr g ↦ one_written first p.own p.written ps k a b o.2 h g
      ]
    ]

one_own : (first own fresh : ℕ) (scope : List Pair) (a b k : ℕ) → Ordered first own fresh scope →
    Contains scope (pair a k) → Contains scope (pair b k) → a ≡ b
one_own first own fresh [] a b k o c d = absurd (not_in_none (pair a k) c)
one_own first own fresh (p ∷ ps) a b k o c d =
    elim (in_cases p (pair a k) ps c) [
      | inl e ↦ elim (in_cases p (pair b k) ps d) [
        | inl f ↦ ap (λ (z : Pair). z.own) (sym e ∙ f)
        | inr g ↦ let x : p.written ≡ k = ap (λ (z : Pair). z.written) e in let low = all_below first p.own p.written ps b k o.2 g in absurd (omega (arith, low.1, x))
      ]
      | inr h ↦ elim (in_cases p (pair b k) ps d) [
        | inl f ↦ let x : p.written ≡ k = ap (λ (z : Pair). z.written) f in let low = all_below first p.own p.written ps a k o.2 h in absurd (omega (arith, low.1, x))
        | inr g ↦ one_own first p.own p.written ps a b k o.2 h g
      ]
    ]

-- a local in scope is assigned to, in both
pub set_agree : (first own fresh : ℕ) (scope : List Pair) (ls ls' : List Value) (k k' : ℕ) (v : Value) →
    Ordered first own fresh scope → Contains scope (pair k k') →
    Agree scope ls ls' → Agree scope (slice_set ls k v) (slice_set ls' k' v)
set_agree first own fresh scope ls ls' k k' v o c agree a b d =
    let old = agree a b d in
    let this = agree k k' c in
    elim (same_or_not a k) [
      | inl e ↦
          let f : b ≡ k' = one_written first own fresh scope k b k' o (subst (λ z. Contains scope (pair z b)) e d) c in (
            v,
            ap (slice_get (slice_set ls k v)) e ∙ get_set_same ls k v (slice_get_within ls k this.0 this.1),
            ap (slice_get (slice_set ls' k' v)) f ∙ get_set_same ls' k' v (slice_get_within ls' k' this.0 this.2),
          )
      | inr n ↦
          let m : b ≡ k' → ⊥ = λ f. n (one_own first own fresh scope a k k' o (subst (λ z. Contains scope (pair a z)) f d) c) in
          (old.0, get_set_other ls k a v n ∙ old.1, get_set_other ls' k' b v m ∙ old.2)
    ]

-- a new local of the written tree is bound
pub new_agree : (first own fresh : ℕ) (scope : List Pair) (ls ls' : List Value) (k : ℕ) (v : Value) →
    Ordered first own fresh scope → fresh ≤ k →
    Agree scope ls ls' → Agree scope ls (slice_set ls' k v)
new_agree first own fresh scope ls ls' k v o le agree a b d =
    let old = agree a b d in
    let low = all_below first own fresh scope a b o d in
    (old.0, old.1, get_set_other ls' k b v (λ e. omega (arith, e, low.1, le)) ∙ old.2)

-- a new local is bound in both
pub bound_agree : (first own fresh : ℕ) (scope : List Pair) (ls ls' : List Value) (v : Value) →
    Ordered first own fresh scope → own < length ls → fresh < length ls' →
    Agree scope ls ls' → Agree (pair own fresh ∷ scope) (slice_set ls own v) (slice_set ls' fresh v)
bound_agree first own fresh scope ls ls' v o lt lt' agree a b d =
    elim (in_cases (pair own fresh) (pair a b) scope d) [
      | inl e ↦
          let x : own ≡ a = ap (λ (z : Pair). z.own) e in
          let y : fresh ≡ b = ap (λ (z : Pair). z.written) e in (
            v,
            ap (slice_get (slice_set ls own v)) (sym x) ∙ get_set_same ls own v lt,
            ap (slice_get (slice_set ls' fresh v)) (sym y) ∙ get_set_same ls' fresh v lt',
          )
      | inr c ↦
          let old = agree a b c in
          let low = all_below first own fresh scope a b o c in (
            old.0,
            get_set_other ls own a v (λ e. omega (arith, e, low.0)) ∙ old.1,
            get_set_other ls' fresh b v (λ e. omega (arith, e, low.1)) ∙ old.2,
          )
    ]

-- ---- what is written out grows

pub record Grows (first : ℕ) (a b : At) : Type 0 where
  pub own : a.own ≤ b.own
  pub fresh : a.fresh ≤ b.fresh
  pub scope : (p : Pair) → Contains a.scope p → Contains b.scope p
  pub ordered : Ordered first a.own a.fresh a.scope → Ordered first b.own b.fresh b.scope

stays : (first : ℕ) (a b : At) → b ≡ a → Grows first a b
stays first a b e = subst (Grows first a) (sym e) (record { own = omega arith; fresh = omega arith; scope = λ p c. c; ordered = λ o. o })

binds : (first : ℕ) (a b : At) → b ≡ behind_bound a → Grows first a b
binds first a b e =
    subst (Grows first a) (sym e) (record {
      own = omega arith;
      fresh = omega arith;
      scope = λ p c. in_rest (pair a.own a.fresh) p a.scope c;
      ordered = λ o. (omega arith, omega arith, o);
    })

pub grows_on : (first : ℕ) (a b c : At) → Grows first a b → Grows first b c → Grows first a c
grows_on first a b c g h =
    record {
      own = let x = g.own in let y = h.own in omega (arith, x, y);
      fresh = let x = g.fresh in let y = h.fresh in omega (arith, x, y);
      scope = λ p d. h.scope p (g.scope p d);
      ordered = λ o. h.ordered (g.ordered o);
    }

-- after a block, its locals are out of scope
blocks : (first : ℕ) (a b c : At) → Grows first a b → c ≡ behind_block a b → Grows first a c
blocks first a b c g e =
    subst (Grows first a) (sym e) (record {
      own = g.own;
      fresh = g.fresh;
      scope = λ p d. d;
      ordered = λ o. raised first a.own a.fresh b.own b.fresh a.scope g.own g.fresh o;
    })

-- a helper's body needs new numbers for its parameters at least
abbrev pub BodiesGrow : Bodies → Type 0
BodiesGrow Body = (helper count first : ℕ) (body : List Stmt) (r : Option Return) (fresh : ℕ) → Body helper count first body r fresh → first + count ≤ fresh

raises : (first : ℕ) (a b : At) (fresh : ℕ) → a.fresh ≤ fresh → b ≡ record a { fresh = fresh } → Grows first a b
raises first a b fresh le e =
    subst (Grows first a) (sym e) (record {
      own = omega arith;
      fresh = le;
      scope = λ p c. c;
      ordered = λ o. raised first a.own a.fresh a.own fresh a.scope (omega arith) le o;
    })

pub bound_grows : (first : ℕ) (result : Option ℕ) (r : Option Return) (a b : At) (fresh : ℕ) (last : List Stmt) →
    a.fresh ≤ fresh → Bound result r a fresh last b → Grows first a b
bound_grows first None None a b fresh last le w = raises first a b fresh le w.1
bound_grows first None (Some r) a b fresh last le w = raises first a b (fresh + 1) (omega (arith, le)) w.1
bound_grows first (Some k) None a b fresh last le w = absurd w
bound_grows first (Some k) (Some r) a b fresh last le w =
    let middle : At = record a { fresh = fresh } in
    grows_on first a middle b (raises first a middle fresh le refl) (binds first middle b w.2)

module _ (Body : Bodies) (bodies : BodiesGrow Body) (first : ℕ) where
  mutual
    pub writes_grow : (x : Action) (start : ℕ) (a b : At) (ys : List Stmt) → Writes Body x start a ys b →
        Grows first a b
    writes_grow (Bind k e) start a b ys w = binds first a b w.4
    writes_grow (SetLocal k e) start a b ys w = stays first a b w.5
    writes_grow (SetGlobal cell e) start a b ys w = stays first a b w.3
    writes_grow (SetElement array i e) start a b ys w = stays first a b w.5
    writes_grow (SetField p s f e) start a b ys w = stays first a b w.5
    writes_grow (Call k es result) start a b ys (lets, body, last, r, fresh, args, inside, w, e) =
        let le = bodies k (length es.items) a.fresh body r fresh inside in
        bound_grows first result r a b fresh last (omega (arith, le)) w
    writes_grow (Print e) start a b ys w = stays first a b w.3
    writes_grow (If' c m block) start a b ys (c', block', after, t, w, e, f) = blocks first a after b (row_grows block a after block'.items w) f
    writes_grow (IfElse' c m block k otherwise) start a b ys (c', block', otherwise', middle, after, t, w, w', e, f) =
        let one = blocks first a middle (behind_block a middle) (row_grows block a middle block'.items w) refl in
        blocks first a after b (grows_on first a (behind_block a middle) after one (row_grows otherwise (behind_block a middle) after otherwise'.items w')) f
    writes_grow (While' c m body) start a b ys (c', body', after, t, w, e, f) = blocks first a after b (row_grows body a after body'.items w) f

    pub row_grows : {m : _} (row : Row_of-Stmt m) (a b : At) (ys : List Stmt) → WritesRow Body row a ys b →
        Grows first a b
    row_grows end_of-Stmt a b ys w = stays first a b w.1
    row_grows (more_of-Stmt start x rest) a b ys (front, back, middle, w, ws, e) =
        grows_on first a middle b (writes_grow x start a middle front w) (row_grows rest middle b back ws)

  pub all_grow : (xs : List Stmt) (a b : At) (ys : List Stmt) → WritesAll Body xs a ys b → Grows first a b
  all_grow [] a b ys w = stays first a b w.1
  all_grow (x ∷ xs) a b ys (front, back, middle, w, ws, e) =
      grows_on first a middle b (writes_grow x.action x.start a middle front w) (all_grow xs middle b back ws)

pub helpers_grow : (shape : Shape) (depth : ℕ) → BodiesGrow (HelpersWritten shape depth)
helpers_grow shape zero helper count first body r fresh w = absurd w
helpers_grow shape (suc depth) helper count first body r fresh (h, is, e, (b, w, ends, own, f)) =
    let g = all_grow (HelpersWritten shape depth) (helpers_grow shape depth) first h.body.items (entered h.parameters first) b body w in
    let le = g.fresh in
    omega (arith, le, e, f)
