-- The edges added to a table, and the results of loops over points and paths.
use Rattle.std.proofs.Common.{◌≡◌, ◌≢◌, ◌∙◌, ℕ, ◌+◌, ◌<◌, ◌≤◌, Bool, true, false, ◌||◌, ◌&&◌, List, [], ◌∷◌, ◌++◌}
use Rattle.std.proofs.Common.{length, drop, get_or, set, Some, None, inl, inr, append-nil, sym, ap, subst, arith}
use Rattle.std.specs.Prelude.{◌==◌, slice_get}
use Rattle.std.specs.Bool.{Decides}
use Rattle.std.proofs.lemmas.Bool.{and_parts, cases_eq, eq-eqb, eqb-true, false_from_ne_true, or_cases, or_left}
use Rattle.std.proofs.lemmas.Bool.{or_right}
use Rattle.std.proofs.lemmas.List.{get_or-set_same, get_or-set_other, get_or_read}
use Rattle.std.proofs.lemmas.Option.{none-some, same_Some, slice_get_within}
use Rattle.std.proofs.Math.ListN.{length-set}
use Rattle.core_lang.specs.declared.typed.Typed.{Typed}
use Rattle.locks.specs.declared.path_set.PathSet.{PathSet}
use Rattle.locks.specs.Sets.{has}
use Rattle.locks.specs.Texts.{class_name}
use Rattle.points.specs.declared.table.Points.{Points}
use Rattle.bit_set.specs.declared.set.BitSet.{BitSet}
use Rattle.lockorder.specs.declared.ranks.Edge.{Edge}
use Rattle.lockorder.specs.Faults.{arrows, classes_of, cycle_text}
use Rattle.lockorder.specs.Working.Sections.{BindsAt, IsOfClass, MakesSomewhere, UsesSoFar}
use Rattle.lockorder.specs.Working.Tables.{has_edge, no_classes, InSet, InTable, LeadsWithin}
use Rattle.bit_set.specs.Working.Sets.{has_number}
use Rattle.lockorder.proofs.InSection.{Below, one_class, set_within}
use Rattle.bit_set.specs.Theory.Bits.{or_none}
use Rattle.core_lang.specs.Theory.Items.{drop_past}

-- ---- numbers below a bound that several terms denote

pub below_same : (n a b : ℕ) → n < a → b ≡ a → n < b
below_same n a b lt e = omega arith

pub below_end : (n a b c : ℕ) → n < a → a ≡ b → b ≡ c → n < c
below_end n a b c lt e d = omega arith

pub end_passed : (n a b c : ℕ) → a ≤ n → a ≡ b → b ≡ c → c ≤ n
end_passed n a b c le e d = omega arith

pub below_few : (n a b : ℕ) → n < b → a ≡ b → a ≤ 128 → n < 128
below_few n a b lt e le = omega arith

below_passed : (n a b : ℕ) → n < a → a ≤ b → n < b
below_passed n a b lt le = omega arith

less : (a b : ℕ) → a < b → a < b + 1
less a b lt = omega arith

equal : (a b : ℕ) → a ≡ b → a < b + 1
equal a b e = omega arith

other : (a b : ℕ) → a < b + 1 → a ≢ b → a < b
other a b lt ne = omega arith

-- ---- an edge from each class of a set to one

module _ (before : List BitSet) (to : ℕ) (from old union : BitSet) (lt : to < length before) (is : old ≡ get_or before to old)
    (unites : (c : ℕ) → has_number union c ≡ (has_number old c || has_number from c)) where
  pub each_added : (c d : ℕ) →
      has_edge (set before to union) c d ≡ (has_edge before c d || (d == to && has_number from c))
  each_added c d = elim (cases_eq d to) [
    | inl e ↦
        ap (λ (k : ℕ). has_number (get_or (set before to union) k no_classes) c) e
        ∙ ap (λ (s : BitSet). has_number s c) (get_or-set_same before to union no_classes lt) ∙ unites c
        ∙ ap (λ (s : BitSet). has_number s c || has_number from c) (get_or_read before to old lt is no_classes ∙ ap (λ (k : ℕ). get_or before k no_classes) (sym e))
        ∙ ap (λ (b : Bool). has_edge before c d || (b && has_number from c)) (sym (eq-eqb d to e))
    | inr ne ↦
        ap (λ (s : BitSet). has_number s c) (get_or-set_other before to d union no_classes ne) ∙ or_none (has_edge before c d)
        ∙ ap (λ (b : Bool). has_edge before c d || (b && has_number from c)) (sym (false_from_ne_true (d == to) (λ t. ne (eqb-true d to t))))
  ]

  pub still_few : length before ≤ 128 → length (set before to union) ≤ 128
  still_few le = subst (λ (n : ℕ). n ≤ 128) (sym (length-set before to union)) le

  pub still_within : LeadsWithin before → ((c : ℕ) → InSet from c → c < length before) → (c d : ℕ) →
      InTable (set before to union) c d → c < length (set before to union)
  still_within within new c d h =
      subst (λ (n : ℕ). c < n) (sym (length-set before to union)) (elim (or_cases (has_edge before c d) (d == to && has_number from c) (sym (each_added c d) ∙ h)) [
        | inl there ↦ within c d there
        | inr more ↦ new c (and_parts (d == to) (has_number from c) more).1
      ])

-- ---- the paths of a class, path by path

module _ (x : Points) (class n here i : ℕ) (at : IsOfClass x here n) (old : PathSet) (so_far : Decides (has old i) ((i < n) × IsOfClass x class i)) where
  pub path_with : (new : PathSet) → here ≡ class → has new i ≡ (has old i || (i == n)) →
      Decides (has new i) ((i < n + 1) × IsOfClass x class i)
  path_with new same more = (
    λ h. elim (or_cases (has old i) (i == n) (sym more ∙ h)) [
      | inl o ↦ (let p = so_far.0 o in (less i n p.0, p.1))
      | inr e ↦ (let k = eqb-true i n e in (equal i n k, subst (λ (j : ℕ). IsOfClass x class j) (sym k) (subst (λ (b : ℕ). IsOfClass x b n) same at)))
    ],
    λ p. more ∙ elim (cases_eq i n) [
      | inl e ↦ or_right (has old i) (i == n) (eq-eqb i n e)
      | inr ne ↦ or_left (has old i) (i == n) (so_far.1 (other i n p.0 ne, p.1))
    ],
  )

  pub path_without : (here ≡ class → ⊥) → Decides (has old i) ((i < n + 1) × IsOfClass x class i)
  path_without differs = (
    λ h. let p = so_far.0 h in (less i n p.0, p.1),
    λ p. elim (cases_eq i n) [
      | inl e ↦ absurd (differs (one_class x n here class at (subst (λ (j : ℕ). IsOfClass x class j) e p.1)))
      | inr ne ↦ so_far.1 (other i n p.0 ne, p.1)
    ],
  )

pub each_path : (x : Points) (class n i : ℕ) (paths : PathSet) → length x.classes.items ≤ n →
    Decides (has paths i) ((i < n) × IsOfClass x class i) →
    Decides (has paths i) (IsOfClass x class i)
each_path x class n i paths past d = (
  λ h. (d.0 h).1,
  λ of. d.1 (below_passed i (length x.classes.items) n (slice_get_within x.classes.items i class of) past, of),
)

-- ---- no point makes an edge

pub none_makes : (x : Points) (from to n : ℕ) → length x.bound.items ≤ n →
    (Below (λ p. UsesSoFar x p from × BindsAt x p to) n → ⊥) →
    (false ≡ true → MakesSomewhere x from to) × (MakesSomewhere x from to → false ≡ true)
none_makes x from to n past none = (
  λ e. absurd (let bad : false ≡ true = e in cc),
  λ h. absurd (none (h.0, below_passed h.0 (length x.bound.items) n (set_within x.bound.items h.0 h.2.0 h.2.1) past, (h.1, h.2))),
)

-- ---- the text of a cycle

module _ (program : Typed) (was : List ℕ) where
  pub all_arrows : (edges : List Edge) (i : ℕ) → length edges ≤ i →
      was ++ arrows program (classes_of (drop i edges)) ≡ arrows program (classes_of edges) →
      was ≡ arrows program (classes_of edges)
  all_arrows edges i past e = sym (append-nil was) ∙ ap (λ (es : List Edge). was ++ arrows program (classes_of es)) (sym (drop_past edges i past)) ∙ e

  pub with_first : (edges : List Edge) (x : Edge) (now : List ℕ) → Some x ≡ slice_get edges 0 →
      was ≡ arrows program (classes_of edges) → now ≡ was ++ class_name program x.class →
      now ≡ cycle_text program (classes_of edges)
  with_first [] x now at all e = absurd (none-some x (sym at))
  with_first (y ∷ ys) x now at all e =
      e ∙ ap (λ (t : List ℕ). t ++ class_name program x.class) all
      ∙ ap (λ (z : Edge). arrows program (classes_of (y ∷ ys)) ++ class_name program z.class) (same_Some x y at)

  pub with_none : (edges : List Edge) → None ≡ slice_get edges 0 → was ≡ arrows program (classes_of edges) →
      was ≡ cycle_text program (classes_of edges)
  with_none [] at all = all
  with_none (y ∷ ys) at all = absurd (none-some y at)
