-- The edges noted between pairs of classes, section after section.
use Rattle.std.proofs.Common.{◌≡◌, ℕ, zero, suc, ◌+◌, ◌<◌, List, [], ◌∷◌, map, length, get_or, replicate, Option, Some}
use Rattle.std.proofs.Common.{None, inl, inr, refl, sym, ap, ◌∙◌, subst, arith}
use Rattle.std.specs.Prelude.{slice_index, slice_index_or, IsSome}
use Rattle.std.specs.List.{All}
use Rattle.std.proofs.lemmas.List.Elements.{All-cons, All-tail}
use Rattle.std.proofs.lemmas.Bool.{cases_lt}
use Rattle.std.proofs.lemmas.Option.{none-some, same_Some}
use Rattle.core_lang.specs.declared.typed.Typed.{Typed}
use Rattle.points.specs.declared.table.Points.{Points}
use Rattle.lockorder.specs.declared.ranks.Edge as written
use Rattle.lockorder.specs.declared.ranks.ClassPair.{ClassPair}
use Rattle.lockorder.specs.Edges.{Makes, MakesFirst, Edge}
use Rattle.lockorder.specs.Ranks.{AreDistinct, LeadTo, IsCycle}
use Rattle.lockorder.specs.Faults.{classes_of, second, AllMakeFirst, IsCycleOf}
use Rattle.lockorder.specs.Working.Sections.{MakesAt, MakesFirstAt}
use Rattle.lockorder.specs.ClassPairs.{classes_of_pair, IsMadeFirst}
use Rattle.lockorder.specs.Working.Tellings.{told_at, told_pair, around, AreAllTold, AreBetween, AreClosed, AreEdges, IsNotMade}
use Rattle.lockorder.specs.Working.Tellings.{IsToldOr, IsToldHere, AreToldMore, IsTold, AreTold}

-- ---- one section more

module _ (program : Typed) (k : ℕ) (x : Points) (makes : (c d used bound : ℕ) → MakesAt x c d used bound → Makes program k used bound c d)
    (made_at : (c d used bound : ℕ) → Makes program k used bound c d → MakesAt x c d used bound) where
  -- none of the sections before this one makes the edge
  made_first : (c d used bound : ℕ) → IsNotMade program k c d → MakesFirstAt x c d used bound →
      MakesFirst program k used bound c d
  made_first c d used bound none m = record {
    makes = makes c d used bound m.makes;
    lowest_section = λ n u b h. elim (cases_lt n k) [ inl less ↦ absurd (none n u b less h) | inr ge ↦ ge ];
    lowest_use = λ u b h. m.lowest_use u b (made_at c d u b h);
    lowest_binding = λ b h. m.lowest_binding b (made_at c d used b h);
  }

  told_more : (c d : ℕ) (old new : Option written.Edge) → IsTold program k c d old →
      IsToldOr (IsToldHere x k c d) ((used bound : ℕ) → MakesAt x c d used bound → ⊥) old new → IsTold program (k + 1) c d new
  told_more c d (Some e) new t m = subst (IsTold program (k + 1) c d) (sym m) t
  told_more c d None new t (inl (used, bound, e, m)) = subst (IsTold program (k + 1) c d) (sym e) (refl, made_first c d used bound t m)
  told_more c d None new t (inr (e, none)) = subst (IsTold program (k + 1) c d) (sym e) (λ j used bound lt m. elim (cases_lt j k) [
    | inl less ↦ t j used bound less m
    | inr ge ↦
        let at : j ≡ k = omega arith in none used bound (made_at c d used bound (subst (λ n. Makes program n used bound c d) at m))
  ])

  pub are_told_more : (classes : ℕ) (old new : List (Option written.Edge)) → AreTold program k classes old →
      AreToldMore x k classes old new → AreTold program (k + 1) classes new
  are_told_more classes old new t m = λ c d lc ld. told_more c d (told_at old c d) (told_at new c d) (t c d lc ld) (m c d lc ld)

abbrev pub item_at : List (Option written.Edge) → ℕ → Option written.Edge
item_at told i = slice_index_or told i None

pub none_told : (n i : ℕ) → item_at (replicate n None) i ≡ None
none_told zero i = refl
none_told (suc n) zero = refl
none_told (suc n) (suc i) = none_told n i

pub none_are_told : (program : Typed) (classes : ℕ) (told : List (Option written.Edge)) →
    ((c d : ℕ) → told_at told c d ≡ None) → AreTold program 0 classes told
none_are_told program classes told none =
    λ c d lc ld. subst (IsTold program 0 c d) (sym (none c d)) (λ k used bound less m. absurd (omega arith))

-- ---- all sections

module _ (program : Typed) where
  is_some_told : (c d sections : ℕ) (o : Option written.Edge) → IsTold program sections c d o →
      ((k used bound : ℕ) × (k < sections) × Makes program k used bound c d) → IsSome o
  is_some_told c d sections None t m = absurd (t m.0 m.1 m.2 m.3 m.4)
  is_some_told c d sections (Some e) t m = refl

  pub all_told : (pairs : List (ℕ × ℕ)) (told : List (Option written.Edge)) (sections classes : ℕ) → AreEdges program pairs →
      AreBetween classes pairs → AreTold program sections classes told →
      ((k used bound c d : ℕ) → Makes program k used bound c d → k < sections) → AreAllTold told pairs
  all_told pairs told sections classes h between t within i none lt =
      let pair = get_or pairs i none in
      let e = h i none lt in
      let b = between i none lt in
      is_some_told pair.0 pair.1 sections (told_pair told pair) (t pair.0 pair.1 b.0 b.1) (e.0, e.1, e.2, within e.0 e.1 e.2 _ _ e.3, e.3)

  made_of : (c d sections : ℕ) (o : Option written.Edge) (e : written.Edge) → IsTold program sections c d o →
      o ≡ Some e → (e.class ≡ c) × MakesFirst program e.section e.used e.bound c d
  made_of c d sections None e t is = absurd (none-some e is)
  made_of c d sections (Some f) e t is =
      let same : f ≡ e = same_Some f e is in subst (λ (y : written.Edge). (y.class ≡ c) × MakesFirst program y.section y.used y.bound c d) same t

  -- the pairs with their edges, and the claims on those pairs
  closed_pair : (sections c d : ℕ) (o : Option written.Edge) (x : ClassPair) → IsTold program sections c d o →
      Some x.edge ≡ o → x.next ≡ d → (classes_of_pair x ≡ (c, d)) × IsMadeFirst program x
  closed_pair sections c d o x t is next =
      let m = made_of c d sections o x.edge t (sym is) in (
        ap (λ n. (n, x.next)) m.0 ∙ ap (λ n. (c, n)) next,
        subst (λ n. MakesFirst program x.edge.section x.edge.used x.edge.bound n x.next) (sym m.0)
            (subst (λ n. MakesFirst program x.edge.section x.edge.used x.edge.bound c n) (sym next) m.1),
      )

  pub closed_pairs : (sections classes : ℕ) (pairs : List (ℕ × ℕ)) (told : List (Option written.Edge)) (closed : List ClassPair) →
      AreTold program sections classes told → AreBetween classes pairs → AreClosed pairs (told_pair told) closed →
      (map classes_of_pair closed ≡ pairs) × All (IsMadeFirst program) closed
  closed_pairs sections classes [] told [] t b a = (refl, λ k d lt. absurd (omega arith))
  closed_pairs sections classes [] told (x ∷ closed) t b a = absurd (omega (arith, ap length a.nexts))
  closed_pairs sections classes (pair ∷ pairs) told [] t b a = absurd (omega (arith, ap length a.nexts))
  closed_pairs sections classes (pair ∷ pairs) told (x ∷ closed) t b a =
      let within = b 0 (0, 0) (omega arith) in
      let edge : Some x.edge ≡ told_pair told pair = let e = a.edges in cc in
      let next : x.next ≡ pair.1 = let e = a.nexts in cc in
      let edges : map (λ (y : ClassPair). Some y.edge) closed ≡ map (told_pair told) pairs = let e = a.edges in cc in
      let nexts : map (λ (y : ClassPair). y.next) closed ≡ map (λ (y : ℕ × ℕ). y.1) pairs = let e = a.nexts in cc in
      let one = closed_pair sections pair.0 pair.1 (told_pair told pair) x (t pair.0 pair.1 within.0 within.1) edge next in
      let others = closed_pairs sections classes pairs told closed t (All-tail (λ (y : ℕ × ℕ). (y.0 < classes) × (y.1 < classes)) pair pairs b)
      (record { edges = edges; nexts = nexts }) in (
        ap (λ y. y ∷ map classes_of_pair closed) one.0 ∙ ap (λ l. pair ∷ l) others.0,
        All-cons (IsMadeFirst program) x closed one.1 others.1,
      )

  -- ---- a cycle

  pub lead_around : (first : ℕ) (list : List ℕ) → LeadTo (Edge program) first list →
      AreEdges program (around first list)
  lead_around first [] l = λ k d lt. absurd (omega arith)
  lead_around first (c ∷ []) l = All-cons (λ (pair : ℕ × ℕ). Edge program pair.0 pair.1) (c, first) [] l (λ k d lt. absurd (omega arith))
  lead_around first (c ∷ d ∷ rest) l = All-cons (λ (pair : ℕ × ℕ). Edge program pair.0 pair.1) (c, d) (around first (d ∷ rest)) l.0 (lead_around first (d ∷ rest) l.1)

  pub cycle_leads : (cycle : List ℕ) → IsCycle (Edge program) cycle →
      AreEdges program (around (slice_index cycle 0) cycle)
  cycle_leads [] h = absurd h
  cycle_leads (c ∷ rest) h = lead_around c (c ∷ rest) h.1

  classes_around : (first : ℕ) (list : List ℕ) (told : List ClassPair) →
      map classes_of_pair told ≡ around first list → classes_of (map (λ (z : ClassPair). z.edge) told) ≡ list
  classes_around first [] [] e = refl
  classes_around first [] (x ∷ told) e = absurd cc
  classes_around first (c ∷ list) [] e = absurd cc
  classes_around first (c ∷ list) (x ∷ told) e =
      let here : classes_of_pair x ≡ (c, second first list) = cc in
      let rest : map classes_of_pair told ≡ around first list = cc in
      ap (λ n. n ∷ classes_of (map (λ (z : ClassPair). z.edge) told)) (ap (λ (y : ℕ × ℕ). y.0) here) ∙ ap (λ l. c ∷ l) (classes_around first list told rest)

  make_around : (first : ℕ) (list : List ℕ) (told : List ClassPair) → map classes_of_pair told ≡ around first list →
      All (IsMadeFirst program) told →
      AllMakeFirst program first (map (λ (z : ClassPair). z.edge) told)
  make_around first list [] e m = tt
  make_around first [] (x ∷ told) e m = absurd cc
  make_around first (c ∷ []) (x ∷ []) e m =
      let next : x.next ≡ first = ap (λ (y : ℕ × ℕ). y.1) (let h : classes_of_pair x ≡ (c, first) = cc in h) in
      subst (MakesFirst program x.edge.section x.edge.used x.edge.bound x.edge.class) next (m 0 x (omega arith))
  make_around first (c ∷ d ∷ list) (x ∷ []) e m = absurd (omega (arith, ap length e))
  make_around first (c ∷ []) (x ∷ y ∷ told) e m = absurd (omega (arith, ap length e))
  make_around first (c ∷ d ∷ list) (x ∷ y ∷ told) e m =
      let here : classes_of_pair x ≡ (c, d) = cc in
      let rest : map classes_of_pair (y ∷ told) ≡ around first (d ∷ list) = cc in
      let there : classes_of_pair y ≡ (d, second first list) = cc in
      let next : x.next ≡ y.edge.class = ap (λ (z : ℕ × ℕ). z.1) here ∙ sym (ap (λ (z : ℕ × ℕ). z.0) there) in (
        subst (MakesFirst program x.edge.section x.edge.used x.edge.bound x.edge.class) next (m 0 x (omega arith)),
        make_around first (d ∷ list) (y ∷ told) rest (All-tail (IsMadeFirst program) x (y ∷ told) m),
      )

  pub told_cycle : (cycle : List ℕ) (told : List ClassPair) → IsCycle (Edge program) cycle →
      map classes_of_pair told ≡ around (slice_index cycle 0) cycle → All (IsMadeFirst program) told →
      IsCycleOf program (map (λ (z : ClassPair). z.edge) told)
  told_cycle [] told h e m = absurd h
  told_cycle (c ∷ cycle) [] h e m = absurd cc
  told_cycle (c ∷ cycle) (x ∷ told) h e m =
      let classes = classes_around c (c ∷ cycle) (x ∷ told) e in
      let first : x.edge.class ≡ c = ap (λ (z : ℕ × ℕ). z.0) (let h : classes_of_pair x ≡ (c, second c cycle) = cc in h) in (
        subst AreDistinct (sym classes) h.0,
        subst (λ n. AllMakeFirst program n (map (λ (z : ClassPair). z.edge) (x ∷ told))) (sym first) (make_around c (c ∷ cycle) (x ∷ told) e m),
      )
