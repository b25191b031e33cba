-- How the noted edges grow: pair after pair, path after path, point after point.
use Rattle.std.proofs.Common.{◌≡◌, ℕ, ◌+◌, ◌*◌, ◌<◌, ◌≤◌, false, List, length, set, Option, Some, None, inl, inr, refl, sym}
use Rattle.std.proofs.Common.{subst, arith}
use Rattle.std.specs.Prelude.{IsSome, MatchOption}
use Rattle.std.specs.Option.{is_some}
use Rattle.std.proofs.lemmas.Bool.{cases_lt, cases_eq}
use Rattle.std.proofs.lemmas.List.{get_or-set_same, get_or-set_other}
use Rattle.std.proofs.lemmas.Option.{slice_get_within}
use Rattle.locks.specs.declared.path_set.PathSet.{PathSet}
use Rattle.points.specs.declared.table.Points.{Points}
use Rattle.lockorder.specs.declared.ranks.Edge.{Edge}
use Rattle.lockorder.specs.declared.telling.Usage.{Usage}
use Rattle.lockorder.specs.Working.Sections.{IsIn, IsOfClass, UsesAt, MakesAt, IsFirstBehind}
use Rattle.lockorder.specs.Working.Sections.{IsNotBehind, HasAnyBehind, set_at}
use Rattle.lockorder.specs.Working.Tellings.{told_at, IsToldOr, EachIsToldOr, IsToldHere, AreToldMore, IsToldAt, TellsPoint}
use Rattle.lockorder.specs.Working.Tellings.{IsToldBy, TellsClass, TellsPair}
use Rattle.lockorder.proofs.InSection.{one_class, set_within}

-- ---- one step after another

stays : (T : Option Edge → Type 0) (T' : Option Edge → Type 0) (L' : Type 0) (mid new : Option Edge) → IsSome mid → T mid →
    IsToldOr T' L' mid new → T new
stays T T' L' None new some t h = absurd cc
stays T T' L' (Some e) new some t h = subst T (sym h) t

pub then_told : (T T' : Option Edge → Type 0) (L L' N : Type 0) (old mid new : Option Edge) → ((o : Option Edge) → T o → IsSome o) →
    (L → (o : Option Edge) → T' o → T o) → (L → L' → N) → IsToldOr T L old mid → IsToldOr T' L' mid new →
    IsToldOr T N old new
then_told T T' L L' N (Some e) mid new some to both first second = subst (λ o. IsToldOr T' L' o new) first second
then_told T T' L L' N None mid new some to both (inl t) second = inl (stays T T' L' mid new (some mid t) t second)
then_told T T' L L' N None mid new some to both (inr (none, lacks)) second =
    elim (subst (λ o. IsToldOr T' L' o new) none second) [ inl t ↦ inl (to lacks new t) | inr n ↦ inr (n.0, both lacks n.1) ]

-- no further edge is noted
pub as_it_was : (T : Option Edge → Type 0) (L : Type 0) (o : Option Edge) → (o ≡ None → L) → IsToldOr T L o o
as_it_was T L None lacks = inr (refl, lacks refl)
as_it_was T L (Some e) lacks = refl

lacks_too : (T : Option Edge → Type 0) (L N : Type 0) (old new : Option Edge) → (L → N) → IsToldOr T L old new → IsToldOr T N old new
lacks_too T L N None new to (inl t) = inl t
lacks_too T L N None new to (inr (e, l)) = inr (e, to l)
lacks_too T L N (Some e) new to h = h

pub is_some_by : (o : Option Edge) (e : Edge) → o ≡ Some e → IsSome o
is_some_by None e h = absurd cc
is_some_by (Some f) e h = refl

module _ (classes : ℕ) (T : ℕ → ℕ → Option Edge → Type 0) where
  pub each_lacks : (L N : ℕ → ℕ → Type 0) (old new : List (Option Edge)) → ((c d : ℕ) → L c d → N c d) →
      EachIsToldOr classes T L old new → EachIsToldOr classes T N old new
  each_lacks L N old new to h = λ c d lc ld. lacks_too (T c d) (L c d) (N c d) (told_at old c d) (told_at new c d) (to c d) (h c d lc ld)

  pub none_more : (L : ℕ → ℕ → Type 0) (old new : List (Option Edge)) → new ≡ old → ((c d : ℕ) → L c d) → EachIsToldOr classes T L old new
  none_more L old new e lacks =
      λ c d lc ld. subst (λ l. IsToldOr (T c d) (L c d) (told_at old c d) (told_at l c d)) (sym e) (as_it_was (T c d) (L c d) (told_at old c d) (λ none. lacks c d))

  pub each_then : (T' : ℕ → ℕ → Option Edge → Type 0) (L L' N : ℕ → ℕ → Type 0) (old mid new : List (Option Edge)) →
      ((c d : ℕ) (o : Option Edge) → T c d o → IsSome o) → ((c d : ℕ) → L c d → (o : Option Edge) → T' c d o → T c d o) →
      ((c d : ℕ) → L c d → L' c d → N c d) → EachIsToldOr classes T L old mid →
      EachIsToldOr classes T' L' mid new → EachIsToldOr classes T N old new
  each_then T' L L' N old mid new some to both first second =
      λ c d lc ld.
      then_told (T c d) (T' c d) (L c d) (L' c d) (N c d) (told_at old c d) (told_at mid c d) (told_at new c d) (some c d) (to c d) (both c d) (first c d lc ld)
      (second c d lc ld)

-- ---- one pair

module _ (x : Points) (usage : Usage) (next classes : ℕ) (old : List (Option Edge)) where
  pub pair_kept : (new : List (Option Edge)) → new ≡ old →
      (told_at old usage.class next ≡ None → IsNotBehind x usage.point next) → TellsPair x usage next classes old new
  pair_kept new e lacks =
      λ c d lc ld.
      subst (λ l. IsToldOr (IsToldBy x usage c d) (c ≡ usage.class → d ≡ next → IsNotBehind x usage.point d) (told_at old c d) (told_at l c d)) (sym e)
      (as_it_was (IsToldBy x usage c d) (c ≡ usage.class → d ≡ next → IsNotBehind x usage.point d) (told_at old c d)
      (λ none same same'.
      subst (IsNotBehind x usage.point) (sym same') (lacks (subst (λ k. told_at old usage.class k ≡ None) same' (subst (λ k. told_at old k d ≡ None) same none)))))

  module _ (few : classes ≤ 128) (long : length old ≡ 128 * classes) (lc : usage.class < classes) (ld : next < classes) (bound : ℕ)
      (first : IsFirstBehind x usage.point next bound) (none : told_at old usage.class next ≡ None) where
    abbrev edge : Edge
    edge = record { class = usage.class; section = usage.section; used = usage.point; bound = bound }

    abbrev with_edge : List (Option Edge)
    with_edge = set old (128 * usage.class + next) (Some edge)

    told_there : told_at with_edge usage.class next ≡ Some edge
    told_there = get_or-set_same old (128 * usage.class + next) (Some edge) None (omega (arith, few, long, lc, ld))

    others : (c d : ℕ) → d < classes → ((c ≡ usage.class) × (d ≡ next) → ⊥) → told_at with_edge c d ≡ told_at old c d
    others c d lt ne =
        get_or-set_other old (128 * usage.class + next) (128 * c + d) (Some edge) None
        (λ e. let same : c ≡ usage.class = omega (arith, few, lt, ld, e) in let same' : d ≡ next = omega (arith, few, lt, ld, e) in ne (same, same'))

    one_told : (c d : ℕ) → c < classes → d < classes →
        IsToldOr (IsToldBy x usage c d) (c ≡ usage.class → d ≡ next → IsNotBehind x usage.point d) (told_at old c d) (told_at with_edge c d)
    one_told c d mc md = elim (cases_eq c usage.class) [
      | inl e ↦ elim (cases_eq d next) [
        | inl f ↦
            subst (λ k. IsToldOr (IsToldBy x usage k d) (k ≡ usage.class → d ≡ next → IsNotBehind x usage.point d) (told_at old k d) (told_at with_edge k d)) (sym e)
            (subst
            (λ j. IsToldOr (IsToldBy x usage usage.class j) (usage.class ≡ usage.class → j ≡ next → IsNotBehind x usage.point j) (told_at old usage.class j) (told_at with_edge usage.class j))
            (sym f)
            (subst
            (λ o. IsToldOr (IsToldBy x usage usage.class next) (usage.class ≡ usage.class → next ≡ next → IsNotBehind x usage.point next) o (told_at with_edge usage.class next))
            (sym none) (inl (refl, (bound, told_there, first)))))
        | inr nf ↦ other c d md (λ h. nf h.1)
      ]
      | inr ne ↦ other c d md (λ h. ne h.0)
    ]
      where
        other : (c d : ℕ) → d < classes → ((c ≡ usage.class) × (d ≡ next) → ⊥) →
            IsToldOr (IsToldBy x usage c d) (c ≡ usage.class → d ≡ next → IsNotBehind x usage.point d) (told_at old c d) (told_at with_edge c d)
        other c d lt ne =
            subst (IsToldOr (IsToldBy x usage c d) (c ≡ usage.class → d ≡ next → IsNotBehind x usage.point d) (told_at old c d)) (sym (others c d lt ne))
            (as_it_was (IsToldBy x usage c d) (c ≡ usage.class → d ≡ next → IsNotBehind x usage.point d) (told_at old c d) (λ n e f. absurd (ne (e, f))))

    pub pair_told : (new : List (Option Edge)) → new ≡ with_edge → TellsPair x usage next classes old new
    pair_told new e =
        λ c d mc md.
        subst
        (λ l. IsToldOr (IsToldBy x usage c d) (c ≡ usage.class → d ≡ next → IsNotBehind x usage.point d) (told_at old c d) (told_at l c d))
        (sym e) (one_told c d mc md)

-- ---- one path after another

-- no path before this one leads to the class
abbrev pub ClassLacks : Points → Usage → PathSet → ℕ → ℕ → ℕ → Type 0
ClassLacks x usage behind n c d = (i : ℕ) → i < n → IsIn behind i → IsOfClass x d i → c ≡ usage.class → IsNotBehind x usage.point d

abbrev pub PointLacks : Points → ℕ → PathSet → ℕ → ℕ → ℕ → Type 0
PointLacks x point used n c d = (i : ℕ) → i < n → IsIn used i → IsOfClass x c i → IsNotBehind x point d

-- no path of a point before this one leads to the class
abbrev pub SectionLacks : Points → ℕ → ℕ → ℕ → Type 0
SectionLacks x n c d = (used bound : ℕ) → used < n → MakesAt x c d used bound → ⊥

by_some : (x : Points) (usage : Usage) (c d : ℕ) (o : Option Edge) → IsToldBy x usage c d o → IsSome o
by_some x usage c d o h = is_some_by o (record { class = usage.class; section = usage.section; used = usage.point; bound = h.1.0 }) h.1.1

at_some : (x : Points) (section point c d : ℕ) (o : Option Edge) → IsToldAt x section point c d o → IsSome o
at_some x section point c d o h = is_some_by o (record { class = c; section = section; used = point; bound = h.0 }) h.1

here_some : (x : Points) (section c d : ℕ) (o : Option Edge) → IsToldHere x section c d o → IsSome o
here_some x section c d o h = is_some_by o (record { class = c; section = section; used = h.0; bound = h.1 }) h.2

module _ (x : Points) (usage : Usage) (behind : PathSet) (classes n : ℕ) (old mid new : List (Option Edge))
    (first : EachIsToldOr classes (IsToldBy x usage) (ClassLacks x usage behind n) old mid) where
  pub class_next : (here : ℕ) → IsOfClass x here n → TellsPair x usage here classes mid new →
      EachIsToldOr classes (IsToldBy x usage) (ClassLacks x usage behind (n + 1)) old new
  class_next here at second =
      each_then classes (IsToldBy x usage) (IsToldBy x usage) (ClassLacks x usage behind n)
      (λ c d. c ≡ usage.class → d ≡ here → IsNotBehind x usage.point d) (ClassLacks x usage behind (n + 1)) old mid new (by_some x usage) (λ c d l o t. t) both first second
    where
      both : (c d : ℕ) → ClassLacks x usage behind n c d → (c ≡ usage.class → d ≡ here → IsNotBehind x usage.point d) →
          ClassLacks x usage behind (n + 1) c d
      both c d l more = λ i lt inside of is. elim (cases_lt i n) [
        | inl less ↦ l i less inside of is
        | inr ge ↦ let e : i ≡ n = omega (arith, ge, lt) in more is (one_class x n d here (subst (IsOfClass x d) e of) at)
      ]

  pub class_skip : (IsIn behind n → ⊥) → new ≡ mid →
      EachIsToldOr classes (IsToldBy x usage) (ClassLacks x usage behind (n + 1)) old new
  class_skip none e =
      each_lacks classes (IsToldBy x usage) (ClassLacks x usage behind n) (ClassLacks x usage behind (n + 1)) old new longer
      (subst (EachIsToldOr classes (IsToldBy x usage) (ClassLacks x usage behind n) old) (sym e) first)
    where
      longer : (c d : ℕ) → ClassLacks x usage behind n c d → ClassLacks x usage behind (n + 1) c d
      longer c d l = λ i lt inside of is. elim (cases_lt i n) [
        | inl less ↦ l i less inside of is
        | inr ge ↦ let e : i ≡ n = omega (arith, ge, lt) in absurd (none (subst (IsIn behind) e inside))
      ]

pub class_starts : (x : Points) (usage : Usage) (behind : PathSet) (classes : ℕ) (old new : List (Option Edge)) → new ≡ old →
    EachIsToldOr classes (IsToldBy x usage) (ClassLacks x usage behind 0) old new
class_starts x usage behind classes old new e =
    none_more classes (IsToldBy x usage) (ClassLacks x usage behind 0) old new e (λ c d i lt. absurd (omega (arith, lt)))

pub class_ends : (x : Points) (usage : Usage) (behind : PathSet) (classes n : ℕ) (old new : List (Option Edge)) → length x.classes.items ≤ n →
    HasAnyBehind x usage.point behind →
    EachIsToldOr classes (IsToldBy x usage) (ClassLacks x usage behind n) old new → TellsClass x usage classes old new
class_ends x usage behind classes n old new all any h =
    each_lacks classes (IsToldBy x usage) (ClassLacks x usage behind n) (λ c d. c ≡ usage.class → IsNotBehind x usage.point d) old new
    (λ c d l is b bb.
    let i = any d b bb in l i.0 (omega (arith, all, slice_get_within x.classes.items i.0 d i.2)) i.1 i.2 is b bb)
    h

module _ (x : Points) (section point : ℕ) (classes n : ℕ) (old mid new : List (Option Edge)) where
  abbrev pub at_point : PathSet
  at_point = set_at x.used.items point

  pub point_next : (here : ℕ) → IsOfClass x here n → IsIn at_point n →
      EachIsToldOr classes (IsToldAt x section point) (PointLacks x point at_point n) old mid →
      TellsClass x (record { section = section; point = point; class = here }) classes mid new →
      EachIsToldOr classes (IsToldAt x section point) (PointLacks x point at_point (n + 1)) old new
  point_next here at inside first second =
      each_then classes (IsToldAt x section point) (IsToldBy x usage) (PointLacks x point at_point n)
      (λ c d. c ≡ here → IsNotBehind x point d) (PointLacks x point at_point (n + 1)) old mid new (at_some x section point) to both first second
    where
      usage : Usage
      usage = record { section = section; point = point; class = here }

      to : (c d : ℕ) → PointLacks x point at_point n c d → (o : Option Edge) → IsToldBy x usage c d o → IsToldAt x section point c d o
      to c d l o (e, (bound, told, lowest)) = subst (λ k. IsToldAt x section point k d o) (sym e) (bound, told, (n, inside, at), lowest)

      both : (c d : ℕ) → PointLacks x point at_point n c d → (c ≡ here → IsNotBehind x point d) →
          PointLacks x point at_point (n + 1) c d
      both c d l more = λ i lt inn of. elim (cases_lt i n) [
        | inl less ↦ l i less inn of
        | inr ge ↦ let e : i ≡ n = omega (arith, ge, lt) in more (one_class x n c here (subst (IsOfClass x c) e of) at)
      ]

  pub point_skip : (IsIn at_point n → ⊥) → new ≡ mid →
      EachIsToldOr classes (IsToldAt x section point) (PointLacks x point at_point n) old mid →
      EachIsToldOr classes (IsToldAt x section point) (PointLacks x point at_point (n + 1)) old new
  point_skip none e first =
      each_lacks classes (IsToldAt x section point) (PointLacks x point at_point n) (PointLacks x point at_point (n + 1)) old new longer
      (subst (EachIsToldOr classes (IsToldAt x section point) (PointLacks x point at_point n) old) (sym e) first)
    where
      longer : (c d : ℕ) → PointLacks x point at_point n c d → PointLacks x point at_point (n + 1) c d
      longer c d l = λ i lt inside of. elim (cases_lt i n) [
        | inl less ↦ l i less inside of
        | inr ge ↦ let e : i ≡ n = omega (arith, ge, lt) in absurd (none (subst (IsIn at_point) e inside))
      ]

pub point_starts : (x : Points) (section point classes : ℕ) (old new : List (Option Edge)) → new ≡ old →
    EachIsToldOr classes (IsToldAt x section point) (PointLacks x point (set_at x.used.items point) 0) old new
point_starts x section point classes old new e =
    none_more classes (IsToldAt x section point) (PointLacks x point (set_at x.used.items point) 0) old new e (λ c d i lt. absurd (omega (arith, lt)))

pub point_ends : (x : Points) (section point classes n : ℕ) (old new : List (Option Edge)) → length x.classes.items ≤ n →
    EachIsToldOr classes (IsToldAt x section point) (PointLacks x point (set_at x.used.items point) n) old new →
    TellsPoint x section point classes old new
point_ends x section point classes n old new all h =
    each_lacks classes (IsToldAt x section point) (PointLacks x point (set_at x.used.items point) n) (λ c d. UsesAt x point c → IsNotBehind x point d) old new
    (λ c d l uses. l uses.0 (omega (arith, all, slice_get_within x.classes.items uses.0 c uses.2)) uses.1 uses.2) h

-- ---- one point after another

pub section_next : (x : Points) (section classes n : ℕ) (old mid new : List (Option Edge)) →
    EachIsToldOr classes (IsToldHere x section) (SectionLacks x n) old mid → TellsPoint x section n classes mid new →
    EachIsToldOr classes (IsToldHere x section) (SectionLacks x (n + 1)) old new
section_next x section classes n old mid new first second =
    each_then classes (IsToldHere x section) (IsToldAt x section n) (SectionLacks x n) (λ c d. UsesAt x n c → IsNotBehind x n d)
    (SectionLacks x (n + 1)) old mid new (here_some x section) to both first second
  where
    to : (c d : ℕ) → SectionLacks x n c d → (o : Option Edge) → IsToldAt x section n c d o → IsToldHere x section c d o
    to c d l o (bound, told, uses, lowest) = (
      n,
      bound,
      told,
      record {
        makes = ((uses, lowest.0.0), lowest.0.1);
        lowest_use = λ u b m. elim (cases_lt u n) [ inl less ↦ absurd (l u b less m) | inr ge ↦ ge ];
        lowest_binding = λ b m. lowest.1 b (m.0.1, m.1);
      },
    )

    both : (c d : ℕ) → SectionLacks x n c d → (UsesAt x n c → IsNotBehind x n d) → SectionLacks x (n + 1) c d
    both c d l more = λ used bound lt m. elim (cases_lt used n) [
      | inl less ↦ l used bound less m
      | inr ge ↦
          let e : used ≡ n = omega (arith, ge, lt) in
          let here = subst (λ u. MakesAt x c d u bound) e m in
          more here.0.0 bound (here.0.1, here.1)
    ]

pub section_starts : (x : Points) (section classes : ℕ) (old new : List (Option Edge)) → new ≡ old →
    EachIsToldOr classes (IsToldHere x section) (SectionLacks x 0) old new
section_starts x section classes old new e =
    none_more classes (IsToldHere x section) (SectionLacks x 0) old new e (λ c d used bound lt. absurd (omega (arith, lt)))

pub section_ends : (x : Points) (section classes n : ℕ) (old new : List (Option Edge)) → length x.used.items ≤ n →
    EachIsToldOr classes (IsToldHere x section) (SectionLacks x n) old new → AreToldMore x section classes old new
section_ends x section classes n old new all h =
    each_lacks classes (IsToldHere x section) (SectionLacks x n) (λ c d. (used bound : ℕ) → MakesAt x c d used bound → ⊥) old new
    (λ c d l used bound m. l used bound (omega (arith, all, set_within x.used.items used m.0.0.0 m.0.0.1)) m) h

-- ---- whether an edge is noted

pub not_told : (o : Option Edge) → is_some o ≡ false → o ≡ None
not_told None e = refl
not_told (Some e) h = absurd cc

pub match_none : {X : Type 0} (A : Type 0) (B : X → Type 0) (o : Option X) → MatchOption o A B →
    ((x : X) → o ≡ Some x → ⊥) → A
match_none A B None h none = h
match_none A B (Some x) h none = absurd (none x refl)
