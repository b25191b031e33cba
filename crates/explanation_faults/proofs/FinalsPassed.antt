-- Along annotations: the code finds the first member that is not a final reference, or the final reference that is one
-- too many.
use Rattle.std.proofs.Common.{◌≡◌, ◌∙◌, ◌+◌, ◌≤◌, ℕ, Bool, true, false, List, [], ◌∷◌, ◌++◌, length, Option, Some, None}
use Rattle.std.proofs.Common.{refl, sym, ap, ap₂, subst, eq-eqb, length-append}
use Rattle.std.specs.List.{cons_option, filter_map}
use Rattle.std.specs.Option.{option_or}
use Rattle.std.specs.Prelude.{◌==◌, ◌&&◌, nat_le, if◌then◌else◌, slice_get}
use Rattle.std.proofs.lemmas.Bool.{eqb-true, leb-true, le-leb, and_parts, and_from}
use Rattle.std.proofs.lemmas.Option.{same_Some}
use Rattle.resolution.specs.Annotations.{AnnotationCursor, at_struct, cursor_at, through_member}
use Rattle.resolution.specs.Constants.{members_in}
use Rattle.resolution.specs.Expressions.{member_number}
use Rattle.resolution.specs.Faults.{Reaches, stays, goes_on, walks}
use Rattle.resolution.specs.Limits.{FINAL_LIMIT}
use Rattle.resolution.specs.Scopes.{the_decl, the_member}
use Rattle.resolution.specs.Where.{Has, annotates}
use Rattle.syntax.specs.Trees.{Ident, Field, Final, Protection, Struct, Member, lock_member, final_member, field_member}
use Rattle.syntax.specs.Trees.{Decl, lock, struct, global, array, pool, init, atomic, helper, thread}
use Rattle.explanation_names.specs.FirstBy.{first_by}
use Rattle.explanation_faults.specs.LimitsPassed.{AreFinalsPassed, finals_passed}
use Rattle.explanation_names.specs.Working.PassedFound.{beyond, met_along, met_at, met_by, met_for, met_of}
use Rattle.explanation_names.specs.PassedMembers.{next_members, passed_along, passed_at, passed_by, passed_for}
use Rattle.explanation_names.specs.PassedMembers.{passed_of, stopped_at}
use Rattle.explanation_names.specs.declared.passed_members.Sought.TheVariants.{NonFinal, FinalTooMany}
use Rattle.explanation_faults.proofs.FirstBy.{some_first, first_from}
use Rattle.explanation_faults.proofs.PassedMembers.{gone_on}
use Rattle.explanation_faults.proofs.Places.{at_has, has_at}

-- ---- a member that is not a final reference

same_by : {A B : Type 0} (f g : A → Option B) → ((x : A) → f x ≡ g x) → (xs : List A) →
    filter_map f xs ≡ filter_map g xs
same_by f g same [] = refl
same_by f g same (x ∷ xs) = ap₂ cons_option (same x) (same_by f g same xs)

same_first : {A B : Type 0} (f g : A → Option B) → ((x : A) → f x ≡ g x) → (xs : List A) → first_by f xs ≡ first_by g xs
same_first f g same xs = ap (λ l. slice_get l 0) (same_by f g same xs)

module _ (decls : List Decl) (at : ℕ) where
  along_same : (first : Ident) (n : ℕ) (members : Option (List Member)) (y : Ident) (zs : List Ident) →
      met_along (NonFinal at) decls first n members y zs ≡ passed_along decls at members y zs
  along_same first n members y [] = refl
  along_same first n None y (z ∷ zs) = refl
  along_same first n (Some ms) y (z ∷ zs) =
      ap (option_or (stopped_at at y (the_member ms y.text))) (along_same first (n + 1) (next_members decls (the_member ms y.text)) z zs)

  by_same : (ms : List Member) (p : Option Protection) → met_by (NonFinal at) decls ms p ≡ passed_by decls at ms p
  by_same ms None = refl
  by_same ms (Some p) = along_same p.first 0 (Some ms) p.first p.rest

  for_same : (ms : List Member) (m : Member) → met_for (NonFinal at) decls ms m ≡ passed_for decls at ms m
  for_same ms (lock_member x) = refl
  for_same ms (final_member f) = refl
  for_same ms (field_member f) = by_same ms f.protection

  of_same : (d : Decl) → met_of (NonFinal at) decls d ≡ passed_of decls at d
  of_same (struct s) = same_first (met_for (NonFinal at) decls s.members) (passed_for decls at s.members) (for_same s.members) s.members
  of_same (lock x) = refl
  of_same (global x) = refl
  of_same (array x) = refl
  of_same (pool x) = refl
  of_same (init x) = refl
  of_same (atomic x) = refl
  of_same (helper x) = refl
  of_same (thread x) = refl

  pub at_same : met_at (NonFinal at) decls ≡ passed_at decls at
  at_same = same_first (met_of (NonFinal at) decls) (passed_of decls at) of_same decls

-- ---- a final reference that is one too many

or_some : {A : Type 0} (o p : Option A) (x : A) → p ≡ Some x → (y : A) × (option_or o p ≡ Some y)
or_some (Some w) p x is = (w, refl)
or_some None p x is = (x, is)

longer_at : (through : List ℕ) (n : ℕ) (o : Option (ℕ × Decl)) (next : AnnotationCursor) →
    at_struct through n o ≡ Some next →
    length next.through ≡ length through + 1
longer_at through n None next e = absurd cc
longer_at through n (Some (i, struct s)) next e =
    ap (λ (c : AnnotationCursor). length c.through) (sym (same_Some _ next e)) ∙ length-append through (n ∷ [])
longer_at through n (Some (i, lock x)) next e = absurd cc
longer_at through n (Some (i, global x)) next e = absurd cc
longer_at through n (Some (i, array x)) next e = absurd cc
longer_at through n (Some (i, pool x)) next e = absurd cc
longer_at through n (Some (i, init x)) next e = absurd cc
longer_at through n (Some (i, atomic x)) next e = absurd cc
longer_at through n (Some (i, helper x)) next e = absurd cc
longer_at through n (Some (i, thread x)) next e = absurd cc

longer : (decls : List Decl) (st next : AnnotationCursor) (o : Option (ℕ × Member)) →
    through_member decls st o ≡ Some next →
    length next.through ≡ length st.through + 1
longer decls st next None e = absurd cc
longer decls st next (Some (i, lock_member x)) e = absurd cc
longer decls st next (Some (i, field_member x)) e = absurd cc
longer decls st next (Some (i, final_member f)) e =
    longer_at st.through (member_number st.members i (final_member f)) (the_decl decls f.target.text) next e

own_of : (decls : List Decl) (st next : AnnotationCursor) (o : Option (ℕ × Member)) →
    through_member decls st o ≡ Some next →
    (own : ℕ × Member) × (o ≡ Some own)
own_of decls st next None e = absurd cc
own_of decls st next (Some own) e = (own, refl)

has_own : (decls : List Decl) (st to : AnnotationCursor) (y name : Ident) (zs rest : List Ident) (x : ℕ × Member) →
    Reaches decls st y zs to name rest →
    the_member to.members name.text ≡ Some x → (own : ℕ × Member) × (the_member st.members y.text ≡ Some own)
has_own decls st to y name zs rest x stays here = (x, here)
has_own decls st to y name zs rest x (goes_on {next = next} step on) here = own_of decls st next (the_member st.members y.text) step

module _ (decls : List Decl) (at : ℕ) (m : Member) where
  -- the member at which a walk over `n` final references stops
  abbrev comes : Ident → ℕ → Option (List Member) → Ident → List Ident → Option Member
  comes first n members y zs = met_along (FinalTooMany at) decls first n members y zs

  record FarFrom (first : Ident) (st : AnnotationCursor) (y : Ident) (zs : List Ident) : Type 0 where
    to : AnnotationCursor
    name : Ident
    next : Ident
    rest : List Ident
    i : ℕ
    reference : Final
    reaches : Reaches decls st y zs to name (next ∷ rest)
    found : the_member to.members name.text ≡ Some (i, final_member reference)
    far : FINAL_LIMIT ≤ length to.through
    begins : first.span.start ≡ at

  abbrev Onward : Ident → AnnotationCursor → Ident → Ident → List Ident → Type 0
  Onward first st y z zs =
      (next : AnnotationCursor) → through_member decls st (the_member st.members y.text) ≡ Some next →
      comes first (length next.through) (Some next.members) z zs ≡ Some m → FarFrom first next z zs

  nothing_along : (first : Ident) (n : ℕ) (y : Ident) (zs : List Ident) → comes first n None y zs ≡ Some m → ⊥
  nothing_along first n y [] e = absurd cc
  nothing_along first n y (z ∷ zs) e = absurd cc

  further_on : (first : Ident) (st next : AnnotationCursor) (y z : Ident) (zs : List Ident) →
      through_member decls st (the_member st.members y.text) ≡ Some next →
      FarFrom first next z zs → FarFrom first st y (z ∷ zs)
  further_on first st next y z zs step far = record {
    to = far.to;
    name = far.name;
    next = far.next;
    rest = far.rest;
    i = far.i;
    reference = far.reference;
    reaches = goes_on step far.reaches;
    found = far.found;
    far = far.far;
    begins = far.begins;
  }

  from_next : (first : Ident) (st : AnnotationCursor) (y z : Ident) (zs : List Ident) (i : ℕ) (f : Final) (o : Option (ℕ × Decl)) →
      the_member st.members y.text ≡ Some (i, final_member f) → the_decl decls f.target.text ≡ o →
      comes first (length st.through + 1) (members_in o) z zs ≡ Some m → Onward first st y z zs → FarFrom first st y (z ∷ zs)
  from_next first st y z zs i f (Some (j, struct s)) here is e on =
      let k = member_number st.members i (final_member f) in
      let next : AnnotationCursor = record { structure = j; members = s.members; through = st.through ++ k ∷ [] } in
      let step : through_member decls st (the_member st.members y.text) ≡ Some next = ap (through_member decls st) here ∙ ap (at_struct st.through k) is in
      let long : length next.through ≡ length st.through + 1 = length-append st.through (k ∷ []) in
      further_on first st next y z zs step (on next step (ap (λ n. comes first n (Some s.members) z zs) long ∙ e))
  from_next first st y z zs i f None here is e on = absurd (nothing_along first (length st.through + 1) z zs e)
  from_next first st y z zs i f (Some (j, lock x)) here is e on = absurd (nothing_along first (length st.through + 1) z zs e)
  from_next first st y z zs i f (Some (j, global x)) here is e on = absurd (nothing_along first (length st.through + 1) z zs e)
  from_next first st y z zs i f (Some (j, array x)) here is e on = absurd (nothing_along first (length st.through + 1) z zs e)
  from_next first st y z zs i f (Some (j, pool x)) here is e on = absurd (nothing_along first (length st.through + 1) z zs e)
  from_next first st y z zs i f (Some (j, init x)) here is e on = absurd (nothing_along first (length st.through + 1) z zs e)
  from_next first st y z zs i f (Some (j, atomic x)) here is e on = absurd (nothing_along first (length st.through + 1) z zs e)
  from_next first st y z zs i f (Some (j, helper x)) here is e on = absurd (nothing_along first (length st.through + 1) z zs e)
  from_next first st y z zs i f (Some (j, thread x)) here is e on = absurd (nothing_along first (length st.through + 1) z zs e)

  -- a final reference is the one that is too many, or the walk goes on past it
  from_final : (first : Ident) (st : AnnotationCursor) (y z : Ident) (zs : List Ident) (i : ℕ) (f : Final) (b : Bool) →
      nat_le FINAL_LIMIT (length st.through) && (first.span.start == at) ≡ b → the_member st.members y.text ≡ Some (i, final_member f) →
      option_or (if b then Some (final_member f) else None) (comes first (length st.through + 1) (members_in (the_decl decls f.target.text)) z zs) ≡ Some m →
      Onward first st y z zs → FarFrom first st y (z ∷ zs)
  from_final first st y z zs i f true is here e on =
      let both = and_parts (nat_le FINAL_LIMIT (length st.through)) (first.span.start == at) is in
      record {
        to = st;
        name = y;
        next = z;
        rest = zs;
        i = i;
        reference = f;
        reaches = stays;
        found = here;
        far = leb-true FINAL_LIMIT (length st.through) both.0;
        begins = eqb-true first.span.start at both.1;
      }
  from_final first st y z zs i f false is here e on = from_next first st y z zs i f (the_decl decls f.target.text) here refl e on

  from_found : (first : Ident) (st : AnnotationCursor) (y z : Ident) (zs : List Ident) (o : Option (ℕ × Member)) →
      the_member st.members y.text ≡ o →
      option_or (beyond at first (length st.through) o) (comes first (length st.through + 1) (next_members decls o) z zs) ≡ Some m →
      Onward first st y z zs → FarFrom first st y (z ∷ zs)
  from_found first st y z zs None here e on = absurd (nothing_along first (length st.through + 1) z zs e)
  from_found first st y z zs (Some (i, lock_member x)) here e on = absurd (nothing_along first (length st.through + 1) z zs e)
  from_found first st y z zs (Some (i, field_member x)) here e on = absurd (nothing_along first (length st.through + 1) z zs e)
  from_found first st y z zs (Some (i, final_member f)) here e on = from_final first st y z zs i f _ refl here e on

  far_from : (first : Ident) (st : AnnotationCursor) (y : Ident) (zs : List Ident) →
      comes first (length st.through) (Some st.members) y zs ≡ Some m →
      FarFrom first st y zs
  far_from first st y [] e = absurd cc
  far_from first st y (z ∷ zs) e = from_found first st y z zs (the_member st.members y.text) refl e (λ next step is. far_from first next z zs is)

  by_annotation : (s : Struct) (f : Field) (o : Option Protection) → Has decls (struct s) →
      Has s.members (field_member f) → f.protection ≡ o →
      met_by (FinalTooMany at) decls s.members o ≡ Some m → AreFinalsPassed decls at
  by_annotation s f None has field is e = absurd cc
  by_annotation s f (Some p) has field is e =
      let place = has_at decls (struct s) has in
      let far = far_from p.first (cursor_at place.0 s.members) p.first p.rest e in
      let own = has_own decls (cursor_at place.0 s.members) far.to p.first far.name p.rest (far.next ∷ far.rest) (far.i, final_member far.reference) far.reaches far.found in
      subst (AreFinalsPassed decls) far.begins (finals_passed (walks (annotates place.1 field is) own.1 far.reaches) far.found far.far)

  in_member : (s : Struct) (x : Member) → Has decls (struct s) → Has s.members x →
      met_for (FinalTooMany at) decls s.members x ≡ Some m → AreFinalsPassed decls at
  in_member s (lock_member x) has field e = absurd cc
  in_member s (final_member x) has field e = absurd cc
  in_member s (field_member f) has field e = by_annotation s f f.protection has field refl e

  in_decl : (d : Decl) → Has decls d → met_of (FinalTooMany at) decls d ≡ Some m → AreFinalsPassed decls at
  in_decl (struct s) has e = let f = first_from (met_for (FinalTooMany at) decls s.members) s.members m e in in_member s f.0 has f.1 f.2
  in_decl (lock x) has e = absurd cc
  in_decl (global x) has e = absurd cc
  in_decl (array x) has e = absurd cc
  in_decl (pool x) has e = absurd cc
  in_decl (init x) has e = absurd cc
  in_decl (atomic x) has e = absurd cc
  in_decl (helper x) has e = absurd cc
  in_decl (thread x) has e = absurd cc

  pub finals_if : met_at (FinalTooMany at) decls ≡ Some m → AreFinalsPassed decls at
  finals_if e = let d = first_from (met_of (FinalTooMany at) decls) decls m e in in_decl d.0 d.1 d.2

module _ (decls : List Decl) where
  -- the walk stops at this final reference, or at an earlier one
  along_far : (first : Ident) (own st : AnnotationCursor) (a y z : Ident) (names zs : List Ident) (i : ℕ) (f : Final) →
      Reaches decls own a names st y (z ∷ zs) → the_member st.members y.text ≡ Some (i, final_member f) → FINAL_LIMIT ≤ length st.through →
      (m : Member) × (met_along (FinalTooMany first.span.start) decls first (length own.through) (Some own.members) a names ≡ Some m)
  along_far first own st a y z names zs i f stays here far =
      let at = first.span.start in
      let n = length st.through in
      let both = and_from (nat_le FINAL_LIMIT n) (at == at) (le-leb FINAL_LIMIT n far) (eq-eqb at at refl) in
      let is : beyond at first n (the_member st.members y.text) ≡ Some (final_member f) =
      ap (beyond at first n) here ∙ ap (λ (b : Bool). if b then Some (final_member f) else None) both in
      (final_member f, ap (λ o. option_or o (met_along (FinalTooMany at) decls first (n + 1) (next_members decls (the_member st.members y.text)) z zs)) is)
  along_far first own st a y z names zs i f (goes_on {next = next} {z = b} {zs = bs} step rest) here far =
      let at = first.span.start in
      let on = gone_on decls at own next a (the_member own.members a.text) step in
      let long = longer decls own next (the_member own.members a.text) step in
      let later = along_far first next st b y z bs zs i f rest here far in
      or_some (beyond at first (length own.through) (the_member own.members a.text)) _ later.0
      (ap₂ (λ n o. met_along (FinalTooMany at) decls first n o b bs) (sym long) on.leads ∙ later.1)

  pub finals_so : (at : ℕ) → AreFinalsPassed decls at → (m : Member) × (met_at (FinalTooMany at) decls ≡ Some m)
  finals_so at (finals_passed {p = p} {st = st} {y = y} {z = z} {zs = zs} {i = i} {f = f} (walks (annotates {i = k} {s = s} {f = g} listed has protected) own reaches) here far) =
      let sought = FinalTooMany p.first.span.start in
      let by = along_far p.first (cursor_at k s.members) st p.first y z p.rest zs i f reaches here far in
      let inside = some_first (met_for sought decls s.members) s.members (field_member g) by.0 has (ap (met_by sought decls s.members) protected ∙ by.1) in
      some_first (met_of sought decls) decls (struct s) inside.0 (at_has decls k (struct s) listed) inside.1
