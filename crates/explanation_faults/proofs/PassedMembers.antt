-- Along an annotation, up to a member that is not a final reference.
use Rattle.std.proofs.Common.{◌≡◌, ◌∙◌, ℕ, Bool, List, ◌∷◌, Option, Some, None, refl, ap, eq-eqb}
use Rattle.std.specs.Option.{option_or}
use Rattle.std.specs.Prelude.{◌==◌, if◌then◌else◌}
use Rattle.std.proofs.lemmas.Option.{same_Some}
use Rattle.resolution.specs.Annotations.{AnnotationCursor, at_struct, cursor_at, through_member}
use Rattle.resolution.specs.Constants.{members_in}
use Rattle.resolution.specs.Expressions.{member_number}
use Rattle.resolution.specs.Faults.{IsFinalMember, PassesNonFinal, passes, Reaches, stays, goes_on, walks}
use Rattle.resolution.specs.Scopes.{the_decl, the_member}
use Rattle.resolution.specs.Where.{annotates}
use Rattle.syntax.specs.Trees.{Ident, Member, lock_member, final_member, field_member, Decl, lock, struct, global}
use Rattle.syntax.specs.Trees.{array, pool, init, atomic, helper, thread}
use Rattle.explanation_names.specs.PassedMembers.{next_members, passed_along, passed_at, passed_by, passed_for}
use Rattle.explanation_names.specs.PassedMembers.{passed_of, stopped_at}
use Rattle.explanation_faults.proofs.FirstBy.{some_first}
use Rattle.explanation_faults.proofs.Places.{at_has}

-- ---- a step on

abbrev members_at : AnnotationCursor → List Member
members_at c = c.members

at_next : (through : List ℕ) (n : ℕ) (o : Option (ℕ × Decl)) (next : AnnotationCursor) →
    at_struct through n o ≡ Some next → members_in o ≡ Some next.members
at_next through n None next e = absurd cc
at_next through n (Some (i, struct s)) next e = ap (λ (c : AnnotationCursor). Some c.members) (same_Some _ next e)
at_next through n (Some (i, lock x)) next e = absurd cc
at_next through n (Some (i, global x)) next e = absurd cc
at_next through n (Some (i, array x)) next e = absurd cc
at_next through n (Some (i, pool x)) next e = absurd cc
at_next through n (Some (i, init x)) next e = absurd cc
at_next through n (Some (i, atomic x)) next e = absurd cc
at_next through n (Some (i, helper x)) next e = absurd cc
at_next through n (Some (i, thread x)) next e = absurd cc

pub record GoesOn (decls : List Decl) (at : ℕ) (y : Ident) (o : Option (ℕ × Member)) (next : AnnotationCursor) : Type 0 where
  pub passes_none : stopped_at at y o ≡ None
  pub leads : next_members decls o ≡ Some next.members

pub gone_on : (decls : List Decl) (at : ℕ) (st next : AnnotationCursor) (y : Ident) (o : Option (ℕ × Member)) →
    through_member decls st o ≡ Some next → GoesOn decls at y o next
gone_on decls at st next y None e = absurd cc
gone_on decls at st next y (Some (i, lock_member x)) e = absurd cc
gone_on decls at st next y (Some (i, field_member x)) e = absurd cc
gone_on decls at st next y (Some (i, final_member f)) e = record {
  passes_none = refl;
  leads = at_next st.through (member_number st.members i (final_member f)) (the_decl decls f.target.text) next e;
}

-- ---- the end of a walk

there : (at : ℕ) (m : Member) → (if at == at then Some m else None) ≡ Some m
there at m = ap (λ (b : Bool). if b then Some m else None) (eq-eqb at at refl)

stops : (y : Ident) (i : ℕ) (m : Member) → (IsFinalMember m → ⊥) → stopped_at y.span.start y (Some (i, m)) ≡ Some m
stops y i (lock_member x) no_final = there y.span.start (lock_member x)
stops y i (final_member f) no_final = absurd (no_final tt)
stops y i (field_member f) no_final = there y.span.start (field_member f)

or_first : {A : Type 0} (o p : Option A) (x : A) → o ≡ Some x → option_or o p ≡ Some x
or_first o p x is = ap (λ q. option_or q p) is

or_second : {A : Type 0} (o p : Option A) → o ≡ None → option_or o p ≡ p
or_second o p is = ap (λ q. option_or q p) is

module _ (decls : List Decl) where
  along : (own st : AnnotationCursor) (a y z : Ident) (names zs : List Ident) (i : ℕ) (m : Member) →
      Reaches decls own a names st y (z ∷ zs) →
      the_member st.members y.text ≡ Some (i, m) → (IsFinalMember m → ⊥) → passed_along decls y.span.start (Some own.members) a names ≡ Some m
  along own st a y z names zs i m stays here no_final =
      or_first (stopped_at y.span.start y (the_member st.members y.text)) _ m (ap (stopped_at y.span.start y) here ∙ stops y i m no_final)
  along own st a y z names zs i m (goes_on {next = next} {z = b} {zs = bs} step rest) here no_final =
      let on = gone_on decls y.span.start own next a (the_member own.members a.text) step in
      or_second (stopped_at y.span.start a (the_member own.members a.text)) _ on.passes_none
      ∙ ap (λ o. passed_along decls y.span.start o b bs) on.leads
      ∙ along next st b y z bs zs i m rest here no_final

  pub passed_some : (at : ℕ) → PassesNonFinal decls at → (m : Member) × (passed_at decls at ≡ Some m)
  passed_some at (passes {p = p} {st = st} {y = y} {z = z} {zs = zs} {i = i} {m = m} (walks (annotates {i = k} {s = s} {f = f} listed has protected) own reaches) here no_final typed) =
      let by : passed_for decls at s.members (field_member f) ≡ Some m =
      ap (passed_by decls at s.members) protected ∙ along (cursor_at k s.members) st p.first y z p.rest zs i m reaches here no_final in
      let inside = some_first (passed_for decls at s.members) s.members (field_member f) m has by in
      some_first (passed_of decls at) decls (struct s) inside.0 (at_has decls k (struct s) listed) inside.1
