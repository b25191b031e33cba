-- Final references, and the values that `init`s give them.
use Rattle.std.proofs.Common.{◌≡◌, ◌∙◌, ℕ, Bool, true, false, List, Option, Some, None, refl, sym, ap, subst, eq-eqb}
use Rattle.std.proofs.Common.{eqb-true}
use Rattle.std.specs.Prelude.{IsSome, if◌then◌else◌, slice_get}
use Rattle.std.specs.Option.{option_map}
use Rattle.std.proofs.lemmas.Option.{same_Some}
use Rattle.std.proofs.lemmas.Slice.Eq.{bytes_eq-Decides}
use Rattle.resolution.specs.Constants.{initialised, members_in, members_of}
use Rattle.resolution.specs.Faults.{IsFinalMissing, not_given, given_null}
use Rattle.resolution.specs.Working.FaultLists.{is_at}
use denote.Ref.{Bor}
use Rattle.resolution.specs.Scopes.{◌>>=◌, member_bears, place_of, the_decl, the_member}
use Rattle.syntax.specs.declared.tree.Decl as the_decl_
use Rattle.syntax.specs.declared.tree.Decl.TheVariants as decl_case
use Rattle.syntax.specs.declared.tree.Final as written_final
use Rattle.syntax.specs.declared.tree.Pool as the_pool
use Rattle.syntax.specs.Views.{decl_of}
use Rattle.types_symbols.specs.Working.Views.{struct_in}
use Rattle.source.specs.declared.span.Span.{Span}
use Rattle.resolution.specs.Where.{Has}
use Rattle.syntax.specs.Trees.{Const, int_const, negative, null_const, member_const, Final, Member, lock_member}
use Rattle.syntax.specs.Trees.{final_member, field_member, Pool, Struct, Decl, lock, struct, global, array, pool, init}
use Rattle.syntax.specs.Trees.{atomic, helper, thread}
use Rattle.core_lang.specs.Theory.Items.{if_some}
use Rattle.explanation_faults.specs.MissingInits.{IsNullGiven, value_given}
use Rattle.explanation_faults.specs.Working.NullsFound.{final_in, is_null_at, null_given, null_given_in}
use Rattle.explanation_faults.specs.Working.Values.{EachGiven, FoundGapOf, FoundMissing, IsWhole, due_final}
use Rattle.explanation_faults.proofs.FirstBy.{some_first, first_from}
use Rattle.explanation_faults.proofs.Given.{named_at}

-- ---- the struct of a pool

-- the members of the declaration that is found
pub same_members : (o : Option (ℕ × Decl)) → members_in o ≡ option_map (λ (s : ℕ × Struct). s.1.members) (struct_in o)
same_members None = refl
same_members (Some (i, lock x)) = refl
same_members (Some (i, struct x)) = refl
same_members (Some (i, global x)) = refl
same_members (Some (i, array x)) = refl
same_members (Some (i, pool x)) = refl
same_members (Some (i, init x)) = refl
same_members (Some (i, atomic x)) = refl
same_members (Some (i, helper x)) = refl
same_members (Some (i, thread x)) = refl

-- ---- a name's place

by_element : {A : Type 0} (xs : List A) (i k : ℕ) (x : A) (o : Option A) →
    ◌>>=◌ {B = ℕ × A} o (λ (y : A). Some (i, y)) ≡ Some (k, x) → i ≡ k
by_element {A = A} xs i k x None e = absurd cc
by_element {A = A} xs i k x (Some y) e =
    let mine : ℕ × A = (i, y) in
    let other : ℕ × A = (k, x) in
    let same : mine ≡ other = same_Some mine other e in
    ap (λ (p : ℕ × A). p.0) same

by_place : {A : Type 0} (xs : List A) (k : ℕ) (x : A) (o : Option ℕ) →
    ◌>>=◌ {B = ℕ × A} o (λ i. ◌>>=◌ {B = ℕ × A} (slice_get xs i) (λ (y : A). Some (i, y))) ≡ Some (k, x) → o ≡ Some k
by_place xs k x None e = absurd cc
by_place xs k x (Some i) e = ap Some (by_element xs i k x (slice_get xs i) e)

pub named_place : (ms : List Member) (q : List ℕ) (k : ℕ) (x : Member) → the_member ms q ≡ Some (k, x) →
    place_of member_bears ms q ≡ Some k
named_place ms q k x e = by_place ms k x (place_of member_bears ms q) e

-- ---- the final references that are due

if_due : (b : Bool) (f g : Final) → (if b then Some f else None) ≡ Some g → (b ≡ true) × (f ≡ g)
if_due true f g e = (refl, same_Some f g e)
if_due false f g e = absurd cc

at_place : (k : ℕ) (o : Option ℕ) → is_at k o ≡ true → o ≡ Some k
at_place k (Some i) e = ap Some (eqb-true i k e)
at_place k None e = absurd cc

placed : (ms : List Member) (k : ℕ) (x : Member) (q : List ℕ) (o : Option ℕ) → place_of member_bears ms q ≡ o →
    o ≡ Some k → slice_get ms k ≡ Some x → the_member ms q ≡ Some (k, x)
placed ms k x q o is at here =
    ap (λ p. ◌>>=◌ {B = ℕ × Member} p (λ i. ◌>>=◌ {B = ℕ × Member} (slice_get ms i) (λ (y : Member). Some (i, y)))) (is ∙ at)
    ∙ ap (λ p. ◌>>=◌ {B = ℕ × Member} p (λ (y : Member). Some (k, y))) here

-- a final reference that is due is found by its name
pub due_found : (ms : List Member) (k : ℕ) (m : Member) (f : Final) → slice_get ms k ≡ Some m →
    due_final ms k m ≡ Some f → the_member ms f.name.text ≡ Some (k, final_member f)
due_found ms k (lock_member x) f here e = absurd cc
due_found ms k (field_member x) f here e = absurd cc
due_found ms k (final_member g) f here e =
    let due = if_due (is_at k (place_of member_bears ms g.name.text)) g f e in
    subst (λ (h : Final). the_member ms h.name.text ≡ Some (k, final_member h)) due.1 (placed ms k (final_member g) g.name.text (place_of member_bears ms g.name.text) refl (at_place k (place_of member_bears ms g.name.text) due.0) here)

-- a final reference that is found by its name is due
pub found_due : (ms : List Member) (k : ℕ) (f : Final) → the_member ms f.name.text ≡ Some (k, final_member f) →
    due_final ms k (final_member f) ≡ Some f
found_due ms k f e =
    ap (λ o. if is_at k o then Some f else None) (named_place ms f.name.text k (final_member f) e)
    ∙ ap (λ (b : Bool). if b then Some f else None) (eq-eqb k k refl)

-- ---- the faults

not_some : {A : Type 0} (o : Option A) → IsSome o → o ≡ None → ⊥
not_some (Some x) is none = absurd cc
not_some None is none = absurd cc

same_text : (ms : List Member) (q : List ℕ) (m : ℕ) (f : Final) → the_member ms q ≡ Some (m, final_member f) →
    the_member ms f.name.text ≡ Some (m, final_member f)
same_text ms q m f e =
    let same : q ≡ f.name.text = (bytes_eq-Decides q f.name.text).0 (named_at member_bears ms q m (final_member f) e).bears in
    subst (λ (r : List ℕ). the_member ms r ≡ Some (m, final_member f)) same e

-- if no pool of that name lacks an `init`, and no `init` gives null, nothing is missing
pub no_gap : (decls : List Decl) (at : ℕ) →
    ((place : ℕ) (p : Pool) → slice_get decls place ≡ Some (pool p) → IsWhole decls place p at) →
    null_given decls at ≡ None → IsFinalMissing decls at → ⊥
no_gap decls at whole none (not_given i {p = p} {ms = ms} q {m = m} {f = f} n listed of_struct field target within missing) =
    not_some (value_given decls i m n) (whole i p listed ms refl of_struct m f (same_text ms q m f field) n within) missing
no_gap decls at whole none (given_null {i = i} {m = m} {f = f} {at = s} has field target null) =
    let gives : null_given_in decls at (init i) ≡ Some f =
    ap (λ c. if is_null_at s.start c then final_in (initialised decls i) else None) null
    ∙ ap (λ (b : Bool). if b then final_in (initialised decls i) else None) (eq-eqb s.start s.start refl)
    ∙ ap final_in field in
    let found = some_first (null_given_in decls at) decls (init i) f has gives in
    let e : None ≡ Some found.0 = sym none ∙ found.1 in
    absurd cc

-- ---- a member that is given null

null_there : (at : ℕ) (c : Const) → is_null_at at c ≡ true → (s : Span) × (c ≡ null_const s) × (s.start ≡ at)
null_there at (null_const s) is = (s, refl, eqb-true s.start at is)
null_there at (int_const n) is = absurd cc
null_there at (negative s n) is = absurd cc
null_there at (member_const x n) is = absurd cc

final_there : (o : Option (ℕ × Member)) (f : Final) → final_in o ≡ Some f → (m : ℕ) × (o ≡ Some (m, final_member f))
final_there (Some (m, final_member g)) f is = let same : g ≡ f = cc in (m, ap (λ (h : Final). Some (m, final_member h)) same)
final_there (Some (m, lock_member g)) f is = absurd cc
final_there (Some (m, field_member g)) f is = absurd cc
final_there None f is = absurd cc

given_by : (decls : List Decl) (at : ℕ) (d : Decl) (f : Final) → Has decls d → null_given_in decls at d ≡ Some f →
    IsNullGiven decls at f
given_by decls at (init i) f has is =
    let gives = if_some (is_null_at at i.value) (final_in (initialised decls i)) f is in
    let null = null_there at i.value gives.0 in
    let target = final_there (initialised decls i) f gives.1 in
    record { giver = i; listed = has; span = null.0; value = null.1; starts = null.2; member = target.0; target = target.1 }
given_by decls at (lock x) f has is = absurd cc
given_by decls at (struct x) f has is = absurd cc
given_by decls at (global x) f has is = absurd cc
given_by decls at (array x) f has is = absurd cc
given_by decls at (pool x) f has is = absurd cc
given_by decls at (atomic x) f has is = absurd cc
given_by decls at (helper x) f has is = absurd cc
given_by decls at (thread x) f has is = absurd cc

pub is_null_given : (decls : List Decl) (at : ℕ) (f : Final) → null_given decls at ≡ Some f → IsNullGiven decls at f
is_null_given decls at f is = let from = first_from (null_given_in decls at) decls f is in given_by decls at from.0 f from.1 from.2

-- ---- what is found of a pool

gap_from : (decls : List Decl) (place : ℕ) (p : Pool) (at : ℕ) (members : List Member) → p.name.span.start ≡ at →
    members_of decls p.target ≡ Some members →
    (r : Option (ℕ × Bor written_final.Final)) → FoundMissing decls place members p.length.value r → FoundGapOf decls place p at r
gap_from decls place p at members starts of_struct (Some found) is = record {
  starts = starts;
  members = members;
  of_struct = of_struct;
  missing = is;
}
gap_from decls place p at members starts of_struct None each = λ ms starts of_other.
    subst (λ (l : List Member). EachGiven decls place l p.length.value) (same_Some members ms (sym of_struct ∙ of_other)) each

-- the struct of the pool, by how it is found
pub gap_found : (decls : List Decl) (place : ℕ) (p : Pool) (at : ℕ) (i : ℕ) (s : Struct) → p.name.span.start ≡ at →
    Some (i, s) ≡ struct_in (the_decl decls p.target.text) → (r : Option (ℕ × Bor written_final.Final)) → FoundMissing decls place s.members p.length.value r →
    FoundGapOf decls place p at r
gap_found decls place p at i s starts found =
    gap_from decls place p at s.members starts
    (same_members (the_decl decls p.target.text) ∙ ap (option_map (λ (x : ℕ × Struct). x.1.members)) (sym found))

-- a declaration other than a pool
pub no_pool : (d : the_decl_.Decl) → ((p : the_pool.Pool) → d ≡ decl_case.Pool p → ⊥) → (q : Pool) →
    decl_of d ≡ pool q → ⊥
no_pool (decl_case.Lock x) none q e = absurd cc
no_pool (decl_case.Struct x) none q e = absurd cc
no_pool (decl_case.Global x) none q e = absurd cc
no_pool (decl_case.Array x) none q e = absurd cc
no_pool (decl_case.Pool x) none q e = none x refl
no_pool (decl_case.Init x) none q e = absurd cc
no_pool (decl_case.Atomic x) none q e = absurd cc
no_pool (decl_case.Helper x) none q e = absurd cc
no_pool (decl_case.Thread x) none q e = absurd cc
