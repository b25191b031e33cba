-- What follows a `where` without a listed fault names a final reference and a local of its type, both with numbers.
use Rattle.std.proofs.Common.{◌≡◌, ℕ, zero, suc, ◌<◌, ◌≤◌, List, [], ◌∷◌, ◌++◌, length, Option, Some, None, Bool, true}
use Rattle.std.proofs.Common.{false, refl, sym, ap, ◌∙◌, subst, if◌then◌else◌, arith}
use Rattle.std.specs.Prelude.{nat_le, is_some, slice_get}
use Rattle.std.proofs.lemmas.Option.{slice_get_within}
use Rattle.source.specs.declared.fault.Code.TheVariants.{UnknownName, WrongType, LimitExceeded, LockAsValue}
use Rattle.syntax.specs.Trees.{Ident, ref_type, Owner, Member, lock_member, final_member, field_member, Struct, Decl}
use Rattle.syntax.specs.Trees.{lock, struct, global, array, pool, init, atomic, helper, thread}
use Rattle.core_lang.specs.declared.value.ValueType as core_type
use Rattle.core_lang.specs.declared.value.ValueType.TheVariants.{Integer, Reference}
use Rattle.resolution.specs.declared.wanted.Sort.TheVariants as sort
use Rattle.resolution.specs.Core as core
use Rattle.source.specs.Texts.{SOURCE_LIMIT}
use Rattle.resolution.specs.Limits.{STRUCT_LIMIT, up_to}
use Rattle.resolution.specs.Scopes.{◌>>=◌, Scope, Local, outside, Meaning, a_local, a_decl, nothing, meaning, count}
use Rattle.resolution.specs.Scopes.{alike, structs_in, the_struct, the_member, the_local, the_decl, member_has_type}
use Rattle.resolution.specs.Expressions.{fits_type, member_number}
use Rattle.resolution.specs.declared.owner_field.OwnerField.{OwnerField}
use Rattle.resolution.specs.Working.TypedOwners.{final_of, owner_member, owner_field, is_of, owner_local, tested_by}
use Rattle.resolution.specs.Working.TypedOwners.{owned_value, owned_by}
use Rattle.resolution.specs.Where.{Has, of_final, of_field}
use Rattle.resolution.specs.Working.FaultLists as list
use Rattle.resolution.specs.declared.why.Why.TheVariants as why
use Rattle.resolution.specs.Working.Findings.{told}
use Rattle.resolution.specs.Working.FaultLists.{one_if, taken, local_faults, no_final_in, owner_field_faults}
use Rattle.resolution.specs.Working.FaultLists.{other_type, owner_faults, count_faults}
use Rattle.resolution.proofs.Named.{member_is}
use Rattle.resolution.proofs.Tests.{le_true, le_false}
use Rattle.resolution.proofs.AllFaults.{of_counts}
use Rattle.resolution.proofs.FaultlessExpressions.{NoneIn, none_left, none_right, not_one, not_if, not_found, at_has, struct_has}
use Rattle.resolution.proofs.FaultlessExpressions.{Clean, IsType, Typing, known, Context, IsKnown, meaning_known}
use Rattle.resolution.proofs.FaultlessExpressions.{decl_typed, unfit_not, fit_if}
use Rattle.resolution.proofs.TypedResolvedExprs.{IsLocal, meant_local}

-- ---- how many there are

-- the struct of a number, with the declarations before and after it
record StructAt (ds : List Decl) (k : ℕ) (s : Struct) : Type 0 where
  before : List Decl
  behind : List Decl
  parts : ds ≡ before ++ struct s ∷ behind
  ahead : count (alike (struct s)) before ≡ k

behind_other : (d : Decl) (ds : List Decl) (k : ℕ) (s : Struct) → alike (struct s) d ≡ false → StructAt ds k s →
    StructAt (d ∷ ds) k s
behind_other d ds k s other t = record {
  before = d ∷ t.before;
  behind = t.behind;
  parts = ap (λ (xs : List Decl). d ∷ xs) t.parts;
  ahead = ap (λ (b : Bool). if b then suc (count (alike (struct s)) t.before) else count (alike (struct s)) t.before) other ∙ t.ahead;
}

struct_at : (ds : List Decl) (k : ℕ) (s : Struct) → slice_get (structs_in ds) k ≡ Some s → StructAt ds k s
struct_at [] k s e = cc
struct_at (struct r ∷ ds) zero s e = let same : r ≡ s = cc in record { before = []; behind = ds; parts = ap (λ (x : Struct). struct x ∷ ds) same; ahead = refl }
struct_at (struct r ∷ ds) (suc k) s e =
    let t = struct_at ds k s e in
    record { before = struct r ∷ t.before; behind = t.behind; parts = ap (λ (xs : List Decl). struct r ∷ xs) t.parts; ahead = ap suc t.ahead }
struct_at (lock x ∷ ds) k s e = behind_other (lock x) ds k s refl (struct_at ds k s e)
struct_at (global v ∷ ds) k s e = behind_other (global v) ds k s refl (struct_at ds k s e)
struct_at (array a ∷ ds) k s e = behind_other (array a) ds k s refl (struct_at ds k s e)
struct_at (pool p ∷ ds) k s e = behind_other (pool p) ds k s refl (struct_at ds k s e)
struct_at (init j ∷ ds) k s e = behind_other (init j) ds k s refl (struct_at ds k s e)
struct_at (atomic x ∷ ds) k s e = behind_other (atomic x) ds k s refl (struct_at ds k s e)
struct_at (helper x ∷ ds) k s e = behind_other (helper x) ds k s refl (struct_at ds k s e)
struct_at (thread t ∷ ds) k s e = behind_other (thread t) ds k s refl (struct_at ds k s e)

-- a struct's number is within the limit
struct_few : (decls : List Decl) → Clean decls → (k : ℕ) (s : Struct) → the_struct decls k ≡ Some s → k ≤ STRUCT_LIMIT
struct_few decls clean k s e =
    let t = struct_at decls k s e in
    let n = count (alike (struct s)) t.before in
    let none : NoneIn (count_faults decls t.before (struct s)) = λ f i. clean f (of_counts decls t.before t.behind (struct s) t.parts f i) in
    let less : n < STRUCT_LIMIT = le_false STRUCT_LIMIT n (not_if (nat_le STRUCT_LIMIT n) LimitExceeded s.name.span.start (none_left (one_if (nat_le STRUCT_LIMIT n) LimitExceeded s.name.span.start) _ none)) in
    let a = t.ahead in
    omega (arith, less, a)

-- a local that may be bound has room
pub room : (sc : Scope) (x : Ident) → NoneIn (local_faults sc x) → length sc.locals < sc.limits.locals
room sc x none = le_false sc.limits.locals (length sc.locals) (not_if (nat_le sc.limits.locals (length sc.locals)) LimitExceeded x.span.start (none_right (taken x.span.start (the_local sc.locals x.text) (the_decl sc.decls x.text)) _ none))

-- ---- the final reference

-- a final reference of the struct k
record FinalOf (k : ℕ) (o : Option OwnerField) : Type 0 where
  field : OwnerField
  is : o ≡ Some field
  structure : field.structure ≡ k

final_is : (decls : List Decl) → Clean decls → (k : ℕ) (s : Struct) → Has decls (struct s) →
    (p : ℕ) (o : Option (ℕ × Member)) →
    ((n : ℕ) (x : Member) → ◌≡◌ {A = Option (ℕ × Member)} o (Some (n, x)) → Has s.members x) →
    NoneIn (list.no_final decls p o) →
    FinalOf k (owner_member decls k s.members o)
final_is decls clean k s h p None up none = absurd (not_one UnknownName p none)
final_is decls clean k s h p (Some (n, lock_member x)) up none = absurd (not_one LockAsValue p none)
final_is decls clean k s h p (Some (n, final_member g)) up none =
    let t = known decls clean (outside decls) (ref_type g.target) (of_final h (up n (final_member g) refl)) in
    record {
      field = record { structure = k; number = member_number s.members n (final_member g); value_type = t.value_type };
      is = ap (final_of k (member_number s.members n (final_member g))) t.is;
      structure = refl;
    }
final_is decls clean k s h p (Some (n, field_member g)) up none =
    let t = known decls clean (outside decls) g.value_type (of_field h (up n (field_member g) refl)) in
    let has : member_has_type decls (field_member g) ≡ true = ap is_some t.is in
    let not : member_has_type decls (field_member g) ≡ false = not_found (member_has_type decls (field_member g)) (told WrongType p why.OwnerField) none in
    absurd (let e : true ≡ false = sym has ∙ not in cc)

-- a final reference of a struct whose number is within the limit
record FinalIn (o : Option OwnerField) : Type 0 where
  field : OwnerField
  is : o ≡ Some field
  few : field.structure ≤ STRUCT_LIMIT

field_is : (decls : List Decl) → Clean decls → (v : core_type.ValueType) → IsType decls v → (f : Ident) →
    NoneIn (owner_field_faults decls (Some v) f) → FinalIn (owner_field decls (Some v) f)
field_is decls clean Integer at f none = absurd (not_one WrongType f.span.start none)
field_is decls clean (Reference k) at f none =
    let s = at.0 in
    let r = final_is decls clean k s (struct_has decls k s at.1) f.span.start (the_member s.members f.text) (λ n x g. at_has s.members n x (member_is s.members f.text n x g).0) (subst (λ (o : Option Struct). NoneIn (no_final_in decls o f)) at.1 none) in
    let few = struct_few decls clean k s at.1 in
    let same = r.structure in
    record {
      field = r.field;
      is = ap (λ (o : Option Struct). ◌>>=◌ {B = OwnerField} o (λ x. owner_member decls k x.members (the_member x.members f.text))) at.1 ∙ r.is;
      few = omega (arith, few, same);
    }

owner_field_is : (decls : List Decl) → Clean decls → (t : Option core_type.ValueType) → Typing decls t → (f : Ident) →
    NoneIn (owner_field_faults decls t f) → FinalIn (owner_field decls t f)
owner_field_is decls clean t k f none =
    subst (λ (o : Option core_type.ValueType). FinalIn (owner_field decls o f)) (sym k.is) (field_is decls clean k.value_type k.there f (subst (λ (o : Option core_type.ValueType). NoneIn (owner_field_faults decls o f)) k.is none))

-- ---- the local

-- a local of the section
record LocalIn (ls : List Local) (o : Option ℕ) : Type 0 where
  number : ℕ
  is : o ≡ Some number
  less : number < length ls

owner_local_is : (sc : Scope) → Context sc → (g : OwnerField) (p : ℕ) (m : Meaning) → IsKnown sc.decls m →
    IsLocal sc.locals m → NoneIn (list.no_owner sc.decls p (Some g) m) → LocalIn sc.locals (owner_local (Some g) m)
owner_local_is sc c g p (a_local n b) k loc none =
    let fits : fits_type g.value_type (sort.Of k.value_type) ≡ true = fit_if p (fits_type g.value_type (sort.Of k.value_type)) _ (subst (λ (o : Option core_type.ValueType). NoneIn (other_type p (Some g) o)) k.is none) in
    record {
      number = n;
      is = ap (λ (o : Option core_type.ValueType). if is_of g.value_type o then Some n else None) k.is ∙ ap (λ (x : Bool). if x then Some n else None) fits;
      less = slice_get_within sc.locals n b loc.0;
    }
owner_local_is sc c g p (a_decl n d) k loc none = absurd (unfit_not sc.decls WrongType p _ (a_decl n d) (decl_typed sc.decls c.clean n d k) none)
owner_local_is sc c g p nothing k loc none = absurd (not_one UnknownName p none)

-- ---- the value

within : (limit n : ℕ) → n ≤ limit → up_to limit n ≡ Some n
within limit n le = ap (λ (b : Bool). if b then Some n else None) (le_true n limit le)

tested_is : (start : ℕ) (x : core.Expr) (g : OwnerField) (n : ℕ) → g.structure ≤ STRUCT_LIMIT → n ≤ SOURCE_LIMIT →
    tested_by start x g n ≡ Some (core.owned x g.structure g.number start n)
tested_is start x g n few less =
    ap (λ (o : Option ℕ). ◌>>=◌ {B = core.Expr} o (λ k. up_to SOURCE_LIMIT n >>= λ m. Some (core.owned x k g.number start m))) (within STRUCT_LIMIT g.structure few)
    ∙ ap (λ (o : Option ℕ). ◌>>=◌ {B = core.Expr} o (λ m. Some (core.owned x g.structure g.number start m))) (within SOURCE_LIMIT n less)

-- a value that is tested has its form
pub owned_is : (sc : Scope) → Context sc → length sc.locals < sc.limits.locals → (t : Option core_type.ValueType) →
    Typing sc.decls t → (o : Owner) → NoneIn (owner_faults sc t o) → (v : Option core.Expr) (x : core.Expr) →
    v ≡ Some x → (y : core.Expr) × (owned_by sc t o v ≡ Some y)
owned_is sc c few t typing o none v x is =
    let p = o.local.span.start in
    let m = meaning sc o.local.text in
    let a = owner_field_faults sc.decls t o.field in
    let b = list.no_owner sc.decls p (owner_field sc.decls t o.field) m in
    let f = owner_field_is sc.decls c.clean t typing o.field (none_left a b none) in
    let g = f.field in
    let n = owner_local_is sc c g p m (meaning_known sc c o.local.text) (meant_local sc o.local.text) (subst (λ (q : Option OwnerField). NoneIn (list.no_owner sc.decls p q m)) f.is (none_right a b none)) in
    let less = n.less in
    let all = c.few in
    let le : n.number ≤ SOURCE_LIMIT = omega (arith, less, few, all) in (
      core.owned x g.structure g.number p n.number,
      ap (λ (e : Option core.Expr). owned_value p e (owner_field sc.decls t o.field) (owner_local (owner_field sc.decls t o.field) m)) is
          ∙ ap (λ (q : Option OwnerField). owned_value p (Some x) q (owner_local q m)) f.is
          ∙ ap (owned_value p (Some x) (Some g)) n.is
          ∙ tested_is p x g n.number f.few le,
    )
