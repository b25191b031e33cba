-- The code computes for constants the results of the rules.
use Rattle.std.proofs.Common.{◌≡◌, ℕ, ◌≤◌, ◌<◌, List, [], ◌∷◌, Option, Some, None, Bool, true, false, refl, ap, subst}
use Rattle.std.proofs.Common.{if◌then◌else◌}
use Rattle.std.specs.Prelude.{ℤ, pos, neg_ℤ, nat_le, nat_lt}
use Rattle.source.specs.Texts.{NUMBER_LIMIT}
use Rattle.source.specs.declared.token.Number.{Number}
use Rattle.syntax.specs.Trees.{Ident, Const, int_const, negative, null_const, member_const, Decl, pool, Param}
use Rattle.core_lang.specs.declared.value.Value.{Value}
use Rattle.core_lang.specs.declared.value.Value.TheVariants.{Int, Ref}
use Rattle.core_lang.specs.declared.value.ValueType.{ValueType}
use Rattle.core_lang.specs.declared.value.ValueType.TheVariants.{Integer, Reference}
use Rattle.resolution.specs.declared.wanted.Sort.{Sort}
use Rattle.resolution.specs.declared.wanted.Sort.TheVariants.{Of}
use Rattle.resolution.specs.declared.wanted.Want.{Want}
use Rattle.resolution.specs.declared.wanted.Want.TheVariants as wanted
use Rattle.resolution.specs.Scopes.{◌>>=◌, the_decl, struct_named}
use Rattle.resolution.specs.Expressions.{fits_sort}
use Rattle.resolution.specs.Constants as rule
use Rattle.resolution.specs.Constants.{IsOfSort, negative_sort, null_sort, Denotes, a_number, a_negative, no_object}
use Rattle.resolution.specs.Constants.{an_object, object_of, Yields, yields, want_of, AreArguments, no_constant}
use Rattle.resolution.specs.Constants.{one_constant, default_of, Opens, by_default, by_constant}
use Rattle.resolution.specs.Working.TypedConstants.{number_sort, reference_sort, member_sort, const_sort, member_of}
use Rattle.resolution.specs.Working.TypedConstants.{const_value, if_fitting, typed_const, added, typed_arguments}
use Rattle.resolution.specs.Working.TypedConstants.{opened, object_in, referred}
use Rattle.resolution.proofs.ExpressionRules.{When, when}
use Rattle.resolution.proofs.Tests.{le_of, le_true, lt_of, lt_true}

-- ---- the result of the code is one of the rules

number_sorts : (P : Sort → Type 0) (n : Number) (b : Bool) → nat_le n.value NUMBER_LIMIT ≡ b →
    (n.value ≤ NUMBER_LIMIT → P (Of Integer)) → When P (number_sort (if b then Some (pos n.value) else None))
number_sorts P n true e h = h (le_of n.value NUMBER_LIMIT e)
number_sorts P n false e h = tt

reference_sorts : (P : Sort → Type 0) (o : Option ℕ) → ((s : ℕ) → o ≡ Some s → P (Of (Reference s))) →
    When P (reference_sort o)
reference_sorts P (Some s) h = h s refl
reference_sorts P None h = tt

member_sorts : (decls : List Decl) (x : Ident) (n : Number) (o : Option (ℕ × Decl)) → the_decl decls x.text ≡ o →
    When (IsOfSort decls (member_const x n)) (member_sort decls o)
member_sorts decls x n (Some (i, pool p)) e =
    reference_sorts (IsOfSort decls (member_const x n)) (struct_named decls p.target) (λ s t. rule.member_sort e t)
member_sorts decls x n o e = tt

const_sorts : (decls : List Decl) (c : Const) → When (IsOfSort decls c) (const_sort decls c)
const_sorts decls (int_const n) =
    number_sorts (IsOfSort decls (int_const n)) n (nat_le n.value NUMBER_LIMIT) refl (λ l. rule.number_sort l)
const_sorts decls (negative sign n) =
    number_sorts (IsOfSort decls (negative sign n)) n (nat_le n.value NUMBER_LIMIT) refl (λ l. negative_sort l)
const_sorts decls (null_const at) = null_sort
const_sorts decls (member_const x n) = member_sorts decls x n (the_decl decls x.text) refl

pub sort_ruled : (decls : List Decl) (c : Const) (s : Sort) → const_sort decls c ≡ Some s → IsOfSort decls c s
sort_ruled decls c s e = when (IsOfSort decls c) (const_sort decls c) (const_sorts decls c) s e

number_denotes : (P : Value → Type 0) (f : ℤ → Value) (n : Number) (b : Bool) → P (f (pos n.value)) →
    When P ((if b then Some (pos n.value) else None) >>= λ z. Some (f z))
number_denotes P f n true h = h
number_denotes P f n false h = tt

object_denotes : (P : Value → Type 0) (v : Value) (n k : ℕ) (b : Bool) → nat_lt n k ≡ b → (n < k → P v) →
    When P (if b then Some v else None)
object_denotes P v n k true e h = h (lt_of n k e)
object_denotes P v n k false e h = tt

member_denotes : (decls : List Decl) (x : Ident) (n : Number) (o : Option (ℕ × Decl)) → the_decl decls x.text ≡ o →
    When (Denotes decls (member_const x n)) (member_of decls o n.value)
member_denotes decls x n (Some (i, pool p)) e =
    object_denotes (Denotes decls (member_const x n)) (Ref (Some (object_of decls i n.value))) n.value p.length.value
    (nat_lt n.value p.length.value) refl (λ l. an_object e l)
member_denotes decls x n o e = tt

const_denotes : (decls : List Decl) (c : Const) → When (Denotes decls c) (const_value decls c)
const_denotes decls (int_const n) =
    number_denotes (Denotes decls (int_const n)) Int n (nat_le n.value NUMBER_LIMIT) a_number
const_denotes decls (negative sign n) =
    number_denotes (Denotes decls (negative sign n)) (λ z. Int (neg_ℤ z)) n (nat_le n.value NUMBER_LIMIT)
    a_negative
const_denotes decls (null_const at) = no_object
const_denotes decls (member_const x n) = member_denotes decls x n (the_decl decls x.text) refl

fitting_yields : (decls : List Decl) (w : Want) (c : Const) (s : Sort) (b : Bool) (o : Option Value) →
    IsOfSort decls c s → fits_sort w s ≡ b → When (Denotes decls c) o →
    When (Yields decls w c) (if b then o else None)
fitting_yields decls w c s true (Some v) h e d = yields h e d
fitting_yields decls w c s true None h e d = tt
fitting_yields decls w c s false o h e d = tt

const_yields : (decls : List Decl) (w : Want) (c : Const) (o : Option Sort) (v : Option Value) →
    When (IsOfSort decls c) o → When (Denotes decls c) v → When (Yields decls w c) (if_fitting w o v)
const_yields decls w c (Some s) v h d = fitting_yields decls w c s (fits_sort w s) v h refl d
const_yields decls w c None v h d = tt

pub const_ruled : (decls : List Decl) (w : Want) (c : Const) (v : Value) → typed_const decls w c ≡ Some v →
    Yields decls w c v
const_ruled decls w c v e =
    when (Yields decls w c) (typed_const decls w c)
    (const_yields decls w c (const_sort decls c) (const_value decls c) (const_sorts decls c) (const_denotes decls c))
    v e

-- what a list with one more ahead is made of
added_got : {A : Type 0} (o : Option A) (r : Option (List A)) (ys : List A) → added o r ≡ Some ys →
    (x : A) × (xs : List A) × (o ≡ Some x) × (r ≡ Some xs) × (x ∷ xs ≡ ys)
added_got (Some x) (Some xs) ys e = (x, xs, refl, refl, cc)
added_got (Some x) None ys e = cc
added_got None r ys e = cc

pub arguments_ruled : (decls : List Decl) (ps : List Param) (cs : List Const) (vs : List Value) →
    typed_arguments decls ps cs ≡ Some vs → AreArguments decls ps cs vs
arguments_ruled decls [] [] vs e = let s : [] ≡ vs = cc in subst (AreArguments decls [] []) s no_constant
arguments_ruled decls [] (c ∷ cs) vs e = cc
arguments_ruled decls (p ∷ ps) [] vs e = cc
arguments_ruled decls (p ∷ ps) (c ∷ cs) vs e =
    let r = added_got (typed_const decls (want_of decls p) c) (typed_arguments decls ps cs) vs e in
    subst (AreArguments decls (p ∷ ps) (c ∷ cs)) r.4
    (one_constant (const_ruled decls (want_of decls p) c r.0 r.2) (arguments_ruled decls ps cs r.1 r.3))

pub opened_ruled : (decls : List Decl) (t : ValueType) (g : Option Const) (v : Value) → opened decls t g ≡ Some v →
    Opens decls t g v
opened_ruled decls t None v e = let s : default_of t ≡ v = cc in subst (Opens decls t None) s by_default
opened_ruled decls t (Some c) v e = by_constant (const_ruled decls (wanted.Value t) c v e)

object_got : (o : Option Value) (n : ℕ) → object_in o ≡ Some n → o ≡ Some (Ref (Some n))
object_got (Some (Ref (Some k))) n e = let s : k ≡ n = cc in ap (λ (j : ℕ). Some (Ref (Some j))) s
object_got (Some (Ref None)) n e = cc
object_got (Some (Int z)) n e = cc
object_got None n e = cc

pub reference_ruled : (decls : List Decl) (s : ℕ) (c : Const) (n : ℕ) → referred decls (Some s) (Some c) ≡ Some n →
    Yields decls (wanted.Value (Reference s)) c (Ref (Some n))
reference_ruled decls s c n e =
    let w = wanted.Value (Reference s) in
    const_ruled decls w c (Ref (Some n)) (object_got (typed_const decls w c) n e)

pub referred_ruled : (decls : List Decl) (s : Option ℕ) (g : Option Const) (n : ℕ) → referred decls s g ≡ Some n →
    (k : ℕ) × (c : Const) × (s ≡ Some k) × (g ≡ Some c) × Yields decls (wanted.Value (Reference k)) c (Ref (Some n))
referred_ruled decls (Some k) (Some c) n e = (k, c, refl, refl, reference_ruled decls k c n e)
referred_ruled decls (Some k) None n e = cc
referred_ruled decls None g n e = cc

-- ---- a result of the rules is computed

pub sort_is : {decls : List Decl} {c : Const} {s : Sort} → IsOfSort decls c s → const_sort decls c ≡ Some s
sort_is (rule.number_sort {n = n} l) = rw (le_true n.value NUMBER_LIMIT l) refl
sort_is (negative_sort {n = n} l) = rw (le_true n.value NUMBER_LIMIT l) refl
sort_is null_sort = refl
sort_is (rule.member_sort e t) = rw (e, t) refl

-- a constant that has a sort has the value that it denotes
value_is : {decls : List Decl} {c : Const} {s : Sort} {v : Value} → IsOfSort decls c s → Denotes decls c v →
    const_value decls c ≡ Some v
value_is (rule.number_sort {n = n} l) a_number = rw (le_true n.value NUMBER_LIMIT l) refl
value_is (negative_sort {n = n} l) a_negative = rw (le_true n.value NUMBER_LIMIT l) refl
value_is null_sort no_object = refl
value_is (rule.member_sort e t) (an_object {n = n} {p = p} d l) = rw (d, lt_true n.value p.length.value l) refl

pub const_is : {decls : List Decl} {w : Want} {c : Const} {v : Value} → Yields decls w c v →
    typed_const decls w c ≡ Some v
const_is {decls} {w} {c} {v} (yields {s = s} h e d) =
    let a = sort_is h in let b = value_is h d in rw (a, b, e) refl

pub arguments_is : {decls : List Decl} {ps : List Param} {cs : List Const} {vs : List Value} →
    AreArguments decls ps cs vs → typed_arguments decls ps cs ≡ Some vs
arguments_is no_constant = refl
arguments_is (one_constant h more) = let a = const_is h in let b = arguments_is more in rw (a, b) refl

pub opened_is : {decls : List Decl} {t : ValueType} {g : Option Const} {v : Value} → Opens decls t g v →
    opened decls t g ≡ Some v
opened_is by_default = refl
opened_is (by_constant h) = const_is h

pub referred_is : {decls : List Decl} {s o : ℕ} {c : Const} →
    Yields decls (wanted.Value (Reference s)) c (Ref (Some o)) →
    referred decls (Some s) (Some c) ≡ Some o
referred_is h = ap object_in (const_is h)
