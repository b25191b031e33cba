-- Each fault that is listed for an expression, a place or a constant is a fault of the program.
use Rattle.std.proofs.Common.{◌≡◌, ℕ, suc, List, [], ◌∷◌, ◌++◌, Option, Some, None, Bool, true, false, refl, sym, ap}
use Rattle.std.proofs.Common.{◌∙◌, subst, if◌then◌else◌, append_assoc}
use Rattle.std.specs.Prelude.{nat_le, nat_lt, not, is_some, ◌&&◌, slice_get}
use Rattle.source.specs.Texts.{NUMBER_LIMIT}
use Rattle.source.specs.declared.fault.Code.TheVariants.{NumberTooLarge, UnknownName, WrongType}
use Rattle.source.specs.declared.fault.Code.TheVariants.{InitOutOfRangeOrRepeated, LockAsValue}
use Rattle.source.specs.declared.token.Number.{Number}
use Rattle.syntax.specs.declared.tree.Operator.{Operator}
use Rattle.syntax.specs.declared.tree.Level.{Level}
use Rattle.syntax.specs.declared.tree.Level.TheVariants.{Term, Sum, Conjunction, Disjunction}
use Rattle.syntax.specs.declared.tree.Comparison as written
use Rattle.syntax.specs.declared.tree.Comparison.TheVariants as sign
use Rattle.syntax.specs.Trees.{Ident, ValueType, int_type, ref_type, Const, int_const, negative, null_const}
use Rattle.syntax.specs.Trees.{member_const, Place, lone, element, path, Expr, int, null, place, paren, prefix, chain}
use Rattle.syntax.specs.Trees.{compare, Links, no_links, link, Member, Struct, Param, Decl, lock, struct, global, array}
use Rattle.syntax.specs.Trees.{pool, init, atomic, helper, thread}
use Rattle.core_lang.specs.declared.value.ValueType.TheVariants.{Integer, Reference}
use Rattle.core_lang.specs.declared.tree.FieldStep.{FieldStep}
use Rattle.resolution.specs.declared.finding.Finding.{Finding}
use Rattle.resolution.specs.declared.wanted.Sort.{Sort}
use Rattle.resolution.specs.declared.why.Why.{Why}
use Rattle.resolution.specs.declared.why.Role.TheVariants as role
use Rattle.resolution.specs.declared.wanted.Want.{Want}
use Rattle.resolution.specs.declared.wanted.Want.TheVariants.{Anything, Value}
use Rattle.resolution.specs.Scopes.{Scope, Local, Meaning, a_local, a_decl, nothing, meaning, the_decl, the_struct}
use Rattle.resolution.specs.Scopes.{the_member, has_type}
use Rattle.resolution.specs.Expressions.{ResolvedExpr, value, truth, fits, fits_sort, alike_sorts, operator_of}
use Rattle.resolution.specs.Working.TypedExpressions.{typed}
use Rattle.resolution.specs.Expressions.{Walk, reached, at_lock, lost, stepped, walked, at_local, walk_from}
use Rattle.resolution.specs.Statements.{first_name}
use Rattle.resolution.specs.Constants.{want_of}
use Rattle.resolution.specs.Working.TypedConstants.{const_sort}
use Rattle.resolution.specs.Where.{operand_want, prefix_want, side_want, HasLink, this_link, later_link, Within, itself}
use Rattle.resolution.specs.Where.{in_parentheses, in_prefix, in_first, in_operand, in_left, in_right, in_index}
use Rattle.resolution.specs.Where.{HasExpr, HasPlace, is_read, HasType, HasConst}
use Rattle.resolution.proofs.ConstantRules.{sort_ruled}
use Rattle.resolution.proofs.ExpressionRules.{types_is}
use Rattle.resolution.specs.Faults as fault
use Rattle.resolution.specs.Faults.{start_of, const_start, IsNoValue, HasNoElements, IsNoStruct, IsWrongType}
use Rattle.resolution.specs.Faults.{too_large, unknown, for_type}
use Rattle.resolution.specs.Expressions.{IsEquality}
use Rattle.resolution.specs.Faults.{out_of_range, lock_as_value}
use Rattle.resolution.specs.Working.FaultLists as list
use Rattle.resolution.specs.Working.FaultLists.{reasoned, one, misnamed, index_faults, own_faults, sort_misfit, const_faults}
use Rattle.resolution.specs.Working.FaultLists.{argument_faults, no_elements, no_member, no_field, step_faults}
use Rattle.resolution.specs.Working.FaultLists.{end_faults, walk_faults, path_faults, misfit, unlike, side_faults}
use Rattle.resolution.specs.Working.FaultLists.{operator_faults, expr_faults, place_faults, link_faults, wanted_faults}
use Rattle.resolution.specs.Working.FaultLists.{no_struct, type_faults}
use Rattle.resolution.specs.Theory.Leasts.{IsOneOf}
use Rattle.resolution.proofs.Members.{IsTrue_of, both, of_reason, of_reason_if, of_one, of_if}
use Rattle.resolution.proofs.Tests.{lt_of, le_of}
use Rattle.resolution.specs.Theory.Facts.{and_left, and_right}

-- ---- types

true_struct : (decls : List Decl) (sc : Scope) (x : Ident) → HasType decls sc (ref_type x) → (m : Meaning) →
    meaning sc x.text ≡ m → (f : Finding) → IsOneOf f (no_struct x.span.start m) → IsTrue_of decls f
true_struct decls sc x h (a_local n l) is f i = of_reason decls WrongType x.span.start f (for_type (fault.no_struct h is tt)) i
true_struct decls sc x h (a_decl n (struct s)) is f i = absurd i
true_struct decls sc x h (a_decl n (lock y)) is f i = of_reason decls WrongType x.span.start f (for_type (fault.no_struct h is tt)) i
true_struct decls sc x h (a_decl n (global v)) is f i = of_reason decls WrongType x.span.start f (for_type (fault.no_struct h is tt)) i
true_struct decls sc x h (a_decl n (array a)) is f i = of_reason decls WrongType x.span.start f (for_type (fault.no_struct h is tt)) i
true_struct decls sc x h (a_decl n (pool p)) is f i = of_reason decls WrongType x.span.start f (for_type (fault.no_struct h is tt)) i
true_struct decls sc x h (a_decl n (init j)) is f i = of_reason decls WrongType x.span.start f (for_type (fault.no_struct h is tt)) i
true_struct decls sc x h (a_decl n (atomic s)) is f i = of_reason decls WrongType x.span.start f (for_type (fault.no_struct h is tt)) i
true_struct decls sc x h (a_decl n (helper s)) is f i = of_reason decls WrongType x.span.start f (for_type (fault.no_struct h is tt)) i
true_struct decls sc x h (a_decl n (thread t)) is f i = of_reason decls WrongType x.span.start f (for_type (fault.no_struct h is tt)) i
true_struct decls sc x h nothing is f i = of_one decls UnknownName tt x.span.start f (unknown (fault.in_type h is)) i

pub true_type : (decls : List Decl) (sc : Scope) (t : ValueType) → HasType decls sc t → (f : Finding) →
    IsOneOf f (type_faults sc t) → IsTrue_of decls f
true_type decls sc int_type h f i = absurd i
true_type decls sc (ref_type x) h f i = true_struct decls sc x h (meaning sc x.text) refl f i

-- ---- constants

-- a name with an index in a constant
true_index : (decls : List Decl) (w : Want) (x : Ident) (n : Number) → HasConst decls w (member_const x n) →
    (o : Option (ℕ × Decl)) → the_decl decls x.text ≡ o → (f : Finding) →
    IsOneOf f (index_faults decls x.span.start o n) → IsTrue_of decls f
true_index decls w x n h None is f i = of_one decls UnknownName tt x.span.start f (unknown (fault.in_const h is)) i
true_index decls w x n h (Some (k, pool p)) is f i =
    of_if decls (has_type decls (a_decl k (pool p)) && nat_le p.length.value n.value) InitOutOfRangeOrRepeated tt n.span.start f
    (λ e. out_of_range (fault.constant_beyond h is (and_left (has_type decls (a_decl k (pool p))) (nat_le p.length.value n.value) e) (le_of p.length.value n.value (and_right (has_type decls (a_decl k (pool p))) (nat_le p.length.value n.value) e)))) i
true_index decls w x n h (Some (k, lock y)) is f i = of_reason_if decls true WrongType x.span.start f (λ e. for_type (fault.no_pool h is (λ q. q) e)) i
true_index decls w x n h (Some (k, struct s)) is f i = of_reason_if decls true WrongType x.span.start f (λ e. for_type (fault.no_pool h is (λ q. q) e)) i
true_index decls w x n h (Some (k, global v)) is f i = of_reason_if decls (has_type decls (a_decl k (global v))) WrongType x.span.start f (λ e. for_type (fault.no_pool h is (λ q. q) e)) i
true_index decls w x n h (Some (k, array a)) is f i = of_reason_if decls (has_type decls (a_decl k (array a))) WrongType x.span.start f (λ e. for_type (fault.no_pool h is (λ q. q) e)) i
true_index decls w x n h (Some (k, init j)) is f i = of_reason_if decls true WrongType x.span.start f (λ e. for_type (fault.no_pool h is (λ q. q) e)) i
true_index decls w x n h (Some (k, atomic s)) is f i = of_reason_if decls true WrongType x.span.start f (λ e. for_type (fault.no_pool h is (λ q. q) e)) i
true_index decls w x n h (Some (k, helper s)) is f i = of_reason_if decls true WrongType x.span.start f (λ e. for_type (fault.no_pool h is (λ q. q) e)) i
true_index decls w x n h (Some (k, thread t)) is f i = of_reason_if decls true WrongType x.span.start f (λ e. for_type (fault.no_pool h is (λ q. q) e)) i

true_own : (decls : List Decl) (w : Want) (c : Const) → HasConst decls w c → (f : Finding) →
    IsOneOf f (own_faults decls c) → IsTrue_of decls f
true_own decls w (int_const n) h f i = of_if decls (nat_lt NUMBER_LIMIT n.value) NumberTooLarge tt n.span.start f (λ e. too_large (fault.constant h (lt_of NUMBER_LIMIT n.value e))) i
true_own decls w (negative sign n) h f i = of_if decls (nat_lt NUMBER_LIMIT n.value) NumberTooLarge tt n.span.start f (λ e. too_large (fault.negative_constant sign h (lt_of NUMBER_LIMIT n.value e))) i
true_own decls w (null_const at) h f i = absurd i
true_own decls w (member_const x n) h f i = true_index decls w x n h (the_decl decls x.text) refl f i

pub misfit_if : (decls : List Decl) (p : ℕ) (b : Bool) {w : Why} → (b ≡ false → IsWrongType decls p w) → (f : Finding) →
    IsOneOf f (if b then [] else reasoned WrongType p w) → IsTrue_of decls f
misfit_if decls p true h f i = absurd i
misfit_if decls p false h f i = of_reason decls WrongType p f (for_type (h refl)) i

true_sort : (decls : List Decl) (w : Want) (c : Const) → HasConst decls w c → (s : Option Sort) →
    const_sort decls c ≡ s → (f : Finding) → IsOneOf f (sort_misfit w (const_start c) s) → IsTrue_of decls f
true_sort decls w c h None is f i = absurd i
true_sort decls w c h (Some s) is f i =
    misfit_if decls (const_start c) (fits_sort w s)
    (λ e. fault.unwanted_constant h (sort_ruled decls c s is) e) f i

pub true_const : (decls : List Decl) (w : Want) (c : Const) → HasConst decls w c → (f : Finding) →
    IsOneOf f (const_faults decls w c) → IsTrue_of decls f
true_const decls w c h f i =
    both f (own_faults decls c) (sort_misfit w (const_start c) (const_sort decls c)) (true_own decls w c h f) (true_sort decls w c h (const_sort decls c) refl f) i

pub true_arguments : (decls : List Decl) (ps : List Param) (cs : List Const) →
    ((k : ℕ) (p : Param) (c : Const) → slice_get ps k ≡ Some p → slice_get cs k ≡ Some c →
    HasConst decls (want_of decls p) c) → (f : Finding) → IsOneOf f (argument_faults decls ps cs) → IsTrue_of decls f
true_arguments decls [] [] up f i = absurd i
true_arguments decls [] (c ∷ cs) up f i = absurd i
true_arguments decls (p ∷ ps) [] up f i = absurd i
true_arguments decls (p ∷ ps) (c ∷ cs) up f i =
    both f (const_faults decls (want_of decls p) c) (argument_faults decls ps cs)
    (true_const decls (want_of decls p) c (up 0 p c refl refl) f)
    (true_arguments decls ps cs (λ k q x a b. up (suc k) q x a b) f) i

-- ---- places, in a scope over the program's declarations

true_unknown : (sc : Scope) (p : Place) → HasPlace sc.decls sc p → meaning sc (first_name p).text ≡ nothing →
    (f : Finding) → IsOneOf f (one UnknownName (first_name p).span.start) → IsTrue_of sc.decls f
true_unknown sc p h is f i = of_one sc.decls UnknownName tt (first_name p).span.start f (unknown (fault.in_place h is)) i

-- a declaration as a value
true_no_value : (sc : Scope) (w : Want) (x : Ident) (k : ℕ) (d : Decl) → HasExpr sc.decls sc w (place (lone x)) →
    meaning sc x.text ≡ a_decl k d → IsNoValue d → (f : Finding) →
    IsOneOf f (misnamed sc.decls WrongType role.Value x.span.start (a_decl k d)) → IsTrue_of sc.decls f
true_no_value sc w x k d h is not_so f i = of_reason_if sc.decls (has_type sc.decls (a_decl k d)) WrongType x.span.start f (λ e. for_type (fault.no_value h is not_so e)) i

true_name : (sc : Scope) (w : Want) (x : Ident) → HasExpr sc.decls sc w (place (lone x)) → (m : Meaning) →
    meaning sc x.text ≡ m → (f : Finding) → IsOneOf f (list.no_value sc.decls x.span.start m) → IsTrue_of sc.decls f
true_name sc w x h (a_local n l) is f i = absurd i
true_name sc w x h (a_decl n (global v)) is f i = absurd i
true_name sc w x h (a_decl n (lock y)) is f i = of_one sc.decls LockAsValue tt x.span.start f (lock_as_value (fault.global_lock (is_read h) is)) i
true_name sc w x h (a_decl n (struct s)) is f i = true_no_value sc w x n (struct s) h is tt f i
true_name sc w x h (a_decl n (array a)) is f i = true_no_value sc w x n (array a) h is tt f i
true_name sc w x h (a_decl n (pool p)) is f i = true_no_value sc w x n (pool p) h is tt f i
true_name sc w x h (a_decl n (init j)) is f i = true_no_value sc w x n (init j) h is tt f i
true_name sc w x h (a_decl n (atomic s)) is f i = true_no_value sc w x n (atomic s) h is tt f i
true_name sc w x h (a_decl n (helper s)) is f i = true_no_value sc w x n (helper s) h is tt f i
true_name sc w x h (a_decl n (thread t)) is f i = true_no_value sc w x n (thread t) h is tt f i
true_name sc w x h nothing is f i = true_unknown sc (lone x) (is_read h) is f i

true_unfit : (sc : Scope) (x : Ident) (e : Expr) (m : Meaning) → HasPlace sc.decls sc (element x e) →
    meaning sc x.text ≡ m → HasNoElements m → (f : Finding) →
    IsOneOf f (misnamed sc.decls WrongType role.Elements x.span.start m) →
    IsTrue_of sc.decls f
true_unfit sc x e m h is not_so f i =
    of_reason_if sc.decls (has_type sc.decls m) WrongType x.span.start f (λ t. for_type (fault.no_elements h is not_so t)) i

pub true_elements : (sc : Scope) (x : Ident) (e : Expr) → HasPlace sc.decls sc (element x e) → (m : Meaning) →
    meaning sc x.text ≡ m → (f : Finding) → IsOneOf f (no_elements sc.decls x.span.start m) → IsTrue_of sc.decls f
true_elements sc x e h (a_local n l) is f i = true_unfit sc x e (a_local n l) h is tt f i
true_elements sc x e h (a_decl n (array a)) is f i = absurd i
true_elements sc x e h (a_decl n (pool p)) is f i = absurd i
true_elements sc x e h (a_decl n (lock y)) is f i = true_unfit sc x e (a_decl n (lock y)) h is tt f i
true_elements sc x e h (a_decl n (struct s)) is f i = true_unfit sc x e (a_decl n (struct s)) h is tt f i
true_elements sc x e h (a_decl n (global v)) is f i = true_unfit sc x e (a_decl n (global v)) h is tt f i
true_elements sc x e h (a_decl n (init j)) is f i = true_unfit sc x e (a_decl n (init j)) h is tt f i
true_elements sc x e h (a_decl n (atomic s)) is f i = true_unfit sc x e (a_decl n (atomic s)) h is tt f i
true_elements sc x e h (a_decl n (helper s)) is f i = true_unfit sc x e (a_decl n (helper s)) h is tt f i
true_elements sc x e h (a_decl n (thread t)) is f i = true_unfit sc x e (a_decl n (thread t)) h is tt f i
true_elements sc x e h nothing is f i = true_unknown sc (element x e) h is f i

-- ---- paths

true_member : (sc : Scope) (x : Ident) (fs before behind : List Ident) (y : Ident) (steps : List FieldStep) (k : ℕ) (s : Struct) → HasPlace sc.decls sc (path x fs) → fs ≡ before ++ y ∷ behind →
    walk_from sc.decls (meaning sc x.text) before ≡ reached steps (Reference k) → the_struct sc.decls k ≡ Some s → (o : Option (ℕ × Member)) → the_member s.members y.text ≡ o → (f : Finding) → IsOneOf f (no_member y.span.start o) → IsTrue_of sc.decls f
true_member sc x fs before behind y steps k s h parts at is None e f i = of_one sc.decls UnknownName tt y.span.start f (unknown (fault.no_field before behind y steps k h parts at is e)) i
true_member sc x fs before behind y steps k s h parts at is (Some m) e f i = absurd i

true_field : (sc : Scope) (x : Ident) (fs before behind : List Ident) (y : Ident) (steps : List FieldStep) (k : ℕ) →
    HasPlace sc.decls sc (path x fs) → fs ≡ before ++ y ∷ behind →
    walk_from sc.decls (meaning sc x.text) before ≡ reached steps (Reference k) → (o : Option Struct) → the_struct sc.decls k ≡ o → (f : Finding) → IsOneOf f (no_field o y) → IsTrue_of sc.decls f
true_field sc x fs before behind y steps k h parts at None is f i = absurd i
true_field sc x fs before behind y steps k h parts at (Some s) is f i = true_member sc x fs before behind y steps k s h parts at is (the_member s.members y.text) refl f i

true_step : (sc : Scope) (x : Ident) (fs before behind : List Ident) (y : Ident) → HasPlace sc.decls sc (path x fs) →
    fs ≡ before ++ y ∷ behind → (w : Walk) → walk_from sc.decls (meaning sc x.text) before ≡ w → (f : Finding) →
    IsOneOf f (step_faults sc.decls x.span.start w y) → IsTrue_of sc.decls f
true_step sc x fs before behind y h parts (reached steps (Reference k)) at f i = true_field sc x fs before behind y steps k h parts at (the_struct sc.decls k) refl f i
true_step sc x fs before behind y h parts (reached steps Integer) at f i = of_reason sc.decls WrongType x.span.start f (for_type (fault.field_of_int before behind y h parts at)) i
true_step sc x fs before behind y h parts at_lock at f i = of_reason sc.decls WrongType x.span.start f (for_type (fault.field_of_lock before behind y h parts at)) i
true_step sc x fs before behind y h parts lost at f i = absurd i

true_end : (sc : Scope) (x : Ident) (fs : List Ident) → HasPlace sc.decls sc (path x fs) → (w : Walk) →
    walk_from sc.decls (meaning sc x.text) fs ≡ w → (f : Finding) → IsOneOf f (end_faults x.span.start w) →
    IsTrue_of sc.decls f
true_end sc x fs h (reached steps t) at f i = absurd i
true_end sc x fs h at_lock at f i = of_one sc.decls LockAsValue tt x.span.start f (lock_as_value (fault.lock_field h at)) i
true_end sc x fs h lost at f i = absurd i

pub walked_push : (decls : List Decl) (w : Walk) (before : List Ident) (y : Ident) →
    walked decls w (before ++ y ∷ []) ≡ stepped decls (walked decls w before) y
walked_push decls w [] y = refl
walked_push decls w (b ∷ before) y = walked_push decls (stepped decls w b) before y

pub from_local : (decls : List Decl) (m : Meaning) (n : ℕ) (l : Local) → m ≡ a_local n l → (fs : List Ident) →
    walk_from decls m fs ≡ walked decls (at_local l.value_type) fs
from_local decls m n l e fs = ap (λ (x : Meaning). walk_from decls x fs) e

true_walk : (sc : Scope) (x : Ident) (n : ℕ) (l : Local) (fs before rest : List Ident) →
    HasPlace sc.decls sc (path x fs) → meaning sc x.text ≡ a_local n l → fs ≡ before ++ rest →
    (f : Finding) → IsOneOf f (walk_faults sc.decls x.span.start (walked sc.decls (at_local l.value_type) before) rest) → IsTrue_of sc.decls f
true_walk sc x n l fs before [] h is parts f i =
    true_end sc x fs h (walked sc.decls (at_local l.value_type) before)
    (from_local sc.decls (meaning sc x.text) n l is fs ∙ ap (walked sc.decls (at_local l.value_type)) (parts ∙ nil before)) f i
  where
    nil : (xs : List Ident) → xs ++ [] ≡ xs
    nil [] = refl
    nil (y ∷ xs) = ap (λ (ys : List Ident). y ∷ ys) (nil xs)
true_walk sc x n l fs before (y ∷ rest) h is parts f i =
    both f (step_faults sc.decls x.span.start (walked sc.decls (at_local l.value_type) before) y) (walk_faults sc.decls x.span.start (stepped sc.decls (walked sc.decls (at_local l.value_type) before) y) rest)
    (true_step sc x fs before rest y h parts (walked sc.decls (at_local l.value_type) before) (from_local sc.decls (meaning sc x.text) n l is before) f)
    (λ j. true_walk sc x n l fs (before ++ y ∷ []) rest h is (parts ∙ sym (append_assoc before (y ∷ []) rest)) f
    (subst (λ (w : Walk). IsOneOf f (walk_faults sc.decls x.span.start w rest)) (sym (walked_push sc.decls (at_local l.value_type) before y)) j)) i

pub true_path : (sc : Scope) (x : Ident) (fs : List Ident) → HasPlace sc.decls sc (path x fs) → (m : Meaning) →
    meaning sc x.text ≡ m → (f : Finding) → IsOneOf f (path_faults sc.decls x.span.start m fs) → IsTrue_of sc.decls f
true_path sc x fs h (a_local n l) is f i = true_walk sc x n l fs [] fs h is refl f i
true_path sc x fs h (a_decl n d) is f i = of_reason_if sc.decls (has_type sc.decls (a_decl n d)) WrongType x.span.start f (λ e. for_type (fault.field_of_declaration h is e)) i
true_path sc x fs h nothing is f i = true_unknown sc (path x fs) h is f i

-- ---- expressions

true_misfit : (sc : Scope) (w : Want) (e : Expr) → HasExpr sc.decls sc w e → (s : Option ResolvedExpr) →
    typed sc e ≡ s → (f : Finding) → IsOneOf f (misfit w (start_of e) s) → IsTrue_of sc.decls f
true_misfit sc w e h None is f i = absurd i
true_misfit sc w e h (Some s) is f i = misfit_if sc.decls (start_of e) (fits w s) (λ t. fault.unwanted h (types_is sc e s is) t) f i

true_unlike : (sc : Scope) (w : Want) (a b : Expr) (c : written.Comparison) → HasExpr sc.decls sc w (compare a c b) →
    IsEquality c → (s t : Option ResolvedExpr) → typed sc a ≡ s → typed sc b ≡ t → (f : Finding) →
    IsOneOf f (unlike (start_of a) (start_of b) s t) → IsTrue_of sc.decls f
true_unlike sc w a b c h so (Some (value x s)) (Some (value y t)) p q f i = misfit_if sc.decls (start_of b) (alike_sorts s t) (λ e. fault.unlike_sides h so (types_is sc a (value x s) p) (types_is sc b (value y t) q) e) f i
true_unlike sc w a b c h so (Some (value x s)) (Some (truth d)) p q f i = of_reason sc.decls WrongType (start_of b) f (for_type (fault.unlike_sides h so (types_is sc a (value x s) p) (types_is sc b (truth d) q) tt)) i
true_unlike sc w a b c h so (Some (truth d)) (Some (value y t)) p q f i = of_reason sc.decls WrongType (start_of b) f (for_type (fault.unlike_sides h so (types_is sc a (truth d) p) (types_is sc b (value y t) q) tt)) i
true_unlike sc w a b c h so (Some (truth d)) (Some (truth g)) p q f i = of_reason sc.decls WrongType (start_of a) f (for_type (fault.truths_compared h so (types_is sc a (truth d) p) (types_is sc b (truth g) q))) i
true_unlike sc w a b c h so (Some s) None p q f i = absurd i
true_unlike sc w a b c h so None t p q f i = absurd i

true_sides : (sc : Scope) (w : Want) (a b : Expr) (c : written.Comparison) → HasExpr sc.decls sc w (compare a c b) →
    (f : Finding) → IsOneOf f (side_faults c (start_of a) (start_of b) (typed sc a) (typed sc b)) →
    IsTrue_of sc.decls f
true_sides sc w a b sign.Equal h f i = true_unlike sc w a b sign.Equal h tt (typed sc a) (typed sc b) refl refl f i
true_sides sc w a b sign.NotEqual h f i = true_unlike sc w a b sign.NotEqual h tt (typed sc a) (typed sc b) refl refl f i
true_sides sc w a b sign.Less h f i = absurd i
true_sides sc w a b sign.LessOrEqual h f i = absurd i
true_sides sc w a b sign.Greater h f i = absurd i
true_sides sc w a b sign.GreaterOrEqual h f i = absurd i

pub none_is : {A : Type 0} (o : Option A) → not (is_some o) ≡ true → o ≡ None
none_is None e = refl
none_is (Some x) e = cc

true_operator : (sc : Scope) (w : Want) (level : Level) (e g : Expr) (links : Links) (o : Operator) →
    HasExpr sc.decls sc w (chain level e links) → HasLink links o g → (f : Finding) →
    IsOneOf f (operator_faults level (start_of g) o) → IsTrue_of sc.decls f
true_operator sc w Term e g links o h l f i = of_reason_if sc.decls (not (is_some (operator_of o))) WrongType (start_of g) f (λ t. for_type (fault.misplaced_operator h tt l (none_is (operator_of o) t))) i
true_operator sc w Sum e g links o h l f i = of_reason_if sc.decls (not (is_some (operator_of o))) WrongType (start_of g) f (λ t. for_type (fault.misplaced_operator h tt l (none_is (operator_of o) t))) i
true_operator sc w Conjunction e g links o h l f i = absurd i
true_operator sc w Disjunction e g links o h l f i = absurd i

mutual
  true_expr : (sc : Scope) (w : Want) (e : Expr) →
      ((v : Want) (x : Expr) → Within w e v x → HasExpr sc.decls sc v x) → (f : Finding) →
      IsOneOf f (expr_faults sc e) → IsTrue_of sc.decls f
  true_expr sc w (int n) up f i = of_if sc.decls (nat_lt NUMBER_LIMIT n.value) NumberTooLarge tt n.span.start f (λ e. too_large (fault.expression (up w (int n) itself) (lt_of NUMBER_LIMIT n.value e))) i
  true_expr sc w (null at) up f i = absurd i
  true_expr sc w (place p) up f i = true_place sc w p up f i
  true_expr sc w (paren at e) up f i = true_expr sc Anything e (λ v x h. up v x (in_parentheses h)) f i
  true_expr sc w (prefix o at e) up f i =
      both f (expr_faults sc e) (misfit (prefix_want o) (start_of e) (typed sc e))
      (true_expr sc (prefix_want o) e (λ v x h. up v x (in_prefix h)) f)
      (true_misfit sc (prefix_want o) e (up (prefix_want o) e (in_prefix itself)) (typed sc e) refl f) i
  true_expr sc w (chain level e links) up f i =
      both f (expr_faults sc e ++ misfit (operand_want level) (start_of e) (typed sc e)) (link_faults sc level links)
      (both f (expr_faults sc e) (misfit (operand_want level) (start_of e) (typed sc e))
      (true_expr sc (operand_want level) e (λ v x h. up v x (in_first h)) f)
      (true_misfit sc (operand_want level) e (up (operand_want level) e (in_first itself)) (typed sc e) refl f))
      (true_links sc w level e links links (up w (chain level e links) itself) (λ o g l. l) (λ v x o g l h. up v x (in_operand l h)) f) i
  true_expr sc w (compare a c b) up f i =
      both f (((expr_faults sc a ++ misfit (side_want c) (start_of a) (typed sc a)) ++ expr_faults sc b) ++ misfit (side_want c) (start_of b) (typed sc b)) (side_faults c (start_of a) (start_of b) (typed sc a) (typed sc b))
      (both f ((expr_faults sc a ++ misfit (side_want c) (start_of a) (typed sc a)) ++ expr_faults sc b) (misfit (side_want c) (start_of b) (typed sc b))
      (both f (expr_faults sc a ++ misfit (side_want c) (start_of a) (typed sc a)) (expr_faults sc b)
      (both f (expr_faults sc a) (misfit (side_want c) (start_of a) (typed sc a))
      (true_expr sc (side_want c) a (λ v x h. up v x (in_left h)) f)
      (true_misfit sc (side_want c) a (up (side_want c) a (in_left itself)) (typed sc a) refl f))
      (true_expr sc (side_want c) b (λ v x h. up v x (in_right h)) f))
      (true_misfit sc (side_want c) b (up (side_want c) b (in_right itself)) (typed sc b) refl f))
      (true_sides sc w a b c (up w (compare a c b) itself) f) i

  true_place : (sc : Scope) (w : Want) (p : Place) →
      ((v : Want) (x : Expr) → Within w (place p) v x → HasExpr sc.decls sc v x) → (f : Finding) →
      IsOneOf f (place_faults sc p) → IsTrue_of sc.decls f
  true_place sc w (lone x) up f i = true_name sc w x (up w (place (lone x)) itself) (meaning sc x.text) refl f i
  true_place sc w (element x e) up f i =
      both f (no_elements sc.decls x.span.start (meaning sc x.text) ++ expr_faults sc e) (misfit (Value Integer) (start_of e) (typed sc e))
      (both f (no_elements sc.decls x.span.start (meaning sc x.text)) (expr_faults sc e)
      (true_elements sc x e (is_read (up w (place (element x e)) itself)) (meaning sc x.text) refl f)
      (true_expr sc (Value Integer) e (λ v y h. up v y (in_index h)) f))
      (true_misfit sc (Value Integer) e (up (Value Integer) e (in_index itself)) (typed sc e) refl f) i
  true_place sc w (path x fs) up f i = true_path sc x fs (is_read (up w (place (path x fs)) itself)) (meaning sc x.text) refl f i

  true_links : (sc : Scope) (w : Want) (level : Level) (e : Expr) (all links : Links) →
      HasExpr sc.decls sc w (chain level e all) → ((o : Operator) (g : Expr) → HasLink links o g → HasLink all o g) →
      ((v : Want) (x : Expr) (o : Operator) (g : Expr) → HasLink all o g → Within (operand_want level) g v x → HasExpr sc.decls sc v x) → (f : Finding) → IsOneOf f (link_faults sc level links) → IsTrue_of sc.decls f
  true_links sc w level e all no_links h in_all up f i = absurd i
  true_links sc w level e all (link o g rest) h in_all up f i =
      both f ((operator_faults level (start_of g) o ++ expr_faults sc g) ++ misfit (operand_want level) (start_of g) (typed sc g)) (link_faults sc level rest)
      (both f (operator_faults level (start_of g) o ++ expr_faults sc g) (misfit (operand_want level) (start_of g) (typed sc g))
      (both f (operator_faults level (start_of g) o) (expr_faults sc g)
      (true_operator sc w level e g all o h (in_all o g this_link) f)
      (true_expr sc (operand_want level) g (λ v x b. up v x o g (in_all o g this_link) b) f))
      (true_misfit sc (operand_want level) g (up (operand_want level) g o g (in_all o g this_link) itself) (typed sc g) refl f))
      (true_links sc w level e all rest h (λ p x l. in_all p x (later_link l)) up f) i

-- an expression with its expectation
pub true_wanted : (sc : Scope) (w : Want) (e : Expr) →
    ((v : Want) (x : Expr) → Within w e v x → HasExpr sc.decls sc v x) → (f : Finding) →
    IsOneOf f (wanted_faults sc w e) → IsTrue_of sc.decls f
true_wanted sc w e up f i =
    both f (expr_faults sc e) (misfit w (start_of e) (typed sc e)) (true_expr sc w e up f) (true_misfit sc w e (up w e itself) (typed sc e) refl f) i
