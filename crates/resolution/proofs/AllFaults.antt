-- Each fault of the program is listed.
use Rattle.std.proofs.Common.{◌≡◌, ℕ, zero, suc, ◌+◌, ◌<◌, ◌≤◌, ◌⊎◌, inl, inr, List, [], ◌∷◌, ◌++◌, length, Option}
use Rattle.std.proofs.Common.{Some, None, Bool, true, false, refl, sym, ap, ◌∙◌, subst, if◌then◌else◌, append_assoc}
use Rattle.std.proofs.Common.{arith}
use Rattle.std.specs.Prelude.{nat_le, nat_lt, not, is_some, ◌==◌, ◌&&◌, ◌||◌, slice_get}
use Rattle.std.proofs.lemmas.Bool.Decides.{nat_tests}
use Rattle.source.specs.Texts.{NUMBER_LIMIT}
use Rattle.source.specs.declared.fault.Code.{Code}
use Rattle.source.specs.declared.fault.Code.TheVariants.{NumberTooLarge, DeclaredTwice, UnknownName, WrongType}
use Rattle.source.specs.declared.fault.Code.TheVariants.{WrongArgumentCount, NotAssignable, NeitherFinalNorProtected}
use Rattle.source.specs.declared.fault.Code.TheVariants.{ProtectedByNoLock, ProtectedByPassesNonFinal, LimitExceeded}
use Rattle.source.specs.declared.fault.Code.TheVariants.{FinalWithoutOpeningValue, InitOutOfRangeOrRepeated}
use Rattle.source.specs.declared.fault.Code.TheVariants.{LockAsValue}
use Rattle.source.specs.declared.token.Number.{Number}
use Rattle.syntax.specs.declared.tree.Operator.{Operator}
use Rattle.syntax.specs.declared.tree.Level.{Level}
use Rattle.syntax.specs.declared.tree.Level.TheVariants.{Term, Sum, Conjunction, Disjunction}
use Rattle.syntax.specs.declared.tree.Comparison as written
use Rattle.syntax.specs.declared.tree.Comparison.TheVariants as sign
use Rattle.syntax.specs.Trees.{Ident, ref_type, Const, int_const, negative, member_const, Place, lone, element, path}
use Rattle.syntax.specs.Trees.{ValueType, Expr, int, place, chain, compare, let_owned, let_call, assign, Member}
use Rattle.syntax.specs.Trees.{lock_member, final_member, field_member, Struct, Pool, Call, Decl, lock, struct, global}
use Rattle.syntax.specs.Trees.{array, pool, init, atomic, helper, thread}
use Rattle.core_lang.specs.declared.value.ValueType as core_type
use Rattle.core_lang.specs.declared.value.ValueType.TheVariants.{Integer, Reference}
use Rattle.source.specs.declared.mistake.Mistake.{Mistake}
use Rattle.resolution.specs.declared.finding.Finding.{Finding}
use Rattle.resolution.specs.declared.wanted.Sort.TheVariants as sort
use Rattle.resolution.specs.declared.wanted.Want.{Want}
use Rattle.resolution.specs.Limits.{STRUCT_LIMIT, MEMBER_LIMIT, FINAL_LIMIT, CLASS_LIMIT, OBJECT_LIMIT, CELL_LIMIT}
use Rattle.resolution.specs.Limits.{SECTION_LIMIT, THREAD_LIMIT, CALL_LIMIT}
use Rattle.resolution.specs.Scopes.{Scope, Local, outside, Meaning, a_local, a_decl, nothing, meaning, place_of, count}
use Rattle.resolution.specs.Scopes.{declared, the_decl, alike, has_body, member_name, member_bears, the_member}
use Rattle.resolution.specs.Scopes.{the_local, has_type, member_has_type, type_of, result_of, struct_named, entered}
use Rattle.resolution.specs.Numbers.{is_lock, total, classes_of, objects_of, cells_of, calls_of}
use Rattle.resolution.specs.Expressions.{ResolvedExpr, value, truth, fits, fits_type, fits_sort, alike_sorts}
use Rattle.resolution.specs.Working.TypedExpressions.{typed}
use Rattle.resolution.specs.Expressions.{operator_of, Walk, reached, at_lock, lost, walk_from}
use Rattle.resolution.specs.declared.owner_field.OwnerField.{OwnerField}
use Rattle.resolution.specs.Working.TypedOwners.{owner_field}
use Rattle.resolution.specs.Constants.{pool_members, initialised, member_want, given}
use Rattle.resolution.specs.Statements.{ahead_of}
use Rattle.resolution.specs.Where.{Has, first, further, HasStmt, HasExpr, Binds, HasCall, HasConst}
use Rattle.resolution.proofs.ConstantRules.{sort_is}
use Rattle.resolution.proofs.ExpressionRules.{typed_is}
use Rattle.resolution.proofs.OwnerRules.{final_is, has_no_last}
use Rattle.resolution.specs.Faults as fault
use Rattle.resolution.specs.Faults.{start_of, const_start, IsTooLarge, IsDeclaredTwice, IsLockDecl, IsLockMember}
use Rattle.resolution.specs.Faults.{IsFinalMember, IsUnknown, AreUnlike, IsNoValue, HasNoElements}
use Rattle.resolution.specs.Expressions.{IsEquality, IsOfNumbers}
use Rattle.resolution.specs.Faults.{IsNoStruct, IsSection, IsPool, IsWrongType, IsWrongCount, IsNotAssignable}
use Rattle.resolution.specs.Faults.{IsUnprotected, EndsAtNoLock, PassesNonFinal, limit_of, IsOverLimit, IsFinalMissing}
use Rattle.resolution.specs.Faults.{IsOutOfRange, IsLockAsValue, IsFault, too_large, declared_twice, unknown}
use Rattle.resolution.specs.Faults.{wrong_type, miscounted, not_assignable, without_lock, ends_at_no_lock}
use Rattle.resolution.specs.Faults.{passes_non_final, over_limit, final_missing, out_of_range, lock_as_value, of_calls}
use Rattle.resolution.specs.declared.why.Why.{Why}
use Rattle.resolution.specs.declared.why.Why.TheVariants as why
use Rattle.resolution.specs.declared.why.Role.TheVariants as role
use Rattle.resolution.specs.Working.Findings.{told, found_if}
use Rattle.resolution.specs.Reasons.{kind_of, referent_of, stands_for}
use Rattle.resolution.specs.Working.FaultLists as list
use Rattle.resolution.specs.Working.FaultLists.{reasoned, one, one_if, unfit, misnamed, unfit_member, no_struct, type_faults, number_faults}
use Rattle.resolution.specs.Working.FaultLists.{index_faults, own_faults, sort_misfit, const_faults, argument_faults}
use Rattle.resolution.specs.Working.FaultLists.{no_elements, no_field, step_faults, end_faults, path_faults, misfit}
use Rattle.resolution.specs.Working.FaultLists.{unlike, side_faults, operator_faults, expr_faults, taken, local_faults}
use Rattle.resolution.specs.Working.FaultLists.{no_target, no_array, final_faults, target_faults, owner_field_faults}
use Rattle.resolution.specs.Working.FaultLists.{other_type, global_lock_faults, lock_faults, passed_faults, last_faults}
use Rattle.resolution.specs.Working.FaultLists.{protection_faults, some_lacks, is_at, is_due, lacks, missing_faults}
use Rattle.resolution.specs.Working.FaultLists.{field_faults, named_faults, null_faults, call_faults, again, class_faults}
use Rattle.resolution.specs.Working.FaultLists.{twice, twice_faults, member_twice_faults, struct_faults, first_too_many}
use Rattle.resolution.specs.Working.FaultLists.{lock_count, member_counts, count_faults, total_faults, given_before}
use Rattle.resolution.specs.Working.FaultLists.{init_target_again, repeated, repeated_faults, each_faults}
use Rattle.resolution.specs.Working.FaultLists.{declaration_faults}
use Rattle.resolution.specs.Theory.Leasts.{IsAmong, among_left, among_right}
use Rattle.core_lang_helpers.specs.Faults.{IsGraphFault}
use Rattle.resolution.specs.CallGraphs.{tree_graph}
use Rattle.resolution.specs.declared.body_limits.BodyLimits.{BodyLimits}
use Rattle.resolution.proofs.TrueStatements.{entered_limits}
use Rattle.resolution.proofs.Members.{at, at_if}
use Rattle.resolution.proofs.Named.{member_is}
use Rattle.resolution.proofs.Parts.{chain_link, of_place_at, of_decl, of_stmt, of_owner, helper_call_decls, stmt_decls}
use Rattle.resolution.proofs.Parts.{of_wanted, expr_decls, of_expr, own, of_param, of_local, local_decls}
use Rattle.resolution.proofs.Parts.{in_members_field, of_type, of_call, of_const, of_class, of_listed_lock}
use Rattle.resolution.proofs.HelperFaults.{listed, unfit_in, misfit_is, other_count, of_helper_name, of_result}
use Rattle.resolution.proofs.HelperFaults.{no_helper_is, no_result_is, counted_is}
use Rattle.resolution.proofs.Tests.{lt_true, le_true, both_true}
use Rattle.std.proofs.lemmas.List.{append-nil}
use Rattle.resolution.proofs.AllPaths.{of_place, of_indexed, of_path, unknown_place, in_path, in_path_end}
use Rattle.resolution.proofs.AllPaths.{unknown_field, of_passed, of_last, unknown_passed, of_global_lock, of_init_index}
use Rattle.resolution.proofs.AllPaths.{of_init_field, of_member, of_owner_name}

unfit_member_in : (decls : List Decl) (c : Code) (p : ℕ) {w : Why} (x : Member) → member_has_type decls x ≡ true →
    unfit_member decls (told c p w) x ≡ reasoned c p w
unfit_member_in decls c p {w = w} x e = ap (λ (b : Bool). found_if b (told c p w)) e

no_lock_is : (decls : List Decl) (p k : ℕ) (x : Member) → (IsLockMember x → ⊥) → member_has_type decls x ≡ true →
    list.no_lock decls p (Some (k, x)) ≡ reasoned WrongType p why.ListedMember
no_lock_is decls p k (lock_member y) not_so t = absurd (not_so tt)
no_lock_is decls p k (final_member f) not_so t = unfit_member_in decls WrongType p (final_member f) t
no_lock_is decls p k (field_member f) not_so t = unfit_member_in decls WrongType p (field_member f) t

-- ---- E02

large : (decls : List Decl) (p : ℕ) → IsTooLarge decls p → listed decls NumberTooLarge p
large decls p (fault.expression {sc = sc} {w = w} {n = n} h over) = of_expr decls sc w (int n) h _ (at_if (nat_lt NUMBER_LIMIT n.value) NumberTooLarge n.span.start (lt_true NUMBER_LIMIT n.value over))
large decls p (fault.constant {w = w} {n = n} h over) = of_const decls w (int_const n) h _ (among_left _ (number_faults n) _ (at_if (nat_lt NUMBER_LIMIT n.value) NumberTooLarge n.span.start (lt_true NUMBER_LIMIT n.value over)))
large decls p (fault.negative_constant {w = w} sign {n = n} h over) = of_const decls w (negative sign n) h _ (among_left _ (number_faults n) _ (at_if (nat_lt NUMBER_LIMIT n.value) NumberTooLarge n.span.start (lt_true NUMBER_LIMIT n.value over)))

-- ---- E05

in_twice : (ahead before rest : List Decl) (d : Decl) (f : Mistake) →
    IsAmong f (twice (ahead ++ before) (declared d)) → IsAmong f (twice_faults ahead (before ++ d ∷ rest))
in_twice ahead [] rest d f i = among_left f (twice ahead (declared d)) (twice_faults (ahead ++ d ∷ []) rest) (subst (λ (ds : List Decl). IsAmong f (twice ds (declared d))) (append-nil ahead) i)
in_twice ahead (b ∷ before) rest d f i =
    among_right f (twice ahead (declared b)) _ (in_twice (ahead ++ b ∷ []) before rest d f (subst (λ (ds : List Decl). IsAmong f (twice ds (declared d))) (sym (append_assoc ahead (b ∷ []) before)) i))

pub in_member_twice : (ahead before rest : List Member) (x : Member) (f : Mistake) →
    IsAmong f (again (member_name x).span.start (place_of member_bears (ahead ++ before) (member_name x).text)) →
    IsAmong f (member_twice_faults ahead (before ++ x ∷ rest))
in_member_twice ahead [] rest x f i =
    among_left f (again (member_name x).span.start (place_of member_bears ahead (member_name x).text)) (member_twice_faults (ahead ++ x ∷ []) rest)
    (subst (λ (ms : List Member). IsAmong f (again (member_name x).span.start (place_of member_bears ms (member_name x).text))) (append-nil ahead) i)
in_member_twice ahead (b ∷ before) rest x f i =
    among_right f (again (member_name b).span.start (place_of member_bears ahead (member_name b).text)) _
    (in_member_twice (ahead ++ b ∷ []) before rest x f (subst (λ (ms : List Member). IsAmong f (again (member_name x).span.start (place_of member_bears ms (member_name x).text))) (sym (append_assoc ahead (b ∷ []) before)) i))

pub in_structs : (ds : List Decl) (s : Struct) → Has ds (struct s) → (f : Mistake) →
    IsAmong f (member_twice_faults [] s.members) → IsAmong f (struct_faults ds)
in_structs [] s h f i = elim h [ ]
in_structs (struct s ∷ ds) r first f i = among_left f (member_twice_faults [] s.members) (struct_faults ds) i
in_structs (struct s ∷ ds) r (further h) f i = among_right f (member_twice_faults [] s.members) _ (in_structs ds r h f i)
in_structs (lock x ∷ ds) r (further h) f i = in_structs ds r h f i
in_structs (global v ∷ ds) r (further h) f i = in_structs ds r h f i
in_structs (array a ∷ ds) r (further h) f i = in_structs ds r h f i
in_structs (pool p ∷ ds) r (further h) f i = in_structs ds r h f i
in_structs (init j ∷ ds) r (further h) f i = in_structs ds r h f i
in_structs (atomic s ∷ ds) r (further h) f i = in_structs ds r h f i
in_structs (helper s ∷ ds) r (further h) f i = in_structs ds r h f i
in_structs (thread t ∷ ds) r (further h) f i = in_structs ds r h f i

of_twice : (decls : List Decl) (f : Mistake) → IsAmong f (twice_faults [] decls) → IsAmong f (declaration_faults decls)
of_twice decls f i =
    among_left f (twice_faults [] decls ++ struct_faults decls ++ total_faults decls [] decls ++ repeated_faults decls [] decls) (each_faults decls 0 decls)
    (among_left f (twice_faults [] decls ++ struct_faults decls ++ total_faults decls [] decls) (repeated_faults decls [] decls)
    (among_left f (twice_faults [] decls ++ struct_faults decls) (total_faults decls [] decls) (among_left f (twice_faults [] decls) (struct_faults decls) i)))

pub of_structs : (decls : List Decl) (f : Mistake) → IsAmong f (struct_faults decls) →
    IsAmong f (declaration_faults decls)
of_structs decls f i =
    among_left f (twice_faults [] decls ++ struct_faults decls ++ total_faults decls [] decls ++ repeated_faults decls [] decls) (each_faults decls 0 decls)
    (among_left f (twice_faults [] decls ++ struct_faults decls ++ total_faults decls [] decls) (repeated_faults decls [] decls)
    (among_left f (twice_faults [] decls ++ struct_faults decls) (total_faults decls [] decls) (among_right f (twice_faults [] decls) _ i)))

pub of_totals : (decls : List Decl) (f : Mistake) → IsAmong f (total_faults decls [] decls) →
    IsAmong f (declaration_faults decls)
of_totals decls f i =
    among_left f (twice_faults [] decls ++ struct_faults decls ++ total_faults decls [] decls ++ repeated_faults decls [] decls) (each_faults decls 0 decls)
    (among_left f (twice_faults [] decls ++ struct_faults decls ++ total_faults decls [] decls) (repeated_faults decls [] decls)
    (among_right f (twice_faults [] decls ++ struct_faults decls) _ i))

of_repeated : (decls : List Decl) (f : Mistake) → IsAmong f (repeated_faults decls [] decls) →
    IsAmong f (declaration_faults decls)
of_repeated decls f i =
    among_left f (twice_faults [] decls ++ struct_faults decls ++ total_faults decls [] decls ++ repeated_faults decls [] decls) (each_faults decls 0 decls)
    (among_right f (twice_faults [] decls ++ struct_faults decls ++ total_faults decls [] decls) _ i)

taken_some : (p : ℕ) (l : Option (ℕ × Local)) (d : ℕ × Decl) → taken p l (Some d) ≡ one DeclaredTwice p
taken_some p None d = refl
taken_some p (Some l) d = refl

twice_at : (decls : List Decl) (sc : Scope) (x : Ident) → Binds decls sc x →
    taken x.span.start (the_local sc.locals x.text) (the_decl sc.decls x.text) ≡ one DeclaredTwice x.span.start →
    listed decls DeclaredTwice x.span.start
twice_at decls sc x h is = of_local decls sc x h _ (among_left _ (taken x.span.start (the_local sc.locals x.text) (the_decl sc.decls x.text)) _ (at DeclaredTwice x.span.start _ is))

twice_in : (decls : List Decl) (p : ℕ) → IsDeclaredTwice decls p → listed decls DeclaredTwice p
twice_in decls p (fault.two_decls before behind d {x = x} parts is e) =
    of_twice decls _ (subst (λ (ds : List Decl). IsAmong (record { code = DeclaredTwice; start = x.span.start }) (twice_faults [] ds)) (sym parts) (in_twice [] before behind d _ (at DeclaredTwice x.span.start _ (ap (twice before) is ∙ ap (again x.span.start) e))))
twice_in decls p (fault.two_members {s = s} before behind x h parts e) =
    of_structs decls _ (in_structs decls s h _ (subst (λ (ms : List Member). IsAmong (record { code = DeclaredTwice; start = (member_name x).span.start }) (member_twice_faults [] ms)) (sym parts) (in_member_twice [] before behind x _ (at DeclaredTwice (member_name x).span.start _ (ap (again (member_name x).span.start) e)))))
twice_in decls p (fault.two_locals {sc = sc} {x = x} h is) = twice_at decls sc x h (ap (λ (l : Option (ℕ × Local)). taken x.span.start l (the_decl sc.decls x.text)) is)
twice_in decls p (fault.two_classes {limits = limits} {s = s} before behind c h parts e) =
    of_class decls limits s before behind c h parts _ (among_right _ (class_faults decls c) _ (at DeclaredTwice c.structure.span.start _ (ap (again c.structure.span.start) e)))
twice_in decls p (fault.top_level {sc = sc} {x = x} {f = f} h is) =
    twice_at decls sc x h (ap (λ (ds : List Decl). taken x.span.start (the_local sc.locals x.text) (the_decl ds x.text)) (local_decls decls sc x h) ∙ ap (taken x.span.start (the_local sc.locals x.text)) is ∙ taken_some x.span.start (the_local sc.locals x.text) f)

-- ---- E06

const_own : (decls : List Decl) (w : Want) (x : Ident) (n : Number) → HasConst decls w (member_const x n) →
    (f : Mistake) → IsAmong f (index_faults decls x.span.start (the_decl decls x.text) n) →
    IsAmong f (declaration_faults decls)
const_own decls w x n h f i = of_const decls w (member_const x n) h f (among_left f (own_faults decls (member_const x n)) _ i)

call_at : (decls : List Decl) (c : Call) (k : Code) {w : Why} → HasCall decls c →
    call_faults decls c.section.span.start (the_decl decls c.section.text) c.arguments ≡ reasoned k c.section.span.start w →
    listed decls k c.section.span.start
call_at decls c k h e = of_call decls c h _ (at k c.section.span.start _ e)

unknown_in : (decls : List Decl) (p : ℕ) → IsUnknown decls p → listed decls UnknownName p
unknown_in decls p (fault.in_place {sc = sc} {p = q} h is) = unknown_place decls sc q h is
unknown_in decls p (fault.in_type {sc = sc} {x = x} h is) = of_type decls sc (ref_type x) h _ (at UnknownName x.span.start _ (ap (no_struct x.span.start) is))
unknown_in decls p (fault.in_call {c = c} h e) = call_at decls c UnknownName h (ap (λ (o : Option (ℕ × Decl)). call_faults decls c.section.span.start o c.arguments) e)
unknown_in decls p (fault.in_helper_call {sc = sc} {c = c} h e) = of_helper_name decls sc c h UnknownName (ap (list.no_helper sc.decls c.helper.span.start (length c.arguments)) e)
unknown_in decls p (fault.in_const {w = w} {p = x} {n = n} h e) = const_own decls w x n h _ (at UnknownName x.span.start _ (ap (λ (o : Option (ℕ × Decl)). index_faults decls x.span.start o n) e))
unknown_in decls p (fault.in_init {i = x} h e) = of_init_index decls x h _ (at UnknownName x.pool.span.start _ (ap (λ (o : Option (ℕ × Decl)). index_faults decls x.pool.span.start o x.index) e))
unknown_in decls p (fault.no_field_initialised {i = x} {ms = ms} h is e) = of_init_field decls x ms h is _ (at UnknownName x.field.span.start _ (ap (field_faults x.field.span.start) e))
unknown_in decls p (fault.no_field {sc = sc} {x = x} {fs = fs} before behind y steps k {s = s} h parts to is e) =
    of_path decls sc x fs h _ (λ same. in_path sc.decls x.span.start (meaning sc x.text) fs before behind y _ parts (at UnknownName y.span.start _ (unknown_field decls sc.decls x.span.start (meaning sc x.text) before y steps k s same to is e)))
unknown_in decls p (fault.no_final {ms = ms} {f = y} h e) = of_member decls ms y h _ (λ ds same. at UnknownName y.span.start _ (ap (list.no_final ds y.span.start) e))
unknown_in decls p (fault.no_member_listed {ms = ms} {x = y} h e) = of_listed_lock decls ms y h _ (at UnknownName y.span.start _ (ap (list.no_lock decls y.span.start) e))
unknown_in decls p (fault.no_owner {sc = sc} {l = l} {o = o} h is) = of_owner_name decls sc l o h UnknownName (ap (list.no_owner sc.decls o.local.span.start (owner_field sc.decls (type_of sc l.value_type) o.field)) is)
unknown_in decls p (fault.no_lock {p = q} h e) = of_global_lock decls q h _ (at UnknownName q.first.span.start _ (ap (λ (o : Option (ℕ × Decl)). global_lock_faults decls q.first.span.start o q.rest) e))
unknown_in decls p (fault.no_field_passed {p = q} {st = st} {y = y} {ys = ys} h e) = unknown_passed decls q st y ys h e

-- ---- E07

unlike_is : (a b : ℕ) (s t : ResolvedExpr) → AreUnlike s t →
    unlike a b (Some s) (Some t) ≡ reasoned WrongType b (why.Unlike (kind_of s) (kind_of t))
unlike_is a b (value x s) (value y t) h = misfit_is b (alike_sorts s t) h
unlike_is a b (value x s) (truth d) h = refl
unlike_is a b (truth c) (value y t) h = refl
unlike_is a b (truth c) (truth d) h = absurd h

sides_are : (c : written.Comparison) (a b : ℕ) (s t : Option ResolvedExpr) → IsEquality c →
    side_faults c a b s t ≡ unlike a b s t
sides_are sign.Equal a b s t h = refl
sides_are sign.NotEqual a b s t h = refl
sides_are sign.Less a b s t h = absurd h
sides_are sign.LessOrEqual a b s t h = absurd h
sides_are sign.Greater a b s t h = absurd h
sides_are sign.GreaterOrEqual a b s t h = absurd h

of_sides : (decls : List Decl) (sc : Scope) (w : Want) (a b : Expr) (c : written.Comparison) →
    HasExpr decls sc w (compare a c b) → IsEquality c → (p : ℕ) {v : Why} →
    unlike (start_of a) (start_of b) (typed sc a) (typed sc b) ≡ reasoned WrongType p v → listed decls WrongType p
of_sides decls sc w a b c h so p e =
    of_expr decls sc w (compare a c b) h _ (among_right _ (((expr_faults sc a ++ misfit _ (start_of a) (typed sc a)) ++ expr_faults sc b) ++ misfit _ (start_of b) (typed sc b)) _
    (at WrongType p _ (sides_are c (start_of a) (start_of b) (typed sc a) (typed sc b) so ∙ e)))

no_value_is : (decls : List Decl) (p k : ℕ) (d : Decl) → IsNoValue d → has_type decls (a_decl k d) ≡ true →
    list.no_value decls p (a_decl k d) ≡ reasoned WrongType p (why.Misnamed role.Value (referent_of d))
no_value_is decls p k (lock y) h e = absurd h
no_value_is decls p k (global v) h e = absurd h
no_value_is decls p k (struct s) h e = unfit_in decls WrongType p (a_decl k (struct s)) e
no_value_is decls p k (array a) h e = unfit_in decls WrongType p (a_decl k (array a)) e
no_value_is decls p k (pool q) h e = unfit_in decls WrongType p (a_decl k (pool q)) e
no_value_is decls p k (init j) h e = unfit_in decls WrongType p (a_decl k (init j)) e
no_value_is decls p k (atomic s) h e = unfit_in decls WrongType p (a_decl k (atomic s)) e
no_value_is decls p k (helper s) h e = unfit_in decls WrongType p (a_decl k (helper s)) e
no_value_is decls p k (thread t) h e = unfit_in decls WrongType p (a_decl k (thread t)) e

no_elements_is : (decls : List Decl) (p : ℕ) (x : Meaning) → HasNoElements x → has_type decls x ≡ true →
    no_elements decls p x ≡ reasoned WrongType p (why.Misnamed role.Elements (stands_for x))
no_elements_is decls p (a_local n l) h e = unfit_in decls WrongType p (a_local n l) e
no_elements_is decls p (a_decl n (array a)) h e = absurd h
no_elements_is decls p (a_decl n (pool q)) h e = absurd h
no_elements_is decls p (a_decl n (lock y)) h e = unfit_in decls WrongType p (a_decl n (lock y)) e
no_elements_is decls p (a_decl n (struct s)) h e = unfit_in decls WrongType p (a_decl n (struct s)) e
no_elements_is decls p (a_decl n (global v)) h e = unfit_in decls WrongType p (a_decl n (global v)) e
no_elements_is decls p (a_decl n (init j)) h e = unfit_in decls WrongType p (a_decl n (init j)) e
no_elements_is decls p (a_decl n (atomic s)) h e = unfit_in decls WrongType p (a_decl n (atomic s)) e
no_elements_is decls p (a_decl n (helper s)) h e = unfit_in decls WrongType p (a_decl n (helper s)) e
no_elements_is decls p (a_decl n (thread t)) h e = unfit_in decls WrongType p (a_decl n (thread t)) e
no_elements_is decls p nothing h e = absurd h

no_struct_is : (p : ℕ) (x : Meaning) → IsNoStruct x → no_struct p x ≡ reasoned WrongType p (why.Misnamed role.Struct (stands_for x))
no_struct_is p (a_local n l) h = refl
no_struct_is p (a_decl n (struct s)) h = absurd h
no_struct_is p (a_decl n (lock y)) h = refl
no_struct_is p (a_decl n (global v)) h = refl
no_struct_is p (a_decl n (array a)) h = refl
no_struct_is p (a_decl n (pool q)) h = refl
no_struct_is p (a_decl n (init j)) h = refl
no_struct_is p (a_decl n (atomic s)) h = refl
no_struct_is p (a_decl n (helper s)) h = refl
no_struct_is p (a_decl n (thread t)) h = refl
no_struct_is p nothing h = absurd h

no_section_is : (decls : List Decl) (p k : ℕ) (d : Decl) (cs : List Const) → (IsSection d → ⊥) →
    has_type decls (a_decl k d) ≡ true → call_faults decls p (Some (k, d)) cs ≡ reasoned WrongType p (why.Misnamed role.Section (referent_of d))
no_section_is decls p k (lock y) cs h e = refl
no_section_is decls p k (struct s) cs h e = refl
no_section_is decls p k (global v) cs h e = unfit_in decls WrongType p (a_decl k (global v)) e
no_section_is decls p k (array a) cs h e = unfit_in decls WrongType p (a_decl k (array a)) e
no_section_is decls p k (pool q) cs h e = unfit_in decls WrongType p (a_decl k (pool q)) e
no_section_is decls p k (init j) cs h e = refl
no_section_is decls p k (atomic s) cs h e = absurd (h tt)
no_section_is decls p k (helper s) cs h e = refl
no_section_is decls p k (thread t) cs h e = refl

no_pool_is : (decls : List Decl) (p k : ℕ) (d : Decl) (n : Number) → (IsPool d → ⊥) →
    has_type decls (a_decl k d) ≡ true → index_faults decls p (Some (k, d)) n ≡ reasoned WrongType p (why.Misnamed role.Pool (referent_of d))
no_pool_is decls p k (pool q) n h e = absurd (h tt)
no_pool_is decls p k (lock y) n h e = refl
no_pool_is decls p k (struct s) n h e = refl
no_pool_is decls p k (global v) n h e = unfit_in decls WrongType p (a_decl k (global v)) e
no_pool_is decls p k (array a) n h e = unfit_in decls WrongType p (a_decl k (array a)) e
no_pool_is decls p k (init j) n h e = refl
no_pool_is decls p k (atomic s) n h e = refl
no_pool_is decls p k (helper s) n h e = refl
no_pool_is decls p k (thread t) n h e = refl

operators_are : (level : Level) (p : ℕ) (o : Operator) → IsOfNumbers level → operator_of o ≡ None →
    operator_faults level p o ≡ reasoned WrongType p why.OperatorOfConditions
operators_are Term p o h e = ap (λ (x : Option _). found_if (not (is_some x)) (told WrongType p why.OperatorOfConditions)) e
operators_are Sum p o h e = ap (λ (x : Option _). found_if (not (is_some x)) (told WrongType p why.OperatorOfConditions)) e
operators_are Conjunction p o h e = absurd h
operators_are Disjunction p o h e = absurd h

-- has_type over equal declarations
has_same : (decls ds : List Decl) (x : Meaning) → ds ≡ decls → has_type decls x ≡ true → has_type ds x ≡ true
has_same decls ds x same e = ap (λ (cs : List Decl). has_type cs x) same ∙ e

wrong_in : (decls : List Decl) (p : ℕ) {v : Why} → IsWrongType decls p v → listed decls WrongType p
wrong_in decls p (fault.unwanted {sc = sc} {w = w} {e = e} {s = s} h is no_fit) =
    of_wanted decls sc w e h _ (among_right _ (expr_faults sc e) _ (at WrongType (start_of e) _ (ap (misfit w (start_of e)) (typed_is is) ∙ misfit_is (start_of e) (fits w s) no_fit)))
wrong_in decls p (fault.unwanted_constant {w = w} {c = c} {s = s} h is no_fit) =
    of_const decls w c h _
    (among_right _ (own_faults decls c) _
    (at WrongType (const_start c) _ (ap (sort_misfit w (const_start c)) (sort_is is)
    ∙ misfit_is (const_start c) (fits_sort w s) no_fit)))
wrong_in decls p (fault.unlike_sides {sc = sc} {w = w} {a = a} {b = b} {c = c} {s = s} {t = t} h so x y un) =
    of_sides decls sc w a b c h so (start_of b) (ap (λ (q : Option ResolvedExpr). unlike (start_of a) (start_of b) q (typed sc b)) (typed_is x) ∙ ap (unlike (start_of a) (start_of b) (Some s)) (typed_is y) ∙ unlike_is (start_of a) (start_of b) s t un)
wrong_in decls p (fault.truths_compared {sc = sc} {w = w} {a = a} {b = b} {c = c} {x = x} h so e g) =
    of_sides decls sc w a b c h so (start_of a) (ap (λ (q : Option ResolvedExpr). unlike (start_of a) (start_of b) q (typed sc b)) (typed_is e) ∙ ap (unlike (start_of a) (start_of b) (Some (truth x))) (typed_is g))
wrong_in decls p (fault.no_value {sc = sc} {w = w} {x = x} {i = k} {d = d} h is not_so e) =
    of_expr decls sc w (place (lone x)) h _ (at WrongType x.span.start _ (ap (list.no_value sc.decls x.span.start) is ∙ no_value_is sc.decls x.span.start k d not_so (has_same decls sc.decls (a_decl k d) (expr_decls decls sc w (place (lone x)) h) e)))
wrong_in decls p (fault.no_elements {sc = sc} {x = x} {e = e} {m = m} h is not_so t) =
    of_indexed decls sc x e h _ (λ same. at WrongType x.span.start _ (ap (no_elements sc.decls x.span.start) is ∙ no_elements_is sc.decls x.span.start m not_so (has_same decls sc.decls m same t)))
wrong_in decls p (fault.field_of_declaration {sc = sc} {x = x} {fs = fs} {i = k} {d = d} h is t) =
    of_path decls sc x fs h _ (λ same. at WrongType x.span.start _ (ap (λ (y : Meaning). path_faults sc.decls x.span.start y fs) is ∙ unfit_in sc.decls WrongType x.span.start (a_decl k d) (has_same decls sc.decls (a_decl k d) same t)))
wrong_in decls p (fault.field_of_int {sc = sc} {x = x} {fs = fs} before behind y h parts to) =
    of_path decls sc x fs h _ (λ same. in_path sc.decls x.span.start (meaning sc x.text) fs before behind y _ parts
    (at WrongType x.span.start _ (ap (λ (w : Walk). step_faults sc.decls x.span.start w y) (ap (λ (cs : List Decl). walk_from cs (meaning sc x.text) before) same ∙ to))))
wrong_in decls p (fault.field_of_lock {sc = sc} {x = x} {fs = fs} before behind y h parts to) =
    of_path decls sc x fs h _ (λ same. in_path sc.decls x.span.start (meaning sc x.text) fs before behind y _ parts
    (at WrongType x.span.start _ (ap (λ (w : Walk). step_faults sc.decls x.span.start w y) (ap (λ (cs : List Decl). walk_from cs (meaning sc x.text) before) same ∙ to))))
wrong_in decls p (fault.no_struct {sc = sc} {x = x} {m = m} h is not_so) =
    of_type decls sc (ref_type x) h _ (at WrongType x.span.start _ (ap (no_struct x.span.start) is ∙ no_struct_is x.span.start m not_so))
wrong_in decls p (fault.no_section {c = c} {i = k} {d = d} h is not_so t) = call_at decls c WrongType h (ap (λ (o : Option (ℕ × Decl)). call_faults decls c.section.span.start o c.arguments) is ∙ no_section_is decls c.section.span.start k d c.arguments not_so t)
wrong_in decls p (fault.no_helper {sc = sc} {c = c} {m = m} h is not_so t) =
    of_helper_name decls sc c h WrongType
    (ap (list.no_helper sc.decls c.helper.span.start (length c.arguments)) is
    ∙ no_helper_is sc.decls c.helper.span.start (length c.arguments) m not_so (has_same decls sc.decls m (helper_call_decls decls sc c h) t))
wrong_in decls p (fault.no_result {sc = sc} {l = l} {t = t} {i = n} {s = s} h is meant none) =
    of_result decls sc l h t n s is meant (ap (λ (r : Option ValueType). list.no_result l.call.helper.span.start t r (result_of sc.decls s)) none)
wrong_in decls p (fault.other_result {sc = sc} {l = l} {t = t} {u = u} {i = n} {s = s} h is meant of no_fit) =
    of_result decls sc l h t n s is meant
    (no_result_is sc.decls l.call.helper.span.start t u s.result (ap (λ (ds : List Decl). result_of ds s) (stmt_decls decls sc (let_call l) h) ∙ of) no_fit).1
wrong_in decls p (fault.no_pool {w = w} {p = x} {n = n} {i = k} {d = d} h is not_so t) = const_own decls w x n h _ (at WrongType x.span.start _ (ap (λ (o : Option (ℕ × Decl)). index_faults decls x.span.start o n) is ∙ no_pool_is decls x.span.start k d n not_so t))
wrong_in decls p (fault.no_pool_initialised {j = x} {i = k} {d = d} h is not_so t) = of_init_index decls x h _ (at WrongType x.pool.span.start _ (ap (λ (o : Option (ℕ × Decl)). index_faults decls x.pool.span.start o x.index) is ∙ no_pool_is decls x.pool.span.start k d x.index not_so t))
wrong_in decls p (fault.not_final {ms = ms} {f = y} {g = g} h e t) =
    of_member decls ms y h _ (λ ds same. at WrongType y.span.start _ (ap (list.no_final ds y.span.start) e ∙ unfit_member_in ds WrongType y.span.start (field_member g) (ap (λ (cs : List Decl). member_has_type cs (field_member g)) same ∙ t)))
wrong_in decls p (fault.no_lock_listed {ms = ms} {x = y} {i = k} {m = m} h e not_so t) =
    of_listed_lock decls ms y h _ (at WrongType y.span.start _ (ap (list.no_lock decls y.span.start) e ∙ no_lock_is decls y.span.start k m not_so t))
wrong_in decls p (fault.number_owned {sc = sc} {l = l} {o = o} h is) =
    of_owner decls sc l o h _ (among_left _ (owner_field_faults sc.decls (type_of sc l.value_type) o.field) _ (at WrongType o.field.span.start _ (ap (λ (t : Option core_type.ValueType). owner_field_faults sc.decls t o.field) is)))
wrong_in decls p (fault.owner_no_local {sc = sc} {l = l} {o = o} {i = n} {d = d} h is t) =
    of_owner_name decls sc l o h WrongType
    (ap (list.no_owner sc.decls o.local.span.start (owner_field sc.decls (type_of sc l.value_type) o.field)) is ∙ unfit_in sc.decls WrongType o.local.span.start (a_decl n d) (has_same decls sc.decls (a_decl n d) (stmt_decls decls sc (let_owned l o) h) t))
wrong_in decls p (fault.other_owner {sc = sc} {l = l} {o = o} {f = g} {b = b} {t = t} {u = u} h typed_so of is has_it no_fit) =
    let same = stmt_decls decls sc (let_owned l o) h in
    let field : owner_field sc.decls (type_of sc l.value_type) o.field ≡ Some g = ap (λ (ds : List Decl). owner_field ds (type_of sc l.value_type) o.field) same ∙ ap (λ (v : Option core_type.ValueType). owner_field decls v o.field) typed_so ∙ final_is of in
    of_owner_name decls sc l o h WrongType
    (ap (list.no_owner sc.decls o.local.span.start (owner_field sc.decls (type_of sc l.value_type) o.field)) is
    ∙ ap (λ (q : Option OwnerField). other_type o.local.span.start q b.value_type) field
    ∙ ap (other_type o.local.span.start (Some g)) has_it
    ∙ misfit_is o.local.span.start (fits_type g.value_type (sort.Of u)) no_fit)
wrong_in decls p (fault.misplaced_operator {sc = sc} {w = w} {level = level} {e = a} {f = g} {links = links} {o = o} h of l e) =
    of_expr decls sc w (chain level a links) h _ (chain_link sc level a links o g l _ (among_left _ (operator_faults level (start_of g) o ++ expr_faults sc g) _ (among_left _ (operator_faults level (start_of g) o) _ (at WrongType (start_of g) _ (operators_are level (start_of g) o of e)))))

-- ---- E08, E09, E10

counted : (decls : List Decl) (p : ℕ) {v : Why} → IsWrongCount decls p v → listed decls WrongArgumentCount p
counted decls p (fault.wrong_count {c = c} {i = k} {s = s} h is other) =
    call_at decls c WrongArgumentCount h (ap (λ (o : Option (ℕ × Decl)). call_faults decls c.section.span.start o c.arguments) is ∙ ap (λ (b : Bool). if b then argument_faults decls s.params c.arguments
    else reasoned WrongArgumentCount c.section.span.start (why.Counted (length s.params) (length c.arguments))) (other_count (length c.arguments) (length s.params) other))
counted decls p (fault.wrong_helper_count {sc = sc} {c = c} {i = k} {s = s} h is other) =
    of_helper_name decls sc c h WrongArgumentCount (counted_is sc.decls c.helper.span.start (length c.arguments) k s (meaning sc c.helper.text) is other)

of_target : (decls : List Decl) (sc : Scope) (q : Place) (e : Expr) (c : Code) (p : ℕ) →
    HasStmt decls sc (assign q e) →
    (sc.decls ≡ decls → IsAmong (record { code = c; start = p }) (target_faults sc q)) → listed decls c p
of_target decls sc q e c p h i = of_stmt decls sc (assign q e) h _ (among_left _ (target_faults sc q) _ (i (stmt_decls decls sc (assign q e) h)))

no_target_is : (decls : List Decl) (p k : ℕ) (d : Decl) → IsNoValue d → has_type decls (a_decl k d) ≡ true →
    no_target decls p (a_decl k d) ≡ reasoned NotAssignable p (why.Misnamed role.Target (referent_of d))
no_target_is decls p k (lock y) h e = absurd h
no_target_is decls p k (global v) h e = absurd h
no_target_is decls p k (struct s) h e = unfit_in decls NotAssignable p (a_decl k (struct s)) e
no_target_is decls p k (array a) h e = unfit_in decls NotAssignable p (a_decl k (array a)) e
no_target_is decls p k (pool q) h e = unfit_in decls NotAssignable p (a_decl k (pool q)) e
no_target_is decls p k (init j) h e = unfit_in decls NotAssignable p (a_decl k (init j)) e
no_target_is decls p k (atomic s) h e = unfit_in decls NotAssignable p (a_decl k (atomic s)) e
no_target_is decls p k (helper s) h e = unfit_in decls NotAssignable p (a_decl k (helper s)) e
no_target_is decls p k (thread t) h e = unfit_in decls NotAssignable p (a_decl k (thread t)) e

fixed_in : (decls : List Decl) (p : ℕ) {v : Why} → IsNotAssignable decls p v → listed decls NotAssignable p
fixed_in decls p (fault.to_fixed {sc = sc} {x = x} {e = e} {i = n} {l = l} h is not_so t) =
    of_target decls sc (lone x) e NotAssignable x.span.start h (λ same. at NotAssignable x.span.start _
    (ap (no_target sc.decls x.span.start) is ∙ ap (λ (b : Bool). if b then [] else misnamed sc.decls NotAssignable role.Target x.span.start (a_local n l)) not_so ∙ unfit_in sc.decls NotAssignable x.span.start (a_local n l) t))
fixed_in decls p (fault.to_decl {sc = sc} {x = x} {e = e} {i = n} {d = d} h is not_so t) =
    of_target decls sc (lone x) e NotAssignable x.span.start h (λ same. at NotAssignable x.span.start _ (ap (no_target sc.decls x.span.start) is ∙ no_target_is sc.decls x.span.start n d not_so (has_same decls sc.decls (a_decl n d) same t)))
fixed_in decls p (fault.to_member {sc = sc} {x = x} {j = j} {e = e} {i = n} {p = q} h is t) =
    of_target decls sc (element x j) e NotAssignable x.span.start h (λ same. among_left _ (no_elements sc.decls x.span.start (meaning sc x.text) ++ no_array sc.decls x.span.start (meaning sc x.text)) _ (among_right _ (no_elements sc.decls x.span.start (meaning sc x.text)) _
    (at NotAssignable x.span.start _ (ap (no_array sc.decls x.span.start) is ∙ unfit_in sc.decls NotAssignable x.span.start (a_decl n (pool q)) (has_same decls sc.decls (a_decl n (pool q)) same t)))))
fixed_in decls p (fault.to_final {sc = sc} {x = x} {fs = fs} {e = e} steps t h to none) =
    of_target decls sc (path x fs) e NotAssignable x.span.start h (λ same. among_right _ (path_faults sc.decls x.span.start (meaning sc x.text) fs) _
    (at NotAssignable x.span.start _ (ap (λ (cs : List Decl). final_faults x.span.start (walk_from cs (meaning sc x.text) fs)) same ∙ ap (final_faults x.span.start) to ∙ ap (λ (o : Option _). found_if (not (is_some o)) (told NotAssignable x.span.start why.FinalTarget)) (has_no_last steps none))))

bare_in : (decls : List Decl) (p : ℕ) → IsUnprotected decls p → listed decls NeitherFinalNorProtected p
bare_in decls p (fault.bare_global {v = v} h e) =
    of_decl decls (global v) h _ (λ n here. among_left _ (type_faults (outside decls) v.value_type ++ lock_faults decls v.name.span.start v.protection) _ (among_right _ (type_faults (outside decls) v.value_type) _ (at NeitherFinalNorProtected v.name.span.start _ (ap (lock_faults decls v.name.span.start) e))))
bare_in decls p (fault.bare_array {a = a} h e) =
    of_decl decls (array a) h _ (λ n here. among_right _ (type_faults (outside decls) a.value_type) _ (at NeitherFinalNorProtected a.name.span.start _ (ap (lock_faults decls a.name.span.start) e)))
bare_in decls p (fault.bare_field {s = s} {f = g} h b e) =
    of_decl decls (struct s) h _ (λ n here. in_members_field decls n s.members s.members g b _ (among_right _ (type_faults (outside decls) g.value_type) _ (at NeitherFinalNorProtected g.name.span.start _ (ap (protection_faults decls n s.members g.name.span.start) e))))

-- ---- E11, E12

last_is : (decls : List Decl) (head here n : ℕ) (x : Member) → (IsLockMember x → ⊥) → member_has_type decls x ≡ true →
    last_faults decls head here (Some (n, x)) ≡ one ProtectedByNoLock head
last_is decls head here n (lock_member y) h e = absurd (h tt)
last_is decls head here n (final_member g) h e = unfit_member_in decls ProtectedByNoLock head (final_member g) e
last_is decls head here n (field_member g) h e = unfit_member_in decls ProtectedByNoLock head (field_member g) e

global_lock_is : (decls : List Decl) (p k : ℕ) (d : Decl) (ys : List Ident) → ((IsLockDecl d × (ys ≡ [])) → ⊥) →
    has_type decls (a_decl k d) ≡ true → global_lock_faults decls p (Some (k, d)) ys ≡ one ProtectedByNoLock p
global_lock_is decls p k (lock x) [] h e = absurd (h (tt, refl))
global_lock_is decls p k (lock x) (y ∷ ys) h e = refl
global_lock_is decls p k (struct s) ys h e = refl
global_lock_is decls p k (global v) ys h e = unfit_in decls ProtectedByNoLock p (a_decl k (global v)) e
global_lock_is decls p k (array a) ys h e = unfit_in decls ProtectedByNoLock p (a_decl k (array a)) e
global_lock_is decls p k (pool q) ys h e = unfit_in decls ProtectedByNoLock p (a_decl k (pool q)) e
global_lock_is decls p k (init j) ys h e = refl
global_lock_is decls p k (atomic s) ys h e = refl
global_lock_is decls p k (helper s) ys h e = refl
global_lock_is decls p k (thread t) ys h e = refl

ends_in : (decls : List Decl) (p : ℕ) → EndsAtNoLock decls p → listed decls ProtectedByNoLock p
ends_in decls p (fault.ends_at_member {p = q} {st = st} {y = y} {i = n} {m = x} h is not_so t) =
    of_last decls q st y h _ (at ProtectedByNoLock q.first.span.start _ (ap (last_faults decls q.first.span.start y.span.start) is ∙ last_is decls q.first.span.start y.span.start n x not_so t))
ends_in decls p (fault.names_no_lock {p = q} {i = n} {d = d} h is not_so t) =
    of_global_lock decls q h _ (at ProtectedByNoLock q.first.span.start _ (ap (λ (o : Option (ℕ × Decl)). global_lock_faults decls q.first.span.start o q.rest) is ∙ global_lock_is decls q.first.span.start n d q.rest not_so t))

passed_is : (decls : List Decl) (head here n k : ℕ) (x : Member) → (IsFinalMember x → ⊥) →
    member_has_type decls x ≡ true →
    passed_faults decls head here n (Some (k, x)) ≡ one ProtectedByPassesNonFinal here
passed_is decls head here n k (lock_member y) h e = refl
passed_is decls head here n k (final_member g) h e = absurd (h tt)
passed_is decls head here n k (field_member g) h e = unfit_member_in decls ProtectedByPassesNonFinal here (field_member g) e

passes_in : (decls : List Decl) (p : ℕ) → PassesNonFinal decls p → listed decls ProtectedByPassesNonFinal p
passes_in decls p (fault.passes {p = q} {st = st} {y = y} {z = z} {zs = zs} {i = n} {m = x} h is not_so t) =
    of_passed decls q st y z zs h _ (at ProtectedByPassesNonFinal y.span.start _ (ap (passed_faults decls q.first.span.start y.span.start (length st.through)) is ∙ passed_is decls q.first.span.start y.span.start (length st.through) n x not_so t))

-- ---- E15

in_totals : (decls ahead before rest : List Decl) (d : Decl) (f : Mistake) →
    IsAmong f (count_faults decls (ahead ++ before) d) → IsAmong f (total_faults decls ahead (before ++ d ∷ rest))
in_totals decls ahead [] rest d f i = among_left f (count_faults decls ahead d) (total_faults decls (ahead ++ d ∷ []) rest) (subst (λ (ds : List Decl). IsAmong f (count_faults decls ds d)) (append-nil ahead) i)
in_totals decls ahead (b ∷ before) rest d f i =
    among_right f (count_faults decls ahead b) _ (in_totals decls (ahead ++ b ∷ []) before rest d f (subst (λ (ds : List Decl). IsAmong f (count_faults decls ds d)) (sym (append_assoc ahead (b ∷ []) before)) i))

pub of_counts : (decls before behind : List Decl) (d : Decl) → decls ≡ before ++ d ∷ behind → (f : Mistake) →
    IsAmong f (count_faults decls before d) → IsAmong f (declaration_faults decls)
of_counts decls before behind d parts f i = of_totals decls f (subst (λ (ds : List Decl). IsAmong f (total_faults decls [] ds)) (sym parts) (in_totals decls [] before behind d f i))

parts_has : (before behind : List Decl) (d : Decl) → Has (before ++ d ∷ behind) d
parts_has [] behind d = first
parts_has (b ∷ before) behind d = further (parts_has before behind d)

pub has_parts : (decls : List Decl) (d : Decl) → Has decls d →
    (before : List Decl) × (behind : List Decl) × (decls ≡ before ++ d ∷ behind)
has_parts [] d h = elim h [ ]
has_parts (x ∷ ds) d first = ([], ds, refl)
has_parts (x ∷ ds) d (further h) = let r = has_parts ds d h in (x ∷ r.0, r.1, ap (λ (ys : List Decl). x ∷ ys) r.2)

-- the fault is at the declared name
same_start : (a b : Ident) (c : Code) (p : ℕ) (fs : List Finding) → Some a ≡ Some b →
    IsAmong (record { code = c; start = a.span.start }) fs → IsAmong (record { code = c; start = b.span.start }) fs
same_start a b c p fs e i = let s : a ≡ b = cc in subst (λ (y : Ident). IsAmong (record { code = c; start = y.span.start }) fs) s i

passes_true : (limit n own : ℕ) → n ≤ limit → limit < n + own → first_too_many limit n own ≡ true
passes_true limit n own a b = both_true (nat_le n limit) (nat_lt limit (n + own)) (le_true n limit a) (lt_true limit (n + own) b)

many_in : (decls before : List Decl) (d : Decl) (x : Ident) (n : ℕ) → declared d ≡ Some x → limit_of d ≡ Some n →
    n ≤ count (alike d) before →
    IsAmong (record { code = LimitExceeded; start = x.span.start }) (count_faults decls before d)
many_in decls before (struct s) x n is l le =
    same_start s.name x LimitExceeded 0 _ is (among_left _ (one_if (nat_le STRUCT_LIMIT (count (alike (struct s)) before)) LimitExceeded s.name.span.start) _ (at_if (nat_le STRUCT_LIMIT (count (alike (struct s)) before)) LimitExceeded s.name.span.start (let e : STRUCT_LIMIT ≡ n = cc in le_true STRUCT_LIMIT (count (alike (struct s)) before) (subst (λ (k : ℕ). k ≤ count (alike (struct s)) before) (sym e) le))))
many_in decls before (atomic s) x n is l le = cc
many_in decls before (helper s) x n is l le = cc
many_in decls before (thread t) x n is l le =
    same_start t.name x LimitExceeded 0 _ is (among_left _ (one_if (nat_le THREAD_LIMIT (count (alike (thread t)) before)) LimitExceeded t.name.span.start) _ (at_if (nat_le THREAD_LIMIT (count (alike (thread t)) before)) LimitExceeded t.name.span.start (let e : THREAD_LIMIT ≡ n = cc in le_true THREAD_LIMIT (count (alike (thread t)) before) (subst (λ (k : ℕ). k ≤ count (alike (thread t)) before) (sym e) le))))
many_in decls before (lock y) x n is l le = cc
many_in decls before (global v) x n is l le = cc
many_in decls before (array a) x n is l le = cc
many_in decls before (pool q) x n is l le = cc
many_in decls before (init j) x n is l le = cc

sections_in : (decls before : List Decl) (d : Decl) (x : Ident) → has_body d ≡ true → declared d ≡ Some x →
    SECTION_LIMIT ≤ count has_body before →
    IsAmong (record { code = LimitExceeded; start = x.span.start }) (count_faults decls before d)
sections_in decls before (atomic s) x has is le = same_start s.name x LimitExceeded 0 _ is (at_if (nat_le SECTION_LIMIT (count has_body before)) LimitExceeded s.name.span.start (le_true SECTION_LIMIT (count has_body before) le))
sections_in decls before (helper s) x has is le = same_start s.name x LimitExceeded 0 _ is (at_if (nat_le SECTION_LIMIT (count has_body before)) LimitExceeded s.name.span.start (le_true SECTION_LIMIT (count has_body before) le))
sections_in decls before (struct s) x has is le = cc
sections_in decls before (thread t) x has is le = cc
sections_in decls before (lock y) x has is le = cc
sections_in decls before (global v) x has is le = cc
sections_in decls before (array a) x has is le = cc
sections_in decls before (pool q) x has is le = cc
sections_in decls before (init j) x has is le = cc

objects_in : (decls before : List Decl) (d : Decl) (x : Ident) → declared d ≡ Some x →
    total objects_of before ≤ OBJECT_LIMIT → OBJECT_LIMIT < total objects_of before + objects_of d →
    IsAmong (record { code = LimitExceeded; start = x.span.start }) (count_faults decls before d)
objects_in decls before (pool q) x is a b =
    same_start q.name x LimitExceeded 0 _ is (among_left _ (one_if (first_too_many OBJECT_LIMIT (total objects_of before) (objects_of (pool q))) LimitExceeded q.name.span.start) _ (at_if (first_too_many OBJECT_LIMIT (total objects_of before) (objects_of (pool q))) LimitExceeded q.name.span.start (passes_true OBJECT_LIMIT (total objects_of before) (objects_of (pool q)) a b)))
objects_in decls before (struct s) x is a b = absurd (omega (arith, a, b))
objects_in decls before (atomic s) x is a b = absurd (omega (arith, a, b))
objects_in decls before (helper s) x is a b = absurd (omega (arith, a, b))
objects_in decls before (thread t) x is a b = absurd (omega (arith, a, b))
objects_in decls before (lock y) x is a b = absurd (omega (arith, a, b))
objects_in decls before (global v) x is a b = absurd (omega (arith, a, b))
objects_in decls before (array y) x is a b = absurd (omega (arith, a, b))
objects_in decls before (init j) x is a b = absurd (omega (arith, a, b))

cells_in : (decls before : List Decl) (d : Decl) (x : Ident) → declared d ≡ Some x →
    total (cells_of decls) before ≤ CELL_LIMIT → CELL_LIMIT < total (cells_of decls) before + cells_of decls d →
    IsAmong (record { code = LimitExceeded; start = x.span.start }) (count_faults decls before d)
cells_in decls before (global v) x is a b =
    same_start v.name x LimitExceeded 0 _ is (at_if (first_too_many CELL_LIMIT (total (cells_of decls) before) (cells_of decls (global v))) LimitExceeded v.name.span.start (passes_true CELL_LIMIT (total (cells_of decls) before) (cells_of decls (global v)) a b))
cells_in decls before (array y) x is a b =
    same_start y.name x LimitExceeded 0 _ is (at_if (first_too_many CELL_LIMIT (total (cells_of decls) before) (cells_of decls (array y))) LimitExceeded y.name.span.start (passes_true CELL_LIMIT (total (cells_of decls) before) (cells_of decls (array y)) a b))
cells_in decls before (pool q) x is a b =
    same_start q.name x LimitExceeded 0 _ is (among_right _ (one_if (first_too_many OBJECT_LIMIT (total objects_of before) (objects_of (pool q))) LimitExceeded q.name.span.start) _ (at_if (first_too_many CELL_LIMIT (total (cells_of decls) before) (cells_of decls (pool q))) LimitExceeded q.name.span.start (passes_true CELL_LIMIT (total (cells_of decls) before) (cells_of decls (pool q)) a b)))
cells_in decls before (struct s) x is a b = absurd (omega (arith, a, b))
cells_in decls before (atomic s) x is a b = absurd (omega (arith, a, b))
cells_in decls before (helper s) x is a b = absurd (omega (arith, a, b))
cells_in decls before (thread t) x is a b = absurd (omega (arith, a, b))
cells_in decls before (lock y) x is a b = absurd (omega (arith, a, b))
cells_in decls before (init j) x is a b = absurd (omega (arith, a, b))

calls_in : (decls before : List Decl) (d : Decl) (x : Ident) → declared d ≡ Some x →
    total calls_of before ≤ CALL_LIMIT → CALL_LIMIT < total calls_of before + calls_of d →
    IsAmong (record { code = LimitExceeded; start = x.span.start }) (count_faults decls before d)
calls_in decls before (thread t) x is a b =
    same_start t.name x LimitExceeded 0 _ is (among_right _ (one_if (nat_le THREAD_LIMIT (count (alike (thread t)) before)) LimitExceeded t.name.span.start) _ (at_if (first_too_many CALL_LIMIT (total calls_of before) (calls_of (thread t))) LimitExceeded t.name.span.start (passes_true CALL_LIMIT (total calls_of before) (calls_of (thread t)) a b)))
calls_in decls before (struct s) x is a b = absurd (omega (arith, a, b))
calls_in decls before (atomic s) x is a b = absurd (omega (arith, a, b))
calls_in decls before (helper s) x is a b = absurd (omega (arith, a, b))
calls_in decls before (lock y) x is a b = absurd (omega (arith, a, b))
calls_in decls before (global v) x is a b = absurd (omega (arith, a, b))
calls_in decls before (array y) x is a b = absurd (omega (arith, a, b))
calls_in decls before (pool q) x is a b = absurd (omega (arith, a, b))
calls_in decls before (init j) x is a b = absurd (omega (arith, a, b))

-- the listed faults of one member
abbrev member_own : ℕ → ℕ → Member → List Finding
member_own classes n x = one_if (nat_le MEMBER_LIMIT n) LimitExceeded (member_name x).span.start ++ one_if (is_lock x && nat_le CLASS_LIMIT classes) LimitExceeded (member_name x).span.start

in_member_counts : (classes n : ℕ) (ahead rest : List Member) (x : Member) (f : Mistake) →
    IsAmong f (member_own (classes + count is_lock ahead) (n + length ahead) x) →
    IsAmong f (member_counts classes n (ahead ++ x ∷ rest))
in_member_counts classes n [] rest x f i =
    among_left f (member_own classes n x) (member_counts (classes + lock_count (is_lock x)) (n + 1) rest)
    (subst (λ (k : ℕ). IsAmong f (member_own k n x)) (let z : classes + 0 ≡ classes = omega arith in z) (subst (λ (k : ℕ). IsAmong f (member_own (classes + 0) k x)) (let z : n + 0 ≡ n = omega arith in z) i))
in_member_counts classes n (b ∷ ahead) rest x f i =
    among_right f (member_own classes n b) _ (in_member_counts (classes + lock_count (is_lock b)) (n + 1) ahead rest x f
    (subst (λ (k : ℕ). IsAmong f (member_own k (n + 1 + length ahead) x)) (locks_ahead b) (subst (λ (k : ℕ). IsAmong f (member_own (classes + count is_lock (b ∷ ahead)) k x)) (let z : n + suc (length ahead) ≡ n + 1 + length ahead = omega arith in z) i)))
  where
    locks_ahead : (y : Member) →
        classes + count is_lock (y ∷ ahead) ≡ classes + lock_count (is_lock y) + count is_lock ahead
    locks_ahead (lock_member z) = omega arith
    locks_ahead (final_member z) = omega arith
    locks_ahead (field_member z) = omega arith

of_member_counts : (decls before behind : List Decl) (s : Struct) (ahead rest : List Member) (x : Member) →
    decls ≡ before ++ struct s ∷ behind → s.members ≡ ahead ++ x ∷ rest → (f : Mistake) →
    IsAmong f (member_own (total classes_of before + count is_lock ahead) (length ahead) x) → IsAmong f (declaration_faults decls)
of_member_counts decls before behind s ahead rest x parts inner f i =
    of_counts decls before behind (struct s) parts f (among_right f (one_if (nat_le STRUCT_LIMIT (count (alike (struct s)) before)) LimitExceeded s.name.span.start) _
    (subst (λ (ms : List Member). IsAmong f (member_counts (total classes_of before) 0 ms)) (sym inner) (in_member_counts (total classes_of before) 0 ahead rest x f
    (subst (λ (k : ℕ). IsAmong f (member_own (total classes_of before + count is_lock ahead) k x)) (let z : length ahead ≡ 0 + length ahead = omega arith in z) i))))

over_in : (decls : List Decl) (p : ℕ) → IsOverLimit decls p → listed decls LimitExceeded p
over_in decls p (fault.too_many before behind d {x = x} n parts is l le) = of_counts decls before behind d parts _ (many_in decls before d x n is l le)
over_in decls p (fault.too_many_sections before behind d {x = x} parts has is le) = of_counts decls before behind d parts _ (sections_in decls before d x has is le)
over_in decls p (fault.too_many_members {s = s} ahead rest x h inner le) =
    let r = has_parts decls (struct s) h in
    of_member_counts decls r.0 r.1 s ahead rest x r.2 inner _ (among_left _ (one_if (nat_le MEMBER_LIMIT (length ahead)) LimitExceeded (member_name x).span.start) _ (at_if (nat_le MEMBER_LIMIT (length ahead)) LimitExceeded (member_name x).span.start (le_true MEMBER_LIMIT (length ahead) le)))
over_in decls p (fault.too_many_locks before behind x parts le) = of_counts decls before behind (lock x) parts _ (at_if (nat_le CLASS_LIMIT (total classes_of before)) LimitExceeded x.span.start (le_true CLASS_LIMIT (total classes_of before) le))
over_in decls p (fault.too_many_lock_fields before behind s ahead rest x parts inner le) =
    of_member_counts decls before behind s ahead rest (lock_member x) parts inner _ (among_right _ (one_if (nat_le MEMBER_LIMIT (length ahead)) LimitExceeded x.span.start) _
    (at_if (nat_le CLASS_LIMIT (total classes_of before + count is_lock ahead)) LimitExceeded x.span.start (le_true CLASS_LIMIT (total classes_of before + count is_lock ahead) le)))
over_in decls p (fault.too_many_objects before behind d {x = x} parts is a b) = of_counts decls before behind d parts _ (objects_in decls before d x is a b)
over_in decls p (fault.too_many_cells before behind d {x = x} parts is a b) = of_counts decls before behind d parts _ (cells_in decls before d x is a b)
over_in decls p (fault.too_many_calls before behind d {x = x} parts is a b) = of_counts decls before behind d parts _ (calls_in decls before d x is a b)
over_in decls p (fault.too_many_parameters {limits = limits} {x = x} q before behind h parts le) =
    let sc = entered (ahead_of decls limits x) before in
    let few = subst (λ (l : BodyLimits). l.parameters ≤ length before) (sym (entered_limits (ahead_of decls limits x) before)) le in
    of_param decls limits x before behind q h parts _ (among_left _ (local_faults sc q.name ++ one_if (nat_le sc.limits.parameters (length before)) LimitExceeded q.name.span.start) _
    (among_right _ (local_faults sc q.name) _ (at_if (nat_le sc.limits.parameters (length before)) LimitExceeded q.name.span.start (le_true sc.limits.parameters (length before) few))))
over_in decls p (fault.too_many_locals {sc = sc} {x = x} h le) =
    of_local decls sc x h _ (among_right _ (taken x.span.start (the_local sc.locals x.text) (the_decl sc.decls x.text)) _ (at_if (nat_le sc.limits.locals (length sc.locals)) LimitExceeded x.span.start (le_true sc.limits.locals (length sc.locals) le)))
over_in decls p (fault.too_many_finals {p = q} {st = st} {y = y} {z = z} {zs = zs} {i = n} {f = g} h is le) =
    of_passed decls q st y z zs h _ (subst (IsAmong _) (sym (ap (passed_faults decls q.first.span.start y.span.start (length st.through)) is)) (at_if (nat_le FINAL_LIMIT (length st.through)) LimitExceeded q.first.span.start (le_true FINAL_LIMIT (length st.through) le)))

-- ---- E16

lacks_one : (decls : List Decl) (n x k j : ℕ) → j < k →
    given decls (record { pool = n; index = j; member = x }) ≡ None → some_lacks decls n x k ≡ true
lacks_one decls n x zero j l e = absurd (omega (arith, l))
lacks_one decls n x (suc k) j l e = decide (λ less. lacks_one decls n x k j less e) (j == k) refl
  where
    or_right : (a : Bool) → (a || true) ≡ true
    or_right true = refl
    or_right false = refl

    decide : (j < k → some_lacks decls n x k ≡ true) → (b : Bool) → (j == k) ≡ b → some_lacks decls n x (suc k) ≡ true
    decide rest true is =
        let s : j ≡ k = grind (arith, nat_tests) in
        ap (λ (o : Option Const). not (is_some o) || some_lacks decls n x k) (subst (λ (i : ℕ). given decls (record { pool = n; index = i; member = x }) ≡ None) s e)
    decide rest false is =
        let less : j < k = grind (arith, nat_tests) in
        ap (λ (b : Bool). not (is_some (given decls (record { pool = n; index = k; member = x }))) || b) (rest less) ∙ or_right (not (is_some (given decls (record { pool = n; index = k; member = x }))))

or_either : (a b : Bool) → b ≡ true → (a || b) ≡ true
or_either true b e = refl
or_either false b e = e

or_first : (a b : Bool) → a ≡ true → (a || b) ≡ true
or_first true b e = refl
or_first false b e = cc

lacks_in : (decls : List Decl) (n len : ℕ) (all : List Member) (k : ℕ) (ms : List Member) (j : ℕ) (x : Member) →
    slice_get ms j ≡ Some x → is_due decls all (k + j) x ≡ true → some_lacks decls n (k + j) len ≡ true →
    lacks decls n len all k ms ≡ true
lacks_in decls n len all k [] j x here due some = cc
lacks_in decls n len all k (y ∷ ms) zero x here due some =
    let same : y ≡ x = cc in
    let z : k + 0 ≡ k = omega arith in
    or_first (is_due decls all k y && some_lacks decls n k len) (lacks decls n len all (k + 1) ms)
    (both_true (is_due decls all k y) (some_lacks decls n k len)
    (subst (λ (i : ℕ). is_due decls all i y ≡ true) z (subst (λ (w : Member). is_due decls all (k + 0) w ≡ true) (sym same) due))
    (subst (λ (i : ℕ). some_lacks decls n i len ≡ true) z some))
lacks_in decls n len all k (y ∷ ms) (suc j) x here due some =
    let z : k + suc j ≡ k + 1 + j = omega arith in
    or_either (is_due decls all k y && some_lacks decls n k len) (lacks decls n len all (k + 1) ms)
    (lacks_in decls n len all (k + 1) ms j x here (subst (λ (i : ℕ). is_due decls all i x ≡ true) z due) (subst (λ (i : ℕ). some_lacks decls n i len ≡ true) z some))

pub missing_in : (decls : List Decl) (p : ℕ) → IsFinalMissing decls p → listed decls FinalWithoutOpeningValue p
missing_in decls p (fault.not_given k {p = q} {ms = ms} name {m = x} {f = g} {s = s} n here is to target less none) =
    let found = member_is ms name x (final_member g) to in
    of_place_at decls k (pool q) here _ (among_right _ (type_faults (outside decls) (ref_type q.target)) _
    (subst (λ (o : Option (List Member)). IsAmong (record { code = FinalWithoutOpeningValue; start = q.name.span.start }) (missing_faults decls k q o)) (sym is)
    (at_if (lacks decls k q.length.value ms 0 ms) FinalWithoutOpeningValue q.name.span.start
    (lacks_in decls k q.length.value ms 0 ms x (final_member g) found.0
    (subst (λ (i : ℕ). is_due decls ms i (final_member g) ≡ true) (let z : x ≡ 0 + x = omega arith in z)
    (both_true (is_at x (place_of member_bears ms g.name.text)) (is_some (struct_named decls g.target)) (ap (is_at x) found.1 ∙ self x) (ap is_some target)))
    (subst (λ (i : ℕ). some_lacks decls k i q.length.value ≡ true) (let z : x ≡ 0 + x = omega arith in z) (lacks_one decls k x q.length.value n less none))))))
  where
    self : (n : ℕ) → (n == n) ≡ true
    self n = grind (arith, nat_tests)
missing_in decls p (fault.given_null {i = x} {m = n} {f = g} {s = s} {at = here} h is target e) =
    of_decl decls (init x) h _ (λ k place. among_right _ (index_faults decls x.pool.span.start (the_decl decls x.pool.text) x.index ++ named_faults decls x.field.span.start (pool_members decls (the_decl decls x.pool.text)) x.field.text ++ const_faults decls (member_want decls (initialised decls x)) x.value) _
    (subst (IsAmong _) (sym (ap (λ (o : Option (ℕ × Member)). null_faults decls o x.value) is ∙ ap (null_faults decls (Some (n, final_member g))) e)) (at_if (is_some (struct_named decls g.target)) FinalWithoutOpeningValue here.start (ap is_some target))))

-- ---- E17, E19

in_repeated : (decls ahead before rest : List Decl) (d : Decl) (f : Mistake) →
    IsAmong f (repeated decls (ahead ++ before) d) → IsAmong f (repeated_faults decls ahead (before ++ d ∷ rest))
in_repeated decls ahead [] rest d f i = among_left f (repeated decls ahead d) (repeated_faults decls (ahead ++ d ∷ []) rest) (subst (λ (ds : List Decl). IsAmong f (repeated decls ds d)) (append-nil ahead) i)
in_repeated decls ahead (b ∷ before) rest d f i =
    among_right f (repeated decls ahead b) _ (in_repeated decls (ahead ++ b ∷ []) before rest d f (subst (λ (ds : List Decl). IsAmong f (repeated decls ds d)) (sym (append_assoc ahead (b ∷ []) before)) i))

beyond : (decls : List Decl) (k p : ℕ) (q : Pool) (n : Number) → has_type decls (a_decl k (pool q)) ≡ true →
    q.length.value ≤ n.value →
    IsAmong (record { code = InitOutOfRangeOrRepeated; start = n.span.start }) (index_faults decls p (Some (k, pool q)) n)
beyond decls k p q n t le = at_if (has_type decls (a_decl k (pool q)) && nat_le q.length.value n.value) InitOutOfRangeOrRepeated n.span.start (both_true (has_type decls (a_decl k (pool q))) (nat_le q.length.value n.value) t (le_true q.length.value n.value le))

range_in : (decls : List Decl) (p : ℕ) → IsOutOfRange decls p → listed decls InitOutOfRangeOrRepeated p
range_in decls p (fault.constant_beyond {w = w} {x = x} {n = n} {i = k} {p = q} h is t le) =
    const_own decls w x n h _ (subst (λ (o : Option (ℕ × Decl)). IsAmong (record { code = InitOutOfRangeOrRepeated; start = n.span.start }) (index_faults decls x.span.start o n)) (sym is) (beyond decls k x.span.start q n t le))
range_in decls p (fault.init_beyond {j = x} {i = k} {p = q} h is t le) =
    of_init_index decls x h _ (subst (λ (o : Option (ℕ × Decl)). IsAmong (record { code = InitOutOfRangeOrRepeated; start = x.index.span.start }) (index_faults decls x.pool.span.start o x.index)) (sym is) (beyond decls k x.pool.span.start q x.index t le))
range_in decls p (fault.given_again before behind j {g = g} parts is e) =
    of_repeated decls _ (subst (λ (ds : List Decl). IsAmong (record { code = InitOutOfRangeOrRepeated; start = j.start.start }) (repeated_faults decls [] ds)) (sym parts) (in_repeated decls [] before behind (init j) _
    (at InitOutOfRangeOrRepeated j.start.start _ (ap (init_target_again decls before j.start.start) is ∙ ap (given_before j.start.start) e))))

locks_in : (decls : List Decl) (p : ℕ) → IsLockAsValue decls p → listed decls LockAsValue p
locks_in decls p (fault.global_lock {sc = sc} {x = x} h is) =
    of_place decls sc (lone x) h _ (λ same. at LockAsValue x.span.start _ (ap (list.no_value sc.decls x.span.start) is)) (λ same. at LockAsValue x.span.start _ (ap (no_target sc.decls x.span.start) is))
locks_in decls p (fault.lock_field {sc = sc} {x = x} {fs = fs} h to) =
    of_path decls sc x fs h _ (λ same. in_path_end sc.decls x.span.start (meaning sc x.text) fs _ (at LockAsValue x.span.start _ (ap (λ (cs : List Decl). end_faults x.span.start (walk_from cs (meaning sc x.text) fs)) same ∙ ap (end_faults x.span.start) to)))
locks_in decls p (fault.lock_as_owner {ms = ms} {f = y} h is) = of_member decls ms y h _ (λ ds same. at LockAsValue y.span.start _ (ap (list.no_final ds y.span.start) is))
locks_in decls p (fault.lock_initialised {i = x} {m = n} {y = y} h is) =
    by_members (pool_members decls (the_decl decls x.pool.text)) refl
  where
    by_members : (o : Option (List Member)) → pool_members decls (the_decl decls x.pool.text) ≡ o →
        listed decls LockAsValue x.field.span.start
    by_members None e = let none : initialised decls x ≡ None = rw e refl in absurd cc
    by_members (Some ms) e =
        let some : initialised decls x ≡ the_member ms x.field.text = rw e refl in
        of_init_field decls x ms h e _ (at LockAsValue x.field.span.start _ (ap (field_faults x.field.span.start) (sym some ∙ is)))

-- ---- the whole

-- a fault of the program is one of its graph, or is listed
pub all_faults : (decls : List Decl) (c : Code) (p : ℕ) → IsFault decls c p →
    IsGraphFault (tree_graph decls) c p ⊎ listed decls c p
all_faults decls c p (too_large h) = inr (large decls p h)
all_faults decls c p (declared_twice h) = inr (twice_in decls p h)
all_faults decls c p (unknown h) = inr (unknown_in decls p h)
all_faults decls c p (wrong_type h) = inr (wrong_in decls p h)
all_faults decls c p (miscounted h) = inr (counted decls p h)
all_faults decls c p (not_assignable h) = inr (fixed_in decls p h)
all_faults decls c p (without_lock h) = inr (bare_in decls p h)
all_faults decls c p (ends_at_no_lock h) = inr (ends_in decls p h)
all_faults decls c p (passes_non_final h) = inr (passes_in decls p h)
all_faults decls c p (over_limit h) = inr (over_in decls p h)
all_faults decls c p (final_missing h) = inr (missing_in decls p h)
all_faults decls c p (out_of_range h) = inr (range_in decls p h)
all_faults decls c p (lock_as_value h) = inr (locks_in decls p h)
all_faults decls c p (of_calls h) = inl h
