-- The faults of names and types, and where they stand. A name whose declaration has a fault in its type causes no fault
-- (`has_type`, `member_has_type`), except as the name of a type or of a pool's struct: there two such names could hide
-- each other's faults.
use Rattle.std.specs.Prelude.{◌≡◌, ℕ, ◌+◌, ◌≤◌, ◌<◌, List, [], ◌∷◌, ◌++◌, length, slice_get, Option, Some, None, true}
use Rattle.std.specs.Prelude.{false, string_bytes}
use Rattle.source.specs.declared.span.Span.{Span}
use Rattle.source.specs.Texts.{NUMBER_LIMIT}
use Rattle.source.specs.declared.fault.Code.{Code}
use Rattle.source.specs.declared.fault.Code.TheVariants.{NumberTooLarge, DeclaredTwice, UnknownName, WrongType}
use Rattle.source.specs.declared.fault.Code.TheVariants.{WrongArgumentCount, NotAssignable, NeitherFinalNorProtected}
use Rattle.source.specs.declared.fault.Code.TheVariants.{ProtectedByNoLock, ProtectedByPassesNonFinal, LimitExceeded}
use Rattle.source.specs.declared.fault.Code.TheVariants.{FinalWithoutOpeningValue, InitOutOfRangeOrRepeated}
use Rattle.source.specs.declared.fault.Code.TheVariants.{LockAsValue}
use Rattle.source.specs.declared.fault.Refusal.{Refusal}
use Rattle.source.specs.declared.fault.Refusal.TheVariants as refusal
use Rattle.source.specs.declared.token.Number.{Number}
use Rattle.syntax.specs.declared.tree.Operator.{Operator}
use Rattle.syntax.specs.declared.tree.Level.{Level}
use Rattle.syntax.specs.declared.tree.Comparison as written
use Rattle.syntax.specs.Trees as tree
use Rattle.syntax.specs.Trees.{Ident, ref_type, Const, int_const, negative, null_const, member_const, Place, lone}
use Rattle.syntax.specs.Trees.{element, path, Expr, int, null, place, paren, prefix, chain, compare, Links, Owner}
use Rattle.syntax.specs.Trees.{HelperCall, CalledLocal, let_owned, let_call, assign, Protection, Member, lock_member}
use Rattle.syntax.specs.Trees.{final_member, field_member, Struct, Field, Final, Variable, Array, Pool, Init, Param}
use Rattle.syntax.specs.Trees.{ClassName, Section, Call, Decl, lock, struct, global, array, pool, init, atomic}
use Rattle.syntax.specs.Trees.{helper, thread}
use Rattle.core_lang.specs.declared.value.ValueType as core_type
use Rattle.core_lang.specs.declared.value.ValueType.TheVariants.{Integer, Reference}
use Rattle.core_lang.specs.declared.tree.FieldStep.{FieldStep}
use Rattle.core_lang.specs.declared.tree.FieldStep.TheVariants as step
use Rattle.resolution.specs.declared.body_limits.BodyLimits.{BodyLimits}
use Rattle.resolution.specs.declared.init_target.InitTarget.{InitTarget}
use Rattle.resolution.specs.declared.wanted.Sort.{Sort}
use Rattle.resolution.specs.declared.wanted.Sort.TheVariants as sort
use Rattle.resolution.specs.declared.wanted.Want.{Want}
use Rattle.resolution.specs.declared.wanted.Want.TheVariants.{Value}
use Rattle.resolution.specs.declared.why.Why.{Why}
use Rattle.resolution.specs.declared.why.Why.TheVariants as why
use Rattle.resolution.specs.declared.why.Kind.TheVariants as kind
use Rattle.resolution.specs.declared.why.Role.TheVariants as role
use Rattle.resolution.specs.declared.why.Referent.TheVariants as stands
use Rattle.resolution.specs.Reasons.{kind_of, referent_of, stands_for}
use Rattle.resolution.specs.Core as core
use Rattle.resolution.specs.Limits.{STRUCT_LIMIT, MEMBER_LIMIT, FINAL_LIMIT, CLASS_LIMIT, OBJECT_LIMIT, CELL_LIMIT}
use Rattle.resolution.specs.Limits.{SECTION_LIMIT, THREAD_LIMIT, CALL_LIMIT}
use Rattle.resolution.specs.Scopes.{Scope, Local, Meaning, a_local, a_decl, nothing, meaning, helper_meant, place_of}
use Rattle.resolution.specs.Scopes.{count, declared, bears, the_decl, alike, has_body, the_struct, member_name}
use Rattle.resolution.specs.Scopes.{member_bears, the_member, the_local, has_type, member_has_type, type_of, result_of}
use Rattle.resolution.specs.Scopes.{struct_named, same_class}
use Rattle.resolution.specs.Numbers.{is_lock, total, classes_of, objects_of, cells_of, calls_of}
use Rattle.resolution.specs.Expressions.{ResolvedExpr, value, truth, fits, fits_type, fits_sort, alike_sorts}
use Rattle.resolution.specs.Expressions.{operator_of, Walk, reached, at_lock, walk_from, IsEquality, IsOfNumbers}
use Rattle.resolution.specs.declared.owner_field.OwnerField.{OwnerField}
use Rattle.resolution.specs.Statements.{is_var, first_name}
use Rattle.resolution.specs.Constants.{IsOfSort, members_of, pool_members, initialised, init_target_of, giver, given}
use Rattle.resolution.specs.Typing.{Types, IsFinalOf}
use Rattle.resolution.specs.Annotations.{AnnotationCursor, through_member, cursor_at}
use Rattle.core_lang_helpers.specs.Faults.{IsGraphFault}
use Rattle.resolution.specs.CallGraphs.{tree_graph}
use Rattle.resolution.specs.Where.{Has, HasLink, HasBody, HasStmt, HasHelperCall, HasExpr, HasPlace, Binds, HasType}
use Rattle.resolution.specs.Where.{NamesOwner, ListsLock, HasCall, HasConst, HasLock, Annotates}

-- ---- where expressions and constants start

-- the first byte of an expression
abbrev pub start_of : Expr → ℕ
start_of (int n) = n.span.start
start_of (null at) = at.start
start_of (place p) = (first_name p).span.start
start_of (paren at e) = at.start
start_of (prefix o at e) = at.start
start_of (chain level e links) = start_of e
start_of (compare a c b) = start_of a

-- the first byte of a constant
abbrev pub const_start : Const → ℕ
const_start (int_const n) = n.span.start
const_start (negative sign n) = sign.start
const_start (null_const at) = at.start
const_start (member_const p n) = p.span.start

-- ---- E02: a number of an expression or a constant above the limit of tokens; no tree of tokens has one

-- a number is too large
pub data IsTooLarge (decls : List Decl) : ℕ → Type 0 where
  expression : {sc : Scope} {w : Want} {n : Number} →
      HasExpr decls sc w (int n) → NUMBER_LIMIT < n.value → IsTooLarge decls n.span.start
  constant : {w : Want} {n : Number} →
      HasConst decls w (int_const n) → NUMBER_LIMIT < n.value → IsTooLarge decls n.span.start
  negative_constant : {w : Want} (sign : Span) {n : Number} →
      HasConst decls w (negative sign n) → NUMBER_LIMIT < n.value → IsTooLarge decls n.span.start

-- ---- E05: the later of two equal names of one name space, or of two equal lock classes that a section lists; a local
-- with an earlier local's or a top-level name

-- a name is declared twice
pub data IsDeclaredTwice (decls : List Decl) : ℕ → Type 0 where
  two_decls : (before behind : List Decl) (d : Decl) {x : Ident} {i : ℕ} →
      decls ≡ before ++ d ∷ behind → declared d ≡ Some x → place_of bears before x.text ≡ Some i →
      IsDeclaredTwice decls x.span.start
  two_members : {s : Struct} (before behind : List Member) (m : Member) {i : ℕ} →
      Has decls (struct s) → s.members ≡ before ++ m ∷ behind →
      place_of member_bears before (member_name m).text ≡ Some i → IsDeclaredTwice decls (member_name m).span.start
  two_locals : {sc : Scope} {x : Ident} {f : ℕ × Local} →
      Binds decls sc x → the_local sc.locals x.text ≡ Some f → IsDeclaredTwice decls x.span.start
  two_classes : {limits : BodyLimits} {s : Section} (before behind : List ClassName) (c : ClassName) {i : ℕ} →
      HasBody decls limits s → s.listed ≡ before ++ c ∷ behind → place_of same_class before c ≡ Some i →
      IsDeclaredTwice decls c.structure.span.start
  top_level : {sc : Scope} {x : Ident} {f : ℕ × Decl} →
      Binds decls sc x → the_decl decls x.text ≡ Some f → IsDeclaredTwice decls x.span.start

-- ---- annotations

-- a walk along an annotation leads from a struct and the names that are left there to another one
pub data Reaches (decls : List Decl) : AnnotationCursor → Ident → List Ident → AnnotationCursor → Ident → List Ident → Type 0 where
  stays : {st : AnnotationCursor} {y : Ident} {ys : List Ident} → Reaches decls st y ys st y ys
  goes_on : {st next to : AnnotationCursor} {y z x : Ident} {zs xs : List Ident} →
      through_member decls st (the_member st.members y.text) ≡ Some next → Reaches decls next z zs to x xs →
      Reaches decls st y (z ∷ zs) to x xs

-- the annotation, with its first name p, begins at a member of the field's own struct, and its walk leads to this
-- struct
pub data Walks (decls : List Decl) : Protection → AnnotationCursor → Ident → List Ident → Type 0 where
  walks : {i : ℕ} {ms : List Member} {p : Protection} {own : ℕ × Member} {st : AnnotationCursor} {y : Ident} {ys : List Ident} →
      Annotates decls i ms p → the_member ms p.first.text ≡ Some own →
      Reaches decls (cursor_at i ms) p.first p.rest st y ys → Walks decls p st y ys

-- the annotation has to name a global lock: that of a global, or of a field whose struct has no member of the first
-- name
pub data NamesGlobal (decls : List Decl) : Protection → Type 0 where
  of_global : {p : Protection} → HasLock decls p → NamesGlobal decls p
  no_member : {i : ℕ} {ms : List Member} {p : Protection} →
      Annotates decls i ms p → the_member ms p.first.text ≡ None → NamesGlobal decls p

-- the declaration is a lock
abbrev pub IsLockDecl : Decl → Type 0
IsLockDecl (lock x) = Unit {0}
IsLockDecl _ = ⊥

-- the member is a lock
abbrev pub IsLockMember : Member → Type 0
IsLockMember (lock_member x) = Unit {0}
IsLockMember _ = ⊥

-- the member is a final reference
abbrev pub IsFinalMember : Member → Type 0
IsFinalMember (final_member f) = Unit {0}
IsFinalMember _ = ⊥

-- ---- E06: a name that is unknown in its scope, or a field that does not exist

-- a name is unknown
pub data IsUnknown (decls : List Decl) : ℕ → Type 0 where
  in_place : {sc : Scope} {p : Place} →
      HasPlace decls sc p → meaning sc (first_name p).text ≡ nothing → IsUnknown decls (first_name p).span.start
  in_type : {sc : Scope} {x : Ident} →
      HasType decls sc (ref_type x) → meaning sc x.text ≡ nothing → IsUnknown decls x.span.start
  in_call : {c : Call} → HasCall decls c → the_decl decls c.section.text ≡ None → IsUnknown decls c.section.span.start
  in_helper_call : {sc : Scope} {c : HelperCall} →
      HasHelperCall decls sc c → meaning sc c.helper.text ≡ nothing → IsUnknown decls c.helper.span.start
  in_const : {w : Want} {p : Ident} {n : Number} →
      HasConst decls w (member_const p n) → the_decl decls p.text ≡ None → IsUnknown decls p.span.start
  in_init : {i : Init} → Has decls (init i) → the_decl decls i.pool.text ≡ None → IsUnknown decls i.pool.span.start
  no_field_initialised : {i : Init} {ms : List Member} →
      Has decls (init i) → pool_members decls (the_decl decls i.pool.text) ≡ Some ms →
      the_member ms i.field.text ≡ None → IsUnknown decls i.field.span.start
  no_field : {sc : Scope} {x : Ident} {fs : List Ident} (before behind : List Ident) (f : Ident) (steps : List FieldStep) (k : ℕ) {s : Struct} →
      HasPlace decls sc (path x fs) → fs ≡ before ++ f ∷ behind →
      walk_from decls (meaning sc x.text) before ≡ reached steps (Reference k) → the_struct decls k ≡ Some s →
      the_member s.members f.text ≡ None → IsUnknown decls f.span.start
  no_final : {ms : List Member} {f : Ident} →
      NamesOwner decls ms f → the_member ms f.text ≡ None → IsUnknown decls f.span.start
  no_owner : {sc : Scope} {l : tree.Local} {o : Owner} →
      HasStmt decls sc (let_owned l o) → meaning sc o.local.text ≡ nothing → IsUnknown decls o.local.span.start
  no_member_listed : {ms : List Member} {x : Ident} →
      ListsLock decls ms x → the_member ms x.text ≡ None → IsUnknown decls x.span.start
  no_lock : {p : Protection} →
      NamesGlobal decls p → the_decl decls p.first.text ≡ None → IsUnknown decls p.first.span.start
  no_field_passed : {p : Protection} {st : AnnotationCursor} {y : Ident} {ys : List Ident} →
      Walks decls p st y ys → the_member st.members y.text ≡ None → IsUnknown decls y.span.start

-- ---- E07

-- sides of `==` that do not match, such that the fault is that of the right one
abbrev pub AreUnlike : ResolvedExpr → ResolvedExpr → Type 0
AreUnlike (value a s) (value b t) = alike_sorts s t ≡ false
AreUnlike (value a s) (truth d) = Unit {0}
AreUnlike (truth c) (value b t) = Unit {0}
AreUnlike (truth c) (truth d) = ⊥

-- a declaration whose name alone is not a value and can't be assigned to. A global is a value, and a lock has a fault
-- of its own
abbrev pub IsNoValue : Decl → Type 0
IsNoValue (lock x) = ⊥
IsNoValue (global v) = ⊥
IsNoValue _ = Unit {0}

-- the name has no elements
abbrev pub HasNoElements : Meaning → Type 0
HasNoElements (a_decl i (array a)) = ⊥
HasNoElements (a_decl i (pool p)) = ⊥
HasNoElements nothing = ⊥
HasNoElements _ = Unit {0}

-- the name refers to something, which is not a struct
abbrev pub IsNoStruct : Meaning → Type 0
IsNoStruct (a_decl i (struct s)) = ⊥
IsNoStruct nothing = ⊥
IsNoStruct _ = Unit {0}

-- the name refers to something, which is not a helper
abbrev pub IsNoHelper : Meaning → Type 0
IsNoHelper (a_decl i (helper s)) = ⊥
IsNoHelper nothing = ⊥
IsNoHelper _ = Unit {0}

-- the declaration is a section
abbrev pub IsSection : Decl → Type 0
IsSection (atomic s) = Unit {0}
IsSection _ = ⊥

-- the declaration is a pool
abbrev pub IsPool : Decl → Type 0
IsPool (pool p) = Unit {0}
IsPool _ = ⊥

-- an expression, a constant or an owner that is not what is expected, sides of `==` that do not match, or a name of the
-- wrong kind; with its reason
pub data IsWrongType (decls : List Decl) : ℕ → Why → Type 0 where
  unwanted : {sc : Scope} {w : Want} {e : Expr} {s : ResolvedExpr} →
      HasExpr decls sc w e → Types sc e s → fits w s ≡ false →
      IsWrongType decls (start_of e) (why.Unwanted w (kind_of s))
  unwanted_constant : {w : Want} {c : Const} {s : Sort} →
      HasConst decls w c → IsOfSort decls c s → fits_sort w s ≡ false →
      IsWrongType decls (const_start c) (why.Unwanted w (kind.Value s))
  unlike_sides : {sc : Scope} {w : Want} {a b : Expr} {c : written.Comparison} {s t : ResolvedExpr} →
      HasExpr decls sc w (compare a c b) → IsEquality c → Types sc a s → Types sc b t → AreUnlike s t →
      IsWrongType decls (start_of b) (why.Unlike (kind_of s) (kind_of t))
  truths_compared : {sc : Scope} {w : Want} {a b : Expr} {c : written.Comparison} {x y : core.Condition} →
      HasExpr decls sc w (compare a c b) → IsEquality c → Types sc a (truth x) → Types sc b (truth y) →
      IsWrongType decls (start_of a) (why.Unlike kind.Condition kind.Condition)
  no_value : {sc : Scope} {w : Want} {x : Ident} {i : ℕ} {d : Decl} →
      HasExpr decls sc w (place (lone x)) → meaning sc x.text ≡ a_decl i d → IsNoValue d →
      has_type decls (a_decl i d) ≡ true → IsWrongType decls x.span.start (why.Misnamed role.Value (referent_of d))
  no_elements : {sc : Scope} {x : Ident} {e : Expr} {m : Meaning} →
      HasPlace decls sc (element x e) → meaning sc x.text ≡ m → HasNoElements m → has_type decls m ≡ true →
      IsWrongType decls x.span.start (why.Misnamed role.Elements (stands_for m))
  field_of_declaration : {sc : Scope} {x : Ident} {fs : List Ident} {i : ℕ} {d : Decl} →
      HasPlace decls sc (path x fs) → meaning sc x.text ≡ a_decl i d → has_type decls (a_decl i d) ≡ true →
      IsWrongType decls x.span.start (why.Misnamed role.Local (referent_of d))
  field_of_int : {sc : Scope} {x : Ident} {fs : List Ident} (before behind : List Ident) (f : Ident) {steps : List FieldStep} →
      HasPlace decls sc (path x fs) → fs ≡ before ++ f ∷ behind →
      walk_from decls (meaning sc x.text) before ≡ reached steps Integer → IsWrongType decls x.span.start why.FieldOfInt
  field_of_lock : {sc : Scope} {x : Ident} {fs : List Ident} (before behind : List Ident) (f : Ident) →
      HasPlace decls sc (path x fs) → fs ≡ before ++ f ∷ behind →
      walk_from decls (meaning sc x.text) before ≡ at_lock → IsWrongType decls x.span.start why.FieldOfLock
  no_struct : {sc : Scope} {x : Ident} {m : Meaning} →
      HasType decls sc (ref_type x) → meaning sc x.text ≡ m → IsNoStruct m →
      IsWrongType decls x.span.start (why.Misnamed role.Struct (stands_for m))
  no_section : {c : Call} {i : ℕ} {d : Decl} →
      HasCall decls c → the_decl decls c.section.text ≡ Some (i, d) → (IsSection d → ⊥) →
      has_type decls (a_decl i d) ≡ true → IsWrongType decls c.section.span.start (why.Misnamed role.Section (referent_of d))
  no_helper : {sc : Scope} {c : HelperCall} {m : Meaning} →
      HasHelperCall decls sc c → meaning sc c.helper.text ≡ m → IsNoHelper m → has_type decls m ≡ true →
      IsWrongType decls c.helper.span.start (why.Misnamed role.Helper (stands_for m))
  -- a `let` of the result of a helper without result
  no_result : {sc : Scope} {l : CalledLocal} {t : core_type.ValueType} {i : ℕ} {s : Section} →
      HasStmt decls sc (let_call l) → type_of sc l.value_type ≡ Some t →
      helper_meant (meaning sc l.call.helper.text) ≡ Some (i, s) → s.result ≡ None →
      IsWrongType decls l.call.helper.span.start (why.NoResult t)
  other_result : {sc : Scope} {l : CalledLocal} {t u : core_type.ValueType} {i : ℕ} {s : Section} →
      HasStmt decls sc (let_call l) → type_of sc l.value_type ≡ Some t →
      helper_meant (meaning sc l.call.helper.text) ≡ Some (i, s) → result_of decls s ≡ Some u →
      fits_type t (sort.Of u) ≡ false →
      IsWrongType decls l.call.helper.span.start (why.Unwanted (Value t) (kind.Value (sort.Of u)))
  no_pool : {w : Want} {p : Ident} {n : Number} {i : ℕ} {d : Decl} →
      HasConst decls w (member_const p n) → the_decl decls p.text ≡ Some (i, d) → (IsPool d → ⊥) →
      has_type decls (a_decl i d) ≡ true → IsWrongType decls p.span.start (why.Misnamed role.Pool (referent_of d))
  no_pool_initialised : {j : Init} {i : ℕ} {d : Decl} →
      Has decls (init j) → the_decl decls j.pool.text ≡ Some (i, d) → (IsPool d → ⊥) →
      has_type decls (a_decl i d) ≡ true → IsWrongType decls j.pool.span.start (why.Misnamed role.Pool (referent_of d))
  not_final : {ms : List Member} {f : Ident} {i : ℕ} {g : Field} →
      NamesOwner decls ms f → the_member ms f.text ≡ Some (i, field_member g) →
      member_has_type decls (field_member g) ≡ true → IsWrongType decls f.span.start why.OwnerField
  no_lock_listed : {ms : List Member} {x : Ident} {i : ℕ} {m : Member} →
      ListsLock decls ms x → the_member ms x.text ≡ Some (i, m) → (IsLockMember m → ⊥) →
      member_has_type decls m ≡ true → IsWrongType decls x.span.start why.ListedMember
  number_owned : {sc : Scope} {l : tree.Local} {o : Owner} →
      HasStmt decls sc (let_owned l o) → type_of sc l.value_type ≡ Some Integer →
      IsWrongType decls o.field.span.start why.OwnedInt
  owner_no_local : {sc : Scope} {l : tree.Local} {o : Owner} {i : ℕ} {d : Decl} →
      HasStmt decls sc (let_owned l o) → meaning sc o.local.text ≡ a_decl i d → has_type decls (a_decl i d) ≡ true →
      IsWrongType decls o.local.span.start (why.Misnamed role.Local (referent_of d))
  other_owner : {sc : Scope} {l : tree.Local} {o : Owner} {f : OwnerField} {i : ℕ} {b : Local} {t u : core_type.ValueType} →
      HasStmt decls sc (let_owned l o) → type_of sc l.value_type ≡ Some t → IsFinalOf decls t o.field f →
      meaning sc o.local.text ≡ a_local i b → b.value_type ≡ Some u → fits_type f.value_type (sort.Of u) ≡ false →
      IsWrongType decls o.local.span.start (why.Unwanted (Value f.value_type) (kind.Value (sort.Of u)))
  -- an operator of conditions in a chain of numbers; no tree of tokens has one
  misplaced_operator : {sc : Scope} {w : Want} {level : Level} {e f : Expr} {links : Links} {o : Operator} →
      HasExpr decls sc w (chain level e links) → IsOfNumbers level → HasLink links o f → operator_of o ≡ None →
      IsWrongType decls (start_of f) why.OperatorOfConditions

-- ---- E08: with the expected number of arguments, and the number found

-- a call has the wrong number of arguments
pub data IsWrongCount (decls : List Decl) : ℕ → Why → Type 0 where
  wrong_count : {c : Call} {i : ℕ} {s : Section} →
      HasCall decls c → the_decl decls c.section.text ≡ Some (i, atomic s) →
      (length c.arguments ≡ length s.params → ⊥) →
      IsWrongCount decls c.section.span.start (why.Counted (length s.params) (length c.arguments))
  wrong_helper_count : {sc : Scope} {c : HelperCall} {i : ℕ} {s : Section} →
      HasHelperCall decls sc c → helper_meant (meaning sc c.helper.text) ≡ Some (i, s) →
      (length c.arguments ≡ length s.params → ⊥) →
      IsWrongCount decls c.helper.span.start (why.Counted (length s.params) (length c.arguments))

-- ---- E09: the target of an assignment that can't be assigned to, with what it is

-- the target of an assignment can't be assigned to
pub data IsNotAssignable (decls : List Decl) : ℕ → Why → Type 0 where
  to_fixed : {sc : Scope} {x : Ident} {e : Expr} {i : ℕ} {l : Local} →
      HasStmt decls sc (assign (lone x) e) → meaning sc x.text ≡ a_local i l → is_var l.kind ≡ false →
      has_type decls (a_local i l) ≡ true →
      IsNotAssignable decls x.span.start (why.Misnamed role.Target (stands.Local l.kind))
  to_decl : {sc : Scope} {x : Ident} {e : Expr} {i : ℕ} {d : Decl} →
      HasStmt decls sc (assign (lone x) e) → meaning sc x.text ≡ a_decl i d → IsNoValue d →
      has_type decls (a_decl i d) ≡ true → IsNotAssignable decls x.span.start (why.Misnamed role.Target (referent_of d))
  to_member : {sc : Scope} {x : Ident} {j e : Expr} {i : ℕ} {p : Pool} →
      HasStmt decls sc (assign (element x j) e) → meaning sc x.text ≡ a_decl i (pool p) →
      has_type decls (a_decl i (pool p)) ≡ true → IsNotAssignable decls x.span.start (why.Misnamed role.Target stands.Pool)
  to_final : {sc : Scope} {x : Ident} {fs : List Ident} {e : Expr} (steps : List FieldStep) (t : core_type.ValueType) →
      HasStmt decls sc (assign (path x fs) e) → walk_from decls (meaning sc x.text) fs ≡ reached steps t →
      ((base : List FieldStep) (k n : ℕ) → steps ≡ base ++ step.Field k n ∷ [] → ⊥) →
      IsNotAssignable decls x.span.start why.FinalTarget

-- ---- E10, E11, E12: annotations

-- a global, an array or a field has no annotation
pub data IsUnprotected (decls : List Decl) : ℕ → Type 0 where
  bare_global : {v : Variable} → Has decls (global v) → v.protection ≡ None → IsUnprotected decls v.name.span.start
  bare_array : {a : Array} → Has decls (array a) → a.protection ≡ None → IsUnprotected decls a.name.span.start
  bare_field : {s : Struct} {f : Field} →
      Has decls (struct s) → Has s.members (field_member f) → f.protection ≡ None →
      IsUnprotected decls f.name.span.start

-- the annotation ends at a field that is not a lock; or it has to name a global lock, and is not the name of one alone
pub data EndsAtNoLock (decls : List Decl) : ℕ → Type 0 where
  ends_at_member : {p : Protection} {st : AnnotationCursor} {y : Ident} {i : ℕ} {m : Member} →
      Walks decls p st y [] → the_member st.members y.text ≡ Some (i, m) → (IsLockMember m → ⊥) →
      member_has_type decls m ≡ true → EndsAtNoLock decls p.first.span.start
  names_no_lock : {p : Protection} {i : ℕ} {d : Decl} →
      NamesGlobal decls p → the_decl decls p.first.text ≡ Some (i, d) → ((IsLockDecl d × (p.rest ≡ [])) → ⊥) →
      has_type decls (a_decl i d) ≡ true → EndsAtNoLock decls p.first.span.start

-- a name before the last is a field, but not a final reference
pub data PassesNonFinal (decls : List Decl) : ℕ → Type 0 where
  passes : {p : Protection} {st : AnnotationCursor} {y z : Ident} {zs : List Ident} {i : ℕ} {m : Member} →
      Walks decls p st y (z ∷ zs) → the_member st.members y.text ≡ Some (i, m) → (IsFinalMember m → ⊥) →
      member_has_type decls m ≡ true → PassesNonFinal decls y.span.start

-- ---- E15

-- the most declarations of this kind, if each counts as one
abbrev pub limit_of : Decl → Option ℕ
limit_of (struct s) = Some STRUCT_LIMIT
limit_of (thread t) = Some THREAD_LIMIT
limit_of _ = None

-- a limit is exceeded
pub data IsOverLimit (decls : List Decl) : ℕ → Type 0 where
  too_many : (before behind : List Decl) (d : Decl) {x : Ident} (n : ℕ) →
      decls ≡ before ++ d ∷ behind → declared d ≡ Some x → limit_of d ≡ Some n → n ≤ count (alike d) before →
      IsOverLimit decls x.span.start
  too_many_sections : (before behind : List Decl) (d : Decl) {x : Ident} →
      decls ≡ before ++ d ∷ behind → has_body d ≡ true → declared d ≡ Some x → SECTION_LIMIT ≤ count has_body before →
      IsOverLimit decls x.span.start
  too_many_members : {s : Struct} (before behind : List Member) (m : Member) →
      Has decls (struct s) → s.members ≡ before ++ m ∷ behind → MEMBER_LIMIT ≤ length before →
      IsOverLimit decls (member_name m).span.start
  too_many_locks : (before behind : List Decl) (x : Ident) →
      decls ≡ before ++ lock x ∷ behind → CLASS_LIMIT ≤ total classes_of before → IsOverLimit decls x.span.start
  too_many_lock_fields : (before behind : List Decl) (s : Struct) (ahead rest : List Member) (x : Ident) →
      decls ≡ before ++ struct s ∷ behind → s.members ≡ ahead ++ lock_member x ∷ rest →
      CLASS_LIMIT ≤ total classes_of before + count is_lock ahead → IsOverLimit decls x.span.start
  -- the declaration that first exceeds the limit
  too_many_objects : (before behind : List Decl) (d : Decl) {x : Ident} →
      decls ≡ before ++ d ∷ behind → declared d ≡ Some x → total objects_of before ≤ OBJECT_LIMIT →
      OBJECT_LIMIT < total objects_of before + objects_of d → IsOverLimit decls x.span.start
  too_many_cells : (before behind : List Decl) (d : Decl) {x : Ident} →
      decls ≡ before ++ d ∷ behind → declared d ≡ Some x → total (cells_of decls) before ≤ CELL_LIMIT →
      CELL_LIMIT < total (cells_of decls) before + cells_of decls d → IsOverLimit decls x.span.start
  too_many_calls : (before behind : List Decl) (d : Decl) {x : Ident} →
      decls ≡ before ++ d ∷ behind → declared d ≡ Some x → total calls_of before ≤ CALL_LIMIT →
      CALL_LIMIT < total calls_of before + calls_of d → IsOverLimit decls x.span.start
  too_many_parameters : {limits : BodyLimits} {x : Section} (p : Param) (before behind : List Param) →
      HasBody decls limits x → x.params ≡ before ++ p ∷ behind → limits.parameters ≤ length before →
      IsOverLimit decls p.name.span.start
  too_many_locals : {sc : Scope} {x : Ident} →
      Binds decls sc x → sc.limits.locals ≤ length sc.locals → IsOverLimit decls x.span.start
  too_many_finals : {p : Protection} {st : AnnotationCursor} {y z : Ident} {zs : List Ident} {i : ℕ} {f : Final} →
      Walks decls p st y (z ∷ zs) → the_member st.members y.text ≡ Some (i, final_member f) →
      FINAL_LIMIT ≤ length st.through → IsOverLimit decls p.first.span.start

-- ---- E16: a final reference of a pool's member without an `init`, or with one that gives null

-- a final reference has no value
pub data IsFinalMissing (decls : List Decl) : ℕ → Type 0 where
  not_given : (i : ℕ) {p : Pool} {ms : List Member} (q : List ℕ) {m : ℕ} {f : Final} {s : ℕ} (n : ℕ) →
      slice_get decls i ≡ Some (pool p) → members_of decls p.target ≡ Some ms →
      the_member ms q ≡ Some (m, final_member f) → struct_named decls f.target ≡ Some s → n < p.length.value →
      given decls (record { pool = i; index = n; member = m }) ≡ None → IsFinalMissing decls p.name.span.start
  given_null : {i : Init} {m : ℕ} {f : Final} {s : ℕ} {at : Span} →
      Has decls (init i) → initialised decls i ≡ Some (m, final_member f) → struct_named decls f.target ≡ Some s →
      i.value ≡ null_const at → IsFinalMissing decls at.start

-- ---- E17: an index past the pool's length, or a second `init` of one field

-- an index is out of range, or an `init` is repeated
pub data IsOutOfRange (decls : List Decl) : ℕ → Type 0 where
  constant_beyond : {w : Want} {x : Ident} {n : Number} {i : ℕ} {p : Pool} →
      HasConst decls w (member_const x n) → the_decl decls x.text ≡ Some (i, pool p) →
      has_type decls (a_decl i (pool p)) ≡ true → p.length.value ≤ n.value → IsOutOfRange decls n.span.start
  init_beyond : {j : Init} {i : ℕ} {p : Pool} →
      Has decls (init j) → the_decl decls j.pool.text ≡ Some (i, pool p) → has_type decls (a_decl i (pool p)) ≡ true →
      p.length.value ≤ j.index.value → IsOutOfRange decls j.index.span.start
  given_again : (before behind : List Decl) (j : Init) {g : InitTarget} {e : ℕ × Decl} →
      decls ≡ before ++ init j ∷ behind → init_target_of decls j ≡ Some g → giver decls before g ≡ Some e →
      IsOutOfRange decls j.start.start

-- ---- E19: a lock as a value, as a target, in an `init`, or after `where`

-- a lock is used as a value
pub data IsLockAsValue (decls : List Decl) : ℕ → Type 0 where
  global_lock : {sc : Scope} {x y : Ident} {i : ℕ} →
      HasPlace decls sc (lone x) → meaning sc x.text ≡ a_decl i (lock y) → IsLockAsValue decls x.span.start
  lock_field : {sc : Scope} {x : Ident} {fs : List Ident} →
      HasPlace decls sc (path x fs) → walk_from decls (meaning sc x.text) fs ≡ at_lock →
      IsLockAsValue decls x.span.start
  lock_as_owner : {ms : List Member} {f y : Ident} {i : ℕ} →
      NamesOwner decls ms f → the_member ms f.text ≡ Some (i, lock_member y) → IsLockAsValue decls f.span.start
  lock_initialised : {i : Init} {m : ℕ} {y : Ident} →
      Has decls (init i) → initialised decls i ≡ Some (m, lock_member y) → IsLockAsValue decls i.field.span.start

-- ---- a fault of the program

-- the program has a fault of this code at this byte
pub data IsFault (decls : List Decl) : Code → ℕ → Type 0 where
  too_large : {p : ℕ} → IsTooLarge decls p → IsFault decls NumberTooLarge p
  declared_twice : {p : ℕ} → IsDeclaredTwice decls p → IsFault decls DeclaredTwice p
  unknown : {p : ℕ} → IsUnknown decls p → IsFault decls UnknownName p
  wrong_type : {p : ℕ} {w : Why} → IsWrongType decls p w → IsFault decls WrongType p
  miscounted : {p : ℕ} {w : Why} → IsWrongCount decls p w → IsFault decls WrongArgumentCount p
  not_assignable : {p : ℕ} {w : Why} → IsNotAssignable decls p w → IsFault decls NotAssignable p
  without_lock : {p : ℕ} → IsUnprotected decls p → IsFault decls NeitherFinalNorProtected p
  ends_at_no_lock : {p : ℕ} → EndsAtNoLock decls p → IsFault decls ProtectedByNoLock p
  passes_non_final : {p : ℕ} → PassesNonFinal decls p → IsFault decls ProtectedByPassesNonFinal p
  over_limit : {p : ℕ} → IsOverLimit decls p → IsFault decls LimitExceeded p
  final_missing : {p : ℕ} → IsFinalMissing decls p → IsFault decls FinalWithoutOpeningValue p
  out_of_range : {p : ℕ} → IsOutOfRange decls p → IsFault decls InitOutOfRangeOrRepeated p
  lock_as_value : {p : ℕ} → IsLockAsValue decls p → IsFault decls LockAsValue p
  -- a recursion of helpers, a helper that is too deep, or a call that brings too many locals or points to a section
  of_calls : {code : Code} {p : ℕ} → IsGraphFault (tree_graph decls) code p → IsFault decls code p

-- the code says all
abbrev pub IsPlain : Code → Type 0
IsPlain WrongType = ⊥
IsPlain WrongArgumentCount = ⊥
IsPlain NotAssignable = ⊥
IsPlain _ = Unit {0}

-- the program has a fault of this code at this byte for this reason, which says more than the code only for a wrong
-- type, a wrong count and a target that can't be assigned to
pub data IsFaultFor (decls : List Decl) : Code → ℕ → Why → Type 0 where
  for_type : {p : ℕ} {w : Why} → IsWrongType decls p w → IsFaultFor decls WrongType p w
  for_count : {p : ℕ} {w : Why} → IsWrongCount decls p w → IsFaultFor decls WrongArgumentCount p w
  for_target : {p : ℕ} {w : Why} → IsNotAssignable decls p w → IsFaultFor decls NotAssignable p w
  plainly : {code : Code} {p : ℕ} → IsPlain code → IsFault decls code p → IsFaultFor decls code p why.Plain

-- the refusal is a fault of the program, with no detail, or the failure of an allocation
abbrev pub IsRefusal : List Decl → Refusal → Type 0
IsRefusal decls refusal.NoMemory = Unit {0}
IsRefusal decls (refusal.Fault f) = IsFault decls f.code f.start × (string_bytes f.detail ≡ [])

-- the program has no fault of names and types
abbrev pub HasNoFault : List Decl → Type 0
HasNoFault decls = (code : Code) (p : ℕ) → IsFault decls code p → ⊥
