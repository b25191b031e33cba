-- The list of faults has a fault for each faulty place, path, annotation, `init` and owner.
use Rattle.std.proofs.Common.{◌≡◌, ℕ, List, [], ◌∷◌, ◌++◌, length, Option, Some, None, sym, ap, ◌∙◌, subst}
use Rattle.source.specs.declared.fault.Code.{Code}
use Rattle.source.specs.declared.fault.Code.TheVariants.{UnknownName}
use Rattle.syntax.specs.Trees as tree
use Rattle.syntax.specs.Trees.{Ident, Place, lone, element, path, ValueType, Expr, place, Owner, let_owned, assign}
use Rattle.syntax.specs.Trees.{Protection, Member, Struct, Init, Decl, struct, global, array, pool, init}
use Rattle.core_lang.specs.declared.value.ValueType as core_type
use Rattle.core_lang.specs.declared.value.ValueType.TheVariants.{Integer, Reference}
use Rattle.core_lang.specs.declared.tree.FieldStep.{FieldStep}
use Rattle.source.specs.declared.mistake.Mistake.{Mistake}
use Rattle.resolution.specs.declared.wanted.Want.TheVariants.{Value}
use Rattle.resolution.specs.Scopes.{Scope, outside, Meaning, a_local, a_decl, nothing, meaning, the_decl, the_struct}
use Rattle.resolution.specs.Scopes.{the_member, type_of}
use Rattle.resolution.specs.Expressions.{want}
use Rattle.resolution.specs.Working.TypedExpressions.{typed}
use Rattle.resolution.specs.Expressions.{Walk, reached, stepped, walked, at_local, walk_from}
use Rattle.resolution.specs.Working.TypedOwners.{owner_field}
use Rattle.resolution.specs.Statements.{first_name}
use Rattle.resolution.specs.Working.TypedStatements.{target_of, wanted_by}
use Rattle.resolution.specs.Constants.{pool_members, initialised, member_want}
use Rattle.resolution.specs.Annotations.{AnnotationCursor, stepped_on, cursor_at}
use Rattle.resolution.specs.Where.{Has, HasStmt, HasPlace, is_read, is_written, NamesOwner, names_owner, of_variable}
use Rattle.resolution.specs.Where.{of_elements, Annotates, annotates}
use Rattle.resolution.specs.Faults as fault
use Rattle.resolution.specs.Faults.{start_of, Reaches, stays, goes_on, Walks, walks, NamesGlobal}
use Rattle.resolution.specs.Working.FaultLists as list
use Rattle.resolution.specs.declared.why.Why.{Why}
use Rattle.resolution.specs.Working.FaultLists.{reasoned, one, type_faults, index_faults, const_faults, no_elements, no_member}
use Rattle.resolution.specs.Working.FaultLists.{no_field, step_faults, end_faults, walk_faults, path_faults, misfit}
use Rattle.resolution.specs.Working.FaultLists.{expr_faults, place_faults, wanted_faults, no_target, no_array}
use Rattle.resolution.specs.Working.FaultLists.{final_faults, target_faults, no_final_in, owner_field_faults}
use Rattle.resolution.specs.Working.FaultLists.{global_lock_faults, lock_faults, passed_faults, last_faults, passed}
use Rattle.resolution.specs.Working.FaultLists.{along_faults, annotation_faults, protection_faults, opening_faults}
use Rattle.resolution.specs.Working.FaultLists.{field_faults, named_faults, null_faults, declaration_faults}
use Rattle.resolution.specs.Theory.Leasts.{IsAmong, among_left, among_right}
use Rattle.resolution.proofs.Members.{at}
use Rattle.resolution.proofs.Parts.{of_place_at, of_decl, of_stmt, of_owner, stmt_decls, expr_decls, of_expr}
use Rattle.resolution.proofs.Parts.{in_members_field}
use Rattle.resolution.proofs.HelperFaults.{listed}

-- ---- places

-- what is listed for a place that is read and for one that is written
pub of_place : (decls : List Decl) (sc : Scope) (p : Place) → HasPlace decls sc p → (f : Mistake) →
    (sc.decls ≡ decls → IsAmong f (place_faults sc p)) → (sc.decls ≡ decls → IsAmong f (target_faults sc p)) →
    IsAmong f (declaration_faults decls)
of_place decls sc p (is_read {w = w} h) f read written = of_expr decls sc w (place p) h f (read (expr_decls decls sc w (place p) h))
of_place decls sc p (is_written {e = e} h) f read written = of_stmt decls sc (assign p e) h f (among_left f (target_faults sc p) (wanted_faults sc (wanted_by (target_of sc p)) e) (written (stmt_decls decls sc (assign p e) h)))

pub of_indexed : (decls : List Decl) (sc : Scope) (x : Ident) (e : Expr) → HasPlace decls sc (element x e) →
    (f : Mistake) → (sc.decls ≡ decls → IsAmong f (no_elements sc.decls x.span.start (meaning sc x.text))) →
    IsAmong f (declaration_faults decls)
of_indexed decls sc x e h f i =
    let a = no_elements sc.decls x.span.start (meaning sc x.text) in
    of_place decls sc (element x e) h f
    (λ s. among_left f (a ++ expr_faults sc e) (misfit (Value Integer) (start_of e) (typed sc e)) (among_left f a (expr_faults sc e) (i s)))
    (λ s. among_left f (a ++ no_array sc.decls x.span.start (meaning sc x.text)) (wanted_faults sc (Value Integer) e) (among_left f a (no_array sc.decls x.span.start (meaning sc x.text)) (i s)))

pub of_path : (decls : List Decl) (sc : Scope) (x : Ident) (fs : List Ident) → HasPlace decls sc (path x fs) →
    (f : Mistake) → (sc.decls ≡ decls → IsAmong f (path_faults sc.decls x.span.start (meaning sc x.text) fs)) →
    IsAmong f (declaration_faults decls)
of_path decls sc x fs h f i =
    of_place decls sc (path x fs) h f i (λ s. among_left f (path_faults sc.decls x.span.start (meaning sc x.text) fs) (final_faults x.span.start (walk_from sc.decls (meaning sc x.text) fs)) (i s))

pub unknown_place : (decls : List Decl) (sc : Scope) (p : Place) → HasPlace decls sc p →
    meaning sc (first_name p).text ≡ nothing → listed decls UnknownName (first_name p).span.start
unknown_place decls sc (lone x) h is = of_place decls sc (lone x) h _ (λ s. at UnknownName x.span.start _ (ap (list.no_value sc.decls x.span.start) is)) (λ s. at UnknownName x.span.start _ (ap (no_target sc.decls x.span.start) is))
unknown_place decls sc (element x e) h is = of_indexed decls sc x e h _ (λ s. at UnknownName x.span.start _ (ap (no_elements sc.decls x.span.start) is))
unknown_place decls sc (path x fs) h is = of_path decls sc x fs h _ (λ s. at UnknownName x.span.start _ (ap (λ (y : Meaning). path_faults sc.decls x.span.start y fs) is))

-- ---- paths

pub in_walk : (decls : List Decl) (p : ℕ) (w : Walk) (before behind : List Ident) (y : Ident) (f : Mistake) →
    IsAmong f (step_faults decls p (walked decls w before) y) →
    IsAmong f (walk_faults decls p w (before ++ y ∷ behind))
in_walk decls p w [] behind y f i = among_left f (step_faults decls p w y) (walk_faults decls p (stepped decls w y) behind) i
in_walk decls p w (b ∷ before) behind y f i = among_right f (step_faults decls p w b) _ (in_walk decls p (stepped decls w b) before behind y f i)

pub in_end : (decls : List Decl) (p : ℕ) (w : Walk) (fs : List Ident) (f : Mistake) →
    IsAmong f (end_faults p (walked decls w fs)) → IsAmong f (walk_faults decls p w fs)
in_end decls p w [] f i = i
in_end decls p w (b ∷ fs) f i = among_right f (step_faults decls p w b) _ (in_end decls p (stepped decls w b) fs f i)

-- a step that is wrong, from a local
pub in_path : (decls : List Decl) (p : ℕ) (x : Meaning) (fs before behind : List Ident) (y : Ident) (f : Mistake) →
    fs ≡ before ++ y ∷ behind → IsAmong f (step_faults decls p (walk_from decls x before) y) →
    IsAmong f (path_faults decls p x fs)
in_path decls p (a_local n l) fs before behind y f parts i = subst (λ (xs : List Ident). IsAmong f (walk_faults decls p (at_local l.value_type) xs)) (sym parts) (in_walk decls p (at_local l.value_type) before behind y f i)
in_path decls p (a_decl n d) fs before behind y f parts i = absurd i
in_path decls p nothing fs before behind y f parts i = absurd i

pub in_path_end : (decls : List Decl) (p : ℕ) (x : Meaning) (fs : List Ident) (f : Mistake) →
    IsAmong f (end_faults p (walk_from decls x fs)) → IsAmong f (path_faults decls p x fs)
in_path_end decls p (a_local n l) fs f i = in_end decls p (at_local l.value_type) fs f i
in_path_end decls p (a_decl n d) fs f i = absurd i
in_path_end decls p nothing fs f i = absurd i

pub unknown_field : (decls ds : List Decl) (p : ℕ) (x : Meaning) (before : List Ident) (y : Ident) (steps : List FieldStep) (k : ℕ) (s : Struct) → ds ≡ decls → walk_from decls x before ≡ reached steps (Reference k) → the_struct decls k ≡ Some s → the_member s.members y.text ≡ None →
    step_faults ds p (walk_from ds x before) y ≡ one UnknownName y.span.start
unknown_field decls ds p x before y steps k s same to is e =
    ap (λ (cs : List Decl). step_faults cs p (walk_from cs x before) y) same ∙ ap (λ (w : Walk). step_faults decls p w y) to ∙ ap (λ (o : Option Struct). no_field o y) is ∙ ap (no_member y.span.start) e

-- ---- annotations

pub in_along : (decls : List Decl) (p : ℕ) (from : AnnotationCursor) (y : Ident) (ys : List Ident) (st : AnnotationCursor) (x z : Ident) (zs : List Ident) → Reaches decls from y ys st x (z ∷ zs) → (f : Mistake) → IsAmong f (passed decls p (Some st) x) → IsAmong f (along_faults decls p (Some from) y ys)
in_along decls p from y ys st x z zs stays f i = among_left f (passed decls p (Some from) y) (along_faults decls p (stepped_on decls (Some from) y) z zs) i
in_along decls p from y (v ∷ vs) st x z zs (goes_on {next = next} e r) f i =
    among_right f (passed decls p (Some from) y) _ (subst (λ (o : Option AnnotationCursor). IsAmong f (along_faults decls p o v vs)) (sym e) (in_along decls p next v vs st x z zs r f i))

pub in_along_end : (decls : List Decl) (p : ℕ) (from : AnnotationCursor) (y : Ident) (ys : List Ident) (st : AnnotationCursor) (x : Ident) → Reaches decls from y ys st x [] → (f : Mistake) → IsAmong f (list.ended decls p (Some st) x) → IsAmong f (along_faults decls p (Some from) y ys)
in_along_end decls p from y ys st x stays f i = i
in_along_end decls p from y (v ∷ vs) st x (goes_on {next = next} e r) f i =
    among_right f (passed decls p (Some from) y) _ (subst (λ (o : Option AnnotationCursor). IsAmong f (along_faults decls p o v vs)) (sym e) (in_along_end decls p next v vs st x r f i))

pub of_annotation : (decls : List Decl) (n : ℕ) (ms : List Member) (p : Protection) → Annotates decls n ms p →
    (f : Mistake) → IsAmong f (annotation_faults decls (cursor_at n ms) p (the_member ms p.first.text)) →
    IsAmong f (declaration_faults decls)
of_annotation decls n ms p (annotates {s = s} {f = g} here b e) f i =
    of_place_at decls n (struct s) here f (in_members_field decls n s.members s.members g b f (among_right f (type_faults (outside decls) g.value_type) _ (subst (λ (o : Option Protection). IsAmong f (protection_faults decls n s.members g.name.span.start o)) (sym e) i)))

-- a walk's name that others follow
pub of_passed : (decls : List Decl) (p : Protection) (st : AnnotationCursor) (x z : Ident) (zs : List Ident) →
    Walks decls p st x (z ∷ zs) → (f : Mistake) → IsAmong f (passed decls p.first.span.start (Some st) x) →
    IsAmong f (declaration_faults decls)
of_passed decls p st x z zs (walks {i = n} {ms = ms} {own = o} h is r) f i =
    of_annotation decls n ms p h f (subst (λ (q : Option (ℕ × Member)). IsAmong f (annotation_faults decls (cursor_at n ms) p q)) (sym is) (in_along decls p.first.span.start (cursor_at n ms) p.first p.rest st x z zs r f i))

-- its last name
pub of_last : (decls : List Decl) (p : Protection) (st : AnnotationCursor) (x : Ident) → Walks decls p st x [] →
    (f : Mistake) → IsAmong f (list.ended decls p.first.span.start (Some st) x) → IsAmong f (declaration_faults decls)
of_last decls p st x (walks {i = n} {ms = ms} {own = o} h is r) f i =
    of_annotation decls n ms p h f (subst (λ (q : Option (ℕ × Member)). IsAmong f (annotation_faults decls (cursor_at n ms) p q)) (sym is) (in_along_end decls p.first.span.start (cursor_at n ms) p.first p.rest st x r f i))

pub unknown_passed : (decls : List Decl) (p : Protection) (st : AnnotationCursor) (y : Ident) (ys : List Ident) →
    Walks decls p st y ys → the_member st.members y.text ≡ None → listed decls UnknownName y.span.start
unknown_passed decls p st y [] h e = of_last decls p st y h _ (at UnknownName y.span.start _ (ap (last_faults decls p.first.span.start y.span.start) e))
unknown_passed decls p st y (z ∷ zs) h e = of_passed decls p st y z zs h _ (at UnknownName y.span.start _ (ap (passed_faults decls p.first.span.start y.span.start (length st.through)) e))

-- one that is to name a global lock
pub of_global_lock : (decls : List Decl) (p : Protection) → NamesGlobal decls p → (f : Mistake) →
    IsAmong f (global_lock_faults decls p.first.span.start (the_decl decls p.first.text) p.rest) →
    IsAmong f (declaration_faults decls)
of_global_lock decls p (fault.of_global (of_variable {v = v} h e)) f i =
    of_decl decls (global v) h f (λ n here. among_left f (type_faults (outside decls) v.value_type ++ lock_faults decls v.name.span.start v.protection) (opening_faults decls (want (type_of (outside decls) v.value_type)) v.value)
    (among_right f (type_faults (outside decls) v.value_type) _ (subst (λ (o : Option Protection). IsAmong f (lock_faults decls v.name.span.start o)) (sym e) i)))
of_global_lock decls p (fault.of_global (of_elements {a = a} h e)) f i =
    of_decl decls (array a) h f (λ n here. among_right f (type_faults (outside decls) a.value_type) _ (subst (λ (o : Option Protection). IsAmong f (lock_faults decls a.name.span.start o)) (sym e) i))
of_global_lock decls p (fault.no_member {i = n} {ms = ms} h is) f i =
    of_annotation decls n ms p h f (subst (λ (q : Option (ℕ × Member)). IsAmong f (annotation_faults decls (cursor_at n ms) p q)) (sym is) i)

-- ---- inits

pub init_part : (decls : List Decl) (x : Init) → Has decls (init x) → (f : Mistake) →
    IsAmong f (index_faults decls x.pool.span.start (the_decl decls x.pool.text) x.index ++ named_faults decls x.field.span.start (pool_members decls (the_decl decls x.pool.text)) x.field.text) → IsAmong f (declaration_faults decls)
init_part decls x h f i =
    let a = index_faults decls x.pool.span.start (the_decl decls x.pool.text) x.index in
    let b = named_faults decls x.field.span.start (pool_members decls (the_decl decls x.pool.text)) x.field.text in
    let c = const_faults decls (member_want decls (initialised decls x)) x.value in
    of_decl decls (init x) h f (λ n here. among_left f (a ++ b ++ c) (null_faults decls (initialised decls x) x.value) (among_left f (a ++ b) c i))

pub of_init_index : (decls : List Decl) (x : Init) → Has decls (init x) → (f : Mistake) →
    IsAmong f (index_faults decls x.pool.span.start (the_decl decls x.pool.text) x.index) →
    IsAmong f (declaration_faults decls)
of_init_index decls x h f i = init_part decls x h f (among_left f (index_faults decls x.pool.span.start (the_decl decls x.pool.text) x.index) _ i)

pub of_init_field : (decls : List Decl) (x : Init) (ms : List Member) → Has decls (init x) →
    pool_members decls (the_decl decls x.pool.text) ≡ Some ms → (f : Mistake) →
    IsAmong f (field_faults x.field.span.start (the_member ms x.field.text)) → IsAmong f (declaration_faults decls)
of_init_field decls x ms h is f i =
    init_part decls x h f (among_right f (index_faults decls x.pool.span.start (the_decl decls x.pool.text) x.index) _ (subst (λ (o : Option (List Member)). IsAmong f (named_faults decls x.field.span.start o x.field.text)) (sym is) i))

-- ---- what follows `where`

-- a field's name
pub of_member : (decls : List Decl) (ms : List Member) (y : Ident) → NamesOwner decls ms y → (f : Mistake) →
    ((ds : List Decl) → ds ≡ decls → IsAmong f (list.no_final ds y.span.start (the_member ms y.text))) →
    IsAmong f (declaration_faults decls)
of_member decls ms y (names_owner {sc = sc} {l = l} {o = o} {k = k} {s = s} h is here) f i =
    let same = stmt_decls decls sc (let_owned l o) h in
    let found : the_struct sc.decls k ≡ Some s = ap (λ (ds : List Decl). the_struct ds k) same ∙ here in
    let listed_at : owner_field_faults sc.decls (type_of sc l.value_type) o.field ≡ list.no_final sc.decls o.field.span.start (the_member s.members o.field.text) =
    ap (λ (t : Option core_type.ValueType). owner_field_faults sc.decls t o.field) is ∙ ap (λ (q : Option Struct). no_final_in sc.decls q o.field) found in
    of_owner decls sc l o h f (among_left f (owner_field_faults sc.decls (type_of sc l.value_type) o.field) _ (subst (IsAmong f) (sym listed_at) (i sc.decls same)))

-- a local's
pub of_owner_name : (decls : List Decl) (sc : Scope) (l : tree.Local) (o : Owner) → HasStmt decls sc (let_owned l o) →
    (c : Code) {w : Why} →
    list.no_owner sc.decls o.local.span.start (owner_field sc.decls (type_of sc l.value_type) o.field) (meaning sc o.local.text) ≡ reasoned c o.local.span.start w →
    listed decls c o.local.span.start
of_owner_name decls sc l o h c e = of_owner decls sc l o h _ (among_right _ (owner_field_faults sc.decls (type_of sc l.value_type) o.field) _ (at c o.local.span.start _ e))
