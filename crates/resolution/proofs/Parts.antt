-- A fault that is listed for a part of a program is listed for the program.
use Rattle.std.proofs.Common.{◌≡◌, ℕ, zero, suc, ◌+◌, List, [], ◌∷◌, ◌++◌, length, Option, Some, None, Bool, true, refl}
use Rattle.std.proofs.Common.{sym, ap, ◌∙◌, subst, append_assoc, if◌then◌else◌, arith}
use Rattle.std.proofs.lemmas.List.{append-nil}
use Rattle.std.specs.Prelude.{nat_le, ◌==◌, slice_get}
use Rattle.std.proofs.lemmas.Bool.Decides.{nat_tests}
use Rattle.source.specs.declared.fault.Code.TheVariants.{WrongArgumentCount, LimitExceeded}
use Rattle.syntax.specs.declared.tree.Operator.{Operator}
use Rattle.syntax.specs.declared.tree.Level.{Level}
use Rattle.syntax.specs.Trees as tree
use Rattle.syntax.specs.Trees.{Ident, ValueType, ref_type, Const, element, Expr, place, paren, prefix, chain, compare}
use Rattle.syntax.specs.Trees.{Links, no_links, link, Owner, HelperCall, CalledLocal, Stmt, let_local, let_owned}
use Rattle.syntax.specs.Trees.{let_call, var_local, assign, if_then, while, print, return_value, Stmts, no_stmts, stmt}
use Rattle.syntax.specs.Trees.{else_do, Member, lock_member, final_member, field_member, Field, Final, Param, ClassName}
use Rattle.syntax.specs.Trees.{Section, Call, call, repeat, Items, no_items, item, Decl, struct, global, array, pool, init}
use Rattle.syntax.specs.Trees.{atomic, helper, thread}
use Rattle.core_lang.specs.declared.value.ValueType.TheVariants.{Integer}
use Rattle.core_lang.specs.declared.tree.LocalKind.TheVariants as kind
use Rattle.source.specs.declared.mistake.Mistake.{Mistake}
use Rattle.resolution.specs.declared.finding.Finding.{Finding}
use Rattle.resolution.specs.declared.wanted.Want.{Want}
use Rattle.resolution.specs.declared.wanted.Want.TheVariants.{Anything, Condition, Value}
use Rattle.resolution.specs.declared.body_limits.BodyLimits.{BodyLimits}
use Rattle.resolution.specs.Scopes.{Scope, outside, meaning, helper_meant, the_decl, the_member, type_of, place_of}
use Rattle.resolution.specs.Scopes.{same_class, bound, entered, left}
use Rattle.resolution.specs.Expressions.{ResolvedExpr, value, truth, want}
use Rattle.resolution.specs.Working.TypedExpressions.{typed}
use Rattle.resolution.specs.Statements.{after, after_all}
use Rattle.resolution.specs.Constants.{want_of, members_of, pool_members, initialised, member_want}
use Rattle.resolution.specs.Statements.{ahead_of, entry}
use Rattle.resolution.specs.Where as site
use Rattle.resolution.specs.Where.{Has, first, further, HasLink, this_link, later_link, operand_want, prefix_want}
use Rattle.resolution.specs.Where.{side_want, Within, itself, in_parentheses, in_prefix, in_first, in_operand, in_left}
use Rattle.resolution.specs.Where.{in_right, in_index, Among, here, later, in_then, in_else, in_while, IsArgument}
use Rattle.resolution.specs.Where.{for_parameter, for_nothing, Asks, of_let, of_owned, of_let_call, of_var, of_assign}
use Rattle.resolution.specs.Where.{of_unassignable, of_index, of_while, of_print, of_return, of_call_alone, HasBody}
use Rattle.resolution.specs.Where.{of_section, of_helper, HasStmt, in_body, HasHelperCall, by_let, by_itself, HasExpr}
use Rattle.resolution.specs.Where.{in_stmt, Binds, parameter, a_let, an_owned_let, a_called_let, a_var, HasType}
use Rattle.resolution.specs.Where.{of_global, of_array, of_pool, of_final, of_field, of_parameter, of_result, of_a_let}
use Rattle.resolution.specs.Where.{of_listed, of_an_owned_let, of_a_called_let, of_a_var, ListsLock, lists_lock}
use Rattle.resolution.specs.Where.{InItems, this_call, in_repeat}
use Rattle.resolution.specs.Where.{later_call, HasCall, in_thread, HasConst, opening, initial, argument}
use Rattle.resolution.specs.Faults.{start_of}
use Rattle.resolution.proofs.OwnerRules.{wanted_right, wanted_nothing}
use Rattle.resolution.specs.Working.FaultLists as list
use Rattle.resolution.specs.declared.why.Why.TheVariants as why
use Rattle.resolution.specs.Working.FaultLists.{reasoned, one, one_if, misfit, no_elements, no_array, operator_faults}
use Rattle.resolution.specs.Working.FaultLists.{side_faults, expr_faults, link_faults, wanted_faults, local_faults}
use Rattle.resolution.specs.Working.FaultLists.{type_faults, target_faults, binding_faults, owner_faults, values_faults}
use Rattle.resolution.specs.Working.FaultLists.{each_value_faults, passed_values_faults, helper_call_faults}
use Rattle.resolution.specs.Working.FaultLists.{given_back_faults, stmt_faults, stmts_faults, param_faults}
use Rattle.resolution.specs.Working.FaultLists.{result_faults, again, no_lock_in, class_faults, listed_faults}
use Rattle.resolution.specs.Working.FaultLists.{section_faults, const_faults, argument_faults}
use Rattle.resolution.specs.Working.FaultLists.{lock_faults, protection_faults, members_faults, opening_faults}
use Rattle.resolution.specs.Working.FaultLists.{missing_faults, index_faults, named_faults, null_faults, call_faults}
use Rattle.resolution.specs.Working.FaultLists.{item_faults, items_faults, decl_faults, each_faults, twice_faults}
use Rattle.resolution.specs.Working.FaultLists.{struct_faults, total_faults, repeated_faults, declaration_faults}
use Rattle.resolution.specs.Theory.Leasts.{IsAmong, among_left, among_right}
use Rattle.resolution.proofs.Members as m
use Rattle.resolution.specs.Theory.Blocks.{after_decls, entered_decls}

-- ---- joined lists

pub deepen : (f : Mistake) (a x y : List Finding) → IsAmong f (x ++ y) → IsAmong f ((a ++ x) ++ y)
deepen f a x y i = m.among_both f x y (λ j. among_left f (a ++ x) y (among_right f a x j)) (λ j. among_right f (a ++ x) y j) i

-- ---- expressions

anything : (sc : Scope) (e : Expr) (s : Option ResolvedExpr) → misfit Anything (start_of e) s ≡ []
anything sc e None = refl
anything sc e (Some (value x s)) = refl
anything sc e (Some (truth c)) = refl

of_anything : (sc : Scope) (e : Expr) (f : Mistake) → IsAmong f (wanted_faults sc Anything e) →
    IsAmong f (expr_faults sc e)
of_anything sc e f i =
    m.among_both f (expr_faults sc e) (misfit Anything (start_of e) (typed sc e)) (λ j. j) (λ j. absurd (subst (IsAmong f) (anything sc e (typed sc e)) j)) i

in_link : (sc : Scope) (level : Level) (links : Links) (o : Operator) (e : Expr) → HasLink links o e → (f : Mistake) →
    IsAmong f ((operator_faults level (start_of e) o ++ expr_faults sc e) ++ misfit (operand_want level) (start_of e) (typed sc e)) → IsAmong f (link_faults sc level links)
in_link sc level no_links o e h f i = elim h [ ]
in_link sc level (link o e rest) o' e' this_link f i = among_left f _ (link_faults sc level rest) i
in_link sc level (link o e rest) o' e' (later_link h) f i =
    among_right f ((operator_faults level (start_of e) o ++ expr_faults sc e) ++ misfit (operand_want level) (start_of e) (typed sc e)) _ (in_link sc level rest o' e' h f i)

pub chain_link : (sc : Scope) (level : Level) (a : Expr) (links : Links) (o : Operator) (e : Expr) →
    HasLink links o e → (f : Mistake) →
    IsAmong f ((operator_faults level (start_of e) o ++ expr_faults sc e) ++ misfit (operand_want level) (start_of e) (typed sc e)) → IsAmong f (expr_faults sc (chain level a links))
chain_link sc level a links o e h f i = among_right f (expr_faults sc a ++ misfit (operand_want level) (start_of a) (typed sc a)) _ (in_link sc level links o e h f i)

part : (sc : Scope) (w v : Want) (e x : Expr) → Within w e v x → (f : Mistake) → IsAmong f (wanted_faults sc v x) →
    IsAmong f (wanted_faults sc w e)
part sc w v e x itself f i = i
part sc w v (paren at e) x (in_parentheses h) f i = among_left f (expr_faults sc e) _ (of_anything sc e f (part sc Anything v e x h f i))
part sc w v (prefix o at e) x (in_prefix h) f i = among_left f (expr_faults sc (prefix o at e)) _ (part sc (prefix_want o) v e x h f i)
part sc w v (chain level a links) x (in_first h) f i =
    among_left f (expr_faults sc (chain level a links)) _ (among_left f (expr_faults sc a ++ misfit (operand_want level) (start_of a) (typed sc a)) (link_faults sc level links) (part sc (operand_want level) v a x h f i))
part sc w v (chain level a links) x (in_operand {f = g} {o = o} l h) f i =
    among_left f (expr_faults sc (chain level a links)) _
    (chain_link sc level a links o g l f (deepen f (operator_faults level (start_of g) o) (expr_faults sc g) (misfit (operand_want level) (start_of g) (typed sc g)) (part sc (operand_want level) v g x h f i)))
part sc w v (compare a c b) x (in_left h) f i =
    let ma = misfit (side_want c) (start_of a) (typed sc a) in
    let mb = misfit (side_want c) (start_of b) (typed sc b) in
    let sides = side_faults c (start_of a) (start_of b) (typed sc a) (typed sc b) in
    among_left f (expr_faults sc (compare a c b)) _ (among_left f (((expr_faults sc a ++ ma) ++ expr_faults sc b) ++ mb) sides (among_left f ((expr_faults sc a ++ ma) ++ expr_faults sc b) mb (among_left f (expr_faults sc a ++ ma) (expr_faults sc b) (part sc (side_want c) v a x h f i))))
part sc w v (compare a c b) x (in_right h) f i =
    let ma = misfit (side_want c) (start_of a) (typed sc a) in
    let mb = misfit (side_want c) (start_of b) (typed sc b) in
    let sides = side_faults c (start_of a) (start_of b) (typed sc a) (typed sc b) in
    among_left f (expr_faults sc (compare a c b)) _ (among_left f (((expr_faults sc a ++ ma) ++ expr_faults sc b) ++ mb) sides (deepen f (expr_faults sc a ++ ma) (expr_faults sc b) mb (part sc (side_want c) v b x h f i)))
part sc w v (place (element y e)) x (in_index h) f i =
    among_left f (expr_faults sc (place (element y e))) _ (deepen f (no_elements sc.decls y.span.start (meaning sc y.text)) (expr_faults sc e) (misfit (Value Integer) (start_of e) (typed sc e)) (part sc (Value Integer) v e x h f i))

-- ---- arguments of calls

pub same_count : (n k : ℕ) → n ≡ k → (n == k) ≡ true
same_count n k e = grind (arith, nat_tests)

in_values : (sc : Scope) (ps : List Param) (es : List Expr) (k : ℕ) (p : Param) (e : Expr) → slice_get ps k ≡ Some p →
    slice_get es k ≡ Some e → (f : Mistake) → IsAmong f (wanted_faults sc (want_of sc.decls p) e) →
    IsAmong f (values_faults sc ps es)
in_values sc [] es k p e a b f i = cc
in_values sc (q ∷ ps) [] k p e a b f i = cc
in_values sc (q ∷ ps) (d ∷ es) zero p e a b f i =
    let x : q ≡ p = cc in
    let y : d ≡ e = cc in
    among_left f (wanted_faults sc (want_of sc.decls q) d) (values_faults sc ps es) (subst (λ (z : Param). IsAmong f (wanted_faults sc (want_of sc.decls z) d)) (sym x) (subst (λ (z : Expr). IsAmong f (wanted_faults sc (want_of sc.decls p) z)) (sym y) i))
in_values sc (q ∷ ps) (d ∷ es) (suc k) p e a b f i = among_right f (wanted_faults sc (want_of sc.decls q) d) _ (in_values sc ps es k p e a b f i)

in_each_value : (sc : Scope) (es : List Expr) (e : Expr) → Has es e → (f : Mistake) →
    IsAmong f (wanted_faults sc Anything e) → IsAmong f (each_value_faults sc es)
in_each_value sc [] e h f i = elim h [ ]
in_each_value sc (d ∷ es) e first f i = among_left f _ (each_value_faults sc es) i
in_each_value sc (d ∷ es) e (further h) f i = among_right f (wanted_faults sc Anything d) _ (in_each_value sc es e h f i)

in_passed : (sc : Scope) (o : Option (ℕ × Section)) (es : List Expr) (w : Want) (e : Expr) →
    IsArgument sc.decls o es w e → (f : Mistake) → IsAmong f (wanted_faults sc w e) →
    IsAmong f (passed_values_faults sc o es)
in_passed sc (Some (n, s)) es w e (for_parameter k {p = p} len a b) f i =
    subst (IsAmong f) (sym (ap (λ (t : Bool). if t then values_faults sc s.params es else []) (same_count (length es) (length s.params) len))) (in_values sc s.params es k p e a b f i)
in_passed sc None es w e (for_nothing h) f i = in_each_value sc es e h f i

passed_in : (sc : Scope) (c : HelperCall) (w : Want) (e : Expr) →
    IsArgument sc.decls (helper_meant (meaning sc c.helper.text)) c.arguments w e → (f : Mistake) →
    IsAmong f (wanted_faults sc w e) → IsAmong f (helper_call_faults sc c)
passed_in sc c w e p f i = among_right f (list.no_helper sc.decls c.helper.span.start (length c.arguments) (meaning sc c.helper.text)) _ (in_passed sc (helper_meant (meaning sc c.helper.text)) c.arguments w e p f i)

-- ---- statements

asked : (sc : Scope) (s : Stmt) (w : Want) (e : Expr) → Asks sc s w e → (f : Mistake) →
    IsAmong f (wanted_faults sc w e) → IsAmong f (stmt_faults sc s)
asked sc (let_local l) w e of_let f i = among_right f (local_faults sc l.name ++ type_faults sc l.value_type) _ i
asked sc (let_owned l o) w e of_owned f i = among_left f (binding_faults sc l) _ (among_right f (local_faults sc l.name ++ type_faults sc l.value_type) _ i)
asked sc (let_call l) w e (of_let_call p) f i =
    among_right f (local_faults sc l.name ++ type_faults sc l.value_type ++ given_back_faults sc.decls l.call.helper.span.start (type_of sc l.value_type) (helper_meant (meaning sc l.call.helper.text))) _
    (passed_in sc l.call w e p f i)
asked sc (var_local l) w e of_var f i = among_right f (local_faults sc l.name ++ type_faults sc l.value_type) _ i
asked sc (assign p e) w x (of_assign h) f i = among_right f (target_faults sc p) _ (subst (λ (v : Want). IsAmong f (wanted_faults sc v e)) (sym (wanted_right h)) i)
asked sc (assign p e) w x (of_unassignable never) f i = among_right f (target_faults sc p) _ (subst (λ (v : Want). IsAmong f (wanted_faults sc v e)) (sym (wanted_nothing sc p never)) i)
asked sc (assign (element y j) e) w x of_index f i =
    among_left f (target_faults sc (element y j)) _ (among_right f (no_elements sc.decls y.span.start (meaning sc y.text) ++ no_array sc.decls y.span.start (meaning sc y.text)) _ i)
asked sc (if_then start e body close other) w x site.of_if f i = among_left f (wanted_faults sc Condition e ++ stmts_faults sc body) _ (among_left f (wanted_faults sc Condition e) _ i)
asked sc (while start e body close) w x of_while f i = among_left f (wanted_faults sc Condition e) _ i
asked sc (print start e) w x of_print f i = i
asked sc (return_value start e) w x of_return f i = i
asked sc (call start c) w x (of_call_alone p) f i = passed_in sc c w x p f i

among : (sc sc' : Scope) (ss : Stmts) (s : Stmt) → Among sc ss sc' s → (f : Mistake) → IsAmong f (stmt_faults sc' s) →
    IsAmong f (stmts_faults sc ss)
among sc sc' no_stmts r h f i = elim h [ ]
among sc sc' (stmt s rest) r here f i = among_left f _ (stmts_faults (after sc s) rest) i
among sc sc' (stmt s rest) r (later h) f i = among_right f (stmt_faults sc s) _ (among (after sc s) sc' rest r h f i)
among sc sc' (stmt (if_then start e body close other) rest) r (in_then h) f i =
    among_left f (stmt_faults sc (if_then start e body close other)) _ (among_left f (wanted_faults sc Condition e ++ stmts_faults sc body) _ (among_right f (wanted_faults sc Condition e) _ (among sc sc' body r h f i)))
among sc sc' (stmt (if_then start e body close (else_do block end)) rest) r (in_else h) f i =
    among_left f (stmt_faults sc (if_then start e body close (else_do block end))) _ (among_right f (wanted_faults sc Condition e ++ stmts_faults sc body) _ (among (left sc (after_all sc body)) sc' block r h f i))
among sc sc' (stmt (while start e body close) rest) r (in_while h) f i =
    among_left f (stmt_faults sc (while start e body close)) _ (among_right f (wanted_faults sc Condition e) _ (among sc sc' body r h f i))

same_decls : (sc sc' : Scope) (ss : Stmts) (s : Stmt) → Among sc ss sc' s → sc'.decls ≡ sc.decls
same_decls sc sc' no_stmts r h = elim h [ ]
same_decls sc sc' (stmt s rest) r here = refl
same_decls sc sc' (stmt s rest) r (later h) = same_decls (after sc s) sc' rest r h ∙ after_decls sc s
same_decls sc sc' (stmt (if_then start e body close other) rest) r (in_then h) = same_decls sc sc' body r h
same_decls sc sc' (stmt (if_then start e body close (else_do block end)) rest) r (in_else h) = same_decls (left sc (after_all sc body)) sc' block r h
same_decls sc sc' (stmt (while start e body close) rest) r (in_while h) = same_decls sc sc' body r h

-- ---- declarations

pub has_at : {A : Type 0} (xs : List A) (x : A) → Has xs x → (n : ℕ) × (slice_get xs n ≡ Some x)
has_at [] x h = elim h [ ]
has_at (y ∷ xs) x first = (0, refl)
has_at (y ∷ xs) x (further h) = let r = has_at xs x h in (suc r.0, r.1)

in_each : (decls : List Decl) (n : ℕ) (ds : List Decl) (j : ℕ) (d : Decl) → slice_get ds j ≡ Some d → (f : Mistake) →
    IsAmong f (decl_faults decls (n + j) d) → IsAmong f (each_faults decls n ds)
in_each decls n [] j d at f i = cc
in_each decls n (x ∷ ds) zero d at f i =
    let same : x ≡ d = cc in
    among_left f (decl_faults decls n x) (each_faults decls (n + 1) ds) (subst (λ (y : Decl). IsAmong f (decl_faults decls n y)) (sym same) (subst (λ (k : ℕ). IsAmong f (decl_faults decls k d)) (let z : n + 0 ≡ n = omega arith in z) i))
in_each decls n (x ∷ ds) (suc j) d at f i =
    among_right f (decl_faults decls n x) _ (in_each decls (n + 1) ds j d at f (subst (λ (k : ℕ). IsAmong f (decl_faults decls k d)) (let z : n + suc j ≡ n + 1 + j = omega arith in z) i))

pub of_place_at : (decls : List Decl) (n : ℕ) (d : Decl) → slice_get decls n ≡ Some d → (f : Mistake) →
    IsAmong f (decl_faults decls n d) → IsAmong f (declaration_faults decls)
of_place_at decls n d at f i =
    among_right f (twice_faults [] decls ++ struct_faults decls ++ total_faults decls [] decls ++ repeated_faults decls [] decls) _
    (in_each decls 0 decls n d at f (subst (λ (k : ℕ). IsAmong f (decl_faults decls k d)) (let z : n ≡ 0 + n = omega arith in z) i))

-- of a declaration whose faults are the same at each place
pub of_decl : (decls : List Decl) (d : Decl) → Has decls d → (f : Mistake) →
    ((n : ℕ) → slice_get decls n ≡ Some d → IsAmong f (decl_faults decls n d)) → IsAmong f (declaration_faults decls)
of_decl decls d h f i = let at = has_at decls d h in of_place_at decls at.0 d at.1 f (i at.0 at.1)

-- of a section or a helper
of_body : (decls : List Decl) (limits : BodyLimits) (x : Section) → HasBody decls limits x → (f : Mistake) →
    IsAmong f (section_faults decls limits x) → IsAmong f (declaration_faults decls)
of_body decls limits x (of_section h) f i = of_decl decls (atomic x) h f (λ n at. i)
of_body decls limits x (of_helper h) f i = of_decl decls (helper x) h f (λ n at. i)

-- the listed faults of a section or a helper but for those of its lock classes
abbrev but_classes : List Decl → BodyLimits → Section → List Finding
but_classes decls limits x = result_faults decls x.result ++ param_faults (ahead_of decls limits x) 0 x.params ++ stmts_faults (entry decls limits x) x.body.stmts

of_parts : (decls : List Decl) (limits : BodyLimits) (x : Section) → HasBody decls limits x → (f : Mistake) →
    IsAmong f (but_classes decls limits x) → IsAmong f (declaration_faults decls)
of_parts decls limits x h f i = of_body decls limits x h f (among_left f (but_classes decls limits x) (listed_faults decls [] x.listed) i)

in_listed : (decls : List Decl) (ahead before behind : List ClassName) (c : ClassName) (f : Mistake) →
    IsAmong f (class_faults decls c ++ again c.structure.span.start (place_of same_class (ahead ++ before) c)) →
    IsAmong f (listed_faults decls ahead (before ++ c ∷ behind))
in_listed decls ahead [] behind c f i =
    among_left f (class_faults decls c ++ again c.structure.span.start (place_of same_class ahead c)) (listed_faults decls (ahead ++ c ∷ []) behind)
    (subst (λ (cs : List ClassName). IsAmong f (class_faults decls c ++ again c.structure.span.start (place_of same_class cs c))) (append-nil ahead) i)
in_listed decls ahead (b ∷ before) behind c f i =
    among_right f (class_faults decls b ++ again b.structure.span.start (place_of same_class ahead b)) _
    (in_listed decls (ahead ++ b ∷ []) before behind c f (subst (λ (cs : List ClassName). IsAmong f (class_faults decls c ++ again c.structure.span.start (place_of same_class cs c))) (sym (append_assoc ahead (b ∷ []) before)) i))

-- of a lock class that a section lists after others
pub of_class : (decls : List Decl) (limits : BodyLimits) (x : Section) (before behind : List ClassName) (c : ClassName) →
    HasBody decls limits x → x.listed ≡ before ++ c ∷ behind → (f : Mistake) →
    IsAmong f (class_faults decls c ++ again c.structure.span.start (place_of same_class before c)) →
    IsAmong f (declaration_faults decls)
of_class decls limits x before behind c h parts f i =
    of_body decls limits x h f (among_right f (but_classes decls limits x) _ (subst (λ (cs : List ClassName). IsAmong f (listed_faults decls [] cs)) (sym parts) (in_listed decls [] before behind c f i)))

split_at : {A : Type 0} (xs : List A) (x : A) → Has xs x →
    (before : List A) × (behind : List A) × (xs ≡ before ++ x ∷ behind)
split_at [] x h = elim h [ ]
split_at (y ∷ xs) x first = ([], xs, refl)
split_at (y ∷ xs) x (further h) = let r = split_at xs x h in (y ∷ r.0, r.1, ap (λ (ys : List _). y ∷ ys) r.2)

-- of one by itself
of_own_class : (decls : List Decl) (limits : BodyLimits) (x : Section) (c : ClassName) → HasBody decls limits x →
    Has x.listed c → (f : Mistake) → IsAmong f (class_faults decls c) → IsAmong f (declaration_faults decls)
of_own_class decls limits x c h b f i =
    let r = split_at x.listed c b in
    of_class decls limits x r.0 r.1 c h r.2 f (among_left f (class_faults decls c) _ i)

-- of the lock's name of one
pub of_listed_lock : (decls : List Decl) (ms : List Member) (y : Ident) → ListsLock decls ms y → (f : Mistake) →
    IsAmong f (list.no_lock decls y.span.start (the_member ms y.text)) → IsAmong f (declaration_faults decls)
of_listed_lock decls ms y (lists_lock {limits = limits} {x = x} {c = c} h b is) f i =
    of_own_class decls limits x c h b f (among_right f (type_faults (outside decls) (ref_type c.structure)) _ (subst (IsAmong f) (sym (ap (λ (o : Option (ℕ × Decl)). no_lock_in decls o c.lock) is)) i))

pub of_stmt : (decls : List Decl) (sc : Scope) (s : Stmt) → HasStmt decls sc s → (f : Mistake) →
    IsAmong f (stmt_faults sc s) → IsAmong f (declaration_faults decls)
of_stmt decls sc s (in_body {limits = limits} {x = x} h a) f i =
    of_parts decls limits x h f (among_right f (result_faults decls x.result ++ param_faults (ahead_of decls limits x) 0 x.params) _ (among (entry decls limits x) sc x.body.stmts s a f i))

-- what is listed for a `let` with an owner: for its parts as those of any, and for what follows `where`
of_binding : (decls : List Decl) (sc : Scope) (l : tree.Local) (o : Owner) → HasStmt decls sc (let_owned l o) →
    (f : Mistake) → IsAmong f (binding_faults sc l) → IsAmong f (declaration_faults decls)
of_binding decls sc l o h f i = of_stmt decls sc (let_owned l o) h f (among_left f (binding_faults sc l) (owner_faults sc (type_of sc l.value_type) o) i)

pub of_owner : (decls : List Decl) (sc : Scope) (l : tree.Local) (o : Owner) → HasStmt decls sc (let_owned l o) →
    (f : Mistake) → IsAmong f (owner_faults sc (type_of sc l.value_type) o) → IsAmong f (declaration_faults decls)
of_owner decls sc l o h f i = of_stmt decls sc (let_owned l o) h f (among_right f (binding_faults sc l) (owner_faults sc (type_of sc l.value_type) o) i)

pub stmt_decls : (decls : List Decl) (sc : Scope) (s : Stmt) → HasStmt decls sc s → sc.decls ≡ decls
stmt_decls decls sc s (in_body {limits = limits} {x = x} h a) = same_decls (entry decls limits x) sc x.body.stmts s a ∙ entered_decls (ahead_of decls limits x) x.params

-- what is listed for a call of a helper, and for a `let` of one
pub of_helper_call : (decls : List Decl) (sc : Scope) (c : HelperCall) → HasHelperCall decls sc c → (f : Mistake) →
    IsAmong f (helper_call_faults sc c) → IsAmong f (declaration_faults decls)
of_helper_call decls sc c (by_let {l = l} h) f i =
    of_stmt decls sc (let_call l) h f
    (among_right f (local_faults sc l.name ++ type_faults sc l.value_type ++ given_back_faults sc.decls l.call.helper.span.start (type_of sc l.value_type) (helper_meant (meaning sc l.call.helper.text))) _ i)
of_helper_call decls sc c (by_itself {start = start} h) f i = of_stmt decls sc (call start c) h f i

pub helper_call_decls : (decls : List Decl) (sc : Scope) (c : HelperCall) → HasHelperCall decls sc c → sc.decls ≡ decls
helper_call_decls decls sc c (by_let {l = l} h) = stmt_decls decls sc (let_call l) h
helper_call_decls decls sc c (by_itself {start = start} h) = stmt_decls decls sc (call start c) h

-- what is listed for a `let` of a call, ahead of the call
of_called : (decls : List Decl) (sc : Scope) (l : CalledLocal) → HasStmt decls sc (let_call l) → (f : Mistake) →
    IsAmong f (local_faults sc l.name ++ type_faults sc l.value_type) → IsAmong f (declaration_faults decls)
of_called decls sc l h f i =
    let d = given_back_faults sc.decls l.call.helper.span.start (type_of sc l.value_type) (helper_meant (meaning sc l.call.helper.text)) in
    of_stmt decls sc (let_call l) h f (among_left f (local_faults sc l.name ++ type_faults sc l.value_type ++ d) (helper_call_faults sc l.call) (among_left f (local_faults sc l.name ++ type_faults sc l.value_type) d i))

pub of_given_back : (decls : List Decl) (sc : Scope) (l : CalledLocal) → HasStmt decls sc (let_call l) → (f : Mistake) →
    IsAmong f (given_back_faults sc.decls l.call.helper.span.start (type_of sc l.value_type) (helper_meant (meaning sc l.call.helper.text))) → IsAmong f (declaration_faults decls)
of_given_back decls sc l h f i =
    let d = given_back_faults sc.decls l.call.helper.span.start (type_of sc l.value_type) (helper_meant (meaning sc l.call.helper.text)) in
    of_stmt decls sc (let_call l) h f (among_left f (local_faults sc l.name ++ type_faults sc l.value_type ++ d) (helper_call_faults sc l.call) (among_right f (local_faults sc l.name ++ type_faults sc l.value_type) d i))

pub of_wanted : (decls : List Decl) (sc : Scope) (w : Want) (e : Expr) → HasExpr decls sc w e → (f : Mistake) →
    IsAmong f (wanted_faults sc w e) → IsAmong f (declaration_faults decls)
of_wanted decls sc w e (in_stmt {s = s} {w = v} {e = whole} h asks within) f i = of_stmt decls sc s h f (asked sc s v whole asks f (part sc v w whole e within f i))

pub expr_decls : (decls : List Decl) (sc : Scope) (w : Want) (e : Expr) → HasExpr decls sc w e → sc.decls ≡ decls
expr_decls decls sc w e (in_stmt {s = s} h asks within) = stmt_decls decls sc s h

pub of_expr : (decls : List Decl) (sc : Scope) (w : Want) (e : Expr) → HasExpr decls sc w e → (f : Mistake) →
    IsAmong f (expr_faults sc e) → IsAmong f (declaration_faults decls)
of_expr decls sc w e h f i = of_wanted decls sc w e h f (among_left f (expr_faults sc e) (misfit w (start_of e) (typed sc e)) i)

-- ---- locals

in_params : (sc : Scope) (before behind : List Param) (p : Param) (n : ℕ) (f : Mistake) →
    IsAmong f (param_faults (entered sc before) (n + length before) (p ∷ behind)) →
    IsAmong f (param_faults sc n (before ++ p ∷ behind))
in_params sc [] behind p n f i = subst (λ (k : ℕ). IsAmong f (param_faults sc k (p ∷ behind))) (let e : n + 0 ≡ n = omega arith in e) i
in_params sc (b ∷ before) behind p n f i =
    among_right f (local_faults sc b.name ++ one_if (nat_le sc.limits.parameters n) LimitExceeded b.name.span.start ++ type_faults (outside sc.decls) b.value_type) _
    (in_params (bound sc kind.Parameter b.name (type_of (outside sc.decls) b.value_type)) before behind p (n + 1) f
    (subst (λ (k : ℕ). IsAmong f (param_faults (entered (bound sc kind.Parameter b.name (type_of (outside sc.decls) b.value_type)) before) k (p ∷ behind))) (let e : n + suc (length before) ≡ n + 1 + length before = omega arith in e) i))

-- the listed faults of a parameter by itself
abbrev pub own : Scope → List Param → Param → List Finding
own sc before p = local_faults sc p.name ++ one_if (nat_le sc.limits.parameters (length before)) LimitExceeded p.name.span.start ++ type_faults (outside sc.decls) p.value_type

pub of_param : (decls : List Decl) (limits : BodyLimits) (x : Section) (before behind : List Param) (p : Param) →
    HasBody decls limits x → x.params ≡ before ++ p ∷ behind →
    (f : Mistake) → IsAmong f (own (entered (ahead_of decls limits x) before) before p) → IsAmong f (declaration_faults decls)
of_param decls limits x before behind p h parts f i =
    let ahead = ahead_of decls limits x in
    let sc = entered ahead before in
    of_parts decls limits x h f (among_left f (result_faults decls x.result ++ param_faults ahead 0 x.params) (stmts_faults (entry decls limits x) x.body.stmts)
    (among_right f (result_faults decls x.result) _ (subst (λ (ps : List Param). IsAmong f (param_faults ahead 0 ps)) (sym parts)
    (in_params ahead before behind p 0 f (subst (λ (k : ℕ). IsAmong f (param_faults sc k (p ∷ behind))) (let e : length before ≡ 0 + length before = omega arith in e)
    (among_left f (own sc before p) (param_faults (bound sc kind.Parameter p.name (type_of (outside sc.decls) p.value_type)) (length before + 1) behind) i))))))

pub of_local : (decls : List Decl) (sc : Scope) (x : Ident) → Binds decls sc x → (f : Mistake) →
    IsAmong f (local_faults sc x) → IsAmong f (declaration_faults decls)
of_local decls sc x (parameter {limits = limits} {x = s} p before behind h parts) f i =
    let at = entered (ahead_of decls limits s) before in
    of_param decls limits s before behind p h parts f (among_left f (local_faults at p.name ++ one_if (nat_le at.limits.parameters (length before)) LimitExceeded p.name.span.start) _ (among_left f (local_faults at p.name) _ i))
of_local decls sc x (a_let {l = l} h) f i = of_stmt decls sc (let_local l) h f (among_left f (local_faults sc l.name ++ type_faults sc l.value_type) (wanted_faults sc (want (type_of sc l.value_type)) l.value) (among_left f (local_faults sc l.name) (type_faults sc l.value_type) i))
of_local decls sc x (an_owned_let {l = l} {o = o} h) f i = of_binding decls sc l o h f (among_left f (local_faults sc l.name ++ type_faults sc l.value_type) (wanted_faults sc (want (type_of sc l.value_type)) l.value) (among_left f (local_faults sc l.name) (type_faults sc l.value_type) i))
of_local decls sc x (a_called_let {l = l} h) f i = of_called decls sc l h f (among_left f (local_faults sc l.name) (type_faults sc l.value_type) i)
of_local decls sc x (a_var {l = l} h) f i = of_stmt decls sc (var_local l) h f (among_left f (local_faults sc l.name ++ type_faults sc l.value_type) (wanted_faults sc (want (type_of sc l.value_type)) l.value) (among_left f (local_faults sc l.name) (type_faults sc l.value_type) i))

pub local_decls : (decls : List Decl) (sc : Scope) (x : Ident) → Binds decls sc x → sc.decls ≡ decls
local_decls decls sc x (parameter {limits = limits} {x = s} p before behind h parts) = entered_decls (ahead_of decls limits s) before
local_decls decls sc x (a_let {l = l} h) = stmt_decls decls sc (let_local l) h
local_decls decls sc x (an_owned_let {l = l} {o = o} h) = stmt_decls decls sc (let_owned l o) h
local_decls decls sc x (a_called_let {l = l} h) = stmt_decls decls sc (let_call l) h
local_decls decls sc x (a_var {l = l} h) = stmt_decls decls sc (var_local l) h

-- ---- types

pub in_members_final : (decls : List Decl) (n : ℕ) (all ms : List Member) (g : Final) → Has ms (final_member g) →
    (f : Mistake) → IsAmong f (type_faults (outside decls) (ref_type g.target)) →
    IsAmong f (members_faults decls n all ms)
in_members_final decls n all [] g h f i = elim h [ ]
in_members_final decls n all (final_member x ∷ ms) g first f i = among_left f _ (members_faults decls n all ms) i
in_members_final decls n all (lock_member x ∷ ms) g (further h) f i = in_members_final decls n all ms g h f i
in_members_final decls n all (final_member x ∷ ms) g (further h) f i = among_right f (type_faults (outside decls) (ref_type x.target)) _ (in_members_final decls n all ms g h f i)
in_members_final decls n all (field_member x ∷ ms) g (further h) f i = among_right f (type_faults (outside decls) x.value_type ++ protection_faults decls n all x.name.span.start x.protection) _ (in_members_final decls n all ms g h f i)

pub in_members_field : (decls : List Decl) (n : ℕ) (all ms : List Member) (g : Field) → Has ms (field_member g) →
    (f : Mistake) →
    IsAmong f (type_faults (outside decls) g.value_type ++ protection_faults decls n all g.name.span.start g.protection) → IsAmong f (members_faults decls n all ms)
in_members_field decls n all [] g h f i = elim h [ ]
in_members_field decls n all (field_member x ∷ ms) g first f i = among_left f _ (members_faults decls n all ms) i
in_members_field decls n all (lock_member x ∷ ms) g (further h) f i = in_members_field decls n all ms g h f i
in_members_field decls n all (final_member x ∷ ms) g (further h) f i = among_right f (type_faults (outside decls) (ref_type x.target)) _ (in_members_field decls n all ms g h f i)
in_members_field decls n all (field_member x ∷ ms) g (further h) f i = among_right f (type_faults (outside decls) x.value_type ++ protection_faults decls n all x.name.span.start x.protection) _ (in_members_field decls n all ms g h f i)

pub of_type : (decls : List Decl) (sc : Scope) (t : ValueType) → HasType decls sc t → (f : Mistake) →
    IsAmong f (type_faults sc t) → IsAmong f (declaration_faults decls)
of_type decls sc t (of_global {v = v} h) f i =
    of_decl decls (global v) h f (λ n at. among_left f (type_faults (outside decls) v.value_type ++ lock_faults decls v.name.span.start v.protection) (opening_faults decls (want (type_of (outside decls) v.value_type)) v.value) (among_left f (type_faults (outside decls) v.value_type) _ i))
of_type decls sc t (of_array {a = a} h) f i = of_decl decls (array a) h f (λ n at. among_left f (type_faults (outside decls) a.value_type) (lock_faults decls a.name.span.start a.protection) i)
of_type decls sc t (of_pool {p = p} h) f i = of_decl decls (pool p) h f (λ n at. among_left f (type_faults (outside decls) (ref_type p.target)) (missing_faults decls n p (members_of decls p.target)) i)
of_type decls sc t (of_final {s = s} {f = g} h b) f i = of_decl decls (struct s) h f (λ n at. in_members_final decls n s.members s.members g b f i)
of_type decls sc t (of_field {s = s} {f = g} h b) f i = of_decl decls (struct s) h f (λ n at. in_members_field decls n s.members s.members g b f (among_left f (type_faults (outside decls) g.value_type) _ i))
of_type decls sc t (of_parameter {limits = limits} {x = x} {p = p} h b) f i =
    let r = split_at x.params p b in
    let at = entered (ahead_of decls limits x) r.0 in
    of_param decls limits x r.0 r.1 p h r.2 f (among_right f (local_faults at p.name ++ one_if (nat_le at.limits.parameters (length r.0)) LimitExceeded p.name.span.start) _
    (subst (λ (ds : List Decl). IsAmong f (type_faults (outside ds) p.value_type)) (sym (entered_decls (ahead_of decls limits x) r.0)) i))
of_type decls sc t (of_listed {limits = limits} {x = x} {c = c} h b) f i = of_own_class decls limits x c h b f (among_left f (type_faults (outside decls) (ref_type c.structure)) _ i)
of_type decls sc t (of_result {limits = limits} {x = x} h is) f i =
    of_parts decls limits x h f (among_left f (result_faults decls x.result ++ param_faults (ahead_of decls limits x) 0 x.params) (stmts_faults (entry decls limits x) x.body.stmts)
    (among_left f (result_faults decls x.result) (param_faults (ahead_of decls limits x) 0 x.params) (subst (λ (o : Option ValueType). IsAmong f (result_faults decls o)) (sym is) i)))
of_type decls sc t (of_a_let {l = l} h) f i = of_stmt decls sc (let_local l) h f (among_left f (local_faults sc l.name ++ type_faults sc l.value_type) (wanted_faults sc (want (type_of sc l.value_type)) l.value) (among_right f (local_faults sc l.name) _ i))
of_type decls sc t (of_an_owned_let {l = l} {o = o} h) f i = of_binding decls sc l o h f (among_left f (local_faults sc l.name ++ type_faults sc l.value_type) (wanted_faults sc (want (type_of sc l.value_type)) l.value) (among_right f (local_faults sc l.name) _ i))
of_type decls sc t (of_a_called_let {l = l} h) f i = of_called decls sc l h f (among_right f (local_faults sc l.name) (type_faults sc l.value_type) i)
of_type decls sc t (of_a_var {l = l} h) f i = of_stmt decls sc (var_local l) h f (among_left f (local_faults sc l.name ++ type_faults sc l.value_type) (wanted_faults sc (want (type_of sc l.value_type)) l.value) (among_right f (local_faults sc l.name) _ i))

-- ---- calls and constants

in_items : (decls : List Decl) (is : Items) (c : Call) → InItems is c → (f : Mistake) →
    IsAmong f (call_faults decls c.section.span.start (the_decl decls c.section.text) c.arguments) →
    IsAmong f (items_faults decls is)
in_items decls no_items c h f i = elim h [ ]
in_items decls (item (call b) rest) c this_call f i = among_left f (item_faults decls (call b)) (items_faults decls rest) i
in_items decls (item (repeat n is) rest) c (in_repeat h) f i = among_left f (item_faults decls (repeat n is)) (items_faults decls rest) (in_items decls is c h f i)
in_items decls (item x rest) c (later_call h) f i = among_right f (item_faults decls x) _ (in_items decls rest c h f i)

pub of_call : (decls : List Decl) (c : Call) → HasCall decls c → (f : Mistake) →
    IsAmong f (call_faults decls c.section.span.start (the_decl decls c.section.text) c.arguments) →
    IsAmong f (declaration_faults decls)
of_call decls c (in_thread {t = t} h a) f i = of_decl decls (thread t) h f (λ n at. in_items decls t.items c a f i)

in_arguments : (decls : List Decl) (ps : List Param) (cs : List Const) (k : ℕ) (p : Param) (c : Const) →
    slice_get ps k ≡ Some p → slice_get cs k ≡ Some c → (f : Mistake) →
    IsAmong f (const_faults decls (want_of decls p) c) → IsAmong f (argument_faults decls ps cs)
in_arguments decls [] cs k p c a b f i = cc
in_arguments decls (q ∷ ps) [] k p c a b f i = cc
in_arguments decls (q ∷ ps) (d ∷ cs) zero p c a b f i =
    let x : q ≡ p = cc in
    let y : d ≡ c = cc in
    among_left f (const_faults decls (want_of decls q) d) (argument_faults decls ps cs) (subst (λ (z : Param). IsAmong f (const_faults decls (want_of decls z) d)) (sym x) (subst (λ (z : Const). IsAmong f (const_faults decls (want_of decls p) z)) (sym y) i))
in_arguments decls (q ∷ ps) (d ∷ cs) (suc k) p c a b f i = among_right f (const_faults decls (want_of decls q) d) _ (in_arguments decls ps cs k p c a b f i)

pub of_const : (decls : List Decl) (w : Want) (c : Const) → HasConst decls w c → (f : Mistake) →
    IsAmong f (const_faults decls w c) → IsAmong f (declaration_faults decls)
of_const decls w c (opening {v = v} h e) f i =
    of_decl decls (global v) h f (λ n at. among_right f (type_faults (outside decls) v.value_type ++ lock_faults decls v.name.span.start v.protection) _ (subst (λ (o : Option Const). IsAmong f (opening_faults decls (want (type_of (outside decls) v.value_type)) o)) (sym e) i))
of_const decls w c (initial {i = x} h) f i =
    of_decl decls (init x) h f (λ n at. among_left f (index_faults decls x.pool.span.start (the_decl decls x.pool.text) x.index ++ named_faults decls x.field.span.start (pool_members decls (the_decl decls x.pool.text)) x.field.text ++ const_faults decls (member_want decls (initialised decls x)) x.value) (null_faults decls (initialised decls x) x.value)
    (among_right f (index_faults decls x.pool.span.start (the_decl decls x.pool.text) x.index ++ named_faults decls x.field.span.start (pool_members decls (the_decl decls x.pool.text)) x.field.text) _ i))
of_const decls w x (argument {c = c} {i = n} k {s = s} {p = p} h is len a b) f i =
    of_call decls c h f (subst (IsAmong f)
    (sym (ap (λ (o : Option (ℕ × Decl)). call_faults decls c.section.span.start o c.arguments) is ∙ ap (λ (t : Bool). if t then argument_faults decls s.params c.arguments
    else reasoned WrongArgumentCount c.section.span.start (why.Counted (length s.params) (length c.arguments))) (same_count (length c.arguments) (length s.params) len)))
    (in_arguments decls s.params c.arguments k p x a b f i))
