-- A program without faults is within the limits of the language.
use Rattle.std.proofs.Common.{◌≡◌, ℕ, zero, suc, ◌+◌, ◌*◌, ◌<◌, ◌≤◌, List, [], ◌∷◌, ◌++◌, length, Some, true, false}
use Rattle.std.proofs.Common.{refl, sym, ap, ◌∙◌, subst, append_assoc, arith}
use Rattle.std.specs.Prelude.{nat_le, slice_get, take, map}
use Rattle.std.proofs.lemmas.List.{length-append, length-map, append-nil}
use Rattle.source.specs.declared.fault.Code.TheVariants.{LimitExceeded}
use Rattle.syntax.specs.Trees.{Stmt, let_local, let_owned, let_call, var_local, assign, if_then, while, print}
use Rattle.syntax.specs.Trees.{return_value, Stmts, no_stmts, stmt, Otherwise, no_else, else_do, Param, Section, call}
use Rattle.syntax.specs.Trees.{Items, Member, lock_member, final_member, field_member, Thread, Decl, struct, atomic}
use Rattle.syntax.specs.Trees.{helper, thread}
use Rattle.core_lang.specs.declared.tree.LocalKind.TheVariants as kind
use Rattle.core_lang.specs.declared.tree.Section as the_section
use Rattle.core_lang.specs.declared.typed.Struct as the_struct
use Rattle.core_lang.specs.declared.typed.Thread as the_thread
use Rattle.core_lang.specs.declared.typed.Typed.{Typed}
use Rattle.core_lang.specs.WellFormed.{calls_together, IsWithinLimits}
use Rattle.core_lang.specs.Theory.Items.{map_at}
use Rattle.resolution.specs.declared.body_limits.BodyLimits.{BodyLimits}
use Rattle.resolution.specs.Core as core
use Rattle.resolution.specs.CoreViews.{core_class, core_lock, core_final, core_field, core_struct, core_local}
use Rattle.resolution.specs.CoreViews.{core_section, core_call, core_thread, core_of}
use Rattle.resolution.specs.Limits.{STRUCT_LIMIT, MEMBER_LIMIT, CELL_LIMIT, SECTION_LIMIT, THREAD_LIMIT}
use Rattle.resolution.specs.Limits.{PARAMETER_LIMIT, LOCAL_LIMIT, CALL_LIMIT, section_limits}
use Rattle.resolution.specs.Scopes as scopes
use Rattle.resolution.specs.Scopes.{Scope, outside, meaning, helper_meant, type_of, count, alike, has_body, bound, left}
use Rattle.resolution.specs.Numbers.{total, cells_of, calls_in_all, calls_of}
use Rattle.resolution.specs.Expressions.{want}
use Rattle.resolution.specs.Statements.{after, after_else, after_all, ahead_of, entry}
use Rattle.resolution.specs.Working.FaultLists.{one_if, local_faults, type_faults, wanted_faults, binding_faults}
use Rattle.resolution.specs.Working.FaultLists.{owner_faults, helper_call_faults, given_back_faults, stmt_faults}
use Rattle.resolution.specs.Working.FaultLists.{else_faults, stmts_faults, param_faults, result_faults, listed_faults}
use Rattle.resolution.specs.Working.FaultLists.{section_faults, count_faults}
use Rattle.resolution.specs.Working.FaultLists.{total_faults}
use Rattle.resolution.specs.declared.wanted.Want.TheVariants as wanted
use Rattle.resolution.specs.Tables.{AreTables, AreCalls, no_call, one_call, repeated, copies}
use Rattle.resolution.specs.Resolved.{Resolves}
use Rattle.resolution.proofs.Parts.{of_place_at}
use Rattle.resolution.proofs.AllFaults.{of_counts, of_totals}
use Rattle.resolution.proofs.TrueStatements.{length_push, entered_limits}
use Rattle.resolution.proofs.FaultlessExpressions.{NoneIn, none_left, none_right, not_if, struct_has, Clean}
use Rattle.resolution.proofs.FaultlessOwners.{room}
use Rattle.resolution.proofs.FaultlessMembers.{parts_at}
use Rattle.resolution.proofs.FaultlessPrograms.{total_push, cells_fit, calls_few, struct_few}
use Rattle.resolution.proofs.ScopedStatements.{hidden_length}
use Rattle.resolution.proofs.WellSections.{entered_length, locals_length}
use Rattle.resolution.proofs.LaidLists.{rows_length, take_front, as_one, count_push}
use Rattle.resolution.proofs.LaidStages.{fields_in, finals_in, locks_in, plus}
use Rattle.resolution.proofs.LaidWalk.{LockRow, FinalRow, FieldRow, Counts, Step, added, Kept, walked_whole}
use Rattle.resolution.proofs.LaidWalk.{counted_whole}
use Rattle.resolution.proofs.LaidFacts.{struct_by_number, sections_of}
use Rattle.resolution.proofs.LaidLocks.{few_classes}
use Rattle.resolution.proofs.LaidObjects.{few_objects}
use Rattle.resolution.proofs.LaidScripts.{sectioned}
use Rattle.resolution.proofs.Tests.{le_false}
use Rattle.resolution.specs.Theory.Facts.{bodies_counted}
use Rattle.resolution.specs.Theory.Blocks.{after_limits}

-- ---- cells

cells_few : (decls before ds : List Decl) → NoneIn (total_faults decls before ds) →
    total (cells_of decls) before ≤ CELL_LIMIT → total (cells_of decls) (before ++ ds) ≤ CELL_LIMIT
cells_few decls before [] none le = subst (λ (xs : List Decl). total (cells_of decls) xs ≤ CELL_LIMIT) (sym (append-nil before)) le
cells_few decls before (d ∷ ds) none le =
    let fit = cells_fit decls before d (none_left (count_faults decls before d) (total_faults decls (before ++ d ∷ []) ds) none) le in
    let more : total (cells_of decls) (before ++ d ∷ []) ≤ CELL_LIMIT = (let t = total_push (cells_of decls) before d in omega (arith, t, fit)) in
    subst (λ (xs : List Decl). total (cells_of decls) xs ≤ CELL_LIMIT) (append_assoc before (d ∷ []) ds) (cells_few decls (before ++ d ∷ []) ds (none_right (count_faults decls before d) (total_faults decls (before ++ d ∷ []) ds) none) more)

-- ---- calls

copies_length : {A : Type 0} (n : ℕ) (xs : List A) → length (copies n xs) ≡ n * length xs
copies_length zero xs = omega arith
copies_length (suc n) xs =
    let a : length (xs ++ copies n xs) ≡ length xs + length (copies n xs) = length-append xs (copies n xs) in
    let r = copies_length n xs in
    let z : length (xs ++ copies n xs) ≡ suc n * length xs = omega (arith, a, r) in
    z

items_counted : (decls : List Decl) (is : Items) (cs : List core.Call) → AreCalls decls is cs →
    length cs ≡ calls_in_all is
items_counted decls is cs no_call = refl
items_counted decls is cs (one_call {is = rest} {cs = ds} at e more) =
    let r = items_counted decls rest ds more in
    omega (arith, r)
items_counted decls is cs (repeated {n = n} {js = js} {is = rest} {bs = bs} {cs = ds} first more) =
    let a : length (copies n.value bs) ≡ n.value * calls_in_all js =
    copies_length n.value bs ∙ ap (λ (k : ℕ). n.value * k) (items_counted decls js bs first) in
    let b = items_counted decls rest ds more in
    let l : length (copies n.value bs ++ ds) ≡ length (copies n.value bs) + length ds =
    length-append (copies n.value bs) ds in
    l ∙ ap (λ (k : ℕ). k + length ds) a ∙ ap (λ (k : ℕ). n.value * calls_in_all js + k) b

-- how many calls threads of a resolved program make together
abbrev calls_in_threads : List core.Thread → ℕ
calls_in_threads [] = 0
calls_in_threads (t ∷ ts) = length t.calls + calls_in_threads ts

calls_push : (ts : List core.Thread) (t : core.Thread) →
    calls_in_threads (ts ++ t ∷ []) ≡ calls_in_threads ts + length t.calls
calls_push [] t = omega arith
calls_push (x ∷ ts) t = let r = calls_push ts t in omega (arith, r)

calls_viewed : (ts : List the_thread.Thread) → calls_in_threads (map core_thread ts) ≡ calls_together ts
calls_viewed [] = refl
calls_viewed (t ∷ ts) =
    let l = length-map t.calls.items core_call in
    let r = calls_viewed ts in
    omega (arith, l, r)

-- ---- declarations of which each counts as one

-- nothing is listed for the count at a step
none_at_step : (decls : List Decl) → Clean decls →
    (whole : core.Program) (before : List Decl) (d : Decl) (p : core.Program) → Step decls whole before d p →
    NoneIn (count_faults decls before d)
none_at_step decls clean whole before d p st =
    let r = parts_at decls (length before) d st.at in
    let same : r.before ≡ before = sym (take_front r.before (d ∷ r.behind)) ∙ ap (take (length r.before)) (sym r.parts) ∙ ap (λ (n : ℕ). take n decls) r.place ∙ st.ahead in
    λ f i. clean f (of_counts decls before r.behind d (r.parts ∙ ap (λ (bs : List Decl). bs ++ d ∷ r.behind) same) f i)

-- how many structs, sections with helpers, threads and calls a program has after these declarations
record Few (before : List Decl) (p : core.Program) : Type 0 where
  structs : length p.structs ≤ STRUCT_LIMIT
  sections : length p.sections + length p.helpers ≤ SECTION_LIMIT
  threads : length p.threads ≤ THREAD_LIMIT
  threads_are : (t : Thread) → length p.threads ≡ count (alike (thread t)) before
  calls_are : calls_in_threads p.threads ≡ total calls_of before

-- a list to which nothing is added gets no longer
same_few : {A : Type 0} (limit : ℕ) (xs : List A) → length xs ≤ limit → length (xs ++ []) ≤ limit
same_few {A = A} limit xs le = subst (λ (zs : List A). length zs ≤ limit) (sym (append-nil xs)) le

-- one more, if the limit allows it
one_more : {A : Type 0} (limit n : ℕ) (xs : List A) (x : A) → length xs ≡ n → nat_le limit n ≡ false →
    length (xs ++ x ∷ []) ≤ limit
one_more limit n xs x is full =
    let less = le_false limit n full in
    let l = length_push xs x in
    omega (arith, less, l, is)

-- no more sections and helpers, or one more, if the limit allows it
same_bodies : (p : core.Program) → length p.sections + length p.helpers ≤ SECTION_LIMIT →
    length (p.sections ++ []) + length (p.helpers ++ []) ≤ SECTION_LIMIT
same_bodies p le =
    let x = ap length (append-nil p.sections) in
    let y = ap length (append-nil p.helpers) in
    omega (arith, x, y, le)

few_bodies : (decls before : List Decl) (p q : core.Program) (s : Section) → Counts decls before p →
    nat_le SECTION_LIMIT (count has_body before) ≡ false →
    length q.sections + length q.helpers ≡ length p.sections + length p.helpers + 1 →
    length q.sections + length q.helpers ≤ SECTION_LIMIT
few_bodies decls before p q s n full more =
    let less = le_false SECTION_LIMIT (count has_body before) full in
    let both = bodies_counted before s s in
    let x = n.sections s in
    let y = n.helpers s in
    omega (arith, less, both, x, y, more)

-- after a declaration other than a thread
few_more : (before : List Decl) (d : Decl) (p a : core.Program) → Few before p →
    length (p.structs ++ a.structs) ≤ STRUCT_LIMIT →
    length (p.sections ++ a.sections) + length (p.helpers ++ a.helpers) ≤ SECTION_LIMIT → a.threads ≡ [] →
    ((t : Thread) → as_one (alike (thread t) d) ≡ 0) → calls_of d ≡ 0 → Few (before ++ d ∷ []) (plus p a)
few_more before d p a h structs sections none no_thread no_calls =
    let same : p.threads ++ a.threads ≡ p.threads =
    ap (λ (ts : List core.Thread). p.threads ++ ts) none ∙ append-nil p.threads in
    record {
      structs = structs;
      sections = sections;
      threads = subst (λ (ts : List core.Thread). length ts ≤ THREAD_LIMIT) (sym same) h.threads;
      threads_are = λ t.
          (let s = ap length same in
          let b = h.threads_are t in
          let c = count_push (alike (thread t)) before d in
          let n = no_thread t in
          omega (arith, s, b, c, n));
      calls_are =
          (let s = ap calls_in_threads same in
          let b = h.calls_are in
          let c = total_push calls_of before d in
          omega (arith, s, b, c, no_calls));
    }

few_next : (decls : List Decl) → Clean decls → (whole : core.Program) → Kept decls whole Few
few_next decls clean whole before (struct s) p st h =
    let n = count (alike (struct s)) before in
    let none = none_left (one_if (nat_le STRUCT_LIMIT n) LimitExceeded s.name.span.start) _
    (none_at_step decls clean whole before (struct s) p st) in
    few_more before (struct s) p (added st) h
    (one_more STRUCT_LIMIT n p.structs st.news.0 (st.counts.structs s)
    (not_if (nat_le STRUCT_LIMIT n) LimitExceeded s.name.span.start none))
    (same_bodies p h.sections) refl (λ t. refl) refl
few_next decls clean whole before (atomic s) p st h =
    few_more before (atomic s) p (added st) h (same_few STRUCT_LIMIT p.structs h.structs)
    (few_bodies decls before p (plus p (added st)) s st.counts
    (not_if (nat_le SECTION_LIMIT (count has_body before)) LimitExceeded s.name.span.start
    (none_at_step decls clean whole before (atomic s) p st))
    (let l = length_push p.sections st.news.0 in let k = ap length (append-nil p.helpers) in omega (arith, l, k)))
    refl (λ t. refl) refl
few_next decls clean whole before (helper s) p st h =
    few_more before (helper s) p (added st) h (same_few STRUCT_LIMIT p.structs h.structs)
    (few_bodies decls before p (plus p (added st)) s st.counts
    (not_if (nat_le SECTION_LIMIT (count has_body before)) LimitExceeded s.name.span.start
    (none_at_step decls clean whole before (helper s) p st))
    (let l = length_push p.helpers st.news.0 in let k = ap length (append-nil p.sections) in omega (arith, l, k)))
    refl (λ t. refl) refl
few_next decls clean whole before (thread t) p st h =
    let a = st.news in
    let n = count (alike (thread t)) before in
    let x : core.Thread = record { name = t.name.text; calls = a.0 } in
    let none = none_left (one_if (nat_le THREAD_LIMIT n) LimitExceeded t.name.span.start) _
    (none_at_step decls clean whole before (thread t) p st) in
    record {
      structs = same_few STRUCT_LIMIT p.structs h.structs;
      sections = same_bodies p h.sections;
      threads = one_more THREAD_LIMIT n p.threads x (h.threads_are t)
          (not_if (nat_le THREAD_LIMIT n) LimitExceeded t.name.span.start none);
      threads_are = λ y.
          (let l = length_push p.threads x in
          let b = h.threads_are y in
          let c = count_push (alike (thread y)) before (thread t) in
          omega (arith, l, b, c));
      calls_are =
          (let l = calls_push p.threads x in
          let b = h.calls_are in
          let c = total_push calls_of before (thread t) in
          let i : length a.0 ≡ calls_of (thread t) = items_counted decls t.items a.0 a.1 in
          omega (arith, l, b, c, i));
    }
few_next decls clean whole before d p st h =
    few_more before d p (added st) h (same_few STRUCT_LIMIT p.structs h.structs) (same_bodies p h.sections) refl
    (λ t. refl) refl

few_whole : (decls : List Decl) → Clean decls → (whole : core.Program) → AreTables decls whole → Few decls whole
few_whole decls clean whole is = walked_whole decls clean whole is Few (record { structs = omega arith; sections = omega arith; threads = omega arith; threads_are = λ t. refl; calls_are = refl }) (few_next decls clean whole)

-- ---- members

-- each member is a lock field, a final reference or a field
kinds_together : (ms : List Member) → length (locks_in ms) + length (finals_in ms) + length (fields_in ms) ≡ length ms
kinds_together [] = refl
kinds_together (lock_member x ∷ ms) = let r = kinds_together ms in omega (arith, r)
kinds_together (final_member f ∷ ms) = let r = kinds_together ms in omega (arith, r)
kinds_together (field_member f ∷ ms) = let r = kinds_together ms in omega (arith, r)

members_within : (decls : List Decl) → Clean decls → (whole : core.Program) → AreTables decls whole →
    (s : ℕ) (y : core.Struct) → slice_get whole.structs s ≡ Some y →
    length y.locks + length y.finals + length y.fields ≤ MEMBER_LIMIT
members_within decls clean whole is s y at =
    let r = struct_by_number decls clean whole is s y at in
    let ms = r.0.members in
    let a : length y.locks ≡ length (locks_in ms) = rows_length LockRow _ (locks_in ms) y.locks r.2.locks in
    let b : length y.finals ≡ length (finals_in ms) = rows_length (FinalRow decls) 0 (finals_in ms) y.finals r.2.finals in
    let c : length y.fields ≡ length (fields_in ms) = rows_length (FieldRow decls r.2.place ms) 0 (fields_in ms) y.fields r.2.fields in
    let few = struct_few decls clean r.0 (struct_has decls s r.0 r.1) in
    let all = kinds_together ms in
    omega (arith, a, b, c, few, all)

-- ---- parameters and locals

parameters_few : (sc : Scope) (n : ℕ) (ps : List Param) → NoneIn (param_faults sc n ps) → n ≤ sc.limits.parameters →
    n + length ps ≤ sc.limits.parameters
parameters_few sc n [] none le = omega (arith, le)
parameters_few sc n (p ∷ ps) none le =
    let t = type_of (outside sc.decls) p.value_type in
    let a = local_faults sc p.name in
    let b = one_if (nat_le sc.limits.parameters n) LimitExceeded p.name.span.start in
    let c = type_faults (outside sc.decls) p.value_type in
    let rest = param_faults (bound sc kind.Parameter p.name t) (n + 1) ps in
    let less : n < sc.limits.parameters = le_false sc.limits.parameters n (not_if (nat_le sc.limits.parameters n) LimitExceeded p.name.span.start (none_right a b (none_left (a ++ b) c (none_left (a ++ b ++ c) rest none)))) in
    let r = parameters_few (bound sc kind.Parameter p.name t) (n + 1) ps (none_right (a ++ b ++ c) rest none) (let z : n + 1 ≤ sc.limits.parameters = omega (arith, less) in z) in
    omega (arith, r)

-- the limits stay
else_limits : (sc : Scope) (o : Otherwise) → (after_else sc o).limits ≡ sc.limits
else_limits sc no_else = refl
else_limits sc (else_do body close) = refl

-- after a block there are as many locals as at its end
left_few : (sc end : Scope) (limit : ℕ) → length end.locals ≤ limit → length (left sc end).locals ≤ limit
left_few sc end limit le = let l = hidden_length (length sc.locals) end.locals in omega (arith, l, le)

mutual
  after_few : (sc : Scope) (s : Stmt) → NoneIn (stmt_faults sc s) → length sc.locals ≤ sc.limits.locals →
      length (after sc s).locals ≤ sc.limits.locals
  after_few sc (let_local l) none le =
      let a = local_faults sc l.name in
      let b = type_faults sc l.value_type in
      let less = room sc l.name (none_left a b (none_left (a ++ b) (wanted_faults sc (want (type_of sc l.value_type)) l.value) none)) in
      let x : scopes.Local = record { name = l.name.text; kind = kind.Let; value_type = type_of sc l.value_type; is_visible = true } in
      let n = length_push sc.locals x in
      omega (arith, less, n)
  after_few sc (let_owned l o) none le =
      let a = local_faults sc l.name in
      let b = type_faults sc l.value_type in
      let plain = none_left (binding_faults sc l) (owner_faults sc (type_of sc l.value_type) o) none in
      let less = room sc l.name (none_left a b (none_left (a ++ b) (wanted_faults sc (want (type_of sc l.value_type)) l.value) plain)) in
      let x : scopes.Local = record { name = l.name.text; kind = kind.Let; value_type = type_of sc l.value_type; is_visible = true } in
      let n = length_push sc.locals x in
      omega (arith, less, n)
  after_few sc (let_call l) none le =
      let a = local_faults sc l.name in
      let b = type_faults sc l.value_type in
      let d = given_back_faults sc.decls l.call.helper.span.start (type_of sc l.value_type) (helper_meant (meaning sc l.call.helper.text)) in
      let less = room sc l.name (none_left a b (none_left (a ++ b) d (none_left (a ++ b ++ d) (helper_call_faults sc l.call) none))) in
      let x : scopes.Local = record { name = l.name.text; kind = kind.Let; value_type = type_of sc l.value_type; is_visible = true } in
      let n = length_push sc.locals x in
      omega (arith, less, n)
  after_few sc (var_local l) none le =
      let a = local_faults sc l.name in
      let b = type_faults sc l.value_type in
      let less = room sc l.name (none_left a b (none_left (a ++ b) (wanted_faults sc (want (type_of sc l.value_type)) l.value) none)) in
      let x : scopes.Local = record { name = l.name.text; kind = kind.Var; value_type = type_of sc l.value_type; is_visible = true } in
      let n = length_push sc.locals x in
      omega (arith, less, n)
  after_few sc (assign q e) none le = le
  after_few sc (if_then start e body close other) none le =
      let a = wanted_faults sc wanted.Condition e in
      let b = stmts_faults sc body in
      let c = else_faults (left sc (after_all sc body)) other in
      else_few (left sc (after_all sc body)) other (none_right (a ++ b) c none) (left_few sc (after_all sc body) sc.limits.locals (all_few sc body (none_right a b (none_left (a ++ b) c none)) le))
  after_few sc (while start e body close) none le = left_few sc (after_all sc body) sc.limits.locals (all_few sc body (none_right (wanted_faults sc wanted.Condition e) (stmts_faults sc body) none) le)
  after_few sc (print start e) none le = le
  after_few sc (return_value start e) none le = le
  after_few sc (call start c) none le = le

  else_few : (sc : Scope) (o : Otherwise) → NoneIn (else_faults sc o) → length sc.locals ≤ sc.limits.locals →
      length (after_else sc o).locals ≤ sc.limits.locals
  else_few sc no_else none le = le
  else_few sc (else_do body close) none le = left_few sc (after_all sc body) sc.limits.locals (all_few sc body none le)

  all_few : (sc : Scope) (ss : Stmts) → NoneIn (stmts_faults sc ss) → length sc.locals ≤ sc.limits.locals →
      length (after_all sc ss).locals ≤ sc.limits.locals
  all_few sc no_stmts none le = le
  all_few sc (stmt s rest) none le =
      let a = stmt_faults sc s in
      let b = stmts_faults (after sc s) rest in
      let same = after_limits sc s in
      let few = after_few sc s (none_left a b none) le in
      subst (λ (l : BodyLimits). length (after_all (after sc s) rest).locals ≤ l.locals) same
      (all_few (after sc s) rest (none_right a b none) (subst (λ (l : BodyLimits). length (after sc s).locals ≤ l.locals) (sym same) few))

-- the parameters and the locals of a section
record FewIn (x : core.Section) : Type 0 where
  parameters : x.parameters ≤ PARAMETER_LIMIT
  locals : length x.locals ≤ LOCAL_LIMIT

section_within : (decls : List Decl) → Clean decls → (whole : core.Program) → AreTables decls whole →
    (k : ℕ) (x : core.Section) → slice_get whole.sections k ≡ Some x → FewIn x
section_within decls clean whole is k x e =
    let at = sections_of decls clean whole is k x e in
    let s = at.section in
    let made = sectioned decls section_limits s x at.typed in
    let a = result_faults decls s.result in
    let b = param_faults (ahead_of decls section_limits s) 0 s.params in
    let c = stmts_faults (entry decls section_limits s) s.body.stmts in
    let whole : NoneIn (section_faults decls section_limits s) = λ f i. clean f (of_place_at decls at.place (atomic s) at.at f i) in
    let none = none_left (a ++ b ++ c) (listed_faults decls [] s.listed) whole in
    let few : 0 + length s.params ≤ PARAMETER_LIMIT = parameters_few (ahead_of decls section_limits s) 0 s.params (none_right a b (none_left (a ++ b) c none)) (let z : 0 ≤ PARAMETER_LIMIT = omega arith in z) in
    let start = entered_length (ahead_of decls section_limits s) s.params in
    let same : (entry decls section_limits s).limits ≡ section_limits = entered_limits (ahead_of decls section_limits s) s.params in
    let begun : length (entry decls section_limits s).locals ≤ LOCAL_LIMIT = omega (arith, start, few) in
    let all : length (after_all (entry decls section_limits s) s.body.stmts).locals ≤ LOCAL_LIMIT = subst (λ (l : BodyLimits). length (after_all (entry decls section_limits s) s.body.stmts).locals ≤ l.locals) same
    (all_few (entry decls section_limits s) s.body.stmts (none_right (a ++ b) c none) (subst (λ (l : BodyLimits). length (entry decls section_limits s).locals ≤ l.locals) (sym same) begun)) in
    let n = locals_length made.locals in
    let parameters = made.parameters in
    record { parameters = omega (arith, parameters, few); locals = omega (arith, n, all) }

-- ---- the whole

module _ (decls : List Decl) (clean : Clean decls) (program : Typed) (is : Resolves decls program) where
  struct_within : (s : ℕ) (x : the_struct.Struct) → slice_get program.structs.items s ≡ Some x →
      length x.locks.items + length x.finals.items + length x.fields.items ≤ 32
  struct_within s x at =
      let few = members_within decls clean (core_of program) is s (core_struct x) (map_at core_struct program.structs.items s x at) in
      let a = length-map x.locks.items core_lock in
      let b = length-map x.finals.items core_final in
      let c = length-map x.fields.items core_field in
      omega (arith, few, a, b, c)

  section_few : (k : ℕ) (x : the_section.Section) → slice_get program.sections.items k ≡ Some x → FewIn (core_section x)
  section_few k x at = section_within decls clean (core_of program) is k (core_section x) (map_at core_section program.sections.items k x at)

  pub within_limits : IsWithinLimits program
  within_limits =
      let few = few_whole decls clean (core_of program) is in
      let counted = counted_whole decls clean (core_of program) is in
      record {
        classes = (let n = few_classes decls clean (core_of program) is in let l = length-map program.classes.items core_class in omega (arith, n, l));
        structs = (let n = few.structs in let l = length-map program.structs.items core_struct in omega (arith, n, l));
        members = struct_within;
        objects = few_objects decls clean (core_of program) is;
        cells = (let n = counted.cells in let l = cells_few decls [] decls (λ f i. clean f (of_totals decls f i)) (let z : 0 ≤ CELL_LIMIT = omega arith in z) in omega (arith, n, l));
        sections = (let n = few.sections in let l = length-map program.sections.items core_section in let m = length-map program.shape.helpers.items core_section in omega (arith, n, l, m));
        parameters = λ k x at. (section_few k x at).parameters;
        locals = λ k x at. (let n = (section_few k x at).locals in let l = length-map x.locals.items core_local in omega (arith, n, l));
        threads = (let n = few.threads in let l = length-map program.threads.items core_thread in omega (arith, n, l));
        calls = (let n = few.calls_are in let v = calls_viewed program.threads.items in let l = calls_few decls [] decls (λ f i. clean f (of_totals decls f i)) (let z : 0 ≤ CALL_LIMIT = omega arith in z) in omega (arith, n, v, l));
      }
