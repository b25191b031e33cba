-- Calls of helpers that do nothing are expanded to nothing.
use Rattle.std.proofs.Common.{◌≡◌, ◌⊎◌, inl, inr, ℕ, zero, suc, ◌+◌, ◌≤◌, ◌==◌, ◌&&◌, Bool, true, false, not, List, []}
use Rattle.std.proofs.Common.{◌∷◌, ◌++◌, length, map, take, Option, Some, None, refl, sym, ap, ◌∙◌, subst, arith}
use Rattle.std.specs.Prelude.{◌<◌, slice_get, slice_set, slice_index_or, is_some}
use Rattle.std.proofs.lemmas.Bool.{eqb-true, and_parts}
use Rattle.std.proofs.lemmas.List.{append-nil}
use Rattle.core_lang.specs.declared.tree.Action.{Action, Bind, SetLocal, SetGlobal, SetElement, SetField, Call, Print}
use Rattle.core_lang.specs.declared.tree.Action.{If', IfElse', While'}
use Rattle.core_lang.specs.declared.tree.Local.{Local}
use Rattle.core_lang.specs.declared.tree.Return.{Return}
use Rattle.core_lang.specs.declared.tree.Section.{Section}
use Rattle.core_lang.specs.declared.tree.Stmt.{Stmt}
use Rattle.core_lang.specs.declared.shape.Shape.{Shape}
use Rattle.core_lang.specs.Expansion.{At, entered, Arguments, Bodies, Writes, WritesAll, WritesBody, HelpersWritten}
use Rattle.core_lang.specs.Expansion.{RenamesResult}
use Rattle.core_lang.specs.WrittenLocals.{LocalData, Brought, local_data, parameter_data, hidden_local, locals_by}
use Rattle.core_lang.specs.WrittenLocals.{locals_in_all, brought_by, brought}
use Rattle.core_lang_helpers.specs.declared.body.BodyWriter.{BodyWriter}
use Rattle.core_lang_helpers.specs.declared.scope.WrittenScope.{WrittenScope}
use Rattle.core_lang_helpers.specs.Working.Bodies.{bodies, at, Wrote, HasMore, locals_of}
use Rattle.core_lang_helpers.proofs.Pairs.{take_one}
use Rattle.core_lang_helpers.specs.Working.IdleHelpers.{is_idle_call, are_idle_calls, is_idle_body, if_section}
use Rattle.core_lang_helpers.specs.Working.IdleHelpers.{is_idle, AreIdle}

-- ---- the meaning of the tests

empty : {A : Type 0} → (xs : List A) → (length xs == 0) ≡ true → xs ≡ []
empty [] e = refl
empty (x ∷ xs) e = let z : length (x ∷ xs) ≡ 0 = eqb-true (length (x ∷ xs)) 0 e in absurd (omega (arith, z))

none_of : {A : Type 0} → (o : Option A) → not (is_some o) ≡ true → o ≡ None
none_of None e = refl
none_of (Some x) e = absurd cc

-- a helper that does nothing
record IsIdleBody (idle : ℕ → Bool) (helper : Section) : Type 0 where
  parameters : helper.parameters ≡ 0
  locals : helper.locals.items ≡ []
  result_type : helper.result_type ≡ None
  result : helper.result ≡ None
  calls : are_idle_calls idle helper.body.items ≡ true

facts : (idle : ℕ → Bool) (h : Section) → is_idle_body idle h ≡ true → IsIdleBody idle h
facts idle h e =
    let a = and_parts _ (are_idle_calls idle h.body.items) e in
    let b = and_parts _ (not (is_some h.result)) a.0 in
    let c = and_parts _ (not (is_some h.result_type)) b.0 in
    let d = and_parts (h.parameters == 0) (length h.locals.items == 0) c.0 in record {
      parameters = eqb-true h.parameters 0 d.0;
      locals = empty h.locals.items d.1;
      result_type = none_of h.result_type c.1;
      result = none_of h.result b.1;
      calls = a.1;
    }

there : (o : Option Section) (test : Section → Bool) → if_section o test ≡ true →
    (h : Section) × (o ≡ Some h) × (test h ≡ true)
there (Some h) test e = (h, refl, e)
there None test e = absurd cc

-- ---- calls that go less deep

and_map : (a b c d : Bool) → (a ≡ true → c ≡ true) → (b ≡ true → d ≡ true) → (a && b) ≡ true → (c && d) ≡ true
and_map a b c d f g e = let h = and_parts a b e in ap (λ x. x && d) (f h.0) ∙ g h.1

call_map : (P Q : ℕ → Bool) → ((g : ℕ) → P g ≡ true → Q g ≡ true) → (x : Action) → is_idle_call P x ≡ true →
    is_idle_call Q x ≡ true
call_map P Q f (Call helper arguments None) h =
    and_map (length arguments.items == 0) (P helper) (length arguments.items == 0) (Q helper) (λ e. e) (f helper) h
call_map P Q f (Call helper arguments (Some k)) h = absurd cc
call_map P Q f (Bind k e) h = absurd cc
call_map P Q f (SetLocal k e) h = absurd cc
call_map P Q f (SetGlobal cell e) h = absurd cc
call_map P Q f (SetElement array i e) h = absurd cc
call_map P Q f (SetField p s n e) h = absurd cc
call_map P Q f (Print e) h = absurd cc
call_map P Q f (If' c m block) h = absurd cc
call_map P Q f (IfElse' c m block k otherwise) h = absurd cc
call_map P Q f (While' c m body) h = absurd cc

calls_map : (P Q : ℕ → Bool) → ((g : ℕ) → P g ≡ true → Q g ≡ true) → (xs : List Stmt) → are_idle_calls P xs ≡ true →
    are_idle_calls Q xs ≡ true
calls_map P Q f [] h = refl
calls_map P Q f (x ∷ xs) h =
    and_map (is_idle_call P x.action) (are_idle_calls P xs) (is_idle_call Q x.action) (are_idle_calls Q xs) (call_map P Q f x.action) (calls_map P Q f xs) h

body_map : (P Q : ℕ → Bool) → ((g : ℕ) → P g ≡ true → Q g ≡ true) → (h : Section) → is_idle_body P h ≡ true →
    is_idle_body Q h ≡ true
body_map P Q f h e =
    let a = and_parts _ (are_idle_calls P h.body.items) e in
    ap (λ b. b && are_idle_calls Q h.body.items) a.0 ∙ calls_map P Q f h.body.items a.1

section_map : (o : Option Section) (P Q : Section → Bool) → ((h : Section) → P h ≡ true → Q h ≡ true) →
    if_section o P ≡ true → if_section o Q ≡ true
section_map (Some h) P Q f e = f h e
section_map None P Q f e = absurd cc

-- a helper that is idle within a depth is idle within a greater depth
pub deeper : (helpers : List Section) (d e number : ℕ) → d ≤ e → is_idle helpers d number ≡ true →
    is_idle helpers e number ≡ true
deeper helpers zero e number le h = absurd cc
deeper helpers (suc d) zero number le h = absurd (omega (arith, le))
deeper helpers (suc d) (suc e) number le h =
    let less : d ≤ e = omega (arith, le) in
    section_map (slice_get helpers number) (is_idle_body (is_idle helpers d)) (is_idle_body (is_idle helpers e))
    (body_map (is_idle helpers d) (is_idle helpers e) (λ g. deeper helpers d e g less)) h

-- ---- expansions of idle calls

all_write : (P : ℕ → Bool) (BodyWriter : Bodies) →
    ((x : Action) (start : ℕ) (a : At) → is_idle_call P x ≡ true → Writes BodyWriter x start a [] a) →
    (xs : List Stmt) (a : At) → are_idle_calls P xs ≡ true → WritesAll BodyWriter xs a [] a
all_write P BodyWriter one [] a h = (refl, refl)
all_write P BodyWriter one (x ∷ xs) a h =
    let e = and_parts (is_idle_call P x.action) (are_idle_calls P xs) h in
    ([], [], a, one x.action x.start a e.0, all_write P BodyWriter one xs a e.1, refl)

body_writes : (P : ℕ → Bool) (BodyWriter : Bodies) →
    ((x : Action) (start : ℕ) (a : At) → is_idle_call P x ≡ true → Writes BodyWriter x start a [] a) →
    (h : Section) (first : ℕ) → IsIdleBody P h → WritesBody BodyWriter h first [] None first
body_writes P BodyWriter one h first is =
    let a = entered h.parameters first in
    let none = is.parameters in (
      a,
      all_write P BodyWriter one h.body.items a is.calls,
      subst (λ (r : Option Return). RenamesResult a.scope r None) (sym is.result) tt,
      none ∙ sym (ap length is.locals),
      omega (arith, none),
    )

pub call_writes : (shape : Shape) (depth : ℕ) (x : Action) (start : ℕ) (a : At) →
    is_idle_call (is_idle shape.helpers.items depth) x ≡ true →
    Writes (HelpersWritten shape depth) x start a [] a
call_writes shape zero (Call helper arguments None) start a idle = absurd (let e = (and_parts (length arguments.items == 0) false idle).1 in cc)
call_writes shape (suc d) (Call helper arguments None) start a idle =
    let parts = and_parts (length arguments.items == 0) (is_idle shape.helpers.items (suc d) helper) idle in
    let none = empty arguments.items parts.0 in
    let (h, found, test) = there (slice_get shape.helpers.items helper) (is_idle_body (is_idle shape.helpers.items d)) parts.1 in
    let is = facts (is_idle shape.helpers.items d) h test in
    let many : length arguments.items ≡ h.parameters = ap length none ∙ sym is.parameters in
    let inside = body_writes (is_idle shape.helpers.items d) (HelpersWritten shape d) (call_writes shape d) h a.fresh is in (
      [],
      [],
      [],
      None,
      a.fresh,
      subst (λ es. Arguments start a.scope es a.fresh []) (sym none) refl,
      (h, found, many, inside),
      (refl, refl),
      refl,
    )
call_writes shape depth (Call helper arguments (Some k)) start a h = absurd cc
call_writes shape depth (Bind k e) start a h = absurd cc
call_writes shape depth (SetLocal k e) start a h = absurd cc
call_writes shape depth (SetGlobal cell e) start a h = absurd cc
call_writes shape depth (SetElement array i e) start a h = absurd cc
call_writes shape depth (SetField p s n e) start a h = absurd cc
call_writes shape depth (Print e) start a h = absurd cc
call_writes shape depth (If' c m block) start a h = absurd cc
call_writes shape depth (IfElse' c m block k otherwise) start a h = absurd cc
call_writes shape depth (While' c m body) start a h = absurd cc

-- ---- which locals it brings

all_bring : (P : ℕ → Bool) (brings : ℕ → Brought) (own : List Local) →
    ((x : Action) → is_idle_call P x ≡ true → locals_by brings own x ≡ []) →
    (xs : List Stmt) → are_idle_calls P xs ≡ true → locals_in_all brings own xs ≡ []
all_bring P brings own one [] h = refl
all_bring P brings own one (x ∷ xs) h =
    let e = and_parts (is_idle_call P x.action) (are_idle_calls P xs) h in
    ap (λ vs. vs ++ locals_in_all brings own xs) (one x.action e.0) ∙ all_bring P brings own one xs e.1

-- the locals and the result type that a helper brings
abbrev of_helper : ℕ → Shape → Section → Brought
of_helper depth shape h = record {
  locals = map parameter_data (take h.parameters h.locals.items) ++ locals_in_all (brought depth shape) h.locals.items h.body.items;
  result_type = h.result_type;
}

abbrev nothing : Brought
nothing = record { locals = []; result_type = None }

abbrev all_locals : Brought → List LocalData
all_locals b = b.locals ++ hidden_local b.result_type

pub call_brings : (shape : Shape) (depth : ℕ) (own : List Local) (x : Action) →
    is_idle_call (is_idle shape.helpers.items depth) x ≡ true →
    locals_by (brought depth shape) own x ≡ []
call_brings shape zero own (Call helper arguments None) idle = absurd (let e = (and_parts (length arguments.items == 0) false idle).1 in cc)
call_brings shape (suc d) own (Call helper arguments None) idle =
    let P = is_idle shape.helpers.items d in
    let parts = and_parts (length arguments.items == 0) (is_idle shape.helpers.items (suc d) helper) idle in
    let (h, found, test) = there (slice_get shape.helpers.items helper) (is_idle_body P) parts.1 in
    let is = facts P h test in
    let parameters : map parameter_data (take h.parameters h.locals.items) ≡ [] = ap (λ n. map parameter_data (take n h.locals.items)) is.parameters in
    let calls = all_bring P (brought d shape) h.locals.items (call_brings shape d h.locals.items) h.body.items is.calls in
    let whole : (of_helper d shape h).locals ≡ [] =
    ap (λ vs. vs ++ locals_in_all (brought d shape) h.locals.items h.body.items) parameters ∙ calls in
    ap (λ (o : Option Section). all_locals (brought_by o (of_helper d shape))) found
    ∙ ap (λ (vs : List LocalData). vs ++ hidden_local h.result_type) whole ∙ ap hidden_local is.result_type
call_brings shape depth own (Call helper arguments (Some k)) h = absurd cc
call_brings shape depth own (Bind k e) h = absurd cc
call_brings shape depth own (SetLocal k e) h = absurd cc
call_brings shape depth own (SetGlobal cell e) h = absurd cc
call_brings shape depth own (SetElement array i e) h = absurd cc
call_brings shape depth own (SetField p s n e) h = absurd cc
call_brings shape depth own (Print e) h = absurd cc
call_brings shape depth own (If' c m block) h = absurd cc
call_brings shape depth own (IfElse' c m block k otherwise) h = absurd cc
call_brings shape depth own (While' c m body) h = absurd cc

-- ---- the table

-- the same of one more statement
calls_with : (P : ℕ → Bool) (xs : List Stmt) (x : Stmt) → are_idle_calls P xs ≡ true →
    is_idle_call P x.action ≡ true → are_idle_calls P (xs ++ x ∷ []) ≡ true
calls_with P [] x e f = ap (λ b. b && true) f
calls_with P (v ∷ xs) x e f =
    let parts = and_parts (is_idle_call P v.action) (are_idle_calls P xs) e in
    ap (λ b. b && are_idle_calls P (xs ++ x ∷ [])) parts.0 ∙ calls_with P xs x parts.1 f

pub one_more_call : (P : ℕ → Bool) (xs : List Stmt) (k : ℕ) (x : Stmt) → k < length xs → x ≡ slice_index_or xs k x →
    are_idle_calls P (take k xs) ≡ true →
    is_idle_call P x.action ≡ true → are_idle_calls P (take (k + 1) xs) ≡ true
one_more_call P xs k x lt is e f = ap (are_idle_calls P) (take_one xs k x lt is) ∙ calls_with P (take k xs) x e f

-- a helper with a depth in the table, at most this one
pub known_idle : (helpers : List Section) (depths : List ℕ) (number known depth : ℕ) → AreIdle helpers depths →
    slice_get depths number ≡ Some known →
    0 < known → known ≤ depth → is_idle helpers depth number ≡ true
known_idle helpers depths number zero depth are e some le = absurd (omega (arith, some))
known_idle helpers depths number (suc known) depth are e some le = deeper helpers (suc known) depth number le (are number known e)

at_set : (xs : List ℕ) (k j v y : ℕ) → slice_get (slice_set xs k v) j ≡ Some y →
    ((j ≡ k) × (v ≡ y)) ⊎ (slice_get xs j ≡ Some y)
at_set [] k j v y e = inr e
at_set (x ∷ xs) zero zero v y e = let same : v ≡ y = cc in inl (refl, same)
at_set (x ∷ xs) zero (suc j) v y e = inr e
at_set (x ∷ xs) (suc k) zero v y e = inr e
at_set (x ∷ xs) (suc k) (suc j) v y e = further k j v y (at_set xs k j v y e)
  where
    further : (k j v y : ℕ) {Q : Type 0} → ((j ≡ k) × (v ≡ y)) ⊎ Q → ((suc j ≡ suc k) × (v ≡ y)) ⊎ Q
    further k j v y (inl (a, b)) = inl (ap suc a, b)
    further k j v y (inr q) = inr q

-- one more helper is known
pub noted : (helpers : List Section) (depths : List ℕ) (number below : ℕ) → AreIdle helpers depths →
    is_idle helpers (suc below) number ≡ true →
    AreIdle helpers (slice_set depths number (suc below))
noted helpers depths number below known is k depth e = by_case (at_set depths number k (suc below) (suc depth) e)
  where
    by_case : ((k ≡ number) × (suc below ≡ suc depth)) ⊎ (slice_get depths k ≡ Some (suc depth)) →
        is_idle helpers (suc depth) k ≡ true
    by_case (inl (a, b)) = ap (is_idle helpers (suc depth)) a ∙ ap (λ n. is_idle helpers n number) (sym b) ∙ is
    by_case (inr old) = known k depth old

-- ---- a call that is passed over

pub nothing_written : (body : BodyWriter) (x : Stmt) (y : Action) (scope : WrittenScope) (locals : List Local) (old : List Stmt) →
    y ≡ x.action →
    body.idle.now.helpers.now ≡ body.shape.now.helpers.items → is_idle_call (is_idle body.idle.now.helpers.now body.depth) y ≡ true →
    Wrote (bodies body) x (at scope locals) old old (at scope locals)
nothing_written body x y scope locals old same there idle = (
  [],
  sym (append-nil old),
  call_writes body.shape.now body.depth x.action x.start (at scope locals)
      (subst (λ (hs : List Section). is_idle_call (is_idle hs body.depth) x.action ≡ true) there
      (subst (λ (z : Action). is_idle_call (is_idle body.idle.now.helpers.now body.depth) z ≡ true) same idle)),
)

pub nothing_more : (body : BodyWriter) (x y : Action) (old : List Local) → y ≡ x →
    body.idle.now.helpers.now ≡ body.shape.now.helpers.items →
    is_idle_call (is_idle body.idle.now.helpers.now body.depth) y ≡ true → HasMore old old (locals_of body x)
nothing_more body x y old same there idle =
    let none = call_brings body.shape.now body.depth body.section.now.locals.items x
    (subst (λ (hs : List Section). is_idle_call (is_idle hs body.depth) x ≡ true) there
    (subst (λ (z : Action). is_idle_call (is_idle body.idle.now.helpers.now body.depth) z ≡ true) same idle)) in
    sym (append-nil (map local_data old)) ∙ ap (λ vs. map local_data old ++ vs) (sym none)
