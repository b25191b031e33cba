-- The names, kinds and types of the locals that statements bind, one after another.
use Rattle.std.proofs.Common.{◌≡◌, ℕ, zero, suc, ◌+◌, ◌<◌, List, [], ◌∷◌, ◌++◌, length, map, take, Option, Some, None}
use Rattle.std.proofs.Common.{refl, sym, ap, ◌∙◌, append_assoc, add-one, Vec, Global}
use Rattle.std.specs.Prelude.{slice_get, slice_index_or}
use Rattle.std.proofs.lemmas.List.{append-nil, map-append}
use mathlib.Core.Former.{Count}
use Rattle.core_lang.specs.declared.value.ValueType.{ValueType}
use Rattle.core_lang.specs.declared.tree.Expr.{Expr}
use Rattle.core_lang.specs.declared.tree.Condition.{Condition}
use Rattle.core_lang.specs.declared.tree.Local.{Local}
use Rattle.core_lang.specs.declared.tree.Stmt.{Stmt}
use Rattle.core_lang.specs.declared.tree.Action.{Action, Call, If, IfElse, While, Row_of-Stmt, end_of-Stmt}
use Rattle.core_lang.specs.declared.tree.Action.{more_of-Stmt, items-the_row-Stmt, items_hidden-the_row-Stmt-0}
use Rattle.core_lang.specs.declared.tree.Section.{Section}
use Rattle.core_lang.specs.declared.shape.Shape.{Shape}
use Rattle.core_lang.specs.Theory.Lists.{block_of, else_of}
use Rattle.core_lang.specs.WrittenLocals.{LocalData, local_data, own_local, hidden_local, Brought, locals_by}
use Rattle.core_lang.specs.WrittenLocals.{locals_in, locals_in_all, brought_by, brought}
use Rattle.core_lang_helpers.specs.declared.body.BodyWriter.{BodyWriter}
use Rattle.core_lang_helpers.specs.Working.Bodies.{IsCallee, brings, HasMore, locals_of, locals_of_all, received}
use Rattle.core_lang_helpers.specs.Working.Bodies.{taken_parameters}
use Rattle.core_lang_helpers.proofs.Pairs.{take_one}

-- ---- lists

pub more_and_more : (old mid new : List Local) (xs ys : List LocalData) → HasMore old mid xs → HasMore mid new ys →
    HasMore old new (xs ++ ys)
more_and_more old mid new xs ys h k = k ∙ ap (λ vs. vs ++ ys) h ∙ append_assoc (map local_data old) xs ys

in_all-append : (brings : ℕ → Brought) (own : List Local) (xs ys : List Stmt) →
    locals_in_all brings own (xs ++ ys) ≡ locals_in_all brings own xs ++ locals_in_all brings own ys
in_all-append brings own [] ys = refl
in_all-append brings own (x ∷ xs) ys =
    ap (λ vs. locals_by brings own x.action ++ vs) (in_all-append brings own xs ys)
    ∙ sym (append_assoc (locals_by brings own x.action) (locals_in_all brings own xs) (locals_in_all brings own ys))

pub named_one_more : (body : BodyWriter) (xs : List Stmt) (k : ℕ) (x : Stmt) (old mid new : List Local) → k < length xs →
    x ≡ slice_index_or xs k x →
    HasMore old mid (locals_of_all body (take k xs)) → HasMore mid new (locals_of body x.action) → HasMore old new (locals_of_all body (take (k + 1) xs))
named_one_more body xs k x old mid new lt is h r =
    let own = body.section.now.locals.items in
    more_and_more old mid new (locals_of_all body (take k xs)) (locals_of body x.action) h r
    ∙ ap (λ vs. map local_data old ++ (locals_of_all body (take k xs) ++ vs)) (sym (append-nil (locals_of body x.action)))
    ∙ ap (λ vs. map local_data old ++ vs) (sym (in_all-append (brings body) own (take k xs) (x ∷ [])))
    ∙ ap (λ vs. map local_data old ++ locals_of_all body vs) (sym (take_one xs k x lt is))

-- ---- blocks

in_row : (brings : ℕ → Brought) (own : List Local) (n : Count) (row : Row_of-Stmt n) →
    locals_in brings own row ≡ locals_in_all brings own (items-the_row-Stmt n row)
in_row brings own n end_of-Stmt = refl
in_row brings own n (more_of-Stmt start x rest) = ap (λ vs. locals_by brings own x ++ vs) (in_row brings own _ rest)

in_vec : (brings : ℕ → Brought) (own : List Local) (block : Vec Stmt Global) (n : Count) (row : Row_of-Stmt n) →
    items-the_row-Stmt n row ≡ block.items →
    locals_in brings own row ≡ locals_in_all brings own block.items
in_vec brings own block n row e = in_row brings own n row ∙ ap (locals_in_all brings own) e

pub named_if : (body : BodyWriter) (x : Action) (c : Condition) (block : Vec Stmt Global) (ss : List Stmt) (old new : List Local) → x ≡ If c block → ss ≡ block.items →
    HasMore old new (locals_of_all body ss) → HasMore old new (locals_of body x)
named_if body x c block ss old new is same h =
    let row = block_of (If c block) in
    let own = body.section.now.locals.items in
    h ∙ ap (λ vs. map local_data old ++ vs)
    (ap (locals_of_all body) same ∙ sym (in_vec (brings body) own block row.0 row.1 (items_hidden-the_row-Stmt-0 block)) ∙ ap (locals_of body) (sym is))

pub named_while : (body : BodyWriter) (x : Action) (c : Condition) (block : Vec Stmt Global) (ss : List Stmt) (old new : List Local) → x ≡ While c block → ss ≡ block.items →
    HasMore old new (locals_of_all body ss) → HasMore old new (locals_of body x)
named_while body x c block ss old new is same h =
    let row = block_of (While c block) in
    let own = body.section.now.locals.items in
    h ∙ ap (λ vs. map local_data old ++ vs)
    (ap (locals_of_all body) same ∙ sym (in_vec (brings body) own block row.0 row.1 (items_hidden-the_row-Stmt-0 block)) ∙ ap (locals_of body) (sym is))

pub named_if_else : (body : BodyWriter) (x : Action) (c : Condition) (block other : Vec Stmt Global) (ss os : List Stmt) (old mid new : List Local) → x ≡ IfElse c block other →
    ss ≡ block.items → os ≡ other.items → HasMore old mid (locals_of_all body ss) → HasMore mid new (locals_of_all body os) → HasMore old new (locals_of body x)
named_if_else body x c block other ss os old mid new is same same' h k =
    let row = block_of (IfElse c block other) in
    let row' = else_of (IfElse c block other) in
    let own = body.section.now.locals.items in
    let first = ap (locals_of_all body) same ∙ sym (in_vec (brings body) own block row.0 row.1 (items_hidden-the_row-Stmt-0 block)) in
    let second = ap (locals_of_all body) same' ∙ sym (in_vec (brings body) own other row'.0 row'.1 (items_hidden-the_row-Stmt-0 other)) in
    more_and_more old mid new (locals_of_all body ss) (locals_of_all body os) h k
    ∙ ap (λ vs. map local_data old ++ (vs ++ locals_of_all body os)) first
    ∙ ap (λ vs. map local_data old ++ (locals_in (brings body) own row.1 ++ vs)) second
    ∙ ap (λ y. map local_data old ++ locals_of body y) (sym is)

-- ---- calls

-- the locals and the result type that a helper brings
brought_of : (body helper : BodyWriter) (number count : ℕ) → IsCallee body number count helper →
    brings body number ≡ record {
      locals = taken_parameters helper.section.now ++ locals_of_all helper helper.section.now.body.items;
      result_type = helper.section.now.result_type;
    }
brought_of body helper number count is =
    let h = helper.section.now in
    let deep : body.depth ≡ suc helper.depth = is.depth ∙ add-one helper.depth in
    let go : Section → Brought = λ (v : Section). record {
      locals = taken_parameters v ++ locals_in_all (brought helper.depth body.shape.now) v.locals.items v.body.items;
      result_type = v.result_type;
    } in
    ap (λ d. brought d body.shape.now number) deep ∙ ap (λ o. brought_by o go) is.found
    ∙ ap (λ (s : Shape). record { locals = taken_parameters h ++ locals_in_all (brought helper.depth s) h.locals.items h.body.items; result_type = h.result_type })
    (sym (ap (λ z. z.now) is.shape))

by_call : (body helper : BodyWriter) (number count : ℕ) (arguments : Vec Expr Global) (result : Option ℕ) →
    IsCallee body number count helper →
    locals_of body (Call number arguments result)
    ≡ (taken_parameters helper.section.now ++ locals_of_all helper helper.section.now.body.items) ++ received body result helper.section.now.result_type
by_call body helper number count arguments None is =
    ap (λ (x : Brought). x.locals ++ hidden_local x.result_type) (brought_of body helper number count is)
by_call body helper number count arguments (Some k) is =
    ap (λ (x : Brought). x.locals ++ own_local (slice_get body.section.now.locals.items k)) (brought_of body helper number count is)

pub named_call : (body helper : BodyWriter) (number count : ℕ) (x : Action) (arguments : Vec Expr Global) (result : Option ℕ) (old mid inner new : List Local) →
    x ≡ Call number arguments result → IsCallee body number count helper → HasMore old mid (taken_parameters helper.section.now) →
    HasMore mid inner (locals_of_all helper helper.section.now.body.items) → HasMore inner new (received body result helper.section.now.result_type) →
    HasMore old new (locals_of body x)
named_call body helper number count x arguments result old mid inner new is callee h k r =
    let taken = taken_parameters helper.section.now in
    let within = locals_of_all helper helper.section.now.body.items in
    more_and_more old inner new (taken ++ within) (received body result helper.section.now.result_type)
    (more_and_more old mid inner taken within h k) r
    ∙ ap (λ vs. map local_data old ++ vs) (sym (by_call body helper number count arguments result callee))
    ∙ ap (λ y. map local_data old ++ locals_of body y) (sym is)

-- a call of a helper without a result, which is dropped
pub named_nothing : (body : BodyWriter) (result : Option ℕ) (t : Option ValueType) (old : List Local) → result ≡ None →
    t ≡ None → HasMore old old (received body result t)
named_nothing body result t old none nothing =
    sym (append-nil (map local_data old)) ∙ ap (λ o. map local_data old ++ received body None o) (sym nothing)
    ∙ ap (λ o. map local_data old ++ received body o t) (sym none)

-- ---- parameters

taken_suc : (xs : List Local) (k : ℕ) (x : Local) → slice_get xs k ≡ Some x → take (suc k) xs ≡ take k xs ++ x ∷ []
taken_suc [] k x is = absurd cc
taken_suc (y ∷ xs) zero x is = let same : y ≡ x = cc in ap (λ v. v ∷ []) same
taken_suc (y ∷ xs) (suc k) x is = ap (λ vs. y ∷ vs) (taken_suc xs k x is)

taken : (xs : List Local) (k : ℕ) (x : Local) → slice_get xs k ≡ Some x → take (k + 1) xs ≡ take k xs ++ x ∷ []
taken xs k x is = ap (λ n. take n xs) (add-one k) ∙ taken_suc xs k x is

pub parameter_named : (f : Local → LocalData) (xs : List Local) (k : ℕ) (x y : Local) (old mid new : List Local) →
    slice_get xs k ≡ Some x →
    new ≡ mid ++ y ∷ [] → local_data y ≡ f x → HasMore old mid (map f (take k xs)) → HasMore old new (map f (take (k + 1) xs))
parameter_named f xs k x y old mid new is e same h =
    ap (map local_data) e ∙ map-append local_data mid (y ∷ []) ∙ ap (λ vs. vs ++ local_data y ∷ []) h ∙ ap (λ v. (map local_data old ++ map f (take k xs)) ++ v ∷ []) same
    ∙ append_assoc (map local_data old) (map f (take k xs)) (f x ∷ [])
    ∙ ap (λ vs. map local_data old ++ vs) (sym (map-append f (take k xs) (x ∷ [])) ∙ sym (ap (map f) (taken xs k x is)))

pub local_named : (xs : List Local) (k : ℕ) (x y : Local) (mid new : List Local) → slice_get xs k ≡ Some x →
    new ≡ mid ++ y ∷ [] → local_data y ≡ local_data x →
    HasMore mid new (own_local (slice_get xs k))
local_named xs k x y mid new is e same =
    ap (map local_data) e ∙ map-append local_data mid (y ∷ []) ∙ ap (λ v. map local_data mid ++ v ∷ []) same
    ∙ ap (λ o. map local_data mid ++ own_local o) (sym is)
