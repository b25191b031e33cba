-- An expansion has no calls.
use Rattle.std.proofs.Common.{◌≡◌, ℕ, zero, suc, List, [], ◌∷◌, ◌++◌, length, Option, Some, None, sym, subst, Vec}
use Rattle.std.proofs.Common.{Global}
use mathlib.Core.Former.{Count}
use Rattle.core_lang.specs.declared.tree.Expr.{Expr}
use Rattle.core_lang.specs.declared.tree.Condition.{Condition}
use Rattle.core_lang.specs.declared.tree.Stmt.{Stmt}
use Rattle.core_lang.specs.declared.tree.Action.{Action, Bind, SetLocal, SetGlobal, SetElement, SetField, Call, Print}
use Rattle.core_lang.specs.declared.tree.Action.{If', IfElse', While', If, IfElse, While, Row_of-Stmt, end_of-Stmt}
use Rattle.core_lang.specs.declared.tree.Action.{more_of-Stmt, items-the_row-Stmt, items_hidden-the_row-Stmt-0}
use Rattle.core_lang.specs.declared.tree.Return.{Return}
use Rattle.core_lang.specs.declared.tree.Section.{Section}
use Rattle.core_lang.specs.declared.shape.Shape.{Shape}
use Rattle.core_lang.specs.Theory.Lists.{block_of, else_of}
use Rattle.core_lang.specs.Meaning.{deepest}
use Rattle.core_lang.specs.Helpers.{CallsOnly, AllCallOnly, EachCallsOnly}
use Rattle.core_lang.specs.Expansion.{Pair, At, behind_block, entered, one, Arguments, Bound, Bodies, Writes}
use Rattle.core_lang.specs.Expansion.{WritesRow, WritesAll, HelpersWritten, IsWrittenOut}

abbrev Never : ℕ → Type 0
Never helper = ⊥

abbrev pub HasNoCalls : List Stmt → Type 0
HasNoCalls xs = EachCallsOnly Never xs

append : (xs ys : List Stmt) → HasNoCalls xs → HasNoCalls ys → HasNoCalls (xs ++ ys)
append [] ys h k = k
append (x ∷ xs) ys h k = (h.0, append xs ys h.1 k)

of_items : (n : Count) (row : Row_of-Stmt n) → HasNoCalls (items-the_row-Stmt n row) → AllCallOnly Never row
of_items n end_of-Stmt h = tt
of_items n (more_of-Stmt start x rest) h = (h.0, of_items _ rest h.1)

of_if : (c : Condition) (block : Vec Stmt Global) → HasNoCalls block.items → CallsOnly Never (If c block)
of_if c block h = let row = block_of (If c block) in of_items row.0 row.1 (subst HasNoCalls (sym (items_hidden-the_row-Stmt-0 block)) h)

of_while : (c : Condition) (block : Vec Stmt Global) → HasNoCalls block.items → CallsOnly Never (While c block)
of_while c block h = let row = block_of (While c block) in of_items row.0 row.1 (subst HasNoCalls (sym (items_hidden-the_row-Stmt-0 block)) h)

of_if_else : (c : Condition) (block otherwise : Vec Stmt Global) → HasNoCalls block.items →
    HasNoCalls otherwise.items → CallsOnly Never (IfElse c block otherwise)
of_if_else c block otherwise h k =
    let row = block_of (IfElse c block otherwise) in
    let row' = else_of (IfElse c block otherwise) in (
      of_items row.0 row.1 (subst HasNoCalls (sym (items_hidden-the_row-Stmt-0 block)) h),
      of_items row'.0 row'.1 (subst HasNoCalls (sym (items_hidden-the_row-Stmt-0 otherwise)) k),
    )

lone : (ys : List Stmt) (start : ℕ) (x : Action) → ys ≡ one start x → CallsOnly Never x → HasNoCalls ys
lone ys start x e h = subst HasNoCalls (sym e) (h, tt)

abbrev pub BodiesHaveNone : Bodies → Type 0
BodiesHaveNone Body =
    (helper count first : ℕ) (body : List Stmt) (r : Option Return) (fresh : ℕ) → Body helper count first body r fresh → HasNoCalls body

arguments_have_none : (start : ℕ) (scope : List Pair) (es : List Expr) (fresh : ℕ) (lets : List Stmt) →
    Arguments start scope es fresh lets → HasNoCalls lets
arguments_have_none start scope [] fresh lets w = subst HasNoCalls (sym w) tt
arguments_have_none start scope (e ∷ es) fresh lets (e', rest, r, w, ws) = subst HasNoCalls (sym w) (tt, arguments_have_none start scope es _ rest ws)

bound_has_none : (result : Option ℕ) (r : Option Return) (a b : At) (fresh : ℕ) (last : List Stmt) →
    Bound result r a fresh last b → HasNoCalls last
bound_has_none None None a b fresh last w = subst HasNoCalls (sym w.0) tt
bound_has_none None (Some r) a b fresh last w = lone last r.start (Bind fresh r.value) w.0 tt
bound_has_none (Some k) None a b fresh last w = absurd w
bound_has_none (Some k) (Some r) a b fresh last w = lone last r.start (Bind fresh r.value) w.1 tt

module _ (Body : Bodies) (bodies : BodiesHaveNone Body) where
  mutual
    writes_none : (x : Action) (start : ℕ) (a b : At) (ys : List Stmt) → Writes Body x start a ys b → HasNoCalls ys
    writes_none (Bind k e) start a b ys (e', r, same, w, f) = lone ys start (Bind a.fresh e') w tt
    writes_none (SetLocal k e) start a b ys (k', e', c, r, w, f) = lone ys start (SetLocal k' e') w tt
    writes_none (SetGlobal cell e) start a b ys (e', r, w, f) = lone ys start (SetGlobal cell e') w tt
    writes_none (SetElement array i e) start a b ys (i', e', ri, r, w, f) = lone ys start (SetElement array i' e') w tt
    writes_none (SetField p s g e) start a b ys (p', e', rp, r, w, f) = lone ys start (SetField p' s g e') w tt
    writes_none (Call k es result) start a b ys (lets, body, last, r, fresh, args, inside, w, e) =
        subst HasNoCalls (sym e)
        (append lets (body ++ last) (arguments_have_none start a.scope es.items a.fresh lets args)
        (append body last (bodies k (length es.items) a.fresh body r fresh inside) (bound_has_none result r a b fresh last w)))
    writes_none (Print e) start a b ys (e', r, w, f) = lone ys start (Print e') w tt
    writes_none (If' c m block) start a b ys (c', block', after, t, w, e, f) = lone ys start (If c' block') e (of_if c' block' (row_none block a after block'.items w))
    writes_none (IfElse' c m block k otherwise) start a b ys (c', block', otherwise', middle, after, t, w, w', e, f) =
        lone ys start (IfElse c' block' otherwise') e
        (of_if_else c' block' otherwise' (row_none block a middle block'.items w) (row_none otherwise (behind_block a middle) after otherwise'.items w'))
    writes_none (While' c m body) start a b ys (c', body', after, t, w, e, f) = lone ys start (While c' body') e (of_while c' body' (row_none body a after body'.items w))

    row_none : {m : _} (row : Row_of-Stmt m) (a b : At) (ys : List Stmt) → WritesRow Body row a ys b → HasNoCalls ys
    row_none end_of-Stmt a b ys (e, f) = subst HasNoCalls (sym e) tt
    row_none (more_of-Stmt start x rest) a b ys (front, rear, middle, w, ws, e) =
        subst HasNoCalls (sym e) (append front rear (writes_none x start a middle front w) (row_none rest middle b rear ws))

  all_none : (xs : List Stmt) (a b : At) (ys : List Stmt) → WritesAll Body xs a ys b → HasNoCalls ys
  all_none [] a b ys (e, f) = subst HasNoCalls (sym e) tt
  all_none (x ∷ xs) a b ys (front, rear, middle, w, ws, e) =
      subst HasNoCalls (sym e) (append front rear (writes_none x.action x.start a middle front w) (all_none xs middle b rear ws))

helpers_have_none : (shape : Shape) (depth : ℕ) → BodiesHaveNone (HelpersWritten shape depth)
helpers_have_none shape zero helper count first body r fresh w = absurd w
helpers_have_none shape (suc depth) helper count first body r fresh (h, is, e, (b, w, ends, own, f)) =
    all_none (HelpersWritten shape depth) (helpers_have_none shape depth) h.body.items (entered h.parameters first) b body w

-- an expanded section has no call
pub written_out_has_no_calls : (shape : Shape) (section section' : Section) → IsWrittenOut shape section section' →
    HasNoCalls section'.body.items
written_out_has_no_calls shape section section' w =
    all_none (HelpersWritten shape deepest) (helpers_have_none shape deepest) section.body.items (entered section.parameters 0) w.body.0 section'.body.items w.body.1
