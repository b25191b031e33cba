-- An expansion binds the next numbers, in the order of its text.
use Rattle.std.proofs.Common.{◌≡◌, ℕ, zero, suc, ◌+◌, List, [], ◌∷◌, ◌++◌, length, Option, Some, None, refl, sym, ap}
use Rattle.std.proofs.Common.{◌∙◌, subst, arith, append_assoc, Vec, Global}
use mathlib.Core.Former.{Count}
use Rattle.core_lang.specs.declared.tree.Expr.{Expr}
use Rattle.core_lang.specs.declared.tree.Condition.{Condition}
use Rattle.core_lang.specs.declared.tree.Stmt.{Stmt}
use Rattle.core_lang.specs.declared.tree.Action.{Action, Bind, SetLocal, SetGlobal, SetElement, SetField, Call, Print}
use Rattle.core_lang.specs.declared.tree.Action.{If', IfElse', While', If, IfElse, While, Row_of-Stmt, end_of-Stmt}
use Rattle.core_lang.specs.declared.tree.Action.{more_of-Stmt, items-the_row-Stmt, items_hidden-the_row-Stmt-0}
use Rattle.core_lang.specs.declared.tree.Return.{Return}
use Rattle.core_lang.specs.declared.tree.Section.{Section}
use Rattle.core_lang.specs.declared.shape.Shape.{Shape}
use Rattle.core_lang.specs.Scopes.{bound_by, bound_in, bound_in_all, numbers_from}
use Rattle.core_lang.specs.Theory.Lists.{block_of, else_of}
use Rattle.core_lang.specs.Meaning.{deepest}
use Rattle.core_lang.specs.Expansion.{Pair, At, behind_block, entered, one, Arguments, Bound, Bodies, Writes}
use Rattle.core_lang.specs.Expansion.{WritesRow, WritesAll, HelpersWritten, IsWrittenOut}

-- ---- lists of numbers

numbers_append : (a n m : ℕ) → numbers_from a n ++ numbers_from (a + n) m ≡ numbers_from a (n + m)
numbers_append a zero m = let e : a + 0 ≡ a = omega arith in let f : 0 + m ≡ m = omega arith in ap (λ k. numbers_from k m) e ∙ ap (numbers_from a) (sym f)
numbers_append a (suc n) m =
    let e : a + suc n ≡ a + 1 + n = omega arith in
    let f : suc n + m ≡ suc (n + m) = omega arith in
    ap (λ k. a ∷ (numbers_from (a + 1) n ++ numbers_from k m)) e ∙ ap (λ xs. a ∷ xs) (numbers_append (a + 1) n m) ∙ ap (numbers_from a) (sym f)

bound_append : (xs ys : List Stmt) → bound_in_all (xs ++ ys) ≡ bound_in_all xs ++ bound_in_all ys
bound_append [] ys = refl
bound_append (x ∷ xs) ys = ap (λ zs. bound_by x.action ++ zs) (bound_append xs ys) ∙ sym (append_assoc (bound_by x.action) (bound_in_all xs) (bound_in_all ys))

bound_items : (n : Count) (row : Row_of-Stmt n) → bound_in row ≡ bound_in_all (items-the_row-Stmt n row)
bound_items n end_of-Stmt = refl
bound_items n (more_of-Stmt start x rest) = ap (λ zs. bound_by x ++ zs) (bound_items _ rest)

bound_if : (c : Condition) (block : Vec Stmt Global) → bound_by (If c block) ≡ bound_in_all block.items
bound_if c block = let row = block_of (If c block) in bound_items row.0 row.1 ∙ ap bound_in_all (items_hidden-the_row-Stmt-0 block)

bound_while : (c : Condition) (block : Vec Stmt Global) → bound_by (While c block) ≡ bound_in_all block.items
bound_while c block = let row = block_of (While c block) in bound_items row.0 row.1 ∙ ap bound_in_all (items_hidden-the_row-Stmt-0 block)

bound_if_else : (c : Condition) (block otherwise : Vec Stmt Global) →
    bound_by (IfElse c block otherwise) ≡ bound_in_all block.items ++ bound_in_all otherwise.items
bound_if_else c block otherwise =
    let row = block_of (IfElse c block otherwise) in
    let row' = else_of (IfElse c block otherwise) in
    ap (λ zs. zs ++ bound_in row'.1) (bound_items row.0 row.1 ∙ ap bound_in_all (items_hidden-the_row-Stmt-0 block))
    ∙ ap (λ zs. bound_in_all block.items ++ zs) (bound_items row'.0 row'.1 ∙ ap bound_in_all (items_hidden-the_row-Stmt-0 otherwise))

nil : (xs : List ℕ) → xs ++ [] ≡ xs
nil [] = refl
nil (x ∷ xs) = ap (λ zs. x ∷ zs) (nil xs)

bound_one : (start : ℕ) (x : Action) → bound_in_all (one start x) ≡ bound_by x
bound_one start x = nil (bound_by x)

-- ---- the next numbers

-- statements bind the numbers from one to another
abbrev pub Numbered : ℕ → List Stmt → ℕ → Type 0
Numbered a ys b = (n : ℕ) × (bound_in_all ys ≡ numbers_from a n) × (a + n ≡ b)

abbrev pub BodiesNumbered : Bodies → Type 0
BodiesNumbered Body =
    (helper count first : ℕ) (body : List Stmt) (r : Option Return) (fresh : ℕ) → Body helper count first body r fresh → Numbered (first + count) body fresh

both : (a b c : ℕ) (xs ys : List Stmt) → Numbered a xs b → Numbered b ys c → Numbered a (xs ++ ys) c
both a b c xs ys (n, e, f) (m, g, h) =
    let k : numbers_from b m ≡ numbers_from (a + n) m = ap (λ z. numbers_from z m) (sym f) in
    (n + m, bound_append xs ys ∙ ap (λ zs. zs ++ bound_in_all ys) e ∙ ap (λ zs. numbers_from a n ++ zs) (g ∙ k) ∙ numbers_append a n m, omega (arith, f, h))

none : (a b : ℕ) (ys : List Stmt) → bound_in_all ys ≡ [] → b ≡ a → Numbered a ys b
none a b ys e f = (0, e, omega (arith, f))

single : (a b : ℕ) (ys : List Stmt) → bound_in_all ys ≡ a ∷ [] → b ≡ a + 1 → Numbered a ys b
single a b ys e f = (1, e, omega (arith, f))

arguments_numbered : (start : ℕ) (scope : List Pair) (es : List Expr) (fresh : ℕ) (lets : List Stmt) →
    Arguments start scope es fresh lets → Numbered fresh lets (fresh + length es)
arguments_numbered start scope [] fresh lets w = none fresh (fresh + 0) lets (ap bound_in_all w) (omega arith)
arguments_numbered start scope (e ∷ es) fresh lets (e', rest, r, w, ws) =
    let first : Numbered fresh (one start (Bind fresh e')) (fresh + 1) = single fresh (fresh + 1) (one start (Bind fresh e')) refl refl in
    let further = arguments_numbered start scope es (fresh + 1) rest ws in
    let together = both fresh (fresh + 1) (fresh + 1 + length es) (one start (Bind fresh e')) rest first further in
    let end : fresh + 1 + length es ≡ fresh + length (e ∷ es) = omega arith in
    subst (λ zs. Numbered fresh zs (fresh + length (e ∷ es))) (sym w) (subst (λ b. Numbered fresh (record { start = start; action = Bind fresh e' } ∷ rest) b) end together)

bound_numbered : (result : Option ℕ) (r : Option Return) (a b : At) (fresh : ℕ) (last : List Stmt) →
    Bound result r a fresh last b → Numbered fresh last b.fresh
bound_numbered None None a b fresh last w = none fresh b.fresh last (ap bound_in_all w.0) (ap (λ (z : At). z.fresh) w.1)
bound_numbered None (Some r) a b fresh last w = single fresh b.fresh last (ap bound_in_all w.0) (ap (λ (z : At). z.fresh) w.1)
bound_numbered (Some k) None a b fresh last w = absurd w
bound_numbered (Some k) (Some r) a b fresh last w = single fresh b.fresh last (ap bound_in_all w.1) (ap (λ (z : At). z.fresh) w.2)

module _ (Body : Bodies) (bodies : BodiesNumbered Body) where
  quiet : (a b : At) (ys : List Stmt) (start : ℕ) (x : Action) → bound_by x ≡ [] → ys ≡ one start x → b ≡ a →
      Numbered a.fresh ys b.fresh
  quiet a b ys start x e w f = none a.fresh b.fresh ys (ap bound_in_all w ∙ bound_one start x ∙ e) (ap (λ (z : At). z.fresh) f)

  mutual
    pub writes_numbered : (x : Action) (start : ℕ) (a b : At) (ys : List Stmt) → Writes Body x start a ys b →
        Numbered a.fresh ys b.fresh
    writes_numbered (Bind k e) start a b ys (e', r, same, w, f) = single a.fresh b.fresh ys (ap bound_in_all w) (ap (λ (z : At). z.fresh) f)
    writes_numbered (SetLocal k e) start a b ys (k', e', c, r, w, f) = quiet a b ys start (SetLocal k' e') refl w f
    writes_numbered (SetGlobal cell e) start a b ys (e', r, w, f) = quiet a b ys start (SetGlobal cell e') refl w f
    writes_numbered (SetElement array i e) start a b ys (i', e', ri, r, w, f) = quiet a b ys start (SetElement array i' e') refl w f
    writes_numbered (SetField p s g e) start a b ys (p', e', rp, r, w, f) = quiet a b ys start (SetField p' s g e') refl w f
    writes_numbered (Call k es result) start a b ys (lets, body, last, r, fresh, args, inside, w, e) =
        let first = arguments_numbered start a.scope es.items a.fresh lets args in
        let second = bodies k (length es.items) a.fresh body r fresh inside in
        let third = bound_numbered result r a b fresh last w in
        subst (λ zs. Numbered a.fresh zs b.fresh) (sym e)
        (both a.fresh (a.fresh + length es.items) b.fresh lets (body ++ last) first (both (a.fresh + length es.items) fresh b.fresh body last second third))
    writes_numbered (Print e) start a b ys (e', r, w, f) = quiet a b ys start (Print e') refl w f
    writes_numbered (If' c m block) start a b ys (c', block', after, t, w, e, f) =
        let inner = row_numbered block a after block'.items w in
        (inner.0, ap bound_in_all e ∙ bound_one start (If c' block') ∙ bound_if c' block' ∙ inner.1, inner.2 ∙ sym (ap (λ (z : At). z.fresh) f))
    writes_numbered (IfElse' c m block k otherwise) start a b ys (c', block', otherwise', middle, after, t, w, w', e, f) =
        let first = row_numbered block a middle block'.items w in
        let second = row_numbered otherwise (behind_block a middle) after otherwise'.items w' in
        let inner = both a.fresh middle.fresh after.fresh block'.items otherwise'.items first second in (
          inner.0,
          ap bound_in_all e ∙ bound_one start (IfElse c' block' otherwise') ∙ bound_if_else c' block' otherwise' ∙ sym (bound_append block'.items otherwise'.items) ∙ inner.1,
          inner.2 ∙ sym (ap (λ (z : At). z.fresh) f),
        )
    writes_numbered (While' c m body) start a b ys (c', body', after, t, w, e, f) =
        let inner = row_numbered body a after body'.items w in
        (inner.0, ap bound_in_all e ∙ bound_one start (While c' body') ∙ bound_while c' body' ∙ inner.1, inner.2 ∙ sym (ap (λ (z : At). z.fresh) f))

    pub row_numbered : {m : _} (row : Row_of-Stmt m) (a b : At) (ys : List Stmt) → WritesRow Body row a ys b →
        Numbered a.fresh ys b.fresh
    row_numbered end_of-Stmt a b ys (e, f) = none a.fresh b.fresh ys (ap bound_in_all e) (ap (λ (z : At). z.fresh) f)
    row_numbered (more_of-Stmt start x rest) a b ys (front, rear, middle, w, ws, e) =
        subst (λ zs. Numbered a.fresh zs b.fresh) (sym e)
        (both a.fresh middle.fresh b.fresh front rear (writes_numbered x start a middle front w) (row_numbered rest middle b rear ws))

  pub all_numbered : (xs : List Stmt) (a b : At) (ys : List Stmt) → WritesAll Body xs a ys b →
      Numbered a.fresh ys b.fresh
  all_numbered [] a b ys (e, f) = none a.fresh b.fresh ys (ap bound_in_all e) (ap (λ (z : At). z.fresh) f)
  all_numbered (x ∷ xs) a b ys (front, rear, middle, w, ws, e) =
      subst (λ zs. Numbered a.fresh zs b.fresh) (sym e)
      (both a.fresh middle.fresh b.fresh front rear (writes_numbered x.action x.start a middle front w) (all_numbered xs middle b rear ws))

pub helpers_numbered : (shape : Shape) (depth : ℕ) → BodiesNumbered (HelpersWritten shape depth)
helpers_numbered shape zero helper count first body r fresh w = absurd w
helpers_numbered shape (suc depth) helper count first body r fresh (h, is, e, (b, w, ends, own, f)) =
    let n = all_numbered (HelpersWritten shape depth) (helpers_numbered shape depth) h.body.items (entered h.parameters first) b body w in
    let start : first + h.parameters ≡ first + count = omega (arith, e) in
    subst (λ z. Numbered (first + count) body z) f (subst (λ z. Numbered z body b.fresh) start n)

-- a section that is written out binds each further local once, in the order of its text
pub written_out_bounds : (shape : Shape) (section section' : Section) → IsWrittenOut shape section section' →
    numbers_from 0 section'.parameters ++ bound_in_all section'.body.items ≡ numbers_from 0 (length section'.locals.items)
written_out_bounds shape section section' w =
    let b = w.body.0 in
    let n = all_numbered (HelpersWritten shape deepest) (helpers_numbered shape deepest) section.body.items (entered section.parameters 0) b section'.body.items w.body.1 in
    let p = w.parameters in
    let last = w.body.4 in
    let start : 0 + section.parameters ≡ 0 + section'.parameters = omega (arith, p) in
    let count : section'.parameters + n.0 ≡ length section'.locals.items = let k = n.2 in omega (arith, k, p, last) in
    ap (λ xs. numbers_from 0 section'.parameters ++ xs) (n.1 ∙ ap (λ z. numbers_from z n.0) start) ∙ numbers_append 0 section'.parameters n.0 ∙ ap (numbers_from 0) count
