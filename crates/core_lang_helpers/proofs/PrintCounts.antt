-- The prints of statements, over the items of each `Vec`.
use Rattle.std.specs.Prelude.{◌≡◌, ◌≢◌, ◌+◌, ℕ, zero, suc, min, List}
use Rattle.std.proofs.Common.{refl, ap, sym, ◌∙◌, Vec, Global, arith}
use mathlib.Core.Former.{Count}
use Rattle.core_lang.specs.declared.tree.Condition.{Condition}
use Rattle.core_lang.specs.declared.tree.Stmt.{Stmt}
use Rattle.core_lang.specs.declared.tree.Action.{Action, If, IfElse, While, Row_of-Stmt, end_of-Stmt, more_of-Stmt}
use Rattle.core_lang.specs.declared.tree.Action.{items-the_row-Stmt, items_hidden-the_row-Stmt-0}
use Rattle.core_lang.specs.Theory.Lists.{block_of, else_of}
use Rattle.core_lang_helpers.specs.Prints.{repeated, prints_in, prints_in_row, prints_in_all}

row-items : (n : Count) (row : Row_of-Stmt n) → prints_in_row row ≡ prints_in_all (items-the_row-Stmt n row)
row-items n end_of-Stmt = refl
row-items n (more_of-Stmt start action rest) = ap (λ k. prints_in action + k) (row-items _ rest)

row-vec : (block : Vec Stmt Global) (n : Count) (row : Row_of-Stmt n) → items-the_row-Stmt n row ≡ block.items →
    prints_in_row row ≡ prints_in_all block.items
row-vec block n row e = row-items n row ∙ ap prints_in_all e

in_if : (c : Condition) (a : Vec Stmt Global) → prints_in (If c a) ≡ prints_in_all a.items
in_if c a =
    let one = block_of (If c a) in row-vec a one.0 one.1 (items_hidden-the_row-Stmt-0 a)

in_if_else : (c : Condition) (a b : Vec Stmt Global) →
    prints_in (IfElse c a b) ≡ prints_in_all a.items + prints_in_all b.items
in_if_else c a b =
    let one = block_of (IfElse c a b) in
    let two = else_of (IfElse c a b) in
    ap (λ k. k + prints_in_row two.1) (row-vec a one.0 one.1 (items_hidden-the_row-Stmt-0 a))
    ∙ ap (λ k. prints_in_all a.items + k) (row-vec b two.0 two.1 (items_hidden-the_row-Stmt-0 b))

in_while : (c : Condition) (body : Vec Stmt Global) → prints_in (While c body) ≡ repeated (prints_in_all body.items)
in_while c body =
    let one = block_of (While c body) in ap repeated (row-vec body one.0 one.1 (items_hidden-the_row-Stmt-0 body))

-- the number that the code counts
pub if_prints : (x : Action) (c : Condition) (a : Vec Stmt Global) (items : List Stmt) (n : ℕ) → x ≡ If c a → items ≡ a.items →
    n ≡ min 256 (prints_in_all items) → n ≡ min 256 (prints_in x)
if_prints x c a items n is all h =
    h ∙ ap (λ xs. min 256 (prints_in_all xs)) all ∙ sym (ap (min 256) (ap prints_in is ∙ in_if c a))

pub if_else_prints : (x : Action) (c : Condition) (a b : Vec Stmt Global) (xs ys : List Stmt) (n m r : ℕ) → x ≡ IfElse c a b →
    xs ≡ a.items → ys ≡ b.items → n ≡ min 256 (prints_in_all xs) → m ≡ min 256 (prints_in_all ys) → r ≡ min (n + m) 256 →
    r ≡ min 256 (prints_in x)
if_else_prints x c a b xs ys n m r is alla allb hn hm h =
    let both : prints_in x ≡ prints_in_all xs + prints_in_all ys =
    ap prints_in is ∙ in_if_else c a b ∙ ap (λ k. k + prints_in_all b.items) (ap prints_in_all (sym alla))
    ∙ ap (λ k. prints_in_all xs + k) (ap prints_in_all (sym allb)) in
    omega (arith, both, hn, hm, h)

in_while_is : (x : Action) (c : Condition) (body : Vec Stmt Global) (items : List Stmt) → x ≡ While c body →
    items ≡ body.items → prints_in x ≡ repeated (prints_in_all items)
in_while_is x c body items is all = ap prints_in is ∙ in_while c body ∙ ap (λ xs. repeated (prints_in_all xs)) (sym all)

none_repeated : (k : ℕ) → 0 ≡ min 256 k → 0 ≡ min 256 (repeated k)
none_repeated zero h = refl
none_repeated (suc k) h = absurd (omega (arith, h))

some_repeated : (n k : ℕ) → n ≡ min 256 k → n ≢ 0 → 256 ≡ min 256 (repeated k)
some_repeated n zero h some = absurd (some (omega (arith, h)))
some_repeated n (suc k) h some = refl

pub while_none : (x : Action) (c : Condition) (body : Vec Stmt Global) (items : List Stmt) (n : ℕ) → x ≡ While c body →
    items ≡ body.items → n ≡ min 256 (prints_in_all items) → n ≡ 0 → 0 ≡ min 256 (prints_in x)
while_none x c body items n is all h none =
    none_repeated (prints_in_all items) (sym none ∙ h) ∙ ap (min 256) (sym (in_while_is x c body items is all))

pub while_some : (x : Action) (c : Condition) (body : Vec Stmt Global) (items : List Stmt) (n : ℕ) → x ≡ While c body →
    items ≡ body.items → n ≡ min 256 (prints_in_all items) → n ≢ 0 → 256 ≡ min 256 (prints_in x)
while_some x c body items n is all h some =
    some_repeated n (prints_in_all items) h some ∙ ap (min 256) (sym (in_while_is x c body items is all))
