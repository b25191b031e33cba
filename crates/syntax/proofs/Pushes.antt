-- Printed texts that are written in other pieces than those of the tree's text.
use Rattle.std.proofs.Common.{◌≡◌, ℕ, ◌<◌, ◌≤◌, ◌-◌, zero, suc, List, [], ◌∷◌, ◌++◌, Vec, Global, length, get_or}
use Rattle.std.proofs.Common.{take, drop, map, refl, sym, ap, ◌∙◌, append_assoc, arith}
use Rattle.std.specs.Prelude.{Box, codes}
use Rattle.std.proofs.lemmas.List.{append-nil, take_all}
use Rattle.syntax.specs.declared.tree.Operator.{Operator}
use Rattle.syntax.specs.declared.tree.Level.{Level}
use Rattle.syntax.specs.declared.tree.Expr as the_expr
use Rattle.syntax.specs.declared.tree.Joined as the_joined
use Rattle.syntax.specs.declared.tree.Joined.{Chain}
use Rattle.syntax.specs.declared.tree.Link as the_link
use Rattle.syntax.specs.declared.tree.Stmt as the_stmt
use Rattle.syntax.specs.declared.tree.Stmt.{While}
use Rattle.syntax.specs.declared.tree.If as the_if
use Rattle.syntax.specs.declared.tree.If.{out-If}
use Rattle.syntax.specs.declared.tree.While as the_while
use Rattle.source.specs.declared.token.Number.{Number}
use Rattle.syntax.specs.declared.tree.Item as the_item
use Rattle.syntax.specs.declared.tree.Item.{Repeat}
use Rattle.std.specs.Fmt.{decimal}
use Rattle.syntax.specs.Trees.{Expr, ClassName}
use Rattle.syntax.specs.Views.{expr_of, pair_of, joined_of, links_of, stmt_of, if_of, stmts_of, else_of, item_of}
use Rattle.syntax.specs.Views.{items_of}
use Rattle.syntax.specs.Working.Printing.{many_text, after_comma, listed_text, op_text, expr_text, links_text, indent}
use Rattle.syntax.specs.Working.Printing.{deeper, braced, stmt_text, stmts_text, else_text, class_name_text}
use Rattle.syntax.specs.Working.Printing.{whole_text, item_text, items_text}
use Rattle.syntax.specs.Theory.Rows.{joined_of-Chain, while_of, stmt_of-While, if_of-out, item_of_Repeat}

pub indent_is : (d : ℕ) → (d ≡ 0 → ⊥) → codes "    " ++ indent (d - 1) ≡ indent d
indent_is zero some = absurd (some refl)
indent_is (suc d) some =
    let less : suc d - 1 ≡ d = omega arith in
    ap (λ n. codes "    " ++ indent n) less

-- ---- lists with commas

pub none_listed : {A B : Type 0} (text : B → List ℕ) (view : A → B) (xs : List A) → length xs < 1 →
    [] ≡ listed_text text (map view xs)
none_listed text view [] none = refl
none_listed text view (x ∷ xs) none = absurd (omega arith)

pub some_listed : {A B : Type 0} (text : B → List ℕ) (view : A → B) (xs : List A) (x : A) → 1 ≤ length xs →
    x ≡ get_or xs 0 x
    → text (view x) ++ many_text (after_comma text) (map view (take (length xs - 1) (drop 1 xs))) ≡ listed_text text (map view xs)
some_listed text view [] x some is = absurd (omega arith)
some_listed text view (y ∷ ys) x some is =
    let all : length ys ≤ length (y ∷ ys) - 1 = omega arith in
    ap (λ l. text (view x) ++ many_text (after_comma text) (map view l)) (take_all _ ys all)
    ∙ ap (λ z. text (view z) ++ many_text (after_comma text) (map view ys)) is

-- ---- classes that a section takes whole

pub none_whole : {A : Type 0} (view : A → ClassName) (cs : List A) → length cs < 1 → [] ≡ whole_text (map view cs)
none_whole view [] none = refl
none_whole view (c ∷ cs) none = absurd (omega arith)

whole_line : (l x xs r : List ℕ) → ((l ++ x) ++ xs) ++ r ≡ (l ++ (x ++ xs)) ++ r
whole_line l x xs r = simp append_assoc

pub some_whole : {A : Type 0} (view : A → ClassName) (cs : List A) (c : A) → 1 ≤ length cs → c ≡ get_or cs 0 c
    → codes " lock(" ++ class_name_text (view c) ++ many_text (after_comma class_name_text) (map view (take (length cs - 1) (drop 1 cs))) ++ codes ")" ≡ whole_text (map view cs)
some_whole view [] c some is = absurd (omega arith)
some_whole view (d ∷ ds) c some is =
    let text = class_name_text in
    let rest = map view (take (length (d ∷ ds) - 1) (drop 1 (d ∷ ds))) in
    whole_line (codes " lock(") (text (view c)) (many_text (after_comma text) rest) (codes ")")
    ∙ ap (λ (l : List ℕ). codes " lock(" ++ l ++ codes ")") (some_listed text view (d ∷ ds) c some is)

-- ---- a `Vec` in a recursive type

pub pair_is : (op : Operator) (left right : Expr) →
    expr_text left ++ (op_text op ++ expr_text right) ≡ expr_text (pair_of op left right)
pair_is op left right = ap (λ (s : List ℕ). expr_text left ++ s) (sym (append-nil (op_text op ++ expr_text right)))

pub chain_is : (j : the_joined.Joined) (k : Level) (first : the_expr.Expr) (links : Vec the_link.Link Global) →
    j ≡ Chain k first links → expr_text (expr_of first) ++ links_text (links_of links.items) ≡ expr_text (joined_of j)
chain_is j k first links is = sym (ap expr_text (ap joined_of is ∙ joined_of-Chain k first links))

pub while_is : (d : ℕ) (w : the_while.While) →
    codes "while (" ++ expr_text (expr_of w.condition) ++ codes ")" ++ braced d (stmts_text (deeper d) (stmts_of w.block.stmts.items)) ≡ stmt_text d (while_of w)
while_is d w = refl

pub loop_is : (d : ℕ) (s : the_stmt.Stmt) (b : Box the_while.While Global) → s ≡ While b →
    stmt_text d (while_of b.value) ≡ stmt_text d (stmt_of s)
loop_is d s b is = sym (ap (stmt_text d) (ap stmt_of is ∙ stmt_of-While b))

pub if_is : (d : ℕ) (i : the_if.If) →
    codes "if (" ++ expr_text (expr_of (out-If i).condition) ++ codes ")" ++ braced d (stmts_text (deeper d) (stmts_of (out-If i).block.stmts.items)) ++ else_text d (else_of (out-If i).otherwise) ≡ stmt_text d (if_of i)
if_is d i = sym (ap (stmt_text d) (if_of-out i))

in_braces : (before o lines line margin last : List ℕ) →
    ((((before ++ o) ++ lines) ++ line) ++ margin) ++ last ≡ before ++ ((((o ++ lines) ++ line) ++ margin) ++ last)
in_braces before o lines line margin last = simp append_assoc

pub repeat_is : (d : ℕ) (x : the_item.Item) (n : Number) (items : Vec the_item.Item Global) → x ≡ Repeat n items →
    codes "repeat " ++ decimal n.value ++ codes " {" ++ items_text (deeper d) (items_of items.items) ++ codes "\n" ++ indent d ++ codes "}" ≡ item_text d (item_of x)
repeat_is d x n items is =
    in_braces (codes "repeat " ++ decimal n.value) (codes " {") (items_text (deeper d) (items_of items.items)) (codes "\n") (indent d) (codes "}")
    ∙ sym (ap (item_text d) (ap item_of is ∙ item_of_Repeat n items))
