-- The view of a `Vec` in a tree is that of the same `Vec` by itself. Nobody has to believe these equations: they are
-- proved here, for proofs of this crate and of the crates above.
use Rattle.std.specs.Prelude.{Box}
use Rattle.std.proofs.Common.{◌≡◌, Vec, Global, Option, refl, sym, ap, ◌∙◌}
use mathlib.Core.Former.{Count}
use Rattle.source.specs.declared.span.Span.{Span}
use Rattle.syntax.specs.declared.tree.Level.{Level}
use Rattle.source.specs.declared.token.Number.{Number}
use Rattle.syntax.specs.declared.tree.Expr as the_expr
use Rattle.syntax.specs.declared.tree.Joined as the_joined
use Rattle.syntax.specs.declared.tree.Joined.{Chain, Row_of-Link, end_of-Link, more_of-Link, items-the_row-Link}
use Rattle.syntax.specs.declared.tree.Joined.{items_hidden-the_row-Link-0}
use Rattle.syntax.specs.declared.tree.Link as the_link
use Rattle.syntax.specs.declared.tree.Stmt as the_stmt
use Rattle.syntax.specs.declared.tree.Stmt.{While, If, Row_of-Stmt, end_of-Stmt, more_of-Stmt, items-the_row-Stmt}
use Rattle.syntax.specs.declared.tree.Stmt.{items_hidden-the_row-Stmt-0}
use Rattle.syntax.specs.declared.tree.Stmt.TheBlock.{view-If-otherwise, shown-the_row-Stmt-0}
use Rattle.syntax.specs.declared.tree.Stmt.TheBlock.{items_shown-the_row-Stmt-0}
use Rattle.syntax.specs.declared.tree.If as the_if
use Rattle.syntax.specs.declared.tree.If.{out-If, roll-If, out-roll-If}
use Rattle.syntax.specs.declared.tree.While as the_while
use Rattle.syntax.specs.declared.tree.While.{roll-While}
use Rattle.syntax.specs.declared.tree.Block as the_block
use Rattle.syntax.specs.declared.tree.Item as the_item
use Rattle.syntax.specs.declared.tree.Item.{Repeat, Row_of-Item, end_of-Item, more_of-Item, items-the_row-Item}
use Rattle.syntax.specs.declared.tree.Item.{items_hidden-the_row-Item-0}
use Rattle.syntax.specs.Trees.{chain, link, Stmt, while, if_then, stmt, else_do, repeat, item}
use Rattle.syntax.specs.Views.{expr_of, joined_of, links_of_row, links_of, stmt_of, if_of, otherwise_of, stmts_of_row}
use Rattle.syntax.specs.Views.{stmts_of, else_of, item_of, items_of_row, items_of}

links_of_row-items : (n : _) (row : Row_of-Link n) → links_of_row row ≡ links_of (items-the_row-Link n row)
links_of_row-items n end_of-Link = refl
links_of_row-items n (more_of-Link op x rest) = ap (link op (expr_of x)) (links_of_row-items _ rest)

abbrev link_row : the_joined.Joined → (n : Count) × Row_of-Link n
link_row (the_joined.Chain' _ _ _ row) = (_, row)
link_row _ = (_, end_of-Link)

pub joined_of-Chain : (k : Level) (first : the_expr.Expr) (links : Vec the_link.Link Global) →
    joined_of (Chain k first links) ≡ chain k (expr_of first) (links_of links.items)
joined_of-Chain k first links =
    let row = link_row (Chain k first links) in
    ap (chain k (expr_of first)) (links_of_row-items row.0 row.1 ∙ ap links_of (items_hidden-the_row-Link-0 links))

-- ---- statements

stmts_of_row-items : (n : _) (row : Row_of-Stmt n) → stmts_of_row row ≡ stmts_of (items-the_row-Stmt n row)
stmts_of_row-items n end_of-Stmt = refl
stmts_of_row-items n (more_of-Stmt x rest) = ap (stmt (stmt_of x)) (stmts_of_row-items _ rest)

abbrev stmt_row : the_stmt.Stmt → (n : Count) × Row_of-Stmt n
stmt_row (the_stmt.While' _ _ _ _ row _) = (_, row)
stmt_row _ = (_, end_of-Stmt)

abbrev pub while_of : the_while.While → Stmt
while_of w = while w.start (expr_of w.condition) (stmts_of w.block.stmts.items) w.block.close

pub stmt_of-While : (b : Box the_while.While Global) → stmt_of (While b) ≡ while_of b.value
stmt_of-While b =
    let row = stmt_row (While b) in
    ap (λ ss. while b.value.start (expr_of b.value.condition) ss b.value.block.close) (stmts_of_row-items row.0 row.1 ∙ ap stmts_of (items_hidden-the_row-Stmt-0 b.value.block.stmts))

-- of a loop in its box
pub while_seen : (s : the_stmt.Stmt) (b : Box the_while.While Global) (x : the_while.While) → s ≡ While b →
    x ≡ b.value → while_of x ≡ stmt_of s
while_seen s b x is same = ap while_of same ∙ sym (ap stmt_of is ∙ stmt_of-While b)

-- of a loop that was put together
pub stmt_of-made_While : (b : Box the_while.While Global) (start : Span) (condition : the_expr.Expr) (block : the_block.Block)
    → b.value ≡ roll-While (record { start = start; condition = condition; block = block })
    → stmt_of (While b) ≡ while start (expr_of condition) (stmts_of block.stmts.items) block.close
stmt_of-made_While b start condition block made = stmt_of-While b ∙ ap while_of made

stmts_of_row-shown : (n : _) (row : Row_of-Stmt _) → stmts_of_row row ≡ stmts_of (shown-the_row-Stmt-0 n row).items
stmts_of_row-shown n row = stmts_of_row-items _ row ∙ ap stmts_of (sym (items_shown-the_row-Stmt-0 n row))

held_other : (o : the_if.Held-If-otherwise) → otherwise_of o ≡ else_of (view-If-otherwise o)
held_other the_if.None' = refl
held_other (the_if.Some' n row close) = ap (λ ss. else_do ss close) (stmts_of_row-shown n row)

pub if_of-out : (i : the_if.If) →
    if_of i ≡ if_then (out-If i).start (expr_of (out-If i).condition) (stmts_of (out-If i).block.stmts.items) (out-If i).block.close (else_of (out-If i).otherwise)
unfolding out-If shown-the_row-Stmt-0 denote.Hole.Carrier.out
if_of-out (the_if.If' start e n row close other) =
    ap (λ ss. if_then start (expr_of e) ss close (otherwise_of other)) (stmts_of_row-shown n row)
    ∙ ap (if_then start (expr_of e) (stmts_of (shown-the_row-Stmt-0 n row).items) close) (held_other other)

-- of a choice that was put together
pub stmt_of-made_If : (b : Box the_if.If Global) (start : Span) (condition : the_expr.Expr) (block : the_block.Block) (otherwise : Option the_block.Block)
    → b.value ≡ roll-If (record { start = start; condition = condition; block = block; otherwise = otherwise })
    → stmt_of (If b) ≡ if_then start (expr_of condition) (stmts_of block.stmts.items) block.close (else_of otherwise)
stmt_of-made_If b start condition block otherwise made =
    if_of-out b.value ∙ rw (made, out-roll-If (record { start = start; condition = condition; block = block; otherwise = otherwise })) refl

-- ---- what a thread does

items_of_row-items : (n : _) (row : Row_of-Item n) → items_of_row row ≡ items_of (items-the_row-Item n row)
items_of_row-items n end_of-Item = refl
items_of_row-items n (more_of-Item x rest) = ap (item (item_of x)) (items_of_row-items _ rest)

abbrev item_row : the_item.Item → (n : Count) × Row_of-Item n
item_row (the_item.Repeat' _ _ row) = (_, row)
item_row _ = (_, end_of-Item)

pub item_of_Repeat : (n : Number) (items : Vec the_item.Item Global) →
    item_of (Repeat n items) ≡ repeat n (items_of items.items)
item_of_Repeat n items =
    let row = item_row (Repeat n items) in
    ap (repeat n) (items_of_row-items row.0 row.1 ∙ ap items_of (items_hidden-the_row-Item-0 items))
