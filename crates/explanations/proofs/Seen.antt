-- The tree of the code and the tree of the definitions.
use Rattle.std.proofs.Common.{◌≡◌, ◌∙◌, Global, List, Vec, sym, ap}
use Rattle.std.specs.Prelude.{Box}
use Rattle.source.specs.declared.token.Number.{Number}
use Rattle.syntax.specs.declared.tree.Expr as the_expr
use Rattle.syntax.specs.declared.tree.If as the_if
use Rattle.syntax.specs.declared.tree.If.{out-If}
use Rattle.syntax.specs.declared.tree.Item as the_item
use Rattle.syntax.specs.declared.tree.Item.{Repeat}
use Rattle.syntax.specs.declared.tree.Joined as the_joined
use Rattle.syntax.specs.declared.tree.Joined.{Chain}
use Rattle.syntax.specs.declared.tree.Level.{Level}
use Rattle.syntax.specs.declared.tree.Link as the_link
use Rattle.syntax.specs.declared.tree.Stmt as the_stmt
use Rattle.syntax.specs.declared.tree.Stmt.{If}
use Rattle.syntax.specs.declared.tree.While as the_while
use Rattle.syntax.specs.Theory.Rows.{if_of-out, item_of_Repeat, joined_of-Chain}
use Rattle.syntax.specs.Trees.{chain, if_then, repeat}
use Rattle.syntax.specs.Views.{else_of, expr_of, if_of, item_of, items_of, joined_of, links_of, stmt_of, stmts_of}

-- a choice by its parts
pub if_seen : (s : the_stmt.Stmt) (b : Box the_if.If Global) → s ≡ If b → stmt_of s
    ≡ if_then (out-If b.value).start (expr_of (out-If b.value).condition) (stmts_of (out-If b.value).block.stmts.items) (out-If b.value).block.close (else_of (out-If b.value).otherwise)
if_seen s b is = ap stmt_of is ∙ if_of-out b.value

-- the same for the parts of a choice, and for a chain and a repetition
pub if_parts : (s : the_stmt.Stmt) (b : Box the_if.If Global) (x : the_if.If) → s ≡ If b → x ≡ b.value →
    if_then (out-If x).start (expr_of (out-If x).condition) (stmts_of (out-If x).block.stmts.items) (out-If x).block.close (else_of (out-If x).otherwise) ≡ stmt_of s
if_parts s b x is here = sym (if_of-out x) ∙ ap if_of here ∙ sym (ap stmt_of is)

pub chain_parts : (e : the_joined.Joined) (k : Level) (first : the_expr.Expr) (links : Vec the_link.Link Global) (ls : List the_link.Link) → e ≡ Chain k first links → ls ≡ links.items →
    chain k (expr_of first) (links_of ls) ≡ joined_of e
chain_parts e k first links ls is here = sym (ap joined_of is ∙ joined_of-Chain k first links ∙ ap (λ l. chain k (expr_of first) (links_of l)) (sym here))

pub repeat_parts : (x : the_item.Item) (n : Number) (items : Vec the_item.Item Global) (is : List the_item.Item) → x ≡ Repeat n items → is ≡ items.items →
    repeat n (items_of is) ≡ item_of x
repeat_parts x n items is same here = sym (ap item_of same ∙ item_of_Repeat n items ∙ ap (λ l. repeat n (items_of l)) (sym here))
