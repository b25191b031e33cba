-- Loops, choices and chains, read through what holds them.
use Rattle.std.proofs.Common.{◌≡◌, ◌∙◌, Global, Vec, List, [], ◌++◌, length, take, sym, ap, ℕ}
use Rattle.std.specs.Prelude.{Box}
use Rattle.std.proofs.lemmas.List.{length-map, take-map}
use Rattle.syntax.specs.declared.tree.Joined as the_joined
use Rattle.syntax.specs.declared.tree.Joined.{Chain}
use Rattle.syntax.specs.declared.tree.Expr as the_expr
use Rattle.syntax.specs.declared.tree.Link as the_link
use Rattle.syntax.specs.declared.tree.Level.{Level}
use Rattle.syntax.specs.declared.tree.Stmt as the_stmt
use Rattle.syntax.specs.declared.tree.Stmt.{If}
use Rattle.syntax.specs.declared.tree.If as the_if
use Rattle.syntax.specs.declared.tree.If.{out-If}
use Rattle.syntax.specs.declared.tree.Item as the_item
use Rattle.syntax.specs.declared.tree.Item.{Repeat}
use Rattle.source.specs.declared.token.Number.{Number}
use Rattle.syntax.specs.Theory.Rows.{if_of-out, joined_of-Chain, item_of_Repeat}
use Rattle.syntax.specs.Trees.{chain, if_then}
use Rattle.syntax.specs.Views.{expr_of, item_of, items_of, joined_of, links_of, stmt_of, if_of, stmts_of, else_of}
use Rattle.explanation_names.specs.declared.search.LocalInScope as the_local
use Rattle.explanation_names.specs.Locals.{LocalInScope, declared_by}
use Rattle.explanation_names.specs.Working.UsesFound.{uses_in_blocks, uses_in_else, uses_in_stmts, uses_of_item}
use Rattle.explanation_names.specs.Working.UsesFound.{uses_of_items}
use Rattle.explanation_names.specs.Working.Values.{typed_of, typed_seen}
use Rattle.explanation_names.proofs.Lists.{front}

pub chain_seen : (e : the_joined.Joined) (k : Level) (first : the_expr.Expr) (links : Vec the_link.Link Global) (ls : List the_link.Link) → e ≡ Chain k first links → ls ≡ links.items →
    chain k (expr_of first) (links_of ls) ≡ joined_of e
chain_seen e k first links ls is here = sym (ap joined_of is ∙ joined_of-Chain k first links ∙ ap (λ l. chain k (expr_of first) (links_of l)) (sym here))

pub if_seen : (s : the_stmt.Stmt) (b : Box the_if.If Global) (x : the_if.If) → s ≡ If b → x ≡ b.value →
    if_then (out-If x).start (expr_of (out-If x).condition) (stmts_of (out-If x).block.stmts.items) (out-If x).block.close (else_of (out-If x).otherwise) ≡ stmt_of s
if_seen s b x is here = sym (if_of-out x) ∙ ap if_of here ∙ sym (ap stmt_of is)

-- the two blocks of a choice, each seen through what holds it
pub blocks_seen : (xs ys : List LocalInScope) (s : the_stmt.Stmt) (b : Box the_if.If Global) (x y : the_if.If) →
    s ≡ If b → x ≡ b.value → y ≡ b.value → ys ≡ xs →
    uses_in_stmts xs (stmts_of (out-If x).block.stmts.items) ++ uses_in_else ys (else_of (out-If y).otherwise) ≡ uses_in_blocks xs (stmt_of s)
blocks_seen xs ys s b x y is here there same =
    ap (λ (zs : List LocalInScope). uses_in_stmts xs (stmts_of (out-If x).block.stmts.items) ++ uses_in_else zs (else_of (out-If y).otherwise)) same
    ∙ ap (λ (z : the_if.If). uses_in_stmts xs (stmts_of (out-If x).block.stmts.items) ++ uses_in_else xs (else_of (out-If z).otherwise)) (there ∙ sym here)
    ∙ ap (uses_in_blocks xs) (if_seen s b x is here)

-- locals that were appended are removed again
pub taken_off : (old new : List the_local.LocalInScope) (n : ℕ) (more : List LocalInScope) → n ≡ length old →
    typed_seen new ≡ typed_seen old ++ more → typed_seen (take n new) ≡ typed_seen old
taken_off old new n more count made =
    sym (take-map typed_of n new) ∙ ap (take n) made
    ∙ ap (λ (k : ℕ). take k (typed_seen old ++ more)) (count ∙ sym (length-map old typed_of))
    ∙ front (typed_seen old) more

-- a choice declares no local of its own
pub none_declared : (s : the_stmt.Stmt) (b : Box the_if.If Global) → s ≡ If b → declared_by (stmt_of s) ≡ []
none_declared s b is = ap (λ (s : the_stmt.Stmt). declared_by (stmt_of s)) is ∙ ap declared_by (if_of-out b.value)

-- the repeated item of a list
pub repeat_seen : (xs : List LocalInScope) (x : the_item.Item) (n : Number) (items : Vec the_item.Item Global) (is : List the_item.Item) → x ≡ Repeat n items → is ≡ items.items →
    uses_of_items xs (items_of is) ≡ uses_of_item xs (item_of x)
repeat_seen xs x n items is shape here =
    ap (λ l. uses_of_items xs (items_of l)) here ∙ sym (ap (uses_of_item xs) (ap item_of shape ∙ item_of_Repeat n items))
