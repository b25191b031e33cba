use Rattle.std.proofs.Common.{List, map, sym, subst}
use Rattle.explanation.specs.Warnings.{warning_of}
use Rattle.source.specs.Tokens.{Tok, seen}
use Rattle.syntax.specs.Grammar.{HasTree}
use Rattle.syntax.specs.Trees.{Decl}
use Rattle.syntax.specs.Views.{tree_of}
use Rattle.explanations.specs.TextWarnings.{AreAllWarnings}
use Rattle.explanations.proofs.text.text_warnings.Goals as goal

-- a text that is refused has no tokens
pub returns-in-Err-Fault : goal.returns-in-Err-Fault
returns-in-Err-Fault c = λ tokens tree few has spells. let e = c.in-Err-Fault.ensures.only tokens few has in absurd cc

-- the tokens of a text that is refused have no tree
pub returns-in_default : goal.returns-in_default
returns-in_default c = λ tokens tree few has spells.
    let none = rw c.deref.ensures.value at (rw c.in_default.is at c.in_ok-tree.ensures) in
    absurd (none tree (subst (λ (ts : List Tok). HasTree ts tree) (sym (c.in-Ok.ensures.only tokens few has)) spells))

pub returns : goal.returns
returns c = λ tokens tree few has spells.
    let found = rw c.deref.ensures.value at (rw c.in-Some.is at c.in_ok-tree.ensures) in
    subst (λ (ds : List Decl). AreAllWarnings ds c.args.listed.now.program.now (map warning_of c.push.new.warnings.items))
    (c.one_tree.ensures (seen c.in-Ok.tokens.items) (tree_of c.in-Some.tree) tree found
    (subst (λ (ts : List Tok). HasTree ts tree) (sym (c.in-Ok.ensures.only tokens few has)) spells)) (record {
      of_tree = map warning_of c.in_ok-warnings.warnings.items;
      are = c.in_ok-warnings.ensures;
      whole = rw c.deref-2.ensures.value at c.in_ok-push.ensures;
    })
