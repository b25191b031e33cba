-- The places where the points of statements begin, over the items of each `Vec`.
use Rattle.std.specs.Prelude.{◌≡◌, ℕ, ◌+◌, List, [], ◌∷◌, ◌++◌, length, Option}
use Rattle.std.proofs.Common.{refl, sym, ap, ◌∙◌, Vec, Global, append_assoc, append-nil, length-append, arith}
use mathlib.Core.Former.{Count}
use Rattle.core_lang.specs.declared.tree.Condition.{Condition}
use Rattle.core_lang.specs.declared.tree.Stmt.{Stmt}
use Rattle.core_lang.specs.declared.tree.Action.{If, IfElse, While, Row_of-Stmt, end_of-Stmt, more_of-Stmt}
use Rattle.core_lang.specs.declared.tree.Action.{items-the_row-Stmt, items_hidden-the_row-Stmt-0}
use Rattle.core_lang.specs.declared.tree.Return.{Return}
use Rattle.core_lang.specs.Theory.Lists.{block_of, else_of}
use Rattle.code.specs.Lowering.{test_code, points_of, points_in, stmt_code, block_code}
use Rattle.code.specs.LineTables.{behind_test, stmt_begins, block_begins, end_begins, body_begins}
use Rattle.lowering.specs.Working.CodeLists.{points_of_all, sequence_code, sequence_begins}
use Rattle.lowering.proofs.CodeViews.{points_in-vec, block_code-vec}

module _ {P : Type 0} (lists : List (List P)) where
  pub block_begins-items : (n : Count) (row : Row_of-Stmt n) (point place : ℕ) →
      block_begins lists row point place ≡ sequence_begins lists (items-the_row-Stmt n row) point place
  block_begins-items n end_of-Stmt point place = refl
  block_begins-items n (more_of-Stmt start action rest) point place =
      ap (λ c. stmt_begins lists action point place ++ c)
      (block_begins-items _ rest (point + points_of action) (place + length (stmt_code lists action point)))

  block_begins-vec : (block : Vec Stmt Global) (n : Count) (row : Row_of-Stmt n) (point place : ℕ) →
      items-the_row-Stmt n row ≡ block.items →
      block_begins lists row point place ≡ sequence_begins lists block.items point place
  block_begins-vec block n row point place e =
      block_begins-items n row point place ∙ ap (λ ss. sequence_begins lists ss point place) e

  pub stmt_begins-If : (c : Condition) (a : Vec Stmt Global) (point place : ℕ) →
      stmt_begins lists (If c a) point place
      ≡ place ∷ sequence_begins lists a.items (point + 1) (behind_test lists (test_code c) point place)
  stmt_begins-If c a point place =
      let one = block_of (If c a) in
      ap (λ l. place ∷ l) (block_begins-vec a one.0 one.1 (point + 1) _ (items_hidden-the_row-Stmt-0 a))

  pub stmt_begins-While : (c : Condition) (a : Vec Stmt Global) (point place : ℕ) →
      stmt_begins lists (While c a) point place
      ≡ place ∷ sequence_begins lists a.items (point + 1) (behind_test lists (test_code c) point place)
  stmt_begins-While c a point place =
      let one = block_of (While c a) in
      ap (λ l. place ∷ l) (block_begins-vec a one.0 one.1 (point + 1) _ (items_hidden-the_row-Stmt-0 a))

  pub stmt_begins-IfElse : (c : Condition) (a b : Vec Stmt Global) (point place : ℕ) →
      stmt_begins lists (IfElse c a b) point place
      ≡ place ∷ (sequence_begins lists a.items (point + 1) (behind_test lists (test_code c) point place)
      ++ sequence_begins lists b.items (point + 1 + points_of_all a.items)
      (behind_test lists (test_code c) point place + length (sequence_code lists a.items (point + 1)) + 1))
  stmt_begins-IfElse c a b point place =
      let one = block_of (IfElse c a b) in
      let two = else_of (IfElse c a b) in
      let at = behind_test lists (test_code c) point place in
      let first = items_hidden-the_row-Stmt-0 a in
      let second = items_hidden-the_row-Stmt-0 b in
      let code = block_code-vec lists a one.0 one.1 (point + 1) first in
      let count = points_in-vec a one.0 one.1 first in
      ap (λ l. place ∷ (l ++ block_begins lists two.1 (point + 1 + points_in one.1) (at + length (block_code lists one.1 (point + 1)) + 1)))
      (block_begins-vec a one.0 one.1 (point + 1) at first)
      ∙ ap (λ l. place ∷ (sequence_begins lists a.items (point + 1) at ++ l))
      (block_begins-vec b two.0 two.1 (point + 1 + points_in one.1) _ second
      ∙ ap (λ n. sequence_begins lists b.items (point + 1 + n) (at + length (block_code lists one.1 (point + 1)) + 1)) count
      ∙ ap (λ is. sequence_begins lists b.items (point + 1 + points_of_all a.items) (at + length is + 1)) code)

  -- a body is its statements, and its end after them
  pub body_begins-split : (ss : List Stmt) (point place : ℕ) (result : Option Return) →
      body_begins lists ss point place result
      ≡ sequence_begins lists ss point place ++ end_begins result (place + length (sequence_code lists ss point))
  body_begins-split [] point place result = let e : place ≡ place + 0 = omega arith in ap (end_begins result) e
  body_begins-split (s ∷ ss) point place result =
      let here = stmt_code lists s.action point in
      let next = point + points_of s.action in
      let behind = sequence_code lists ss next in
      let far : (place + length here) + length behind ≡ place + length (here ++ behind) = omega (arith, length-append here behind) in
      ap (λ l. stmt_begins lists s.action point place ++ l) (body_begins-split ss next (place + length here) result)
      ∙ sym (append_assoc (stmt_begins lists s.action point place) (sequence_begins lists ss next (place + length here)) (end_begins result ((place + length here) + length behind)))
      ∙ ap (λ n. (stmt_begins lists s.action point place ++ sequence_begins lists ss next (place + length here)) ++ end_begins result n) far

  pub begins-append : (ss : List Stmt) (s : Stmt) (point place : ℕ) →
      sequence_begins lists (ss ++ s ∷ []) point place
      ≡ sequence_begins lists ss point place
      ++ stmt_begins lists s.action (point + points_of_all ss) (place + length (sequence_code lists ss point))
  begins-append [] s point place =
      let e : point ≡ point + 0 = omega arith in let f : place ≡ place + 0 = omega arith in
      append-nil (stmt_begins lists s.action point place) ∙ ap (λ n. stmt_begins lists s.action n place) e
      ∙ ap (stmt_begins lists s.action (point + 0)) f
  begins-append (x ∷ ss) s point place =
      let here = stmt_code lists x.action point in
      let next = point + points_of x.action in
      let behind = sequence_code lists ss next in
      let all = stmt_begins lists x.action point place in
      let more = sequence_begins lists ss next (place + length here) in
      let n : next + points_of_all ss ≡ point + (points_of x.action + points_of_all ss) = omega arith in
      let far : (place + length here) + length behind ≡ place + length (here ++ behind) = omega (arith, length-append here behind) in
      ap (λ l. all ++ l) (begins-append ss s next (place + length here))
      ∙ sym (append_assoc all more (stmt_begins lists s.action (next + points_of_all ss) ((place + length here) + length behind)))
      ∙ ap (λ k. (all ++ more) ++ stmt_begins lists s.action k ((place + length here) + length behind)) n
      ∙ ap (λ k. (all ++ more) ++ stmt_begins lists s.action (point + (points_of x.action + points_of_all ss)) k) far
