-- Blocks of statements as lists, whatever the runs of helpers.
use Rattle.std.proofs.Common.{◌≡◌, ℕ, Vec, Global, refl, ◌∙◌, ap}
use mathlib.Core.Former.{Count}
use Rattle.core_lang.specs.declared.shape.Shape.{Shape}
use Rattle.core_lang.specs.declared.tree.Condition.{Condition}
use Rattle.core_lang.specs.declared.tree.Stmt.{Stmt}
use Rattle.core_lang.specs.declared.tree.Action.{If, IfElse, While, Row_of-Stmt, end_of-Stmt, more_of-Stmt}
use Rattle.core_lang.specs.declared.tree.Action.{items-the_row-Stmt, items_hidden-the_row-Stmt-0}
use Rattle.core_lang.specs.Theory.Lists.{after-same, given-same, choose-same, turns-same, block_of, else_of}
use Rattle.core_lang.specs.Meaning.{State, GoesOn, Helpers, given, choose, turns, truth_of, effect_by, effects_by}
use Rattle.core_lang.specs.Meaning.{sequence_by}

module _ (call : Helpers) where
  effects_items : (k : Count) (row : Row_of-Stmt k) (shape : Shape) (n : ℕ) (s : State) →
      effects_by call row shape n s ≡ sequence_by call (items-the_row-Stmt k row) shape n s
  effects_items k end_of-Stmt shape n s = refl
  effects_items k (more_of-Stmt start action rest) shape n s =
      after-same (effect_by call action shape n s) _ _ (effects_items _ rest shape n)

  block_items : (block : Vec Stmt Global) (k : Count) (row : Row_of-Stmt k) (shape : Shape) (n : ℕ) (s : State) →
      items-the_row-Stmt k row ≡ block.items → effects_by call row shape n s ≡ sequence_by call block.items shape n s
  block_items block k row shape n s e = effects_items k row shape n s ∙ ap (λ ss. sequence_by call ss shape n s) e

  pub effect_if : (c : Condition) (a : Vec Stmt Global) (shape : Shape) (n : ℕ) (s : State) →
      effect_by call (If c a) shape n s
      ≡ given (truth_of c shape s.locals s.heap) s (λ t. choose t (sequence_by call a.items shape n s) (GoesOn s))
  effect_if c a shape n s =
      let row = block_of (If c a) in
      given-same (truth_of c shape s.locals s.heap) s _ _ (λ t.
      choose-same t _ _ _ _ (block_items a row.0 row.1 shape n s (items_hidden-the_row-Stmt-0 a)) refl)

  pub effect_if_else : (c : Condition) (a b : Vec Stmt Global) (shape : Shape) (n : ℕ) (s : State) →
      effect_by call (IfElse c a b) shape n s
      ≡ given (truth_of c shape s.locals s.heap) s (λ t. choose t (sequence_by call a.items shape n s) (sequence_by call b.items shape n s))
  effect_if_else c a b shape n s =
      let first = block_of (IfElse c a b) in
      let second = else_of (IfElse c a b) in
      given-same (truth_of c shape s.locals s.heap) s _ _ (λ t.
      choose-same t _ _ _ _
      (block_items a first.0 first.1 shape n s (items_hidden-the_row-Stmt-0 a))
      (block_items b second.0 second.1 shape n s (items_hidden-the_row-Stmt-0 b)))

  pub effect_while : (c : Condition) (body : Vec Stmt Global) (shape : Shape) (n : ℕ) (s : State) →
      effect_by call (While c body) shape n s ≡ turns n (λ s. truth_of c shape s.locals s.heap) (sequence_by call body.items shape n) s
  effect_while c body shape n s =
      let row = block_of (While c body) in
      turns-same n (λ s. truth_of c shape s.locals s.heap) _ _ s
      (λ s. block_items body row.0 row.1 shape n s (items_hidden-the_row-Stmt-0 body))
