-- The operand stack of a section has room for each of its points.
use Rattle.std.proofs.Common.{◌≡◌, ℕ, ◌+◌, ◌≤◌, max, List, [], ◌∷◌, Option, Some, None, inl, inr, sym, subst, arith}
use Rattle.std.proofs.Math.Nat.{le-max_left, le-max_right}
use Rattle.core_lang.specs.declared.tree.Stmt.{Stmt}
use Rattle.core_lang.specs.declared.tree.Action.{Action, Bind, SetLocal, SetGlobal, SetElement, SetField, Call, Print}
use Rattle.core_lang.specs.declared.tree.Action.{If', IfElse', While', Row_of-Stmt, end_of-Stmt, more_of-Stmt}
use Rattle.core_lang.specs.declared.tree.Return.{Return as Result_of}
use Rattle.core_lang.specs.declared.tree.Section.{Section}
use Rattle.flow.specs.Points.{Point, statement, result}
use Rattle.code.specs.Needs.{expr_need, test_need, stmt_need, block_need, end_need, body_need, operand_need}
use Rattle.code.specs.Working.Spots.{Spot, spot, Inside, InBlock, InBody, InSection}

abbrev pub own_need : Action → ℕ
own_need (If' c m block) = test_need c
own_need (IfElse' c m block k otherwise) = test_need c
own_need (While' c m body) = test_need c
own_need action = stmt_need action

abbrev pub point_need : Point → ℕ
point_need (statement start action) = own_need action
point_need (result r) = expr_need r.value

own_within : (action : Action) → own_need action ≤ stmt_need action
own_within (If' c m block) = le-max_left (test_need c) (block_need block)
own_within (IfElse' c m block k otherwise) = le-max_left (test_need c) (max (block_need block) (block_need otherwise))
own_within (While' c m body) = le-max_left (test_need c) (block_need body)
own_within (Bind k e) = omega arith
own_within (SetLocal k e) = omega arith
own_within (SetGlobal cell e) = omega arith
own_within (SetElement array i e) = omega arith
own_within (SetField path s f e) = omega arith
own_within (Call f es r) = omega arith
own_within (Print e) = omega arith

module _ {P : Type 0} (lists : List (List P)) where
  here_within : (x : Spot) (n place start : ℕ) (action : Action) → x ≡ spot n place (statement start action) →
      point_need x.point ≤ stmt_need action
  here_within x n place start action e = subst (λ y. point_need y.point ≤ stmt_need action) (sym e) (own_within action)

  mutual
    inside_within : (action : Action) (n place : ℕ) (x : Spot) → Inside lists action n place x →
        point_need x.point ≤ stmt_need action
    inside_within (If' c m block) n place x h = let a = block_within block (n + 1) _ x h in let l = le-max_right (test_need c) (block_need block) in omega (arith, a, l)
    inside_within (IfElse' c m block k otherwise) n place x h =
        let l = le-max_right (test_need c) (max (block_need block) (block_need otherwise)) in
        elim h [
          | inl first ↦ let a = block_within block (n + 1) _ x first in let l' = le-max_left (block_need block) (block_need otherwise) in omega (arith, a, l, l')
          | inr second ↦ let a = block_within otherwise _ _ x second in let l' = le-max_right (block_need block) (block_need otherwise) in omega (arith, a, l, l')
        ]
    inside_within (While' c m body) n place x h = let a = block_within body (n + 1) _ x h in let l = le-max_right (test_need c) (block_need body) in omega (arith, a, l)
    inside_within (Bind k e) n place x h = absurd h
    inside_within (SetLocal k e) n place x h = absurd h
    inside_within (SetGlobal cell e) n place x h = absurd h
    inside_within (SetElement array i e) n place x h = absurd h
    inside_within (SetField path s f e) n place x h = absurd h
    inside_within (Call f es r) n place x h = absurd h
    inside_within (Print e) n place x h = absurd h

    block_within : {m : _} (row : Row_of-Stmt m) (n place : ℕ) (x : Spot) → InBlock lists row n place x →
        point_need x.point ≤ block_need row
    block_within end_of-Stmt n place x h = absurd h
    block_within (more_of-Stmt start action rest) n place x h =
        let l = le-max_left (stmt_need action) (block_need rest) in let r = le-max_right (stmt_need action) (block_need rest) in
        elim h [
          | inl first ↦ elim first [
            | inl same ↦ let a = here_within x n place start action same in omega (arith, a, l)
            | inr inside ↦ let a = inside_within action n place x inside in omega (arith, a, l)
          ]
          | inr more ↦ let a = block_within rest _ _ x more in omega (arith, a, r)
        ]

  body_within : (ss : List Stmt) (r : Option Result_of) (n place : ℕ) (x : Spot) → InBody lists ss r n place x →
      point_need x.point ≤ max (body_need ss) (end_need r)
  body_within [] None n place x h = absurd h
  body_within [] (Some r) n place x h = subst (λ y. point_need y.point ≤ max 0 (expr_need r.value)) (sym h) (le-max_right 0 (expr_need r.value))
  body_within (s ∷ ss) r n place x h =
      let l = le-max_left (max (stmt_need s.action) (body_need ss)) (end_need r) in
      let e = le-max_right (max (stmt_need s.action) (body_need ss)) (end_need r) in
      let l' = le-max_left (stmt_need s.action) (body_need ss) in let r' = le-max_right (stmt_need s.action) (body_need ss) in
      elim h [
        | inl first ↦ elim first [
          | inl same ↦ let a = here_within x n place s.start s.action same in omega (arith, a, l, l')
          | inr inside ↦ let a = inside_within s.action n place x inside in omega (arith, a, l, l')
        ]
        | inr more ↦ let a = body_within ss r _ _ x more in omega (arith, a, l, e, r')
      ]

  pub spot_within : (section : Section) (x : Spot) → InSection lists section x →
      point_need x.point ≤ operand_need section
  spot_within section x h = body_within section.body.items section.result 0 0 x h
