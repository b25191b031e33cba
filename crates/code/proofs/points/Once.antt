-- No two spots of a section have the same number.
use Rattle.std.proofs.Common.{◌≡◌, ℕ, ◌+◌, ◌<◌, ◌≤◌, List, [], ◌∷◌, ◌++◌, length, Option, Some, None, inl, inr, sym}
use Rattle.std.proofs.Common.{ap, ◌∙◌, arith, length-append}
use Rattle.core_lang.specs.declared.tree.Stmt.{Stmt}
use Rattle.core_lang.specs.declared.tree.Action.{Action, Bind, SetLocal, SetGlobal, SetElement, SetField, Call, Print}
use Rattle.core_lang.specs.declared.tree.Action.{If', IfElse', While', Row_of-Stmt, end_of-Stmt, more_of-Stmt}
use Rattle.core_lang.specs.declared.tree.Return.{Return as Result_of}
use Rattle.flow.specs.Points.{Point, result, inner_points}
use Rattle.flow.specs.Points as flow
use Rattle.code.specs.Lowering.{points_of, points_in}
use Rattle.code.specs.Working.Spots.{Spot, Inside, InBlock, InAction, InBody}
use Rattle.code.specs.Working.PointLaws.{SpotsHaveNumbers}
use Rattle.code.proofs.points.Numbers.{Numbered, length_inner, length_block, inside_numbered, block_numbered}
use Rattle.code.proofs.points.Numbers.{body_numbered}

module _ {P : Type 0} (lists : List (List P)) where
  -- from a number on, and before another
  abbrev IsWithin : ℕ → ℕ → Spot → Type 0
  IsWithin n end x = (n ≤ x.number) × (x.number < end)

  range : (xs : List Point) (n : ℕ) (x : Spot) → Numbered lists xs n x → IsWithin n (n + length xs) x
  range xs n x h =
      let at = h.1 in let counted = h.2.count in
      let all : length xs ≡ length (h.2.before ++ x.point ∷ h.2.behind) = ap length h.2.is in
      (omega (arith, at), omega (arith, at, counted, all, length-append h.2.before (x.point ∷ h.2.behind)))

  inside_range : (action : Action) (n place : ℕ) (x : Spot) → Inside lists action n place x →
      IsWithin (n + 1) (n + points_of action) x
  inside_range action n place x h =
      let r = range (inner_points action) (n + 1) x (inside_numbered lists action n place x h) in
      let counted = length_inner action in
      (r.0, (let b = r.1 in omega (arith, b, counted)))

  block_range : {m : _} (row : Row_of-Stmt m) (n place : ℕ) (x : Spot) → InBlock lists row n place x →
      IsWithin n (n + points_in row) x
  block_range row n place x h =
      let r = range (flow.points_in row) n x (block_numbered lists row n place x h) in
      let counted = length_block row in
      (r.0, (let b = r.1 in omega (arith, b, counted)))

  action_range : (start : ℕ) (action : Action) (n place : ℕ) (x : Spot) → InAction lists start action n place x →
      IsWithin n (n + points_of action) x
  action_range start action n place x h =
      elim h [
        | inl same ↦ let e : x.number ≡ n = ap (λ (y : Spot). y.number) same in let counted = length_inner action in (omega (arith, e), omega (arith, e, counted))
        | inr inside ↦ let r = inside_range action n place x inside in let a = r.0 in (omega (arith, a), r.1)
      ]

  body_range : (ss : List Stmt) (r : Option Result_of) (n place : ℕ) (x : Spot) → InBody lists ss r n place x →
      n ≤ x.number
  body_range ss r n place x h = (range _ n x (body_numbered lists ss r n place x h)).0

  action_once : (start : ℕ) (action : Action) (n place : ℕ) (x y : Spot) → x.number ≡ y.number →
      (Inside lists action n place x → Inside lists action n place y → x ≡ y) →
      InAction lists start action n place x → InAction lists start action n place y → x ≡ y
  action_once start action n place x y e once h k =
      elim h [
        | inl a ↦ let i : x.number ≡ n = ap (λ (y : Spot). y.number) a in
            elim k [ inl b ↦ a ∙ sym b | inr b ↦ let l = (inside_range action n place y b).0 in absurd (omega (arith, e, i, l)) ]
        | inr a ↦ elim k [
          | inl b ↦ let i : y.number ≡ n = ap (λ (y : Spot). y.number) b in let l = (inside_range action n place x a).0 in absurd (omega (arith, e, i, l))
          | inr b ↦ once a b
        ]
      ]

  mutual
    inside_once : (action : Action) (n place : ℕ) (x y : Spot) → x.number ≡ y.number → Inside lists action n place x →
        Inside lists action n place y → x ≡ y
    inside_once (If' c m block) n place x y e h k = block_once block (n + 1) _ x y e h k
    inside_once (IfElse' c m block j otherwise) n place x y e h k =
        elim h [
          | inl a ↦ elim k [
            | inl b ↦ block_once block (n + 1) _ x y e a b
            | inr b ↦ let l = (block_range block (n + 1) _ x a).1 in let r = (block_range otherwise _ _ y b).0 in absurd (omega (arith, e, l, r))
          ]
          | inr a ↦ elim k [
            | inl b ↦ let l = (block_range block (n + 1) _ y b).1 in let r = (block_range otherwise _ _ x a).0 in absurd (omega (arith, e, l, r))
            | inr b ↦ block_once otherwise _ _ x y e a b
          ]
        ]
    inside_once (While' c m body) n place x y e h k = block_once body (n + 1) _ x y e h k
    inside_once (Bind j v) n place x y e h k = absurd h
    inside_once (SetLocal j v) n place x y e h k = absurd h
    inside_once (SetGlobal cell v) n place x y e h k = absurd h
    inside_once (SetElement array i v) n place x y e h k = absurd h
    inside_once (SetField path s f v) n place x y e h k = absurd h
    inside_once (Call f vs r) n place x y e h k = absurd h
    inside_once (Print v) n place x y e h k = absurd h

    block_once : {m : _} (row : Row_of-Stmt m) (n place : ℕ) (x y : Spot) → x.number ≡ y.number →
        InBlock lists row n place x → InBlock lists row n place y → x ≡ y
    block_once end_of-Stmt n place x y e h k = absurd h
    block_once (more_of-Stmt start action rest) n place x y e h k =
        elim h [
          | inl a ↦ elim k [
            | inl b ↦ action_once start action n place x y e (inside_once action n place x y e) a b
            | inr b ↦ let l = (action_range start action n place x a).1 in let r = (block_range rest _ _ y b).0 in absurd (omega (arith, e, l, r))
          ]
          | inr a ↦ elim k [
            | inl b ↦ let l = (action_range start action n place y b).1 in let r = (block_range rest _ _ x a).0 in absurd (omega (arith, e, l, r))
            | inr b ↦ block_once rest _ _ x y e a b
          ]
        ]

  body_once : (ss : List Stmt) (r : Option Result_of) (n place : ℕ) (x y : Spot) → x.number ≡ y.number →
      InBody lists ss r n place x → InBody lists ss r n place y → x ≡ y
  body_once [] None n place x y e h k = absurd h
  body_once [] (Some r) n place x y e h k = h ∙ sym k
  body_once (s ∷ ss) r n place x y e h k =
      elim h [
        | inl a ↦ elim k [
          | inl b ↦ action_once s.start s.action n place x y e (inside_once s.action n place x y e) a b
          | inr b ↦ let l = (action_range s.start s.action n place x a).1 in let m = body_range ss r _ _ y b in absurd (omega (arith, e, l, m))
        ]
        | inr a ↦ elim k [
          | inl b ↦ let l = (action_range s.start s.action n place y b).1 in let m = body_range ss r _ _ x a in absurd (omega (arith, e, l, m))
          | inr b ↦ body_once ss r _ _ x y e a b
        ]
      ]

pub spots_have_numbers : {P : Type 0} → SpotsHaveNumbers P
spots_have_numbers lists section x y inside inside' e = body_once lists section.body.items section.result 0 0 x y e inside inside'
