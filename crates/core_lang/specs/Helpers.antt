-- Which helpers statements call, and how deep.
use Rattle.std.specs.Prelude.{◌≡◌, ℕ, zero, suc, List, [], ◌∷◌, slice_get, Some, ⊤}
use Rattle.core_lang.specs.declared.tree.Action.{Action, Call, If', IfElse', While', Row_of-Stmt, end_of-Stmt}
use Rattle.core_lang.specs.declared.tree.Action.{more_of-Stmt}
use Rattle.core_lang.specs.declared.tree.Stmt.{Stmt}
use Rattle.core_lang.specs.declared.tree.Section.{Section}
use Rattle.core_lang.specs.declared.shape.Shape.{Shape}

-- each helper that a statement calls has the property
abbrev mutual
  pub CallsOnly : (ℕ → Type 0) → Action → Type 0
  CallsOnly P (Call helper arguments result) = P helper
  CallsOnly P (If' c m block) = AllCallOnly P block
  CallsOnly P (IfElse' c m block k otherwise) = AllCallOnly P block × AllCallOnly P otherwise
  CallsOnly P (While' c m body) = AllCallOnly P body
  CallsOnly P _ = ⊤

  pub AllCallOnly : {m : _} → (ℕ → Type 0) → Row_of-Stmt m → Type 0
  AllCallOnly P end_of-Stmt = ⊤
  AllCallOnly P (more_of-Stmt start action rest) = CallsOnly P action × AllCallOnly P rest

-- each helper that a list of statements calls has the property
abbrev pub EachCallsOnly : (ℕ → Type 0) → List Stmt → Type 0
EachCallsOnly P [] = ⊤
EachCallsOnly P (x ∷ xs) = CallsOnly P x.action × EachCallsOnly P xs

-- no helper, so that what calls only these calls none
abbrev pub NoHelper : ℕ → Type 0
NoHelper helper = ⊥

abbrev pub CallsNothing : Section → Type 0
CallsNothing section = EachCallsOnly NoHelper section.body.items

-- the calls of a helper go at most `depth` deep: it calls only helpers whose calls go one less deep. Hence it does not
-- reach itself by calls
abbrev pub IsAtMostDeep : Shape → ℕ → ℕ → Type 0
IsAtMostDeep shape zero helper = ⊥
IsAtMostDeep shape (suc depth) helper =
    (h : Section) × (slice_get shape.helpers.items helper ≡ Some h) × EachCallsOnly (IsAtMostDeep shape depth) h.body.items
