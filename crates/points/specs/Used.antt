-- The lock paths that are used before a point of a section, and those that are used later.
use Rattle.std.specs.Prelude.{ℕ}
use Rattle.core_lang.specs.declared.tree.Section.{Section}
use Rattle.core_lang.specs.declared.typed.Typed.{Typed}
use Rattle.flow.specs.Skeletons.{skeleton}
use Rattle.flow.specs.Flow.{Before}
use Rattle.locks.specs.LockPaths.{LockPath, Uses}

module _ (program : Typed) (section : Section) where
  -- the path is used at some earlier point
  abbrev pub IsUsedBefore : ℕ → LockPath → Type 0
  IsUsedBefore p path = (q : ℕ) × Before (skeleton section) q p × Uses program section q path

  -- the path is used at some later point
  abbrev pub IsUsedLater : ℕ → LockPath → Type 0
  IsUsedLater p path = (q : ℕ) × Before (skeleton section) p q × Uses program section q path
