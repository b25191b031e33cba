-- The locks of an acquire, one after another, as the laws of `src/laws.rt` claim them.
use Rattle.std.specs.Prelude.{◌≡◌, ℕ, List, [], ◌∷◌, ◌++◌, slice_get, Some, ⊤}
use Rattle.std.specs.List.{Contains}
use Rattle.core_lang.specs.declared.value.Value.{Value}
use Rattle.core_lang.specs.declared.tree.Section.{Section}
use Rattle.core_lang.specs.declared.typed.Typed.{Typed}
use Rattle.locks.specs.declared.lock.Lock.{Lock}
use Rattle.locks.specs.Order.{Precedes}
use Rattle.inserter.specs.Working.Runs.{IsListed, Run}
use Rattle.inserter.specs.Working.Laws.{IsOrdered}
use Rattle.worlds.specs.Asking.{to_ask}

-- locks that are granted one after another, after those that are held: each comes after all that are held by then
abbrev pub RiseBehind : List ℕ → List Lock → List Lock → Type 0
RiseBehind ranks held [] = ⊤
RiseBehind ranks held (lock ∷ rest) =
    ((other : Lock) → Contains held other → Precedes ranks other lock) × RiseBehind ranks (held ++ lock ∷ []) rest

-- the locks that a run asks for before a point rise after those that it holds. Once all are granted, it holds each lock
-- that is listed there
abbrev pub AskedInTurn : Type 0
AskedInTurn =
    (program : Typed) (section : Section) (ranks : List ℕ) (lists : List (List ℕ)) (p : ℕ) (locals : List Value)
    (held : List Lock) (list : List ℕ) → IsOrdered program section ranks lists → Run program section ranks lists p locals held →
    slice_get lists p ≡ Some list → let asked = to_ask program section ranks held locals list in
    RiseBehind ranks held asked × Run program section ranks lists p locals (held ++ asked)
    × ((lock : Lock) → IsListed program section ranks lists p locals lock → Contains (held ++ asked) lock)
