-- A law of the lists of a plan, as `src/laws.rt` claims it.
use Rattle.std.specs.Prelude.{◌≡◌, ℕ, List, [], slice_get, Some}
use Rattle.core_lang.specs.declared.tree.Section.{Section}
use Rattle.locks.specs.Accesses.{accesses}
use Rattle.lowering.specs.Plans.{Plan, IsCompiled}

-- a plan's section of this number, and the lists of lock paths before its points
pub record HasLists (plan : Plan) (k : ℕ) (section : Section) (lists : List (List ℕ)) : Type 0 where
  pub here : slice_get plan.program.sections.items k ≡ Some section
  pub lists_are : slice_get plan.lists k ≡ Some lists

-- all lists of a section without accesses are empty
abbrev pub NothingIsTaken : Type 0
NothingIsTaken =
    (plan : Plan) (k p : ℕ) (section : Section) (lists : List (List ℕ)) (list : List ℕ) → IsCompiled plan →
    HasLists plan k section lists → accesses section ≡ [] → slice_get lists p ≡ Some list → list ≡ []
