-- Laws of a section's points, as the laws of `src/laws.rt` claim them.
use Rattle.std.specs.Prelude.{◌≡◌, ◌↔◌, ◌⊎◌, ◌<◌, ℕ, List, length, slice_get, Some}
use Rattle.std.specs.List.{Contains}
use Rattle.core_lang.specs.declared.tree.Section.{Section}
use Rattle.core_lang.specs.declared.typed.Typed.{Typed}
use Rattle.core_lang.specs.Meaning.{State}
use Rattle.core_lang.specs.Typing.{local_types}
use Rattle.core_lang.specs.Working.Soundness.{IsTypedState, LeadsToTyped}
use Rattle.core_lang.specs.WellFormed.{IsWellFormed}
use Rattle.flow.specs.Skeletons.{Skeleton, count, skeleton}
use Rattle.flow.specs.Flow.{Follows, pairs}
use Rattle.flow.specs.Walks.{Walk}
use Rattle.flow.specs.Points.{Point, points, scopes, Binds, IsLocalInScope}
use Rattle.flow.specs.Working.Effects.{effect_at}

-- a section has as many points as its skeleton
abbrev pub PointsAreCounted : Type 0
PointsAreCounted = (section : Section) → count (skeleton section) ≡ length (points section)

-- a section has a scope for each of its points
abbrev pub ScopesAreCounted : Type 0
ScopesAreCounted = (section : Section) → length (scopes section) ≡ length (points section)

-- each flow pair leads from a point of the section to a point of it
abbrev pub PairsLeadBetweenPoints : Type 0
PairsLeadBetweenPoints =
    (section : Section) (p q : ℕ) → Follows (skeleton section) p q → (p < length (points section)) × (q < length (points section))

-- the list of pairs has the flow pairs and no others
abbrev pub PairsAreFlow : Type 0
PairsAreFlow = (c : Skeleton) (p q : ℕ) → Contains (pairs c) (p, q) ↔ Follows c p q

-- each point is at the end of some walk
abbrev pub EachPointIsReached : Type 0
EachPointIsReached = (c : Skeleton) (p : ℕ) → p < count c → (ps : List ℕ) × Walk c ps p

-- a local in scope at a point was in scope at each point before it in the flow, or is bound there
abbrev pub ScopeGoesBack : Type 0
ScopeGoesBack =
    (section : Section) (p q local : ℕ) → Follows (skeleton section) p q → IsLocalInScope section q local →
    IsLocalInScope section p local ⊎ Binds section p local

-- a point of a well-formed program leads from a state where each local and cell has a value of its type to such states
abbrev pub PointsStayTyped : Type 0
PointsStayTyped =
    (program : Typed) (k p : ℕ) (section : Section) (point : Point) (s : State) → IsWellFormed program →
    slice_get program.sections.items k ≡ Some section → slice_get (points section) p ≡ Some point →
    let types = local_types section.locals.items in
    IsTypedState program types s → LeadsToTyped program types (effect_at point program.shape s)
