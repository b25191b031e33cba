-- The next step of a walk along a path. Nobody has to believe these.
use Rattle.std.specs.Prelude.{◌≡◌, ℕ, ◌<◌, List, ◌∷◌, length}
use Rattle.lockpaths.specs.declared.form.WalkState.{WalkState}
use Rattle.lockpaths.specs.declared.form.WalkState.TheVariants.{Node}
use Rattle.lockpaths.specs.declared.forms.Next.{Next}
use Rattle.lockpaths.specs.declared.forms.Next.TheVariants.{From, To}
use Rattle.lockpaths.specs.Working.States.{Known, reads, IsState}

abbrev pub IsNextOf : Known → WalkState → ℕ → Next → Type 0
IsNextOf f s n (From node) = (node < length f.paths) × ((ns : List ℕ) → reads f (Node node) (n ∷ ns) ≡ reads f s (n ∷ ns))
IsNextOf f s n (To t) = IsState f t × ((ns : List ℕ) → reads f t ns ≡ reads f s (n ∷ ns))
