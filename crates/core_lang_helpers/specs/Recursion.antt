-- Which helpers call and reach which.
use Rattle.std.specs.Prelude.{◌≡◌, ◌⊎◌, ℕ, List, [], ◌∷◌, slice_get, Some}
use Rattle.core_lang_helpers.specs.declared.graph.CallSite.{CallSite}
use Rattle.core_lang_helpers.specs.Graphs.{Body}

-- one of the calls calls the helper
abbrev pub HasCall : List CallSite → ℕ → Type 0
HasCall [] g = ⊥
HasCall (c ∷ cs) g = (c.helper ≡ g) ⊎ HasCall cs g

-- helper f calls helper g
abbrev pub Calls : List Body → ℕ → ℕ → Type 0
Calls helpers f g = (body : Body) × (slice_get helpers f ≡ Some body) × HasCall body.calls g

-- helper f reaches helper g by one or more calls
pub data Reaches (helpers : List Body) : ℕ → ℕ → Type 0 where
  calls : {f g : ℕ} → Calls helpers f g → Reaches helpers f g
  calls_one : {f g h : ℕ} → Calls helpers f g → Reaches helpers g h → Reaches helpers f h

-- helper g is f or reaches it
abbrev pub LeadsTo : List Body → ℕ → ℕ → Type 0
LeadsTo helpers g f = (g ≡ f) ⊎ Reaches helpers g f

-- the helper is recursive, which means that it reaches itself, or it reaches one that is
abbrev pub ReachesRecursion : List Body → ℕ → Type 0
ReachesRecursion helpers f = (g : ℕ) × Reaches helpers f g × Reaches helpers g g
