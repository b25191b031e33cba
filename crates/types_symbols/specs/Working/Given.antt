-- The table of the targets of `init`s.
use Rattle.std.specs.Prelude.{◌≡◌, ℕ, List, [], Option, Some, None, Bool, option_map, if◌then◌else◌}
use Rattle.std.specs.HashMap.{get_by}
use Rattle.std.specs.Option.{option_or}
use Rattle.syntax.specs.declared.tree.Decl as rust_decl
use Rattle.syntax.specs.declared.tree.Name.{Name}
use Rattle.syntax.specs.Trees.{Decl, pool, init, Pool, Struct}
use Rattle.resolution.specs.declared.init_target.InitTarget.{InitTarget}
use Rattle.resolution.specs.declared.finding.Finding.{Finding}
use Rattle.resolution.specs.Scopes.{place_of, the_decl}
use Rattle.resolution.specs.Constants.{init_target_of, gives, same_init_target}
use Rattle.resolution.specs.Working.FaultLists.{given_before}
use Rattle.types_symbols.specs.Working.Views.{decl_named, struct_in}
use Rattle.types_symbols.specs.declared.first_inits.FirstInits.{FirstInits}

-- the place that the table has for the target of an `init`
abbrev pub init_target_found : FirstInits → InitTarget → Option ℕ
init_target_found t g = get_by (same_init_target g) t.places

-- the table has for each target the place of the first of these declarations that gives it a value
abbrev pub IsInitTargetTable : List Decl → List Decl → FirstInits → Type 0
IsInitTargetTable decls ds t = (g : InitTarget) → init_target_found t g ≡ place_of (gives decls) ds g

-- the table got these targets with their place, unless it had them
abbrev pub IsInitTargetTableWith : (InitTarget → Bool) → ℕ → FirstInits → FirstInits → Type 0
IsInitTargetTableWith is_given place old new = (g : InitTarget) → init_target_found new g ≡ option_or (init_target_found old g) (if is_given g then Some place else None)

-- the fault of an `init` whose target has a value
abbrev pub again_given : FirstInits → ℕ → Option InitTarget → List Finding
again_given t start (Some g) = given_before start (init_target_found t g)
again_given t start None = []

abbrev pub repeated_in : FirstInits → List Decl → Decl → List Finding
repeated_in t decls (init j) = again_given t j.start.start (init_target_of decls j)
repeated_in t decls _ = []

-- the pool that a found declaration is, if it is one
abbrev pub pool_in : Option (ℕ × Decl) → Option (ℕ × Pool)
pool_in (Some (i, pool p)) = Some (i, p)
pool_in _ = None

-- the pool of this name, with its place
abbrev pub pool_named : List rust_decl.Decl → Name → Option (ℕ × Pool)
pool_named ds x = pool_in (decl_named ds x)

-- the struct of a pool's members, if it exists
abbrev pub struct_of_pool : List Decl → Option (ℕ × Pool) → Option Struct
struct_of_pool decls (Some (i, p)) = option_map (λ s. s.1) (struct_in (the_decl decls p.target.text))
struct_of_pool decls None = None
