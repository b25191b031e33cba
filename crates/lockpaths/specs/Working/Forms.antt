-- The replacements of a section's locals, as a list in the order of their points. Nobody has to believe these: `locks`
-- defines normal forms.
use Rattle.std.specs.Prelude.{◌≡◌, ℕ, ◌==◌, Bool, true, false, if◌then◌else◌, List, [], ◌∷◌, ◌++◌, map, Option, Some}
use Rattle.std.specs.Prelude.{None}
use Rattle.std.specs.Option.{option_map}
use Rattle.std.specs.List.{cons_option, filter_map}
use Rattle.core_lang.specs.declared.tree.Action.{Action}
use Rattle.core_lang.specs.declared.tree.Expr.{Expr}
use Rattle.core_lang.specs.declared.tree.FieldStep.{FieldStep}
use Rattle.core_lang.specs.declared.tree.Section.{Section}
use Rattle.flow.specs.Points.{Point, statement}
use Rattle.locks.specs.LockPaths.{StablePath, OwnerPath, Binding, binding_at, all_final, stable_value, owner_of}
use Rattle.locks.specs.LockPaths.{owned_path, or_behind}
use Rattle.lockpaths.specs.declared.form.Form.{Form}
use Rattle.lockpaths.specs.declared.form.OwnerBranch.{OwnerBranch}
use Rattle.lockpaths.specs.declared.forms.Bound.{Bound}

abbrev pub stable_path_of : Form → StablePath
stable_path_of form = record { root = form.root; finals = form.finals.items }

abbrev pub owner_path : ℕ → StablePath → OwnerPath
owner_path number path = record { final = number; path = path }

abbrev pub owner_path_of : OwnerBranch → OwnerPath
owner_path_of owner = owner_path owner.number (record { root = owner.local; finals = [] })

-- the replacement of a local: its value, if that is a stable path, and its owner, if it has one
pub record Replacement : Type 0 where
  pub local : ℕ
  pub owner : Option OwnerPath
  pub value : Option StablePath

abbrev pub bound_as : ℕ → Option OwnerBranch → Option Form → Replacement
bound_as local owner value = record { local = local; owner = option_map owner_path_of owner; value = option_map stable_path_of value }

abbrev pub replacement_of : Bound → Replacement
replacement_of b = bound_as b.local b.owner b.value

-- the replacement by a `let` or a `var` with this initialiser
abbrev pub replacement : Section → ℕ → Expr → Replacement
replacement section local value = record { local = local; owner = owner_of section value; value = stable_value section value }

abbrev pub of_binding : Section → Binding → Replacement
of_binding section b = replacement section b.local b.value

-- the replacements by points, one after another
abbrev pub replacements_at : Section → List Point → List Replacement
replacements_at section ps = map (of_binding section) (filter_map binding_at ps)

-- the replacement by a statement, if it binds a local
abbrev pub of_action : Section → Action → List Replacement
of_action section x = map (of_binding section) (cons_option (binding_at (statement 0 x)) [])

-- the numbers of fields were appended, if all of the fields are final
abbrev pub IsPushed : List ℕ → List FieldStep → Bool → List ℕ → Type 0
IsPushed before fields whole after = option_map (λ rest. before ++ rest) (all_final fields) ≡ (if whole then Some after else None)

-- a local by itself, if it is a stable path
abbrev pub by_itself : ℕ → Bool → Option StablePath
by_itself local true = Some (record { root = local; finals = [] })
by_itself local false = None

-- a path that begins at a local, with the local replaced
abbrev pub put_in : Replacement → StablePath → StablePath
put_in r path = or_behind (owned_path r.owner path) r.value path

-- a path with the local replaced, if the path begins at it
abbrev pub replaced_by : Replacement → StablePath → StablePath
replaced_by r path = if r.local == path.root then put_in r path else path

-- a path after all replacements, from the last to the first
abbrev pub all_replaced_by : List Replacement → StablePath → StablePath
all_replaced_by [] path = path
all_replaced_by (r ∷ rs) path = replaced_by r (all_replaced_by rs path)

-- the normal form of a stable path followed by final references
abbrev pub form_by : List Replacement → List ℕ → StablePath → StablePath
form_by rs through base = all_replaced_by rs (record { root = base.root; finals = base.finals ++ through })
