-- The code's replacements of locals and owners give the normal forms: both make the same replacements one after
-- another.
use Rattle.std.proofs.Common.{◌≡◌, List, [], ◌∷◌, Option, Some, None, refl, ap}
use Rattle.std.specs.Prelude.{map, slice_get}
use Rattle.std.specs.Option.{option_map}
use Rattle.core_lang.specs.declared.tree.Section.{Section}
use Rattle.core_lang.specs.declared.typed.LockClass.{LockClass}
use Rattle.core_lang.specs.declared.typed.Protection.{Protection}
use Rattle.core_lang.specs.declared.typed.Typed.{Typed}
use Rattle.core_lang.specs.Typing.{lookup}
use Rattle.flow.specs.Points.{points}
use Rattle.locks.specs.Accesses.{Target, global, element, field}
use Rattle.locks.specs.Locks.{protection_of}
use Rattle.locks.specs.LockPaths.{StablePath, Binding, bindings, all_replaced, extended, normal_base, stable, under}
use Rattle.locks.specs.LockPaths.{target_path}
use Rattle.lockpaths.specs.Working.Forms.{of_binding, replaced_by, all_replaced_by, form_by, replacements_at}
use Rattle.lockpaths.specs.Working.Gathering.{path_by, through_of}

all_same : (section : Section) (bs : List Binding) (path : StablePath) →
    all_replaced_by (map (of_binding section) bs) path ≡ all_replaced section bs path
all_same section [] path = refl
all_same section (b ∷ bs) path = ap (replaced_by (of_binding section b)) (all_same section bs path)

-- a base with an annotation after it
form_is_normal : (section : Section) (p : Protection) (o : Option StablePath) →
    option_map (form_by (replacements_at section (points section)) p.through.items) o ≡ option_map (normal_base section p) o
form_is_normal section p (Some base) = ap Some (all_same section (bindings section) (extended base p))
form_is_normal section p None = refl

by_protection : (program : Typed) (section : Section) (base : Option StablePath) (o : Option Protection) →
    lookup o (λ (p : Protection). lookup (slice_get program.classes.items p.class) (λ (c : LockClass).
    under section c p (option_map (form_by (replacements_at section (points section)) (through_of o)) base)))
    ≡ lookup o (λ (p : Protection). lookup (slice_get program.classes.items p.class) (λ (c : LockClass). under section c p (option_map (normal_base section p) base)))
by_protection program section base None = refl
by_protection program section base (Some p) =
    ap (λ (b : Option StablePath). lookup (slice_get program.classes.items p.class) (λ (c : LockClass). under section c p b)) (form_is_normal section p base)

-- so they give the lock path of each access
pub path_is_right : (program : Typed) (section : Section) (target : Target) →
    path_by program section (replacements_at section (points section)) target ≡ target_path program section target
path_is_right program section (global cell) = refl
path_is_right program section (element array) = refl
path_is_right program section (field local base s f) = by_protection program section (stable section local base) (protection_of program s f)
