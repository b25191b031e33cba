-- Only the classes that a section lists change its lock paths.
use Rattle.std.proofs.Common.{◌≡◌, ℕ, Bool, true, false, if◌then◌else◌, List, Option, Some, refl, ap}
use Rattle.std.specs.Prelude.{◌==◌, slice_get}
use Rattle.std.specs.Option.{option_map}
use Rattle.std.specs.List.{list_any}
use Rattle.core_lang.specs.declared.typed.LockClass.{LockClass}
use Rattle.core_lang.specs.declared.typed.LockClass.TheVariants as class
use Rattle.core_lang.specs.declared.typed.Protection.{Protection}
use Rattle.core_lang.specs.Typing.{lookup}
use Rattle.locks.specs.Accesses.{Target, global, element, field}
use Rattle.locks.specs.Locks.{protection_of}
use Rattle.locks.specs.LockPaths.{LockPath, stable, normal_base, whole_class, is_listed, protected_path, target_path}
use Rattle.locks.specs.Working.Laws.{ListedAreWhole, OthersAreUnlisted, unlisted_path, ListlessAreUnlisted}

pub listed_are_whole : ListedAreWhole
listed_are_whole section structure lock protection base listed =
    ap (λ (b : Bool). if b then Some (whole_class protection.class structure) else option_map (protected_path protection) base) listed

pub others_are_unlisted : OthersAreUnlisted
others_are_unlisted section (class.Global name) protection base other = refl
others_are_unlisted section (class.Field s l) protection base other =
    ap (λ (b : Bool). if b then Some (whole_class protection.class s) else option_map (protected_path protection) base) other

pub listless_are_unlisted : ListlessAreUnlisted
listless_are_unlisted program section a none = of_target a.target
  where
    not_listed : (number : ℕ) → is_listed section number ≡ false
    not_listed number = ap (list_any (λ listed. listed == number)) none

    of_target : (target : Target) → target_path program section target ≡ unlisted_path program section target
    of_target (global cell) = refl
    of_target (element array) = refl
    of_target (field local base s f) = λ i. lookup (protection_of program s f) (λ (p : Protection).
        lookup (slice_get program.classes.items p.class) (λ (c : LockClass).
        others_are_unlisted section c p (option_map (normal_base section p) (stable section local base)) (not_listed p.class) i))
