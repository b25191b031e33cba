-- The nesting depth of the trees of helpers, as the measure of a walk that goes from a call to the helper's body.
use Rattle.std.proofs.Common.{◌≡◌, ◌≢◌, ℕ, zero, suc, ◌+◌, ◌-◌, ◌*◌, ◌≤◌, List, [], ◌∷◌, refl, ap, arith}
use Rattle.std.specs.Prelude.{slice_get, Some}
use denote.Param.Weighed.{most}
use Rattle.core_lang.specs.declared.shape.Shape.{Shape}
use Rattle.core_lang.specs.declared.tree.Stmt.{size-Stmt}
use Rattle.core_lang.specs.declared.tree.Section.{Section}

-- the size of a section's body: more than that of its deepest statement
abbrev pub size_of : Section → ℕ
size_of section = 8 * most size-Stmt section.body.items

-- the sizes of all helpers together
abbrev pub sizes_of : List Section → ℕ
sizes_of [] = 0
sizes_of (x ∷ xs) = size_of x + sizes_of xs

-- more than the size of any helper: the room for a call
abbrev pub room : Shape → ℕ
room shape = sizes_of shape.helpers.items + 3

fits : (xs : List Section) (k : ℕ) (x : Section) → slice_get xs k ≡ Some x → size_of x ≤ sizes_of xs
fits [] k x e = absurd cc
fits (y ∷ ys) zero x e = let same : y ≡ x = cc in let z = ap size_of same in omega (arith, z)
fits (y ∷ ys) (suc k) x e = let r = fits ys k x e in omega (arith, r)

-- a helper's body is less than the room of a call
pub helper_fits : (shape : Shape) (k : ℕ) (x : Section) → slice_get shape.helpers.items k ≡ Some x →
    size_of x + 3 ≤ room shape
helper_fits shape k x e = let r = fits shape.helpers.items k x e in omega (arith, r)

pub one_less : (d w : ℕ) → d ≢ 0 → d * w ≡ (d - 1) * w + w
one_less zero w some = absurd (some refl)
one_less (suc d) w some = let e : suc d - 1 ≡ d = omega arith in grind (arith, e)
