-- A section's locals at its begin have their types, and there are as many arguments as parameters. Nobody has to
-- believe this: it is proved here, for proofs of this crate and of those above.
use Rattle.std.proofs.Common.{◌≡◌, ◌≤◌, ℕ, zero, suc, List, [], ◌∷◌, ◌++◌, length, map, take, drop, refl, ap, arith}
use Rattle.std.proofs.Common.{length-append}
use Rattle.core_lang.specs.declared.shape.Shape.{Shape}
use Rattle.core_lang.specs.declared.tree.Local.{Local}
use Rattle.core_lang.specs.declared.tree.Section.{Section}
use Rattle.core_lang.specs.declared.value.Value.{Value}
use Rattle.core_lang.specs.declared.value.ValueType.{ValueType}
use Rattle.core_lang.specs.declared.value.ValueType.TheVariants.{Integer, Reference}
use Rattle.core_lang.specs.Meaning.{default_of, default_local}
use Rattle.core_lang.specs.Scopes.{bound_in_all, numbers_from, IsWellScoped}
use Rattle.core_lang.specs.Typing.{HasType, HaveTypes, local_types}
use Rattle.core_lang.specs.Theory.Items.{numbers_many}

pub have_length : (shape : Shape) (ts : List ValueType) (vs : List Value) → HaveTypes shape ts vs → length vs ≡ length ts
have_length shape [] [] h = refl
have_length shape [] (v ∷ vs) h = absurd h
have_length shape (t ∷ ts) [] h = absurd h
have_length shape (t ∷ ts) (v ∷ vs) h = ap suc (have_length shape ts vs h.1)

pub default_has : (shape : Shape) (t : ValueType) → HasType shape t (default_of t)
default_has shape Integer = tt
default_has shape (Reference s) = tt

pub defaults_have : (shape : Shape) (locals : List Local) →
    HaveTypes shape (local_types locals) (map default_local locals)
defaults_have shape [] = tt
defaults_have shape (l ∷ ls) = (default_has shape l.value_type, defaults_have shape ls)

-- arguments for the first locals, and their default values in the others
pub opening_has : (shape : Shape) (k : ℕ) (locals : List Local) (arguments : List Value) →
    HaveTypes shape (local_types (take k locals)) arguments →
    HaveTypes shape (local_types locals) (arguments ++ map default_local (drop (length arguments) locals))
opening_has shape k locals [] h = defaults_have shape locals
opening_has shape zero [] (v ∷ vs) h = absurd h
opening_has shape zero (l ∷ ls) (v ∷ vs) h = absurd h
opening_has shape (suc k) [] (v ∷ vs) h = absurd h
opening_has shape (suc k) (l ∷ ls) (v ∷ vs) h = (h.0, opening_has shape k ls vs h.1)

pub taken_many : (n : ℕ) (locals : List Local) → n ≤ length locals → length (local_types (take n locals)) ≡ n
taken_many zero locals le = refl
taken_many (suc n) [] le = absurd (omega (arith, le))
taken_many (suc n) (l ∷ ls) le = ap suc (taken_many n ls (omega (arith, le)))

pub enough_locals : (section : Section) → IsWellScoped section → section.parameters ≤ length section.locals.items
enough_locals section scoped =
    let before = numbers_many 0 section.parameters in
    let whole = numbers_many 0 (length section.locals.items) in
    let same = ap (λ (l : List ℕ). length l) scoped.bound in
    omega (arith, before, whole, same, length-append (numbers_from 0 section.parameters) (bound_in_all section.body.items))
