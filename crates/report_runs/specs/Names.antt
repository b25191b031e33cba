-- The cells that a name stands for: the cell that is written like the name, or the cells that are written like the name
-- followed by an index or a field. `n` is a global, `a` an array, `a[0]` an element, `p` a pool, `p[1]` an object,
-- `p[1].x` a field of the object.
use Rattle.std.specs.Prelude.{◌≡◌, ℕ, ◌+◌, Bool, true, false, not, ◌&&◌, ◌||◌, if◌then◌else◌, nat_eq, List, [], ◌∷◌, ◌++◌}
use Rattle.std.specs.Prelude.{Option, Some, None}
use Rattle.std.specs.List.{find, list_all, list_any, slice_split}
use Rattle.core_lang.specs.declared.typed.Cell.{Cell}
use Rattle.core_lang.specs.declared.typed.Typed.{Typed}
use Rattle.outcomes.specs.declared.outcome.Cells.{Cells}
use Rattle.outcomes.specs.declared.outcome.Cells.TheVariants.{Every, These}
use Rattle.report.specs.Pieces.{owner_text}

-- the text is the name, or the name followed by `[` or `.`
abbrev pub goes_on : List ℕ → List ℕ → Bool
goes_on [] [] = true
goes_on [] (c ∷ cs) = nat_eq c 91 || nat_eq c 46
goes_on (n ∷ ns) [] = false
goes_on (n ∷ ns) (c ∷ cs) = nat_eq n c && goes_on ns cs

-- the name stands for the cell
abbrev pub is_named : Typed → List ℕ → Cell → Bool
is_named program name cell = goes_on name (owner_text program cell.owner)

-- the name stands for some cell of the program
abbrev pub is_known : Typed → List ℕ → Bool
is_known program name = list_any (is_named program name) program.cells.items

-- the numbers, from `number` on, of those of these cells that one of the names stands for
abbrev pub numbers_from : Typed → List (List ℕ) → ℕ → List Cell → List ℕ
numbers_from program names number [] = []
numbers_from program names number (cell ∷ cells) =
    (if list_any (λ name. is_named program name cell) names then number ∷ [] else [])
    ++ numbers_from program names (number + 1) cells

-- the names in a text, which are separated by commas
abbrev pub names_in : List ℕ → List (List ℕ)
names_in text = slice_split (λ c. nat_eq c 44) text

-- the names in a text and the further ones; nothing, where neither are given
abbrev pub names_together : Option (List ℕ) → Option (List (List ℕ)) → Option (List (List ℕ))
names_together None more = more
names_together (Some text) None = Some (names_in text)
names_together (Some text) (Some more) = Some (names_in text ++ more)

-- the cells that these names ask for: those of each name; all, where no names are given
abbrev pub AreAsked : Typed → Option (List (List ℕ)) → Cells → Type 0
AreAsked program None Every = Unit {0}
AreAsked program None (These numbers) = ⊥
AreAsked program (Some names) Every = ⊥
AreAsked program (Some names) (These numbers) =
    (list_all (is_known program) names ≡ true) × (numbers.items ≡ numbers_from program names 0 program.cells.items)

-- the first of these names that does not stand for a cell, if one doesn't
abbrev pub first_unknown : Typed → List (List ℕ) → Option (List ℕ)
first_unknown program names = find (λ name. not (is_known program name)) names

-- names are given, and this is the first of them that does not stand for a cell
abbrev pub IsUnknownIn : Typed → Option (List (List ℕ)) → List ℕ → Type 0
IsUnknownIn program None name = ⊥
IsUnknownIn program (Some names) name = first_unknown program names ≡ Some name
