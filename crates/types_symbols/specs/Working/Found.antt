-- Tables of names, and what comes before each place of a list.
use Rattle.std.specs.Prelude.{◌≡◌, ℕ, List, [], take, Option, Some, None, Bool, slice_get, if◌then◌else◌}
use Rattle.std.specs.HashMap.{get_by_text}
use Rattle.std.specs.Option.{option_or}
use Rattle.std.specs.Str.{bytes_eq}
use Rattle.syntax.specs.Trees.{Ident}
use Rattle.resolution.specs.declared.finding.Finding.{Finding}
use Rattle.resolution.specs.Scopes.{place_of}
use Rattle.resolution.specs.Working.FaultLists.{again}
use Rattle.types_symbols.specs.declared.names.Names.{Names}

-- the place that the table has for a name
abbrev pub found : Names → List ℕ → Option ℕ
found n q = get_by_text n.places q

-- the table has the place of the first of each name
abbrev pub IsTableOf : {A : Type 0} → (A → List ℕ → Bool) → List A → Names → Type 0
IsTableOf bears xs n = (q : List ℕ) → found n q ≡ place_of bears xs q

-- the table got a name with its place, unless it had the name
abbrev pub IsTableWithName : List ℕ → ℕ → Names → Names → Type 0
IsTableWithName name place old new = (q : List ℕ) → found new q ≡ option_or (found old q) (if bytes_eq q name then Some place else None)

-- the table got a name with its place, if there is one and the table did not have it
abbrev pub IsTableWith : Option Ident → ℕ → Names → Names → Type 0
IsTableWith (Some x) place old new = IsTableWithName x.text place old new
IsTableWith None place old new = (q : List ℕ) → found new q ≡ found old q

-- the fault of a name that the table has
abbrev pub declared_in : Names → Option Ident → List Finding
declared_in n (Some x) = again x.span.start (found n x.text)
declared_in n None = []

-- the item, or the other if there is none
abbrev pub or_else : {C : Type 0} → Option C → C → C
or_else (Some c) all = c
or_else None all = all

-- the list `ahead` has at each place the result of `made` on the items before the place; past its end that result is
-- `all`
abbrev pub AreAhead : {A C : Type 0} → (List A → C) → List A → List C → C → Type 0
AreAhead made xs ahead all = (i : ℕ) → or_else (slice_get ahead i) all ≡ made (take i xs)
