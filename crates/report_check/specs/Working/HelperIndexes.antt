-- Which helper has a place. Nobody has to believe these.
use Rattle.std.specs.Prelude.{◌≡◌, ℕ, ◌==◌, if◌then◌else◌, List, Option, Some, nat_eq}
use Rattle.std.specs.Borrow.{Bor}
use Rattle.std.specs.List.{find, list_any}
use Rattle.std.specs.Option.{option_copied}
use Rattle.indexmap.specs.IndexMap.{IndexMap, get}
use Rattle.core_lang.specs.declared.tree.Section.{Section}
use Rattle.flow.specs.Points.{Point, start_of}
use Rattle.report_check.specs.Sources.{has_place}

-- the index has for each place the first helper that has it
abbrev pub IsIndexOf : {S : Type 0} → List Section → IndexMap ℕ (Bor Section) S → Type 0
IsIndexOf helpers index = (start : ℕ) → option_copied (get nat_eq index start) ≡ find (has_place start) helpers

-- the helper of a place after this helper was put at each of these points
abbrev pub put_over : List Point → Section → Option Section → ℕ → Option Section
put_over points helper before start =
    if list_any (λ (p : Point). start_of p == start) points then Some helper else before

abbrev pub IsWithPoints : {S : Type 0} → List Point → Section →
    IndexMap ℕ (Bor Section) S → IndexMap ℕ (Bor Section) S → Type 0
IsWithPoints points helper old new =
    (start : ℕ) →
    option_copied (get nat_eq new start) ≡ put_over points helper (option_copied (get nat_eq old start)) start
