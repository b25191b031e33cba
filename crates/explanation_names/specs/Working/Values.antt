-- Names, locals and members, as values of the code stand for them.
use Rattle.std.proofs.Common.{Vec, Global}
use Rattle.std.specs.List.{flat_map}
use Rattle.std.specs.Option.{option_map}
use Rattle.std.specs.Prelude.{◌≡◌, ◌++◌, [], ◌∷◌, ℕ, false, List, map, Option, Some, None}
use denote.Ref.{Bor}
use Rattle.explanation_names.specs.Distance.{IsDistance}
use Rattle.resolution.specs.Constants.{pool_members}
use Rattle.resolution.specs.Scopes.{the_decl}
use Rattle.resolution.specs.Where.{Has}
use Rattle.types_symbols.specs.Working.Views.{decls_of as decls_in, members_seen}
use Rattle.types_symbols.specs.declared.members.Structure.{Structure}
use Rattle.types_symbols.specs.declared.table.SymbolTable.{SymbolTable}
use Rattle.syntax.specs.Trees.{Decl, Ident, Member}
use Rattle.syntax.specs.Views.{ident, member_of, type_of}
use Rattle.syntax.specs.declared.tree.Member as written_member
use Rattle.syntax.specs.declared.tree.Name.{Name}
use Rattle.syntax.specs.declared.tree.Path as written_path
use Rattle.explanation_names.specs.declared.found.FoundNames.{FoundNames}
use Rattle.explanation_names.specs.declared.nearest.Near.{Near}
use Rattle.explanation_names.specs.declared.search.NameSearch.{NameSearch}
use Rattle.explanation_names.specs.declared.search.LocalInScope as written_local
use Rattle.explanation_names.specs.declared.members.Role.{Role}
use Rattle.explanation_names.specs.Working.Found.{Candidate, along, along_one, meant_by, next}
use Rattle.explanation_names.specs.Locals.{LocalInScope}
use Rattle.explanation_names.specs.NearNames.{AreFew, IsNear, GoesFirst, IsNearestOf}
use Rattle.explanation_names.specs.Sought.{Use, by_dots}
use Rattle.explanation_names.specs.Working.UsesFound.{uses_of_member}

abbrev pub ident_at : Bor Name → Ident
ident_at name = ident name.now

abbrev pub idents : List (Bor Name) → List Ident
idents names = map ident_at names

abbrev pub option_list : {A : Type 0} → Option A → List A
option_list (Some x) = x ∷ []
option_list None = []

-- if no allocation failed up to the end, none failed before, and these names were appended
pub record Adds (before after : FoundNames) (more : List Ident) : Type 0 where
  pub unrefused : after.is_refused ≡ false → before.is_refused ≡ false
  pub names : after.is_refused ≡ false → idents after.names.items ≡ idents before.names.items ++ more

-- ---- locals and members

abbrev pub typed_of : written_local.LocalInScope → LocalInScope
typed_of x = record { name = ident x.name.now; value_type = type_of x.value_type.now }

abbrev pub typed_seen : List written_local.LocalInScope → List LocalInScope
typed_seen xs = map typed_of xs

-- if no allocation failed up to the end, these locals were appended
abbrev pub Grows : FoundNames → Vec written_local.LocalInScope Global → Vec written_local.LocalInScope Global →
    List LocalInScope → Type 0
Grows end before after more = end.is_refused ≡ false → typed_seen after.items ≡ typed_seen before.items ++ more

abbrev pub Keeps : FoundNames → Vec written_local.LocalInScope Global → Vec written_local.LocalInScope Global → Type 0
Keeps end before after = end.is_refused ≡ false → typed_seen after.items ≡ typed_seen before.items

-- these locals were appended to the scope, and no name was found
pub record Binds (before after : Vec written_local.LocalInScope Global) (start end : FoundNames) (more : List LocalInScope) : Type 0 where
  pub adds : Adds start end []
  pub scope : Grows end before after more

abbrev pub members_at : Bor Structure → List Member
members_at s = members_seen s.now

abbrev pub members_in_pool : SymbolTable → Name → Option (List Member)
members_in_pool symbols x = pool_members (decls_in symbols) (the_decl (decls_in symbols) (ident x).text)

-- ---- a search

abbrev pub decls_at : NameSearch → List Decl
decls_at s = decls_in s.symbols.now

abbrev pub locals_at : NameSearch → List LocalInScope
locals_at s = typed_seen s.locals.now

abbrev pub meant_for : NameSearch → List Use → List Ident
meant_for s us = flat_map (meant_by (decls_at s) s.at) us

-- the names that could be meant by these uses were found
pub record Says (s : NameSearch) (before after : FoundNames) (us : List Use) : Type 0 where
  pub found : Adds before after (meant_for s us)

abbrev pub uses_of_members : NameSearch → Name → List written_member.Member → List Use
uses_of_members s structure ms = flat_map (uses_of_member (locals_at s) (ident structure)) (map member_of ms)

-- the uses of the names after dots
abbrev pub dots_at : NameSearch → written_path.Path → List Use
dots_at s p = by_dots (locals_at s) (ident p.first) (map ident p.fields.items) ∷ []

abbrev pub along_from : NameSearch → Role → Option (Bor Structure) → List Name → List Ident
along_from s r o names = along r (decls_at s) s.at (option_map members_at o) (map ident names)

abbrev pub next_from : SymbolTable → Option (Bor Structure) → Name → Option (List Member)
next_from symbols o name = next (decls_in symbols) (option_map members_at o) (ident name)

abbrev pub behind_one : NameSearch → written_path.Path → written_local.LocalInScope → List Ident
behind_one s p l = along_one (decls_at s) s.at (ident p.first) (map ident p.fields.items) (typed_of l)

-- ---- the choice

abbrev pub candidate_of : Near → Candidate
candidate_of near = record { name = ident near.name.now; edits = near.edits }

-- the candidate is the best of these names for q
pub record IsBest (names : List Ident) (q : List ℕ) (c : Candidate) : Type 0 where
  pub listed : Has names c.name
  pub distance : IsDistance q c.name.text c.edits
  pub few : AreFew c.edits q c.name.text
  pub goes_first : (y : Ident) → Has names y → (other : IsNear q y.text) → GoesFirst c.edits c.name other.edits y

abbrev pub NoneIsNear : (Ident → Type 0) → List ℕ → Type 0
NoneIsNear Could q = (y : Ident) → Could y → IsNear q y.text → ⊥

abbrev pub BestOf : List Ident → List ℕ → Option Candidate → Type 0
BestOf names q (Some c) = IsBest names q c
BestOf names q None = NoneIsNear (Has names) q

-- if one candidate was the best of some names, the other is the best of these and x
abbrev pub IsBestWith : List ℕ → Ident → Option Near → Option Near → Type 0
IsBestWith q x before after =
    (names : List Ident) → BestOf names q (option_map candidate_of before) →
    BestOf (names ++ x ∷ []) q (option_map candidate_of after)

-- the nearest of these names, if one is near
abbrev pub FoundNearest : (Ident → Type 0) → List ℕ → Option (Bor Name) → Type 0
FoundNearest Could q (Some name) = IsNearestOf Could q (ident_at name)
FoundNearest Could q None = NoneIsNear Could q
