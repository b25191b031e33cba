-- A law of the uses of names, as `src/laws.rt` claims it.
use Rattle.std.specs.Prelude.{◌≡◌, ℕ, List, [], ◌∷◌}
use Rattle.resolution.specs.Faults.{IsUnknown}
use Rattle.resolution.specs.Where.{Has}
use Rattle.syntax.specs.Trees.{Ident, Decl}
use Rattle.explanation_names.specs.Sought.{Use, of_kind, by_dots, by_init, by_annotation, by_owner, by_class, Uses}

-- the names that are looked up in a use
abbrev pub seekers : Use → List Ident
seekers (of_kind k xs n) = n ∷ []
seekers (by_dots xs x fs) = fs
seekers (by_init p f) = f ∷ []
seekers (by_annotation s p) = p.first ∷ p.rest
seekers (by_owner t f) = f ∷ []
seekers (by_class s f) = f ∷ []

-- a name that begins at the byte is looked up in some use
pub record IsSoughtAt (decls : List Decl) (at : ℕ) : Type 0 where
  pub meant : Use
  pub used : Uses decls meant
  pub name : Ident
  pub listed : Has (seekers meant) name
  pub begins : name.span.start ≡ at

-- each unknown name is looked up in some use
abbrev pub UnknownAreSought : Type 0
UnknownAreSought = (decls : List Decl) (at : ℕ) → IsUnknown decls at → IsSoughtAt decls at
