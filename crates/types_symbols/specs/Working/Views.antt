-- The data that values of the code stand for.
use Rattle.std.specs.Prelude.{◌≡◌, ℕ, List, map, Option, Some, None, option_map}
use Rattle.std.specs.Borrow.{Bor}
use Rattle.syntax.specs.declared.tree.Decl as the_decl
use Rattle.syntax.specs.declared.tree.Name as the_name
use Rattle.syntax.specs.declared.tree.Struct as the_struct
use Rattle.syntax.specs.Trees.{Ident, Decl, struct, Member, Struct}
use Rattle.syntax.specs.Views.{ident, decl_of, struct_of}
use Rattle.resolution.specs.Scopes.{structs_in, the_decl as first_of_name}

abbrev pub decls_of : List the_decl.Decl → List Decl
decls_of ds = map decl_of ds

-- the first declaration of this name, with its place
abbrev pub decl_named : List the_decl.Decl → the_name.Name → Option (ℕ × Decl)
decl_named ds x = first_of_name (decls_of ds) (ident x).text

-- the name that a reference refers to
abbrev pub name_seen : Option (Bor the_name.Name) → Option Ident
name_seen x = option_map (λ n. ident n.now) x

abbrev pub members_seen : the_struct.Struct → List Member
members_seen s = (struct_of s).members

-- these are the structs among the declarations
abbrev pub AreStructures : List Decl → List the_struct.Struct → Type 0
AreStructures decls ss = map struct_of ss ≡ structs_in decls

-- the struct that a found declaration is, if it is one
abbrev pub struct_in : Option (ℕ × Decl) → Option (ℕ × Struct)
struct_in (Some (i, struct s)) = Some (i, s)
struct_in _ = None
