-- The member that an annotation passes although it is not a final reference.
use Rattle.std.specs.Prelude.{ℕ, ◌==◌, if◌then◌else◌, List, [], ◌∷◌, Option, Some, None}
use Rattle.std.specs.Option.{option_or}
use Rattle.resolution.specs.Constants.{members_of}
use Rattle.resolution.specs.Scopes.{the_member}
use Rattle.syntax.specs.Trees.{Ident, Protection, Member, final_member, field_member, Decl, struct}
use Rattle.explanation_names.specs.FirstBy.{first_by}

-- the members of the struct that a final reference leads to
abbrev pub next_members : List Decl → Option (ℕ × Member) → Option (List Member)
next_members decls (Some (i, final_member f)) = members_of decls f.target
next_members decls _ = None

-- the member of a name, if it is not a final reference and the name in the annotation starts at this byte
abbrev pub stopped_at : ℕ → Ident → Option (ℕ × Member) → Option Member
stopped_at at y (Some (i, final_member f)) = None
stopped_at at y (Some (i, m)) = if y.span.start == at then Some m else None
stopped_at at y None = None

-- the first such member along names, from a struct with these members; the last name is not passed
abbrev pub passed_along : List Decl → ℕ → Option (List Member) → Ident → List Ident → Option Member
passed_along decls at members y [] = None
passed_along decls at None y (z ∷ zs) = None
passed_along decls at (Some ms) y (z ∷ zs) =
    option_or (stopped_at at y (the_member ms y.text)) (passed_along decls at (next_members decls (the_member ms y.text)) z zs)

-- the first such member along a field's annotation, if it has one
abbrev pub passed_by : List Decl → ℕ → List Member → Option Protection → Option Member
passed_by decls at ms (Some p) = passed_along decls at (Some ms) p.first p.rest
passed_by decls at ms None = None

-- the first such member along the annotation of this member, if it is a field with one
abbrev pub passed_for : List Decl → ℕ → List Member → Member → Option Member
passed_for decls at ms (field_member f) = passed_by decls at ms f.protection
passed_for decls at ms _ = None

-- the first such member of the fields of a declaration
abbrev pub passed_of : List Decl → ℕ → Decl → Option Member
passed_of decls at (struct s) = first_by (passed_for decls at s.members) s.members
passed_of decls at _ = None

-- the first member that an annotation of the program passes at this byte, and that is not a final reference
abbrev pub passed_at : List Decl → ℕ → Option Member
passed_at decls at = first_by (passed_of decls at) decls
