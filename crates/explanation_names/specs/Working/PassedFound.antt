-- What the code finds along annotations: a member that is not a final reference, or a final reference past the limit.
-- Nobody has to believe this file.
use Rattle.std.specs.Option.{option_or}
use Rattle.std.specs.Prelude.{ℕ, ◌+◌, ◌==◌, ◌&&◌, nat_le, if◌then◌else◌, List, [], ◌∷◌, Option, Some, None}
use Rattle.resolution.specs.Limits.{FINAL_LIMIT}
use Rattle.resolution.specs.Scopes.{the_member}
use Rattle.syntax.specs.Trees.{Ident, Protection, Member, final_member, field_member, Decl, struct}
use Rattle.explanation_names.specs.FirstBy.{first_by}
use Rattle.explanation_names.specs.PassedMembers.{next_members, stopped_at}
use Rattle.explanation_names.specs.declared.passed_members.Sought.{Sought}
use Rattle.explanation_names.specs.declared.passed_members.Sought.TheVariants.{NonFinal, FinalTooMany}

-- the found member, if it is a final reference past the limit of an annotation that begins at this byte
abbrev pub beyond : ℕ → Ident → ℕ → Option (ℕ × Member) → Option Member
beyond at first n (Some (i, final_member f)) = if nat_le FINAL_LIMIT n && (first.span.start == at) then Some (final_member f) else None
beyond at first n _ = None

-- the member to which a name refers, after the given number of other names, if it is the sought one
abbrev pub met : Sought → Ident → ℕ → Ident → Option (ℕ × Member) → Option Member
met (NonFinal at) first n y o = stopped_at at y o
met (FinalTooMany at) first n y o = beyond at first n o

-- the first such member along names, from a struct with these members; the last name is not passed
abbrev pub met_along : Sought → List Decl → Ident → ℕ → Option (List Member) → Ident → List Ident → Option Member
met_along sought decls first n members y [] = None
met_along sought decls first n None y (z ∷ zs) = None
met_along sought decls first n (Some ms) y (z ∷ zs) =
    option_or (met sought first n y (the_member ms y.text)) (met_along sought decls first (n + 1) (next_members decls (the_member ms y.text)) z zs)

-- the first such member along a field's annotation, if it has one
abbrev pub met_by : Sought → List Decl → List Member → Option Protection → Option Member
met_by sought decls ms (Some p) = met_along sought decls p.first 0 (Some ms) p.first p.rest
met_by sought decls ms None = None

-- the first such member along the annotation of a member of a struct with these members
abbrev pub met_for : Sought → List Decl → List Member → Member → Option Member
met_for sought decls ms (field_member f) = met_by sought decls ms f.protection
met_for sought decls ms _ = None

-- the first such member along the annotations of a declaration's fields
abbrev pub met_of : Sought → List Decl → Decl → Option Member
met_of sought decls (struct s) = first_by (met_for sought decls s.members) s.members
met_of sought decls _ = None

-- the first such member of the program
abbrev pub met_at : Sought → List Decl → Option Member
met_at sought decls = first_by (met_of sought decls) decls
