-- The lock that an annotation names.
use Rattle.std.specs.Prelude.{ℕ, ◌+◌, min, List, [], ◌∷◌, ◌++◌, Option, Some, None}
use Rattle.syntax.specs.Trees.{Ident, Protection, Decl, lock, struct, Member, lock_member, final_member}
use Rattle.resolution.specs.Core as core
use Rattle.resolution.specs.Limits.{CLASS_LIMIT}
use Rattle.resolution.specs.Scopes.{◌>>=◌, the_decl, the_member, number_in}
use Rattle.resolution.specs.Numbers.{classes_ahead}
use Rattle.resolution.specs.Expressions.{member_number}

-- the class of the lock at this place, or of the n-th lock of the struct at this place; past the limit all have one
-- number, and the program has a fault
abbrev pub class_number : List Decl → ℕ → ℕ → ℕ
class_number decls i n = min (classes_ahead decls i + n) CLASS_LIMIT

-- the class of a global lock that is named alone
abbrev pub class_in : List Decl → Option (ℕ × Decl) → List Ident → Option ℕ
class_in decls (Some (i, lock x)) [] = Some (class_number decls i 0)
class_in decls _ ys = None

-- the class of a global's lock
abbrev pub class_of : List Decl → Option Protection → Option ℕ
class_of decls (Some p) = class_in decls (the_decl decls p.first.text) p.rest
class_of decls None = None

-- the position of a walk along an annotation: a struct's place and members, and the final references on the way to it
pub record AnnotationCursor : Type 0 where
  pub structure : ℕ
  pub members : List Member
  pub through : List ℕ

-- the walk at the struct that was found, over one more final reference
abbrev pub at_struct : List ℕ → ℕ → Option (ℕ × Decl) → Option AnnotationCursor
at_struct through n (Some (i, struct s)) = Some (record { structure = i; members = s.members; through = through ++ n ∷ [] })
at_struct through n _ = None

-- the walk over a member: a final reference leads to its struct, and no other member leads on
abbrev pub through_member : List Decl → AnnotationCursor → Option (ℕ × Member) → Option AnnotationCursor
through_member decls st (Some (i, final_member f)) = at_struct st.through (member_number st.members i (final_member f)) (the_decl decls f.target.text)
through_member decls st _ = None

-- the walk over the member of this name
abbrev pub stepped_on : List Decl → Option AnnotationCursor → Ident → Option AnnotationCursor
stepped_on decls (Some st) y = through_member decls st (the_member st.members y.text)
stepped_on decls None y = None

-- the protection at the end of a walk, which has to be a lock field
abbrev pub ended_at : List Decl → AnnotationCursor → Option (ℕ × Member) → Option core.Protection
ended_at decls st (Some (i, lock_member x)) = Some (record { through = st.through; class = class_number decls st.structure (number_in st.members i (lock_member x)) })
ended_at decls st _ = None

-- the protection at the lock field of this name
abbrev pub ended : List Decl → Option AnnotationCursor → Ident → Option core.Protection
ended decls (Some st) y = ended_at decls st (the_member st.members y.text)
ended decls None y = None

-- the protection that these names lead to; the last one is the name of the lock
abbrev pub along : List Decl → Option AnnotationCursor → Ident → List Ident → Option core.Protection
along decls st y [] = ended decls st y
along decls st y (z ∷ zs) = along decls (stepped_on decls st y) z zs

-- the protection of a field: a walk from a member of its own struct, or a global lock
abbrev pub protection_by : List Decl → AnnotationCursor → Protection → Option (ℕ × Member) → Option core.Protection
protection_by decls own p (Some m) = along decls (Some own) p.first p.rest
protection_by decls own p None = class_in decls (the_decl decls p.first.text) p.rest >>= λ c. Some (record { through = []; class = c })

-- the walk at the struct of this place
abbrev pub cursor_at : ℕ → List Member → AnnotationCursor
cursor_at i ms = record { structure = i; members = ms; through = [] }

-- what protects a field of the struct at this place
abbrev pub protection_of : List Decl → ℕ → List Member → Option Protection → Option core.Protection
protection_of decls i ms (Some p) = protection_by decls (cursor_at i ms) p (the_member ms p.first.text)
protection_of decls i ms None = None
