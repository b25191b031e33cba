-- The final reference that the code finds to be given null: of the first `init` that gives one null there. Nobody has
-- to believe this file.
use Rattle.std.specs.Prelude.{ℕ, ◌==◌, Bool, false, if◌then◌else◌, List, Option, Some, None}
use Rattle.resolution.specs.Constants.{initialised}
use Rattle.syntax.specs.Trees.{Const, null_const, Final, Member, final_member, Decl, init}
use Rattle.explanation_names.specs.FirstBy.{first_by}

-- the constant is a null at the byte
abbrev pub is_null_at : ℕ → Const → Bool
is_null_at at (null_const s) = s.start == at
is_null_at at _ = false

-- the member that is found, if it is a final reference
abbrev pub final_in : Option (ℕ × Member) → Option Final
final_in (Some (m, final_member f)) = Some f
final_in _ = None

-- the final reference that a declaration gives a null at the byte
abbrev pub null_given_in : List Decl → ℕ → Decl → Option Final
null_given_in decls at (init i) = if is_null_at at i.value then final_in (initialised decls i) else None
null_given_in decls at _ = None

-- the same for the first declaration that gives a null at the byte
abbrev pub null_given : List Decl → ℕ → Option Final
null_given decls at = first_by (null_given_in decls at) decls
