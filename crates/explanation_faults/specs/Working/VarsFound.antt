-- The note that the code finds for the `var` that a name is. Nobody has to believe this file.
use Rattle.explanation.specs.Notes.{Note}
use Rattle.std.specs.Prelude.{ℕ, ◌||◌, Bool, if◌then◌else◌, List, slice_get, Option, Some}
use Rattle.resolution.specs.Scopes.{◌>>=◌}
use Rattle.source.specs.Tokens.{Tok}
use Rattle.syntax.specs.Trees.{Ident, Stmt, Section, Decl}
use Rattle.explanation_names.specs.FirstBy.{first_by}
use Rattle.explanation_names.specs.TokensThere.{token_at, name_of, has_two_fields}
use Rattle.explanation_names.specs.Vars.{all_of}
use Rattle.explanation_names.specs.Working.VarsFound.{var_in, some_assigns, section_there}
use Rattle.explanation_faults.specs.VarNotes.{var_note, fixed_note}

-- the note on the `var` of this name among these statements. It says also that a `let` would do, if none of the
-- statements assigns it, and it is the base of at most one field
abbrev pub note_of_var : Bool → List ℕ → List Stmt → Option Note
note_of_var is_long q ss =
    first_by (var_in q) ss >>= λ (x : Ident). Some (if is_long || some_assigns q ss then var_note x else fixed_note x)

-- the note on the `var` that the name at the byte is
abbrev pub var_noted : List Tok → List Decl → ℕ → Option Note
var_noted tokens decls at =
    token_at at tokens >>= λ i. name_of (slice_get tokens i) >>= λ q. section_there decls at >>= λ (s : Section).
    note_of_var (has_two_fields i tokens) q (all_of s.body.stmts)
