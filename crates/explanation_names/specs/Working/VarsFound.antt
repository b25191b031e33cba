-- The `var` that the code finds a name to be, and the section that it finds a place in. Nobody has to believe this
-- file.
use Rattle.std.specs.Prelude.{ℕ, ◌&&◌, ◌||◌, nat_lt, Bool, false, if◌then◌else◌, List, [], ◌∷◌, Option}
use Rattle.std.specs.Prelude.{Some, None}
use Rattle.std.specs.Str.{bytes_eq}
use Rattle.resolution.specs.Scopes.{◌>>=◌}
use Rattle.syntax.specs.Trees.{Ident, Place, lone, Stmt, var_local, assign, Section, Decl}
use Rattle.explanation_names.specs.FirstBy.{first_by}
use Rattle.explanation_names.specs.MissingReturns.{body_of}

-- the name of a `var` with this text
abbrev pub var_in : List ℕ → Stmt → Option Ident
var_in q (var_local l) = if bytes_eq q l.name.text then Some l.name else None
var_in q _ = None

-- the place is this name alone
abbrev pub is_named : List ℕ → Place → Bool
is_named q (lone x) = bytes_eq q x.text
is_named q _ = false

-- the statement is an assignment to the name
abbrev pub assigns : List ℕ → Stmt → Bool
assigns q (assign p e) = is_named q p
assigns q _ = false

abbrev pub some_assigns : List ℕ → List Stmt → Bool
some_assigns q [] = false
some_assigns q (s ∷ ss) = assigns q s || some_assigns q ss

-- ---- sections

-- the place is after the section's name and before its closing brace
abbrev pub encloses : ℕ → Section → Bool
encloses at s = nat_lt s.name.span.start at && nat_lt at s.body.close.start

abbrev pub section_if : ℕ → Decl → Option Section
section_if at d = body_of d >>= λ (s : Section). if encloses at s then Some s else None

-- the section or helper that the place is in
abbrev pub section_there : List Decl → ℕ → Option Section
section_there decls at = first_by (section_if at) decls
