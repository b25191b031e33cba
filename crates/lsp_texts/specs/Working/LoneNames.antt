-- A list of tokens that is one name.
use Rattle.std.specs.Prelude.{ℕ, Bool, true, false, ◌&&◌, ◌==◌, List, [], ◌∷◌, length}
use Rattle.source.specs.Tokens.{Lexeme, name, end, Tok}

abbrev pub is_as_long : List ℕ → Lexeme → Bool
is_as_long text (name other) = length other == length text
is_as_long text _ = false

abbrev pub is_end : Lexeme → Bool
is_end end = true
is_end _ = false

-- a name as long as the text, and its end
abbrev pub are_lone : List Tok → List ℕ → Bool
are_lone (t ∷ u ∷ []) text = is_as_long text t.kind && is_end u.kind
are_lone _ text = false
