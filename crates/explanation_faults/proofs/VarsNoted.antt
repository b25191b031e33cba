-- The notes on a `var`.
use Rattle.std.proofs.Common.{◌≡◌, ◌∙◌, ℕ, List, Option, Some, sym, ap}
use Rattle.std.specs.Prelude.{slice_get}
use Rattle.explanation.specs.Notes.{Note}
use Rattle.resolution.specs.Scopes.{◌>>=◌}
use Rattle.source.specs.Tokens.{Tok}
use Rattle.syntax.specs.Trees.{Section, Decl}
use Rattle.explanation_names.specs.TokensThere.{token_at, name_of, has_two_fields}
use Rattle.explanation_names.specs.Vars.{all_of}
use Rattle.explanation_names.specs.Working.VarsFound.{section_there}
use Rattle.explanation_faults.specs.Working.VarsFound.{note_of_var, var_noted}

module _ (tokens : List Tok) (decls : List Decl) (at i : ℕ) (q : List ℕ) (s : Section) where
  in_section : Section → Option Note
  in_section x = note_of_var (has_two_fields i tokens) q (all_of x.body.stmts)

  pub noted_by : Some i ≡ token_at at tokens → Some q ≡ name_of (slice_get tokens i) → Some s ≡ section_there decls at →
      var_noted tokens decls at ≡ note_of_var (has_two_fields i tokens) q (all_of s.body.stmts)
  noted_by token named inside =
      ap (λ (o : Option ℕ). o >>= λ k. name_of (slice_get tokens k) >>= λ r. section_there decls at >>= λ (x : Section).
      note_of_var (has_two_fields k tokens) r (all_of x.body.stmts)) (sym token)
      ∙ ap (λ (o : Option (List ℕ)). o >>= λ r. section_there decls at >>= λ (x : Section). note_of_var (has_two_fields i tokens) r (all_of x.body.stmts)) (sym named)
      ∙ ap (λ (o : Option Section). o >>= λ (x : Section). note_of_var (has_two_fields i tokens) q (all_of x.body.stmts)) (sym inside)
