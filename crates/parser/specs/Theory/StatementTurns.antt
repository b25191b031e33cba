-- Statements, a turn at a time.
use Rattle.std.proofs.Common.{◌≡◌, ℕ, Ok, Result, ◌∷◌, List, [], true, false, refl, arith, ◌++◌, ap, ◌∙◌}
use Rattle.source.specs.declared.token.Sign.TheVariants.{CloseBrace}
use Rattle.source.specs.Tokens.{Tok, mark}
use Rattle.syntax.specs.Grammar.{IsStmt}
use Rattle.parser.specs.declared.stop.Stop.{Stop}
use Rattle.parser.specs.Working.Reading.{next_until, Fails, is_next}
use Rattle.parser.specs.Working.Statements.{stmt_at, stmts_with}
use Rattle.parser.specs.Theory.Readers.{Shortens}
use Rattle.parser.specs.Theory.Many.{NextShortens, with_front}
use Rattle.parser.specs.Theory.Laws.{law_shortens, next_shortens}
use Rattle.parser.specs.Theory.Joined.{until_law}
use Rattle.parser.specs.Theory.StatementLaws.{stmt_law}
use Rattle.syntax.specs.declared.tree.Stmt as the_stmt
use Rattle.syntax.specs.Trees.{stmt, no_stmts, Stmts}
use Rattle.syntax.specs.Views.{stmt_of, stmts_of}
use Rattle.parser.specs.Theory.Loops.{before, until_goes_on, until_ends, until_stops}

pub stmt_shortens : (room : ℕ) → Shortens (stmt_at room)
stmt_shortens room = law_shortens room IsStmt (stmt_at room) 0 0 (stmt_law room room 0 (omega arith))

pub next_stmt_shortens : (room : ℕ) → NextShortens (next_until (mark CloseBrace) (stmt_at room))
next_stmt_shortens room = next_shortens room IsStmt (next_until (mark CloseBrace) (stmt_at room)) 0
    (until_law room IsStmt (mark CloseBrace) (stmt_at room) 0 (stmt_law room room 0 (omega arith)))

pub before-stmts : (xs : List the_stmt.Stmt) → before stmt stmt_of xs no_stmts ≡ stmts_of xs
before-stmts [] = refl
before-stmts (x ∷ xs) = ap (stmt (stmt_of x)) (before-stmts xs)

module _ (room : ℕ) (xs : List the_stmt.Stmt) (ts : List Tok) (total : Result (Stmts × List Tok) Stop) where
  pub stmts_go_on : (x : the_stmt.Stmt) (rest : List Tok) → is_next (mark CloseBrace) ts ≡ false →
      stmt_at room ts ≡ Ok (stmt_of x, rest) →
      with_front (before stmt stmt_of xs) (stmts_with (stmt_at room) ts) ≡ total →
      with_front (before stmt stmt_of (xs ++ x ∷ [])) (stmts_with (stmt_at room) rest) ≡ total
  unfolding stmts_with
  stmts_go_on x rest more read so_far = until_goes_on no_stmts stmt stmt_of (mark CloseBrace) (stmt_at room)
      (next_stmt_shortens room) xs ts total x rest more read so_far

  pub stmts_end : is_next (mark CloseBrace) ts ≡ true →
      with_front (before stmt stmt_of xs) (stmts_with (stmt_at room) ts) ≡ total → total ≡ Ok (stmts_of xs, ts)
  unfolding stmts_with
  stmts_end over so_far = until_ends no_stmts stmt stmt_of (mark CloseBrace) (stmt_at room) (next_stmt_shortens room) xs
      ts total over so_far ∙ ap (λ (l : Stmts). Ok (l, ts)) (before-stmts xs)

  pub stmts_stop : (e : Stop) → is_next (mark CloseBrace) ts ≡ false → Fails e (stmt_at room ts) →
      with_front (before stmt stmt_of xs) (stmts_with (stmt_at room) ts) ≡ total → Fails e total
  unfolding stmts_with
  stmts_stop e more fails so_far = until_stops no_stmts stmt stmt_of (mark CloseBrace) (stmt_at room)
      (next_stmt_shortens room) xs ts total e more fails so_far
