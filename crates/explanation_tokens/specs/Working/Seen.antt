-- The table of advice, as values of the code have it. Nobody has to believe this file.
use Rattle.std.specs.Prelude.{◌≡◌, ℕ, Bool, ◌&&◌, List, Option, find}
use Rattle.std.specs.Option.{option_map}
use denote.Ref.{Bor}
use Rattle.explanation.specs.Notes.{Note}
use Rattle.source.specs.Tokens.{Tok, seen, seen_token}
use Rattle.source.specs.declared.token.Token.{Token}
use Rattle.explanation_tokens.specs.declared.area.Area.{Area}
use Rattle.explanation_tokens.specs.declared.area.Around as written
use Rattle.explanation_tokens.specs.declared.area.Opened.{Opened}
use Rattle.explanation_tokens.specs.declared.rows.Row.{Row}
use Rattle.explanation_tokens.specs.declared.view.View.{View}
use Rattle.explanation_tokens.specs.Advice.{advice_words, fits_shape, rows, told_place}
use Rattle.explanation_tokens.specs.Around.{Around, around, area_of, fits_area, fits_inner, inner_of}

abbrev pub token_seen : Bor Token → Tok
token_seen t = seen_token t.now

abbrev pub around_of : written.Around → Around
around_of s = record { opened = s.opened.items; decl = s.word; last = s.last }

-- the view after the given number of these tokens
pub record IsView (view : View) (ts : List Tok) (n : ℕ) : Type 0 where
  pub tokens : seen view.tokens.now ≡ ts
  pub number : view.number ≡ n
  pub area : view.area ≡ area_of (around n ts)
  pub inner : view.inner ≡ inner_of (around n ts).opened

-- the row fits the token after the first n
abbrev pub fits_at : List Tok → ℕ → Area → Option Opened → Row → Bool
fits_at ts n area inner r = fits_area area r.0 && fits_inner inner r.1 && fits_shape ts n r.2

abbrev pub noted_row : List Tok → ℕ → Option Opened → Row → Note
noted_row ts n inner r = record { start = told_place ts n inner r.3; words = advice_words ts n r.3 }

abbrev pub noted_at : List Tok → ℕ → Area → Option Opened → Option Note
noted_at ts n area inner = option_map (noted_row ts n inner) (find (fits_at ts n area inner) rows)

abbrev pub fitting : View → Row → Bool
fitting v r = fits_at (seen v.tokens.now) v.number v.area v.inner r

abbrev pub noted : View → Option Note
noted v = noted_at (seen v.tokens.now) v.number v.area v.inner
