-- Places among tokens.
use Rattle.std.proofs.Common.{◌≡◌, ◌∙◌, ℕ, ◌+◌, ◌<◌, ◌≤◌, zero, suc, List, [], ◌∷◌, ◌++◌, length, take, get_or}
use Rattle.std.proofs.Common.{slice_get, Some, ap, sym, subst, refl, arith}
use Rattle.std.proofs.lemmas.List.{length-map, length-append, length-take}
use Rattle.std.proofs.lemmas.List.Elements.{All-more}
use Rattle.std.proofs.Math.ListN.{get_or-map}
use Rattle.source.specs.declared.token.Token.{Token}
use Rattle.source.specs.Tokens.{Tok, seen, seen_token}
use Rattle.explanation_tokens.specs.declared.candidate.Candidate.{Candidate}
use Rattle.explanation_tokens.specs.declared.trial.TokenPlace.{TokenPlace}
use Rattle.explanation_tokens.specs.Expected.{AreExpected, AreThose, CanCome, IsBehind, READ_LIMIT, StartBefore, all_candidates}
use Rattle.explanation_tokens.specs.Working.Trials.{IsPlace, before_in}

-- ---- the place is found

-- one more token that starts before the place
pub one_more_before : (tokens : List Token) (n start : ℕ) (t : Token) → n < length tokens → get_or tokens n t ≡ t →
    StartBefore (take n (seen tokens)) start →
    (seen_token t).span.start < start → StartBefore (take (n + 1) (seen tokens)) start
one_more_before tokens n start t within is all early =
    All-more (λ (x : Tok). x.span.start < start) (seen tokens) n (seen_token t) (rw length-map within) all
    (subst (λ (x : Tok). x.span.start < start) (sym (get_or-map seen_token tokens n t ∙ ap seen_token is)) early)

pub there_seen : (tokens : List Token) (n : ℕ) (t : Token) → slice_get tokens n ≡ Some t →
    slice_get (seen tokens) n ≡ Some (seen_token t)
there_seen [] n t is = cc
there_seen (x ∷ tokens) zero t is = let same : x ≡ t = cc in ap (λ (y : Token). Some (seen_token y)) same
there_seen (x ∷ tokens) (suc n) t is = there_seen tokens n t is

-- ---- the place is unique

-- if all tokens before a place start before it, one that does not is not among them
not_before : (ts : List Tok) (n k start : ℕ) (t : Tok) → StartBefore (take n ts) start → slice_get ts k ≡ Some t →
    start ≤ t.span.start → n ≤ k
not_before ts zero k start t all there late = omega arith
not_before [] (suc n) k start t all there late = cc
not_before (x ∷ ts) (suc n) zero start t all there late =
    let same : x ≡ t = cc in
    let early : x.span.start < start = all 0 x (omega arith) in
    absurd (let s : x.span.start ≡ t.span.start = ap (λ (y : Tok). y.span.start) same in omega arith)
not_before (x ∷ ts) (suc n) (suc k) start t all there late =
    let rest = not_before ts n k start t (λ i d lt. all (suc i) d (omega arith)) there late in omega arith

pub same_number : (ts : List Tok) (n k start : ℕ) (t u : Tok) → StartBefore (take n ts) start →
    StartBefore (take k ts) start →
    slice_get ts n ≡ Some t → slice_get ts k ≡ Some u → t.span.start ≡ start → u.span.start ≡ start → n ≡ k
same_number ts n k start t u first other there here starts begins =
    let a = not_before ts n k start u first here (omega arith) in
    let b = not_before ts k n start t other there (omega arith) in
    omega arith

pub spot_is : (place : TokenPlace) (number start : ℕ) → place.number ≡ number → place.span.start ≡ start →
    place.span.end ≡ start + 1 →
    place ≡ record { number = number; span = record { start = start; end = start + 1 } }
spot_is place number start n s e =
    ap (λ k. record { number = k; span = record { start = place.span.start; end = place.span.end } }) n
    ∙ ap (λ k. record { number = number; span = record { start = k; end = place.span.end } }) s
    ∙ ap (λ k. record { number = number; span = record { start = start; end = k } }) e

-- at a token that starts there, after those that start before it, no other is the place
pub only_place : (tokens : List Token) (start n : ℕ) (t : Tok) (place : TokenPlace) →
    StartBefore (take n (seen tokens)) start → slice_get (seen tokens) n ≡ Some t →
    t.span.start ≡ start → IsPlace tokens start place → place ≡ record { number = n; span = record { start = start; end = start + 1 } }
only_place tokens start n t place all there starts at =
    let before = subst (λ (k : ℕ). StartBefore (before_in place tokens) k) at.same at.behind.before in
    spot_is place n start (same_number (seen tokens) place.number n start at.token t before all at.there there at.starts starts) at.same
    (at.behind.one ∙ ap (λ k. k + 1) at.same)

-- after a token that starts later, or after the last one, there is no such place
pub none_later : (tokens : List Token) (start n : ℕ) (t : Tok) (place : TokenPlace) →
    StartBefore (take n (seen tokens)) start → slice_get (seen tokens) n ≡ Some t →
    start < t.span.start → IsPlace tokens start place → ⊥
none_later tokens start n t place all there late at =
    let before = subst (λ (k : ℕ). StartBefore (before_in place tokens) k) at.same at.behind.before in
    let a = not_before (seen tokens) place.number n start t before there (omega arith) in
    let b = not_before (seen tokens) n place.number start at.token all at.there (omega (arith, at.starts)) in
    let same : place.number ≡ n = omega arith in
    let one : Some at.token ≡ Some t = sym at.there ∙ ap (λ k. slice_get (seen tokens) k) same ∙ there in
    let is : at.token ≡ t = cc in
    omega (arith, ap (λ (x : Tok). x.span.start) is, at.starts)

within_seen : (ts : List Tok) (k : ℕ) (t : Tok) → slice_get ts k ≡ Some t → k < length ts
within_seen [] k t is = cc
within_seen (x ∷ ts) zero t is = omega arith
within_seen (x ∷ ts) (suc k) t is = let rest = within_seen ts k t is in omega arith

pub none_behind : (tokens : List Token) (start n : ℕ) (place : TokenPlace) → length tokens ≤ n →
    StartBefore (take n (seen tokens)) start → IsPlace tokens start place → ⊥
none_behind tokens start n place all_read all at =
    let late = not_before (seen tokens) n place.number start at.token all at.there (omega (arith, at.starts)) in
    let within = within_seen (seen tokens) place.number at.token at.there in
    omega (arith, late, within, all_read, length-map tokens seen_token)

-- ---- the place of an unexpected token

split_at : (ts : List Tok) (n : ℕ) (t : Tok) → slice_get ts n ≡ Some t →
    (after : List Tok) × (ts ≡ take n ts ++ t ∷ after)
split_at [] n t is = cc
split_at (x ∷ ts) zero t is = (ts, let same : x ≡ t = cc in ap (λ (y : Tok). y ∷ ts) same)
split_at (x ∷ ts) (suc n) t is = let rest = split_at ts n t is in (rest.0, ap (λ (l : List Tok). x ∷ l) rest.1)

-- `before_in` gives the tokens before the place
pub behind_place : (tokens : List Token) (start : ℕ) (place : TokenPlace) → IsPlace tokens start place →
    IsBehind (seen tokens) start (before_in place tokens)
behind_place tokens start place at =
    let parts = split_at (seen tokens) place.number at.token at.there in
    record { token = at.token; after = parts.0; parts = parts.1; place = at.starts }

pub are_expected : (tokens : List Token) (start : ℕ) (place : TokenPlace) (list : List Candidate) →
    IsPlace tokens start place →
    AreThose (CanCome (before_in place tokens) place.span.start) all_candidates list → AreExpected (seen tokens) start list
are_expected tokens start place list at those =
    record {
      before = before_in place tokens;
      place = behind_place tokens start place at;
      those = subst (λ (k : ℕ). AreThose (CanCome (before_in place tokens) k) all_candidates list) at.same those;
    }

-- few tokens come before a place with a low number
pub few_expected : (tokens : List Token) (start : ℕ) (place : TokenPlace) (list : List Candidate) (at : IsPlace tokens start place)
    (those : AreThose (CanCome (before_in place tokens) place.span.start) all_candidates list) → place.number ≤ READ_LIMIT →
    length (are_expected tokens start place list at those).before ≤ READ_LIMIT
unfolding are_expected
few_expected tokens start place list at those few =
    let short : length (before_in place tokens) ≤ READ_LIMIT = omega (arith, length-take place.number (seen tokens)) in
    short

behind_all : (before : List Tok) (t : Tok) (after : List Tok) → take (length before) (before ++ t ∷ after) ≡ before
behind_all [] t after = refl
behind_all (x ∷ xs) t after = ap (λ (l : List Tok). x ∷ l) (behind_all xs t after)

there_at : (before : List Tok) (t : Tok) (after : List Tok) → slice_get (before ++ t ∷ after) (length before) ≡ Some t
there_at [] t after = refl
there_at (x ∷ xs) t after = there_at xs t after

abbrev pub spot_behind : List Tok → ℕ → TokenPlace
spot_behind before start = record { number = length before; span = record { start = start; end = start + 1 } }

pub before_spot : (tokens : List Token) (start : ℕ) (before : List Tok) → IsBehind (seen tokens) start before →
    before_in (spot_behind before start) tokens ≡ before
before_spot tokens start before at = ap (λ (l : List Tok). take (length before) l) at.parts ∙ behind_all before at.token at.after

pub place_behind : (tokens : List Token) (start : ℕ) (before : List Tok) → IsBehind (seen tokens) start before →
    StartBefore before start →
    IsPlace tokens start (spot_behind before start)
place_behind tokens start before at rise =
    record {
      behind = record {
        within = omega (arith, ap length at.parts, length-append before (at.token ∷ at.after), length-map tokens seen_token);
        before = subst (λ (l : List Tok). StartBefore l start) (sym (before_spot tokens start before at)) rise;
        one = refl;
      };
      same = refl;
      token = at.token;
      there = ap (λ (l : List Tok). slice_get l (length before)) at.parts ∙ there_at before at.token at.after;
      starts = at.place;
    }
