-- Tokens that have a tree are read, unless a sign is too deep: single tokens, and productions part by part.
use Rattle.std.proofs.Common.{◌≡◌, ℕ, zero, suc, Bool, true, false, cond, List, [], ◌∷◌, length, Some, None, Result}
use Rattle.std.proofs.Common.{Ok, Err, refl, ap, ◌∙◌}
use Rattle.source.specs.declared.span.Span.{Span}
use Rattle.source.specs.declared.token.Keyword.{Keyword}
use Rattle.source.specs.declared.token.Sign.{Sign}
use Rattle.source.specs.declared.token.Sign.TheVariants.{CloseParen, Comma}
use Rattle.source.specs.Tokens.{Lexeme, word, mark, Tok}
use Rattle.syntax.specs.Grammar.{tok, IsName, is_name, IsOptional, left_out, given, AreMany, no_more, one_more}
use Rattle.syntax.specs.Grammar.{IsAfter, after, AreListed, none_listed, listed}
use Rattle.parser.specs.declared.stop.Stop.{Stop}
use Rattle.parser.specs.declared.stop.Stop.TheVariants.{TooDeep}
use Rattle.parser.specs.Working.Reading.{chosen, choose, ◌>>=◌, Reader, turn, many_at, refused, sign_at, opened}
use Rattle.parser.specs.Working.Reading.{open_at, word_at, name_at, int_at, is_next, next_unless, next_until, skip_at}
use Rattle.parser.specs.Working.Reading.{behind, next_after, after_each, listed_from, listed_at, maybe_from, maybe_at}
use Rattle.parser.specs.Theory.Law.{IsTok, is_tok, IsInt, is_int_tok, same_sign-refl, same_keyword-refl}
use Rattle.parser.specs.Theory.Many.{NextShortens, many_at-turn}
use Rattle.parser.specs.Theory.Joined.{Done, done, Both, both}

-- the value was read, or a sign was too deep
pub data Finds {B : Type 0} (r : Result B Stop) (y : B) : Type 0 where
  found : r ≡ Ok y → Finds r y
  deep : (n : ℕ) → r ≡ Err (TooDeep n) → Finds r y

pub finds_then : {A B : Type 0} (r : Result A Stop) (k : A → Result B Stop) (x : A) (y : B) → Finds r x →
    Finds (k x) y → Finds (r >>= k) y
finds_then r k x y (found e) (found g) = found (ap (λ r. r >>= k) e ∙ g)
finds_then r k x y (found e) (deep n g) = deep n (ap (λ r. r >>= k) e ∙ g)
finds_then r k x y (deep n e) h = deep n (ap (λ r. r >>= k) e)

pub same_finds : {B : Type 0} (r q : Result B Stop) (y : B) → r ≡ q → Finds q y → Finds r y
same_finds r q y e (found h) = found (e ∙ h)
same_finds r q y e (deep n h) = deep n (e ∙ h)

-- ---- parts

-- a part that the relation has is read, if F holds of the tokens after it
abbrev pub FindsPart : {A : Type 0} → (List Tok → Type 0) → (A → List Tok → List Tok → Type 0) → Reader A → Type 0
FindsPart {A} F R f = (x : A) (ts mid : List Tok) → R x ts mid → F mid → Finds (f ts) (x, mid)

abbrev pub Anything : List Tok → Type 0
Anything ts = Unit {0}

-- the parts that follow some parts with the value x are read
pub record Finding {X B : Type 0} (F : List Tok → Type 0) (R : X → B → List Tok → List Tok → Type 0) (g : X → Reader B)
    : Type 0 where
  pub find : (x : X) (y : B) (ts rest : List Tok) → R x y ts rest → F rest → Finds (g x ts) (y, rest)

done_found : {X B : Type 0} (make : X → B) (F : List Tok → Type 0) (x : X) (y : B) (ts rest : List Tok) →
    Done (make x) y ts rest → F rest → Finds {B = B × List Tok} (Ok (make x, ts)) (y, rest)
done_found make F x y ts rest done follow = found refl

pub ends_found : {F : List Tok → Type 0} {X B : Type 0} (make : X → B) →
    Finding F (λ x. Done (make x)) (λ x ts. Ok (make x, ts))
ends_found {F = F} make = record { find = done_found make F }

module _ {X A B : Type 0} (F G : List Tok → Type 0) (RF : A → List Tok → List Tok → Type 0) (f : Reader A)
    (R : X × A → B → List Tok → List Tok → Type 0) (g : X × A → Reader B) (part : FindsPart F RF f)
    (follows : (x : X) (a : A) (y : B) (ts rest : List Tok) → R (x, a) y ts rest → G rest → F ts) (more : Finding G R g)
  where
    both_found : (x : X) (y : B) (ts rest : List Tok) → Both RF (λ a. R (x, a)) y ts rest → G rest →
        Finds (f ts >>= λ a. g (x, a.0) a.1) (y, rest)
    both_found x y ts rest (both {x = a} {mid = mid} r q) follow =
        finds_then (f ts) (λ a. g (x, a.0) a.1) (a, mid) (y, rest) (part a ts mid r (follows x a y mid rest q follow))
        (more.find (x, a) y mid rest q follow)

pub then_found : {X A B : Type 0} {F G : List Tok → Type 0} {RF : A → List Tok → List Tok →
    Type 0} {f : Reader A} {R : X × A → B → List Tok → List Tok → Type 0} {g : X × A → Reader B}
    → FindsPart F RF f → ((x : X) (a : A) (y : B) (ts rest : List Tok) → R (x, a) y ts rest → G rest → F ts) → Finding G
    R g
    → Finding G (λ (x : X). Both RF (λ a. R (x, a))) (λ (x : X) ts. f ts >>= λ a. g (x, a.0) a.1)
then_found {F = F} {G = G} {RF = RF} {f = f} {R = R} {g = g} part follows more = record
    { find = both_found F G RF f R g part follows more }

-- a part that anything may follow
pub and_found : {X A B : Type 0} {G : List Tok → Type 0} {RF : A → List Tok → List Tok →
    Type 0} {f : Reader A} {R : X × A → B → List Tok → List Tok → Type 0} {g : X × A → Reader B}
    → FindsPart Anything RF f → Finding G R g
    → Finding G (λ (x : X). Both RF (λ a. R (x, a))) (λ (x : X) ts. f ts >>= λ a. g (x, a.0) a.1)
and_found {G = G} {RF = RF} {f = f} {R = R} {g = g} part more = record {
  find = both_found Anything G RF f R g part
      (λ x a y ts rest r follow. tt) more;
}

pub production_found : {B : Type 0} {F : List Tok → Type 0} {R : Unit {0} → B → List Tok → List Tok →
    Type 0} {g : Unit {0} → Reader B} (RH : B → List Tok → List Tok → Type 0)
    → Finding F R g → ((y : B) (ts rest : List Tok) → RH y ts rest → R tt y ts rest) → FindsPart F RH (g tt)
production_found RH all back = λ y ts rest h follow. all.find tt y ts rest (back y ts rest h) follow

-- ---- single tokens

pub sign_found : (s : Sign) → FindsPart Anything (IsTok (mark s)) (sign_at s)
unfolding sign_at
sign_found s x ts mid is_tok follow = found (ap (λ (b : Bool). cond b (Ok (x, mid)) (refused mid)) (same_sign-refl s))

pub word_found : (w : Keyword) → FindsPart Anything (IsTok (word w)) (word_at w)
unfolding word_at
word_found w x ts mid is_tok follow = found (ap (λ (b : Bool). cond b (Ok (x, mid)) (refused mid))
    (same_keyword-refl w))

no_room_found : {B : Type 0} (s : Sign) (x : Span) (ts : List Tok) (k : Span × List Tok → Result B Stop) (y : B) →
    Finds (open_at s zero (tok (mark s) x ∷ ts) >>= k) y
unfolding open_at
no_room_found s x ts k y = deep (suc (length ts)) (ap (λ (b : Bool). cond b (opened zero x ts) (refused ts) >>= k)
    (same_sign-refl s))

room_found : (s : Sign) (room : ℕ) (x : Span) (ts : List Tok) →
    Finds (open_at s (suc room) (tok (mark s) x ∷ ts)) (x, ts)
unfolding open_at
room_found s room x ts = found (ap (λ (b : Bool). cond b (opened (suc room) x ts) (refused ts)) (same_sign-refl s))

module _ {X B : Type 0} (G : List Tok → Type 0) (s : Sign) (R : X × Span → B → List Tok → List Tok → Type 0)
    (g : X × Span → Reader B) where
  open_found : (room : ℕ) → ((r : ℕ) → room ≡ suc r → Finding G R g) → (x : X) (y : B) (ts rest : List Tok) →
      Both (IsTok (mark s)) (λ a. R (x, a)) y ts rest → G rest →
      Finds (open_at s room ts >>= λ a. g (x, a.0) a.1) (y, rest)
  open_found zero more x y _ rest (both {x = a} {mid = mid} is_tok q) follow = no_room_found s a mid
      (λ a. g (x, a.0) a.1) (y, rest)
  open_found (suc r) more x y _ rest (both {x = a} {mid = mid} is_tok q) follow =
      finds_then (open_at s (suc r) (tok (mark s) a ∷ mid)) (λ a. g (x, a.0) a.1) (a, mid) (y, rest)
      (room_found s r a mid) ((more r refl).find (x, a) y mid rest q follow)

-- an opening sign, and what follows it, which is read only if a further sign may be opened
pub open_then : {X B : Type 0} {G : List Tok → Type 0} (s : Sign) (room : ℕ) {R : X × Span → B → List Tok → List Tok →
    Type 0} {g : X × Span → Reader B}
    → ((r : ℕ) → room ≡ suc r → Finding G R g)
    → Finding G (λ (x : X). Both (IsTok (mark s)) (λ a. R (x, a))) (λ (x : X) ts. open_at s room ts >>= λ a. g (x, a.0)
    a.1)
open_then {G = G} s room {R = R} {g = g} more = record { find = open_found G s R g room more }

pub name_found : FindsPart Anything IsName name_at
unfolding name_at
name_found x ts mid is_name follow = found refl

pub int_found : FindsPart Anything IsInt int_at
unfolding int_at
int_found x ts mid is_int_tok follow = found refl

-- ---- parts that may be left out, and lists

-- a token of this kind does not come next
abbrev pub NotNext : Lexeme → List Tok → Type 0
NotNext k ts = is_next k ts ≡ false

abbrev pub IsNext : Lexeme → List Tok → Type 0
IsNext k ts = is_next k ts ≡ true

pub maybe_found : {A : Type 0} {R : A → List Tok → List Tok → Type 0} {f : Reader A} (k : Lexeme) →
    FindsPart Anything R f → ((x : A) (ts rest : List Tok) → R x ts rest → IsNext k ts) →
    FindsPart (NotNext k) (IsOptional R) (maybe_at k f)
unfolding maybe_at
maybe_found {A = A} {f = f} k part starts _ ts mid left_out follow = found (ap (λ (b : Bool). maybe_from f b ts) follow)
maybe_found {A = A} {f = f} k part starts _ ts mid (given {x = x} r) follow =
    same_finds _ (maybe_from f true ts) (Some x, mid) (ap (λ (b : Bool). maybe_from f b ts) (starts x ts mid r))
    (finds_then (f ts) (λ x. Ok (Some x.0, x.1)) (x, mid) (Some x, mid) (part x ts mid r tt) (found refl))

-- the sign does not come next
abbrev pub NoSign : Sign → List Tok → Type 0
NoSign s ts = skip_at s ts ≡ None

-- a closing parenthesis comes next
pub record Closes (ts : List Tok) : Type 0 where
  pub closing : IsNext (mark CloseParen) ts
  pub no_comma : NoSign Comma ts

skip_found : (s : Sign) (at : Span) (ts : List Tok) → skip_at s (tok (mark s) at ∷ ts) ≡ Some ts
unfolding skip_at
skip_found s at ts = ap (λ (b : Bool). cond b (Some ts) None) (same_sign-refl s)

-- items that are read if E holds of the tokens after them
module _ {A : Type 0} (E : List Tok → Type 0) (R : A → List Tok → List Tok → Type 0) (f : Reader A)
    (part : FindsPart E R f) where
  -- an item may end before others
  module _ (s : Sign) (before_sign : (at : Span) (ts : List Tok) → E (tok (mark s) at ∷ ts)) where
    ends_before : {xs : List A} {ts rest : List Tok} → AreMany (IsAfter s R) xs ts rest → E rest → E ts
    ends_before no_more e = e
    ends_before (one_more (after {at = at} {ts = ts} r) more) e = before_sign at ts

  module _ (s : Sign) (before_sign : (at : Span) (ts : List Tok) → E (tok (mark s) at ∷ ts))
      (shorter : NextShortens (next_after s f)) where
    each_turn : (ts : List Tok) → after_each s f ts ≡ turn [] ◌∷◌ (after_each s f) (next_after s f ts) ts
    unfolding after_each
    each_turn = many_at-turn [] ◌∷◌ (next_after s f) shorter

    pub each_ended : FindsPart (λ ts. NoSign s ts × E ts) (AreMany (IsAfter s R)) (after_each s f)
    each_ended _ ts mid no_more follow = found (each_turn ts ∙ ap (λ o. turn [] ◌∷◌ (after_each s f) (behind f o) ts)
        follow.0)
    each_ended _ ts rest (one_more {xs = xs} {mid = mid} (after {x = x} {at = at} {ts = us} r) more) follow =
        same_finds _ (f us >>= λ y. after_each s f y.1 >>= λ l. Ok (y.0 ∷ l.0, l.1)) (x ∷ xs, rest)
        (each_turn ts ∙ ap (λ o. turn [] ◌∷◌ (after_each s f) (behind f o) ts) (skip_found s at us))
        (finds_then (f us) (λ y. after_each s f y.1 >>= λ l. Ok (y.0 ∷ l.0, l.1)) (x, mid) (x ∷ xs, rest)
        (part x us mid r (ends_before s before_sign more follow.1))
        (finds_then (after_each s f mid) (λ l. Ok (x ∷ l.0, l.1)) (xs, rest) (x ∷ xs, rest)
        (each_ended xs mid rest more follow) (found refl)))

  pub listed_ended : ((at : Span) (ts : List Tok) → E (tok (mark Comma) at ∷ ts)) →
      NextShortens (next_after Comma f) →
      ((x : A) (ts rest : List Tok) → R x ts rest → NotNext (mark CloseParen) ts) →
      FindsPart (λ ts. Closes ts × E ts) (AreListed R) (listed_at f)
  unfolding listed_at
  listed_ended before_comma shorter starts _ ts mid none_listed follow = found
      (ap (λ (b : Bool). listed_from f b ts) follow.0.closing)
  listed_ended before_comma shorter starts _ ts rest (listed {x = x} {xs = xs} {mid = mid} r more) follow =
      same_finds _ (listed_from f false ts) (x ∷ xs, rest) (ap (λ (b : Bool). listed_from f b ts) (starts x ts mid r))
      (finds_then (f ts) (λ y. after_each Comma f y.1 >>= λ l. Ok (y.0 ∷ l.0, l.1)) (x, mid) (x ∷ xs, rest)
      (part x ts mid r (ends_before Comma before_comma more follow.1))
      (finds_then (after_each Comma f mid) (λ l. Ok (x ∷ l.0, l.1)) (xs, rest) (x ∷ xs, rest)
      (each_ended Comma before_comma shorter xs mid rest more (follow.0.no_comma, follow.1)) (found refl)))

-- items that anything may follow
module _ {A : Type 0} (R : A → List Tok → List Tok → Type 0) (f : Reader A) (part : FindsPart Anything R f) where
  pub each_found : (s : Sign) → NextShortens (next_after s f) →
      FindsPart (NoSign s) (AreMany (IsAfter s R)) (after_each s f)
  each_found s shorter x ts mid h follow = each_ended Anything R f part s (λ at us. tt) shorter x ts mid h (follow, tt)

  pub listed_found : NextShortens (next_after Comma f) →
      ((x : A) (ts rest : List Tok) → R x ts rest → NotNext (mark CloseParen) ts) →
      FindsPart Closes (AreListed R) (listed_at f)
  listed_found shorter starts x ts mid h follow = listed_ended Anything R f part (λ at us. tt) shorter starts x ts mid h
      (follow, tt)

-- ---- items up to a token of a kind

module _ {A L : Type 0} (nil : L) (cons : A → L → L) (k : Lexeme) (f : Reader A)
    (shorter : NextShortens (next_until k f)) where
  pub until_none : (ts : List Tok) → is_next k ts ≡ true → Finds (many_at nil cons (next_until k f) ts) (nil, ts)
  until_none ts e = found (many_at-turn nil cons (next_until k f) shorter ts ∙ ap
      (λ b. turn nil cons (many_at nil cons (next_until k f)) (next_unless b (f ts)) ts) e)

  pub until_found : (x : A) (l : L) (ts mid rest : List Tok) → is_next k ts ≡ false → Finds (f ts) (x, mid) →
      Finds (many_at nil cons (next_until k f) mid) (l, rest) →
      Finds (many_at nil cons (next_until k f) ts) (cons x l, rest)
  until_found x l ts mid rest e first more =
      same_finds (many_at nil cons (next_until k f) ts) (f ts >>= λ y. many_at nil cons (next_until k f) y.1 >>= λ l. Ok
      (cons y.0 l.0, l.1)) (cons x l, rest) (many_at-turn nil cons (next_until k f) shorter ts ∙ ap
      (λ b. turn nil cons (many_at nil cons (next_until k f)) (next_unless b (f ts)) ts) e)
      (finds_then (f ts) (λ y. many_at nil cons (next_until k f) y.1 >>= λ l. Ok (cons y.0 l.0, l.1)) (x, mid)
      (cons x l, rest) first (finds_then (many_at nil cons (next_until k f) mid) (λ l. Ok (cons x l.0, l.1))
      (l, rest) (cons x l, rest) more (found refl)))

-- ---- one part or another, by the next token

pub choose_left : {A : Type 0} (k : Lexeme) (f g : Reader A) (ts : List Tok) (y : A × List Tok) →
    is_next k ts ≡ true → Finds (f ts) y → Finds (choose k f g ts) y
unfolding choose
choose_left k f g ts y e h = same_finds (choose k f g ts) (f ts) y (ap (λ (b : Bool). chosen f g b ts) e) h

pub choose_right : {A : Type 0} (k : Lexeme) (f g : Reader A) (ts : List Tok) (y : A × List Tok) →
    is_next k ts ≡ false → Finds (g ts) y → Finds (choose k f g ts) y
unfolding choose
choose_right k f g ts y e h = same_finds (choose k f g ts) (g ts) y (ap (λ (b : Bool). chosen f g b ts) e) h
