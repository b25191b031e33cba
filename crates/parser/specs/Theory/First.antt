-- The first of several tokens as plain data, and those after it.
use Rattle.std.proofs.Common.{◌≡◌, ◌∙◌, ◌-◌, ◌<◌, ◌≤◌, ◌+◌, ℕ, zero, suc, List, [], ◌∷◌, length, take, drop, get_or}
use Rattle.std.proofs.Common.{Bool, true, false, if◌then◌else◌, Some, None, Ok, Err, refl, sym, ap, arith}
use Rattle.std.specs.Rc.{rc_str_bytes}
use Rattle.std.proofs.lemmas.List.{take_all, length-map}
use Rattle.source.specs.declared.span.Span.{Span}
use Rattle.source.specs.declared.token.Keyword.{Keyword}
use Rattle.source.specs.declared.token.Sign.{Sign}
use Rattle.source.specs.declared.token.Token.{Token}
use Rattle.source.specs.declared.token.Token.TheVariants.{Name, Int, Large, Word, Mark, End}
use Rattle.source.specs.Tokens.{Lexeme, Tok, word, mark, seen, seen_token}
use Rattle.syntax.specs.declared.tree.Name as tree
use Rattle.syntax.specs.Views.{ident}
use Rattle.parser.specs.declared.stop.Stop.TheVariants.{Unexpected, TooDeep}
use Rattle.parser.specs.Working.Reading.{Reader, first_at, refused, same_sign, same_keyword, sign_at, sign_from}
use Rattle.parser.specs.Working.Reading.{open_at, open_from, opened, word_at, word_from, skip_at, is_next}

-- ---- the first, and those after it

abbrev pub behind_first : List Token → List Token
behind_first tokens = take (length tokens - 1) (drop 1 tokens)

pub left_over : (tokens : List Token) → 1 ≤ length tokens → suc (length (seen (behind_first tokens))) ≡ length tokens
left_over [] le = absurd (omega (arith, le))
left_over (x ∷ xs) le =
    ap (λ (ys : List Token). suc (length (seen ys))) (take_all (length (x ∷ xs) - 1) xs (omega arith)) ∙ ap suc
    (length-map xs seen_token)

module _ (tokens : List Token) (first t : Token) (le : 1 ≤ length tokens) (is : first ≡ get_or tokens 0 first)
    (e : first ≡ t) where
  pub in_front : seen tokens ≡ seen_token t ∷ seen (behind_first tokens)
  in_front = parts tokens le is
    where
      parts : (ts : List Token) → 1 ≤ length ts → first ≡ get_or ts 0 first →
          seen ts ≡ seen_token t ∷ seen (behind_first ts)
      parts [] low here = absurd (omega (arith, low))
      parts (x ∷ xs) low here =
          ap (λ (y : Token). seen_token y ∷ seen xs) (sym here ∙ e) ∙ ap (λ (ys : List Token). seen_token t ∷ seen ys)
          (sym (take_all (length (x ∷ xs) - 1) xs (omega arith)))

  -- what is read from the tokens is what is read from the first and those after it
  pub at_first : {R : Type 0} (f : List Tok → R) → f (seen tokens) ≡ f (seen_token t ∷ seen (behind_first tokens))
  at_first f = ap f in_front

  pub refused_first : {A : Type 0} (f : Lexeme → Span → Reader A) →
      ((ts : List Tok) → f (seen_token t).kind (seen_token t).span ts ≡ refused ts) →
      first_at f (seen tokens) ≡ Err (Unexpected (length tokens))
  refused_first f h = at_first (first_at f) ∙ h (seen (behind_first tokens)) ∙ ap (λ (n : ℕ). Err (Unexpected n))
      (left_over tokens le)

pub word_first : {R : Type 0} (tokens : List Token) (first : Token) → 1 ≤ length tokens →
    first ≡ get_or tokens 0 first → (at : Span) (v w : Keyword) → first ≡ Word at v → v ≡ w → (f : List Tok → R) →
    f (seen tokens) ≡ f (seen_token (Word at w) ∷ seen (behind_first tokens))
word_first tokens first le is at v w e same f = at_first tokens first (Word at w) le is
    (e ∙ ap (λ (x : Keyword). Word at x) same) f

pub mark_first : {R : Type 0} (tokens : List Token) (first : Token) → 1 ≤ length tokens →
    first ≡ get_or tokens 0 first → (at : Span) (m s : Sign) → first ≡ Mark at m → m ≡ s → (f : List Tok → R) →
    f (seen tokens) ≡ f (seen_token (Mark at s) ∷ seen (behind_first tokens))
mark_first tokens first le is at m s e same f = at_first tokens first (Mark at s) le is
    (e ∙ ap (λ (x : Sign). Mark at x) same) f

pub none_left : {R : Type 0} (f : List Tok → R) (tokens : List Token) → length tokens < 1 → f (seen tokens) ≡ f []
none_left f [] lt = refl
none_left f (x ∷ xs) lt = absurd (omega (arith, lt))

pub refused_none : {A : Type 0} (f : Lexeme → Span → Reader A) (tokens : List Token) → length tokens < 1 →
    first_at f (seen tokens) ≡ Err (Unexpected (length tokens))
refused_none f [] lt = refl
refused_none f (x ∷ xs) lt = absurd (omega (arith, lt))

-- ---- signs and words

no_mark : (s : Sign) (t : Token) → ((at : Span) (m : Sign) → t ≡ Mark at m → ⊥) → (ts : List Tok) →
    sign_from s (seen_token t).kind (seen_token t).span ts ≡ refused ts
no_mark s (Name start text) not ts = refl
no_mark s (Int at n) not ts = refl
no_mark s (Large n) not ts = refl
no_mark s (Word at w) not ts = refl
no_mark s (Mark at m) not ts = absurd (not at m refl)
no_mark s (End at) not ts = refl

no_opening : (s : Sign) (room : ℕ) (t : Token) → ((at : Span) (m : Sign) → t ≡ Mark at m → ⊥) → (ts : List Tok) →
    open_from s room (seen_token t).kind (seen_token t).span ts ≡ refused ts
no_opening s room (Name start text) not ts = refl
no_opening s room (Int at n) not ts = refl
no_opening s room (Large n) not ts = refl
no_opening s room (Word at w) not ts = refl
no_opening s room (Mark at m) not ts = absurd (not at m refl)
no_opening s room (End at) not ts = refl

no_word : (w : Keyword) (t : Token) → ((at : Span) (v : Keyword) → t ≡ Word at v → ⊥) → (ts : List Tok) →
    word_from w (seen_token t).kind (seen_token t).span ts ≡ refused ts
no_word w (Name start text) not ts = refl
no_word w (Int at n) not ts = refl
no_word w (Large n) not ts = refl
no_word w (Word at v) not ts = absurd (not at v refl)
no_word w (Mark at m) not ts = refl
no_word w (End at) not ts = refl

nothing_skipped : (s : Sign) (t : Token) (ts : List Tok) → ((at : Span) (m : Sign) → t ≡ Mark at m → ⊥) →
    skip_at s (seen_token t ∷ ts) ≡ None
unfolding skip_at
nothing_skipped s (Name start text) ts not = refl
nothing_skipped s (Int at n) ts not = refl
nothing_skipped s (Large n) ts not = refl
nothing_skipped s (Word at w) ts not = refl
nothing_skipped s (Mark at m) ts not = absurd (not at m refl)
nothing_skipped s (End at) ts not = refl

other_than_mark : (s : Sign) (t : Token) (ts : List Tok) → ((at : Span) (m : Sign) → t ≡ Mark at m → ⊥) →
    is_next (mark s) (seen_token t ∷ ts) ≡ false
other_than_mark s (Name start text) ts not = refl
other_than_mark s (Int at n) ts not = refl
other_than_mark s (Large n) ts not = refl
other_than_mark s (Word at w) ts not = refl
other_than_mark s (Mark at m) ts not = absurd (not at m refl)
other_than_mark s (End at) ts not = refl

other_than_word : (w : Keyword) (t : Token) (ts : List Tok) → ((at : Span) (v : Keyword) → t ≡ Word at v → ⊥) →
    is_next (word w) (seen_token t ∷ ts) ≡ false
other_than_word w (Name start text) ts not = refl
other_than_word w (Int at n) ts not = refl
other_than_word w (Large n) ts not = refl
other_than_word w (Word at v) ts not = absurd (not at v refl)
other_than_word w (Mark at m) ts not = refl
other_than_word w (End at) ts not = refl

opened_some : (room : ℕ) (at : Span) (ts : List Tok) → (room ≡ 0 → ⊥) → opened room at ts ≡ Ok (at, ts)
opened_some zero at ts some = absurd (some refl)
opened_some (suc room) at ts some = refl

module _ (tokens : List Token) (first : Token) (le : 1 ≤ length tokens) (is : first ≡ get_or tokens 0 first) where
  module _ (s : Sign) (at : Span) (m : Sign) (e : first ≡ Mark at m) where
    pub sign_taken : same_sign m s ≡ true → sign_at s (seen tokens) ≡ Ok (at, seen (behind_first tokens))
    unfolding sign_at
    sign_taken same = at_first tokens first (Mark at m) le is e (sign_at s) ∙ ap
        (λ (b : Bool). if b then Ok (at, seen (behind_first tokens)) else refused (seen (behind_first tokens))) same

    pub sign_other : same_sign m s ≡ false → sign_at s (seen tokens) ≡ Err (Unexpected (length tokens))
    unfolding sign_at
    sign_other other = refused_first tokens first (Mark at m) le is e (sign_from s)
        (λ ts. ap (λ (b : Bool). if b then Ok (at, ts) else refused ts) other)

    pub sign_opened : (room : ℕ) → same_sign m s ≡ true → (room ≡ 0 → ⊥) →
        open_at s room (seen tokens) ≡ Ok (at, seen (behind_first tokens))
    unfolding open_at
    sign_opened room same some =
        at_first tokens first (Mark at m) le is e (open_at s room)
        ∙ ap (λ (b : Bool). if b then opened room at (seen (behind_first tokens)) else refused
        (seen (behind_first tokens))) same
        ∙ opened_some room at (seen (behind_first tokens)) some

    pub sign_too_deep : (room : ℕ) → same_sign m s ≡ true → room ≡ 0 →
        open_at s room (seen tokens) ≡ Err (TooDeep (length tokens))
    unfolding open_at
    sign_too_deep room same none =
        at_first tokens first (Mark at m) le is e (open_at s room)
        ∙ ap (λ (b : Bool). if b then opened room at (seen (behind_first tokens)) else refused
        (seen (behind_first tokens))) same
        ∙ ap (λ (n : ℕ). opened n at (seen (behind_first tokens))) none
        ∙ ap (λ (n : ℕ). Err (TooDeep n)) (left_over tokens le)

    pub sign_unopened : (room : ℕ) → same_sign m s ≡ false →
        open_at s room (seen tokens) ≡ Err (Unexpected (length tokens))
    unfolding open_at
    sign_unopened room other = refused_first tokens first (Mark at m) le is e (open_from s room)
        (λ ts. ap (λ (b : Bool). if b then opened room at ts else refused ts) other)

    pub sign_skipped : same_sign m s ≡ true → skip_at s (seen tokens) ≡ Some (seen (behind_first tokens))
    unfolding skip_at
    sign_skipped same = at_first tokens first (Mark at m) le is e (skip_at s) ∙ ap
        (λ (b : Bool). if b then Some (seen (behind_first tokens)) else None) same

    pub sign_unskipped : same_sign m s ≡ false → skip_at s (seen tokens) ≡ None
    unfolding skip_at
    sign_unskipped other = at_first tokens first (Mark at m) le is e (skip_at s) ∙ ap
        (λ (b : Bool). if b then Some (seen (behind_first tokens)) else None) other

    pub sign_next : is_next (mark s) (seen tokens) ≡ same_sign m s
    sign_next = at_first tokens first (Mark at m) le is e (is_next (mark s))

  module _ (s : Sign) (not : (at : Span) (m : Sign) → first ≡ Mark at m → ⊥) where
    pub no_sign : sign_at s (seen tokens) ≡ Err (Unexpected (length tokens))
    unfolding sign_at
    no_sign = refused_first tokens first first le is refl (sign_from s) (no_mark s first not)

    pub no_sign_opened : (room : ℕ) → open_at s room (seen tokens) ≡ Err (Unexpected (length tokens))
    unfolding open_at
    no_sign_opened room = refused_first tokens first first le is refl (open_from s room) (no_opening s room first not)

    pub no_sign_skipped : skip_at s (seen tokens) ≡ None
    no_sign_skipped = at_first tokens first first le is refl (skip_at s) ∙ nothing_skipped s first
        (seen (behind_first tokens)) not

    pub no_sign_next : is_next (mark s) (seen tokens) ≡ false
    no_sign_next = at_first tokens first first le is refl (is_next (mark s)) ∙ other_than_mark s first
        (seen (behind_first tokens)) not

  module _ (w : Keyword) (at : Span) (v : Keyword) (e : first ≡ Word at v) where
    pub word_taken : same_keyword v w ≡ true → word_at w (seen tokens) ≡ Ok (at, seen (behind_first tokens))
    unfolding word_at
    word_taken same = at_first tokens first (Word at v) le is e (word_at w) ∙ ap
        (λ (b : Bool). if b then Ok (at, seen (behind_first tokens)) else refused (seen (behind_first tokens))) same

    pub word_other : same_keyword v w ≡ false → word_at w (seen tokens) ≡ Err (Unexpected (length tokens))
    unfolding word_at
    word_other other = refused_first tokens first (Word at v) le is e (word_from w)
        (λ ts. ap (λ (b : Bool). if b then Ok (at, ts) else refused ts) other)

    pub word_next : is_next (word w) (seen tokens) ≡ same_keyword v w
    word_next = at_first tokens first (Word at v) le is e (is_next (word w))

  module _ (w : Keyword) (not : (at : Span) (v : Keyword) → first ≡ Word at v → ⊥) where
    pub no_word_here : word_at w (seen tokens) ≡ Err (Unexpected (length tokens))
    unfolding word_at
    no_word_here = refused_first tokens first first le is refl (word_from w) (no_word w first not)

    pub no_word_next : is_next (word w) (seen tokens) ≡ false
    no_word_next = at_first tokens first first le is refl (is_next (word w)) ∙ other_than_word w first
        (seen (behind_first tokens)) not

-- ---- names

pub named_is : (n : tree.Name) (text : List ℕ) (start : ℕ) → rc_str_bytes n.text ≡ text → n.start ≡ start →
    ident n ≡ record { text = text; span = record { start = start; end = start + length text } }
named_is n text start e f =
    ap (λ (t : List ℕ). record { text = t; span = record { start = n.start; end = n.start + length t } }) e
    ∙ ap (λ (s : ℕ). record { text = text; span = record { start = s; end = s + length text } }) f
