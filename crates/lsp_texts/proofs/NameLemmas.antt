-- A text that is a name has one token, and no other text has.
use Rattle.std.proofs.Common.{◌≡◌, ◌∙◌, ℕ, ◌+◌, ◌≤◌, true, List, [], ◌∷◌, ◌++◌, length, refl, sym, ap, subst, arith, append_assoc, append-nil, length-append}
use Rattle.std.specs.Prelude.{◌&&◌, IsTrue}
use Rattle.std.proofs.lemmas.Bool.{and_parts, eq-eqb, eqb-true}
use Rattle.source.specs.Tokens.{Lexeme, name, int, word, mark, end, Tok}
use Rattle.source.specs.Texts.{IsGap, no_gap, white, comment, BeginsComment, IsUnit, is_name, is_number, is_word, is_mark, is_letter}
use Rattle.source.specs.Texts.{IsWithin, tok_at, end_at, AreTokens, at_end, token, HasTokens, NAME_LIMIT, SOURCE_LIMIT}
use Rattle.lsp_texts.specs.Renames.{IsName}
use Rattle.lsp_texts.specs.Working.LoneNames.{are_lone, is_as_long, is_end}

-- ---- a text that is one token is a name

gap_parts : {text rest : List ℕ} → IsGap text rest → (w : List ℕ) × (text ≡ w ++ rest)
gap_parts no_gap = ([], refl)
gap_parts (white {b} w g) = let p = gap_parts g in (b ∷ p.0, ap (λ (l : List ℕ). b ∷ l) p.1)
gap_parts (comment line {text} {rest} all e g) =
    let p = gap_parts g in
    (47 ∷ 47 ∷ line ++ p.0, ap (λ (l : List ℕ). 47 ∷ 47 ∷ line ++ l) p.1 ∙ ap (λ (l : List ℕ). 47 ∷ 47 ∷ l) (sym (append_assoc line p.0 rest)))

-- the bytes of a name are its text, and begin with a letter
unit_text : {bytes : List ℕ} {k : Lexeme} → IsUnit bytes k → (x : List ℕ) → k ≡ name x → bytes ≡ x
unit_text (is_name letter others apart) x is = cc
unit_text (is_number digits) x is = cc
unit_text (is_word w) x is = cc
unit_text (is_mark s) x is = cc

unit_letter : {bytes : List ℕ} {k : Lexeme} → IsUnit bytes k → (x : List ℕ) → k ≡ name x → (b : ℕ) × (more : List ℕ) × (bytes ≡ b ∷ more) × IsTrue (is_letter b)
unit_letter (is_name {b} {bs} letter others apart) x is = (b, bs, refl, letter)
unit_letter (is_number digits) x is = cc
unit_letter (is_word w) x is = cc
unit_letter (is_mark s) x is = cc

as_long : (text : List ℕ) (k : Lexeme) → is_as_long text k ≡ true → (x : List ℕ) × (k ≡ name x) × (length x ≡ length text)
as_long text (name x) long = (x, refl, eqb-true (length x) (length text) long)
as_long text (int n) long = cc
as_long text (word w) long = cc
as_long text (mark s) long = cc
as_long text end long = cc

lone_first : (t : Tok) (ts : List Tok) (text : List ℕ) → are_lone (t ∷ ts) text ≡ true → is_as_long text t.kind ≡ true
lone_first t [] text lone = cc
lone_first t (u ∷ []) text lone = (and_parts (is_as_long text t.kind) (is_end u.kind) lone).0
lone_first t (u ∷ v ∷ ts) text lone = cc

nothing : (l : List ℕ) → length l ≡ 0 → l ≡ []
nothing [] none = refl
nothing (b ∷ l) none = absurd (omega arith)

pub is_name_alone : {total : ℕ} {text : List ℕ} {ts : List Tok} → AreTokens total text ts → are_lone ts text ≡ true → IsName text
is_name_alone (at_end gap) lone = cc
is_name_alone {total} (token {text = text} {bytes = bytes} {rest = rest} {k = k} {ts = ts} next within later) lone =
    let long = as_long text k (lone_first (tok_at total bytes rest k) ts text lone) in
    let x : List ℕ = long.0 in
    let unit : IsUnit bytes (name x) = subst (IsUnit bytes) long.1 next.unit in
    let same : bytes ≡ x = unit_text next.unit x long.1 in
    let parts = gap_parts next.gap in
    let sizes : length text ≡ length parts.0 + (length bytes + length rest) =
    ap length parts.1 ∙ length-append parts.0 (bytes ++ rest) ∙ ap (λ n. length parts.0 + n) (length-append bytes rest) in
    let size : length bytes ≡ length text = ap length same ∙ long.2 in
    let front : parts.0 ≡ [] = nothing parts.0 (omega arith) in
    let back : rest ≡ [] = nothing rest (omega arith) in
    let whole : text ≡ x =
    parts.1 ∙ ap (λ (w : List ℕ). w ++ (bytes ++ rest)) front ∙ ap (λ (r : List ℕ). bytes ++ r) back ∙ append-nil bytes ∙ same in (
      subst (λ (t : List ℕ). IsUnit t (name t)) (sym whole) (subst (λ (t : List ℕ). IsUnit t (name x)) same unit),
      subst (λ (t : List ℕ). IsWithin (name t)) (sym whole) (subst IsWithin long.1 within),
    )

-- ---- and a name is one token

abbrev pub name_tokens : List ℕ → List Tok
name_tokens text = tok_at (length text) text [] (name text) ∷ end_at (length text) ∷ []

no_slash : (b : ℕ) → b ≡ 47 → IsTrue (is_letter b) → ⊥
no_slash b is letter = let no : IsTrue (is_letter 47) = subst (λ c. IsTrue (is_letter c)) is letter in cc

no_comment_in : (text : List ℕ) → IsUnit text (name text) → BeginsComment (text ++ []) → ⊥
no_comment_in text unit begins =
    let parts = unit_letter unit text refl in
    let there : parts.0 ∷ parts.1 ≡ 47 ∷ 47 ∷ begins.0 = sym parts.2 ∙ sym (append-nil text) ∙ begins.1 in
    let slash : parts.0 ≡ 47 = cc in
    no_slash parts.0 slash parts.3

pub has_name_tokens : (text : List ℕ) → IsName text → HasTokens text (name_tokens text)
has_name_tokens text is =
    token {bytes = text} {rest = []}
    (record {
      gap = subst (IsGap text) (sym (append-nil text)) no_gap;
      no_comment = no_comment_in text is.0;
      unit = is.0;
      longest = λ b more other k parts unit. absurd cc;
    }) is.1 (at_end no_gap)

pub name_is_lone : (text : List ℕ) (ts : List Tok) → ts ≡ name_tokens text → are_lone ts text ≡ true
name_is_lone text ts is = ap (λ l. are_lone l text) is ∙ ap (λ b. b && true) (eq-eqb (length text) (length text) refl)

pub name_is_short : (text : List ℕ) → IsName text → length text ≤ SOURCE_LIMIT
name_is_short text is = let short : length text ≤ NAME_LIMIT = is.1 in omega arith
