-- The result of parsing tokens with a tried one, as a fact about that token.
use Rattle.std.proofs.Common.{◌≡◌, ◌∙◌, ℕ, ◌+◌, ◌<◌, ◌≤◌, ◌==◌, zero, suc, Bool, true, false, List, [], ◌∷◌, ◌++◌}
use Rattle.std.proofs.Common.{length, take, ap, sym, subst, refl, arith, append_assoc}
use Rattle.std.proofs.lemmas.Bool.{eqb-true, eqb-false}
use Rattle.source.specs.declared.fault.Code.{Code}
use Rattle.source.specs.declared.token.Token.{Token}
use Rattle.source.specs.Tokens.{Tok, end, seen, seen_token}
use Rattle.syntax.specs.Faults.{IsFault, IsUnexpected, IsTooDeep, NoEnd, unended, unexpected, too_deep, misplaced}
use Rattle.syntax.specs.Grammar.{Spells, IsShallow, IsOpening, HasTree}
use Rattle.syntax.specs.Trees.{Decl}
use Rattle.explanation_tokens.specs.declared.candidate.Candidate.{Candidate}
use Rattle.explanation_tokens.specs.declared.trial.TokenPlace.{TokenPlace}
use Rattle.explanation_tokens.specs.Expected.{CanCome, StartBefore, token_at}
use Rattle.explanation_tokens.specs.Working.Trials.{AreBefore, says_it_can}

starts_later : (t : Tok) (ts : List Tok) (start : ℕ) → StartBefore (t ∷ ts) start → StartBefore ts start
starts_later t ts start all k d within = all (suc k) d (omega arith)

-- the token that starts at `start + 1` is the last
all_before : (before other : List Tok) (tried last t : Tok) (after : List Tok) (start : ℕ) →
    before ++ tried ∷ last ∷ [] ≡ other ++ t ∷ after →
    StartBefore before start → tried.span.start ≡ start → t.span.start ≡ start + 1 → other ≡ before ++ tried ∷ []
all_before [] [] tried last t after start parts first at later =
    let same : tried ≡ t = cc in
    absurd (let s : tried.span.start ≡ t.span.start = ap (λ (x : Tok). x.span.start) same in omega arith)
all_before [] (x ∷ []) tried last t after start parts first at later = let same : tried ≡ x = cc in ap (λ (y : Tok). y ∷ []) (sym same)
all_before [] (x ∷ y ∷ []) tried last t after start parts first at later = cc
all_before [] (x ∷ y ∷ z ∷ zs) tried last t after start parts first at later = cc
all_before (b ∷ bs) [] tried last t after start parts first at later =
    let same : b ≡ t = cc in
    let early : b.span.start < start = first 0 b (omega arith) in
    absurd (let s : b.span.start ≡ t.span.start = ap (λ (x : Tok). x.span.start) same in omega arith)
all_before (b ∷ bs) (x ∷ xs) tried last t after start parts first at later =
    let same : b ≡ x = cc in
    let rest : bs ++ tried ∷ last ∷ [] ≡ xs ++ t ∷ after = cc in
    ap (λ (y : Tok). y ∷ xs) (sym same) ∙ ap (λ (ys : List Tok). b ∷ ys) (all_before bs xs tried last t after start rest (starts_later b bs start first) at later)

-- a token other than the last one is among the tokens before the last
inside : (xs other : List Tok) (last t : Tok) (after : List Tok) → xs ++ last ∷ [] ≡ other ++ t ∷ after →
    (t ≡ last → ⊥) →
    (mid : List Tok) × (xs ≡ other ++ t ∷ mid)
inside [] [] last t after parts differs = absurd (differs cc)
inside [] (o ∷ []) last t after parts differs = cc
inside [] (o ∷ p ∷ os) last t after parts differs = cc
inside (x ∷ xs) [] last t after parts differs = (xs, let same : x ≡ t = cc in ap (λ (y : Tok). y ∷ xs) same)
inside (x ∷ xs) (o ∷ os) last t after parts differs =
    let same : x ≡ o = cc in
    let rest : xs ++ last ∷ [] ≡ os ++ t ∷ after = cc in
    let found = inside xs os last t after rest differs in
    (found.0, ap (λ (y : Tok). y ∷ xs) same ∙ ap (λ (ys : List Tok). o ∷ ys) found.1)

-- the tokens before the last one, of tokens that end in the tried one and the last one
ahead : (before other : List Tok) (tried last t : Tok) (after : List Tok) →
    before ++ tried ∷ last ∷ [] ≡ other ++ t ∷ after → (t ≡ last → ⊥) →
    (mid : List Tok) × (before ++ tried ∷ [] ≡ other ++ t ∷ mid)
ahead before other tried last t after parts differs =
    inside (before ++ tried ∷ []) other last t after (append_assoc before (tried ∷ []) (last ∷ []) ∙ parts) differs

shallow_ahead : (a b : List Tok) → IsShallow (a ++ b) → IsShallow a
shallow_ahead a b shallow before after t parts opens =
    shallow before (after ++ b) t (ap (λ (l : List Tok). l ++ b) parts ∙ append_assoc before (t ∷ after) b) opens

has_end : (xs : List Tok) (last : Tok) → last.kind ≡ end → NoEnd (xs ++ last ∷ []) → ⊥
has_end [] last is none = none.0 is
has_end (x ∷ xs) last is none = has_end xs last is none.1

-- ---- the tried token can come

-- if the token after the tried one is the first unexpected token, the tried one can come
comes_if_unexpected : (before : List Tok) (last : Tok) (start : ℕ) (candidate : Candidate) → StartBefore before start →
    IsUnexpected (before ++ token_at candidate start ∷ last ∷ []) (start + 1) → CanCome before start candidate
comes_if_unexpected before last start candidate first fault =
    let tried = token_at candidate start in
    let all = all_before before fault.before tried last fault.token fault.after start fault.parts first refl fault.place in
    let other = fault.begun.1 in
    record {
      decls = fault.begun.0;
      others = other;
      begins = subst (Spells fault.begun.0) (ap (λ (ts : List Tok). ts ++ other) all ∙ append_assoc before (tried ∷ []) other) fault.begun.2;
      shallow = subst IsShallow all fault.shallow;
    }

-- or if the tokens before have a tree with the tried one and the end
pub comes_if_tree : (before : List Tok) (last : Tok) (start : ℕ) (candidate : Candidate) (decls : List Decl) →
    HasTree (before ++ token_at candidate start ∷ last ∷ []) decls → CanCome before start candidate
comes_if_tree before last start candidate decls tree =
    let tried = token_at candidate start in
    record {
      decls = decls;
      others = last ∷ [];
      begins = tree.0;
      shallow = shallow_ahead (before ++ tried ∷ []) (last ∷ []) (subst IsShallow (sym (append_assoc before (tried ∷ []) (last ∷ []))) tree.1);
    }

-- ---- the tried token can't come

-- if the tokens with the tried one are at fault elsewhere than at the last token, the tried one can't come
none_if_unexpected : (before : List Tok) (last : Tok) (start at : ℕ) (candidate : Candidate) →
    last.span.start ≡ start + 1 → (at ≡ start + 1 → ⊥) →
    IsUnexpected (before ++ token_at candidate start ∷ last ∷ []) at → CanCome before start candidate → ⊥
none_if_unexpected before last start at candidate is_last differs fault can =
    let tried = token_at candidate start in
    let found = ahead before fault.before tried last fault.token fault.after fault.parts
    (λ same. differs (sym fault.place ∙ ap (λ (t : Tok). t.span.start) same ∙ is_last)) in
    let mid = found.0 in
    fault.no_program can.decls (mid ++ can.others)
    (subst (Spells can.decls)
    (sym (append_assoc before (tried ∷ []) can.others) ∙ ap (λ (l : List Tok). l ++ can.others) found.1 ∙ append_assoc fault.before (fault.token ∷ mid) can.others)
    can.begins)

-- if the tried token can come, the token at fault is the one after it
unexpected_says : (b : Bool) (before : List Tok) (last : Tok) (start at : ℕ) (candidate : Candidate) →
    (at == start + 1) ≡ b → last.span.start ≡ start + 1 →
    IsUnexpected (before ++ token_at candidate start ∷ last ∷ []) at → CanCome before start candidate → (at == start + 1) ≡ true
unexpected_says true before last start at candidate is is_last fault can = is
unexpected_says false before last start at candidate is is_last fault can =
    absurd (none_if_unexpected before last start at candidate is_last (eqb-false at (start + 1) is) fault can)

-- if the tokens with the tried one are nested too deep, the tried one can't come
none_if_deep : (before : List Tok) (last : Tok) (start at : ℕ) (candidate : Candidate) → last.kind ≡ end →
    IsTooDeep (before ++ token_at candidate start ∷ last ∷ []) at → CanCome before start candidate → ⊥
none_if_deep before last start at candidate is_end fault can =
    let tried = token_at candidate start in
    let found = ahead before fault.before tried last fault.token fault.after fault.parts
    (λ same. subst IsOpening (ap (λ (t : Tok). t.kind) same ∙ is_end) fault.opens) in
    let low = can.shallow fault.before found.0 fault.token found.1 fault.opens in
    omega (arith, low, fault.deep)

-- ---- the result of a parse

-- the tokens before, the tried one, and the end
abbrev pub Parts : List Tok → List Tok → Candidate → ℕ → Tok → Type 0
Parts ts before candidate start last = (ts ≡ before ++ token_at candidate start ∷ last ∷ []) × (last.kind ≡ end) × (last.span.start ≡ start + 1)

pub can_if_fault : (before ts : List Tok) (last : Tok) (start at : ℕ) (code : Code) (candidate : Candidate) →
    Parts ts before candidate start last →
    StartBefore before start → IsFault ts code at → says_it_can code at (start + 1) ≡ true → CanCome before start candidate
can_if_fault before ts last start at code candidate parts first (unended none) says =
    absurd (has_end (before ++ token_at candidate start ∷ []) last parts.1
    (subst NoEnd (parts.0 ∙ sym (append_assoc before (token_at candidate start ∷ []) (last ∷ []))) none))
can_if_fault before ts last start at code candidate parts first (unexpected fault) says =
    comes_if_unexpected before last start candidate first
    (subst (λ (k : ℕ). IsUnexpected (before ++ token_at candidate start ∷ last ∷ []) k) (eqb-true at (start + 1) says) (subst (λ (l : List Tok). IsUnexpected l at) parts.0 fault))
can_if_fault before ts last start at code candidate parts first (too_deep fault) says = cc
can_if_fault before ts last start at code candidate parts first (misplaced fault) says =
    comes_if_tree before last start candidate fault.tree (subst (λ (l : List Tok). HasTree l fault.tree) parts.0 fault.has_tree)

pub says_if_fault : (before ts : List Tok) (last : Tok) (start at : ℕ) (code : Code) (candidate : Candidate) →
    Parts ts before candidate start last →
    IsFault ts code at → CanCome before start candidate → says_it_can code at (start + 1) ≡ true
says_if_fault before ts last start at code candidate parts (unended none) can =
    absurd (has_end (before ++ token_at candidate start ∷ []) last parts.1
    (subst NoEnd (parts.0 ∙ sym (append_assoc before (token_at candidate start ∷ []) (last ∷ []))) none))
says_if_fault before ts last start at code candidate parts (unexpected fault) can =
    unexpected_says (at == start + 1) before last start at candidate refl parts.2 (subst (λ (l : List Tok). IsUnexpected l at) parts.0 fault) can
says_if_fault before ts last start at code candidate parts (too_deep fault) can =
    absurd (none_if_deep before last start at candidate parts.1 (subst (λ (l : List Tok). IsTooDeep l at) parts.0 fault) can)
says_if_fault before ts last start at code candidate parts (misplaced fault) can = refl

-- ---- the tokens that are tried

abbrev pub tried_with : ℕ → List Token → Token → Token → List Token
tried_with n old tried last = (take n old ++ tried ∷ []) ++ last ∷ []

long_still : (n : ℕ) (old : List Token) (a b : Token) → n ≤ length old → n ≤ length (tried_with n old a b)
long_still zero old a b few = omega arith
long_still (suc n) [] a b few = absurd (omega arith)
long_still (suc n) (x ∷ old) a b few = let rest = long_still n old a b (omega arith) in omega arith

pub seen_parts : (n : ℕ) (old : List Token) (a b : Token) → n ≤ length old →
    seen (tried_with n old a b) ≡ take n (seen old) ++ seen_token a ∷ seen_token b ∷ []
seen_parts zero old a b few = refl
seen_parts (suc n) [] a b few = absurd (omega arith)
seen_parts (suc n) (x ∷ old) a b few = ap (λ (l : List Tok). seen_token x ∷ l) (seen_parts n old a b (omega arith))

pub before_still : (n : ℕ) (old : List Token) (a b : Token) → n ≤ length old →
    take n (seen (tried_with n old a b)) ≡ take n (seen old)
before_still zero old a b few = refl
before_still (suc n) [] a b few = absurd (omega arith)
before_still (suc n) (x ∷ old) a b few = ap (λ (l : List Tok). seen_token x ∷ l) (before_still n old a b (omega arith))

pub behind_still : (place : TokenPlace) (old : List Token) (a b : Token) → AreBefore place old →
    AreBefore place (tried_with place.number old a b)
behind_still place old a b behind =
    record {
      within = long_still place.number old a b behind.within;
      before = subst (λ (l : List Tok). StartBefore l place.span.start) (sym (before_still place.number old a b behind.within)) behind.before;
      one = behind.one;
    }
