-- One more name in the tables.
use Rattle.std.proofs.Common.{◌≡◌, ◌∙◌, ℕ, suc, ◌+◌, Bool, true, false, List, Option, Some, None, refl, sym, ap, add-one, arith, cond, Ordering, Less, Equal, Greater}
use Rattle.std.specs.Prelude.{not, ◌||◌, if◌then◌else◌, ◌&&◌, ◌==◌}
use Rattle.std.specs.Option.{is_some, option_or}
use Rattle.std.specs.Ordering.{is_eq, nat_cmp, ordering_then}
use Rattle.std.specs.Cmp.Lexicographic.{slice_cmp}
use Rattle.std.specs.Str.{bytes_eq}
use Rattle.std.proofs.lemmas.Bool.{eqb-true}
use Rattle.std.proofs.lemmas.Slice.Eq.{bytes_eq-Decides}
use Rattle.std.proofs.lemmas.Bool.Decides.{nat_tests}
use Rattle.std.proofs.lemmas.Map.Text.{is_eq-slice_cmp}
use Rattle.source.specs.declared.token.Token.{Token}
use Rattle.lsp_texts.specs.Names.{declared, depth_at, symbol_of, text_at}
use Rattle.lsp_texts.specs.Declarations.{first, is_declared, is_inner, is_inner_of, is_number, is_text, is_top, is_top_of, owner_at}
use Rattle.lsp_texts.specs.Working.Tables.{AreTablesIn, IsWithInner, IsWithTop, inner_in, top_in}
use Rattle.lsp_texts.specs.declared.names.Symbol.{Symbol}
use Rattle.lsp_texts.specs.declared.tables.Tables.{Tables}

-- ---- one key

pub or_none : (o : Option ℕ) → option_or o None ≡ o
or_none None = refl
or_none (Some x) = refl

pub added : (b : Bool) (o new : Option ℕ) (at : ℕ) → (b ≡ true → o ≡ None) → new ≡ cond b (Some at) o → new ≡ option_or o (if b then Some at else None)
added true o new at none is = is ∙ ap (λ p. option_or p (Some at)) (sym (none refl))
added false o new at none is = is ∙ sym (or_none o)

-- ---- pairs as keys

both : (o p : Ordering) → is_eq (ordering_then o p) ≡ (is_eq o && is_eq p)
both Less p = refl
both Equal p = refl
both Greater p = refl

same_number : (m n : ℕ) → is_eq (nat_cmp m n) ≡ (m == n)
same_number m n = grind (arith, nat_tests)

pub same_pair : (m n : ℕ) (xs ys : List ℕ) → is_eq (ordering_then (nat_cmp m n) (slice_cmp nat_cmp xs ys)) ≡ ((m == n) && bytes_eq xs ys)
same_pair m n xs ys =
    both (nat_cmp m n) (slice_cmp nat_cmp xs ys) ∙ ap (λ b. b && is_eq (slice_cmp nat_cmp xs ys)) (same_number m n)
    ∙ ap (λ b. (m == n) && b) (is_eq-slice_cmp xs ys)

-- ---- what is there already

pub is_none_of : (found was : Option ℕ) {none : Bool} → found ≡ was → is_some found ≡ not none → none ≡ true → was ≡ None
is_none_of None was is says true_is = sym is
is_none_of (Some x) was is says true_is = let no : true ≡ not true = says ∙ ap not true_is in cc

pub same_text : (xs ys : List ℕ) → bytes_eq xs ys ≡ true → xs ≡ ys
same_text xs ys same = (bytes_eq-Decides xs ys).0 same

both_true : (a b : Bool) → (a && b) ≡ true → (a ≡ true) × (b ≡ true)
both_true true b h = (refl, h)
both_true false b h = cc

pub same_inner : (tables : Tables) (m n : ℕ) (xs ys : List ℕ) → ((m == n) && bytes_eq xs ys) ≡ true → inner_in tables m xs ≡ inner_in tables n ys
same_inner tables m n xs ys same =
    let parts = both_true (m == n) (bytes_eq xs ys) same in
    ap (λ o. inner_in tables o xs) (eqb-true m n parts.0) ∙ ap (inner_in tables n) (same_text xs ys parts.1)

-- ---- all keys

first_none : (test : ℕ → Bool) → None ≡ first test 0
unfolding first
first_none test = refl

first_step : (test : ℕ → Bool) (n : ℕ) → first test (suc n) ≡ option_or (first test n) (if test n then Some n else None)
unfolding first
first_step test n = refl

pub no_tables : (tables : Tables) → ((q : List ℕ) → top_in tables q ≡ None) → ((o : ℕ) (q : List ℕ) → inner_in tables o q ≡ None) →
    (tokens : List Token) → AreTablesIn tokens 0 tables
no_tables tables top inner tokens = record {
  top = λ q. top q ∙ first_none (is_top_of tokens q);
  inner = λ o q. inner o q ∙ first_none (is_inner_of tokens o q);
}

first_more : (test : ℕ → Bool) (n : ℕ) (old new : Option ℕ) → old ≡ first test n → new ≡ option_or old (if test n then Some n else None) →
    new ≡ first test (n + 1)
first_more test n old new was is =
    is ∙ ap (λ o. option_or o (if test n then Some n else None)) was ∙ sym (first_step test n) ∙ ap (first test) (sym (add-one n))

some_step : (o : Option ℕ) (b : Bool) (n : ℕ) → is_some (option_or o (if b then Some n else None)) ≡ (is_some o || b)
some_step None true n = refl
some_step None false n = refl
some_step (Some x) b n = refl

pub some_none : (test : ℕ → Bool) → false ≡ is_some (first test 0)
some_none test = ap is_some (first_none test)

pub some_more : (test : ℕ → Bool) (n : ℕ) → is_some (first test (n + 1)) ≡ (is_some (first test n) || test n)
some_more test n = ap (λ k. is_some (first test k)) (add-one n) ∙ ap is_some (first_step test n) ∙ some_step (first test n) (test n) n

pub one_more : (tokens : List Token) (n : ℕ) (old new : Tables) → AreTablesIn tokens n old →
    ((q : List ℕ) → top_in new q ≡ option_or (top_in old q) (if is_top_of tokens q n then Some n else None)) →
    ((o : ℕ) (q : List ℕ) → inner_in new o q ≡ option_or (inner_in old o q) (if is_inner_of tokens o q n then Some n else None)) →
    AreTablesIn tokens (n + 1) new
one_more tokens n old new were top inner = record {
  top = λ q. first_more (is_top_of tokens q) n (top_in old q) (top_in new q) (were.top q) (top q);
  inner = λ o q. first_more (is_inner_of tokens o q) n (inner_in old o q) (inner_in new o q) (were.inner o q) (inner o q);
}

-- ---- one token more

unaffected : (o : Option ℕ) (b : Bool) (at : ℕ) → b ≡ false → o ≡ option_or o (if b then Some at else None)
unaffected o b at fails = sym (ap (λ d. option_or o (if d then Some at else None)) fails ∙ or_none o)

not_top_of : (tokens : List Token) (at : ℕ) (q : List ℕ) → is_top tokens at ≡ false → is_top_of tokens q at ≡ false
not_top_of tokens at q fails = ap (λ b. b && is_text q (text_at tokens at)) fails

pub keeps : (tokens : List Token) (at : ℕ) (tables : Tables) → AreTablesIn tokens at tables → is_top tokens at ≡ false →
    ((o : ℕ) (q : List ℕ) → is_inner_of tokens o q at ≡ false) → AreTablesIn tokens (at + 1) tables
keeps tokens at tables were no_top no_inner =
    one_more tokens at tables tables were (λ q. unaffected (top_in tables q) (is_top_of tokens q at) at (not_top_of tokens at q no_top))
    (λ o q. unaffected (inner_in tables o q) (is_inner_of tokens o q at) at (no_inner o q))

-- a token that is not a name
none_chosen : (b : Bool) (o : Option Symbol) → is_some (if b && false then o else None) ≡ false
none_chosen true o = refl
none_chosen false o = refl

pub unnamed_is_no_top : (tokens : List Token) (at : ℕ) → None ≡ text_at tokens at → is_top tokens at ≡ false
unnamed_is_no_top tokens at none =
    ap (λ t. is_some (if (depth_at tokens at == 0) && is_some t then symbol_of at (declared tokens at) else None)) (sym none)
    ∙ none_chosen (depth_at tokens at == 0) (symbol_of at (declared tokens at))

pub unnamed_is_no_inner : (tokens : List Token) (at : ℕ) (o : ℕ) (q : List ℕ) → None ≡ text_at tokens at → is_inner_of tokens o q at ≡ false
unnamed_is_no_inner tokens at o q none =
    ap (λ t. ((is_some t && not (is_top tokens at)) && is_declared tokens at) && is_number o (owner_at tokens at) && is_text q (text_at tokens at)) (sym none)

-- a name that is not an inner one
pub not_inner_of : (tokens : List Token) (at : ℕ) (o : ℕ) (q : List ℕ) → is_inner tokens at ≡ false → is_inner_of tokens o q at ≡ false
not_inner_of tokens at o q fails = ap (λ b. b && is_number o (owner_at tokens at) && is_text q (text_at tokens at)) fails

never : (b c : Bool) → ((b && false) && c) ≡ false
never true c = refl
never false c = refl

pub without_owner : (tokens : List Token) (at : ℕ) (o : ℕ) (q : List ℕ) → None ≡ owner_at tokens at → is_inner_of tokens o q at ≡ false
without_owner tokens at o q none =
    ap (λ w. (is_inner tokens at && is_number o w) && is_text q (text_at tokens at)) (sym none) ∙ never (is_inner tokens at) (is_text q (text_at tokens at))

-- a name of the top level
pub with_top : (tokens : List Token) (at : ℕ) (text : List ℕ) (old new : Tables) → AreTablesIn tokens at old → Some text ≡ text_at tokens at →
    is_top tokens at ≡ true → IsWithTop text at old new → AreTablesIn tokens (at + 1) new
with_top tokens at text old new were named is_one grown =
    let test : ℕ → List ℕ → Option (List ℕ) → Bool → Bool =
    λ o q t b. ((is_some t && not b) && is_declared tokens at) && is_number o (owner_at tokens at) && is_text q t in
    one_more tokens at old new were
    (λ q. grown.top q ∙ ap (λ b. option_or (top_in old q) (if b then Some at else None))
    (sym (ap (λ b. b && is_text q (text_at tokens at)) is_one ∙ ap (is_text q) (sym named))))
    (λ o q. grown.inner o q ∙ unaffected (inner_in old o q) (is_inner_of tokens o q at) at
    (ap (λ t. test o q t (is_top tokens at)) (sym named) ∙ ap (test o q (Some text)) is_one))

-- an inner name
pub with_inner : (tokens : List Token) (at owner : ℕ) (text : List ℕ) (old new : Tables) → AreTablesIn tokens at old → Some text ≡ text_at tokens at →
    is_top tokens at ≡ false → Some owner ≡ owner_at tokens at → is_inner tokens at ≡ true → IsWithInner owner text at old new → AreTablesIn tokens (at + 1) new
with_inner tokens at owner text old new were named no_top owned is_one grown =
    one_more tokens at old new were
    (λ q. grown.top q ∙ unaffected (top_in old q) (is_top_of tokens q at) at (not_top_of tokens at q no_top))
    (λ o q. grown.inner o q ∙ ap (λ b. option_or (inner_in old o q) (if b then Some at else None))
    (sym (ap (λ b. b && is_number o (owner_at tokens at) && is_text q (text_at tokens at)) is_one
    ∙ ap (λ w. is_number o w && is_text q (text_at tokens at)) (sym owned) ∙ ap (λ t. (owner == o) && is_text q t) (sym named))))
