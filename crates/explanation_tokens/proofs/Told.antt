-- The note lists the candidates that can come.
use Rattle.std.proofs.Common.{◌≡◌, ℕ, ◌+◌, ◌<◌, ◌≤◌, zero, suc, List, [], ◌∷◌, ◌++◌, length, take, get_or, slice_get}
use Rattle.std.proofs.Common.{Some, ap, sym, subst, refl, arith}
use Rattle.std.specs.List.{All}
use Rattle.std.proofs.lemmas.List.{take_more}
use Rattle.explanation.specs.Notes.{Note}
use Rattle.source.specs.declared.fault.Code.{Code}
use Rattle.source.specs.declared.fault.Code.TheVariants.{UnexpectedToken}
use Rattle.source.specs.declared.token.Keyword.TheVariants as keyword
use Rattle.source.specs.declared.token.Sign.TheVariants as sign
use Rattle.source.specs.Tokens.{Tok}
use Rattle.explanation_tokens.specs.declared.candidate.Candidate.{Candidate}
use Rattle.explanation_tokens.specs.declared.candidate.Candidate.TheVariants.{Name, Number, Word, Mark}
use Rattle.explanation_tokens.specs.Expected.{AreExpected, AreThose, no_more, it_is, it_is_not, IsTrueTokenNote}
use Rattle.explanation_tokens.specs.Expected.{AreInOrder, AreTokenNotes, IsTokenTold, READ_LIMIT, all_candidates}
use Rattle.explanation_tokens.specs.Working.Trials.{notes_on}

-- ---- the candidates of a list that have the property

those_push : {A : Type 0} (Is : A → Type 0) (x : A) {xs those : List A} → AreThose Is xs those → Is x →
    AreThose Is (xs ++ x ∷ []) (those ++ x ∷ [])
those_push Is x no_more is = it_is is no_more
those_push Is x (it_is was more) is = it_is was (those_push Is x more is)
those_push Is x (it_is_not was more) is = it_is_not was (those_push Is x more is)

those_pass : {A : Type 0} (Is : A → Type 0) (x : A) {xs those : List A} → AreThose Is xs those → (Is x → ⊥) →
    AreThose Is (xs ++ x ∷ []) those
those_pass Is x no_more is = it_is_not is no_more
those_pass Is x (it_is was more) is = it_is was (those_pass Is x more is)
those_pass Is x (it_is_not was more) is = it_is_not was (those_pass Is x more is)

pub one_more_is : {A : Type 0} (Is : A → Type 0) (xs those : List A) (i : ℕ) (d : A) → i < length xs →
    AreThose Is (take i xs) those → Is (get_or xs i d) →
    AreThose Is (take (i + 1) xs) (those ++ get_or xs i d ∷ [])
one_more_is Is xs those i d within are is =
    subst (λ (l : List _). AreThose Is l (those ++ get_or xs i d ∷ [])) (sym (take_more xs i d within)) (those_push Is (get_or xs i d) are is)

pub one_more_is_not : {A : Type 0} (Is : A → Type 0) (xs those : List A) (i : ℕ) (d : A) → i < length xs →
    AreThose Is (take i xs) those →
    (Is (get_or xs i d) → ⊥) → AreThose Is (take (i + 1) xs) those
one_more_is_not Is xs those i d within are is =
    subst (λ (l : List _). AreThose Is l those) (sym (take_more xs i d within)) (those_pass Is (get_or xs i d) are is)

-- if no item has the property, no element has it
none_there : {A : Type 0} (Is : A → Type 0) (xs : List A) (i : ℕ) (x : A) → AreThose Is xs [] →
    slice_get xs i ≡ Some x → Is x → ⊥
none_there Is [] i x are there is = cc
none_there Is (y ∷ ys) zero x (it_is_not was more) there is = was (let same : y ≡ x = cc in subst Is (sym same) is)
none_there Is (y ∷ ys) (suc i) x (it_is_not was more) there is = none_there Is ys i x more there is

-- each candidate is in the table
where_is : (c : Candidate) → (i : ℕ) × (slice_get all_candidates i ≡ Some c)
where_is Name = (0, refl)
where_is Number = (1, refl)
where_is (Word keyword.Lock) = (2, refl)
where_is (Word keyword.Struct) = (3, refl)
where_is (Word keyword.Final) = (4, refl)
where_is (Word keyword.Ref) = (5, refl)
where_is (Word keyword.Int) = (6, refl)
where_is (Word keyword.Global) = (7, refl)
where_is (Word keyword.ProtectedBy) = (8, refl)
where_is (Word keyword.Pool) = (9, refl)
where_is (Word keyword.Init) = (10, refl)
where_is (Word keyword.Atomic) = (11, refl)
where_is (Word keyword.Let) = (12, refl)
where_is (Word keyword.Var) = (13, refl)
where_is (Word keyword.If) = (14, refl)
where_is (Word keyword.Else) = (15, refl)
where_is (Word keyword.While) = (16, refl)
where_is (Word keyword.Print) = (17, refl)
where_is (Word keyword.Return) = (18, refl)
where_is (Word keyword.Thread) = (19, refl)
where_is (Word keyword.Repeat) = (20, refl)
where_is (Word keyword.Null) = (21, refl)
where_is (Word keyword.Where) = (22, refl)
where_is (Word keyword.Call) = (23, refl)
where_is (Mark sign.OpenBrace) = (24, refl)
where_is (Mark sign.CloseBrace) = (25, refl)
where_is (Mark sign.OpenParen) = (26, refl)
where_is (Mark sign.CloseParen) = (27, refl)
where_is (Mark sign.OpenBracket) = (28, refl)
where_is (Mark sign.CloseBracket) = (29, refl)
where_is (Mark sign.Semicolon) = (30, refl)
where_is (Mark sign.Comma) = (31, refl)
where_is (Mark sign.Colon) = (32, refl)
where_is (Mark sign.Dot) = (33, refl)
where_is (Mark sign.Equals) = (34, refl)
where_is (Mark sign.DoubleEquals) = (35, refl)
where_is (Mark sign.NotEquals) = (36, refl)
where_is (Mark sign.Less) = (37, refl)
where_is (Mark sign.LessEquals) = (38, refl)
where_is (Mark sign.Greater) = (39, refl)
where_is (Mark sign.GreaterEquals) = (40, refl)
where_is (Mark sign.Plus) = (41, refl)
where_is (Mark sign.Minus) = (42, refl)
where_is (Mark sign.Star) = (43, refl)
where_is (Mark sign.Slash) = (44, refl)
where_is (Mark sign.Percent) = (45, refl)
where_is (Mark sign.And) = (46, refl)
where_is (Mark sign.Or) = (47, refl)
where_is (Mark sign.Not) = (48, refl)

-- a candidate that can come is listed
pub some_told : (Is : Candidate → Type 0) (list : List Candidate) (c : Candidate) → AreThose Is all_candidates list →
    Is c → 1 ≤ length (notes_on list)
some_told Is [] c are is = let at = where_is c in absurd (none_there Is all_candidates at.0 c are at.1 is)
some_told Is (first ∷ others) c are is = omega arith

pub one_told : (list : List Candidate) → length (notes_on list) ≤ 1
one_told [] = omega arith
one_told (first ∷ others) = omega arith

pub true_notes : (ts : List Tok) (code : Code) (start : ℕ) (list : List Candidate) → code ≡ UnexpectedToken →
    (are : AreExpected ts start list) → length are.before ≤ READ_LIMIT →
    All (IsTrueTokenNote ts code start) (notes_on list)
true_notes ts code start [] is are few k d within = absurd (omega arith)
true_notes ts code start (first ∷ others) is are few zero d within = record { unexpected = is; first = first; others = others; expected = are; few = few; said = refl }
true_notes ts code start (first ∷ others) is are few (suc k) d within = absurd (omega arith)

-- if no note is required, none is given
pub none_expected : (ts : List Tok) (code : Code) (start : ℕ) → (AreInOrder ts start → IsTokenTold ts code start → ⊥) →
    AreTokenNotes ts code start []
none_expected ts code start none = record {
  are_true = λ k d within. absurd (omega arith);
  few = omega arith;
  told = λ order told. absurd (none order told);
}

pub append_nothing : (notes : List Note) → notes ++ [] ≡ notes
append_nothing [] = refl
append_nothing (x ∷ notes) = ap (λ (l : List Note). x ∷ l) (append_nothing notes)
