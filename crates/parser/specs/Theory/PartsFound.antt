-- Tokens that have a tree are read, unless a sign is too deep: types, constants, parameters and annotations.
use Rattle.std.proofs.Common.{ℕ, List, [], ◌∷◌, Ok, refl}
use Rattle.source.specs.declared.span.Span.{Span}
use Rattle.source.specs.declared.token.Keyword.TheVariants as keyword
use Rattle.source.specs.declared.token.Sign.{Sign}
use Rattle.source.specs.declared.token.Sign.TheVariants.{OpenParen, CloseParen, OpenBracket, CloseBracket, Comma, Dot}
use Rattle.source.specs.Tokens.{word, mark, Tok}
use Rattle.source.specs.declared.token.Number.{Number}
use Rattle.syntax.specs.Trees.{Const, member_const, Protection, Param, ClassName}
use Rattle.syntax.specs.Grammar.{tok, int_tok, IsOptional, AreMany, IsAfter, after, AreListed, IsName, is_name}
use Rattle.syntax.specs.Grammar.{IsType, is_int_type, is_ref_type, IsConst, is_int_const, is_negative, is_null_const}
use Rattle.syntax.specs.Grammar.{is_member_const, IsIndex, is_index, IsProtection, is_protection, IsParam, is_param}
use Rattle.syntax.specs.Grammar.{IsClassName, is_class_name, AreTakenWhole, none_taken, taken}
use Rattle.parser.specs.Working.Reading.{Reader, name_at, int_at, skip_at, after_at, given}
use Rattle.parser.specs.Working.Parts.{type_at, index_at, const_at, protection_at, maybe_protection, param_at}
use Rattle.parser.specs.Working.Parts.{params_at, class_at, class_list_at, whole_at, classes_at}
use Rattle.parser.specs.Theory.Law.{IsTok, is_tok, IsInt, is_int_tok}
use Rattle.parser.specs.Theory.Joined.{Done, done, Both, both}
use Rattle.parser.specs.Theory.PartLaws.{IsParams, is_params, AreClasses, are_classes}
use Rattle.parser.specs.Theory.Shorter.{next_name_shortens, next_param_shortens, next_class_shortens}
use Rattle.parser.specs.Theory.Finding.{found, finds_then, FindsPart, Anything, ends_found, then_found, and_found}
use Rattle.parser.specs.Theory.Finding.{production_found, sign_found, word_found, open_then, name_found, int_found}
use Rattle.parser.specs.Theory.Finding.{NotNext, IsNext, maybe_found, NoSign, each_found, Closes, listed_found}
use Rattle.parser.specs.Theory.Finding.{choose_left, choose_right}

-- ---- types and constants

pub type_found : FindsPart Anything IsType type_at
unfolding type_at name_at
type_found x ts mid is_int_type follow = found refl
type_found x ts mid is_ref_type follow = found refl

index_back : {y : Number} {ts rest : List Tok} → IsIndex y ts rest →
    Both (IsTok (mark OpenBracket)) (λ b. Both IsInt (λ n. Both (IsTok (mark CloseBracket)) (λ c. Done n))) y ts rest
index_back is_index = both is_tok (both is_int_tok (both is_tok done))

pub index_found : (room : ℕ) → FindsPart Anything IsIndex (index_at room)
unfolding index_at
index_found room = production_found IsIndex (open_then OpenBracket room
    (λ r e. and_found int_found (and_found (sign_found CloseBracket) (ends_found (λ x. x.0.1)))))
    (λ y ts rest h. index_back h)

pub const_found : (room : ℕ) → FindsPart Anything IsConst (const_at room)
unfolding const_at int_at
const_found room x ts mid is_int_const follow = found refl
const_found room x ts mid is_negative follow = found refl
const_found room x ts mid is_null_const follow = found refl
const_found room _ ts mid (is_member_const {x = x} {n = n} {begin = begin} {close = close}) follow =
    let us = tok (mark OpenBracket) begin ∷ int_tok n ∷ tok (mark CloseBracket) close ∷ mid in
    finds_then (index_at room us) (λ n. Ok (member_const x n.0, n.1)) (n, mid) (member_const x n, mid)
    (index_found room n us mid is_index tt) (found refl)

-- ---- a part after a sign

after_back : {A : Type 0} {s : Sign} {R : A → List Tok → List Tok → Type 0} {y : A} {ts rest : List Tok} →
    IsAfter s R y ts rest → Both (IsTok (mark s)) (λ at. Both R (λ x. Done x)) y ts rest
after_back (after r) = both is_tok (both r done)

pub after_found : {A : Type 0} {R : A → List Tok → List Tok → Type 0} {f : Reader A} (s : Sign) →
    FindsPart Anything R f → FindsPart Anything (IsAfter s R) (after_at s f)
unfolding after_at
after_found {A = A} {R = R} s part = production_found (IsAfter s R) (and_found (sign_found s)
    (and_found part (ends_found (λ (x : (Unit {0} × Span) × A). x.1)))) (λ y ts rest h. after_back h)

-- ---- annotations

close_no_dot : {A : Type 0} {R : Span → A → List Tok → List Tok → Type 0} {y : A} {ts rest : List Tok} →
    Both (IsTok (mark CloseParen)) R y ts rest → NoSign Dot ts
unfolding skip_at
close_no_dot (both is_tok r) = refl

protection_back : {y : Protection} {ts rest : List Tok} → IsProtection y ts rest →
    Both (IsTok (word keyword.ProtectedBy)) (λ w. Both (IsTok (mark OpenParen))
    (λ b. Both IsName (λ x. Both (AreMany (IsAfter Dot IsName)) (λ more. Both (IsTok (mark CloseParen))
    (λ c. Done (record { first = x; rest = more })))))) y ts rest
protection_back (is_protection h) = both is_tok (both is_tok (both is_name (both h (both is_tok done))))

protection_found : (room : ℕ) → FindsPart Anything IsProtection (protection_at room)
unfolding protection_at
protection_found room =
    production_found IsProtection
    (and_found (word_found keyword.ProtectedBy) (open_then OpenParen room
    (λ r e. and_found name_found (then_found {F = NoSign Dot} (each_found IsName name_at name_found Dot
    next_name_shortens) (λ x a y ts rest r f. close_no_dot r) (and_found (sign_found CloseParen)
    (ends_found (λ x. record { first = x.0.0.1; rest = x.0.1 })))))))
    (λ y ts rest h. protection_back h)

protection_begins : (y : Protection) (ts rest : List Tok) → IsProtection y ts rest →
    IsNext (word keyword.ProtectedBy) ts
protection_begins y ts rest (is_protection h) = refl

pub maybe_protection_found : (room : ℕ) →
    FindsPart (NotNext (word keyword.ProtectedBy)) (IsOptional IsProtection) (maybe_protection room)
maybe_protection_found room = maybe_found (word keyword.ProtectedBy) (protection_found room) protection_begins

-- ---- parameters

pub close_closes : {A : Type 0} {R : Span → A → List Tok → List Tok → Type 0} {y : A} {ts rest : List Tok} →
    Both (IsTok (mark CloseParen)) R y ts rest → Closes ts
unfolding skip_at
close_closes (both is_tok r) = record { closing = refl; no_comma = refl }

param_back : {y : Param} {ts rest : List Tok} → IsParam y ts rest →
    Both IsType (λ t. Both IsName (λ x. Done (record { name = x; value_type = t }))) y ts rest
param_back (is_param t) = both t (both is_name done)

param_found : FindsPart Anything IsParam param_at
unfolding param_at
param_found = production_found IsParam (and_found type_found (and_found name_found
    (ends_found (λ x. record { name = x.1; value_type = x.0.1 })))) (λ y ts rest h. param_back h)

param_begins : (y : Param) (ts rest : List Tok) → IsParam y ts rest → NotNext (mark CloseParen) ts
param_begins y ts rest (is_param is_int_type) = refl
param_begins y ts rest (is_param is_ref_type) = refl

pub const_begins : (y : Const) (ts rest : List Tok) → IsConst y ts rest → NotNext (mark CloseParen) ts
const_begins y ts rest is_int_const = refl
const_begins y ts rest is_negative = refl
const_begins y ts rest is_null_const = refl
const_begins y ts rest is_member_const = refl

params_back : {y : List Param} {ts rest : List Tok} → IsParams y ts rest →
    Both (IsTok (mark OpenParen)) (λ b. Both (AreListed IsParam) (λ ps. Both (IsTok (mark CloseParen)) (λ c. Done ps)))
    y ts rest
params_back (is_params h) = both is_tok (both h (both is_tok done))

pub params_found : (room : ℕ) → FindsPart Anything IsParams (params_at room)
unfolding params_at
params_found room =
    production_found IsParams
    (open_then OpenParen room (λ r e. then_found {F = Closes} (listed_found IsParam param_at param_found
    next_param_shortens param_begins) (λ x a y ts rest r f. close_closes r)
    (and_found (sign_found CloseParen) (ends_found (λ x. x.0.1)))))
    (λ y ts rest h. params_back h)

-- ---- lock classes that a section takes whole

class_back : {y : ClassName} {ts rest : List Tok} → IsClassName y ts rest →
    Both IsName (λ s. Both (IsTok (mark Dot)) (λ d. Both IsName (λ l. Done (record { structure = s; lock = l })))) y
    ts rest
class_back is_class_name = both is_name (both is_tok (both is_name done))

class_found : FindsPart Anything IsClassName class_at
unfolding class_at
class_found = production_found IsClassName (and_found name_found (and_found (sign_found Dot) (and_found name_found
    (ends_found (λ x. record { structure = x.0.0.1; lock = x.1 }))))) (λ y ts rest h. class_back h)

class_list_back : {y : List ClassName} {ts rest : List Tok} → AreClasses y ts rest →
    Both IsClassName (λ c. Both (AreMany (IsAfter Comma IsClassName)) (λ cs. Done (c ∷ cs))) y ts rest
class_list_back (are_classes c cs) = both c (both cs done)

class_list_found : FindsPart (NoSign Comma) AreClasses class_list_at
unfolding class_list_at
class_list_found = production_found AreClasses (and_found class_found (then_found {F = NoSign Comma}
    (each_found IsClassName class_at class_found Comma next_class_shortens) (λ x a y ts rest r f. done_no_comma r f)
    (ends_found (λ x. x.0.1 ∷ x.1)))) (λ y ts rest h. class_list_back h)
  where
    done_no_comma : {A : Type 0} {x y : A} {ts rest : List Tok} → Done x y ts rest → NoSign Comma rest → NoSign Comma ts
    done_no_comma done f = f

-- `lock` and classes in parentheses
abbrev IsWholePart : List ClassName → List Tok → List Tok → Type 0
IsWholePart = Both (IsTok (word keyword.Lock)) (λ w. Both (IsTok (mark OpenParen)) (λ b. Both AreClasses
    (λ cs. Both (IsTok (mark CloseParen)) (λ e. Done cs))))

whole_found : (room : ℕ) → FindsPart Anything IsWholePart (whole_at room)
unfolding whole_at
whole_found room =
    production_found IsWholePart
    (and_found (word_found keyword.Lock) (open_then OpenParen room
    (λ r e. then_found {F = NoSign Comma} class_list_found (λ x a y ts rest r f. (close_closes r).no_comma)
    (and_found (sign_found CloseParen) (ends_found (λ x. x.0.1))))))
    (λ y ts rest h. h)

pub classes_found : (room : ℕ) → FindsPart (NotNext (word keyword.Lock)) AreTakenWhole (classes_at room)
classes_found room _ ts mid none_taken follow = choose_right (word keyword.Lock) (whole_at room) (given []) ts ([], mid)
    follow (found refl)
classes_found room _ _ rest (taken {c = c} {cs = cs} {start = start} {before = begin} {ts = ts} n more)
    follow =
    let us = tok (word keyword.Lock) start ∷ tok (mark OpenParen) begin ∷ ts in
    choose_left (word keyword.Lock) (whole_at room) (given []) us (c ∷ cs, rest) refl (whole_found room (c ∷ cs) us rest
    (both is_tok (both is_tok (both (are_classes n more) (both is_tok done)))) tt)
