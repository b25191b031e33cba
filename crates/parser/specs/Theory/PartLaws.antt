-- The law of types, constants, parameters and annotations.
use Rattle.std.proofs.Common.{◌≡◌, ℕ, suc, ◌+◌, Bool, true, false, cond, List, [], ◌∷◌, refl, sym, subst}
use Rattle.source.specs.declared.span.Span.{Span}
use Rattle.source.specs.declared.token.Keyword.TheVariants as keyword
use Rattle.source.specs.declared.token.Sign.{Sign}
use Rattle.source.specs.declared.token.Sign.TheVariants.{OpenParen, CloseParen, OpenBracket, CloseBracket, Comma, Dot}
use Rattle.source.specs.declared.token.Sign.TheVariants.{Minus}
use Rattle.source.specs.Tokens.{Lexeme, name, word, mark, Tok}
use Rattle.source.specs.Tokens as lexeme
use Rattle.source.specs.declared.token.Number.{Number}
use Rattle.syntax.specs.Trees.{Ident, ValueType, int_type, ref_type, Const, int_const, negative, null_const}
use Rattle.syntax.specs.Trees.{member_const, Protection, Param, ClassName}
use Rattle.syntax.specs.Grammar.{tok, name_tok, IsOpening, IsOptional, AreMany, no_more, IsAfter, after, AreListed}
use Rattle.syntax.specs.Grammar.{none_listed, IsName, is_name, IsType, is_int_type, is_ref_type, IsConst}
use Rattle.syntax.specs.Grammar.{is_int_const, is_negative, is_null_const, is_member_const, IsIndex, is_index}
use Rattle.syntax.specs.Grammar.{IsProtection, is_protection, IsParam, is_param, IsClassName, is_class_name}
use Rattle.syntax.specs.Grammar.{AreTakenWhole, none_taken, taken}
use Rattle.parser.specs.Working.Reading.{Reader, same_sign, refused, after_at, given}
use Rattle.parser.specs.Working.Parts.{type_from, type_at, negative_from, index_at, const_from, const_at}
use Rattle.parser.specs.Working.Parts.{protection_at, maybe_protection, param_at, params_at, class_at}
use Rattle.parser.specs.Working.Parts.{class_list_at, whole_at, classes_at}
use Rattle.parser.specs.Theory.Law.{same_sign-true, Law, give_law, at_rest, Head, refuses, takes, first_law, IsTok}
use Rattle.parser.specs.Theory.Law.{is_tok, IsInt, is_int_tok, after_sign}
use Rattle.parser.specs.Theory.Joined.{Done, done, Both, both, nowhere, Part, ends_with, then_part, then_open}
use Rattle.parser.specs.Theory.Joined.{production, sign_part, word_part, name_part, int_part, maybe_part, listed_part}
use Rattle.parser.specs.Theory.Joined.{after_each_part, choose_law, weaken_law}

-- ---- the result of the parts of each production

negative_is : {y : Const} {at : Span} {ts rest : List Tok} → Both IsInt (λ n. Done (negative at n)) y ts rest →
    IsConst y (tok (mark Minus) at ∷ ts) rest
negative_is (both is_int_tok done) = is_negative

after_is : {A : Type 0} {s : Sign} {R : A → List Tok → List Tok → Type 0} {y : A} {ts rest : List Tok} →
    Both (IsTok (mark s)) (λ at. Both R (λ x. Done x)) y ts rest → IsAfter s R y ts rest
after_is (both is_tok (both r done)) = after r

index_is : {y : Number} {ts rest : List Tok} →
    Both (IsTok (mark OpenBracket)) (λ b. Both IsInt (λ n. Both (IsTok (mark CloseBracket)) (λ c. Done n))) y ts rest →
    IsIndex y ts rest
index_is (both is_tok (both is_int_tok (both is_tok done))) = is_index

member_const_is : {x : Ident} {y : Const} {ts rest : List Tok} →
    Both IsIndex (λ n. Done (member_const x n)) y ts rest → IsConst y (name_tok x ∷ ts) rest
member_const_is (both is_index done) = is_member_const

ref_type_is : {at : Span} {y : ValueType} {ts rest : List Tok} → Both IsName (λ x. Done (ref_type x)) y ts rest →
    IsType y (tok (word keyword.Ref) at ∷ ts) rest
ref_type_is (both is_name done) = is_ref_type

protection_is : {y : Protection} {ts rest : List Tok} →
    Both (IsTok (word keyword.ProtectedBy)) (λ w. Both (IsTok (mark OpenParen))
    (λ b. Both IsName (λ x. Both (AreMany (IsAfter Dot IsName)) (λ more. Both (IsTok (mark CloseParen))
    (λ c. Done (record { first = x; rest = more })))))) y ts rest → IsProtection y ts rest
protection_is (both is_tok (both is_tok (both is_name (both more (both is_tok done))))) = is_protection more

param_is : {y : Param} {ts rest : List Tok} →
    Both IsType (λ t. Both IsName (λ x. Done (record { name = x; value_type = t }))) y ts rest → IsParam y ts rest
param_is (both t (both is_name done)) = is_param t

-- parameters in parentheses
pub data IsParams (ps : List Param) : List Tok → List Tok → Type 0 where
  is_params : {begin close : Span} {ts rest : List Tok} →
      AreListed IsParam ps ts (tok (mark CloseParen) close ∷ rest) →
      IsParams ps (tok (mark OpenParen) begin ∷ ts) rest

params_is : {y : List Param} {ts rest : List Tok} →
    Both (IsTok (mark OpenParen)) (λ b. Both (AreListed IsParam) (λ ps. Both (IsTok (mark CloseParen)) (λ c. Done ps)))
    y ts rest → IsParams y ts rest
params_is (both is_tok (both ps (both is_tok done))) = is_params ps

class_is : {y : ClassName} {ts rest : List Tok} →
    Both IsName (λ s. Both (IsTok (mark Dot)) (λ d. Both IsName (λ l. Done (record { structure = s; lock = l })))) y
    ts rest → IsClassName y ts rest
class_is (both is_name (both is_tok (both is_name done))) = is_class_name

-- one or more classes with commas between them
pub data AreClasses : List ClassName → List Tok → List Tok → Type 0 where
  are_classes : {c : ClassName} {cs : List ClassName} {ts mid rest : List Tok} → IsClassName c ts mid →
      AreMany (IsAfter Comma IsClassName) cs mid rest → AreClasses (c ∷ cs) ts rest

class_list_is : {y : List ClassName} {ts rest : List Tok} →
    Both IsClassName (λ c. Both (AreMany (IsAfter Comma IsClassName)) (λ cs. Done (c ∷ cs))) y ts rest →
    AreClasses y ts rest
class_list_is (both c (both cs done)) = are_classes c cs

whole_is : {y : List ClassName} {ts rest : List Tok} →
    Both (IsTok (word keyword.Lock)) (λ w. Both (IsTok (mark OpenParen)) (λ b. Both AreClasses
    (λ cs. Both (IsTok (mark CloseParen)) (λ e. Done cs)))) y ts rest → AreTakenWhole y ts rest
whole_is (both is_tok (both is_tok (both (are_classes c cs) (both is_tok done)))) = taken c cs

-- one part alone
pub one_is : {A B : Type 0} {R : A → List Tok → List Tok → Type 0} {make : A → B} (RH : B → List Tok → List Tok →
    Type 0) → ((x : A) (ts rest : List Tok) → R x ts rest →
    RH (make x) ts rest) → (y : B) (ts rest : List Tok) → Both R (λ x. Done (make x)) y ts rest → RH y ts rest
one_is RH f _ ts rest (both {x = x} r done) = f x ts rest r

-- ---- samples

abbrev pub no_name : Ident
no_name = record { text = []; span = nowhere }

abbrev pub zero_const : Const
zero_const = int_const (record { value = 0; span = nowhere })

abbrev pub zero_tok : Tok
zero_tok = tok (lexeme.int 0) nowhere

abbrev pub no_count : Number
no_count = record { value = 0; span = nowhere }

module _ (limit : ℕ) where
  -- ---- types and constants

  type_head : (d : ℕ) (k : Lexeme) (at : Span) → Head limit IsType d d k at (type_from k at)
  type_head d (word keyword.Int) at = takes 0 (λ e. cc) (λ o. absurd o)
      (give_law limit (at_rest IsType (tok (word keyword.Int) at)) int_type d (λ ts. is_int_type))
  type_head d (word keyword.Ref) at = takes 1 (λ e. cc) (λ o. absurd o)
      (production limit (at_rest IsType (tok (word keyword.Ref) at)) (then_part limit (name_part limit d)
      (ends_with limit (λ x. ref_type x.1))) (λ y ts rest r. ref_type_is r))
  type_head d _ at = refuses (λ ts. refl)

  pub type_law : (d : ℕ) → Law limit IsType type_at 1 d d
  unfolding type_at
  type_law d = first_law limit IsType type_from d d (λ rest. (
    int_type,
    tok (word keyword.Int) nowhere ∷ rest,
    is_int_type,
  )) (type_head d)

  pub type_part : {P : Type 0} (d : ℕ) → Part limit P IsType type_at 1 d d
  type_part d = record {
    law = λ p. type_law d;
    can = λ rest. (
      int_type,
      tok (word keyword.Int) nowhere ∷ rest,
      is_int_type,
    );
  }

  -- a part after a sign
  pub after_part : {P A : Type 0} {R : A → List Tok → List Tok → Type 0} {f : Reader A} (s : Sign) (d : ℕ) →
      (IsOpening (mark s) → ⊥) → Part limit P R f 1 (after_sign d s) (after_sign d s) →
      Part limit P (IsAfter s R) (after_at s f) 1 d (after_sign d s)
  unfolding after_at
  after_part {P = P} {A = A} {R = R} {f = f} s d shut part = record {
    law = λ p. production limit (IsAfter s R) (then_part limit (sign_part limit s d shut)
        (then_part limit (given_part p part) (ends_with limit (λ (x : (Unit {0} × Span) × A). x.1))))
        (λ y ts rest r. after_is r);
    can = λ rest. let k = part.can rest in (k.0, tok (mark s) nowhere ∷ k.1, after k.2);
  }
    where
      given_part : {Q : Type 0} → P → Part limit P R f 1 (after_sign d s) (after_sign d s) →
          Part limit Q R f 1 (after_sign d s) (after_sign d s)
      given_part p part = record { law = λ q. part.law p; can = part.can }

  param_law_at : (d : ℕ) → Law limit IsParam param_at 1 d d
  unfolding param_at
  param_law_at d = production limit IsParam (then_part limit (type_part d)
      (then_part limit (name_part limit d) (ends_with limit (λ x. record { name = x.1; value_type = x.0.1 }))))
      (λ y ts rest r. param_is r)

  pub param_law : (d : ℕ) → Law limit IsParam param_at 1 d d
  param_law d = param_law_at d

  param_part : {P : Type 0} (d : ℕ) → Part limit P IsParam param_at 1 d d
  param_part d = record {
    law = λ p. param_law d;
    can = λ rest. (
      record { name = no_name; value_type = int_type },
      tok
          (word keyword.Int) nowhere ∷ name_tok no_name ∷ rest,
      is_param is_int_type,
    );
  }

  pub class_law : (d : ℕ) → Law limit IsClassName class_at 1 d d
  unfolding class_at
  class_law d = production limit IsClassName (then_part limit (name_part limit d)
      (then_part limit (sign_part limit Dot d (λ o. o)) (then_part limit (name_part limit d)
      (ends_with limit (λ x. record { structure = x.0.0.1; lock = x.1 }))))) (λ y ts rest r. class_is r)

  class_part : {P : Type 0} (d : ℕ) → Part limit P IsClassName class_at 1 d d
  class_part d = record {
    law = λ p. class_law d;
    can = λ rest. (
      record { structure = no_name; lock = no_name },
      name_tok no_name ∷ tok (mark Dot) nowhere ∷ name_tok no_name ∷ rest,
      is_class_name,
    );
  }

  class_list_law : (d : ℕ) → Law limit AreClasses class_list_at 1 d d
  unfolding class_list_at
  class_list_law d = production limit AreClasses (then_part limit (class_part d)
      (then_part limit (after_each_part limit Comma d refl (λ o. o) (class_part d))
      (ends_with limit (λ x. x.0.1 ∷ x.1)))) (λ y ts rest r. class_list_is r)

  class_list_part : {P : Type 0} (d : ℕ) → Part limit P AreClasses class_list_at 1 d d
  class_list_part d = record {
    law = λ p. class_list_law d;
    can = λ rest. (
      record { structure = no_name; lock = no_name } ∷ [],
      name_tok no_name ∷ tok (mark Dot) nowhere ∷ name_tok no_name ∷ rest,
      are_classes is_class_name no_more,
    );
  }

  module _ (room d : ℕ) (sum : d + room ≡ limit) where
    index_law : Law limit IsIndex (index_at room) 1 d d
    unfolding index_at
    index_law = production limit IsIndex (then_open limit OpenBracket room sum tt
        (then_part limit (int_part limit (suc d)) (then_part limit (sign_part limit CloseBracket (suc d) (λ o. o))
        (ends_with limit (λ x. x.0.1))))) (λ y ts rest r. index_is r)

    pub index_part : {P : Type 0} → Part limit P IsIndex (index_at room) 1 d d
    index_part = record {
      law = λ p. index_law;
      can = λ rest. (
        no_count,
        tok (mark OpenBracket) nowhere ∷ zero_tok ∷ tok
            (mark CloseBracket) nowhere ∷ rest,
        is_index,
      );
    }

    negative_head : (m : Sign) (at : Span) (b : Bool) → same_sign m Minus ≡ b →
        Head limit IsConst d d (mark m) at (λ ts. cond b (negative_from at ts) (refused ts))
    negative_head m at true e =
        subst (λ (s : Sign). Head limit IsConst d d (mark s) at (negative_from at)) (sym (same_sign-true m Minus e))
        (takes 1 (λ e. cc) (λ o. absurd o) (production limit (at_rest IsConst (tok (mark Minus) at))
        (then_part limit (int_part limit d) (ends_with limit (λ x. negative at x.1)))
        (λ y ts rest r. negative_is r)))
    negative_head m at false e = refuses (λ ts. refl)

    const_head : (k : Lexeme) (at : Span) → Head limit IsConst d d k at (const_from room k at)
    const_head (lexeme.int n) at = takes 0 (λ e. cc) (λ o. absurd o) (give_law limit
        (at_rest IsConst (tok (lexeme.int n) at)) (int_const (record { value = n; span = at })) d (λ ts. is_int_const))
    const_head (name x) at = takes 1 (λ e. cc) (λ o. absurd o) (production limit (at_rest IsConst (tok (name x) at))
        (then_part limit index_part (ends_with limit (λ n. member_const (record { text = x; span = at }) n.1)))
        (λ y ts rest r. member_const_is r))
    const_head (word keyword.Null) at = takes 0 (λ e. cc) (λ o. absurd o)
        (give_law limit (at_rest IsConst (tok (word keyword.Null) at)) (null_const at) d (λ ts. is_null_const))
    const_head (mark m) at = negative_head m at (same_sign m Minus) refl
    const_head _ at = refuses (λ ts. refl)

    pub const_law : Law limit IsConst (const_at room) 1 d d
    unfolding const_at
    const_law = first_law limit IsConst (const_from room) d d (λ rest. (zero_const, zero_tok ∷ rest, is_int_const))
        const_head

    pub const_part : {P : Type 0} → Part limit P IsConst (const_at room) 1 d d
    const_part = record { law = λ p. const_law; can = λ rest. (zero_const, zero_tok ∷ rest, is_int_const) }

  -- ---- annotations and parameters

  module _ (room d : ℕ) (sum : d + room ≡ limit) where
    protection_law : Law limit IsProtection (protection_at room) 1 d d
    unfolding protection_at
    protection_law =
        production limit IsProtection
        (then_part limit (word_part limit keyword.ProtectedBy d) (then_open limit OpenParen room sum tt
        (then_part limit (name_part limit (suc d)) (then_part limit
        (after_each_part limit Dot (suc d) refl (λ o. o) (name_part limit (suc d)))
        (then_part limit (sign_part limit CloseParen (suc d) (λ o. o))
        (ends_with limit (λ x. record { first = x.0.0.1; rest = x.0.1 })))))))
        (λ y ts rest r. protection_is r)

    protection_part : {P : Type 0} → Part limit P IsProtection (protection_at room) 1 d d
    protection_part = record {
      law = λ p. protection_law;
      can = λ rest. (
        record { first = no_name; rest = [] },
        tok (word keyword.ProtectedBy) nowhere ∷ tok
            (mark OpenParen) nowhere ∷ name_tok no_name ∷ tok (mark CloseParen) nowhere ∷ rest,
        is_protection no_more,
      );
    }

    pub maybe_protection_part : {P : Type 0} → Part limit P (IsOptional IsProtection) (maybe_protection room) 0 d d
    maybe_protection_part = maybe_part limit (word keyword.ProtectedBy) d protection_part

    params_law : Law limit IsParams (params_at room) 1 d d
    unfolding params_at
    params_law =
        production limit IsParams
        (then_open limit OpenParen room sum tt (then_part limit (listed_part limit (suc d) (param_part (suc d)))
        (then_part limit (sign_part limit CloseParen (suc d) (λ o. o)) (ends_with limit (λ x. x.0.1)))))
        (λ y ts rest r. params_is r)

    pub params_part : {P : Type 0} → Part limit P IsParams (params_at room) 1 d d
    params_part = record {
      law = λ p. params_law;
      can = λ rest. (
        [],
        tok (mark OpenParen) nowhere ∷ tok
            (mark CloseParen) nowhere ∷ rest,
        is_params none_listed,
      );
    }

    -- ---- lock classes that a section takes whole

    whole_law : Law limit AreTakenWhole (whole_at room) 1 d d
    unfolding whole_at
    whole_law =
        production limit AreTakenWhole
        (then_part limit (word_part limit keyword.Lock d) (then_open limit OpenParen room sum tt
        (then_part limit (class_list_part (suc d)) (then_part limit (sign_part limit CloseParen (suc d) (λ o. o))
        (ends_with limit (λ x. x.0.1))))))
        (λ y ts rest r. whole_is r)

    pub classes_part : {P : Type 0} → Part limit P AreTakenWhole (classes_at room) 0 d d
    classes_part = record {
      law = λ p. choose_law limit AreTakenWhole (word keyword.Lock) (whole_at room) (given []) 0 d d
          (weaken_law limit AreTakenWhole (whole_at room) d d whole_law)
          (give_law limit AreTakenWhole [] d (λ ts. none_taken));
      can = λ rest. ([], rest, none_taken);
    }
