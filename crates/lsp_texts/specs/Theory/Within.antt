-- What declares a name is one of the text's tokens.
use Rattle.std.proofs.Common.{◌≡◌, ℕ, zero, suc, ◌<◌, Bool, true, false, List, [], ◌∷◌, ◌++◌, length, Option, Some, None, subst, arith}
use Rattle.std.specs.Prelude.{◌-◌, if◌then◌else◌, option_and_then, slice_index_or}
use Rattle.std.specs.Option.{option_or}
use Rattle.source.specs.declared.token.Token.{Token}
use Rattle.lsp_texts.specs.Names.{text_at, sign_at, word_at}
use Rattle.lsp_texts.specs.Declarations.{bound_at, declaration_by, declaration_of, declarations, declarations_in, first, holder_at, inner, is_dot, is_inner_of, is_outer, is_struct, is_top_of, is_where, member, member_of, owner_at, plain, struct_at, top}

abbrev pub IsWithin : ℕ → Option ℕ → Type 0
IsWithin n None = Unit {0}
IsWithin n (Some k) = k < n

one_more : (n : ℕ) (found : Option ℕ) (b : Bool) → IsWithin n found → IsWithin (suc n) (option_or found (if b then Some n else None))
one_more n (Some k) b is = omega arith
one_more n None true is = omega arith
one_more n None false is = tt

first_within : (test : ℕ → Bool) (n : ℕ) → IsWithin n (first test n)
unfolding first
first_within test zero = tt
first_within test (suc n) = one_more n (first test n) (test n) (first_within test n)

either : (n : ℕ) (a b : Option ℕ) → IsWithin n a → IsWithin n b → IsWithin n (option_or a b)
either n None b is other = other
either n (Some k) b is other = is

chosen : (n : ℕ) (c : Bool) (a b : Option ℕ) → IsWithin n a → IsWithin n b → IsWithin n (if c then a else b)
chosen n true a b is other = is
chosen n false a b is other = other

behind : {X : Type 0} (n : ℕ) (f : X → Option ℕ) (found : Option X) → ((x : X) → IsWithin n (f x)) → IsWithin n (option_and_then f found)
behind n f None each = tt
behind n f (Some x) each = each x

module _ (tokens : List Token) where
  top_within : (text : List ℕ) → IsWithin (length tokens) (top tokens text)
  unfolding top
  top_within text = first_within (is_top_of tokens text) (length tokens)

  inner_within : (owner : ℕ) (text : List ℕ) → IsWithin (length tokens) (inner tokens owner text)
  unfolding inner
  inner_within owner text = first_within (is_inner_of tokens owner text) (length tokens)

  member_of_within : (text : List ℕ) (owner : ℕ) → IsWithin (length tokens) (member_of tokens text owner)
  member_of_within text owner =
      chosen (length tokens) (is_struct (word_at tokens (owner - 1))) (inner tokens owner text) None (inner_within owner text) tt

  member_within : (text : List ℕ) (holder : Option ℕ) → IsWithin (length tokens) (member tokens text holder)
  unfolding member
  member_within text holder =
      behind (length tokens) (member_of tokens text) (option_and_then (top tokens) (option_and_then (struct_at tokens) holder))
      (member_of_within text)

  plain_within : (at : ℕ) (text : List ℕ) → IsWithin (length tokens) (plain tokens at text)
  plain_within at text =
      let n = length tokens in
      let round : Option ℕ = option_and_then (λ owner. inner tokens owner text) (owner_at tokens at) in
      let is_round = behind n (λ owner. inner tokens owner text) (owner_at tokens at) (λ owner. inner_within owner text) in
      chosen n (is_outer tokens at) (top tokens text) (option_or round (top tokens text)) (top_within text)
      (either n round (top tokens text) is_round (top_within text))

  by_within : (before : List (Option ℕ)) (at : ℕ) (text : List ℕ) → IsWithin (length tokens) (declaration_by tokens before at text)
  by_within before at text =
      let n = length tokens in
      let held = member tokens text (slice_index_or before (holder_at tokens at) None) in
      let bound = member tokens text (bound_at tokens at) in
      let other : Option ℕ = if is_where (word_at tokens (at - 1)) then bound else plain tokens at text in
      chosen n (is_dot (sign_at tokens (at - 1))) held other (member_within text _)
      (chosen n (is_where (word_at tokens (at - 1))) bound (plain tokens at text) (member_within text _) (plain_within at text))

  of_within : (before : List (Option ℕ)) (at : ℕ) → IsWithin (length tokens) (declaration_of tokens before at)
  of_within before at = behind (length tokens) (declaration_by tokens before at) (text_at tokens at) (by_within before at)

  listed : (xs : List (Option ℕ)) (x : Option ℕ) (at : ℕ) → ((i : ℕ) → IsWithin (length tokens) (slice_index_or xs i None)) →
      IsWithin (length tokens) x → IsWithin (length tokens) (slice_index_or (xs ++ x ∷ []) at None)
  listed [] x zero each is = is
  listed [] x (suc at) each is = each at
  listed (y ∷ ys) x zero each is = each 0
  listed (y ∷ ys) x (suc at) each is = listed ys x at (λ i. each (suc i)) is

  in_within : (n at : ℕ) → IsWithin (length tokens) (slice_index_or (declarations_in tokens n) at None)
  unfolding declarations_in
  in_within zero at = tt
  in_within (suc n) at =
      let before = declarations_in tokens n in
      listed before (declaration_of tokens before n) at (in_within n) (of_within before n)

-- the token that declares what a name means stands in the text
pub is_within : (tokens : List Token) (at declared : ℕ) → slice_index_or (declarations tokens) at None ≡ Some declared → declared < length tokens
is_within tokens at declared is = subst (IsWithin (length tokens)) is (in_within tokens (length tokens) at)
