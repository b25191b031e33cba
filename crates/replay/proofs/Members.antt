-- The values that texts stand for.
use Rattle.std.proofs.Common.{◌≡◌, ◌∙◌, ◌<◌, ◌≤◌, ◌+◌, ℕ, Bool, false, List, [], ◌∷◌, ◌++◌, length, take, drop, slice_get}
use Rattle.std.proofs.Common.{Option, Some, None, arith, sym, ap, refl, append_assoc, inl, inr}
use Rattle.std.proofs.lemmas.Bool.{cases_lt}
use Rattle.std.specs.Prelude.{◌==◌}
use Rattle.std.specs.Option.{option_map}
use Rattle.std.specs.List.{slice_split, position_or_len}
use Rattle.std.proofs.lemmas.Bool.{lt-ltb, le-ltb}
use Rattle.std.proofs.lemmas.List.{take_all}
use Rattle.std.proofs.lemmas.List.Splits.{slice_split_first, slice_split_none}
use Rattle.std.proofs.lemmas.List.Sums.{fails_before_first}
use Rattle.std.proofs.lemmas.Option.{slice_get_within}
use Rattle.core_lang.specs.declared.value.Value.{Value}
use Rattle.core_lang.specs.declared.shape.Pool.{Pool}
use Rattle.core_lang.specs.declared.shape.Shape.{Shape}
use Rattle.core_lang.specs.declared.typed.Typed.{Typed}
use Rattle.core_lang.specs.Typing.{lookup}
use Rattle.core_lang.specs.WellFormed.{IsChecked}
use Rattle.input_files.specs.Pieces.{before, behind, count_in}
use Rattle.replay.specs.Told.{and_values, arguments_in, member_of, object_in, pool_named, unspaced, value_in, values_in}

-- ---- members of pools

-- the index of a member is below a bound
pub member_few : (program : Typed) (p : ℕ) (pool : Pool) (index : ℕ) → IsChecked program →
    slice_get program.shape.pools.items p ≡ Some pool → index < pool.length → pool.first + index < 65536
member_few program p pool index well here less =
    let member = well.laid_out.pool p pool here index less in
    let within = slice_get_within program.shape.objects.items (pool.first + index) member.0 member.1 in
    let most = well.within.objects in
    omega (arith, within, most)

module _ (shape : Shape) (text : List ℕ) (pool : Pool) (named : pool_named shape (before 91 text) ≡ Some pool) where
  of_pool : object_in shape text ≡ lookup (count_in (before 93 (behind 91 text))) (member_of pool)
  of_pool = ap (λ found. lookup found (λ (p : Pool). lookup (count_in (before 93 (behind 91 text))) (member_of p))) named

  pub no_index : count_in (before 93 (behind 91 text)) ≡ None → None ≡ object_in shape text
  no_index none = sym (of_pool ∙ ap (λ found. lookup found (member_of pool)) none)

  pub member_told : (index : ℕ) → count_in (before 93 (behind 91 text)) ≡ Some index → index < pool.length →
      Some (pool.first + index) ≡ object_in shape text
  member_told index counted less =
      sym (of_pool ∙ ap (λ found. lookup found (member_of pool)) counted ∙ rw (lt-ltb index pool.length less) refl)

  pub no_member : (index : ℕ) → count_in (before 93 (behind 91 text)) ≡ Some index → pool.length ≤ index →
      None ≡ object_in shape text
  no_member index counted past =
      sym (of_pool ∙ ap (λ found. lookup found (member_of pool)) counted ∙ rw (le-ltb index pool.length past) refl)

-- ---- the values between commas

abbrev pub comma : ℕ → Bool
comma b = b == 44

module _ (shape : Shape) (rest : List ℕ) (place : ℕ) (is : place ≡ position_or_len comma rest) where
  -- a piece that a comma follows is not the last one
  pub split_more : place < length rest → slice_split comma rest ≡ take place rest ∷ slice_split comma (drop (place + 1) rest)
  split_more some = rw is (slice_split_first comma rest 0 (rw is at some))

  pub split_last : length rest ≤ place → slice_split comma rest ≡ rest ∷ []
  split_last none = slice_split_none comma rest (λ k d high. fails_before_first comma rest k d (omega (arith, is, none)))

  pub no_value : place ≤ length rest → value_in shape (unspaced (take place rest)) ≡ None →
      values_in shape (slice_split comma rest) ≡ None
  no_value bound none = elim (cases_lt place (length rest)) [
    | inl less ↦
        ap (values_in shape) (split_more less)
        ∙ ap (λ v. lookup v (λ value. and_values value (values_in shape (slice_split comma (drop (place + 1) rest))))) none
    | inr most ↦
        ap (values_in shape) (split_last most)
        ∙ ap (λ v. lookup v (λ value. and_values value (Some []))) (ap (λ text. value_in shape (unspaced text)) (sym (take_all place rest most)) ∙ none)
  ]

  pub last_value : (value : Value) → place ≡ length rest → value_in shape (unspaced (take place rest)) ≡ Some value →
      values_in shape (slice_split comma rest) ≡ Some (value ∷ [])
  last_value value all some =
      ap (values_in shape) (split_last (omega (arith, all)))
      ∙ ap (λ v. lookup v (λ value. and_values value (Some [])))
      (ap (λ text. value_in shape (unspaced text)) (sym (take_all place rest (omega (arith, all)))) ∙ some)

  pub more_values : (value : Value) → place < length rest → value_in shape (unspaced (take place rest)) ≡ Some value →
      values_in shape (slice_split comma rest) ≡ and_values value (values_in shape (slice_split comma (drop (place + 1) rest)))
  more_values value less some =
      ap (values_in shape) (split_more less)
      ∙ ap (λ v. lookup v (λ value. and_values value (values_in shape (slice_split comma (drop (place + 1) rest))))) some

-- values after those so far
abbrev pub behind_all : List Value → Option (List Value) → Option (List Value)
behind_all done more = option_map (λ values. done ++ values) more

pub behind_pushed : (done : List Value) (value : Value) (more : Option (List Value)) →
    behind_all (done ++ value ∷ []) more ≡ behind_all done (and_values value more)
behind_pushed done value None = refl
behind_pushed done value (Some values) = ap Some (append_assoc done (value ∷ []) values)

-- a text that is not empty has values between commas
pub some_text : (shape : Shape) (text : List ℕ) → (length text == 0) ≡ false →
    arguments_in shape text ≡ values_in shape (slice_split comma text)
some_text shape text some = rw some refl
