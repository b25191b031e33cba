-- The numbers of names, from the last name to the first.
use Rattle.std.proofs.Common.{◌≡◌, ◌∙◌, ◌<◌, ◌+◌, ℕ, zero, suc, List, [], ◌∷◌, length, drop, map, get_or, None, Some, arith, sym, ap}
use Rattle.std.proofs.Common.{add-one, if◌then◌else◌}
use Rattle.std.specs.Str.{bytes_eq}
use Rattle.std.proofs.lemmas.List.{drop_all, length-map}
use Rattle.replay.specs.declared.names.Numbers.{Numbers}
use Rattle.replay.specs.Told.{first_named}
use Rattle.replay.specs.Working.Names.{found, IsWithName, AreNumbersOf}

-- the numbers of the last `many` names
pub record AreLast (names : List (List ℕ)) (many : ℕ) (numbers : Numbers) : Type 0 where
  pub from : ℕ
  pub all : from + many ≡ length names
  pub are : (text : List ℕ) → found numbers text ≡ first_named from (drop from names) text

pub last_none : (names : List (List ℕ)) (numbers : Numbers) → ((name : List ℕ) → found numbers name ≡ None) → AreLast names 0 numbers
last_none names numbers none = record {
  from = length names;
  all = omega arith;
  are = λ text. none text ∙ sym (ap (λ left. first_named (length names) left text) (drop_all (length names) names (omega arith)));
}

name_at : {A : Type 0} (name : A → List ℕ) (items : List A) (i : ℕ) (x : A) → i < length items → x ≡ get_or items i x →
    drop i (map name items) ≡ name x ∷ drop (suc i) (map name items)
name_at name [] i x less is = absurd (omega arith)
name_at name (y ∷ items) zero x less is = ap (λ z. name z ∷ map name items) (sym is)
name_at name (y ∷ items) (suc i) x less is = name_at name items i x (omega arith) is

pub last_more : {A : Type 0} (name : A → List ℕ) (items : List A) (many number : ℕ) (x : A) (old new : Numbers) →
    AreLast (map name items) many old → number + 1 + many ≡ length items → x ≡ get_or items number x →
    IsWithName (name x) number old new → AreLast (map name items) (many + 1) new
last_more name items many number x old new last place is with =
    let all = last.all in
    let long = length-map items name in
    let from : last.from ≡ suc number = omega (arith, all, long, place) in
    record {
      from = number;
      all = omega (arith, long, place);
      are = λ text.
          with text
          ∙ ap (λ r. if bytes_eq (name x) text then Some number else r)
          (last.are text ∙ ap (λ n. first_named n (drop n (map name items)) text) from
          ∙ ap (λ n. first_named n (drop (suc number) (map name items)) text) (sym (add-one number)))
          ∙ sym (ap (λ left. first_named number left text) (name_at name items number x (omega (arith, place)) is));
    }

pub last_all : (names : List (List ℕ)) (many : ℕ) (numbers : Numbers) → AreLast names many numbers → many ≡ length names →
    AreNumbersOf names numbers
last_all names many numbers last whole text =
    let all = last.all in
    let none : last.from ≡ 0 = omega (arith, all, whole) in
    last.are text ∙ ap (λ n. first_named n (drop n names) text) none
