-- Final references gathered from the fields of a path.
use Rattle.std.proofs.Common.{◌≡◌, ℕ, ◌+◌, ◌<◌, ◌≤◌, List, [], ◌∷◌, ◌++◌, length, drop, get_or, Option, Some, None}
use Rattle.std.proofs.Common.{refl, sym, ap, ◌∙◌, append_assoc, append-nil, add-one}
use Rattle.std.proofs.lemmas.List.{drop_all}
use Rattle.std.proofs.Math.Seq.{drop-cons}
use Rattle.std.specs.Option.{option_map}
use Rattle.core_lang.specs.declared.tree.FieldStep.{FieldStep}
use Rattle.core_lang.specs.declared.tree.FieldStep.TheVariants.{Final, Field}
use Rattle.locks.specs.LockPaths.{all_final}

-- numbers after others, if there are any
abbrev pub behind_all : List ℕ → Option (List ℕ) → Option (List ℕ)
behind_all ns rest = option_map (λ ms. ns ++ ms) rest

one_more : (ns ms : List ℕ) (f : ℕ) (rest : Option (List ℕ)) → ms ≡ ns ++ f ∷ [] →
    behind_all ms rest ≡ behind_all ns (option_map (λ rest. f ∷ rest) rest)
one_more ns ms f None e = refl
one_more ns ms f (Some rest) e = ap Some (ap (λ l. l ++ rest) e ∙ append_assoc ns (f ∷ []) rest)

split : (fields : List FieldStep) (i : ℕ) (none step : FieldStep) → get_or fields i none ≡ step → i < length fields →
    drop i fields ≡ step ∷ drop (i + 1) fields
split fields i none step is h =
    let e : drop i fields ≡ get_or fields i none ∷ drop (i + 1) fields = rw (add-one, drop-cons fields i none) in
    e ∙ ap (λ x. x ∷ drop (i + 1) fields) is

pub final_branch : (fields : List FieldStep) (i : ℕ) (none : FieldStep) (s f : ℕ) (ns ms : List ℕ) →
    get_or fields i none ≡ Final s f → i < length fields → ms ≡ ns ++ f ∷ [] →
    behind_all ms (all_final (drop (i + 1) fields)) ≡ behind_all ns (all_final (drop i fields))
final_branch fields i none s f ns ms is h e =
    one_more ns ms f (all_final (drop (i + 1) fields)) e ∙ ap (λ l. behind_all ns (all_final l)) (sym (split fields i none (Final s f) is h))

pub field_branch : (fields : List FieldStep) (i : ℕ) (none : FieldStep) (s f : ℕ) (ns : List ℕ) →
    get_or fields i none ≡ Field s f → i < length fields →
    behind_all ns (all_final (drop i fields)) ≡ None
field_branch fields i none s f ns is h = ap (λ l. behind_all ns (all_final l)) (split fields i none (Field s f) is h)

pub no_branch : (fields : List FieldStep) (i : ℕ) (ns : List ℕ) → length fields ≤ i →
    behind_all ns (all_final (drop i fields)) ≡ Some ns
no_branch fields i ns h = ap (λ l. behind_all ns (all_final l)) (drop_all i fields h) ∙ ap Some (append-nil ns)
