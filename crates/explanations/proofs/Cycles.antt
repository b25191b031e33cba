-- The edges of a cycle one by one, and the notes on them put together.
use Rattle.std.proofs.Common.{◌≡◌, ◌∙◌, ◌++◌, ℕ, zero, suc, List, [], ◌∷◌, drop, map, Some, ap, append_assoc}
use Rattle.std.proofs.Common.{get_or}
use Rattle.std.specs.Prelude.{slice_get}
use Rattle.std.proofs.lemmas.List.{map-append}
use Rattle.std.proofs.lemmas.Option.{same_Some}
use Rattle.core_lang.specs.declared.typed.Typed.{Typed}
use Rattle.explanation.specs.Notes.{Note}
use Rattle.lockorder.specs.declared.ranks.Edge.{Edge}
use Rattle.lockorder.specs.Faults.{AllMakeFirst, IsCycleOf}
use Rattle.explanations.specs.CycleNotes.{class_of_next, TellsEdge, TellsWayOut, TellEdges, AreCycleNotes}
use Rattle.explanations.specs.Working.Tellers.{IsMade}

-- one more element after two
pub map_behind : {A B : Type 0} (f : A → B) (old : List B) (between new : List A) (one two : B) (a : A) →
    map f between ≡ old ++ one ∷ two ∷ [] →
    new ≡ between ++ a ∷ [] → map f new ≡ old ++ one ∷ two ∷ f a ∷ []
map_behind f old between new one two a e g =
    ap (map f) g ∙ map-append f between (a ∷ []) ∙ ap (λ l. l ++ f a ∷ []) e ∙ append_assoc old (one ∷ two ∷ []) (f a ∷ [])

-- two more elements
pub map_two : {A B : Type 0} (f : A → B) (xs ys zs : List A) (a b : A) → ys ≡ xs ++ a ∷ [] → zs ≡ ys ++ b ∷ [] →
    map f zs ≡ map f xs ++ f a ∷ f b ∷ []
map_two f xs ys zs a b e g =
    ap (map f) (g ∙ ap (λ l. l ++ b ∷ []) e ∙ append_assoc xs (a ∷ []) (b ∷ [])) ∙ map-append f xs (a ∷ b ∷ [])

module _ (program : Typed) (first : ℕ) where
  pub made_at : (edges : List Edge) (i : ℕ) (e : Edge) → AllMakeFirst program first edges → slice_get edges i ≡ Some e →
      IsMade program e (class_of_next first (drop (suc i) edges))
  made_at [] i e all at = absurd cc
  made_at (d ∷ []) zero e all at = let same : d ≡ e = same_Some d e at in rw (← same) all
  made_at (d ∷ []) (suc i) e all at = absurd cc
  made_at (d ∷ f ∷ rest) zero e all at = let same : d ≡ e = same_Some d e at in rw (← same) all.0
  made_at (d ∷ f ∷ rest) (suc i) e all at = made_at (f ∷ rest) i e all.1 at

  -- the notes on an edge come before those on the edges after it
  pub told_ahead : (edges : List Edge) (e : Edge) (rest : List Edge) (usage binding way : Note) (more : List Note) →
      edges ≡ e ∷ rest →
      TellsEdge program e (class_of_next first rest) usage binding → TellsWayOut program e way → TellEdges program first rest more →
      TellEdges program first edges (usage ∷ binding ∷ way ∷ more)
  told_ahead edges e rest usage binding way more is one out others = rw is (one, out, others)

pub cycle_made : (program : Typed) (edges : List Edge) (d : Edge) → IsCycleOf program edges →
    AllMakeFirst program (get_or edges 0 d).class edges
cycle_made program [] d cycle = absurd cycle
cycle_made program (e ∷ rest) d cycle = cycle.1

pub cycle_told : (program : Typed) (edges : List Edge) (d : Edge) (notes : List Note) → IsCycleOf program edges →
    TellEdges program (get_or edges 0 d).class edges notes → AreCycleNotes program edges notes
cycle_told program [] d notes cycle told = absurd cycle
cycle_told program (e ∷ rest) d notes cycle told = told
