-- Notes on the order of classes put together.
use Rattle.std.proofs.Common.{◌≡◌, ◌∙◌, ◌++◌, List, [], ◌∷◌, map, refl, sym, ap, append_assoc}
use Rattle.std.proofs.lemmas.List.{map-append, append-nil}
use Rattle.core_lang.specs.declared.typed.Typed.{Typed}
use Rattle.explanation.specs.declared.note.Note as written
use Rattle.explanation.specs.Notes.{Note, note_of}
use Rattle.lockorder.specs.declared.ranks.ClassPair.{ClassPair}
use Rattle.explanations.specs.OrderNotes.{pair_note, TellPairs}
use Rattle.explanations.specs.Working.Tellers.{AddsPair, AddsPairs}

-- one more element, before the remaining ones
pub map_one_more : {A B : Type 0} (f : A → B) (xs ys : List A) (a : A) (b : B) (rest : List B) → ys ≡ xs ++ a ∷ [] →
    f a ≡ b →
    map f ys ++ rest ≡ map f xs ++ b ∷ rest
map_one_more f xs ys a b rest e g =
    ap (λ l. map f l ++ rest) e ∙ ap (λ l. l ++ rest) (map-append f xs (a ∷ [])) ∙ append_assoc (map f xs) (f a ∷ []) rest
    ∙ ap (λ h. map f xs ++ h ∷ rest) g

module _ (program : Typed) where
  -- the note on a pair comes before those on its edge
  pub pair_added : (pair : ClassPair) (old between new : List written.Note) (order : written.Note) (usage binding : Note) →
      between ≡ old ++ order ∷ [] → note_of order ≡ pair_note program pair → map note_of new ≡ map note_of between ++ usage ∷ binding ∷ [] →
      map note_of new ≡ map note_of old ++ pair_note program pair ∷ usage ∷ binding ∷ []
  pair_added pair old between new order usage binding e is added =
      added ∙ map_one_more note_of old between order (pair_note program pair) (usage ∷ binding ∷ []) e is

  -- the notes on the remaining pairs complete the notes on all
  abbrev pub Completes : List ClassPair → List ClassPair → List Note → List Note → Type 0
  Completes pairs left old now =
      (more : List Note) → TellPairs program left more → (told : List Note) × (now ++ more ≡ old ++ told) × TellPairs program pairs told

  pub none_yet : (pairs : List ClassPair) (old : List Note) → Completes pairs pairs old old
  none_yet pairs old more tell = (more, refl, tell)

  pub one_more : (pairs left rest : List ClassPair) (pair : ClassPair) (old : List Note) (now new : List written.Note) →
      left ≡ pair ∷ rest → Completes pairs left old (map note_of now) → AddsPair program pair now new →
      Completes pairs rest old (map note_of new)
  one_more pairs left rest pair old now new is whole adds more tell =
      let ahead : TellPairs program left (pair_note program pair ∷ adds.usage ∷ adds.binding ∷ more) = rw is (refl, adds.tells, tell) in
      let w = whole (pair_note program pair ∷ adds.usage ∷ adds.binding ∷ more) ahead in (
        w.0,
        ap (λ l. l ++ more) adds.added
            ∙ append_assoc (map note_of now) (pair_note program pair ∷ adds.usage ∷ adds.binding ∷ []) more ∙ w.1,
        w.2,
      )

  pub all_added : (pairs left : List ClassPair) (old new : List written.Note) → left ≡ [] →
      Completes pairs left (map note_of old) (map note_of new) → AddsPairs program pairs old new
  all_added pairs left old new none whole =
      let w = whole [] (rw none tt) in
      record { told = w.0; added = sym (append-nil (map note_of new)) ∙ w.1; tell = w.2 }
