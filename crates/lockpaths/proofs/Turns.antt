-- One more section.
use Rattle.std.proofs.Common.{◌≡◌, ℕ, ◌+◌, ◌<◌, true, false, List, [], ◌∷◌, ◌++◌, length, take, get_or, Option, Some}
use Rattle.std.proofs.Common.{None, is_some, refl, sym, ap, ◌∙◌, subst, append-nil}
use Rattle.std.specs.List.{AllZip, flat_map}
use Rattle.std.proofs.lemmas.List.{take_more}
use Rattle.std.proofs.lemmas.Grind.{flat_map-append}
use Rattle.source.specs.declared.mistake.Mistake.{Mistake}
use Rattle.source.specs.Mistakes.{least_of}
use Rattle.source.specs.Theory.Leasts.{least_append}
use Rattle.core_lang.specs.declared.tree.Section.{Section}
use Rattle.core_lang.specs.declared.typed.Typed.{Typed}
use Rattle.locks.specs.Working.Laws.{SamePathDecides, EachPathOnce}
use Rattle.lockpaths.specs.declared.table.SectionPaths.{SectionPaths}
use Rattle.lockpaths.specs.Working.Faulted.{faults_in}
use Rattle.lockpaths.specs.Working.Gathering.{Gathered, gathered_in}
use Rattle.lockpaths.specs.Working.Numbers.{IsFinished, AreEach}
use Rattle.lockpaths.specs.Paths.{AreSectionPaths}
use Rattle.lockpaths.proofs.Faulty.{still_none}
use Rattle.lockpaths.proofs.Used.{IsFound, least_after, found_none}

pub not_some : (o : Option Mistake) → is_some o ≡ false → o ≡ None
not_some None e = refl
not_some (Some f) e = absurd cc

pub not_none : (o : Option Mistake) → is_some o ≡ true → o ≡ None → ⊥
not_none None e h = cc
not_none (Some f) e h = cc

zip_push : {A B : Type 0} (R : A → B → Type 0) (xs : List A) (ys : List B) (x : A) (y : B) → AllZip R xs ys → R x y →
    AllZip R (xs ++ x ∷ []) (ys ++ y ∷ [])
zip_push R [] [] x y z r = (r, tt)
zip_push R [] (w ∷ ys) x y z r = absurd z
zip_push R (v ∷ xs) [] x y z r = absurd z
zip_push R (v ∷ xs) (w ∷ ys) x y z r = (z.0, zip_push R xs ys x y z.1 r)

module _ (program : Typed) (xs : List Section) (i : ℕ) (x : Section) (is : x ≡ get_or xs i x) (h : i < length xs) where
  one_more : take (i + 1) xs ≡ take i xs ++ x ∷ []
  one_more = take_more xs i x h ∙ ap (λ y. take i xs ++ y ∷ []) (sym is)

  least_turn : (least next : Option Mistake) → least ≡ least_of None (flat_map (faults_in program) (take i xs)) →
      next ≡ least_of least (faults_in program x) →
      next ≡ least_of None (flat_map (faults_in program) (take (i + 1) xs))
  least_turn least next before now =
      let all = flat_map (faults_in program) (take i xs) in
      now ∙ ap (λ o. least_of o (faults_in program x)) before ∙ sym (least_append None all (faults_in program x))
      ∙ ap (λ l. least_of None (all ++ l)) (sym (append-nil (faults_in program x)))
      ∙ ap (least_of None) (sym (flat_map-append (faults_in program) (take i xs) (x ∷ [])) ∙ ap (flat_map (faults_in program)) (sym one_more))

  each_turn : (found : List SectionPaths) (y : SectionPaths) → AreEach program (take i xs) found →
      AreSectionPaths program x y → AreEach program (take (i + 1) xs) (found ++ y ∷ [])
  each_turn found y before now =
      subst (λ (l : List Section). AreEach program l (found ++ y ∷ [])) (sym one_more) (zip_push (AreSectionPaths program) (take i xs) found x y before now)

  module _ (decides : SamePathDecides) (once : EachPathOnce) (least : Option Mistake) (g : Gathered) (got : g ≡ gathered_in program x least) (next : Option Mistake) (told : next ≡ g.least) where
    noted : next ≡ least_of least (faults_in program x)
    noted = told ∙ ap (λ (y : Gathered). y.least) got ∙ least_after decides once program x least

    pub least_next : least ≡ least_of None (flat_map (faults_in program) (take i xs)) →
        next ≡ least_of None (flat_map (faults_in program) (take (i + 1) xs))
    least_next before = least_turn least next before noted

    pub each_next : (found more : List SectionPaths) (y : SectionPaths) →
        (least ≡ None → AreEach program (take i xs) found) → IsFinished g y → more ≡ found ++ y ∷ [] → next ≡ None →
        AreEach program (take (i + 1) xs) more
    each_next found more y before finished is none =
        let here : IsFound program x g = found_none decides once program x least g got (sym told ∙ none) in
        subst (λ (l : List SectionPaths). AreEach program (take (i + 1) xs) l) (sym is)
        (each_turn found y (before (still_none least (faults_in program x) (sym noted ∙ none))) (here.finished y finished))
