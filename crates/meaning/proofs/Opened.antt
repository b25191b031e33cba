-- The initial heap of a program, cell by cell.
use Rattle.std.proofs.Common.{◌≡◌, ℕ, ◌<◌, ◌≤◌, ◌+◌, List, [], ◌∷◌, ◌++◌, length, get_or, map, take, subst, sym, ap}
use Rattle.std.proofs.Common.{◌∙◌}
use Rattle.std.proofs.lemmas.List.{map_more}
use lib.Seq.{take_all}
use Rattle.core_lang.specs.declared.typed.Cell.{Cell}
use Rattle.core_lang.specs.declared.value.Value.{Value}

pub opened_more : (cells items : List Cell) (i : ℕ) (d : Cell) (old new : List Value) → items ≡ cells →
    i < length items →
    old ≡ map (λ (cell : Cell). cell.opening) (take i cells) → new ≡ old ++ (get_or items i d).opening ∷ [] →
    new ≡ map (λ (cell : Cell). cell.opening) (take (i + 1) cells)
opened_more cells items i d old new same lt before pushed =
    pushed
    ∙ ap (λ l. l ++ (get_or items i d).opening ∷ []) before
    ∙ ap (λ cs. map (λ (cell : Cell). cell.opening) (take i cells) ++ (get_or cs i d).opening ∷ []) same
    ∙ sym (map_more (λ (cell : Cell). cell.opening) cells i d (subst (λ cs. i < length cs) same lt))

pub opened : (cells items : List Cell) (i : ℕ) (all : List Value) → items ≡ cells → length items ≤ i →
    all ≡ map (λ (cell : Cell). cell.opening) (take i cells) → all ≡ map (λ (cell : Cell). cell.opening) cells
opened cells items i all same le before =
    before ∙ ap (map (λ (cell : Cell). cell.opening)) (take_all i cells (subst (λ cs. length cs ≤ i) same le))
