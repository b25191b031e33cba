-- Sets of numbers that are cut at the ends of points.
use Rattle.std.proofs.Common.{◌≡◌, ℕ, ◌+◌, ◌-◌, ◌<◌, ◌≤◌, List, [], ◌∷◌, ◌++◌, length, take, drop, get_or, sym, ap}
use Rattle.std.proofs.Common.{◌∙◌, subst, append_assoc, add-one}
use Rattle.std.proofs.Math.Seq.{drop-cons}
use Rattle.std.specs.List.{AllZip}
use Rattle.locks.specs.declared.path_set.PathSet.{PathSet}
use Rattle.lockpaths.specs.Working.Numbers.{IsSetOf, cut, AreRising}

end_at : (ends : List ℕ) (i : ℕ) → i < length ends → drop i ends ≡ get_or ends i 0 ∷ drop (i + 1) ends
end_at ends i h = rw (add-one, drop-cons ends i 0)

pub rising_at : (start limit : ℕ) (ends : List ℕ) (i : ℕ) → AreRising start limit (drop i ends) → i < length ends →
    (start ≤ get_or ends i 0) × (get_or ends i 0 ≤ limit) × AreRising (get_or ends i 0) limit (drop (i + 1) ends)
rising_at start limit ends i rising h = subst (AreRising start limit) (end_at ends i h) rising

-- the set of one point more
pub cut_more : (numbers ends : List ℕ) (i start : ℕ) (sets sets' : List PathSet) (set : PathSet) → i < length ends →
    ((more : List PathSet) → AllZip IsSetOf more (cut start numbers (drop i ends)) → AllZip IsSetOf (sets ++ more) (cut 0 numbers ends)) →
    IsSetOf set (take (get_or ends i 0 - start) (drop start numbers)) → sets' ≡ sets ++ set ∷ [] → (more : List PathSet) →
    AllZip IsSetOf more (cut (get_or ends i 0) numbers (drop (i + 1) ends)) → AllZip IsSetOf (sets' ++ more) (cut 0 numbers ends)
cut_more numbers ends i start sets sets' set h all is same more rest =
    subst (λ (l : List PathSet). AllZip IsSetOf l (cut 0 numbers ends)) (sym (ap (λ l. l ++ more) same ∙ append_assoc sets (set ∷ []) more))
    (all (set ∷ more) (subst (λ (l : List ℕ). AllZip IsSetOf (set ∷ more) (cut start numbers l)) (sym (end_at ends i h)) (is, rest)))
