-- The first of the first faults of a list is the least.
use Rattle.std.proofs.Common.{◌≡◌, ℕ, suc, zero, List, [], ◌∷◌, take, Option, Some, None, Bool, true, false, refl, sym, ap, ◌∙◌, if◌then◌else◌}
use Rattle.resolution.specs.declared.finding.Finding.{Finding}
use Rattle.resolution.specs.Working.Findings.{Firsts, goes_ahead, lesser, least_of, first_of, first, placed, with_found, found_in}
use Rattle.resolution.specs.Theory.Leasts.{some_least}

head_by : (x y : Bool) (g h : Finding) (hs : List Finding) →
    first_of (if x then g ∷ h ∷ hs else if y then h ∷ placed g hs else h ∷ hs) ≡ (if x then Some g else Some h)
head_by true y g h hs = refl
head_by false true g h hs = refl
head_by false false g h hs = refl

head_placed : (g : Finding) (fs : List Finding) → first_of (placed g fs) ≡ lesser (first_of fs) g
head_placed g [] = refl
head_placed g (h ∷ hs) = head_by (goes_ahead g h) (goes_ahead h g) g h hs

head_taken : (n : ℕ) (fs : List Finding) → first_of (take (suc n) fs) ≡ first_of fs
head_taken n [] = refl
head_taken n (f ∷ fs) = refl

pub first_found : (s : Firsts) (gs : List Finding) → first (found_in s gs) ≡ least_of (first s) gs
first_found s [] = refl
first_found s (g ∷ gs) =
    first_found (with_found s g) gs
    ∙ ap (λ (o : Option Finding). least_of o gs) (head_taken 19 (placed g s.kept) ∙ head_placed g s.kept)

none_before : (f : Option Finding) (gs : List Finding) → least_of f gs ≡ None → f ≡ None
none_before None gs e = refl
none_before (Some f) gs e = absurd (some_least f gs e)

-- if no fault is first now, none was before
pub was_none : (s : Firsts) (gs : List Finding) → first (found_in s gs) ≡ None → first s ≡ None
was_none s gs e = none_before (first s) gs (sym (first_found s gs) ∙ e)
