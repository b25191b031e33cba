-- Instructions at a place of the code.
use Rattle.std.proofs.Common.{◌≡◌, ℕ, ◌+◌, ◌<◌, List, [], ◌∷◌, ◌++◌, length, Some, ap, ◌∙◌, subst, arith}
use Rattle.std.proofs.Common.{append_assoc, length-append}
use Rattle.std.proofs.Math.Seq.{get_or-append_seam}
use Rattle.std.proofs.lemmas.Option.{slice_get-get_or}
use Rattle.code.specs.declared.instr.Instr.{Instr}
use Rattle.code.specs.Working.Spots.{HasAt}

pub has_front : (code : List Instr) (place : ℕ) (a b : List Instr) → HasAt code place (a ++ b) → HasAt code place a
has_front code place [] b h = tt
has_front code place (i ∷ a) b h = (h.0, has_front code (place + 1) a b h.1)

pub has_back : (code : List Instr) (place : ℕ) (a b : List Instr) → HasAt code place (a ++ b) →
    HasAt code (place + length a) b
has_back code place [] b h = let e : place ≡ place + 0 = omega arith in subst (λ n. HasAt code n b) e h
has_back code place (i ∷ a) b h =
    let e : place + 1 + length a ≡ place + length (i ∷ a) = omega arith in
    subst (λ n. HasAt code n b) e (has_back code (place + 1) a b h.1)

pub has_both : (code : List Instr) (place : ℕ) (a b : List Instr) → HasAt code place a →
    HasAt code (place + length a) b → HasAt code place (a ++ b)
has_both code place [] b h k = let e : place + 0 ≡ place = omega arith in subst (λ n. HasAt code n b) e k
has_both code place (i ∷ a) b h k =
    let e : place + length (i ∷ a) ≡ place + 1 + length a = omega arith in
    (h.0, has_both code (place + 1) a b h.1 (subst (λ n. HasAt code n b) e k))

pub has_all : (is pre : List Instr) → HasAt (pre ++ is) (length pre) is
has_all [] pre = tt
has_all (i ∷ is) pre =
    let within : length pre < length (pre ++ i ∷ is) = omega (arith, length-append pre (i ∷ is)) in
    let here = slice_get-get_or (pre ++ i ∷ is) (length pre) i within ∙ ap Some (get_or-append_seam pre i is i) in
    let n : length (pre ++ i ∷ []) ≡ length pre + 1 = omega (arith, length-append pre (i ∷ [])) in
    let rest = has_all is (pre ++ i ∷ []) in
    let rest' = subst (λ l. HasAt l (length (pre ++ i ∷ [])) is) (append_assoc pre (i ∷ []) is) rest in
    (here, subst (λ m. HasAt (pre ++ i ∷ is) m is) n rest')
