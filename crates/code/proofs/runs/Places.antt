-- Instructions at a place of a code.
use Rattle.std.proofs.Common.{◌≡◌, ℕ, ◌+◌, ◌<◌, List, [], ◌∷◌, ◌++◌, length, Some, ap, ◌∙◌, subst, arith}
use Rattle.std.proofs.Common.{append_assoc, length-append}
use Rattle.std.specs.Prelude.{slice_get}
use Rattle.std.proofs.Math.Seq.{get_or-append_seam}
use Rattle.std.proofs.lemmas.Option.{slice_get-get_or}
use Rattle.code.specs.declared.instr.Instr.{Instr}

-- the code has these instructions from a place up to another
abbrev pub HasAt : List Instr → ℕ → List Instr → ℕ → Type 0
HasAt code place [] end = place ≡ end
HasAt code place (i ∷ is) end = (slice_get code place ≡ Some i) × HasAt code (place + 1) is end

pub has_front : (code : List Instr) (place end : ℕ) (a b : List Instr) → HasAt code place (a ++ b) end →
    HasAt code place a (place + length a)
has_front code place end [] b h = let e : place ≡ place + 0 = omega arith in e
has_front code place end (i ∷ a) b h =
    let e : place + 1 + length a ≡ place + length (i ∷ a) = omega arith in
    (h.0, subst (HasAt code (place + 1) a) e (has_front code (place + 1) end a b h.1))

pub has_back : (code : List Instr) (place end : ℕ) (a b : List Instr) → HasAt code place (a ++ b) end →
    HasAt code (place + length a) b end
has_back code place end [] b h = let e : place ≡ place + 0 = omega arith in subst (λ p. HasAt code p b end) e h
has_back code place end (i ∷ a) b h =
    let e : place + 1 + length a ≡ place + length (i ∷ a) = omega arith in
    subst (λ p. HasAt code p b end) e (has_back code (place + 1) end a b h.1)

pub has_length : (code : List Instr) (place end : ℕ) (is : List Instr) → HasAt code place is end →
    place + length is ≡ end
has_length code place end [] h = omega (arith, h)
has_length code place end (i ∷ is) h = let rest = has_length code (place + 1) end is h.1 in omega (arith, rest)

pub has_all : (is pre : List Instr) → HasAt (pre ++ is) (length pre) is (length (pre ++ is))
has_all [] pre = let e : length pre ≡ length (pre ++ []) = omega (arith, length-append pre []) in e
has_all (i ∷ is) pre =
    let within : length pre < length (pre ++ i ∷ is) = omega (arith, length-append pre (i ∷ is)) in
    let here = slice_get-get_or (pre ++ i ∷ is) (length pre) i within ∙ ap Some (get_or-append_seam pre i is i) in
    let n : length (pre ++ i ∷ []) ≡ length pre + 1 = omega (arith, length-append pre (i ∷ [])) in
    let rest = subst (λ l. HasAt l (length (pre ++ i ∷ [])) is (length l)) (append_assoc pre (i ∷ []) is) (has_all is (pre ++ i ∷ [])) in
    (here, subst (λ p. HasAt (pre ++ i ∷ is) p is (length (pre ++ i ∷ is))) n rest)
