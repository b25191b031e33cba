-- A jump is written once the instructions that it skips are known.
use Rattle.std.proofs.Common.{◌≡◌, ℕ, ◌+◌, ◌-◌, List, ◌∷◌, ◌++◌, length, ap, ◌∙◌, arith, length-append}
use Rattle.std.specs.Prelude.{slice_set}
use Rattle.std.proofs.Math.Seq.{set-append_seam}
use Rattle.code.specs.declared.instr.Instr.{Instr}

pub landed : (jump : ℕ → Instr) (base tail code new : List Instr) (x : Instr) (place : ℕ) → code ≡ base ++ x ∷ tail →
    place ≡ length base →
    new ≡ slice_set code place (jump (length code - place - 1)) → new ≡ base ++ jump (length tail) ∷ tail
landed jump base tail code new x place is at wrote =
    let long : length code ≡ length base + length (x ∷ tail) = ap length is ∙ length-append base (x ∷ tail) in
    let over : length code - place - 1 ≡ length tail = omega (arith, long, at) in
    wrote
    ∙ ap (λ n. slice_set code place (jump n)) over
    ∙ ap (λ c. slice_set c place (jump (length tail))) is
    ∙ ap (λ k. slice_set (base ++ x ∷ tail) k (jump (length tail))) at
    ∙ set-append_seam base x tail (jump (length tail))
