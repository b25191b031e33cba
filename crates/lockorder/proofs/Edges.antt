-- Tables of edges.
use Rattle.std.proofs.Common.{◌≡◌, ℕ, false, List, length, inl, inr, ap, ◌∙◌}
use Rattle.std.specs.Prelude.{◌==◌}
use Rattle.std.specs.List.{All}
use Rattle.std.proofs.lemmas.Bool.{cases_lt}
use Rattle.std.proofs.lemmas.List.{get_or_past}
use Rattle.std.proofs.lemmas.List.Elements.{All-get_or}
use Rattle.std.proofs.lemmas.Nat.Bits.{bit_at-zero}
use Rattle.bit_set.specs.declared.set.BitSet.{BitSet}
use Rattle.lockorder.specs.Working.Tables.{no_classes, has_edge}
use Rattle.bit_set.specs.Working.Sets.{has_number}

abbrev pub IsEmpty : BitSet → Type 0
IsEmpty set = (c : ℕ) → has_number set c ≡ false

pub no_edges : (before : List BitSet) → All IsEmpty before → (c d : ℕ) → has_edge before c d ≡ false
no_edges before none c d =
    elim (cases_lt d (length before)) [
      | inl lt ↦ All-get_or IsEmpty before d no_classes lt none c
      | inr ge ↦ ap (λ (s : BitSet). has_number s c) (get_or_past before d no_classes ge) ∙ ap (λ x. x == 1) (bit_at-zero c)
    ]
