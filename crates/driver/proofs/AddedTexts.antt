-- Two texts that are added, one after the other.
use Rattle.std.proofs.Common.{◌∙◌, ℕ, List, ◌++◌, ap, append_assoc, Result, Ok, Err, String, string_bytes}
use Rattle.std.specs.Prelude.{OnOk}
use Rattle.locks.specs.Texts.{AddsText}

pub both_added : {T E Z : Type 0} (result : Result T E) (first second : List ℕ) (old mid new : String Z) → AddsText first old mid →
    OnOk result (AddsText second mid new) → OnOk result (AddsText (first ++ second) old new)
both_added (Ok value) first second old mid new added more =
    more ∙ ap (λ (b : List ℕ). b ++ second) added ∙ append_assoc (string_bytes old) first second
both_added (Err error) first second old mid new added more = tt
