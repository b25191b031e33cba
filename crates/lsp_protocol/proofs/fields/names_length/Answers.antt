use Rattle.std.proofs.Common.{◌≡◌, ◌∙◌, ℕ, Bool, List, length, take, min, map, ap, sym, arith}
use Rattle.std.proofs.lemmas.Bool.Decides.{same_from_decides}
use Rattle.std.proofs.lemmas.List.{take_min}
use Rattle.std.proofs.lemmas.Slice.Eq.{bytes_eq-Decides}
use Rattle.std.specs.Bool.{Decides}
use Rattle.std.specs.Char.{to_ascii_lowercase}
use Rattle.lsp_protocol.specs.Headers.{NAME}
use Rattle.lsp_protocol.proofs.fields.names_length.Goals as goal

shown : (text : List ℕ) (n : ℕ) → n ≡ min (length text) 15 → map to_ascii_lowercase (take n text) ≡ map to_ascii_lowercase (take 15 text)
shown text n is =
    let same : n ≡ min 15 (length text) = omega arith in
    ap (λ k. map to_ascii_lowercase (take k text)) same ∙ ap (map to_ascii_lowercase) (take_min 15 text)

judged : (text : List ℕ) (n : ℕ) (r : Bool) → n ≡ min (length text) 15 → Decides r (map to_ascii_lowercase (take n text) ≡ NAME) →
    Decides r (map to_ascii_lowercase (take 15 text) ≡ NAME)
judged text n r is h = (λ yes. sym (shown text n is) ∙ h.0 yes, λ same. h.1 (shown text n is ∙ same))

pub returns : goal.returns
returns c =
    same_from_decides _ _ (judged c.args.text.now c.min.result _ c.min.ensures c.eq_ignore_ascii_case.ensures.test)
    (bytes_eq-Decides (map to_ascii_lowercase (take 15 c.args.text.now)) NAME)
