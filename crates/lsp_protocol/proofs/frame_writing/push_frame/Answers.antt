use Rattle.std.proofs.Common.{◌≡◌, ◌∙◌, ◌++◌, ◌∷◌, [], ℕ, List, length, append_assoc, ap}
use Rattle.std.specs.Prelude.{codes, decimal}
use Rattle.lsp_protocol.proofs.frame_writing.push_frame.Goals as goal

joined : (out one two header body whole : List ℕ) → one ≡ out ++ header → two ≡ one ++ body → header ≡ whole → two ≡ out ++ (whole ++ body)
joined out one two header body whole first second is =
    second ∙ ap (λ l. l ++ body) (first ∙ ap (λ l. out ++ l) is) ∙ append_assoc out whole body

pub returns : goal.returns
returns c =
    joined c.args.out.now.items c.extend_from_slice.new.self.items _ _ _ (codes "Content-Length: " ++ decimal (length c.args.body.now) ++ 13 ∷ 10 ∷ 13 ∷ 10 ∷ [])
    c.in_ok-extend_from_slice.ensures.items c.in_ok-extend_from_slice-2.ensures.items (c.as_bytes.ensures.value ∙ c.in_ok-header.ensures.ok)
