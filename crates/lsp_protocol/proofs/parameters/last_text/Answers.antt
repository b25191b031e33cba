use Rattle.std.proofs.Common.{◌≡◌, ◌∙◌, ◌-◌, suc, List, [], ◌∷◌, length, Some, sym, ap, arith, codes, option_and_then}
use Rattle.std.specs.List.{slice_get}
use Rattle.serde_json.specs.Data.{Data}
use Rattle.serde_json.specs.Find.{as_array}
use Rattle.serde_json.specs.View.{view, items_view}
use Rattle.serde_json.specs.declared.value.Value.{Value}
use Rattle.lsp_protocol.specs.Parameters.{text_in, last_of, last_text}
use Rattle.lsp_protocol.proofs.parameters.last_text.Goals as goal

last_found : (vs : List Value) (v : Value) → Some v ≡ slice_get vs (length vs - 1) → last_of (items_view vs) ≡ Some (view v)
last_found [] v is = absurd cc
last_found (w ∷ []) v is = let same : w ≡ v = cc in ap (λ x. Some (view x)) same
last_found (w ∷ x ∷ rest) v is =
    let fewer : suc (suc (length rest)) - 1 ≡ suc (suc (length rest) - 1) = omega arith in
    last_found (x ∷ rest) v (is ∙ ap (slice_get (w ∷ x ∷ rest)) fewer)

found : (changes change : Data) (all : List Value) → last_of (items_view all) ≡ Some change → Some (items_view all) ≡ as_array changes →
    last_text changes ≡ text_in (codes "text") change
found changes change all last is =
    ap (option_and_then (λ ds. option_and_then (text_in (codes "text")) (last_of ds))) (sym is) ∙ ap (option_and_then (text_in (codes "text"))) last

pub returns-in-Some-last : goal.returns-in-Some-last
returns-in-Some-last c =
    let all = c.in-Some.all.now.items in
    let place : Some c.in-Some-last.change.now ≡ slice_get all (length all - 1) =
    c.in-Some-last.ensures.value ∙ ap (λ vs. slice_get vs (length vs - 1)) c.deref.ensures.value in
    c.text_in.ensures ∙ sym (found _ _ all (last_found all c.in-Some-last.change.now place) c.in-Some.ensures)
