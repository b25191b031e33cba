-- One warning more, and one further fault more.
use Rattle.std.proofs.Common.{◌≡◌, ◌∙◌, ◌<◌, ◌+◌, ◌++◌, ◌∷◌, [], ℕ, List, map, take, length, get_or, refl, zero, suc, arith, sym, ap, ap₂}
use Rattle.std.proofs.lemmas.List.{map_push, take_more}
use Rattle.explanation.specs.Warnings.{warning_of}
use Rattle.explanation.specs.declared.warning.Warning as written
use Rattle.serde_json.specs.Data.{Data}
use Rattle.serde_json.specs.View.{view}
use Rattle.serde_json.specs.declared.value.Value.{Value}
use Rattle.source.specs.declared.mistake.Mistake.{Mistake}
use Rattle.language_server.specs.Diagnostics.{further_data, warning_data}

abbrev pub warned : List ℕ → List written.Warning → List Data
warned text warnings = map (warning_data text) (map warning_of warnings)

pub one_more : (text : List ℕ) (warnings : List written.Warning) (i : ℕ) (w : written.Warning)
    (values new : List Value) (value : Value) → i < length warnings → w ≡ get_or warnings i w →
    map view values ≡ warned text (take i warnings) → new ≡ values ++ value ∷ [] →
    view value ≡ warning_data text (warning_of w) → map view new ≡ warned text (take (i + 1) warnings)
one_more text warnings i w values new value lt is so_far pushed told =
    let more = take_more warnings i w lt ∙ ap (λ (x : written.Warning). take i warnings ++ x ∷ []) (sym is) in
    ap (map view) pushed ∙ map_push view values value
    ∙ ap₂ (λ (ds : List Data) (d : Data). ds ++ d ∷ []) so_far told
    ∙ sym (ap (warned text) more ∙ ap (map (warning_data text)) (map_push warning_of (take i warnings) w)
    ∙ map_push (warning_data text) (map warning_of (take i warnings)) (warning_of w))

-- an item of a list does not depend on the default for indices past the end
same_item : (faults : List Mistake) (i : ℕ) (d e : Mistake) → i < length faults → get_or faults i d ≡ get_or faults i e
same_item [] i d e lt = absurd (omega arith)
same_item (f ∷ fs) zero d e lt = refl
same_item (f ∷ fs) (suc i) d e lt = same_item fs i d e (omega arith)

-- one further fault more
pub one_further : (text : List ℕ) (faults : List Mistake) (i : ℕ) (d : Mistake) (values new : List Value) (value : Value) →
    i < length faults → map view values ≡ map (further_data text) (take i faults) → new ≡ values ++ value ∷ [] →
    view value ≡ further_data text (get_or faults i d) → map view new ≡ map (further_data text) (take (i + 1) faults)
one_further text faults i d values new value lt so_far pushed told =
    let f = get_or faults i d in
    let more = take_more faults i f lt ∙ ap (λ (x : Mistake). take i faults ++ x ∷ []) (same_item faults i f d lt) in
    ap (map view) pushed ∙ map_push view values value
    ∙ ap₂ (λ (ds : List Data) (x : Data). ds ++ x ∷ []) so_far told
    ∙ sym (ap (map (further_data text)) more ∙ map_push (further_data text) (take i faults) f)
