use Rattle.std.proofs.Common.{◌≡◌, ◌∙◌, ◌<◌, ◌≤◌, ℕ, suc, List, [], ◌∷◌, Option, None, map, take, length, min}
use Rattle.std.proofs.Common.{refl, sym, ap, ap₂, arith, ⊎_elim}
use Rattle.std.specs.List.{prefix_len}
use Rattle.std.specs.Prelude.{◌++◌, All, false, codes, string_bytes}
use Rattle.std.proofs.lemmas.Bool.{cases_lt}
use Rattle.std.proofs.lemmas.List.{take-take, take_all, length-take}
use Rattle.std.proofs.lemmas.List.Sums.{prefix_len-le-length}
use Rattle.code.specs.Listing.{line}
use Rattle.explanation.specs.Further.{nothing_further}
use Rattle.explanation.specs.Notes.{Note}
use Rattle.explanation.specs.Remedies.{remedy}
use Rattle.serde_json.specs.Data.{Data, array, boolean, object, string, member, no_members}
use Rattle.serde_json.specs.View.{items_of}
use Rattle.serde_json.specs.Written.{compact_text}
use Rattle.source.specs.Codes.{code_name, code_text}
use Rattle.source.specs.declared.fault.Fault.{Fault}
use Rattle.source.specs.Faults.{detail_text}
use Rattle.source.specs.Texts.{is_name_byte}
use Rattle.explanation.specs.Json.{WORD, word_length, end_of, position_data, told_data, note_data, fault_json}
use Rattle.explanation.proofs.json_laws.fault_by_first_bytes.Goals as goal

zero_first : (n : ℕ) → min 0 n ≡ 0
zero_first n = grind arith

-- ---- a text that is longer than the given number of bytes
module _ (n : ℕ) (text : List ℕ) (far : WORD < n) (long : n ≤ length text) where
  as_long : length (take n text) ≡ n
  as_long = omega (arith, length-take n text)

  same_word : word_length (take n text) 0 ≡ word_length text 0
  same_word = ap (prefix_len is_name_byte) (take-take WORD n text (omega arith))

  short : word_length text 0 ≤ WORD
  short = omega (arith, prefix_len-le-length is_name_byte (take WORD text), length-take WORD text)

  same_end : end_of (take n text) 0 ≡ end_of text 0
  same_end =
      rw (zero_first (length (take n text)), zero_first (length text), same_word, as_long) (omega (arith, short))

  near : end_of text 0 ≤ n
  near = rw (zero_first (length text)) (omega (arith, short))

  same_position : (e : ℕ) → e ≤ n → position_data (take n text) e ≡ position_data text e
  same_position e le = rw (take-take e n text le) refl

  same_first : position_data (take n text) 0 ≡ position_data text 0
  same_first = same_position 0 (omega arith)

  same_last : position_data (take n text) (end_of (take n text) 0) ≡ position_data text (end_of text 0)
  same_last = ap (position_data (take n text)) same_end ∙ same_position (end_of text 0) near

-- ---- notes on no place

told_same : (t u : List ℕ) (note : Note) → note.start ≡ None → note_data t note ≡ note_data u note
told_same t u note none =
    ap (λ (start : Option ℕ). told_data t start note.words) none ∙ sym (ap (λ (start : Option ℕ). told_data u start note.words) none)

all_same : (t u : List ℕ) (notes : List Note) → All (λ (note : Note). note.start ≡ None) notes →
    map (note_data t) notes ≡ map (note_data u) notes
all_same t u [] none = refl
all_same t u (note ∷ notes) none =
    ap₂ (λ (d : Data) (ds : List Data). d ∷ ds) (told_same t u note (none 0 note (omega arith))) (all_same t u notes (λ k d lt. none (suc k) d (omega arith)))

-- the JSON object, by where the fault begins and ends
alike : (file t u : List ℕ) (fault : Fault) (notes : List Note) → fault.start ≡ 0 →
    map (note_data t) notes ≡ map (note_data u) notes →
    position_data t 0 ≡ position_data u 0 → position_data t (end_of t 0) ≡ position_data u (end_of u 0) →
    fault_json file t fault notes nothing_further ≡ fault_json file u fault notes nothing_further
alike file t u fault notes first said begin finish =
    let whole = λ (told : List Data) (start last : Data).
    line (compact_text (object (member (codes "accepted") (boolean false)
    (member (codes "code") (string (code_name fault.code))
    (member (codes "end") last
    (member (codes "file") (string file)
    (member (codes "further") (array (items_of []))
    (member (codes "more") (boolean false)
    (member (codes "notes") (array (items_of told))
    (member (codes "remedy") (string (remedy fault.code))
    (member (codes "start") start
    (member (codes "text") (string (code_text fault.code ++ detail_text (string_bytes fault.detail))) no_members)))))))))))) in
    ap (λ (k : ℕ). whole (map (note_data t) notes) (position_data t k) (position_data t (end_of t k))) first
    ∙ ap₂ (whole (map (note_data t) notes)) begin finish
    ∙ ap (λ (told : List Data). whole told (position_data u 0) (position_data u (end_of u 0))) said
    ∙ sym (ap (λ (k : ℕ). whole (map (note_data u) notes) (position_data u k) (position_data u (end_of u k))) first)

pub returns : goal.returns
returns c count file text fault notes far first none =
    ⊎_elim
    (λ (few : length text < count).
    ap (λ (t : List ℕ). fault_json file t fault notes nothing_further) (take_all count text (omega arith)))
    (λ (many : count ≤ length text).
    alike file (take count text) text fault notes first (all_same (take count text) text notes none) (same_first count text far many)
    (same_last count text far many))
    (cases_lt (length text) count)
