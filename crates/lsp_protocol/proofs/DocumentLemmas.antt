-- A document that is set or removed.
use Rattle.std.proofs.Common.{◌≡◌, ◌∙◌, ℕ, List, Bool, true, false, cond, Option, option_map, refl, ap, String, Global, BTreeMap, string_bytes, string_cmp, nat_cmp}
use Rattle.std.proofs.lemmas.Map.Text.{btree_map_updates_text}
use Rattle.std.specs.BTreeMap.{get_by_text, UpdatesBy}
use Rattle.std.specs.Cmp.Lexicographic.{slice_cmp}
use Rattle.std.specs.Str.{bytes_eq}
use Rattle.lsp_protocol.specs.Documents.{IsSetTo}

chosen : (b : Bool) (w x : Option (String Global)) → option_map string_bytes (cond b w x) ≡ cond b (option_map string_bytes w) (option_map string_bytes x)
chosen true w x = refl
chosen false w x = refl

pub set_at : (bs : List ℕ) (m n : BTreeMap (String Global) (String Global)) (w : Option (String Global)) →
    UpdatesBy string_cmp (λ k. slice_cmp nat_cmp bs (string_bytes k)) m n w →
    IsSetTo (λ uri. option_map string_bytes (get_by_text m uri)) (λ uri. option_map string_bytes (get_by_text n uri)) bs (option_map string_bytes w)
set_at bs m n w updates other =
    ap (option_map string_bytes) (btree_map_updates_text bs m n w updates other) ∙ chosen (bytes_eq bs other) w (get_by_text m other)
