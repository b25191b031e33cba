-- The values that references of the code point to.
use Rattle.std.specs.Prelude.{ℕ, List, Option, option_map}
use Rattle.serde_json.specs.Data.{Data}
use Rattle.serde_json.specs.View.{view}
use Rattle.serde_json.specs.declared.value.Value.{Value}
use denote.Ref.{Bor}

abbrev pub text_behind : Option (Bor (List ℕ)) → Option (List ℕ)
text_behind text = option_map (λ (t : Bor (List ℕ)). t.now) text

abbrev pub data_behind : Option (Bor Value) → Option Data
data_behind value = option_map (λ (v : Bor Value). view v.now) value
