-- Which JSON is a request or a notification (JSON-RPC 2.0).
use Rattle.std.specs.Prelude.{◌≡◌, ℕ, Bool, true, false, not, List, codes, Option, Some, None, option_and_then, if◌then◌else◌}
use Rattle.std.specs.Str.{IsUtf8}
use Rattle.serde_json.specs.Data.{Data, null, boolean, number, string, array, object}
use Rattle.serde_json.specs.Find.{get, as_str, is_float}
use Rattle.serde_json.specs.Read.{read}

-- the body of a frame is this JSON
abbrev pub IsMessage : List ℕ → Data → Type 0
IsMessage body message = IsUtf8 body × (read body ≡ Some message)

-- the body of a frame is not JSON
abbrev pub IsNoMessage : List ℕ → Type 0
IsNoMessage body = IsUtf8 body → read body ≡ None

-- the data is an integer or a string
abbrev pub is_id : Data → Bool
is_id null = false
is_id (boolean b) = false
is_id (number n) = not (is_float n)
is_id (string s) = true
is_id (array ds) = false
is_id (object ms) = false

-- a request or a notification, which has no id
pub record Called : Type 0 where
  pub id : Option Data
  pub method : List ℕ
  pub params : Option Data

-- the id is valid, or there is none
abbrev pub fits : Option Data → Bool
fits None = true
fits (Some id) = is_id id

-- the call in a message, if it is one
abbrev pub call_of : Data → Option Called
call_of message = option_and_then (λ method.
    if fits (get (codes "id") message) then Some (record { id = get (codes "id") message; method = method; params = get (codes "params") message }) else None)
    (option_and_then as_str (get (codes "method") message))

-- the id, if it is valid
abbrev pub id_in : Option Data → Option Data
id_in None = None
id_in (Some id) = if is_id id then Some id else None

-- the id of the response to a message that is not a call
abbrev pub id_of : Data → Option Data
id_of message = id_in (get (codes "id") message)
