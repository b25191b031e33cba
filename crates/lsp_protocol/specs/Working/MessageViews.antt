-- The messages of the code, as the data of `specs/`.
use Rattle.std.specs.Prelude.{ℕ, List, option_map, ⊤}
use Rattle.serde_json.specs.View.{view}
use Rattle.lsp_protocol.specs.declared.calls.Message.{Message}
use Rattle.lsp_protocol.specs.declared.calls.ReadFault.{ReadFault}
use Rattle.lsp_protocol.specs.declared.calls.ReadFault.TheVariants.{NoJson, OutOfMemory}
use Rattle.lsp_protocol.specs.Calls.{Called, IsNoMessage}

abbrev pub view_of_call : Message → Called
view_of_call call = record {
  id = option_map (λ value. view value.now) call.id;
  method = call.method.now;
  params = option_map (λ value. view value.now) call.params;
}

-- the fault is true of the body; if memory ran out, nothing is claimed of the body
abbrev pub IsFault : List ℕ → ReadFault → Type 0
IsFault body NoJson = IsNoMessage body
IsFault body OutOfMemory = ⊤
