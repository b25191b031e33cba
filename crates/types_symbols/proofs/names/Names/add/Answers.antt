use Rattle.std.proofs.Common.{◌≡◌, ◌∙◌, ap, Some, None, string_bytes, rules, List, ℕ}
use Rattle.std.specs.Map.{update}
use Rattle.std.specs.Rc.{rc_str_bytes}
use Rattle.std.specs.Str.{bytes_eq}
use Rattle.std.proofs.lemmas.Map.Text.{hash_map_updates_text}
use Rattle.types_symbols.specs.Working.Found.{found}
use Rattle.types_symbols.proofs.Tables.{table-first}
use Rattle.types_symbols.proofs.names.Names.add.Goals as goal

pub returns : goal.returns
returns c = λ q.
    let same : string_bytes c.in_ok-key.key ≡ rc_str_bytes c.args.name.now = search rules in
    let none : found c.args.self.now (rc_str_bytes c.args.name.now) ≡ None = search rules in
    hash_map_updates_text (string_bytes c.in_ok-key.key) c.args.self.now.places c.insert.new.self (Some c.args.place) c.in_ok-insert.ensures.updates q
    ∙ ap (λ (k : List ℕ). update bytes_eq (found c.args.self.now) k (Some c.args.place) q) same ∙ table-first (found c.args.self.now) (rc_str_bytes c.args.name.now) q c.args.place none
