use Rattle.std.proofs.Common.{◌∙◌, ℕ, List, [], Option, ap}
use Rattle.std.specs.Prelude.{unwrap_or}
use Rattle.std.specs.Borrow.{Bor}
use Rattle.clap.proofs.WalkLemmas.{first_value-rows}
use Rattle.clap.specs.Words.{found_of}
use Rattle.driver_words.proofs.GetterLemmas.{now-unwrap_or}
use Rattle.driver_words.proofs.reading.name.Goals as goal

pub returns : goal.returns
returns c =
    ap (λ (s : Bor (List ℕ)). s.now) c.unwrap_or.ensures ∙ now-unwrap_or c.get_str.result _
    ∙ ap (λ (o : Option (List ℕ)). unwrap_or o []) (c.get_str.ensures ∙ first_value-rows (found_of c.args.matches.now) c.args.id.now)
