use Rattle.std.proofs.Common.{◌∙◌}
use Rattle.clap.proofs.WalkLemmas.{one_text-rows}
use Rattle.clap.specs.Words.{found_of}
use Rattle.driver_words.proofs.reading.flag.Goals as goal

pub returns : goal.returns
returns c =
    let rows = one_text-rows (found_of c.args.matches.now) c.args.id.now in
    record {
      given = λ is. c.get_flag.ensures.value (rows ∙ is);
      withheld = λ is. c.get_flag.ensures.other (rows ∙ is);
      default = λ is. c.get_flag.ensures.none (rows ∙ is);
    }
