use Rattle.std.proofs.Common.{◌∙◌}
use Rattle.std.specs.Str.Parse.{ParsesUnsigned, ExplainsUnsignedError, HasUnsignedDigitsIfOk}
use Rattle.clap.proofs.WalkLemmas.{one_text-rows}
use Rattle.clap.specs.Words.{found_of}
use Rattle.driver_words.proofs.GetterLemmas.{choice_read}
use Rattle.driver_words.proofs.reading.choice.Goals as goal

pub returns : goal.returns
returns c =
    record {
      given = λ text is_text numeral small.
          choice_read (λ bs r. ParsesUnsigned 64 10 bs r × ExplainsUnsignedError 10 bs r × HasUnsignedDigitsIfOk bs r) (λ t r g. g.0) text c.get_one.result
          (c.get_one.ensures.value text (one_text-rows (found_of c.args.matches.now) c.args.id.now ∙ is_text)) numeral small;
      default = λ none. c.get_one.ensures.none (one_text-rows (found_of c.args.matches.now) c.args.id.now ∙ none);
    }
