use Rattle.std.proofs.Common.{◌≡◌, ◌∙◌, ℕ, List, take, ap}
use Rattle.std.specs.List.{list_all, take_while}
use Rattle.report_runs.specs.ExpectationTexts.{is_word_byte}
use Rattle.report_runs.proofs.Words.{front_all}
use Rattle.report_runs.proofs.bytes.split_word.Goals as goal

pub returns-clause-bytes : goal.returns-clause-bytes
returns-clause-bytes c =
    let front : c.split_at.result.0.now ≡ take_while is_word_byte c.args.text.now =
    c.split_at.ensures.front ∙ ap (λ (n : ℕ). take n c.args.text.now) c.word_len.ensures.place in
    ap (λ (w : List ℕ). list_all is_word_byte w) front ∙ front_all is_word_byte c.args.text.now
