use Rattle.std.specs.Prelude.{codes}
use Rattle.driver_words.specs.Commands.{with_file, with_answers, with_cells, with_count, with_full, with_seed, with_turns}
use Rattle.driver_words.proofs.CommandLemmas.{added}
use Rattle.driver_words.proofs.command.outcomes_command.Goals as goal

pub returns : goal.returns
returns c =
    let one = added _ _ _ _ (with_file (codes "outcomes")) c.with_argument-command.ensures c.count_argument.ensures.rule c.file_command-command.ensures in
    let two = added _ _ _ _ (with_count (with_file (codes "outcomes"))) c.with_argument-command-2.ensures c.seed_argument.ensures.rule one in
    let three = added _ _ _ _ (with_seed (with_count (with_file (codes "outcomes")))) c.with_argument-command-3.ensures c.turns_argument.ensures.rule two in
    let four = added _ _ _ _ (with_turns (with_seed (with_count (with_file (codes "outcomes"))))) c.with_argument-command-4.ensures c.cells_argument.ensures.rule three in
    let five = added _ _ _ _ (with_cells (with_turns (with_seed (with_count (with_file (codes "outcomes")))))) c.with_argument-command-5.ensures c.flag_argument.ensures.rule four in
    let six = added _ _ _ _ (with_answers (with_cells (with_turns (with_seed (with_count (with_file (codes "outcomes"))))))) c.with_argument-command-6.ensures c.flag_argument-2.ensures.rule five in
    added _ _ _ _ (with_full (with_answers (with_cells (with_turns (with_seed (with_count (with_file (codes "outcomes")))))))) c.with_argument.ensures c.expect_argument.ensures.rule six
