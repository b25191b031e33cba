use Rattle.std.proofs.Common.{rules}
use Rattle.driver_words.specs.Commands.{IsCommand, program, with_check, with_explain, with_format, with_order}
use Rattle.driver_words.specs.Commands.{with_listing, with_emit, with_serial, with_outcomes, with_schedule, with_simulate}
use Rattle.driver_words.specs.Commands.{with_trace, with_run, with_replay}
use Rattle.driver_words.proofs.command.command.Goals as goal

pub returns : goal.returns
returns c =
    let top : IsCommand program c.subcommand_required-line.result = search rules in
    let check = with_check program in
    let explain = with_explain check in
    let format = with_format explain in
    let order = with_order format in
    let listing = with_listing order in
    let emit = with_emit listing in
    let serial = with_serial emit in
    let outcomes = with_outcomes serial in
    let schedule = with_schedule outcomes in
    let simulate = with_simulate schedule in
    let trace = with_trace simulate in
    let run = with_run trace in
    let replay = with_replay run in
    let first = c.with_command-line.ensures program _ top c.check_command.ensures in
    let second = c.with_command-line-2.ensures check _ first c.explain_command.ensures in
    let third = c.with_command-line-3.ensures explain _ second c.file_command.ensures in
    let fourth = c.with_command-line-4.ensures format _ third c.file_command-2.ensures in
    let fifth = c.with_command-line-5.ensures order _ fourth c.listing_command.ensures in
    let sixth = c.with_command-line-6.ensures listing _ fifth c.emit_command.ensures in
    let seventh = c.with_command-line-7.ensures emit _ sixth c.serial_command.ensures in
    let eighth = c.with_command-line-8.ensures serial _ seventh c.outcomes_command.ensures in
    let ninth = c.with_command-line-9.ensures outcomes _ eighth c.schedule_command.ensures in
    let tenth = c.with_command-line-10.ensures schedule _ ninth c.simulate_command.ensures in
    let eleventh = c.with_command-line-11.ensures simulate _ tenth c.trace_command.ensures in
    let twelfth = c.with_command-line-12.ensures trace _ eleventh c.run_command.ensures in
    let thirteenth = c.with_command-line-13.ensures run _ twelfth c.replay_command.ensures in
    c.with_command.ensures replay _ thirteenth c.lsp_command.ensures
