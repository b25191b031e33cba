-- The commands, as clap's definitions see them.
use Rattle.std.specs.Prelude.{◌≡◌, [], ◌∷◌, Some, true, false, codes, Result, IfOk}
use Rattle.clap.specs.Words.{App, Rule, Text, app_of, new_app, new_rule, with_rule, with_subcommand}
use Rattle.clap.specs.declared.builder.action.ArgAction.TheVariants.{SetTrue}
use Rattle.clap.specs.declared.builder.command.Command.{Command}
use Rattle.clap.specs.declared.builder.command.Command.TheViews.{out-Command}
use Rattle.clap.specs.declared.builder.value_parser.ValueParser.TheVariants as vp

-- a required file name
abbrev pub file_rule : Text → Rule
file_rule id = record (new_rule id) { required = true }

-- an option with a number from 0 to 1000000000, and its default
abbrev pub number_rule : Text → Text → Rule
number_rule id default = record (new_rule id) {
  long = Some id;
  value_names = 1;
  defaults = default ∷ [];
  parser = Some (vp.Unsigned 0 1000000000);
}

-- --turns N, by default 1000000
abbrev pub turns_rule : Rule
turns_rule = number_rule (codes "turns") (codes "1000000")

-- --count N, by default 100000
abbrev pub count_rule : Rule
count_rule = number_rule (codes "count") (codes "100000")

-- --seed N, by default 0
abbrev pub seed_rule : Rule
seed_rule = number_rule (codes "seed") (codes "0")

-- a flag
abbrev pub flag_rule : Text → Rule
flag_rule id = record (new_rule id) { long = Some id; action = Some SetTrue }

-- --prefix NAME, by default al
abbrev pub prefix_rule : Rule
prefix_rule = record (new_rule (codes "prefix")) {
  long = Some (codes "prefix");
  value_names = 1;
  defaults = codes "al" ∷ [];
}

-- an option with a number from 0 to 1000000000, which may be left out
abbrev pub choice_rule : Text → Rule
choice_rule id = record (new_rule id) {
  long = Some id;
  value_names = 1;
  parser = Some (vp.Unsigned 0 1000000000);
}

-- --times N, from 1 to 1000000
abbrev pub times_rule : Rule
times_rule = record (new_rule (codes "times")) {
  long = Some (codes "times");
  value_names = 1;
  parser = Some (vp.Unsigned 1 1000000);
}

-- --length N, by default 100
abbrev pub length_rule : Rule
length_rule = number_rule (codes "length") (codes "100")

-- --color WHEN, by default auto
abbrev pub color_rule : Rule
color_rule = record (new_rule (codes "color")) {
  long = Some (codes "color");
  value_names = 1;
  defaults = codes "auto" ∷ [];
}

-- --expect COMPARISON
abbrev pub expect_rule : Rule
expect_rule = record (new_rule (codes "expect")) { long = Some (codes "expect"); value_names = 1 }

-- --cells NAMES
abbrev pub cells_rule : Rule
cells_rule = record (new_rule (codes "cells")) { long = Some (codes "cells"); value_names = 1 }

-- a command over one file
abbrev pub with_file : Text → App
with_file name = with_rule (new_app name) (file_rule (codes "FILE"))

-- a command that also takes --turns N
abbrev pub with_turns : App → App
with_turns app = with_rule app turns_rule

-- a command that also takes --count N
abbrev pub with_count : App → App
with_count app = with_rule app count_rule

-- a command that also takes --seed N
abbrev pub with_seed : App → App
with_seed app = with_rule app seed_rule

-- a command that also takes --cells NAMES
abbrev pub with_cells : App → App
with_cells app = with_rule app cells_rule

-- a command that also takes --answers
abbrev pub with_answers : App → App
with_answers app = with_rule app (flag_rule (codes "answers"))

-- a command that also takes --full
abbrev pub with_full : App → App
with_full app = with_rule app (flag_rule (codes "full"))

-- a command that also takes a steps file
abbrev pub with_steps : App → App
with_steps app = with_rule app (file_rule (codes "STEPS"))

-- a command that also takes a history file
abbrev pub with_history : App → App
with_history app = with_rule app (file_rule (codes "HISTORY"))

-- a command that also takes --why
abbrev pub with_why : App → App
with_why app = with_rule app (flag_rule (codes "why"))

-- a command that also takes --open
abbrev pub with_open : App → App
with_open app = with_rule app (flag_rule (codes "open"))

-- a command that also takes --sections
abbrev pub with_sections : App → App
with_sections app = with_rule app (flag_rule (codes "sections"))

-- a command that also takes --json
abbrev pub with_json : App → App
with_json app = with_rule app (flag_rule (codes "json"))

-- a command that also takes --color WHEN
abbrev pub with_color : App → App
with_color app = with_rule app color_rule

-- a command that also takes --all
abbrev pub with_all : App → App
with_all app = with_rule app (flag_rule (codes "all"))

-- a command that also takes --expect COMPARISON
abbrev pub with_expect : App → App
with_expect app = with_rule app expect_rule

-- a command that also takes --seed N, which may be left out
abbrev pub with_seed_choice : App → App
with_seed_choice app = with_rule app (choice_rule (codes "seed"))

-- a command that also takes --times N
abbrev pub with_times : App → App
with_times app = with_rule app times_rule

-- a command that also takes --length N
abbrev pub with_length : App → App
with_length app = with_rule app length_rule

-- a command that also takes --worst
abbrev pub with_worst : App → App
with_worst app = with_rule app (flag_rule (codes "worst"))

-- a command that also takes --changed
abbrev pub with_changed : App → App
with_changed app = with_rule app (flag_rule (codes "changed"))

-- a command that also takes --source
abbrev pub with_source : App → App
with_source app = with_rule app (flag_rule (codes "source"))

-- a command that also takes --places
abbrev pub with_places : App → App
with_places app = with_rule app (flag_rule (codes "places"))

-- a command that also takes --header
abbrev pub with_header : App → App
with_header app = with_rule app (flag_rule (codes "header"))

-- a command that also takes --prefix NAME
abbrev pub with_prefix : App → App
with_prefix app = with_rule app prefix_rule

-- a command that also takes --lines
abbrev pub with_lines : App → App
with_lines app = with_rule app (flag_rule (codes "lines"))

-- a command that must have a subcommand
abbrev pub needs_subcommand : App → App
needs_subcommand app = record app { top = record app.top { subcommand_required = true } }

-- a command with a version
abbrev pub with_version : App → App
with_version app = record app { top = record app.top { has_version = true } }

-- the program's own name, a version, and a required subcommand
abbrev pub program : App
program = needs_subcommand (with_version (new_app (codes "autolock")))

-- autolock check [--source] FILE
abbrev pub with_check : App → App
with_check app = with_subcommand app (with_source (with_file (codes "check"))).top

-- autolock explain [--json] [--color WHEN] FILE
abbrev pub with_explain : App → App
with_explain app = with_subcommand app (with_color (with_json (with_file (codes "explain")))).top

-- autolock format FILE
abbrev pub with_format : App → App
with_format app = with_subcommand app (with_file (codes "format")).top

-- autolock order FILE
abbrev pub with_order : App → App
with_order app = with_subcommand app (with_file (codes "order")).top

-- autolock listing [--places] FILE
abbrev pub with_listing : App → App
with_listing app = with_subcommand app (with_places (with_file (codes "listing"))).top

-- autolock emit [--header] [--prefix NAME] [--lines] FILE
abbrev pub with_emit : App → App
with_emit app = with_subcommand app (with_lines (with_prefix (with_header (with_file (codes "emit"))))).top

-- autolock serial [--turns N] [--changed] FILE
abbrev pub with_serial : App → App
with_serial app = with_subcommand app (with_changed (with_turns (with_file (codes "serial")))).top

-- autolock outcomes [--count N] [--seed N] [--turns N] [--cells NAMES] [--answers] [--full] [--expect COMPARISON] FILE
abbrev pub with_outcomes : App → App
with_outcomes app =
    with_subcommand app
    (with_expect (with_full (with_answers (with_cells (with_turns (with_seed (with_count (with_file (codes "outcomes"))))))))).top

-- autolock schedule [--seed N] [--length N] [--worst] FILE
abbrev pub with_schedule : App → App
with_schedule app = with_subcommand app (with_worst (with_length (with_seed (with_file (codes "schedule"))))).top

-- autolock simulate FILE STEPS
abbrev pub with_simulate : App → App
with_simulate app = with_subcommand app (with_steps (with_file (codes "simulate"))).top

-- autolock trace [--sections] [--all] FILE STEPS
abbrev pub with_trace : App → App
with_trace app = with_subcommand app (with_all (with_sections (with_steps (with_file (codes "trace"))))).top

-- autolock run [--seed N] [--times N] FILE
abbrev pub with_run : App → App
with_run app = with_subcommand app (with_times (with_seed_choice (with_file (codes "run")))).top

-- autolock replay [--turns N] [--why] [--open] FILE HISTORY
abbrev pub with_replay : App → App
with_replay app = with_subcommand app (with_open (with_why (with_turns (with_history (with_file (codes "replay")))))).top

-- autolock lsp
abbrev pub with_lsp : App → App
with_lsp app = with_subcommand app (new_app (codes "lsp")).top

-- the whole command line
abbrev pub autolock : App
autolock =
    with_lsp (with_replay (with_run (with_trace (with_simulate (with_schedule (with_outcomes (with_serial (with_emit (with_listing
    (with_order (with_format (with_explain (with_check program)))))))))))))

-- the command is this one, and has no global argument
abbrev pub IsCommand : App → Command → Type 0
IsCommand app command = (app_of command ≡ app) × ((out-Command command).has_globals ≡ false)

-- a command that is added to a command line, if both could be made
abbrev pub Adds : {E : Type 0} → Result Command E → Result Command E → Result Command E → Type 0
Adds line command result =
    (a b : App) → IfOk line (IsCommand a) → IfOk command (IsCommand b) → IfOk result (IsCommand (with_subcommand a b.top))

-- an argument that is added to a command, if that could be made
abbrev pub AddsRule : {E : Type 0} → Result Command E → Rule → Result Command E → Type 0
AddsRule command rule result = (a : App) → IfOk command (IsCommand a) → IfOk result (IsCommand (with_rule a rule))
