-- The calls of helpers that lead from a section to a place in a helper's text.
use Rattle.std.specs.Prelude.{◌==◌, ◌||◌, ℕ, zero, suc, Bool, false, if◌then◌else◌, List, [], ◌∷◌, ◌++◌, slice_get}
use Rattle.std.specs.Prelude.{Option, Some, None, find, option_map, option_to_list, codes, string_bytes}
use Rattle.std.specs.List.{flat_map, list_any}
use Rattle.std.specs.Option.{option_map_or}
use Rattle.core_lang.specs.declared.tree.Action.{Action, Call}
use Rattle.core_lang.specs.declared.tree.Section.{Section}
use Rattle.core_lang.specs.declared.typed.Typed.{Typed}
use Rattle.core_lang.specs.Typing.{lookup}
use Rattle.flow.specs.Points.{Point, statement, result, points, start_of}
use Rattle.lockorder.specs.declared.ranks.Edge.{Edge}
use Rattle.explanation.specs.Notes.{Note}

-- ---- calls

-- the helper that a point calls
abbrev pub call_of : Point → Option ℕ
call_of (statement start (Call helper arguments bound)) = Some helper
call_of _ = None

-- the points of a helper
abbrev pub helper_points : Typed → ℕ → List Point
helper_points program h = option_map_or points (slice_get program.shape.helpers.items h) []

-- one of these points starts here
abbrev pub starts_in : List Point → ℕ → Bool
starts_in points at = list_any (λ p. start_of p == at) points

-- a point calls a helper with a point that starts at the place, or with one that leads to it in the same way, at most n
-- calls deep
abbrev pub leads : Typed → ℕ → ℕ → Point → Bool
leads program zero at p = false
leads program (suc n) at p =
    option_map_or (λ h. starts_in (helper_points program h) at || list_any (leads program n at) (helper_points program h)) (call_of p) false

-- the greatest depth of calls of helpers
abbrev pub deepest : ℕ
deepest = 8

-- the first point of a section that leads to the place, unless the place is in the section's own text
abbrev pub first_call : Typed → Section → ℕ → Option Point
first_call program section at =
    if starts_in (points section) at then None else find (leads program deepest at) (points section)

-- ---- the notes

-- the name of the helper with this number; empty where no helper has it
abbrev pub helper_name : Typed → Option ℕ → List ℕ
helper_name program h =
    option_map_or (λ (helper : Section). string_bytes helper.name) (lookup h (λ n. slice_get program.shape.helpers.items n)) []

-- in SECTION: WORDS HELPER
abbrev pub call_note : Typed → Section → List ℕ → Point → Note
call_note program section words p = record {
  start = Some (start_of p);
  words = codes "in " ++ string_bytes section.name ++ codes ": " ++ words ++ helper_name program (call_of p);
}

-- the note on the call that leads to the place, for a section and for the section with this number
abbrev pub calls_in : Typed → Section → List ℕ → Option ℕ → List Note
calls_in program section words None = []
calls_in program section words (Some at) = option_to_list (option_map (call_note program section words) (first_call program section at))

-- the same notes for the section with this number
abbrev pub calls_to : Typed → ℕ → List ℕ → Option ℕ → List Note
calls_to program k words at = option_map_or (λ section. calls_in program section words at) (slice_get program.sections.items k) []

-- the start of the point with this number in the section with this number
abbrev pub point_start : Typed → ℕ → ℕ → Option ℕ
point_start written k p =
    lookup (slice_get written.sections.items k) (λ (section : Section). option_map start_of (slice_get (points section) p))

-- the notes on an edge: on its use, and on its binding
abbrev pub edge_calls : Typed → Typed → Edge → List Note
edge_calls program written e =
    calls_to program e.section (codes "that use comes by this call of ") (point_start written e.section e.used)
    ++ calls_to program e.section (codes "that binding comes by this call of ") (point_start written e.section e.bound)

-- the notes on the edges of a cycle, of the program as it was accepted and of its expansion
abbrev pub cycle_calls : Typed → Typed → List Edge → List Note
cycle_calls program written edges = flat_map (edge_calls program written) edges
