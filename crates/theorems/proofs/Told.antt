-- The end of a closed run of all scripts is reported.
use Rattle.std.proofs.Common.{◌≡◌, ◌∙◌, List, [], ◌∷◌, map, ap, subst, sym}
use Rattle.core_lang.specs.declared.value.Value.{Value}
use Rattle.core_lang.specs.Laws.{HaveAtMostOneSerial}
use Rattle.core_lang.specs.Serial.{Invocation, Scheduled, SerialFromOpening, opening_heap}
use Rattle.history.specs.Commits.{Commit, call_of, script_call, answer_of}
use Rattle.outcomes.specs.Ends.{Left, seen_cells}
use Rattle.input_files.specs.Turns.{steps_of}
use Rattle.theorems.specs.EndsTold.{EveryEndIsTold}
use Rattle.theorems.specs.ClosedRuns.{ClosedRunsAreSimulated, ClosedEndsAreTold, simulated}

-- entries of the same calls of the same threads
same_calls : (xs ys : List Commit) → map script_call xs ≡ map script_call ys → map call_of xs ≡ map call_of ys
same_calls [] [] same = cc
same_calls [] (y ∷ ys) same = cc
same_calls (x ∷ xs) [] same = cc
same_calls (x ∷ xs) (y ∷ ys) same =
    let first : script_call x ≡ script_call y = cc same in
    let rest : map script_call xs ≡ map script_call ys = cc same in
    ap (λ (s : Scheduled). s.call ∷ map call_of xs) first ∙ ap (λ (cs : List Invocation). call_of y ∷ cs) (same_calls xs ys rest)

pub are_told : HaveAtMostOneSerial → ClosedRunsAreSimulated → EveryEndIsTold → ClosedEndsAreTold
are_told one are_simulated every plan log values asked told ok history accepted all ends =
    let is = are_simulated plan log values ok history all in
    let w = simulated plan is.turns in
    let found = every plan (steps_of is.turns) asked told ok (record { none_open = is.rest.none_open; none_left = is.none_left }) ends in
    let calls : map call_of log ≡ map call_of w.history = sym (same_calls w.history log is.calls) in
    let again : SerialFromOpening plan.accepted (map call_of w.history) (map answer_of log) values =
    subst (λ (cs : List Invocation). SerialFromOpening plan.accepted cs (map answer_of log) values) calls accepted in
    let same : found.heap ≡ values = (one plan.accepted (opening_heap plan.accepted) found.heap values (map call_of w.history)
    (map answer_of w.history) (map answer_of log) found.answers again).1 in
    let cells : found.end.1.left.cells ≡ seen_cells asked.cells values =
    ap (λ (l : Left). l.cells) found.end.4 ∙ ap (seen_cells asked.cells) same in
    (found.end.0, found.end.1, found.end.2, found.end.3, cells)
