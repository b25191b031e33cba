use Rattle.std.proofs.Common.{◌≡◌, ◌+◌, ◌++◌, ◌∷◌, [], map, take, sym, ap, ◌∙◌}
use Rattle.std.proofs.lemmas.List.{map_more}
use Rattle.std.proofs.lemmas.Option.{slice_get_within, get_or_from_slice_get}
use Rattle.history.specs.Commits.{Commit}
use Rattle.report_runs.specs.Working.Kinds.{call_place}
use Rattle.report_runs.proofs.run_kind.order_of.Goals as goal

pub loop-position-preserved : goal.loop-position-preserved
loop-position-preserved c =
    let commits = c.args.history.now.commits in
    let i = c.loop-position.position in
    let e = c.get-entry.result in
    let before = map call_place (take i commits) in
    let more : map call_place (take (i + 1) commits) ≡ before ++ call_place e ∷ [] =
    map_more call_place commits i e (slice_get_within commits i e c.get-entry.ensures)
    ∙ ap (λ (x : Commit). before ++ call_place x ∷ []) (get_or_from_slice_get commits i e e c.get-entry.ensures) in
    c.in_ok-push.ensures.items
    ∙ (λ j. c.loop-position.invariant j ++ record { thread = c.thread.ensures j; step = c.step.ensures j } ∷ [])
    ∙ sym more
