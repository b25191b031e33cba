use Rattle.std.proofs.Common.{◌≡◌, ◌+◌, ◌++◌, ◌∷◌, [], map, take, string_bytes, sym, ap, ◌∙◌}
use Rattle.std.specs.List.{flat_map}
use Rattle.std.proofs.lemmas.List.{map_more, flat_map_more}
use Rattle.std.proofs.lemmas.Option.{slice_get_within, get_or_from_slice_get}
use Rattle.history.specs.Commits.{Commit}
use Rattle.report.specs.Entry.{entry_of_commit}
use Rattle.report.specs.History.{entry_text}
use Rattle.report.proofs.histories.push_entries.Goals as goal

pub loop-position-preserved : goal.loop-position-preserved
loop-position-preserved c =
    let text = entry_text c.args.format c.args.program.now in
    let commits = c.args.history.now.commits in
    let i = c.loop-position.position in
    let e = c.get.result in
    let bs = string_bytes c.args.out.now in
    let before = map entry_of_commit (take i commits) in
    let more : map entry_of_commit (take (i + 1) commits) ≡ before ++ entry_of_commit e ∷ [] =
    map_more entry_of_commit commits i e (slice_get_within commits i e c.get.ensures)
    ∙ ap (λ (x : Commit). before ++ entry_of_commit x ∷ []) (get_or_from_slice_get commits i e e c.get.ensures) in
    c.in_ok-push_entry.ensures ∙ (λ j. c.loop-position.invariant j ++ text (c.said_of.ensures j))
    ∙ flat_map_more text bs before (entry_of_commit e) ∙ ap (λ l. bs ++ flat_map text l) (sym more)
