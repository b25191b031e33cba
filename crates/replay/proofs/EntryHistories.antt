-- The entries of a legal history, as a history of calls.
use Rattle.std.proofs.Common.{◌≡◌, List, [], ◌∷◌, map, ap, refl, subst}
use Rattle.std.proofs.lemmas.List.{length-map}
use Rattle.core_lang.specs.declared.typed.Cell.{Cell}
use Rattle.core_lang.specs.Serial.{opening_heap, SerialFromOpening}
use Rattle.core_lang.specs.Laws.{MoreTurnsChangeNothing}
use Rattle.history.specs.Commits.{Commit, call_of, answer_of, committed}
use Rattle.history.specs.Working.Laws.{LegalIsSerial}
use Rattle.report.specs.Entry.{entry_of_commit}
use Rattle.replay.specs.Working.Histories.{invocation_in, ended_in, history_lines}
use Rattle.replay.specs.Working.Laws.{EntriesAreSame}
use Rattle.replay.proofs.HistoryLemmas.{history_same}

said_calls : (cs : List Commit) → map call_of cs ≡ map invocation_in (map entry_of_commit cs)
said_calls [] = refl
said_calls (c ∷ cs) = ap (λ xs. call_of c ∷ xs) (said_calls cs)

said_ends : (cs : List Commit) → map answer_of cs ≡ map ended_in (map entry_of_commit cs)
said_ends [] = refl
said_ends (c ∷ cs) = ap (λ xs. answer_of c ∷ xs) (said_ends cs)

pub entries_same : MoreTurnsChangeNothing → LegalIsSerial → EntriesAreSame
entries_same more law callers format program commits legal true_commits calls begins =
    let heap = committed (opening_heap program) commits in
    let entries = map entry_of_commit commits in
    let serial = law program (opening_heap program) commits (length-map program.cells.items (λ (cell : Cell). cell.opening)) legal true_commits in
    history_same more callers format program entries heap (history_lines format program entries heap)
    (record {
      calls = calls;
      begins = begins;
      serial = subst (λ cs. SerialFromOpening program cs (map ended_in entries) heap) (said_calls commits)
          (subst (λ ends. SerialFromOpening program (map call_of commits) ends heap) (said_ends commits) serial);
      told = refl;
    })
