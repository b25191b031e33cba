-- Heaps that are overwritten.
use Rattle.std.proofs.Common.{◌≡◌, ℕ, List, [], ◌∷◌, ◌++◌, length, map, slice_get, refl, ap, ◌∙◌}
use Rattle.core_lang.specs.declared.value.Value.{Value}
use Rattle.core_lang.specs.declared.typed.Typed.{Typed}
use Rattle.core_lang.specs.Serial.{Serial}
use Rattle.core_lang.specs.Theory.Items.{set_other}
use Rattle.code.specs.Memory.{overwritten, Agrees}
use Rattle.code.specs.Theory.Values.{length-overwritten}
use Rattle.history.specs.Commits.{Commit, call_of, answer_of, finished_on, committed, IsLegal, IsTrueCommit, AreTrue}
use Rattle.history.specs.Commits.{WritesNot, NoneWrites}

pub length-committed : (h : List Value) (cs : List Commit) → length (committed h cs) ≡ length h
length-committed h [] = refl
length-committed h (c ∷ cs) = length-committed (overwritten h c.writes) cs ∙ length-overwritten h c.writes

pub overwritten_spares : (h : List Value) (ws : List (ℕ × Value)) (cell : ℕ) → WritesNot cell ws →
    slice_get (overwritten h ws) cell ≡ slice_get h cell
overwritten_spares h [] cell s = refl
overwritten_spares h (w ∷ ws) cell s = set_other (overwritten h ws) w.0 cell w.1 s.0 ∙ overwritten_spares h ws cell s.1

pub committed-append : (h : List Value) (cs more : List Commit) →
    committed h (cs ++ more) ≡ committed (committed h cs) more
committed-append h [] more = refl
committed-append h (c ∷ cs) more = committed-append (overwritten h c.writes) cs more

committed_spares : (h : List Value) (cs : List Commit) (cell : ℕ) → NoneWrites cell cs →
    slice_get (committed h cs) cell ≡ slice_get h cell
committed_spares h [] cell s = refl
committed_spares h (c ∷ cs) cell s = committed_spares (overwritten h c.writes) cs cell s.1 ∙ overwritten_spares h c.writes cell s.0

pub commutes : (opening : List Value) (cs more : List Commit) (cell : ℕ) → NoneWrites cell more →
    slice_get (committed opening (cs ++ more)) cell ≡ slice_get (committed opening cs) cell
commutes opening cs more cell s =
    ap (λ h. slice_get h cell) (committed-append opening cs more) ∙ committed_spares (committed opening cs) more cell s

pub serial_from : (program : Typed) (h : List Value) (cs : List Commit) → length h ≡ length program.cells.items →
    IsLegal h cs → AreTrue program cs →
    Serial program h (map call_of cs) (map answer_of cs) (committed h cs)
serial_from program h [] n l t = refl
serial_from program h (c ∷ cs) n l t =
    let next = overwritten h c.writes in
    (finished_on c next, t.0 h n l.0, refl, serial_from program next cs (length-overwritten h c.writes ∙ n) l.1 t.1)

-- ---- one more

pub legal-push : (h : List Value) (cs : List Commit) (c : Commit) → IsLegal h cs → Agrees (committed h cs) c.reads →
    IsLegal h (cs ++ c ∷ [])
legal-push h [] c l a = (a, tt)
legal-push h (x ∷ cs) c l a = (l.0, legal-push (overwritten h x.writes) cs c l.1 a)

pub true-push : (program : Typed) (cs : List Commit) (c : Commit) → AreTrue program cs → IsTrueCommit program c →
    AreTrue program (cs ++ c ∷ [])
true-push program [] c l a = (a, tt)
true-push program (x ∷ cs) c l a = (l.0, true-push program cs c l.1 a)
