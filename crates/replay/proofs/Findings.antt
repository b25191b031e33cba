-- The finding about a line.
use Rattle.std.proofs.Common.{◌≡◌, ◌∙◌, ℕ, true, List, [], ◌∷◌, ◌++◌, sym, ap, refl}
use Rattle.std.specs.Prelude.{codes}
use Rattle.core_lang.specs.declared.typed.Typed.{Typed}
use Rattle.core_lang.specs.Serial.{Scheduled, run_call}
use Rattle.core_lang.specs.Whole.{Finished, Over}
use Rattle.input_files.specs.declared.format.Format.{Format}
use Rattle.replay.specs.declared.callers.Callers.{Callers}
use Rattle.report.specs.Pieces.{outcome_text}
use Rattle.report.specs.Entry.{scheduled_in}
use Rattle.report.specs.History.{call_head}
use Rattle.replay.specs.Readers.{Reader, Comes, due, call, cells, IsNextCall, AllCalled, finished_as}
use Rattle.replay.specs.Verdicts.{IsOther}
use Rattle.replay.proofs.Heads.{head_not_cells}

module _ (turns : ℕ) (callers : Callers) (format : Format) (program : Typed) where
  -- ---- where a line is due

  pub due_comes : (reader : Reader) (text : List ℕ) (more : List (List ℕ)) → reader.due ≡ text ∷ more →
      Comes turns callers format program reader (record reader { due = more }) text
  due_comes reader text more is = due (record { more = more; is_due = is; leads = refl })

  other_due_comes : (reader after : Reader) (text line : List ℕ) (more : List (List ℕ)) → reader.due ≡ line ∷ more →
      (text ≡ line → ⊥) →
      Comes turns callers format program reader after text → ⊥
  other_due_comes reader after text line more is apart (due d) = let e = sym d.is_due ∙ is in apart (cc)
  other_due_comes reader after text line more is apart (call c) = let e = sym c.among.none_due ∙ is in absurd (cc)
  other_due_comes reader after text line more is apart (cells c) = let e = sym c.among.none_due ∙ is in absurd (cc)

  pub other_due : (reader : Reader) (text line : List ℕ) (more : List (List ℕ)) → reader.due ≡ line ∷ more →
      (text ≡ line → ⊥) →
      IsOther turns callers format program reader text
  other_due reader text line more is apart = record {
    not_coming = λ after comes. other_due_comes reader after text line more is apart comes;
    not_unsettled = λ u. let e = sym u.among.none_due ∙ is in absurd (cc);
  }

  -- ---- where no line may come

  over_comes : (reader after : Reader) (text : List ℕ) → reader.due ≡ [] → reader.closed ≡ true →
      Comes turns callers format program reader after text → ⊥
  over_comes reader after text none closed (due d) = let e = sym none ∙ d.is_due in absurd (cc)
  over_comes reader after text none closed (call c) = let e = sym closed ∙ c.among.still_open in absurd (cc)
  over_comes reader after text none closed (cells c) = let e = sym closed ∙ c.among.still_open in absurd (cc)

  pub other_at_end : (reader : Reader) (text : List ℕ) → reader.due ≡ [] → reader.closed ≡ true →
      IsOther turns callers format program reader text
  other_at_end reader text none closed = record {
    not_coming = λ after comes. over_comes reader after text none closed comes;
    not_unsettled = λ u. let e = sym closed ∙ u.among.still_open in absurd (cc);
  }

  -- ---- `cells`

  cells_early_comes : (reader after : Reader) → reader.due ≡ [] → (AllCalled callers program reader.order → ⊥) →
      Comes turns callers format program reader after (codes "cells") → ⊥
  cells_early_comes reader after none early (due d) = let e = sym none ∙ d.is_due in absurd (cc)
  cells_early_comes reader after none early (call c) = head_not_cells format program (scheduled_in c.entry) c.entry.begun _ c.next.told
  cells_early_comes reader after none early (cells c) = early c.all

  pub cells_early : (reader : Reader) → reader.due ≡ [] → (AllCalled callers program reader.order → ⊥) →
      IsOther turns callers format program reader (codes "cells")
  cells_early reader none early = record {
    not_coming = λ after comes. cells_early_comes reader after none early comes;
    not_unsettled = λ u. head_not_cells format program u.this u.begun u.end u.next.told;
  }

  -- ---- another line among the calls

  no_call_comes : (reader after : Reader) (text : List ℕ) → reader.due ≡ [] → (text ≡ codes "cells" → ⊥) →
      ((s : Scheduled) (begun : ℕ) (end : List ℕ) → IsNextCall callers format program reader.order text s begun end → ⊥) →
      Comes turns callers format program reader after text → ⊥
  no_call_comes reader after text none apart never (due d) = let e = sym none ∙ d.is_due in absurd (cc)
  no_call_comes reader after text none apart never (call c) = never _ _ _ c.next
  no_call_comes reader after text none apart never (cells c) = apart c.is_cells

  pub other_no_call : (reader : Reader) (text : List ℕ) → reader.due ≡ [] → (text ≡ codes "cells" → ⊥) →
      ((s : Scheduled) (begun : ℕ) (end : List ℕ) → IsNextCall callers format program reader.order text s begun end → ⊥) →
      IsOther turns callers format program reader text
  other_no_call reader text none apart never = record {
    not_coming = λ after comes. no_call_comes reader after text none apart never comes;
    not_unsettled = λ u. never _ _ _ u.next;
  }

  -- ---- the only call of a line

  -- the end of the call's run differs from that of the line
  other_end_comes : (reader after : Reader) (text : List ℕ) (s : Scheduled) (head : List ℕ) (finished : Finished) →
      reader.due ≡ [] → (text ≡ codes "cells" → ⊥) →
      ((t : Scheduled) (begun : ℕ) (end : List ℕ) → IsNextCall callers format program reader.order text t begun end →
      (t ≡ s) × (call_head format program t begun ≡ head)) →
      run_call program turns s.call reader.heap ≡ Over finished → (text ≡ head ++ outcome_text program.shape finished.outcome → ⊥) →
      Comes turns callers format program reader after text → ⊥
  other_end_comes reader after text s head finished none apart only over not (due d) = let e = sym none ∙ d.is_due in absurd (cc)
  other_end_comes reader after text s head finished none apart only over not (cells c) = apart c.is_cells
  other_end_comes reader after text s head finished none apart only over not (call c) =
      let same = only _ _ _ c.next in
      let e : Over (finished_as c.entry c.heap) ≡ Over finished =
      sym c.settled ∙ ap (λ (x : Scheduled). run_call program turns x.call reader.heap) same.0 ∙ over in
      let ends : finished_as c.entry c.heap ≡ finished = cc in
      let outcome : c.entry.outcome ≡ finished.outcome = ap (λ (x : Finished). x.outcome) ends in
      not (c.next.told ∙ ap (λ h. h ++ outcome_text program.shape c.entry.outcome) same.1 ∙ ap (λ o. head ++ outcome_text program.shape o) outcome)

  pub other_end : (reader : Reader) (text : List ℕ) (s : Scheduled) (head : List ℕ) (finished : Finished) →
      reader.due ≡ [] → (text ≡ codes "cells" → ⊥) →
      ((t : Scheduled) (begun : ℕ) (end : List ℕ) → IsNextCall callers format program reader.order text t begun end →
      (t ≡ s) × (call_head format program t begun ≡ head)) →
      run_call program turns s.call reader.heap ≡ Over finished → (text ≡ head ++ outcome_text program.shape finished.outcome → ⊥) →
      IsOther turns callers format program reader text
  other_end reader text s head finished none apart only over not = record {
    not_coming = λ after comes. other_end_comes reader after text s head finished none apart only over not comes;
    not_unsettled = λ u.
        let same = only _ _ _ u.next in
        let e = sym over ∙ ap (λ (x : Scheduled). run_call program turns x.call reader.heap) (sym same.0) ∙ u.beyond in absurd (cc);
  }
