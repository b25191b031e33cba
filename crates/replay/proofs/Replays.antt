-- A history that was read up to a line.
use Rattle.std.proofs.Common.{◌≡◌, ◌∙◌, ◌≤◌, ◌+◌, ℕ, List, [], ◌∷◌, ◌++◌, arith, sym, refl, subst, Option, Some}
use Rattle.std.proofs.Common.{append_assoc, append-nil}
use Rattle.std.specs.Prelude.{codes}
use Rattle.std.proofs.lemmas.Bool.{false≢true}
use Rattle.std.proofs.lemmas.List.{length_push}
use Rattle.core_lang.specs.declared.typed.Typed.{Typed}
use Rattle.input_files.specs.declared.format.Format.{Format}
use Rattle.replay.specs.declared.callers.Callers.{Callers}
use Rattle.replay.specs.declared.progress.Progress.{Progress}
use Rattle.replay.specs.declared.progress.Stage.{Stage}
use Rattle.replay.specs.declared.progress.Stage.TheVariants.{Calls, Cells, Ended}
use Rattle.replay.specs.declared.progress.Finding.TheVariants.{Came, Beyond}
use Rattle.replay.specs.Readers.{Reader, opened, Comes, Come}
use Rattle.replay.specs.declared.wanted.Wanted.{Wanted}
use Rattle.std.specs.Prelude.{Result, Ok, Err, IfOk}
use Rattle.replay.specs.declared.verdict.Judgement.{Judgement}
use Rattle.replay.specs.Verdicts.{HasEnded, Holds, Reaches, IsOther, IsSame, IsDiffering, IsBeyond}
use Rattle.replay.specs.declared.verdict.Verdict.{Verdict}
use Rattle.replay.specs.declared.verdict.Verdict.TheVariants.{Differs}
use Rattle.replay.specs.Wanted.{IsWanted, IsWantedAt, Explains}
use Rattle.replay.specs.Working.Reading.{EndsAs, IsAt, IsSound, Reads}
use Rattle.replay.proofs.Steps.{at_stage, closed_at}

-- the lines before the line of this number came
pub record HasRead (turns : ℕ) (callers : Callers) (format : Format) (program : Typed) (lines : List (List ℕ)) (number : ℕ) (rest : List (List ℕ)) (at : Progress) : Type 0 where
  pub reader : Reader
  pub reached : Reaches turns callers format program lines number reader rest
  pub is : IsAt program at reader
  pub sound : IsSound callers program at
  pub short : at.position + 2 ≤ number

module _ (turns : ℕ) (callers : Callers) (format : Format) (program : Typed) where
  come_push : (xs : List (List ℕ)) (x : List ℕ) (reader middle next : Reader) →
      Come turns callers format program reader xs middle →
      Comes turns callers format program middle next x → Come turns callers format program reader (xs ++ x ∷ []) next
  come_push [] x reader middle next came comes = (next, subst (λ r. Comes turns callers format program r next x) (sym came) comes, refl)
  come_push (y ∷ xs) x reader middle next came comes = (came.0, came.1, come_push xs x came.0 middle next came.2 comes)

  pub read_start : (lines : List (List ℕ)) (at : Progress) → IsAt program at (opened program) → IsSound callers program at →
      at.position ≡ 0 → HasRead turns callers format program lines 2 lines at
  read_start lines at is sound none = record {
    reader = opened program;
    reached = record { first = []; parts = refl; numbered = refl; came = refl };
    is = is;
    sound = sound;
    short = omega (arith, none);
  }

  module _ (lines : List (List ℕ)) (number : ℕ) (line : List ℕ) (more : List (List ℕ)) (old : Progress)
      (read : HasRead turns callers format program lines number (line ∷ more) old) where
    reached_next : (next : Reader) → Comes turns callers format program read.reader next line →
        Reaches turns callers format program lines (number + 1) next more
    reached_next next comes =
        let first = read.reached.first in
        let long = length_push first line in
        let numbered = read.reached.numbered in
        record {
          first = first ++ line ∷ [];
          parts = read.reached.parts ∙ sym (append_assoc first (line ∷ []) more);
          numbered = omega (arith, long, numbered);
          came = come_push first line (opened program) read.reader next read.reached.came comes;
        }

    pub read_more : (new : Progress) → Reads turns callers format program line old new Came →
        IsSound callers program new → new.position ≤ old.position + 1 →
        HasRead turns callers format program lines (number + 1) more new
    read_more new reads sound most =
        let found = reads read.reader read.is in
        let short = read.short in
        record {
          reader = found.0;
          reached = reached_next found.0 found.1;
          is = found.2;
          sound = sound;
          short = omega (arith, short, most);
        }

    pub read_other : IsOther turns callers format program read.reader line → IsDiffering turns callers format program lines number
    read_other other = record { reader = read.reader; rest = line ∷ more; reached = read.reached; stops = other }

    pub read_beyond : (new : Progress) → Reads turns callers format program line old new Beyond →
        IsBeyond turns callers format program lines number
    read_beyond new reads = record {
      reader = read.reader;
      text = line;
      more = more;
      reached = read.reached;
      unsettled = reads read.reader read.is;
    }

  pub wanted_at : (lines rest : List (List ℕ)) (number : ℕ) (reader : Reader) (wanted : Wanted) →
      Reaches turns callers format program lines number reader rest → IsWanted turns callers format program reader rest wanted →
      IsWantedAt turns callers format program lines number wanted
  wanted_at lines rest number reader wanted reached may = record { reader = reader; rest = rest; reached = reached; may_come = may }

  -- a line differs, and this difference is reported
  pub explained : (lines : List (List ℕ)) (number : ℕ) (wanted : Wanted) (verdict : Verdict) (told : Option Wanted) →
      verdict ≡ Differs number →
      told ≡ Some wanted → IsWantedAt turns callers format program lines number wanted → Explains turns callers format program lines verdict told
  explained lines number wanted verdict told is has at = rw (is, has) at

  -- ---- after the last line

  some_due : (xs : List (List ℕ)) (x : List ℕ) → xs ++ x ∷ [] ≡ [] → ⊥
  some_due [] x is = absurd (cc)
  some_due (y ∷ xs) x is = absurd (cc)

  pub read_same : (lines : List (List ℕ)) (number : ℕ) (at : Progress) (reader : Reader) → IsAt program at reader →
      Reaches turns callers format program lines number reader [] →
      at.stage ≡ Ended → IsSame turns callers format program lines
  read_same lines number at reader is reached ended = record {
    reader = reader;
    came = subst (λ xs. Come turns callers format program (opened program) xs reader) (sym (reached.parts ∙ append-nil reached.first)) reached.came;
    ended = record {
      none_due = at_stage program at reader is Ended ended;
      closed = closed_at program at reader is Ended ended;
    };
  }

  not_ended : (at : Progress) (reader : Reader) (stage : Stage) → IsAt program at reader → at.stage ≡ stage →
      (stage ≡ Ended → ⊥) → HasEnded reader → ⊥
  not_ended at reader Calls is here other ended = false≢true (sym (closed_at program at reader is Calls here) ∙ ended.closed)
  not_ended at reader (Cells number) is here other ended =
      some_due _ (codes "end") (sym (at_stage program at reader is (Cells number) here) ∙ ended.none_due)
  not_ended at reader Ended is here other ended = other refl

  pub read_short : (lines : List (List ℕ)) (number : ℕ) (at : Progress) (reader : Reader) → IsAt program at reader →
      Reaches turns callers format program lines number reader [] →
      (at.stage ≡ Ended → ⊥) → IsDiffering turns callers format program lines number
  read_short lines number at reader is reached other = record {
    reader = reader;
    rest = [];
    reached = reached;
    stops = not_ended at reader at.stage is refl other;
  }

  module _ {E : Type 0} (lines : List (List ℕ)) (number : ℕ) (at : Progress) (read : HasRead turns callers format program lines number [] at) where
    -- the verdict at the end holds of all lines
    pub ended_holds : (result : Result Judgement E) → IfOk result (EndsAs turns callers format program at number) →
        IfOk result (λ judgement. Holds turns callers format program lines judgement.verdict)
    ended_holds (Ok judgement) ends = (ends read.reader lines read.is read.reached).0
    ended_holds (Err error) ends = tt

    -- the verdict at the end explains what is reported
    pub ended_explains : (result : Result Judgement E) → IfOk result (EndsAs turns callers format program at number) →
        IfOk result (λ judgement. Explains turns callers format program lines judgement.verdict judgement.wanted)
    ended_explains (Ok judgement) ends = (ends read.reader lines read.is read.reached).1
    ended_explains (Err error) ends = tt
