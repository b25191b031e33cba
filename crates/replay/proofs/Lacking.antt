-- The calls that the numbers of a line show to be missing, by the seats.
use Rattle.std.proofs.Common.{◌≡◌, ◌∙◌, ◌<◌, ◌^◌, ℕ, true, false, List, [], ◌∷◌, length, slice_get, Some, arith, sym, refl, subst}
use Rattle.replay.specs.Told.{told_in}
use Rattle.std.specs.BTreeMap.{BTreeMap}
use Rattle.std.proofs.lemmas.Bool.{le-leb, and_from, false≢true}
use Rattle.core_lang.specs.declared.typed.Typed.{Typed}
use Rattle.input_files.specs.declared.format.Format.{Format}
use Rattle.input_files.specs.declared.format.Format.TheVariants.{One, Two}
use Rattle.replay.specs.declared.progress.ThreadProgress.{ThreadProgress}
use Rattle.replay.specs.declared.told.Told.{Told}
use Rattle.replay.specs.declared.wanted.Lack.{Lack}
use Rattle.replay.specs.declared.wanted.Lack.TheVariants as lack
use Rattle.replay.specs.Wanted.{AreInTurn, Lacks, LacksNumber, LacksSo}
use Rattle.replay.specs.Working.Reading.{AreSeats, begins_at}
use Rattle.replay.specs.Working.Seats.{seat_in}
use Rattle.replay.proofs.Candidates.{begins_allowed}

module _ (seats : BTreeMap ℕ ThreadProgress) (order : List ℕ) (are : AreSeats seats order) (told : Told) (position : ℕ) (is : position ≡ length order) where
  pub begin_lacks : (format : Format) → told.thread < 2 ^ 32 → told.step ≡ (seat_in seats told.thread).called →
      begins_at format (seat_in seats told.thread).least position told.begun ≡ false →
      LacksNumber format order told (lack.Begin (seat_in seats told.thread).least position)
  begin_lacks One few step never = absurd (false≢true (sym never))
  begin_lacks Two few step never = (
    few,
    step ∙ are.called told.thread,
    refl,
    λ begun. (
      λ may. let most = may.0 in ((are.least told.thread begun).0 may.1, omega (arith, most, is)),
      λ both. let most = both.1 in (omega (arith, most, is), (are.least told.thread begun).1 both.0),
    ),
    λ both. false≢true (sym never ∙ and_from _ _ (le-leb _ _ both.0) (le-leb _ _ both.1)),
  )

  pub in_turn : (format : Format) → told.thread < 2 ^ 32 → told.step ≡ (seat_in seats told.thread).called →
      begins_at format (seat_in seats told.thread).least position told.begun ≡ true → AreInTurn format order told
  in_turn format few step may = record {
    thread = few;
    counted = step ∙ are.called told.thread;
    begins = begins_allowed format seats order told.thread told.begun position are is may;
  }

-- a line lacks what its numbers lack
pub number_lacks : (format : Format) (program : Typed) (order text : List ℕ) (told : Told) (missing : Lack) →
    LacksNumber format order told missing → told_in format text ≡ Some told → LacksSo format program order text missing
number_lacks format program order text told lack.Thread lacks is = (told, is, lacks)
number_lacks format program order text told (lack.Number number) lacks is = (told, is, lacks)
number_lacks format program order text told (lack.Begin least most) lacks is = (told, is, lacks)
number_lacks format program order text told (lack.Form of) lacks is = absurd lacks
number_lacks format program order text told lack.Section lacks is = absurd lacks
number_lacks format program order text told lack.Arguments lacks is = absurd lacks

-- the lines lack what the first of them lacks
pub first_lacks : (format : Format) (program : Typed) (order text : List ℕ) (lines : List (List ℕ)) (missing : Lack) →
    slice_get lines 0 ≡ Some text → LacksSo format program order text missing → Lacks format program order lines missing
first_lacks format program order text [] missing is lacks = absurd (cc)
first_lacks format program order text (x ∷ lines) missing is lacks =
    let same : text ≡ x = cc in subst (λ t. LacksSo format program order t missing) same lacks
