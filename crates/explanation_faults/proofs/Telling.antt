-- From what is found to what is reported.
use Rattle.std.proofs.Common.{◌≡◌, Option, Some, None, Result, ℕ, List, subst, refl, sym}
use Rattle.std.specs.Option.{option_map}
use Rattle.std.specs.Prelude.{IfOk}
use Rattle.std.proofs.lemmas.Result.{IfOk-weaker}
use Rattle.explanation.specs.Notes.{Note, note_of}
use Rattle.explanation.specs.declared.note.Note as written
use Rattle.source.specs.declared.fault.Code.{Code}
use Rattle.source.specs.declared.fault.Code.TheVariants.{WrongType, WrongArgumentCount, NotAssignable, UnstableBase}
use Rattle.source.specs.declared.memory.NoMemory.{NoMemory}
use Rattle.resolution.specs.Faults.{IsDeclaredTwice, PassesNonFinal}
use Rattle.source.specs.Tokens.{Tok}
use Rattle.syntax.specs.Trees.{Decl}
use Rattle.explanation_faults.specs.declared.tree_notes.Faulty.{Faulty}
use Rattle.explanation_faults.specs.FaultNotes.{IsTrueNote, IsTold, IsDeclaredNote, IsLockNote}
use Rattle.explanation_faults.specs.FaultNotes.{IsLockWanted, IsPassedNote, IsGivenNote, IsGivenAgain, IsLimitTold}
use Rattle.explanation_faults.specs.FaultNotes.{count_told, amount_told, finals_told, helpers_told, paths_told}
use Rattle.explanation_faults.specs.FaultNotes.{declared_note, lock_note, passed_note, given_note}
use Rattle.explanation_faults.specs.AmountsPassed.{IsAmountPassed}
use Rattle.explanation_faults.specs.HelperLimits.{IsFirstOfHelpers}
use Rattle.explanation_faults.specs.LimitsPassed.{AreFinalsPassed, IsCountPassed}
use Rattle.explanation_faults.specs.PathsPassed.{ArePathsFirst}
use Rattle.explanation_faults.specs.Working.VarsFound.{var_noted}
use Rattle.explanation_faults.specs.Working.Values.{decls_of, tokens_of, FoundNote, IsNoteIfTold, IsReasonIfTold}
use Rattle.explanation_faults.proofs.Given.{first_of_given}
use Rattle.explanation_faults.proofs.PassedMembers.{passed_some}
use Rattle.explanation_faults.proofs.Twice.{first_of_twice}
use Rattle.explanation_faults.proofs.VarsThere.{is_var_note, no_var_there}

-- ---- by the code

module _ (x : Faulty) (code kind : Code) (is : code ≡ kind) where
  as_kind : (o : Option written.Note) → IsNoteIfTold x kind o → IsNoteIfTold x code o
  as_kind o told = subst (λ (c : Code). IsNoteIfTold x c o) (sym is) told

  pub told_so : (r : Result (Option written.Note) NoMemory) → IfOk r (IsNoteIfTold x kind) →
      IfOk r (IsNoteIfTold x code)
  told_so r told = IfOk-weaker r _ _ as_kind told

  told_if : (IsTold (tokens_of x) (decls_of x) kind x.at →
      (note : Note) × IsTrueNote (tokens_of x) (decls_of x) kind x.at note) → (o : Option written.Note) →
      FoundNote (IsTrueNote (tokens_of x) (decls_of x) kind x.at) o → IsNoteIfTold x code o
  told_if must (Some note) found = as_kind (Some note) found
  told_if must None none = as_kind None (λ told. let m = must told in none m.0 m.1)

  -- what is found of a fault of this kind is what is reported
  pub told_as : (r : Result (Option written.Note) NoMemory) →
      (IsTold (tokens_of x) (decls_of x) kind x.at →
      (note : Note) × IsTrueNote (tokens_of x) (decls_of x) kind x.at note) →
      IfOk r (FoundNote (IsTrueNote (tokens_of x) (decls_of x) kind x.at)) → IfOk r (IsNoteIfTold x code)
  told_as r must found = IfOk-weaker r _ _ (told_if must) found

-- ---- what must be reported

module _ (decls : List Decl) (at : ℕ) where
  pub twice_told : IsDeclaredTwice decls at → (note : Note) × IsDeclaredNote decls at note
  twice_told twice =
      let f = first_of_twice decls at twice in
      (declared_note f.0, record { name = f.0; declared = f.1; said = refl })

  pub lock_told : IsLockWanted decls at → (note : Note) × IsLockNote decls at note
  lock_told wanted = (lock_note wanted.name, record { name = wanted.name; at_hand = wanted.at_hand; said = refl })

  pub passed_told : PassesNonFinal decls at → (note : Note) × IsPassedNote decls at note
  passed_told is_passed =
      let m = passed_some decls at is_passed in
      (passed_note m.0, record { member = m.0; passed = m.1; said = refl })

  pub again_told : IsGivenAgain decls at → (note : Note) × IsGivenNote decls at note
  again_told again =
      let f = first_of_given decls at again in
      (given_note f.0, record { first = f.0; given = f.1; said = refl })

-- ---- limits

pub none_of_limits : (tokens : List Tok) (decls : List Decl) (at : ℕ) →
    ((words : List ℕ) → IsCountPassed decls at words → ⊥) →
    ((words : List ℕ) → IsAmountPassed decls at words → ⊥) → (AreFinalsPassed decls at → ⊥) → (IsFirstOfHelpers decls at → ⊥) →
    (ArePathsFirst tokens at → ⊥) →
    IsLimitTold tokens decls at → ⊥
none_of_limits tokens decls at count amount finals helpers paths (count_told {words = words} is) = count words is
none_of_limits tokens decls at count amount finals helpers paths (amount_told {words = words} is) = amount words is
none_of_limits tokens decls at count amount finals helpers paths (finals_told is) = finals is
none_of_limits tokens decls at count amount finals helpers paths (helpers_told is) = helpers is
none_of_limits tokens decls at count amount finals helpers paths (paths_told is) = paths is

-- ---- the note on a `var`

var_if : (x : Faulty) (o : Option written.Note) → option_map note_of o ≡ var_noted (tokens_of x) (decls_of x) x.at →
    IsNoteIfTold x UnstableBase o
var_if x (Some note) e = is_var_note (tokens_of x) (decls_of x) x.at (note_of note) (sym e)
var_if x None e = λ told. no_var_there (tokens_of x) (decls_of x) x.at (sym e) told.0 told.1

pub var_told : (x : Faulty) (r : Result (Option written.Note) NoMemory) →
    IfOk r (λ o. option_map note_of o ≡ var_noted (tokens_of x) (decls_of x) x.at) → IfOk r (IsNoteIfTold x UnstableBase)
var_told x r found = IfOk-weaker r _ _ (var_if x) found

-- ---- why the fault is one

type_if : (x : Faulty) (o : Option written.Note) → IsReasonIfTold x WrongType o → IsNoteIfTold x WrongType o
type_if x (Some note) is = is
type_if x None none = none

count_if : (x : Faulty) (o : Option written.Note) → IsReasonIfTold x WrongArgumentCount o → IsNoteIfTold x WrongArgumentCount o
count_if x (Some note) is = is
count_if x None none = none

target_if : (x : Faulty) (o : Option written.Note) → IsReasonIfTold x NotAssignable o → IsNoteIfTold x NotAssignable o
target_if x (Some note) is = is
target_if x None none = none

module _ (x : Faulty) (r : Result (Option written.Note) NoMemory) where
  pub type_told : IfOk r (IsReasonIfTold x WrongType) → IfOk r (IsNoteIfTold x WrongType)
  type_told found = IfOk-weaker r _ _ (type_if x) found

  pub count_told_of : IfOk r (IsReasonIfTold x WrongArgumentCount) → IfOk r (IsNoteIfTold x WrongArgumentCount)
  count_told_of found = IfOk-weaker r _ _ (count_if x) found

  pub target_told : IfOk r (IsReasonIfTold x NotAssignable) → IfOk r (IsNoteIfTold x NotAssignable)
  target_told found = IfOk-weaker r _ _ (target_if x) found
