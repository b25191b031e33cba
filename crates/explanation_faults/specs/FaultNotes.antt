-- The notes on a fault.
use Rattle.std.specs.Fmt.{decimal}
use Rattle.std.specs.Prelude.{◌≡◌, ◌≤◌, ◌⊎◌, ℕ, List, ◌∷◌, ◌++◌, Some, None, All, false, codes, length}
use Rattle.explanation.specs.Notes.{Note}
use Rattle.resolution.specs.Constants.{init_target_of, giver}
use Rattle.resolution.specs.Faults.{IsFault, IsDeclaredTwice, PassesNonFinal, IsFinalMissing}
use Rattle.resolution.specs.Scopes.{member_name}
use Rattle.resolution.specs.declared.init_target.InitTarget.{InitTarget}
use Rattle.source.specs.declared.fault.Code.{Code}
use Rattle.source.specs.Mistakes.{goes_before}
use Rattle.source.specs.declared.fault.Code.TheVariants.{DeclaredTwice, UnknownName, WrongType}
use Rattle.source.specs.declared.fault.Code.TheVariants.{WrongArgumentCount, NotAssignable}
use Rattle.source.specs.declared.fault.Code.TheVariants.{NeitherFinalNorProtected, ProtectedByPassesNonFinal}
use Rattle.source.specs.declared.fault.Code.TheVariants.{UnstableBase, LimitExceeded, FinalWithoutOpeningValue}
use Rattle.source.specs.declared.fault.Code.TheVariants.{InitOutOfRangeOrRepeated, MisplacedReturn}
use Rattle.source.specs.Tokens.{Tok}
use Rattle.syntax.specs.Trees.{Ident, Final, Init, Member, Pool, Section, Decl, lock, init}
use Rattle.explanation_faults.specs.ReasonNotes.{IsReasonNote}
use Rattle.explanation_names.specs.NearNames.{CouldStand, IsNear, IsNearestOf}
use Rattle.explanation_faults.specs.Inits.{IsGivenFirst}
use Rattle.explanation_faults.specs.AmountsPassed.{IsAmountPassed}
use Rattle.explanation_faults.specs.HelperLimits.{IsFirstOfHelpers, IsHelperLimit}
use Rattle.explanation_faults.specs.LimitsPassed.{AreFinalsPassed, IsCountPassed}
use Rattle.explanation_faults.specs.LocksAtHand.{IsAtHand}
use Rattle.explanation_faults.specs.MissingInits.{IsGap, IsNullGiven}
use Rattle.explanation_names.specs.MissingReturns.{IsLacking}
use Rattle.explanation_names.specs.NameSpaces.{IsDeclaredAs}
use Rattle.explanation_names.specs.NullMeant.{IsNullMeant}
use Rattle.explanation_names.specs.PassedMembers.{passed_at}
use Rattle.explanation_faults.specs.PathsPassed.{ArePathsFirst, ArePathsPast}
use Rattle.explanation_names.specs.TokensThere.{name_there}
use Rattle.explanation_names.specs.Vars.{IsIn}
use Rattle.explanation_faults.specs.VarNotes.{IsVarNote, IsVarThere}
use Rattle.explanation_faults.specs.Words.{name_note, note_on, note_of_all}

-- ---- words

-- E05, at the first name that the later one must differ from and does not; for a local with a name of the top level, at
-- that name
abbrev pub declared_note : Ident → Note
declared_note x = name_note x (codes " is declared here")

-- E06, for a name of more than one letter: at the nearest name that could stand there, and of equally near ones at the
-- first in the text
abbrev pub near_note : Ident → Note
near_note x = name_note x (codes " could be meant, and is declared here")

-- E06, if only `null` is near, and the tokens with it have a tree
abbrev pub null_meant_note : Note
null_meant_note = note_of_all (codes "`null` could be meant")

-- the words on a lock that could protect something
abbrev pub lock_words : Ident → List ℕ
lock_words x = codes " could protect it: protected_by(" ++ x.text ++ codes ")"

-- E10, at the first lock of the field's struct; for a field of a struct without a lock, a global or an array, at the
-- first lock of the top level
abbrev pub lock_note : Ident → Note
lock_note x = name_note x (lock_words x)

-- E12, at the name of the member that the annotation passes
abbrev pub passed_note : Member → Note
passed_note m = name_note (member_name m) (codes " is declared here, and is not a final reference")

-- the words on the member P[N] of a pool
abbrev pub gap_words : Pool → ℕ → List ℕ
gap_words p n = codes " is final, and no init gives it for " ++ p.name.text ++ codes "[" ++ decimal n ++ codes "]"

-- E16, at the name of the final reference: the first member of the pool for which no `init` gives it
abbrev pub gap_note : Pool → ℕ → Final → Note
gap_note p n f = name_note f.name (gap_words p n)

-- E16, at the name of the final reference that an `init` sets to null
abbrev pub null_note : Final → Note
null_note f = name_note f.name (codes " is final, and is never null")

-- E17, for a second `init` of a field: at the first
abbrev pub given_note : Init → Note
given_note i = note_on i.start.start (i.field.text ++ codes " is given here")

-- E18, at the name of the section or helper
abbrev pub missing_note : Ident → Note
missing_note x = name_note x (codes " has a result, and its body does not end in a return")

-- E18, for a `return` in a section or helper without a result type: at its name
abbrev pub typeless_note : Ident → Note
typeless_note x = name_note x (codes " has no result type: write one after its parameters, as : int")

-- E18, for each other misplaced `return`
abbrev pub misplaced_note : Note
misplaced_note = note_of_all (codes "this return is not the last statement of a body with a result")

-- E15, for the final references of an annotation
abbrev pub finals_words : List ℕ
finals_words = codes "an annotation goes over at most 3 final references"

-- E15, for the lock paths of a section
abbrev pub path_words : List ℕ
path_words = codes "a section has at most 64 lock paths that differ"

-- ---- truth, given the fault's code

-- the note on the earlier declaration of the name
pub record IsDeclaredNote (decls : List Decl) (at : ℕ) (note : Note) : Type 0 where
  pub name : Ident
  pub declared : IsDeclaredAs decls at name
  pub said : note ≡ declared_note name

-- a name that could stand in place of this one is near to it
pub record HasNearName (tokens : List Tok) (decls : List Decl) (at : ℕ) : Type 0 where
  pub unknown : List ℕ
  pub there : name_there at tokens ≡ Some unknown
  pub name : Ident
  pub could : CouldStand decls at name
  pub near : IsNear unknown name.text

-- the note on the nearest of the names that could stand in place of the unknown one
pub record IsNearNote (tokens : List Tok) (decls : List Decl) (at : ℕ) (note : Note) : Type 0 where
  pub unknown : List ℕ
  pub there : name_there at tokens ≡ Some unknown
  pub name : Ident
  pub nearest : IsNearestOf (CouldStand decls at) unknown name
  pub said : note ≡ near_note name

-- the note on `null`, if no name is near
pub record IsNullMeantNote (tokens : List Tok) (decls : List Decl) (at : ℕ) (note : Note) : Type 0 where
  pub none : HasNearName tokens decls at → ⊥
  pub meant : IsNullMeant tokens at
  pub said : note ≡ null_meant_note

-- the note on a lock that could protect the name
pub record IsLockNote (decls : List Decl) (at : ℕ) (note : Note) : Type 0 where
  pub name : Ident
  pub at_hand : IsAtHand decls at name
  pub said : note ≡ lock_note name

-- the note on the member that the annotation passes
pub record IsPassedNote (decls : List Decl) (at : ℕ) (note : Note) : Type 0 where
  pub member : Member
  pub passed : passed_at decls at ≡ Some member
  pub said : note ≡ passed_note member

-- the words on a limit that is exceeded at this byte
pub data IsLimitPassed (tokens : List Tok) (decls : List Decl) (at : ℕ) : List ℕ → Type 0 where
  of_count : {words : List ℕ} → IsCountPassed decls at words → IsLimitPassed tokens decls at words
  of_amount : {words : List ℕ} → IsAmountPassed decls at words → IsLimitPassed tokens decls at words
  of_finals : AreFinalsPassed decls at → IsLimitPassed tokens decls at finals_words
  of_helpers : {words : List ℕ} → IsHelperLimit decls at words → IsLimitPassed tokens decls at words
  of_paths : ArePathsPast tokens at → IsLimitPassed tokens decls at path_words

-- the note on the exceeded limit
pub record IsLimitNote (tokens : List Tok) (decls : List Decl) (at : ℕ) (note : Note) : Type 0 where
  pub words : List ℕ
  pub passed : IsLimitPassed tokens decls at words
  pub said : note ≡ note_of_all words

-- the note on the missing `init`, or on the final reference that is set to null
pub data IsFinalNote (decls : List Decl) (at : ℕ) : Note → Type 0 where
  gap : {p : Pool} {n : ℕ} {f : Final} → IsGap decls at p n f → IsFinalNote decls at (gap_note p n f)
  null : {f : Final} → IsNullGiven decls at f → IsFinalNote decls at (null_note f)

-- the note on the first `init` of the same field
pub record IsGivenNote (decls : List Decl) (at : ℕ) (note : Note) : Type 0 where
  pub first : Init
  pub given : IsGivenFirst decls at first
  pub said : note ≡ given_note first

-- the note on a section or a helper whose return is missing. If none is missing there, it is the note on the enclosing
-- section or helper, if that does not have a result type, and otherwise the note on the misplaced return
pub data IsReturnNote (decls : List Decl) (at : ℕ) : Note → Type 0 where
  missing : {x : Ident} → IsLacking decls at x → IsReturnNote decls at (missing_note x)
  typeless : {s : Section} → ((x : Ident) → IsLacking decls at x → ⊥) → IsIn decls at s → s.result ≡ None →
      IsReturnNote decls at (typeless_note s.name)
  misplaced : ((x : Ident) → IsLacking decls at x → ⊥) → ((s : Section) → IsIn decls at s → s.result ≡ None → ⊥) →
      IsReturnNote decls at misplaced_note

-- the note is true for a fault of this code at this byte of the tokens and their tree
abbrev pub IsTrueNote : List Tok → List Decl → Code → ℕ → Note → Type 0
IsTrueNote tokens decls DeclaredTwice at note = IsDeclaredNote decls at note
IsTrueNote tokens decls UnknownName at note = IsNearNote tokens decls at note ⊎ IsNullMeantNote tokens decls at note
IsTrueNote tokens decls WrongType at note = IsReasonNote decls WrongType at note
IsTrueNote tokens decls WrongArgumentCount at note = IsReasonNote decls WrongArgumentCount at note
IsTrueNote tokens decls NotAssignable at note = IsReasonNote decls NotAssignable at note
IsTrueNote tokens decls NeitherFinalNorProtected at note = IsLockNote decls at note
IsTrueNote tokens decls ProtectedByPassesNonFinal at note = IsPassedNote decls at note
IsTrueNote tokens decls UnstableBase at note = IsVarNote tokens decls at note
IsTrueNote tokens decls LimitExceeded at note = IsLimitNote tokens decls at note
IsTrueNote tokens decls FinalWithoutOpeningValue at note = IsFinalNote decls at note
IsTrueNote tokens decls InitOutOfRangeOrRepeated at note = IsGivenNote decls at note
IsTrueNote tokens decls MisplacedReturn at note = IsReturnNote decls at note
IsTrueNote tokens decls code at note = ⊥

-- ---- required notes

-- a fault of this code stands at this byte, and no fault of the program goes before it
pub record IsFirstFault (decls : List Decl) (code : Code) (at : ℕ) : Type 0 where
  pub is_fault : IsFault decls code at
  pub first : (other : Code) (p : ℕ) → IsFault decls other p →
      goes_before (record { code = other; start = p }) (record { code = code; start = at }) ≡ false

-- something at this byte lacks an annotation, and a lock could protect it
pub record IsLockWanted (decls : List Decl) (at : ℕ) : Type 0 where
  pub name : Ident
  pub at_hand : IsAtHand decls at name

-- an `init` at this byte sets the same field as an earlier one
pub data IsGivenAgain (decls : List Decl) : ℕ → Type 0 where
  given_again : (before behind : List Decl) (j : Init) {g : InitTarget} {e : ℕ × Decl} →
      decls ≡ before ++ init j ∷ behind → init_target_of decls j ≡ Some g → giver decls before g ≡ Some e →
      IsGivenAgain decls j.start.start

-- a limit that is exceeded at this byte; for the limits on helpers and on lock paths it is the first fault of its kind
pub data IsLimitTold (tokens : List Tok) (decls : List Decl) (at : ℕ) : Type 0 where
  count_told : {words : List ℕ} → IsCountPassed decls at words → IsLimitTold tokens decls at
  amount_told : {words : List ℕ} → IsAmountPassed decls at words → IsLimitTold tokens decls at
  finals_told : AreFinalsPassed decls at → IsLimitTold tokens decls at
  helpers_told : IsFirstOfHelpers decls at → IsLimitTold tokens decls at
  paths_told : ArePathsFirst tokens at → IsLimitTold tokens decls at

-- when a fault of this code at this byte has to have a note
abbrev pub IsTold : List Tok → List Decl → Code → ℕ → Type 0
IsTold tokens decls DeclaredTwice at = IsDeclaredTwice decls at
IsTold tokens decls UnknownName at = HasNearName tokens decls at ⊎ IsNullMeant tokens at
IsTold tokens decls WrongType at = IsFirstFault decls WrongType at
IsTold tokens decls WrongArgumentCount at = IsFirstFault decls WrongArgumentCount at
IsTold tokens decls NotAssignable at = IsFirstFault decls NotAssignable at
IsTold tokens decls NeitherFinalNorProtected at = IsLockWanted decls at
IsTold tokens decls ProtectedByPassesNonFinal at = PassesNonFinal decls at
IsTold tokens decls UnstableBase at = (x : Ident) × IsVarThere tokens decls at x
IsTold tokens decls LimitExceeded at = IsLimitTold tokens decls at
IsTold tokens decls FinalWithoutOpeningValue at = IsFinalMissing decls at
IsTold tokens decls InitOutOfRangeOrRepeated at = IsGivenAgain decls at
IsTold tokens decls MisplacedReturn at = Unit {0}
IsTold tokens decls code at = ⊥

-- the notes are true, at most one is given, and there is one where one is required
pub record AreNotes (tokens : List Tok) (decls : List Decl) (code : Code) (at : ℕ) (notes : List Note) : Type 0 where
  pub are_true : All (IsTrueNote tokens decls code at) notes
  pub single : length notes ≤ 1
  pub told : IsTold tokens decls code at → 1 ≤ length notes
