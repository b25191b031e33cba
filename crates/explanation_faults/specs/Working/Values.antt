-- What values of the code are, in the words of the notes.
use Rattle.std.specs.Prelude.{◌≡◌, ◌<◌, ◌≤◌, ℕ, Bool, true, if◌then◌else◌, List, slice_get, length, Option, Some}
use Rattle.std.specs.Prelude.{None, IsSome}
use denote.Ref.{Bor}
use Rattle.core_lang.specs.WellFormed.{IsWellFormed}
use Rattle.core_lang.specs.declared.typed.Typed.{Typed}
use Rattle.explanation.specs.Notes.{Note, note_of}
use Rattle.explanation.specs.declared.note.Note as written_note
use Rattle.resolution.specs.FirstFaults.{Firsts}
use Rattle.resolution.specs.Working.Laws.{the_firsts}
use Rattle.resolution.specs.Constants.{members_of}
use Rattle.resolution.specs.Working.FaultLists.{is_at}
use Rattle.resolution.specs.Faults.{HasNoFault, IsFaultFor}
use Rattle.resolution.specs.declared.why.Why.{Why}
use Rattle.resolution.specs.Scopes.{member_bears, place_of, the_member}
use Rattle.source.specs.Texts.{HasTokens, IsFault, SOURCE_LIMIT}
use Rattle.source.specs.Tokens.{Tok, seen}
use Rattle.source.specs.declared.fault.Code.{Code}
use Rattle.source.specs.declared.fault.Code.TheVariants.{LimitExceeded, MisplacedReturn}
use Rattle.source.specs.declared.fault.Code.TheVariants.{WrongType, WrongArgumentCount, NotAssignable}
use Rattle.source.specs.declared.fault.Fault.{Fault}
use Rattle.types_symbols.specs.Working.Views.{decls_of as decls_in}
use Rattle.syntax.specs.Faults.{HasRightTree}
use Rattle.syntax.specs.Trees.{Ident, Final, Init, Member, final_member, Pool}
use Rattle.syntax.specs.Trees.{Decl, pool}
use Rattle.syntax.specs.Views.{final_of, init_of, pool_of}
use Rattle.syntax.specs.declared.tree.Final as written_final
use Rattle.syntax.specs.declared.tree.Init as written_init
use Rattle.explanation_faults.specs.FaultNotes.{AreNotes, IsFirstFault, IsLimitPassed, IsLimitTold, IsTrueNote, IsTold, gap_note}
use Rattle.explanation_faults.specs.ReasonNotes.{IsReasonNote}
use Rattle.explanation_faults.specs.HelperLimits.{IsFirstOfHelpers, IsHelperLimit}
use Rattle.explanation_faults.specs.LimitsPassed.{struct_name, body_name, thread_name}
use Rattle.explanation_faults.specs.MissingInits.{IsFirstWithout, IsGap, IsGapOf, IsMissing, value_given}
use Rattle.explanation_names.specs.MissingReturns.{IsLacking}
use Rattle.explanation_faults.specs.PathsPassed.{ArePathsFirst, ArePathsPast, IsMeantProgram}
use Rattle.explanation_faults.specs.TextNotes.{IsTextLimit}
use Rattle.explanation_faults.specs.declared.limits_passed.Kind.{Kind}
use Rattle.explanation_faults.specs.declared.limits_passed.Kind.TheVariants.{Structs, Bodies, Threads}
use Rattle.explanation_faults.specs.declared.missing_inits.MissingInit.{MissingInit}
use Rattle.explanation_faults.specs.declared.tree_notes.Faulty.{Faulty}
use Rattle.explanation_faults.specs.declared.tree_notes.Known.{Known}

abbrev pub decls_of : Faulty → List Decl
decls_of x = decls_in x.symbols.now

abbrev pub tokens_of : Faulty → List Tok
tokens_of x = seen x.tokens.now

-- a true note, or none, where there is none
abbrev pub FoundNote : (Note → Type 0) → Option written_note.Note → Type 0
FoundNote Is (Some note) = Is (note_of note)
FoundNote Is None = (note : Note) → Is note → ⊥

-- the reason of a fault of this code there, or none, where it is not the first
abbrev pub FoundReason : List Decl → Code → ℕ → Option Why → Type 0
FoundReason decls code at (Some w) = IsFaultFor decls code at w
FoundReason decls code at None = IsFirstFault decls code at → ⊥

-- the reason of a fault, for the codes that have one
abbrev pub FoundWhy : List Decl → Code → ℕ → Option Why → Type 0
FoundWhy decls WrongType at w = FoundReason decls WrongType at w
FoundWhy decls WrongArgumentCount at w = FoundReason decls WrongArgumentCount at w
FoundWhy decls NotAssignable at w = FoundReason decls NotAssignable at w
FoundWhy decls code at w = Unit {0}

-- the same for the first faults of each program
abbrev pub IsReasonBy : (List Decl → Code → ℕ → Option Why → Type 0) → Firsts → Fault → Option Why → Type 0
IsReasonBy Found firsts fault w = (decls : List Decl) → firsts ≡ the_firsts decls → Found decls fault.code fault.start w

-- the reason that is kept with a fault is right
abbrev pub IsKnownOf : List Decl → Known → Type 0
IsKnownOf decls x = FoundWhy decls x.fault.now.code x.fault.now.start x.why

abbrev pub AreNotesOn : List Tok → List Decl → Known → List Note → Type 0
AreNotesOn tokens decls x notes = AreNotes tokens decls x.fault.now.code x.fault.now.start notes

-- a true note, or none if a note is not required
abbrev pub IsNoteIfTold : Faulty → Code → Option written_note.Note → Type 0
IsNoteIfTold x code (Some note) = IsTrueNote (tokens_of x) (decls_of x) code x.at (note_of note)
IsNoteIfTold x code None = IsTold (tokens_of x) (decls_of x) code x.at → ⊥

-- the same for the reason of a fault of this code
abbrev pub IsReasonIfTold : Faulty → Code → Option written_note.Note → Type 0
IsReasonIfTold x code (Some note) = IsReasonNote (decls_of x) code x.at (note_of note)
IsReasonIfTold x code None = IsFirstFault (decls_of x) code x.at → ⊥

-- no `return` is missing at the byte
abbrev pub LacksNone : List Decl → ℕ → Type 0
LacksNone decls at = (x : Ident) → IsLacking decls at x → ⊥

-- the notes on a misplaced `return`, which do not depend on the tokens
abbrev pub AreReturnNotes : List Decl → ℕ → List Note → Type 0
AreReturnNotes decls at notes = (tokens : List Tok) → AreNotes tokens decls MisplacedReturn at notes

abbrev pub FoundInit : (Init → Type 0) → Option (Bor written_init.Init) → Type 0
FoundInit Is (Some i) = Is (init_of i.now)
FoundInit Is None = (i : Init) → Is i → ⊥

-- the text has this fault and no other, and does not have tokens
abbrev pub IsItsFault : List ℕ → Fault → Type 0
IsItsFault text fault =
    IsFault text fault.code fault.start
    × ((code : Code) (start : ℕ) → IsFault text code start → (code ≡ fault.code) × (start ≡ fault.start))
    × ((ts : List Tok) → length text ≤ SOURCE_LIMIT → HasTokens text ts → ⊥)

-- the words on the text's own limit that the fault exceeds, if it exceeds one
abbrev pub FoundTextLimit : List ℕ → Fault → Option (Bor (List ℕ)) → Type 0
FoundTextLimit text fault (Some words) = (fault.code ≡ LimitExceeded) × IsTextLimit text fault.start words.now
FoundTextLimit text fault None = (words : List ℕ) → fault.code ≡ LimitExceeded → IsTextLimit text fault.start words → ⊥

-- ---- limits

-- the words on a limit that is exceeded, if one is
abbrev pub FoundWords : (List ℕ → Type 0) → Option (Bor (List ℕ)) → Type 0
FoundWords Is (Some words) = Is words.now
FoundWords Is None = (words : List ℕ) → Is words → ⊥

abbrev pub IsLimitIfTold : Faulty → Option (Bor (List ℕ)) → Type 0
IsLimitIfTold x (Some words) = IsLimitPassed (tokens_of x) (decls_of x) x.at words.now
IsLimitIfTold x None = IsLimitTold (tokens_of x) (decls_of x) x.at → ⊥

-- the same for a limit on what helpers call
abbrev pub IsHelperIfTold : List Decl → ℕ → Option (Bor (List ℕ)) → Type 0
IsHelperIfTold decls at (Some words) = IsHelperLimit decls at words.now
IsHelperIfTold decls at None = IsFirstOfHelpers decls at → ⊥

-- the fault is a limit exceeded at the byte
abbrev pub IsLimitAt : Fault → ℕ → Type 0
IsLimitAt fault at = (fault.code ≡ LimitExceeded) × (fault.start ≡ at)

-- the program that tokens mean, if it has no fault before its lock paths
abbrev pub IsMeant : List Tok → Option Typed → Type 0
IsMeant tokens (Some written) = IsMeantProgram tokens written × IsWellFormed written
IsMeant tokens None = (tree : List Decl) → HasRightTree tokens tree → HasNoFault tree → ⊥

abbrev pub TellsOfPaths : List Tok → ℕ → Bool → Type 0
TellsOfPaths tokens at is = (is ≡ true → ArePathsPast tokens at) × (ArePathsFirst tokens at → is ≡ true)

abbrev pub kind_name : Kind → Decl → Option Ident
kind_name Structs d = struct_name d
kind_name Bodies d = body_name d
kind_name Threads d = thread_name d

-- ---- what is found with the tables of declarations

abbrev pub final_at : Bor written_final.Final → Final
final_at f = final_of f.now

-- the member at a place of a struct, if it is a final reference and the first of its name
abbrev pub due_final : List Member → ℕ → Member → Option Final
due_final members k (final_member f) = if is_at k (place_of member_bears members f.name.text) then Some f else None
due_final members k _ = None

-- each of the first `count` members of the pool has an `init` of the final reference `member`
abbrev pub AllGiven : List Decl → ℕ → ℕ → ℕ → Type 0
AllGiven decls place member count = (k : ℕ) → k < count → IsSome (value_given decls place member k)

-- the first member of the pool without an `init` of the final reference, or all members have one
abbrev pub FoundFirst : List Decl → ℕ → ℕ → ℕ → Option ℕ → Type 0
FoundFirst decls place member count (Some n) = IsFirstWithout decls place member count n
FoundFirst decls place member count None = AllGiven decls place member count

-- the same for all final references of a struct
abbrev pub EachGiven : List Decl → ℕ → List Member → ℕ → Type 0
EachGiven decls place members count =
    (m : ℕ) (f : Final) → the_member members f.name.text ≡ Some (m, final_member f) → AllGiven decls place m count

abbrev pub FoundMissing : List Decl → ℕ → List Member → ℕ → Option (ℕ × Bor written_final.Final) → Type 0
FoundMissing decls place members count (Some found) = IsMissing decls place members count found.0 (final_at found.1)
FoundMissing decls place members count None = EachGiven decls place members count

-- the same for a pool whose name stands at the byte
abbrev pub IsWhole : List Decl → ℕ → Pool → ℕ → Type 0
IsWhole decls place p at =
    (members : List Member) → p.name.span.start ≡ at → members_of decls p.target ≡ Some members → EachGiven decls place members p.length.value

abbrev pub FoundGapOf : List Decl → ℕ → Pool → ℕ → Option (ℕ × Bor written_final.Final) → Type 0
FoundGapOf decls place p at (Some found) = IsGapOf decls place p at found.0 (final_at found.1)
FoundGapOf decls place p at None = IsWhole decls place p at

abbrev pub FoundGap : List Decl → ℕ → Option MissingInit → Type 0
FoundGap decls at (Some gap) = IsGap decls at (pool_of gap.pool.now) gap.index (final_at gap.reference)
FoundGap decls at None = (place : ℕ) (p : Pool) → slice_get decls place ≡ Some (pool p) → IsWhole decls place p at

abbrev pub gap_note_of : MissingInit → Note
gap_note_of gap = gap_note (pool_of gap.pool.now) gap.index (final_at gap.reference)
