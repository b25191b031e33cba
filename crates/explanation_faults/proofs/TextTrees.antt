-- The tokens of a text and their tree, and the notes from these.
use Rattle.std.proofs.Common.{◌≡◌, ℕ, zero, suc, ◌<◌, ◌≤◌, List, [], ◌∷◌, ◌++◌, ◌∙◌, ap, length, slice_get}
use Rattle.std.proofs.Common.{Option, Some, option_to_list, refl, sym, subst, arith, ⊎_elim, length-append}
use Rattle.std.specs.Prelude.{All, codes}
use Rattle.std.proofs.lemmas.Bool.{cases_lt}
use Rattle.std.proofs.lemmas.List.Elements.{All-append, All-weaker}
use Rattle.explanation.specs.Notes.{Note}
use Rattle.source.specs.declared.fault.Code.{Code}
use Rattle.source.specs.declared.fault.Code.TheVariants.{BadCharacter, LimitExceeded, UnexpectedToken}
use Rattle.source.specs.declared.fault.Fault.{Fault}
use Rattle.source.specs.declared.fault.Refusal.TheVariants as refusal
use Rattle.source.specs.Faults.{IsFaultAt}
use Rattle.source.specs.Texts.{HasTokens, IsFault, IsRefusal, SOURCE_LIMIT, too_big, too_long, within}
use Rattle.source.specs.Tokens.{Tok}
use Rattle.syntax.specs.Faults.{IsUnexpected}
use Rattle.syntax.specs.Grammar.{HasTree, Spells}
use Rattle.syntax.specs.Trees.{Decl}
use Rattle.explanation_faults.specs.FaultNotes.{IsTrueNote, IsTold, AreNotes}
use Rattle.explanation_faults.specs.TextNotes.{HasTextTree, IsTextLimit, source, a_name, IsTrueTextNote, of_tree}
use Rattle.explanation_faults.specs.TextNotes.{AreEachOnce, AreTextNotes, AreTrueTextNotes, IsMarkFault, mark_words, of_advice}
use Rattle.explanation_faults.specs.TextNotes.{of_limit, of_mark, of_tokens}
use Rattle.explanation_faults.specs.Working.Values.{IsItsFault, IsLimitAt}
use Rattle.explanation_faults.specs.Words.{note_of_all}
use Rattle.explanation_tokens.specs.Expected.{AreInOrder, IsTrueTokenNote}
use Rattle.explanation_tokens.specs.Told.{AreNotesOnTokens, IsAdvice}
use Rattle.explanation_faults.proofs.InOrder.{are_in_order}

-- a text has no other tokens
abbrev Only : List ℕ → List Tok → Type 0
Only text ts = (us : List Tok) → length text ≤ SOURCE_LIMIT → HasTokens text us → us ≡ ts

-- ---- limits

fault_of : {text words : List ℕ} {at : ℕ} → IsTextLimit text at words → IsFault text LimitExceeded at
fault_of (source long) = too_big long
fault_of (a_name x few over) = within few (too_long x over)

pub source_limit : (text : List ℕ) (at : ℕ) → IsFault text LimitExceeded at → SOURCE_LIMIT < length text →
    IsTextLimit text at (codes "a source has at most 1048576 bytes")
source_limit text at (too_big l) long = source l
source_limit text at (within few is) long = absurd (omega arith)

pub name_limit : (text : List ℕ) (at : ℕ) → IsFault text LimitExceeded at → length text ≤ SOURCE_LIMIT →
    IsTextLimit text at (codes "a name has at most 64 bytes")
name_limit text at (too_big l) few = absurd (omega arith)
name_limit text at (within few (too_long x over)) le = a_name x few over

alone : (P : Note → Type 0) (note : Note) → P note → All P (note ∷ [])
alone P note is zero d lt = is
alone P note is (suc k) d lt = absurd (omega arith)

-- ---- texts without tokens

-- the fault that the lexer finds in a text that it refuses
pub its_fault : (text : List ℕ) (found : Fault) → IsRefusal text (refusal.Fault found) →
    ((code : Code) (start : ℕ) → IsFault text code start → IsFaultAt code start (refusal.Fault found)) →
    ((ts : List Tok) → length text ≤ SOURCE_LIMIT → HasTokens text ts → refusal.Fault found ≡ refusal.NoMemory) → IsItsFault text found
its_fault text found is refused only =
    (is.0, (λ code start fault. let same = refused code start fault in (sym same.0, sym same.1)), (λ ts few has. let e = only ts few has in absurd cc))

pub limit_found : (text : List ℕ) (found : Fault) (at : ℕ) → IsItsFault text found → IsLimitAt found at →
    IsFault text LimitExceeded at
limit_found text found at is there =
    subst (λ (code : Code). IsFault text code at) there.0 (subst (λ (start : ℕ). IsFault text found.code start) there.1 is.0)

-- unless the fault that was found is a limit passed at this byte, the text passes no limit there
pub no_limit : (text : List ℕ) (found fault : Fault) → IsItsFault text found →
    (IsLimitAt found fault.start → IsLimitAt fault found.start → ⊥) →
    (words : List ℕ) → fault.code ≡ LimitExceeded → IsTextLimit text fault.start words → ⊥
no_limit text found fault is other words limited limit =
    let same = is.1 LimitExceeded fault.start (fault_of limit) in other (sym same.0, sym same.1) (limited, same.1)

module _ (text : List ℕ) (found : Fault) (is : IsItsFault text found) (code : Code) (at : ℕ) where
  pub without_limit : (IsMarkFault text code at → ⊥) → ((words : List ℕ) → code ≡ LimitExceeded → IsTextLimit text at words → ⊥) →
      AreTextNotes text code at []
  without_limit other none = record {
    are_true = λ k d lt. absurd (omega arith);
    single = λ other_code. omega arith;
    told = λ ts ds short h told. absurd (is.2 ts short h.has_tokens);
    each_once = λ us unexpected short have. absurd (is.2 us short have);
    advised = λ us note short have unexpected first. absurd (is.2 us short have);
    marked = λ mark. absurd (other mark);
    limited = λ words limited limit. absurd (none words limited limit);
  }

  pub with_limit : (words : List ℕ) → code ≡ LimitExceeded → IsTextLimit text at words →
      AreTextNotes text code at (note_of_all words ∷ [])
  with_limit words limited limit = record {
    are_true = alone (IsTrueTextNote text code at) (note_of_all words) (of_limit limited limit refl);
    single = λ other_code. omega arith;
    told = λ ts ds short h told. omega arith;
    each_once = λ us unexpected short have. absurd (is.2 us short have);
    advised = λ us note short have unexpected first. absurd (is.2 us short have);
    marked = λ mark. omega arith;
    limited = λ words limited limit. omega arith;
  }

-- ---- texts with tokens

-- a text with tokens has no fault
abbrev pub IsFaultless : List ℕ → Type 0
IsFaultless text = (code : Code) (start : ℕ) → IsFault text code start → ⊥

pub within_limit : (text : List ℕ) → IsFaultless text → length text ≤ SOURCE_LIMIT
within_limit text none =
    ⊎_elim (λ (long : SOURCE_LIMIT < length text). absurd (none LimitExceeded 0 (too_big long))) (λ (few : length text ≤ SOURCE_LIMIT). few)
    (cases_lt SOURCE_LIMIT (length text))

-- the notes on the tokens of the text are the notes on the text
all_of_tokens : (text : List ℕ) (ts : List Tok) (code : Code) (at : ℕ) (notes : List Note) → length text ≤ SOURCE_LIMIT →
    HasTokens text ts → AreNotesOnTokens ts code at notes → AreTrueTextNotes text code at notes
all_of_tokens text ts code at notes few has are =
    subst (All (IsTrueTextNote text code at)) (sym are.parts)
    (All-append (IsTrueTextNote text code at) are.advice are.expected
    (All-weaker (IsAdvice ts code at) (IsTrueTextNote text code at) (λ note is. of_advice few has is) are.advice are.advised.are_advice)
    (All-weaker (IsTrueTokenNote ts code at) (IsTrueTextNote text code at) (λ note is. of_tokens few has is) are.expected are.are_expected.are_true))

-- none of the notes of a list is true, and so the list has none
none_true : (P : Note → Type 0) (notes : List Note) → All P notes → ((note : Note) → P note → ⊥) → notes ≡ []
none_true P [] all none = refl
none_true P (note ∷ notes) all none = absurd (none note (all 0 note (omega arith)))

none_of : {notes : List Note} → notes ≡ [] → length notes ≡ 0
none_of e = ap (λ (l : List Note). length l) e

-- the tokens give no note on a fault of another code
single_of_tokens : (ts : List Tok) (code : Code) (at : ℕ) (notes : List Note) → AreNotesOnTokens ts code at notes →
    (code ≡ UnexpectedToken → ⊥) → length notes ≤ 1
single_of_tokens ts code at notes are other =
    let no_advice = none_true (IsAdvice ts code at) are.advice are.advised.are_advice (λ note is. other is.unexpected) in
    let none = none_true (IsTrueTokenNote ts code at) are.expected are.are_expected.are_true (λ note is. other is.unexpected) in
    omega (arith, ap (λ (l : List Note). length l) are.parts, length-append are.advice are.expected, none_of no_advice, none_of none)

-- the advice and what could be there, each once, as the tokens give them
once_of_tokens : (text : List ℕ) (ts : List Tok) (code : Code) (at : ℕ) (notes : List Note) → length text ≤ SOURCE_LIMIT →
    HasTokens text ts → AreNotesOnTokens ts code at notes → AreEachOnce ts code at notes
once_of_tokens text ts code at notes few has are = record {
  advice = are.advice;
  expected = are.expected;
  parts = are.parts;
  are_advice = are.advised.are_advice;
  one_advice = are.few;
  are_expected = are.are_expected.are_true;
  one_expected = are.are_expected.few;
  told = λ unexpected there. are.are_expected.told (are_in_order text ts at there.before few has there.place) there;
}

-- advice comes first
advice_first : (ts : List Tok) (code : Code) (at : ℕ) (notes : List Note) → AreNotesOnTokens ts code at notes → AreInOrder ts at →
    (note : Note) → IsAdvice ts code at note → slice_get notes 0 ≡ Some note
advice_first ts code at notes are order note is =
    let told : are.advice ≡ note ∷ [] = are.advised.told order is.unexpected is.before is.place ∙ ap (λ (o : Option Note). option_to_list o) is.first in
    ap (λ (l : List Note). slice_get l 0) (are.parts ∙ ap (λ (l : List Note). l ++ are.expected) told)

-- tokens without a tree give all notes
pub without_tree : (text : List ℕ) (ts : List Tok) (code : Code) (at : ℕ) (notes : List Note) → IsFaultless text →
    (IsMarkFault text code at → ⊥) → HasTokens text ts →
    Only text ts → ((ds : List Decl) → HasTree ts ds → ⊥) → AreNotesOnTokens ts code at notes → AreTextNotes text code at notes
without_tree text ts code at notes no_fault other has only none are = let few = within_limit text no_fault in record {
  are_true = all_of_tokens text ts code at notes few has are;
  single = single_of_tokens ts code at notes are;
  told = λ us ds short h told. absurd (none ds (subst (λ (l : List Tok). HasTree l ds) (only us short h.has_tokens) h.has_tree));
  each_once = λ us unexpected short have.
      subst (λ (l : List Tok). AreEachOnce l code at notes) (sym (only us short have)) (once_of_tokens text ts code at notes few has are);
  advised = λ us note short have unexpected first.
      let there = subst (λ (l : List Tok). IsAdvice l code at note) (only us short have) first in
      advice_first ts code at notes are (are_in_order text ts at there.before few has there.place) note there;
  marked = λ mark. absurd (other mark);
  limited = λ words is limit. absurd (no_fault LimitExceeded at (fault_of limit));
}

-- notes on the tree are notes on the text
all_of_tree : (text : List ℕ) (ts : List Tok) (ds : List Decl) (code : Code) (at : ℕ) (notes : List Note) →
    length text ≤ SOURCE_LIMIT → HasTextTree text ts ds →
    All (IsTrueNote ts ds code at) notes → All (IsTrueTextNote text code at) notes
all_of_tree text ts ds code at notes few has all =
    All-weaker (IsTrueNote ts ds code at) (IsTrueTextNote text code at) (λ note is. of_tree few has is) notes all

-- tokens with a tree have no unexpected token
no_unexpected : (ts : List Tok) (ds : List Decl) (at : ℕ) → HasTree ts ds → IsUnexpected ts at → ⊥
no_unexpected ts ds at tree fault = fault.no_program ds fault.after (subst (Spells ds) fault.parts tree.0)

-- a tree gives no note on an unexpected token
once_of_tree : (ts : List Tok) (ds : List Decl) (code : Code) (at : ℕ) (notes : List Note) → HasTree ts ds → code ≡ UnexpectedToken →
    All (IsTrueNote ts ds code at) notes → AreEachOnce ts code at notes
once_of_tree ts ds code at notes tree is all = record {
  advice = [];
  expected = [];
  parts = none_true (IsTrueNote ts ds UnexpectedToken at) notes (subst (λ (c : Code). All (IsTrueNote ts ds c at) notes) is all) (λ note no. no);
  are_advice = λ k d lt. absurd (omega arith);
  one_advice = omega arith;
  are_expected = λ k d lt. absurd (omega arith);
  one_expected = omega arith;
  told = λ unexpected there. absurd (no_unexpected ts ds at tree unexpected);
}

pub with_tree : (text : List ℕ) (ts : List Tok) (ds : List Decl) (code : Code) (at : ℕ) (notes : List Note) →
    ((us : List Tok) (a b : List Decl) → HasTree us a → HasTree us b → a ≡ b) → IsFaultless text →
    (IsMarkFault text code at → ⊥) → HasTokens text ts → Only text ts → HasTree ts ds → AreNotes ts ds code at notes → AreTextNotes text code at notes
with_tree text ts ds code at notes one no_fault other has only tree are = let few = within_limit text no_fault in record {
  are_true = all_of_tree text ts ds code at notes few (record { has_tokens = has; has_tree = tree }) are.are_true;
  single = λ other_code. are.single;
  told = λ us es short h told.
      let same = only us short h.has_tokens in
      let alike = one ts es ds (subst (λ (l : List Tok). HasTree l es) same h.has_tree) tree in
      are.told (subst (λ (l : List Tok). IsTold l ds code at) same (subst (λ (d : List Decl). IsTold us d code at) alike told));
  each_once = λ us unexpected short have.
      subst (λ (l : List Tok). AreEachOnce l code at notes) (sym (only us short have)) (once_of_tree ts ds code at notes tree unexpected are.are_true);
  advised = λ us note short have unexpected first.
      absurd (no_unexpected ts ds at tree (subst (λ (l : List Tok). IsUnexpected l at) (only us short have) unexpected));
  marked = λ mark. absurd (other mark);
  limited = λ words is limit. absurd (no_fault LimitExceeded at (fault_of limit));
}

-- the notes on a byte order mark
pub of_its_mark : (text : List ℕ) (code : Code) (at : ℕ) → IsMarkFault text code at →
    AreTextNotes text code at (note_of_all mark_words ∷ [])
of_its_mark text code at mark = record {
  are_true = alone (IsTrueTextNote text code at) (note_of_all mark_words) (of_mark mark refl);
  single = λ other_code. omega arith;
  told = λ ts ds short h told. omega arith;
  each_once = λ us unexpected short have. absurd (let no : BadCharacter ≡ UnexpectedToken = sym mark.bad ∙ unexpected in cc);
  advised = λ us note short have unexpected first. absurd (let no : BadCharacter ≡ UnexpectedToken = sym mark.bad ∙ first.unexpected in cc);
  marked = λ mark. omega arith;
  limited = λ words limited limit. omega arith;
}
