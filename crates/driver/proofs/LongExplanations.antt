-- A text that is longer than a program may be is explained as its beginning is.
use Rattle.std.proofs.Common.{Bool, true, false, ◌≡◌, ◌∙◌, ◌<◌, ◌≤◌, ◌+◌, ◌++◌, ℕ, suc, List, [], ◌∷◌, take, length}
use Rattle.std.proofs.Common.{Option, Some, None, refl, sym, ap, ap₂, arith, ⊎_elim}
use Rattle.std.proofs.lemmas.Bool.{cases_lt}
use Rattle.std.proofs.lemmas.List.{take_all, length-take}
use Rattle.std.proofs.lemmas.List.Elements.{All-weaker}
use Rattle.std.specs.List.{flat_map}
use Rattle.std.specs.Prelude.{All, IfSome}
use Rattle.code.specs.Listing.{line}
use Rattle.explanation.specs.Explanation.{explanation_text}
use Rattle.explanation.specs.Working.Laws.{ShownByFirstBytes}
use Rattle.explanation.specs.Remedies.{remedy_text}
use Rattle.explanation.specs.Shown.{shown_place}
use Rattle.explanation.specs.Json.{fault_json}
use Rattle.explanation.specs.Working.JsonLaws.{FaultByFirstBytes}
use Rattle.explanation.specs.Further.{Further, nothing_further}
use Rattle.explanation_faults.specs.FurtherFaults.{AreFurther, others, none as none_behind}
use Rattle.explanation.specs.Notes.{Note, note_text, told_text}
use Rattle.explanation_faults.specs.TextNotes.{IsTextLimit, source, a_name, IsTrueTextNote, of_tree, of_tokens}
use Rattle.explanation_faults.specs.TextNotes.{of_advice, of_mark}
use Rattle.explanation_faults.specs.TextNotes.{of_limit as of_text_limit, AreTextNotes}
use Rattle.source.specs.declared.fault.Code.{Code}
use Rattle.source.specs.declared.fault.Code.TheVariants.{LimitExceeded, LockOrderCycle}
use Rattle.source.specs.declared.fault.Fault.{Fault}
use Rattle.source.specs.Faults.{fault_text}
use Rattle.source.specs.Texts.{SOURCE_LIMIT}
use Rattle.driver.specs.declared.status.Status.{Status}
use Rattle.driver.specs.declared.status.Status.TheVariants.{Refused}
use Rattle.driver.specs.Explanations.{ExplainAnswers, faultless, explained, fault_told, in_color}
use Rattle.driver_words.specs.declared.line.Color.{Color}
use Rattle.explanation.specs.Warnings.{Warning}
use Rattle.explanations.specs.Told as told
use Rattle.explanations.specs.Told.{IsToldOf, accepted, faulty}
use Rattle.driver.proofs.LongTexts.{IsLong, none_accepted, given_of_long, of_limit, starts_at_0, told_alike}

place_alike : (t u : List ℕ) (start : ℕ) → start ≡ 0 → shown_place t 0 ≡ shown_place u 0 →
    shown_place t start ≡ shown_place u start
place_alike t u start first same = rw first same

joined : (code : Code) (told other shown more notes rest : List ℕ) → told ≡ other → shown ≡ more → notes ≡ rest →
    line told ++ shown ++ notes ++ remedy_text code ++ [] ≡ line other ++ more ++ rest ++ remedy_text code ++ []
joined code told other shown more notes rest e g h = rw (e, g, h) refl

-- ---- notes on no place

abbrev AreOfWhole : List Note → Type 0
AreOfWhole notes = All (λ (note : Note). note.start ≡ None) notes

note_alike : (file t u : List ℕ) (note : Note) → note.start ≡ None → note_text file t note ≡ note_text file u note
note_alike file t u note none =
    ap (λ (start : Option ℕ). told_text file t start note.words) none ∙ sym (ap (λ (start : Option ℕ). told_text file u start note.words) none)

notes_alike : (file t u : List ℕ) (notes : List Note) → AreOfWhole notes →
    flat_map (note_text file t) notes ≡ flat_map (note_text file u) notes
notes_alike file t u [] none = refl
notes_alike file t u (note ∷ notes) none =
    ap₂ (λ (a b : List ℕ). a ++ b) (note_alike file t u note (none 0 note (omega arith)))
    (notes_alike file t u notes (λ k d lt. none (suc k) d (omega arith)))

explained_alike : (file t u : List ℕ) (fault : Fault) (notes : List Note) → fault.start ≡ 0 → AreOfWhole notes →
    shown_place t 0 ≡ shown_place u 0 →
    explanation_text file t fault notes nothing_further ≡ explanation_text file u fault notes nothing_further
explained_alike file t u fault notes first whole same =
    joined fault.code (fault_text file t fault) (fault_text file u fault) (shown_place t fault.start) (shown_place u fault.start) _ _
    (told_alike file t u fault first) (place_alike t u fault.start first same) (notes_alike file t u notes whole)

-- faults at the beginning of the two texts are written alike, in JSON too
abbrev AreAlike : List ℕ → List ℕ → List ℕ → Type 0
AreAlike file t u =
    (shown_place t 0 ≡ shown_place u 0)
    × ((fault : Fault) (notes : List Note) → fault.start ≡ 0 → AreOfWhole notes →
    fault_json file t fault notes nothing_further ≡ fault_json file u fault notes nothing_further)

told_of_start : (json : Bool) (color : Color) (file t u : List ℕ) (fault : Fault) (notes : List Note) → fault.start ≡ 0 →
    AreOfWhole notes → AreAlike file t u →
    fault_told json color file t fault notes nothing_further ≡ fault_told json color file u fault notes nothing_further
told_of_start true color file t u fault notes first whole are = are.1 fault notes first whole
told_of_start false color file t u fault notes first whole are =
    ap (in_color color) (explained_alike file t u fault notes first whole are.0)

-- ---- texts that are too long

of_whole : {text : List ℕ} {code : Code} {at : ℕ} {note : Note} → IsLong text → IsTrueTextNote text code at note →
    note.start ≡ None
of_whole long (of_tree few has is) = absurd (omega arith)
of_whole long (of_tokens few has is) = absurd (omega arith)
of_whole long (of_advice few has is) = absurd (omega arith)
of_whole long (of_mark mark said) = absurd (omega (arith, mark.few))
of_whole long (of_text_limit is limit said) = ap (λ (note : Note). note.start) said

-- both texts pass the same limit
limit_alike : {t u words : List ℕ} {at : ℕ} → IsLong t → IsLong u → IsTextLimit t at words → IsTextLimit u at words
limit_alike long longer (source l) = source longer
limit_alike long longer (a_name x few over) = absurd (omega arith)

true_alike : {t u : List ℕ} {code : Code} {at : ℕ} {note : Note} → IsLong t → IsLong u →
    IsTrueTextNote t code at note → IsTrueTextNote u code at note
true_alike long longer (of_tree few has is) = absurd (omega arith)
true_alike long longer (of_tokens few has is) = absurd (omega arith)
true_alike long longer (of_advice few has is) = absurd (omega arith)
true_alike long longer (of_mark mark said) = absurd (omega (arith, mark.few))
true_alike long longer (of_text_limit is limit said) = of_text_limit is (limit_alike long longer limit) said

tell_alike : (t u : List ℕ) (code : Code) (at : ℕ) (notes : List Note) → IsLong t → IsLong u →
    AreTextNotes t code at notes → AreTextNotes u code at notes
tell_alike t u code at notes long longer are = record {
  are_true = All-weaker (IsTrueTextNote t code at) (IsTrueTextNote u code at) (λ note is. true_alike long longer is) notes are.are_true;
  single = are.single;
  told = λ tokens decls few has told. absurd (omega arith);
  each_once = λ tokens unexpected few has. absurd (omega arith);
  advised = λ tokens note few has unexpected first. absurd (omega arith);
  marked = λ mark. absurd (omega (arith, mark.few));
  limited = λ words is limit. are.limited words is (limit_alike longer long limit);
}

-- a fault of a text that is too long is reported alone
alone_of_long : {text : List ℕ} {code : Code} {at : ℕ} {further : Further} → IsLong text → AreFurther text code at further →
    further ≡ nothing_further
alone_of_long long (others few has are behind) = absurd (omega arith)
alone_of_long long (none_behind other) = refl

pub no_cycle : (fault : Fault) → fault.code ≡ LimitExceeded → fault.code ≡ LockOrderCycle → ⊥
no_cycle fault limit cycle = absurd cc

module _ (json : Bool) (color : Color) (file t u : List ℕ) (status : Status) (out err : List ℕ) (long : IsLong t) (longer : IsLong u)
    (same : AreAlike file t u) where
  fault_of_long : (fault : Fault) (notes : List Note) (further : Further) → IsToldOf t (faulty fault notes further) → status ≡ Refused →
      out ≡ fault_told json color file t fault notes further → err ≡ [] → ExplainAnswers json color file u status out err
  fault_of_long fault notes further (told.explained is) ended written none =
      explained (record {
        fault = fault;
        notes = notes;
        further = nothing_further;
        tell = told.explained (record {
          given = given_of_long t u fault long longer is.given;
          bare = is.bare;
          tell = tell_alike t u fault.code fault.start notes long longer is.tell;
          others = none_behind (λ tokens decls few has first. absurd (omega arith));
        });
        ended = ended;
        written = written ∙ ap (fault_told json color file t fault notes) (alone_of_long long is.others) ∙ told_of_start json color file t u fault notes (starts_at_0 t fault long is.given)
            (All-weaker (IsTrueTextNote t fault.code fault.start) (λ (note : Note). note.start ≡ None) (λ note true_note. of_whole long true_note)
            notes is.tell.are_true) same;
        told = none;
      })
  fault_of_long fault notes further (told.cycle_explained is) ended written none =
      absurd (no_cycle fault (of_limit t fault long is.given) is.of_cycle.code)

  not_accepted : (notes : List Note) (warnings : List Warning) → IsToldOf t (accepted notes warnings) → ⊥
  not_accepted notes warnings (told.faultless is) = none_accepted t is.program long is.accepts

  explained_of_long : ExplainAnswers json color file t status out err → ExplainAnswers json color file u status out err
  explained_of_long (faultless is) = absurd (not_accepted is.notes is.warnings is.tell)
  explained_of_long (explained is) = fault_of_long is.fault is.notes is.further is.tell is.ended is.written is.told

-- an answer for the beginning of a text is an answer for the text
pub explained_of_whole : ShownByFirstBytes → FaultByFirstBytes →
    (json : Bool) (color : Color) (file t : List ℕ) (had : Option (List ℕ)) (status : Status) (out err : List ℕ) →
    IfSome had (λ bytes. t ≡ take (SOURCE_LIMIT + 1) bytes) → ExplainAnswers json color file t status out err →
    (text : List ℕ) × IfSome had (λ bytes. text ≡ bytes) × ExplainAnswers json color file text status out err
explained_of_whole law by_first json color file t None status out err read answers = (t, tt, answers)
explained_of_whole law by_first json color file t (Some bytes) status out err read answers =
    ⊎_elim
    (λ (many : SOURCE_LIMIT < length bytes).
    let long : SOURCE_LIMIT < length t = rw read (omega (arith, length-take (SOURCE_LIMIT + 1) bytes)) in
    let same : shown_place t 0 ≡ shown_place bytes 0 = rw read (law (SOURCE_LIMIT + 1) bytes (omega arith)) in
    let json_same : (fault : Fault) (notes : List Note) → fault.start ≡ 0 → AreOfWhole notes →
    fault_json file t fault notes nothing_further ≡ fault_json file bytes fault notes nothing_further =
    λ fault notes first whole.
    ap (λ (x : List ℕ). fault_json file x fault notes nothing_further) read ∙ by_first (SOURCE_LIMIT + 1) file bytes fault notes (omega arith) first whole in
    (bytes, refl, explained_of_long json color file t bytes status out err long many (same, json_same) answers))
    (λ (few : length bytes ≤ SOURCE_LIMIT).
    let same : t ≡ bytes = read ∙ take_all (SOURCE_LIMIT + 1) bytes (omega arith) in (t, same, answers))
    (cases_lt SOURCE_LIMIT (length bytes))
