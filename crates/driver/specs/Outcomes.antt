-- The answers of `outcomes`.
use Rattle.std.specs.Prelude.{◌≡◌, ℕ, List, [], ◌∷◌, ◌++◌, slice_index, Option, Some, None, option_map, option_to_list, codes}
use Rattle.std.specs.Prelude.{true, false, Result, Ok, Err}
use Rattle.std.specs.Fmt.{decimal}
use Rattle.code.specs.Listing.{line}
use Rattle.core_lang.specs.declared.typed.Typed.{Typed}
use Rattle.core_lang.specs.Serial.{Invocation, Scheduled}
use Rattle.outcomes.specs.Ends.{Told, AreAllEnds, AreEndsOfAll, AreDrawnEnds, HasConfigurations, HasSomeConfigurations}
use Rattle.outcomes.specs.Ends.{StopsAfter, done_after}
use Rattle.outcomes.specs.Orders.{next_call, one_more, none_done}
use Rattle.outcomes.specs.declared.outcome.Asked.{Asked}
use Rattle.report_runs.specs.Names.{is_known, names_in, names_together, first_unknown, AreAsked}
use Rattle.report_runs.specs.Outcomes.{outcomes_text}
use Rattle.report_runs.specs.declared.ends.Scope.{Scope}
use Rattle.report_runs.specs.declared.ends.Scope.TheVariants.{All as Every_order, Reduced, Drawn}
use Rattle.report.specs.History.{unsettled_of}
use Rattle.report_runs.specs.declared.comparison.Comparison.{Comparison}
use Rattle.report_runs.specs.ExpectationTexts.{Said, meaning_of}
use Rattle.report_runs.specs.ExpectationCells.{has_reference, first_bad, names_of, IsResolved}
use Rattle.report_runs.specs.Breaches.{breach_in, expected_text}
use Rattle.driver_words.specs.declared.line.OutcomesOptions.{OutcomesOptions}
use Rattle.driver.specs.declared.status.Status.{Status}
use Rattle.driver.specs.declared.status.Status.TheVariants.{Done, BadInput, Unsettled, Unexpected}
use Rattle.driver.specs.Serial.{entries}

-- the next call of a thread where the list has the number of finished calls of each thread, with the thread and the
-- call's step
abbrev pub scheduled_next : Typed → List ℕ → ℕ → Option Scheduled
scheduled_next program done t =
    option_map (λ (call : Invocation). record { thread = t; step = slice_index done t; call = call }) (next_call program done t)

-- the calls of an order after the given number of finished calls of each thread
abbrev pub scheduled_from : Typed → List ℕ → List ℕ → List Scheduled
scheduled_from program done [] = []
scheduled_from program done (t ∷ order) = option_to_list (scheduled_next program done t) ++ scheduled_from program (one_more done t) order

-- the calls of an order from the opening on, each with its thread and its step
abbrev pub scheduled_in : Typed → List ℕ → List Scheduled
scheduled_in program order = scheduled_from program (none_done program) order

-- the given names of cells, if any are given
abbrev pub names_given : OutcomesOptions → Option (List ℕ)
names_given looking = option_map (λ names. names.now) looking.cells

-- the text of what is expected, if something is
abbrev pub text_given : OutcomesOptions → Option (List ℕ)
text_given looking = option_map (λ text. text.now) looking.expect

-- what is expected of ends: a text, its meaning, and the comparison over the program's cells
pub record Expected : Type 0 where
  pub text : List ℕ
  pub said : Said
  pub comparison : Comparison

-- `e` is what the given text expects; nothing is expected where no text is given
abbrev pub IsExpected : Typed → Option (List ℕ) → Option Expected → Type 0
IsExpected program None None = Unit {0}
IsExpected program None (Some e) = ⊥
IsExpected program (Some text) None = ⊥
IsExpected program (Some text) (Some e) = (e.text ≡ text) × (meaning_of text ≡ Ok e.said) × IsResolved program e.said e.comparison

-- what distinguishes ends: the given cells and those of what is expected; all cells, where neither is given
pub record IsAsked (looking : OutcomesOptions) (program : Typed) (expected : Option Expected) (asked : Asked) : Type 0 where
  pub cells : AreAsked program (names_together (names_given looking) (option_map (λ (e : Expected). names_of e.said) expected)) asked.cells
  pub answers : asked.answers ≡ looking.answers

-- the first end that is not as expected
abbrev pub breach_of : Option Expected → Asked → List Told → Option Told
breach_of None asked ends = None
breach_of (Some e) asked ends = breach_in asked.cells e.comparison ends

-- the report on that end
abbrev pub judged : Typed → Option Expected → Asked → Scope → List Told → List ℕ
judged program None asked scope ends = []
judged program (Some e) asked scope ends =
    expected_text program asked.cells e.text scope (breach_in asked.cells e.comparison ends)

-- the status where an end is not as expected, and where all are
abbrev pub ended_by : Option Told → Status
ended_by None = Done
ended_by (Some breach) = Unexpected

-- there are at most the given number of orders, or no call: out reports the ends of all orders, the number of states on
-- them, and whether the ends are as expected; err is empty
pub record TellsAll (looking : OutcomesOptions) (program : Typed) (status : Status) (out err : List ℕ) : Type 0 where
  pub expected : Option Expected
  pub is_expected : IsExpected program (text_given looking) expected
  pub asked : Asked
  pub is_asked : IsAsked looking program expected asked
  pub ends : List Told
  pub all : AreAllEnds program looking.turns looking.count asked ends
  pub states : ℕ
  pub counted : HasConfigurations program asked.answers states
  pub ended : status ≡ ended_by (breach_of expected asked ends)
  pub written : out ≡ outcomes_text program asked looking.full (Every_order states) ends ++ judged program expected asked (Every_order states) ends
  pub told : err ≡ []

-- there are more orders than the given number, and the explored ones represent all: out reports the ends of all orders, the
-- number of explored states, and whether the ends are as expected; err is empty
pub record TellsReduced (looking : OutcomesOptions) (program : Typed) (status : Status) (out err : List ℕ) : Type 0 where
  pub expected : Option Expected
  pub is_expected : IsExpected program (text_given looking) expected
  pub asked : Asked
  pub is_asked : IsAsked looking program expected asked
  pub ends : List Told
  pub all : AreEndsOfAll program looking.turns looking.count asked ends
  pub states : ℕ
  pub counted : HasSomeConfigurations program asked.answers states
  pub ended : status ≡ ended_by (breach_of expected asked ends)
  pub written : out ≡ outcomes_text program asked looking.full (Reduced states) ends ++ judged program expected asked (Reduced states) ends
  pub told : err ≡ []

-- there are more orders than are explored: out reports the ends of the given number of drawn orders, and whether they
-- are as expected; err is empty
pub record TellsDrawn (looking : OutcomesOptions) (program : Typed) (status : Status) (out err : List ℕ) : Type 0 where
  pub expected : Option Expected
  pub is_expected : IsExpected program (text_given looking) expected
  pub asked : Asked
  pub is_asked : IsAsked looking program expected asked
  pub ends : List Told
  pub drawn : AreDrawnEnds program looking.turns looking.count asked ends
  pub ended : status ≡ ended_by (breach_of expected asked ends)
  pub written : out ≡ outcomes_text program asked looking.full Drawn ends ++ judged program expected asked Drawn ends
  pub told : err ≡ []

-- autolock: no cell is named NAME
abbrev pub unknown_cell : List ℕ → List ℕ
unknown_cell name = codes "autolock: no cell is named " ++ name

-- autolock: NAME holds no number
abbrev pub no_number : List ℕ → List ℕ
no_number name = codes "autolock: " ++ name ++ codes " holds no number"

-- the message `autolock: --expect: TEXT is not a comparison, at byte N`
abbrev pub no_comparison : List ℕ → ℕ → List ℕ
no_comparison text byte = codes "autolock: --expect: " ++ text ++ codes " is not a comparison, at byte " ++ decimal byte

-- the names in what is expected; none, where nothing is
abbrev pub AreExpectedNames : Option (List ℕ) → List (List ℕ) → Type 0
AreExpectedNames None names = names ≡ []
AreExpectedNames (Some text) names = (said : Said) × (meaning_of text ≡ Ok said) × (names ≡ names_of said)

-- of the expected names, and then of the given ones, this is the first bad one, and it does not stand for a cell
pub data IsNoCell (program : Typed) (expected : List (List ℕ)) (given : Option (List ℕ)) (name : List ℕ) : Type 0 where
  is_expected : first_bad program expected ≡ Some name → is_known program name ≡ false → IsNoCell program expected given name
  is_given : {text : List ℕ} →
      first_bad program expected ≡ None → given ≡ Some text → first_unknown program (names_in text) ≡ Some name →
      IsNoCell program expected given name

-- an expected or given name does not have a cell: nothing is written, and the first bad name is reported
pub record NamesNoCell (looking : OutcomesOptions) (program : Typed) (status : Status) (out err : List ℕ) : Type 0 where
  pub names : List (List ℕ)
  pub expected : AreExpectedNames (text_given looking) names
  pub name : List ℕ
  pub first : IsNoCell program names (names_given looking) name
  pub ended : status ≡ BadInput
  pub written : out ≡ []
  pub told : err ≡ line (unknown_cell name)

-- a cell of an expected name holds a reference: nothing is written, and the first bad name is reported
pub record NamesNoNumber (looking : OutcomesOptions) (program : Typed) (status : Status) (out err : List ℕ) : Type 0 where
  pub names : List (List ℕ)
  pub expected : AreExpectedNames (text_given looking) names
  pub name : List ℕ
  pub first : first_bad program names ≡ Some name
  pub reference : has_reference program name ≡ true
  pub ended : status ≡ BadInput
  pub written : out ≡ []
  pub told : err ≡ line (no_number name)

-- the text of what is expected does not have a meaning: nothing is written, and the byte up to which it can be read is
-- reported
pub record ExpectsNothing (looking : OutcomesOptions) (status : Status) (out err : List ℕ) : Type 0 where
  pub text : List ℕ
  pub given : text_given looking ≡ Some text
  pub byte : ℕ
  pub bad : meaning_of text ≡ Err byte
  pub ended : status ≡ BadInput
  pub written : out ≡ []
  pub told : err ≡ line (no_comparison text byte)

-- after the calls of an order the next call of a thread meets a loop that goes on after the turns: out is the text of
-- the serial meaning of the calls before it, and names this call; err is empty
pub record StopsInOrder (turns : ℕ) (program : Typed) (status : Status) (out err : List ℕ) : Type 0 where
  pub order : List ℕ
  pub thread : ℕ
  pub stops : StopsAfter program turns order thread
  pub ended : status ≡ Unsettled
  pub written : out ≡ unsettled_of program (entries (scheduled_in program order) stops.ends) thread
      (slice_index (done_after (none_done program) order) thread)
  pub told : err ≡ []

-- the answers of `outcomes` for a program
pub data IsLookedAt (looking : OutcomesOptions) (program : Typed) (status : Status) (out err : List ℕ) : Type 0 where
  all_told : TellsAll looking program status out err → IsLookedAt looking program status out err
  reduced_told : TellsReduced looking program status out err → IsLookedAt looking program status out err
  drawn_told : TellsDrawn looking program status out err → IsLookedAt looking program status out err
  unknown_named : NamesNoCell looking program status out err → IsLookedAt looking program status out err
  numberless : NamesNoNumber looking program status out err → IsLookedAt looking program status out err
  meaningless : ExpectsNothing looking status out err → IsLookedAt looking program status out err
  stopped : StopsInOrder looking.turns program status out err → IsLookedAt looking program status out err
