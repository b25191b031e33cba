-- The possible ends of the cells and the calls of a program.
use Rattle.std.specs.Prelude.{◌≡◌, ◌≢◌, ℕ, ◌<◌, ◌≤◌, ◌⊎◌, Bool, true, false, List, [], ◌∷◌, if◌then◌else◌, length, map}
use Rattle.std.specs.Prelude.{All, AllPairs, Any, Contains, count_by, sum_by, replicate, Option, Some, None, option_map, slice_set}
use Rattle.std.specs.Prelude.{slice_index, slice_index_or}
use Rattle.core_lang.specs.declared.value.Value.{Value}
use Rattle.core_lang.specs.declared.value.Value.TheVariants.{Ref}
use Rattle.core_lang.specs.declared.value.Outcome as ended
use Rattle.core_lang.specs.declared.typed.Typed.{Typed}
use Rattle.core_lang.specs.Serial.{Invocation, Ended, Progress, SerialFromOpening, opening_heap, run_call, serial_with}
use Rattle.core_lang.specs.Whole.{Beyond_turns}
use Rattle.core_lang.specs.WellFormed.{calls_together}
use Rattle.outcomes.specs.declared.outcome.Asked.{Asked}
use Rattle.outcomes.specs.declared.outcome.Cells.{Cells}
use Rattle.outcomes.specs.declared.outcome.Cells.TheVariants.{Every, These}
use Rattle.outcomes.specs.declared.outcome.FinalState.{FinalState}
use Rattle.outcomes.specs.declared.outcome.Found.{Found}
use Rattle.outcomes.specs.declared.outcome.Found.TheVariants as found
use Rattle.outcomes.specs.Orders.{orders, next_call, one_more, none_done, call_number, calls_of, calls_in}

-- the state that calls leave: the values of the cells, and, if asked, how each call of all threads ended, thread 0's
-- calls first, with None for a call that was not made
pub record Left : Type 0 where
  pub cells : List Value
  pub answers : List (Option ended.Outcome)

-- the outcomes before the first call; the empty list, if they are not asked for
abbrev pub no_answers : Bool → Typed → List (Option ended.Outcome)
no_answers false program = []
no_answers true program = replicate (calls_together program.threads.items) None

-- the state before the first call: the opening heap, and no outcome
abbrev pub opening_left : Typed → Bool → Left
opening_left program answers = record { cells = opening_heap program; answers = no_answers answers program }

-- the outcomes with that of thread t's next call, after `done` calls of each thread; the empty list stays empty
abbrev pub answered : Typed → List ℕ → ℕ → ended.Outcome → List (Option ended.Outcome) → List (Option ended.Outcome)
answered program done t outcome answers = slice_set answers (call_number program t (slice_index done t)) (Some outcome)

-- the outcomes with those of the calls of an order
abbrev pub answers_after : Typed → List ℕ → List ℕ → List Ended → List (Option ended.Outcome) → List (Option ended.Outcome)
answers_after program done [] ends answers = answers
answers_after program done (t ∷ order) [] answers = answers
answers_after program done (t ∷ order) (e ∷ ends) answers =
    answers_after program (one_more done t) order ends (answered program done t e.outcome answers)

-- the order has all calls of the program, and these, run whole one after another from the opening heap, leave this
-- state
pub record EndsIn (program : Typed) (answers : Bool) (order : List ℕ) (left : Left) : Type 0 where
  pub is_order : Contains (orders program) order
  pub ends : List Ended
  pub serial : SerialFromOpening program (calls_in program order) ends left.cells
  pub answered : left.answers ≡ answers_after program (none_done program) order ends (no_answers answers program)

-- the state, if no call is left unsettled
abbrev pub left_if_settled : List Invocation → Left → Option Left
left_if_settled [] left = Some left
left_if_settled (call ∷ calls) left = None

-- the state that the calls of an order leave, if the turns settle them all
abbrev pub left_by : Typed → List ℕ → List ℕ → List (Option ended.Outcome) → Progress → Option Left
left_by program done order answers p =
    left_if_settled p.unsettled (record { cells = p.heap; answers = answers_after program done order p.ends answers })

-- the state that the calls of an order leave from a state, with n turns for each execution of a loop; none, if the
-- turns don't settle them all
abbrev pub end_from : Typed → ℕ → List ℕ → Left → List ℕ → Option Left
end_from program n done left order =
    left_by program done order left.answers (serial_with program n left.cells (calls_of program done order))

-- the end of an order of calls from the opening, with n turns for each execution of a loop
abbrev pub end_in : Typed → ℕ → Bool → List ℕ → Option Left
end_in program n answers order = end_from program n (none_done program) (opening_left program answers) order

-- ---- the reported ends

-- the values of the cells that are asked for
abbrev pub seen_cells : Cells → List Value → List Value
seen_cells Every cells = cells
seen_cells (These numbers) cells = map (λ (k : ℕ). slice_index_or cells k (Ref None)) numbers.items

-- the part of a state by which ends are distinguished: the cells that are asked for, and the outcomes
abbrev pub seen : Cells → Left → Left
seen cells left = record { cells = seen_cells cells left.cells; answers = left.answers }

-- a reported end: that part of the state, the number of orders that lead to it, and one of them
pub record Told : Type 0 where
  pub left : Left
  pub count : ℕ
  pub order : List ℕ

abbrev pub told_of : FinalState → Told
told_of o = record { left = record { cells = o.cells.items; answers = o.answers.items }; count = o.count; order = o.order.items }

-- the sum of the reported numbers of orders, over the ends that pass a test
abbrev pub told_count : (Option Left → Bool) → List Told → ℕ
told_count test told = sum_by (λ (e : Told). if test (Some e.left) then e.count else 0) told

-- the reported order leads to the reported end
abbrev pub IsEndOf : Typed → Asked → Told → Type 0
IsEndOf program asked e = (left : Left) × EndsIn program asked.answers e.order left × (e.left ≡ seen asked.cells left)

-- the end of every order of the calls is reported
abbrev pub TellsEveryEnd : Typed → Asked → List Told → Type 0
TellsEveryEnd program asked told =
    (order : List ℕ) (left : Left) → EndsIn program asked.answers order left → Any (λ (e : Told). e.left ≡ seen asked.cells left) told

-- for each test, the number of the given orders whose end passes it is the sum of the reported numbers
abbrev pub TellsCounts : Typed → ℕ → Asked → List (List ℕ) → List Told → Type 0
TellsCounts program n asked given told =
    (test : Option Left → Bool) →
    count_by (λ (order : List ℕ). test (option_map (seen asked.cells) (end_in program n asked.answers order))) given
    ≡ told_count test told

-- the report has the ends of all orders, each once, with the number of orders that lead to it
pub record AreAllEnds (program : Typed) (n most : ℕ) (asked : Asked) (told : List Told) : Type 0 where
  -- the program has at most `most` orders, or no call
  pub few : (length (orders program) ≤ most) ⊎ (calls_together program.threads.items ≡ 0)
  -- each end is that of its reported order
  pub each : All (IsEndOf program asked) told
  -- no two ends are equal
  pub apart : AllPairs (λ (a b : Told). a.left ≢ b.left) told
  -- the number of orders that lead to each end is the reported one
  pub counts : TellsCounts program n asked (orders program) told
  -- the end of every order is reported
  pub all : TellsEveryEnd program asked told

-- the turns settle the calls of the order, and its end is reported
pub record IsTold (program : Typed) (n : ℕ) (asked : Asked) (told : List Told) (order : List ℕ) : Type 0 where
  pub left : Left
  pub end : end_in program n asked.answers order ≡ Some left
  pub there : Any (λ (e : Told). e.left ≡ seen asked.cells left) told

-- the report has the ends of all orders, each once, where only some orders were run, which stand for all, since the
-- program has more than `most` orders
pub record AreEndsOfAll (program : Typed) (n most : ℕ) (asked : Asked) (told : List Told) : Type 0 where
  pub more : most < length (orders program)
  -- each end is that of its reported order
  pub each : All (IsEndOf program asked) told
  -- no two ends are equal
  pub apart : AllPairs (λ (a b : Told). a.left ≢ b.left) told
  -- the turns settle the calls of every order, and its end is reported
  pub settled : (order : List ℕ) → Contains (orders program) order → IsTold program n asked told order
  -- the end of every order is reported
  pub all : TellsEveryEnd program asked told

-- the report has the ends of orders that were drawn, each once, with the number of drawn orders that lead to it, since
-- the program has more than `most` orders
pub record AreDrawnEnds (program : Typed) (n most : ℕ) (asked : Asked) (told : List Told) : Type 0 where
  pub more : most < length (orders program)
  -- `most` orders were drawn, some maybe more than once
  pub drawn : List (List ℕ)
  pub are_orders : All (Contains (orders program)) drawn
  pub as_many : length drawn ≡ most
  -- each end is that of its reported order
  pub each : All (IsEndOf program asked) told
  -- that order was drawn
  pub was_drawn : All (λ (e : Told). Contains drawn e.order) told
  -- no two ends are equal
  pub apart : AllPairs (λ (a b : Told). a.left ≢ b.left) told
  -- the number of drawn orders that lead to each end is the reported one
  pub counts : TellsCounts program n asked drawn told

-- the number of each thread's calls that are done after an order
abbrev pub done_after : List ℕ → List ℕ → List ℕ
done_after done [] = done
done_after done (t ∷ order) = done_after (one_more done t) order

-- the calls of the order, run whole one after another from the opening heap, lead to a state in which n turns don't
-- settle the next call of the thread
pub record StopsAfter (program : Typed) (n : ℕ) (order : List ℕ) (thread : ℕ) : Type 0 where
  pub ends : List Ended
  pub heap : List Value
  pub serial : SerialFromOpening program (calls_in program order) ends heap
  pub made : length (calls_in program order) ≡ length order
  pub call : Invocation
  pub next : next_call program (done_after (none_done program) order) thread ≡ Some call
  pub beyond : run_call program n call heap ≡ Beyond_turns

-- ---- states

-- a configuration: the number of each thread's calls that are done, and the state that they leave
pub record Configuration : Type 0 where
  pub done : List ℕ
  pub left : Left

-- the calls of some order, each the next one of its thread, run whole one after another from the opening heap, lead to
-- the configuration
pub record LeadsTo (program : Typed) (answers : Bool) (configuration : Configuration) : Type 0 where
  pub order : List ℕ
  pub made : length (calls_in program order) ≡ length order
  pub done : done_after (none_done program) order ≡ configuration.done
  pub ends : List Ended
  pub serial : SerialFromOpening program (calls_in program order) ends configuration.left.cells
  pub answered : configuration.left.answers ≡ answers_after program (none_done program) order ends (no_answers answers program)

-- the list has all configurations to which orders lead, each once
pub record AreAllConfigurations (program : Typed) (answers : Bool) (configurations : List Configuration) : Type 0 where
  pub each : All (LeadsTo program answers) configurations
  pub apart : AllPairs (λ (a b : Configuration). a ≢ b) configurations
  pub all : (configuration : Configuration) → LeadsTo program answers configuration → Contains configurations configuration

-- the program has exactly `count` configurations
abbrev pub HasConfigurations : Typed → Bool → ℕ → Type 0
HasConfigurations program answers count =
    (configurations : List Configuration) × AreAllConfigurations program answers configurations × (length configurations ≡ count)

-- the list has some configurations to which orders lead, each once
pub record AreConfigurations (program : Typed) (answers : Bool) (configurations : List Configuration) : Type 0 where
  pub each : All (LeadsTo program answers) configurations
  pub apart : AllPairs (λ (a b : Configuration). a ≢ b) configurations

-- the program has at least `count` configurations
abbrev pub HasSomeConfigurations : Typed → Bool → ℕ → Type 0
HasSomeConfigurations program answers count =
    (configurations : List Configuration) × AreConfigurations program answers configurations × (length configurations ≡ count)

-- the result of a search. `All`: the ends of all orders, and the number of configurations. `Reduced`: the ends of all
-- orders, found by running some that stand for all, and the number of configurations that these reach. `Drawn`: the
-- ends of orders that were drawn. `Unsettled`: an order after which n turns don't settle the next call of a thread
abbrev pub Finds : Typed → ℕ → ℕ → Asked → Found → Type 0
Finds program n most asked (found.All ends configurations) =
    AreAllEnds program n most asked (map told_of ends.items) × HasConfigurations program asked.answers configurations
Finds program n most asked (found.Reduced ends configurations) =
    AreEndsOfAll program n most asked (map told_of ends.items) × HasSomeConfigurations program asked.answers configurations
Finds program n most asked (found.Drawn ends) = AreDrawnEnds program n most asked (map told_of ends.items)
Finds program n most asked (found.Unsettled order thread) = StopsAfter program n order.items thread
