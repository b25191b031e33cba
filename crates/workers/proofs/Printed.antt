-- The room for prints suffices for a call.
use Rattle.std.proofs.Common.{◌≡◌, ◌≤◌, ◌<◌, ◌∙◌, ℕ, ℤ, List, length, map, Some, sym, ap, subst, arith, option_map, slice_get}
use Rattle.std.proofs.lemmas.List.{length-map}
use Rattle.std.proofs.lemmas.Option.{slice_get-map}
use Rattle.core_lang.specs.declared.value.Value.{Value}
use Rattle.core_lang.specs.declared.value.Outcome.{Outcome}
use Rattle.core_lang.specs.Serial.{Invocation}
use Rattle.core_lang.specs.WellFormed.{CanCall}
use Rattle.core_lang_helpers.specs.Prints.{most_prints}
use Rattle.core_lang_helpers.specs.Laws.{NoRunPrintsMore}
use Rattle.history.specs.Commits.{Commit, committed}
use Rattle.lowering.specs.Plans.{Plan}
use Rattle.runner.specs.Working.Opens.{OpenOf, ReadyOf, IsItsEntry, IsSame}
use Rattle.workers.specs.Answers.{IsAnswer}
use Rattle.workers.specs.Working.Within.{HasBegun, HasRoomFor, IsEntered}
use Rattle.workers.proofs.Seats.{answer_from, called_within}

-- the rooms of a program's sections
abbrev AreRooms : Plan → List ℕ → Type 0
AreRooms plan rooms = rooms ≡ map most_prints plan.program.sections.items

-- a section that can be called has such a room
pub room_within : (plan : Plan) (rooms : List ℕ) (section : ℕ) (arguments : List Value) → AreRooms plan rooms →
    CanCall plan.program section arguments → section < length rooms
room_within plan rooms section arguments are can =
    let sections = plan.program.sections.items in
    omega (arith, called_within plan.program section arguments can, length-map sections most_prints, ap length are)

some_same : (n m : ℕ) → Some n ≡ Some m → n ≡ m
some_same n m e = cc e

-- the room is enough
pub has_room : (plan : Plan) (rooms : List ℕ) (number prints room : ℕ) → AreRooms plan rooms →
    slice_get rooms number ≡ Some prints → prints ≤ room → HasRoomFor plan number room
has_room plan rooms number prints room are here enough section there =
    let most : Some prints ≡ Some (most_prints section) =
    sym here ∙ ap (λ (ns : List ℕ). slice_get ns number) are ∙ slice_get-map most_prints plan.program.sections.items number
    ∙ ap (option_map most_prints) there in
    omega (arith, some_same prints (most_prints section) most, enough)

-- the answer fits in the room
answer_fits : (plan : Plan) (call : Invocation) (position : ℕ) (outcome : Outcome) (prints : List ℤ) (room : ℕ) →
    NoRunPrintsMore → HasRoomFor plan call.section room → IsAnswer plan call position outcome prints → length prints ≤ room
answer_fits plan call position outcome prints room law has answer =
    let (section, there, whole) = answer.gives in
    let few = law section plan.program.shape call.arguments (committed plan.layout.opening answer.log) _ whole in
    omega (arith, few, has section there)

-- the entry of a call that began, was run to its end and was entered fits in the room
pub entry_fits : (plan : Plan) (floor position section room : ℕ) (arguments : List Value) (ready : ReadyOf) (b o : OpenOf) (e : Commit) →
    NoRunPrintsMore → HasRoomFor plan section room → HasBegun plan (record { section = section; arguments = arguments }) ready b → IsSame b o →
    IsItsEntry o e → IsEntered plan floor o position → length e.prints ≤ room
entry_fits plan floor position section room arguments ready b o e law has begun same its entered =
    let call : Invocation = record { section = section; arguments = arguments } in
    let called : o.activation.call ≡ call = same.call ∙ begun.call_is in
    answer_fits plan call position e.outcome e.prints room law has
    (subst (λ (i : Invocation). IsAnswer plan i position e.outcome e.prints) called (answer_from plan floor position o e its entered))
