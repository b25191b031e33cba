-- The turns of items do not depend on the places of the items in a file.
use Rattle.std.proofs.Common.{◌≡◌, ◌∙◌, ◌≤◌, ℕ, ◌+◌, ◌-◌, Bool, true, false, cond, List, [], ◌∷◌, Option, Some, None, Ok, Err}
use Rattle.std.proofs.Common.{ap, subst, refl, arith}
use Rattle.std.specs.Prelude.{⊤, nat_le, unwrap_or, Result}
use Rattle.std.proofs.lemmas.Bool.Decides.{nat_tests}
use Rattle.std.proofs.lemmas.List.Sums.{sum_by-cons}
use Rattle.core_lang.specs.declared.typed.Typed.{Typed}
use Rattle.interleavings.specs.Items.{steps_until, turn_and, turns_from, turns_in, turns_of, turns_said}
use Rattle.lowering.specs.Plans.{Plan}
use Rattle.input_files.specs.Steps.{counted, in_front, STEP_LIMIT}
use Rattle.input_files.specs.declared.item.Item.{Item}
use Rattle.input_files.specs.declared.item.Until.{Until}
use Rattle.input_files.specs.declared.item.Until.TheVariants.{Count, Stop, CallEnd}
use Rattle.input_files.specs.declared.steps_refusal.StepsFault.{StepsFault}
use Rattle.input_files.specs.declared.turn.Turn.{Turn}
use Rattle.worlds.specs.Worlds.{World, opening_world}
use Rattle.interleavings.specs.ScheduleLaws.{placed, TextsComeToTheirTurns}
use Rattle.interleavings.specs.Schedules.{counted_in}
use Rattle.interleavings.proofs.ReadBack.{texts_read_back}

abbrev Turns : Type 0
Turns = Result (List Turn) StepsFault

-- ---- turns count at most the remaining steps

abbrev IfTurns : Type 0 → Turns → Type 0
IfTurns P (Ok turns) = P
IfTurns P (Err fault) = ⊤

if_in_front : (P Q : Type 0) (some : List Turn) (said : Turns) → (P → Q) → IfTurns P said →
    IfTurns Q (in_front some said)
if_in_front P Q some (Ok turns) then holds = then holds
if_in_front P Q some (Err fault) then holds = tt

if_ok : (P : Type 0) (said : Turns) (turns : List Turn) → said ≡ Ok turns → IfTurns P said → P
if_ok P said turns is holds = subst (IfTurns P) is holds

count_left : (fits : Bool) (counts left count : ℕ) → (fits ≡ true → counts ≤ left) →
    cond fits (Some counts) None ≡ Some count →
    counts + (left - count) ≤ left
count_left true counts left count within is =
    let same : counts ≡ count = ap (λ (o : Option ℕ). unwrap_or o 0) is in
    omega (arith, same, within refl)
count_left false counts left count within is = absurd cc

steps_left : (plan : Plan) (t left : ℕ) (w : World) (until : Until) (count : ℕ) →
    steps_until plan t left w until ≡ Some count →
    counted until + (left - count) ≤ left
steps_left plan t left w (Count counts) count is =
    count_left (nat_le counts left) counts left count (λ fits. grind (arith, nat_tests)) is
steps_left plan t left w Stop count is = omega arith
steps_left plan t left w CallEnd count is = omega arith

first_within : (item : Item) (items : List Item) (left : ℕ) (steps : Option ℕ) (rest : ℕ → Turns) →
    ((count : ℕ) → steps ≡ Some count → counted item.until + (left - count) ≤ left) →
    ((count : ℕ) → IfTurns (counted_in items ≤ left - count) (rest count)) →
    IfTurns (counted_in (item ∷ items) ≤ left) (turn_and item steps rest)
first_within item items left None rest fits others = tt
first_within item items left (Some count) rest fits others =
    if_in_front (counted_in items ≤ left - count) (counted_in (item ∷ items) ≤ left)
    (record { thread = item.thread; count = count } ∷ []) (rest count)
    (λ few. omega (arith, few, fits count refl, sum_by-cons (λ (i : Item). counted i.until) item items)) (others count)

all_within : (plan : Plan) (items : List Item) (left : ℕ) (w : World) →
    IfTurns (counted_in items ≤ left) (turns_from plan left w items)
all_within plan [] left w = omega arith
all_within plan (item ∷ items) left w =
    first_within item items left (steps_until plan item.thread left w item.until) _
    (steps_left plan item.thread left w item.until) (λ count. all_within plan items (left - count) _)

-- ---- the same turns

abbrev Agrees : Turns → Turns → Type 0
Agrees (Ok turns) said = said ≡ Ok turns
Agrees (Err fault) said = ⊤

agrees_in_front : (some : List Turn) (a b : Turns) → Agrees a b → Agrees (in_front some a) (in_front some b)
agrees_in_front some (Ok turns) b same = ap (in_front some) same
agrees_in_front some (Err fault) b same = tt

agrees_ok : (a b : Turns) (turns : List Turn) → a ≡ Ok turns → Agrees a b → b ≡ Ok turns
agrees_ok a b turns is same = subst (λ (said : Turns). Agrees said b) is same

first_agrees : (item : Item) (start : ℕ) (steps : Option ℕ) (a b : ℕ → Turns) →
    ((count : ℕ) → Agrees (a count) (b count)) →
    Agrees (turn_and item steps a)
    (turn_and (record { thread = item.thread; until = item.until; start = start }) steps b)
first_agrees item start None a b same = tt
first_agrees item start (Some count) a b same =
    agrees_in_front (record { thread = item.thread; count = count } ∷ []) (a count) (b count) (same count)

all_agree : (plan : Plan) (program : Typed) (items : List Item) (start left : ℕ) (w : World) →
    Agrees (turns_from plan left w items) (turns_from plan left w (placed program start items))
all_agree plan program [] start left w = refl
all_agree plan program (item ∷ items) start left w =
    first_agrees item start (steps_until plan item.thread left w item.until) _ _
    (λ count. all_agree plan program items _ (left - count) _)

pub texts_come : TextsComeToTheirTurns
texts_come plan items turns named of_threads is =
    let within : counted_in items ≤ STEP_LIMIT =
    if_ok (counted_in items ≤ STEP_LIMIT) (turns_of plan items) turns is
    (all_within plan items STEP_LIMIT (opening_world plan)) in
    let placed_is : turns_of plan (placed plan.program 0 items) ≡ Ok turns =
    agrees_ok (turns_of plan items) (turns_of plan (placed plan.program 0 items)) turns is
    (all_agree plan plan.program items 0 STEP_LIMIT (opening_world plan)) in
    ap (turns_said plan) (texts_read_back plan.program items named of_threads within) ∙ placed_is
