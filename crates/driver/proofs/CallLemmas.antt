-- The calls of a well-formed program's scripts can be made.
use Rattle.std.proofs.Common.{◌≡◌, ◌∙◌, ℕ, ◌<◌, zero, suc, List, [], ◌∷◌, ◌++◌, map, length, get_or, slice_get, Some}
use Rattle.std.proofs.Common.{ap, sym, refl, arith, take, drop, drop-cons, add-one, ◌+◌}
use Rattle.std.proofs.lemmas.List.{map-append, take-append-drop}
use Rattle.core_lang.specs.declared.typed.Call.{Call}
use Rattle.core_lang.specs.declared.typed.Thread.{Thread}
use Rattle.core_lang.specs.declared.typed.Typed.{Typed}
use Rattle.core_lang.specs.Serial.{Scheduled, script_from, scripts_from, all_calls}
use Rattle.core_lang.specs.WellFormed.{IsChecked, CanCall}
use Rattle.driver.specs.Working.Running.{CanMake}

-- the calls of two lists of calls that can be made can be made, one list after the other
pub can_make_both : (program : Typed) (ss more : List Scheduled) → CanMake program ss → CanMake program more →
    CanMake program (ss ++ more)
can_make_both program [] more all rest = rest
can_make_both program (s ∷ ss) more all rest = (all.0, can_make_both program ss more all.1 rest)

-- each call of such a list can be made
pub can_make_at : {A : Type 0} (f : A → Scheduled) (program : Typed) (xs : List A) (i : ℕ) (x : A) →
    CanMake program (map f xs) → i < length xs
    → x ≡ get_or xs i x → CanCall program (f x).call.section (f x).call.arguments
can_make_at f program [] i x all within is = absurd (omega arith)
can_make_at f program (y ∷ ys) zero x all within is = rw is all.0
can_make_at f program (y ∷ ys) (suc i) x all within is = can_make_at f program ys i x all.1 (omega arith) is

-- the items from one on are that item and those after it
pub drop_next : {A B : Type 0} (f : A → B) (xs : List A) (i : ℕ) (x : A) → i < length xs → x ≡ get_or xs i x
    → map f (drop i xs) ≡ f x ∷ map f (drop (i + 1) xs)
drop_next f xs i x within is = rw (add-one, drop-cons xs i x within, ← is) refl

-- a list is cut at each of its items
pub map_parts : {A B : Type 0} (f : A → B) (xs : List A) (i : ℕ) (x : A) → i < length xs → x ≡ get_or xs i x
    → map f xs ≡ map f (take i xs) ++ f x ∷ map f (drop (i + 1) xs)
map_parts f xs i x within is =
    ap (map f) (sym (take-append-drop i xs)) ∙ map-append f (take i xs) (drop i xs) ∙ ap (λ ys. map f (take i xs) ++ ys) (drop_next f xs i x within is)

-- the calls of a script can be made
pub can_call_script : (program : Typed) (thread : ℕ) (calls : List Call) (step : ℕ)
    → ((k : ℕ) (call : Call) → slice_get calls k ≡ Some call → CanCall program call.section call.arguments.items)
    → CanMake program (script_from thread step calls)
can_call_script program thread [] step can = tt
can_call_script program thread (call ∷ calls) step can =
    (can 0 call refl, can_call_script program thread calls _ (λ k c is. can (suc k) c is))

pub can_call_scripts : (program : Typed) (threads : List Thread) (thread : ℕ)
    → ((t k : ℕ) (x : Thread) (call : Call) → slice_get threads t ≡ Some x → slice_get x.calls.items k ≡ Some call → CanCall program call.section call.arguments.items)
    → CanMake program (scripts_from thread threads)
can_call_scripts program [] thread can = tt
can_call_scripts program (x ∷ xs) thread can =
    can_make_both program (script_from thread 0 x.calls.items) _ (can_call_script program thread x.calls.items 0 (λ k call is. can 0 k x call refl is))
    (can_call_scripts program xs _ (λ t k y call here is. can (suc t) k y call here is))

-- each call of a well-formed program's scripts can be made
pub can_call_all : (program : Typed) → IsChecked program → CanMake program (all_calls program)
can_call_all program well = can_call_scripts program program.threads.items 0 well.scripts
