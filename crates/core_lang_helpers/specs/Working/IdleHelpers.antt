-- Helpers that do nothing. Nobody has to believe these: `core_lang` defines the expansion of a call.
use Rattle.std.specs.Prelude.{◌≡◌, ℕ, zero, suc, ◌==◌, ◌&&◌, Bool, true, false, List, [], ◌∷◌, length, slice_get}
use Rattle.std.specs.Prelude.{Option, Some, None, is_some, not}
use Rattle.core_lang.specs.declared.tree.Action.{Action, Call}
use Rattle.core_lang.specs.declared.tree.Stmt.{Stmt}
use Rattle.core_lang.specs.declared.tree.Section.{Section}

-- a call of such a helper, without arguments and without a bound result
abbrev pub is_idle_call : (ℕ → Bool) → Action → Bool
is_idle_call idle (Call helper arguments None) = (length arguments.items == 0) && idle helper
is_idle_call idle _ = false

abbrev pub are_idle_calls : (ℕ → Bool) → List Stmt → Bool
are_idle_calls idle [] = true
are_idle_calls idle (x ∷ xs) = is_idle_call idle x.action && are_idle_calls idle xs

-- a helper without parameters, locals and result, which makes only such calls
abbrev pub is_idle_body : (ℕ → Bool) → Section → Bool
is_idle_body idle helper =
    (helper.parameters == 0) && (length helper.locals.items == 0) && not (is_some helper.result_type) && not (is_some helper.result)
    && are_idle_calls idle helper.body.items

abbrev pub if_section : Option Section → (Section → Bool) → Bool
if_section (Some helper) test = test helper
if_section None test = false

-- a helper that does nothing, with calls at most this deep
abbrev pub is_idle : List Section → ℕ → ℕ → Bool
is_idle helpers zero number = false
is_idle helpers (suc depth) number = if_section (slice_get helpers number) (is_idle_body (is_idle helpers depth))

-- each helper with a depth in the list does nothing, with calls at most that deep
abbrev pub AreIdle : List Section → List ℕ → Type 0
AreIdle helpers depths = (number depth : ℕ) → slice_get depths number ≡ Some (suc depth) → is_idle helpers (suc depth) number ≡ true
