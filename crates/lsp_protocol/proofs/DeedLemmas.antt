-- The data written for the deed of a message has no fractional numbers.
use Rattle.std.proofs.Common.{◌≡◌, ℕ, Bool, true, false, not, List, codes, Option, Some, None, refl, option_and_then, if◌then◌else◌}
use Rattle.std.specs.Prelude.{IfSome, unwrap_or}
use Rattle.std.specs.Str.{bytes_eq}
use Rattle.serde_json.specs.Data.{Data, null, boolean, number, string, array, object}
use Rattle.serde_json.specs.Find.{get, as_str, is_float}
use Rattle.serde_json.specs.Written.{has_float}
use Rattle.lsp_protocol.specs.Calls.{Called, is_id, fits, call_of, id_in, id_of}
use Rattle.lsp_protocol.specs.Parameters.{document_uri, opened_text, changed_text}
use Rattle.lsp_protocol.specs.declared.replies.Failure.TheVariants.{InvalidRequest}
use Rattle.lsp_protocol.specs.Deeds.{Act, refuse, opened_so, closed_so, notified}
use Rattle.lsp_protocol.specs.Deeds.{asked_so, asked, requested, called, told, comes_of, act_of, deed_of}
use Rattle.lsp_protocol.specs.declared.deeds.Phase.{Phase}
use Rattle.lsp_protocol.specs.declared.deeds.Phase.TheVariants as phase
use Rattle.lsp_protocol.specs.Working.ServerViews.{IsFit}

-- ---- ids

not_true : (b : Bool) → not b ≡ true → b ≡ false
not_true true is = absurd cc
not_true false is = refl

plain : (id : Data) → is_id id ≡ true → has_float id ≡ false
plain null is = absurd cc
plain (boolean b) is = absurd cc
plain (number n) is = not_true (is_float n) is
plain (string s) is = refl
plain (array ds) is = absurd cc
plain (object ms) is = absurd cc

id_chosen : (b : Bool) (id : Data) → is_id id ≡ b → IfSome (if b then Some id else None) (λ whom. is_id whom ≡ true)
id_chosen true id is = is
id_chosen false id is = tt

id_found : (id : Option Data) → IfSome (id_in id) (λ whom. is_id whom ≡ true)
id_found None = tt
id_found (Some id) = id_chosen (is_id id) id refl

call_chosen : (b : Bool) (call : Called) → fits call.id ≡ b → IfSome (if b then Some call else None) (λ found. fits found.id ≡ true)
call_chosen true call is = is
call_chosen false call is = tt

call_named : (id params : Option Data) (method : Option (List ℕ)) →
    IfSome {T = Called} (option_and_then (λ name. if fits id then Some (record { id = id; method = name; params = params }) else None) method) (λ found. fits found.id ≡ true)
call_named id params None = tt
call_named id params (Some name) = call_chosen (fits id) (record { id = id; method = name; params = params }) refl

call_found : (message : Data) → IfSome (call_of message) (λ found. fits found.id ≡ true)
call_found message =
    call_named (get (codes "id") message) (get (codes "params") message) (option_and_then as_str (get (codes "method") message))

-- ---- deeds

module _ (is_method : List ℕ → Bool) where
  chosen : (b : Bool) (x y : Act) → (b ≡ true → IsFit is_method x) → IsFit is_method y → IsFit is_method (if b then x else y)
  chosen true x y first second = first refl
  chosen false x y first second = second

  fit_opened : (uri text : Option (List ℕ)) → IsFit is_method (opened_so uri text)
  fit_opened None text = tt
  fit_opened (Some uri) None = tt
  fit_opened (Some uri) (Some text) = tt

  fit_closed : (uri : Option (List ℕ)) → IsFit is_method (closed_so uri)
  fit_closed None = tt
  fit_closed (Some uri) = tt

  fit_notified : (method : List ℕ) (params : Option Data) → IsFit is_method (notified method params)
  fit_notified method None = tt
  fit_notified method (Some params) =
      chosen (bytes_eq method (codes "textDocument/didOpen")) _ _ (λ is. fit_opened (document_uri params) (opened_text params))
      (chosen (bytes_eq method (codes "textDocument/didChange")) _ _ (λ is. fit_opened (document_uri params) (changed_text params))
      (chosen (bytes_eq method (codes "textDocument/didClose")) _ _ (λ is. fit_closed (document_uri params)) tt))

  fit_asked_so : (id params : Data) (method : List ℕ) (uri : Option (List ℕ)) → has_float id ≡ false → is_method method ≡ true →
      IsFit is_method (asked_so id method params uri)
  fit_asked_so id params method None none known = none
  fit_asked_so id params method (Some uri) none known = (none, known)

  fit_asked : (id : Data) (method : List ℕ) (params : Option Data) → has_float id ≡ false → is_method method ≡ true → IsFit is_method (asked id method params)
  fit_asked id method None none known = none
  fit_asked id method (Some params) none known = fit_asked_so id params method (document_uri params) none known

  fit_requested : (id : Data) (method : List ℕ) (params : Option Data) → has_float id ≡ false → IsFit is_method (requested is_method id method params)
  fit_requested id method params none =
      chosen (bytes_eq method (codes "initialize")) _ _ (λ is. none)
      (chosen (bytes_eq method (codes "shutdown")) _ _ (λ is. none) (chosen (is_method method) _ _ (λ known. fit_asked id method params none known) none))

  fit_called : (at : Phase) (id : Data) (call : Called) → has_float id ≡ false → IsFit is_method (called is_method at id call)
  fit_called phase.New id call none = chosen (bytes_eq call.method (codes "initialize")) _ _ (λ is. none) none
  fit_called phase.Running id call none = fit_requested id call.method call.params none
  fit_called phase.ShutDown id call none = none

  fit_told : (at : Phase) (call : Called) → IsFit is_method (told at call)
  fit_told phase.New call = tt
  fit_told phase.Running call = fit_notified call.method call.params
  fit_told phase.ShutDown call = tt

  fit_comes : (at : Phase) (id : Option Data) (call : Called) → fits id ≡ true → IsFit is_method (comes_of is_method at id call)
  fit_comes at None call is = fit_told at call
  fit_comes at (Some id) call is = fit_called at id call (plain id is)

  fit_refused : (whom : Option Data) → IfSome whom (λ id. is_id id ≡ true) → IsFit is_method (refuse whom InvalidRequest)
  fit_refused None is = tt
  fit_refused (Some id) is = plain id is

  fit_act : (at : Phase) (whom : Option Data) (call : Option Called) → IfSome whom (λ id. is_id id ≡ true) → IfSome call (λ found. fits found.id ≡ true) →
      IsFit is_method (act_of is_method at whom call)
  fit_act at whom None is_whom is_call = fit_refused whom is_whom
  fit_act at whom (Some call) is_whom is_call =
      chosen (bytes_eq call.method (codes "exit")) _ _ (λ is. tt) (fit_comes at call.id call is_call)

  pub fit_of : (at : Phase) (message : Data) → IsFit is_method (deed_of is_method at message)
  fit_of at message = fit_act at (id_of message) (call_of message) (id_found (get (codes "id") message)) (call_found message)

-- whom an answer to a message goes to
plain_whom : (whom : Option Data) → IfSome whom (λ id. is_id id ≡ true) → has_float (unwrap_or whom null) ≡ false
plain_whom None is = refl
plain_whom (Some id) is = plain id is

pub plain_id : (message : Data) → has_float (unwrap_or (id_of message) null) ≡ false
plain_id message = plain_whom (id_of message) (id_found (get (codes "id") message))
