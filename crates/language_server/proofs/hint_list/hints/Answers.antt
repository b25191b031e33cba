use Rattle.std.proofs.Common.{◌∙◌, List, ℕ, ap, subst, IfOk}
use Rattle.std.proofs.lemmas.Result.{IfOk-weaker}
use Rattle.std.specs.List.{filter}
use Rattle.serde_json.specs.View.{view}
use Rattle.serde_json.specs.Written.{has_float}
use Rattle.compiler.specs.Programs.{IsRefusal}
use Rattle.language_server.specs.Hints.{AreHintsOf, accepted, refused, is_asked}
use Rattle.language_server.specs.Takes.{in_order, takes_of}
use Rattle.language_server.proofs.HeldFloats.{none_in_items}
use Rattle.language_server.proofs.hint_list.hints.Goals as goal

pub returns-in-Ok-clause-told : goal.returns-in-Ok-clause-told
returns-in-Ok-clause-told c =
    let first = c.args.first_line in
    let last = c.args.last_line in
    subst (λ (text : List ℕ). IfOk c.program_hints.result (λ told. AreHintsOf text first last (view told))) c.as_bytes-bytes.ensures.value
    (IfOk-weaker c.program_hints.result _ _
    (λ told is. accepted c.in-Ok.program c.in-Ok.ensures.accepts c.in-Ok.ensures.compiled is) c.program_hints.ensures)

pub returns-in-Ok-clause-plain : goal.returns-in-Ok-clause-plain
returns-in-Ok-clause-plain c =
    let text = c.as_bytes-bytes.result.now in
    let takes = filter (is_asked text c.args.first_line c.args.last_line) (in_order (takes_of c.in-Ok.program)) in
    IfOk-weaker c.program_hints.result _ _ (λ told is. ap has_float is ∙ none_in_items text takes) c.program_hints.ensures

pub returns-clause-told : goal.returns-clause-told
returns-clause-told c =
    subst (λ (text : List ℕ). AreHintsOf text c.args.first_line c.args.last_line (view c.no_hints.result)) c.as_bytes-bytes.ensures.value
    (refused c.in-Err-Fault.field-0-0 (subst (IsRefusal c.as_bytes-bytes.result.now) c.in-Err-Fault.field-0-is c.in-Err-Fault.ensures.fault) c.no_hints.ensures)
