use Rattle.std.proofs.Common.{◌≡◌, ◌∙◌, List, ℕ, Option, Some, None, false, refl, ap, subst, IfOk}
use Rattle.std.proofs.lemmas.Result.{IfOk-weaker}
use Rattle.serde_json.specs.View.{view}
use Rattle.compiler.specs.Programs.{IsRefusal}
use Rattle.lowering.specs.Plans.{Plan}
use Rattle.serde_json.specs.Written.{has_float}
use Rattle.language_server.specs.Hover.{IsStatementHoverOf, accepted, refused, told_at}
use Rattle.language_server.specs.Statements.{statement_at}
use Rattle.language_server.proofs.hover_object.hover.Goals as goal

pub returns-in-Ok-clause-told : goal.returns-in-Ok-clause-told
returns-in-Ok-clause-told c =
    subst (λ (text : List ℕ). IfOk c.program_hover.result (λ told. IsStatementHoverOf text c.args.position (view told))) c.as_bytes-bytes.ensures.value
    (IfOk-weaker c.program_hover.result _ _
    (λ told is. accepted c.in-Ok.program is.0 c.in-Ok.ensures.accepts c.in-Ok.ensures.compiled is.1 is.2) c.program_hover.ensures)

pub returns-clause-told : goal.returns-clause-told
returns-clause-told c =
    subst (λ (text : List ℕ). IsStatementHoverOf text c.args.position (view c.null_value.result)) c.as_bytes-bytes.ensures.value
    (refused c.in-Err-Fault.field-0-0 (subst (IsRefusal c.as_bytes-bytes.result.now) c.in-Err-Fault.field-0-is c.in-Err-Fault.ensures.fault) c.null_value.ensures)

plain_at : (text : List ℕ) (plan : Plan) (held : List (List (List ℕ))) (found : Option ℕ) →
    has_float (told_at text plan held found) ≡ false
plain_at text plan held None = refl
plain_at text plan held (Some start) = refl

pub returns-in-Ok-clause-plain : goal.returns-in-Ok-clause-plain
returns-in-Ok-clause-plain c =
    let text = c.as_bytes-bytes.result.now in
    let plan = c.in-Ok.program in
    IfOk-weaker c.program_hover.result _ _
    (λ told is. ap has_float is.2 ∙ plain_at text plan is.0 (statement_at text plan.program c.args.position)) c.program_hover.ensures
