use Rattle.std.proofs.Common.{List, ℕ, string_bytes, subst}
use Rattle.compiler.specs.Programs.{IsRefusal}
use Rattle.language_server.specs.Ranks.{IsClassLine, accepted, refused}
use Rattle.language_server.proofs.class_lines.line_of.Goals as goal

pub returns-in-Ok : goal.returns-in-Ok
returns-in-Ok c =
    subst (λ (text : List ℕ). IsClassLine text c.args.class.now (string_bytes c.in_ok-told-in-Ok.told)) c.as_bytes.ensures.value
    (accepted c.in-Ok.program c.in-Ok.ensures.accepts c.in-Ok.ensures.compiled c.in_ok-told-in-Ok.ensures)

pub returns : goal.returns
returns c =
    subst (λ (text : List ℕ). IsClassLine text c.args.class.now (string_bytes c.in_ok-told-in-Err-Fault.told)) c.as_bytes.ensures.value
    (refused c.in-Err-Fault.field-0-0 (subst (IsRefusal c.as_bytes.result.now) c.in-Err-Fault.field-0-is c.in-Err-Fault.ensures.fault)
    c.in_ok-told-in-Err-Fault.ensures)
