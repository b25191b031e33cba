use Rattle.lsp_texts.specs.Edits.{none}
use Rattle.lsp_texts.proofs.edits.formatting_edits.Goals as goal

-- a text with a fault of tokens or grammar is not a program
pub returns-clause-told : goal.returns-clause-told
returns-clause-told c = rw c.null_value.ensures (none (λ out has utf8.
    let given = c.in-Err-Fault.ensures.only out (rw (← c.as_bytes.ensures.value) at has.program) (rw (← c.as_bytes.ensures.value) at has.formatted) in
    let is = c.in-Err-Fault.field-0-is in
    absurd cc))
