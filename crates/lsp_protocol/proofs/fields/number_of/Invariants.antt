use Rattle.std.proofs.Common.{◌≡◌, ◌≤◌, drop}
use Rattle.lsp_protocol.specs.declared.fields.TheConstants.{BODY_LIMIT}
use Rattle.lsp_protocol.specs.Headers.{number_after}
use Rattle.lsp_protocol.proofs.fields.number_of.Given as goal

abbrev pub invariant-loop-digit : goal.invariant-loop-digit
invariant-loop-digit l = record {
  few : l.number ≤ BODY_LIMIT;
  rest : number_after 0 l.digits ≡ number_after l.number (drop l.digit-index l.digits);
}
