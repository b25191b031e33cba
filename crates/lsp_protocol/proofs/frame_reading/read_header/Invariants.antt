use Rattle.std.proofs.Common.{◌≡◌, ◌-◌}
use Rattle.lsp_protocol.specs.declared.frame_reading.TheConstants.{HEADER_LIMIT}
use Rattle.lsp_protocol.specs.Working.Reading.{IsWithinHeader}
use Rattle.lsp_protocol.proofs.frame_reading.read_header.Given as goal

abbrev pub invariant-lines : goal.invariant-lines
invariant-lines g l = record {
  within : IsWithinHeader (g.R.Read.remaining l.initial.incoming.reader) (g.R.Read.remaining l.incoming.reader) (HEADER_LIMIT - l.counter) l.length;
  failed : l.incoming.failed ≡ l.initial.incoming.failed;
}
