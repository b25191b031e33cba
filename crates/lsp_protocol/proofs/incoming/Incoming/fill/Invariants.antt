use Rattle.std.proofs.Common.{◌≡◌, ◌≤◌, length, take}
use Rattle.std.specs.Io.KnownBytes.{Consumes}
use Rattle.lsp_protocol.proofs.incoming.Incoming.fill.Given as goal

abbrev pub invariant-loop : goal.invariant-loop
invariant-loop g l = record {
  same : length l.buffer ≡ length l.initial.buffer;
  within : l.at ≤ length l.buffer;
  filled : Consumes (g.R.Read.remaining l.initial.self.reader) (g.R.Read.remaining l.self.reader) (take l.at l.buffer);
  failed : l.self.failed ≡ l.initial.self.failed;
}
