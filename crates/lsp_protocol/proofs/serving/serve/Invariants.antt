use Rattle.std.proofs.Common.{◌≡◌, ℕ, List}
use Rattle.std.specs.Io.KnownBytes.{Appends}
use Rattle.lsp_protocol.specs.Frames.{TakesFrames}
use Rattle.lsp_protocol.specs.Loop.{Answered}
use Rattle.lsp_protocol.proofs.serving.serve.Given as goal

abbrev pub invariant-loop : goal.invariant-loop
invariant-loop g l = record {
  bodies : List (List ℕ);
  out : List ℕ;
  read : TakesFrames (g.R.Read.remaining l.initial.incoming.reader) (g.R.Read.remaining l.incoming.reader) bodies;
  answered : Answered g.S.Service.answers l.initial.service bodies out l.service;
  written : Appends (g.W.Write.contents l.initial.outgoing.writer) (g.W.Write.contents l.outgoing.writer) out;
  unread : l.incoming.failed ≡ l.initial.incoming.failed;
  unwritten : l.outgoing.failed ≡ l.initial.outgoing.failed;
}
