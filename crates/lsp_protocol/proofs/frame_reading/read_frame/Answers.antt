use Rattle.lsp_protocol.proofs.FrameLemmas.{no_header, either}
use Rattle.lsp_protocol.proofs.frame_reading.read_frame.Goals as goal

pub returns-in-None-clause-frame : goal.returns-in-None-clause-frame
returns-in-None-clause-frame g c = no_header _ _ (rw c.in-None.is at c.in_ok-length.ensures.header)

pub returns-in-Some-clause-frame : goal.returns-in-Some-clause-frame
returns-in-Some-clause-frame g c = either (λ v. v.items) _ _ _ _ c.read_body.result (rw c.in-Some.is at c.in_ok-length.ensures.header) c.read_body.ensures.body
