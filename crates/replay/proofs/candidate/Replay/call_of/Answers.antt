use Rattle.std.proofs.Common.{◌≡◌, ◌∙◌, ◌++◌, sym, ap, false, List, ℕ, string_bytes}
use Rattle.input_files.specs.Pieces.{begins}
use Rattle.report.specs.Entry.{scheduled_called}
use Rattle.report.specs.History.{call_head}
use Rattle.replay.proofs.Candidates.{no_head}
use Rattle.replay.proofs.candidate.Replay.call_of.Goals as goal

pub returns-else-begins-clause-only : goal.returns-else-begins-clause-only
returns-else-begins-clause-only c =
    let format = c.args.self.now.format in
    let program = c.args.self.now.program.now in
    let head = call_head format program (scheduled_called c.in-Some.call) c.in-Some.call.begun in
    let written : string_bytes c.push_call_head.new.out ≡ head =
    c.in_ok-push_call_head.ensures ∙ ap (λ (b : List ℕ). b ++ head) c.clear.ensures.bytes in
    let never : begins (string_bytes c.push_call_head.new.out) c.args.line.now ≡ false =
    ap (λ (word : List ℕ). begins word c.args.line.now) (sym c.as_str.ensures.value) ∙ sym c.begins.ensures.value ∙ c.if-begins.false in
    no_head c.args.self.now.callers format program c.args.at.now c.args.line.now (string_bytes c.push_call_head.new.out) c.in-Some.call c.in-Some.ensures written never
