use Rattle.std.proofs.Common.{◌∙◌}
use Rattle.lowering.proofs.Pieces.{opened}
use Rattle.lowering.proofs.emitter.Emitter.open.Goals as goal

pub returns : goal.returns
returns c =
    opened c.args.self.now c.acquire.new.self c.in_ok-acquire.ensures c.condition.new.self c.put.new.self c.args.condition.now c.len-place.result
    c.in_ok-need.need c.max-self.result c.in_ok-need.ensures.code
    (c.len-place.ensures ∙ c.condition.new.self.instructions.ok.0) c.in_ok-put.ensures c.in_ok-need.ensures.need c.max-self.ensures
