use Rattle.std.proofs.Common.{◌∙◌, ◌++◌, ap, sym, append-nil}
use Rattle.std.proofs.lemmas.Result.{on_ok_weaker}
use Rattle.lowering.proofs.Steps.{begun}
use Rattle.lowering.proofs.emitter.Emitter.acquire.Goals as goal

pub returns : goal.returns
returns c =
    let a = c.args.self.now in
    on_ok_weaker c.put.result
    (λ e. begun a c.push.new.self c.put.new.self c.len.result c.len-point.result (c.len-point.ensures ∙ a.begins.ok.0)
    (c.len.ensures ∙ a.code.instructions.ok.0) c.in_ok-push.ensures.items (e ∙ ap (λ l. a.code.instructions.items ++ l) (sym c.if-not-is_listed.ensures)))
    c.put.ensures

pub returns-then-not-is_listed : goal.returns-then-not-is_listed
returns-then-not-is_listed c =
    let a = c.args.self.now in
    begun a c.push.new.self a.code c.len.result c.len-point.result (c.len-point.ensures ∙ a.begins.ok.0)
    (c.len.ensures ∙ a.code.instructions.ok.0) c.in_ok-push.ensures.items
    (sym (append-nil a.code.instructions.items) ∙ ap (λ l. a.code.instructions.items ++ l) (sym c.if-not-is_listed.ensures))
