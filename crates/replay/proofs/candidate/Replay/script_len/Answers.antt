use Rattle.std.proofs.Common.{◌∙◌, sym, ap, length, Option}
use Rattle.std.specs.Option.{option_map_or}
use Rattle.core_lang.specs.declared.typed.Thread.{Thread}
use Rattle.locks.specs.Theory.Written.{item_here, item_past}
use Rattle.replay.proofs.Scripts.{length-script_of}
use Rattle.replay.proofs.candidate.Replay.script_len.Goals as goal

pub returns-in-Some : goal.returns-in-Some
returns-in-Some c =
    let here = item_here c.args.self.now.program.now.threads.items c.deref.result.now c.args.thread c.deref.ensures.value c.in-Some.script c.in-Some.ensures.lookup in
    let long = λ (found : Option Thread). option_map_or (λ (x : Thread). length x.calls.items) found 0 in
    c.len.ensures ∙ c.in-Some.script.now.calls.ok.0 ∙ sym (length-script_of c.args.self.now.program.now c.args.thread ∙ ap long here)

pub returns-in-None : goal.returns-in-None
returns-in-None c =
    let past = item_past c.args.self.now.program.now.threads.items c.deref.result.now c.args.thread c.deref.ensures.value c.in-None.ensures.lookup in
    sym (length-script_of c.args.self.now.program.now c.args.thread ∙ ap (λ found. option_map_or (λ (x : Thread). length x.calls.items) found 0) past)
