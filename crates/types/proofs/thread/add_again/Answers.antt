use Rattle.std.proofs.Common.{◌≡◌, ◌+◌, ap, ◌∙◌, ◌∷◌, [], refl, arith}
use Rattle.std.proofs.lemmas.List.{length-map, map-append}
use Rattle.core_lang.specs.Theory.Items.{zip_same}
use Rattle.resolution.specs.CoreViews.{core_call}
use Rattle.types.specs.Working.ConstantValues.{cores}
use Rattle.types.proofs.Threads.{again_more, copied}
use Rattle.types.proofs.thread.add_again.Goals as goal

pub loop-at-preserved : goal.loop-at-preserved
loop-at-preserved c =
    let e = length-map c.args.calls.now.items core_call in
    let i = c.loop-at.invariant.room in
    let k = c.requires in
    let t = c.loop-at-test.true in
    let n = c.in_ok-push.ensures.len in
    let xs = c.loop-at.calls.items in
    let same : core_call c.in_ok-call.call ≡ core_call c.index.result.now =
    (let clone = c.in_ok-call.ensures.cases in
    let arguments = zip_same _ (λ x y e. e) c.index.result.now.arguments.items c.in_ok-call.call.arguments.items clone.1.0 in
    rw (clone.0, arguments) refl) in
    record {
      added = ap cores c.in_ok-push.ensures.items ∙ map-append core_call xs (c.in_ok-call.call ∷ [])
          ∙ again_more (cores c.args.calls.now.items) (cores xs) c.args.from c.loop-at.at (core_call c.in_ok-call.call) (omega (arith, e, k, t)) c.loop-at.invariant.added
          (copied xs (c.args.from + c.loop-at.at) c.in_ok-call.call c.index.result.now (omega (arith, i, k, t)) c.index.ensures same);
      room = omega (arith, i, n);
    }
