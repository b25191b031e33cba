use Rattle.std.proofs.Common.{sym, ◌∙◌, ap}
use Rattle.workers.specs.Working.Rules.{word_of}
use Rattle.workers.proofs.Adding.{looks_moves}
use Rattle.workers.proofs.front.Front.whole.Goals as goal

pub load-count-requires : goal.load-count-requires
load-count-requires g c =
    let h = c.word.ensures ∙ ap word_of c.self.invariant.2 in
    let seen = c.again-seen.ensures in
    let offer = c.plain-offer.ensures in
    let book = ap (λ s. s.book) seen ∙ (c.self.invariant.1 ∙ sym (ap (λ w. w.book) h)) in
    (ap (λ w. w.tracked) h, book, offer.0, rw (ap (λ w. w.key) h, offer.3, seen) (looks_moves c.self.inside.seen.log c.plain-offer.result.ask))
