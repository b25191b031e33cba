use Rattle.std.proofs.Common.{sym, ◌∙◌, ap}
use Rattle.workers.specs.Working.Rules.{word_of}
use Rattle.workers.proofs.Adding.{adds_moves}
use Rattle.workers.proofs.front.Front.add.Goals as goal

pub compare_exchange-found-requires : goal.compare_exchange-found-requires
compare_exchange-found-requires g c =
    let h = c.word.ensures ∙ ap word_of c.self.invariant.2 in
    let seen = c.again-seen.ensures in
    let offer = c.plain-offer.ensures in
    let pen = c.no_pen-pen.ensures in
    let book = ap (λ s. s.book) seen ∙ (c.self.invariant.1 ∙ sym (ap (λ w. w.book) h)) in (
      ap (λ w. w.tracked) h,
      book,
      pen.0 ∙ book,
      offer.0,
      rw (ap (λ w. w.key) h, pen.1, offer.1, offer.3, seen)
          (adds_moves c.self.inside.seen.log c.args.entry.now c.self.inside.count (sym c.self.invariant.0)),
    )
