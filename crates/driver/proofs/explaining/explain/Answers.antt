use Rattle.std.proofs.Common.{sym, subst, ◌∙◌, ◌≡◌, ◌+◌, ℕ, List, [], refl, take}
use Rattle.std.specs.Prelude.{IfSome}
use Rattle.source.specs.Texts.{SOURCE_LIMIT}
use Rattle.driver_words.specs.declared.line.Alone.TheVariants as alone
use Rattle.driver.specs.Answers.{OfOne}
use Rattle.driver.specs.Engines.{reading_of}
use Rattle.driver.specs.Requests.{AloneAnswers}
use Rattle.driver.specs.Streams.{name_of, left_in}
use Rattle.driver.proofs.AloneLemmas.{alone_served}
use Rattle.driver.proofs.LongExplanations.{explained_of_whole}
use Rattle.driver.proofs.ServingLemmas.{program_unread}
use Rattle.driver.proofs.explaining.explain.Goals as goal

pub returns-in-Err : goal.returns-in-Err
returns-in-Err g c =
    program_unread (OfOne (AloneAnswers (alone.Explain c.args.json c.args.color) (name_of c.args.source.now)))
    (reading_of g.S.Read.remaining c.args.source.now c.read.new.source) [] g.O.Write.contents g.E.Write.contents c.args.streams.now
    c.read.new.self c.in-Err.status c.requires.writable c.in-Err.ensures.out refl c.in-Err.ensures.unread

pub returns : goal.returns
returns g c =
    let had = left_in g.S.Read.remaining c.args.source.now in
    let bytes = subst (λ (t : List ℕ). IfSome had (λ all. t ≡ take (SOURCE_LIMIT + 1) all)) (sym c.deref.ensures.value) c.in-Ok.ensures.bytes in
    alone_served (alone.Explain c.args.json c.args.color) (reading_of g.S.Read.remaining c.args.source.now c.read.new.source) g.O.Write.contents g.E.Write.contents
    c.args.streams.now c.give.new.self c.give.result c.deref.result.now c.explain_answer-answer.result
    (λ status out err answers. explained_of_whole c.shown_by_first_bytes.ensures c.fault_by_first_bytes.ensures c.args.json c.args.color (name_of c.args.source.now) c.deref.result.now had status out err bytes answers) bytes
    (rw (← c.deref.ensures.value) at c.in-Ok.ensures.end) c.in-Ok.ensures.opened c.in-Ok.ensures.ok c.requires.writable
    (rw (c.name.ensures ∙ c.read.ensures.name) at c.explain_answer-answer.ensures) (rw c.in-Ok.ensures.quiet at c.give.ensures)
