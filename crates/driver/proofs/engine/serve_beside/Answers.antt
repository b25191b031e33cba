use Rattle.std.proofs.Common.{sym, subst, ◌∙◌, ◌≡◌, ◌+◌, ◌<◌, ◌^◌, ℕ, List, [], ◌∷◌, length, refl, take, arith}
use Rattle.std.specs.Prelude.{IfSome, string_bytes}
use Rattle.rope.specs.Working.Ropes.{rope_text}
use Rattle.std.proofs.lemmas.Result.{IfOk-weaker}
use Rattle.source.specs.Texts.{SOURCE_LIMIT}
use Rattle.driver.specs.Answers.{OfTwo}
use Rattle.driver.specs.Requests.{BesideAnswers, IsReportBeside}
use Rattle.driver.specs.Engines.{reading_of, IsReadOut}
use Rattle.driver.specs.Streams.{name_of, left_in}
use Rattle.driver.proofs.AnswerLemmas.{beside_is_answered}
use Rattle.driver.proofs.LongTexts.{answers_of_whole, read_or_long, whole_text, read_out}
use Rattle.driver.proofs.ServingLemmas.{program_unread, other_unread, given_served, IsRight, All_one}
use Rattle.driver.proofs.engine.serve_beside.Goals as goal

pub returns-in-Err : goal.returns-in-Err
returns-in-Err g c =
    program_unread
    (OfTwo (BesideAnswers c.args.request (name_of c.args.source.now) (name_of c.args.other.now)))
    (reading_of g.S.Read.remaining c.args.source.now c.read.new.source)
    (reading_of g.T.Read.remaining c.args.other.now c.args.other.now ∷ []) g.O.Write.contents g.E.Write.contents c.args.streams.now
    c.read.new.self c.in-Err.status c.requires.writable c.in-Err.ensures.out (rw c.requires.other_readable refl) c.in-Err.ensures.unread

pub returns-in-Err-read : goal.returns-in-Err-read
returns-in-Err-read g c =
    other_unread
    (OfTwo (BesideAnswers c.args.request (name_of c.args.source.now) (name_of c.args.other.now)))
    (reading_of g.S.Read.remaining c.args.source.now c.read.new.source)
    (reading_of g.T.Read.remaining c.args.other.now c.read-2.new.source) g.O.Write.contents g.E.Write.contents c.args.streams.now
    c.read-2.new.self c.in-Err-read.status c.in-Ok.ensures.ok c.requires.writable
    (rw c.in-Ok.ensures.quiet at c.in-Err-read.ensures.out) (rw c.in-Ok.ensures.quiet at c.in-Err-read.ensures.unread)

pub returns : goal.returns
returns g c =
    let had = left_in g.S.Read.remaining c.args.source.now in
    let bytes = subst (λ (t : List ℕ). IfSome had (λ all. t ≡ take (SOURCE_LIMIT + 1) all)) (sym c.deref.ensures.value) c.in-Ok.ensures.bytes in
    let ended = rw (← c.deref.ensures.value) at c.in-Ok.ensures.end in
    let name_is = c.name.ensures ∙ c.read.ensures.name in
    let other_had = left_in g.T.Read.remaining c.args.other.now in
    let all : ℕ = 18446744073709551614 in
    let items = c.deref-2.result.now in
    let few : length items < 2 ^ 63 = rw c.deref-2.ensures.value (omega (arith, c.in-Ok-read.items.small, c.in-Ok-read.items.ok.0)) in
    let other_bytes = subst (λ (t : List ℕ). IfSome other_had (λ xs. t ≡ take (all + 1) xs)) (sym c.deref-2.ensures.value) c.in-Ok-read.ensures.bytes in
    let other_ended = rw (← c.deref-2.ensures.value) at c.in-Ok-read.ensures.end in
    let other_whole = whole_text items (all + 1) other_had (omega (arith, few)) other_bytes in
    let other_is = c.name-2.ensures ∙ c.read-2.ensures.name in
    let whole = IfOk-weaker c.beside_answer-answer.result _
    (IsRight
    (OfTwo (BesideAnswers c.args.request (name_of c.args.source.now) (name_of c.args.other.now)))
    (reading_of g.S.Read.remaining c.args.source.now c.read.new.source)
    (reading_of g.T.Read.remaining c.args.other.now c.read-2.new.source ∷ []))
    (λ answer is.
    let named = rw (name_is, other_is) at is in
    let right = answers_of_whole (λ text. IsReportBeside c.args.request text (name_of c.args.other.now) items) (name_of c.args.source.now)
    c.deref.result.now had answer.status (rope_text answer.out) (string_bytes answer.err) bytes named in
    record {
      text = right.0;
      texts = items ∷ [];
      gave = (right.1, (other_whole, tt));
      answers = right.2;
      answered = beside_is_answered c.args.request (name_of c.args.source.now) (name_of c.args.other.now) c.deref.result.now items answer.status
          (rope_text answer.out) (string_bytes answer.err) named;
    })
    c.beside_answer-answer.ensures in
    given_served _ _ _ _ _ c.args.streams.now c.give.new.self c.give.result c.beside_answer-answer.result
    (rw (c.in-Ok.ensures.ok, c.in-Ok-read.ensures.ok) refl) c.requires.writable (
      (c.in-Ok.ensures.opened, read_or_long c.deref.result.now had _ bytes ended),
      All_one IsReadOut (c.in-Ok-read.ensures.opened, read_out items all _ (omega (arith, few)) other_ended),
    ) whole
    (rw (c.in-Ok-read.ensures.quiet, c.in-Ok.ensures.quiet) at c.give.ensures)
