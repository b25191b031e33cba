use Rattle.std.proofs.Common.{◌≡◌, ◌∙◌, ◌<◌, ◌+◌, ℕ, length, take, Some, ap, sym, subst, refl, arith}
use Rattle.std.proofs.lemmas.Option.{slice_get_read}
use Rattle.source.specs.Tokens.{seen, seen_token}
use Rattle.explanation_tokens.specs.declared.trial.TokenPlace.{TokenPlace}
use Rattle.explanation_tokens.specs.Expected.{StartBefore}
use Rattle.explanation_tokens.proofs.Spots.{one_more_before, there_seen, spot_is, only_place, none_later, none_behind}
use Rattle.explanation_tokens.proofs.trial.place_of.Goals as goal

pub returns-then-at-start-clause-found : goal.returns-then-at-start-clause-found
returns-then-at-start-clause-found c =
    let tokens = c.args.tokens.now in
    let n = c.loop-number.number in
    let item = c.index-tokens-number.result in
    let within : n < length tokens = omega (arith, c.loop-number-test.true, c.loop-number.auto.number-end) in
    let same : c.start-at.result ≡ c.args.start = omega (arith, c.if-at-start.true) in
    record {
      behind = record { within = omega (arith, within); before = subst (λ (s : ℕ). StartBefore (take n (seen tokens)) s) (sym same) c.loop-number.invariant; one = c.in_ok-end.ensures.1 };
      same = same;
      token = seen_token item;
      there = there_seen tokens n item (slice_get_read tokens (length tokens) n item refl within c.index-tokens-number.is);
      starts = omega (arith, same, c.start-at.ensures);
    }

pub returns-then-at-start-clause-only : goal.returns-then-at-start-clause-only
returns-then-at-start-clause-only c = λ place low at.
    let tokens = c.args.tokens.now in
    let start = c.args.start in
    let n = c.loop-number.number in
    let item = c.index-tokens-number.result in
    let within : n < length tokens = omega (arith, c.loop-number-test.true) in
    let same : c.start-at.result ≡ start = omega (arith, c.if-at-start.true) in
    let there = there_seen tokens n item (slice_get_read tokens (length tokens) n item refl within c.index-tokens-number.is) in
    let here = spot_is (record { number = n; span = record { start = c.start-at.result; end = c.in_ok-end.end } }) n start refl same
    (c.in_ok-end.ensures.1 ∙ ap (λ k. k + 1) same) in
    ap (λ (s : TokenPlace). Some s)
    (here ∙ sym (only_place tokens start n (seen_token item) place c.loop-number.invariant there (omega (arith, same, c.start-at.ensures)) at))

pub returns-then-at-start-2-clause-only : goal.returns-then-at-start-2-clause-only
returns-then-at-start-2-clause-only c = λ place low at.
    let tokens = c.args.tokens.now in
    let n = c.loop-number.number in
    let item = c.index-tokens-number.result in
    let within : n < length tokens = omega (arith, c.loop-number-test.true) in
    let there = there_seen tokens n item (slice_get_read tokens (length tokens) n item refl within c.index-tokens-number.is) in
    absurd (none_later tokens c.args.start n (seen_token item) place c.loop-number.invariant there (omega (arith, c.if-at-start-2.true, c.start-at.ensures)) at)

pub returns-clause-only : goal.returns-clause-only
returns-clause-only c = λ place low at.
    absurd (none_behind c.args.tokens.now c.args.start c.loop-number.number place (omega (arith, c.loop-number-test.false)) c.loop-number.invariant at)

pub loop-number-preserved : goal.loop-number-preserved
loop-number-preserved c =
    one_more_before c.args.tokens.now c.loop-number.number c.args.start c.index-tokens-number.result (omega (arith, c.loop-number-test.true, c.loop-number.auto.number-end))
    (sym c.index-tokens-number.is) c.loop-number.invariant (omega (arith, c.if-at-start.false, c.if-at-start-2.false, c.start-at.ensures))
