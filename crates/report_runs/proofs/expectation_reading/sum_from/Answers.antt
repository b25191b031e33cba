use Rattle.std.proofs.Common.{◌≡◌, ◌∙◌, Ok, List, [], ◌∷◌, ◌++◌, map, ap, sym}
use Rattle.std.proofs.lemmas.List.{map-append}
use Rattle.report_runs.specs.declared.expectation.Term.{Term}
use Rattle.report_runs.specs.ExpectationTexts.{Part, Reading, amount_of, part_of, in_front, sum_from}
use Rattle.report_runs.proofs.ReadSums.{in_front_none, stops, ends, goes_on, sum_shortens}
use Rattle.report_runs.proofs.expectation_reading.sum_from.Goals as goal

pub items-init : goal.items-init
items-init c n enough = (
  n,
  enough,
  ap (λ (ts : List Term). in_front (map part_of ts) (sum_from n c.args.first c.args.text.now)) c.new-terms.ensures.items
      ∙ in_front_none (sum_from n c.args.first c.args.text.now),
)

pub returns-in_default : goal.returns-in_default
returns-in_default c n enough =
    stops (map part_of c.items.terms.items) c.items.before c.items.rest.now c.skip-here.result.now _ c.skip-here.ensures.rest
    c.in_default.ensures (c.items.invariant n enough)

pub items-smaller : goal.items-smaller
items-smaller c =
    sum_shortens (map part_of c.items.terms.items) c.items.before c.items.rest.now c.skip-here.result.now
    (sum_from 0 c.args.first c.args.text.now) c.skip-here.ensures.rest (amount_of c.in-Some.item) c.in-Some.behind.now c.skip-behind.result.now
    c.in-Some.ensures c.skip-behind.ensures.rest c.in-Some-sign.next c.in-Some-sign.more.now c.in-Some-sign.ensures

pub items-preserved : goal.items-preserved
items-preserved c n enough =
    let all = c.in_ok-push.ensures.items in
    let parts : map part_of c.push.new.self.items
    ≡ map part_of c.items.terms.items ++ (record { sign = c.items.before; amount = amount_of c.in-Some.item }) ∷ [] =
    ap (λ (ts : List Term). map part_of ts) all ∙ map-append part_of c.items.terms.items _ in
    let more = goes_on (map part_of c.items.terms.items) c.items.before c.items.rest.now c.skip-here.result.now
    _ c.skip-here.ensures.rest (amount_of c.in-Some.item) c.in-Some.behind.now c.skip-behind.result.now
    c.in-Some.ensures c.skip-behind.ensures.rest c.in-Some-sign.next c.in-Some-sign.more.now c.in-Some-sign.ensures (c.items.invariant n enough) in
    (more.0, more.1, ap (λ (ps : List Part). in_front ps (sum_from more.0 c.in-Some-sign.next c.in-Some-sign.more.now)) parts ∙ more.2)

pub returns-in-None : goal.returns-in-None
returns-in-None c n enough =
    let all = c.in_ok-push.ensures.items in
    let parts : map part_of c.push.new.self.items
    ≡ map part_of c.items.terms.items ++ (record { sign = c.items.before; amount = amount_of c.in-Some.item }) ∷ [] =
    ap (λ (ts : List Term). map part_of ts) all ∙ map-append part_of c.items.terms.items _ in
    ends (map part_of c.items.terms.items) c.items.before c.items.rest.now c.skip-here.result.now
    _ c.skip-here.ensures.rest (amount_of c.in-Some.item) c.in-Some.behind.now c.skip-behind.result.now
    c.in-Some.ensures c.skip-behind.ensures.rest c.in-None.ensures (c.items.invariant n enough)
    ∙ ap (λ (ps : List Part). let r : Reading (List Part) = Ok (ps, c.skip-behind.result.now) in r) (sym parts)
