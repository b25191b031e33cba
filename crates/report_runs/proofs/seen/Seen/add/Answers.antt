use Rattle.std.proofs.Common.{◌≡◌, true, false, refl, sym, ◌∙◌}
use Rattle.std.specs.List.{list_any, position_or_len}
use Rattle.report_runs.specs.declared.run_kind.RunKind.{RunKind}
use Rattle.report_runs.specs.Runs.{Run, firsts, same_kind}
use Rattle.report_runs.specs.Working.Seeing.{kind_in, kind_shown}
use Rattle.report_runs.proofs.Keyed.{orders_with, ends_with, kinds_with, kinds_same, kind_any, kind_place, order_number, end_number, told_raised, told_pushed, texts_same}
use Rattle.report_runs.proofs.RunSteps.{seen_more, rows_raised, rows_pushed}
use Rattle.report_runs.proofs.seen.Seen.add.Goals as goal

-- the run is of a kind that was seen
pub returns-in-Some-get_index_of : goal.returns-in-Some-get_index_of
returns-in-Some-get_index_of c = λ program runs seen.
    let run : Run = record { log = c.args.history.now.commits; values = c.args.values.now } in
    let old = c.args.self.now in
    let kind : RunKind = record { order = c.in_ok-order_of-2.field-0; end = c.in_ok-end_of-2.field-0 } in
    let shows : kind_shown kind ≡ kind_in run =
    λ i. record { order = c.in_ok-order_of-2.ensures i; end = c.in_ok-end_of-2.ensures i } in
    let there : list_any (same_kind run) (firsts same_kind runs) ≡ true =
    sym (kind_any runs run old.kinds.keys kind seen.kinds shows) ∙ sym c.in-Some-get_index_of.ensures.found in
    let at : c.in-Some-get_index_of.place ≡ position_or_len (same_kind run) (firsts same_kind runs) =
    kind_place runs run old.kinds.keys kind seen.kinds shows _ c.in-Some-get_index_of.ensures.index in
    seen_more program runs run old _ seen refl c.in-Some.ensures.1
    (orders_with runs run old.orders.keys c.in_ok-order_of.field-0 seen.orders c.in_ok-order_of.ensures _ c.in_ok-order.ensures.keys)
    (ends_with runs run old.ends.keys c.in_ok-end_of.field-0 seen.ends c.in_ok-end_of.ensures _ c.in_ok-end.ensures.keys)
    (kinds_same runs run old.kinds.keys seen.kinds there)
    (rows_raised program runs run _ seen.told seen.known _ _ seen.distinct there
    (told_raised old.told.items _ _ _ c.index_mut.ensures.value c.in_ok-count_one.ensures _ at))

-- the run is of a new kind
pub returns : goal.returns
returns c = λ program runs seen.
    let run : Run = record { log = c.args.history.now.commits; values = c.args.values.now } in
    let old = c.args.self.now in
    let kind : RunKind = record { order = c.in_ok-order_of-2.field-0; end = c.in_ok-end_of-2.field-0 } in
    let shows : kind_shown kind ≡ kind_in run =
    λ i. record { order = c.in_ok-order_of-2.ensures i; end = c.in_ok-end_of-2.ensures i } in
    let none : list_any (same_kind run) (firsts same_kind runs) ≡ false =
    sym (kind_any runs run old.kinds.keys kind seen.kinds shows) ∙ sym c.in_default-get_index_of.ensures.found in
    seen_more program runs run old _ seen refl c.in-Some.ensures.1
    (orders_with runs run old.orders.keys c.in_ok-order_of.field-0 seen.orders c.in_ok-order_of.ensures _ c.in_ok-order.ensures.keys)
    (ends_with runs run old.ends.keys c.in_ok-end_of.field-0 seen.ends c.in_ok-end_of.ensures _ c.in_ok-end.ensures.keys)
    (kinds_with runs run old.kinds.keys kind seen.kinds shows _ c.in_ok-insert.ensures.keys)
    (rows_pushed program runs run _ seen.told seen.known _ _ none (sym (seen.met run) ∙ none)
    (told_pushed old.told.items _ _ c.in_ok-push.ensures.items)
    (λ i. record {
      order = order_number runs run old.orders.keys c.in_ok-order_of.field-0 seen.orders c.in_ok-order_of.ensures _ c.in_ok-order.ensures.number i;
      end = end_number runs run old.ends.keys c.in_ok-end_of.field-0 seen.ends c.in_ok-end_of.ensures _ c.in_ok-end.ensures.number i;
      runs = 1;
      history = (c.in_ok-history.ensures ∙ texts_same program run _ seen.of_program) i;
    }))
