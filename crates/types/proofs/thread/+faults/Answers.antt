use Rattle.std.proofs.Common.{◌+◌, drop}
use Rattle.syntax.specs.Views.{item_of, items_of}
use Rattle.resolution.specs.Working.Findings.{found_in}
use Rattle.resolution.specs.Working.FaultLists.{item_faults, items_faults}
use Rattle.types_symbols.specs.Working.Views.{decls_of}
use Rattle.types_symbols.specs.Theory.Steps.{step, noted_one}
use Rattle.types.proofs.Threads.{repeat_faults}
use Rattle.types.proofs.thread.+faults.Goals as goal

pub report_item-returns-in-Repeat : goal.report_item-returns-in-Repeat
report_item-returns-in-Repeat t c = repeat_faults (decls_of c.args.symbols.now) c.args.item.now c.in-Repeat.field-0 c.in-Repeat.items c.deref.result.now _ _ c.in-Repeat.is c.deref.ensures.value c.report_items.ensures

pub report_items-loop-item-preserved : goal.report_items-loop-item-preserved
report_items-loop-item-preserved t c =
    let ds = decls_of c.args.symbols.now in
    let items = c.args.items.now in
    record {
      faults = step (λ xs. found_in c.loop-item.firsts (items_faults ds (items_of xs))) (λ xs. found_in c.report_item.new.firsts (items_faults ds (items_of xs))) items c.loop-item.item-index c.item-item.result _ c.loop-item-test.true c.item-item.is
          (noted_one c.loop-item.firsts c.report_item.new.firsts (item_faults ds (item_of c.item-item.result)) (items_faults ds (items_of (drop (c.loop-item.item-index + 1) items))) c.report_item.ensures) c.loop-item.invariant.faults;
    }
