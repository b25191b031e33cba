use Rattle.core_lang.specs.Expansion.{IsWrittenOut}
use Rattle.core_lang.specs.WrittenLocals.{AreWrittenLocals}
use Rattle.core_lang_helpers.specs.Data.{head_data}
use Rattle.core_lang_helpers.proofs.Pairs.{zip_one_more, map_one_more}
use Rattle.core_lang_helpers.proofs.program.all_written_out.Goals as goal

pub loop-section-preserved : goal.loop-section-preserved
loop-section-preserved c =
    let list = c.args.sections.now in
    let k = c.loop-section.section-index in
    let made = c.loop-section.made.items in
    let step = c.in_ok-push.ensures.items in
    record {
      written = zip_one_more (IsWrittenOut c.args.shape.now) list k c.section-item.result _ made c.push.new.self.items c.loop-section-test.true c.section-item.is step
          c.loop-section.invariant.written c.in_ok-written_out.ensures.written;
      locals = zip_one_more (AreWrittenLocals c.args.shape.now) list k c.section-item.result _ made c.push.new.self.items c.loop-section-test.true c.section-item.is step
          c.loop-section.invariant.locals c.in_ok-written_out.ensures.locals;
      heads = map_one_more head_data list k c.section-item.result _ made c.push.new.self.items c.loop-section-test.true c.section-item.is step
          c.in_ok-written_out.ensures.head c.loop-section.invariant.heads;
    }
