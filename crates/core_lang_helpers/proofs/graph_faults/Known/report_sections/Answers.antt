use Rattle.core_lang_helpers.specs.Graphs.{body_of}
use Rattle.core_lang_helpers.specs.Working.Knowledge.{bodies}
use Rattle.core_lang_helpers.specs.Working.FaultLists.{section_faults}
use Rattle.core_lang_helpers.proofs.Noting.{flat_mapped}
use Rattle.core_lang_helpers.proofs.graph_faults.Known.report_sections.Goals as goal

pub loop-section-preserved : goal.loop-section-preserved
loop-section-preserved c =
    flat_mapped body_of (section_faults (bodies c.args.self.now)) c.args.sections.now c.loop-section.section-index c.section-item.result c.args.least.now c.loop-section.least
    c.report_section.new.least c.loop-section-test.true c.section-item.is c.loop-section.invariant c.report_section.ensures
