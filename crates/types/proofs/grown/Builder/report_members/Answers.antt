use Rattle.std.proofs.Common.{◌+◌, ◌∙◌, ap, sym, drop}
use Rattle.std.specs.Prelude.{map}
use Rattle.syntax.specs.Views.{member_of}
use Rattle.resolution.specs.Working.Findings.{found_in}
use Rattle.resolution.specs.Working.FaultLists.{member_faults, members_faults}
use Rattle.types_symbols.specs.Working.Views.{decls_of, members_seen}
use Rattle.types.proofs.Shapes.{members_one}
use Rattle.types_symbols.specs.Theory.Steps.{step, noted_one}
use Rattle.types.proofs.grown.Builder.report_members.Goals as goal

pub loop-m-preserved : goal.loop-m-preserved
loop-m-preserved c =
    let ds = decls_of c.args.self.now.symbols.now in
    let all = members_seen c.args.table.now in
    let items = c.args.members.now in
    let m = member_of c.m-item.result in
    let rest = map member_of (drop (c.loop-m.m-index + 1) items) in
    record {
      faults = step (λ ms. found_in c.loop-m.firsts (members_faults ds c.args.place all (map member_of ms))) (λ ms. found_in c.report_member.new.firsts (members_faults ds c.args.place all (map member_of ms))) items c.loop-m.m-index c.m-item.result _ c.loop-m-test.true c.m-item.is
          (noted_one c.loop-m.firsts c.report_member.new.firsts (member_faults ds c.args.place all m) (members_faults ds c.args.place all rest) c.in_ok-report_member.ensures ∙ ap (found_in c.loop-m.firsts) (sym (members_one ds c.args.place all m rest))) c.loop-m.invariant.faults;
    }
