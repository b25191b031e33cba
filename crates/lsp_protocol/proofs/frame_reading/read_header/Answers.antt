use Rattle.std.proofs.Common.{Some, refl, rules, arith}
use Rattle.lsp_protocol.specs.declared.frame_reading.TheConstants.{HEADER_LIMIT}
use Rattle.lsp_protocol.specs.declared.fields.Field.TheVariants.{Length, Other}
use Rattle.lsp_protocol.proofs.HeaderLemmas.{ended, spoilt, goes_on, too_long, one_less}
use Rattle.lsp_protocol.proofs.frame_reading.read_header.Goals as goal
use Rattle.lsp_protocol.proofs.frame_reading.read_header.Goals.{in-Length, in-Other}

pub returns-in-End-clause-header : goal.returns-in-End-clause-header
returns-in-End-clause-header g c = ended _ _ _ _ _ _ (one_less HEADER_LIMIT c.lines.counter c.lines-test.true) c.lines.invariant.within (rw c.in-End.is at c.in_ok-read_field.ensures.field)

pub returns-in-Wrong-clause-header : goal.returns-in-Wrong-clause-header
returns-in-Wrong-clause-header g c = spoilt _ _ _ _ _ _ (one_less HEADER_LIMIT c.lines.counter c.lines-test.true) c.lines.invariant.within (rw c.in-Wrong.is at c.in_ok-read_field.ensures.field)

pub returns-clause-header : goal.returns-clause-header
returns-clause-header g c = too_long _ _ _ _ (omega arith) c.lines.invariant.within

pub lines-preserved : goal.lines-preserved
lines-preserved g c =
    let more = one_less HEADER_LIMIT c.lines.counter c.lines-test.true in
    elim c.match-branch-2.branch [
      | in-Length w ↦ record {
        within = rw w.length-is (goes_on _ _ _ _ _ _ (Some w.in-Length.found) (Length w.in-Length.found) more (λ bytes. refl) c.lines.invariant.within (rw w.in-Length.is at c.in_ok-read_field.ensures.field));
        failed = search rules;
      }
      | in-Other w ↦ record {
        within = rw w.length-is (goes_on _ _ _ _ _ _ c.lines.length Other more (λ bytes. refl) c.lines.invariant.within (rw w.in-Other.is at c.in_ok-read_field.ensures.field));
        failed = search rules;
      }
    ]
