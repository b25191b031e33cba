use Rattle.std.proofs.Common.{string_bytes, refl}
use Rattle.std.proofs.lemmas.Result.{on_ok_weaker}
use Rattle.code.specs.Theory.Written.{found_added, none_added}
use Rattle.report_runs.specs.Working.Instructions.{instr_told}
use Rattle.report_runs.proofs.instructions.SectionTeller.push_at.Goals as goal

pub returns-in-Some : goal.returns-in-Some
returns-in-Some c =
    on_ok_weaker c.push_instr.result
    (λ e. found_added (instr_told c.args.self.now c.args.place) _ _ _ (string_bytes c.args.out.now)
    c.deref.ensures.value c.in-Some.instr _ _ c.in-Some.ensures.lookup refl e)
    c.push_instr.ensures

pub returns-in-None : goal.returns-in-None
returns-in-None c =
    none_added (instr_told c.args.self.now c.args.place) _ _ _ (string_bytes c.args.out.now) c.deref.ensures.value
    c.in-None.ensures.lookup
