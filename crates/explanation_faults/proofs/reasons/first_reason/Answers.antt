use denote.Enum.Declared.{tag_of}
use Rattle.std.proofs.Common.{◌≡◌, ◌∙◌, ap, sym, false, true}
use Rattle.std.proofs.lemmas.Bool.{eq-eqb}
use Rattle.source.specs.contracts.fault.Code.{the_type}
use Rattle.source.specs.declared.mistake.Mistake.{Mistake}
use Rattle.resolution.specs.Working.Findings.{mistake_of, first as first_one}
use Rattle.explanation_faults.proofs.reasons.first_reason.Goals as goal
use Rattle.explanation_faults.proofs.reasons.first_reason.Goals.{else-eq-via-then-eq+else-found-fault, else-eq-via-else-eq}

-- the first fault is the one whose reason is asked for
pub returns : goal.returns
returns c = λ decls are first.
    let found = c.in_ok-found.found in
    let wanted : Mistake = record { code = c.args.fault.now.code; start = c.args.fault.now.start } in
    let least = sym (c.first_faults.ensures.first decls) ∙ ap first_one (sym are) ∙ sym c.first.ensures ∙ c.in_ok-found.was in
    let same : mistake_of found ≡ wanted =
    c.one_least.ensures decls (mistake_of found) wanted (c.least_fault.ensures.fault decls found least) first.is_fault
    (c.least_fault.ensures.least decls found least) first.first in
    elim c.else-eq.branch [
      | else-eq-via-then-eq+else-found-fault w ↦ w.if-found-fault.false (ap (λ (m : Mistake). m.start) same)
      | else-eq-via-else-eq w ↦
          let tags = ap (λ (m : Mistake). tag_of the_type m.code) same in
          let other : false ≡ true = w.if-eq.ensures ∙ eq-eqb (tag_of the_type found.code) (tag_of the_type wanted.code) tags in
          absurd cc
    ]
