use Rattle.std.proofs.Common.{◌≡◌, ◌∙◌, ℕ, Some, None, false, sym, subst}
use Rattle.source.specs.declared.fault.Code.{Code}
use Rattle.source.specs.Mistakes.{goes_before, least_of}
use Rattle.locks.specs.Faults.{IsFault}
use Rattle.lockpaths.specs.Working.Faulted.{faults_of}
use Rattle.lockpaths.proofs.Faulty.{least_is_fault, least_is_least, none_is_none}
use Rattle.lockpaths.proofs.Used.{are_paths}
use Rattle.lockpaths.proofs.program.paths.Goals as goal

pub returns-in-Some-clause-fault : goal.returns-in-Some-clause-fault
returns-in-Some-clause-fault c =
    let program = c.args.program.now in
    let fault = c.in-Some.fault in
    let least : least_of None (faults_of program) ≡ Some fault = sym c.in-Ok.ensures.least ∙ c.in-Some.is in
    let is : IsFault program fault.code fault.start = least_is_fault c.each_path_once.ensures.same program fault least in (
      subst (λ (x : Code). IsFault program x c.at.result.start) (sym c.at.ensures.code)
          (subst (λ (n : ℕ). IsFault program fault.code n) (sym c.at.ensures.start) is),
      c.at.ensures.detail,
    )

pub returns-in-Some-clause-least : goal.returns-in-Some-clause-least
returns-in-Some-clause-least c =
    let program = c.args.program.now in
    let fault = c.in-Some.fault in
    let least : least_of None (faults_of program) ≡ Some fault = sym c.in-Ok.ensures.least ∙ c.in-Some.is in
    λ code start is.
    subst (λ (x : Code). goes_before (record { code = code; start = start }) (record { code = x; start = c.at.result.start }) ≡ false) (sym c.at.ensures.code)
    (subst (λ (n : ℕ). goes_before (record { code = code; start = start }) (record { code = fault.code; start = n }) ≡ false) (sym c.at.ensures.start)
    (least_is_least c.each_path_once.ensures.same program fault least code start is))

pub returns-in-None-clause-paths : goal.returns-in-None-clause-paths
returns-in-None-clause-paths c = are_paths c.args.program.now _ (c.in-Ok.ensures.found c.in-None.is)

pub returns-in-None-clause-faultless : goal.returns-in-None-clause-faultless
returns-in-None-clause-faultless c = none_is_none c.each_path_once.ensures.same c.args.program.now (sym c.in-Ok.ensures.least ∙ c.in-None.is)
