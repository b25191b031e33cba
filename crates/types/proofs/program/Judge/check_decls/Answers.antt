use Rattle.std.proofs.Common.{◌+◌, drop, ap}
use Rattle.syntax.specs.Views.{decl_of}
use Rattle.resolution.specs.Working.Building.{resolved_from}
use Rattle.resolution.specs.Working.Findings.{found_in}
use Rattle.resolution.specs.Working.FaultLists.{decl_faults, each_faults}
use Rattle.types_symbols.specs.Working.Views.{decls_of}
use Rattle.types.specs.Working.Grown.{built}
use Rattle.types_symbols.specs.Theory.Steps.{step, noted_one}
use Rattle.types.proofs.program.Judge.check_decls.Goals as goal

pub loop-place-preserved : goal.loop-place-preserved
loop-place-preserved c =
    let ds = decls_of c.args.self.now.builder.symbols.now in
    let items = c.items-items.result.now in
    let i = c.loop-place.place in
    let rest = decls_of (drop (i + 1) items) in
    record {
      value = step (λ xs. resolved_from ds i (built c.loop-place.grown) (decls_of xs)) (λ xs. resolved_from ds (i + 1) (built c.check_decl.new.grown) (decls_of xs)) items i c.index-items-place.result _ c.loop-place-test.true c.index-items-place.is
          (ap (λ p. resolved_from ds (i + 1) p rest) c.in_ok-check_decl.ensures.value) c.loop-place.invariant.value;
      faults = step (λ xs. found_in c.loop-place.firsts (each_faults ds i (decls_of xs))) (λ xs. found_in c.check_decl.new.firsts (each_faults ds (i + 1) (decls_of xs))) items i c.index-items-place.result _ c.loop-place-test.true c.index-items-place.is
          (noted_one c.loop-place.firsts c.check_decl.new.firsts (decl_faults ds i (decl_of c.index-items-place.result)) (each_faults ds (i + 1) rest) c.in_ok-check_decl.ensures.faults) c.loop-place.invariant.faults;
    }
