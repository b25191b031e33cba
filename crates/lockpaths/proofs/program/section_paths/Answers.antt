use Rattle.std.proofs.Common.{◌∙◌, List, ℕ, ap, subst}
use Rattle.std.specs.List.{AllZip}
use Rattle.lockpaths.specs.Working.Numbers.{IsSetOf, cut}
use Rattle.lockpaths.specs.Working.Told.{Seen}
use Rattle.lockpaths.proofs.program.section_paths.Goals as goal

pub returns : goal.returns
returns c =
    let numbers = c.deref.ensures.value ∙ ap (λ (s : Seen). s.gathered.numbers) c.found.view_is in
    let ends = c.deref-2.ensures.value ∙ ap (λ (s : Seen). s.gathered.ends) c.found.view_is in
    record {
      paths = c.in_ok-paths.ensures;
      of_access = ap (λ (s : Seen). s.gathered.numbers) c.found.view_is;
      used = subst (λ (ns : List ℕ). AllZip IsSetOf c.in_ok-used.used.items (cut 0 ns c.args.found.gathered.ends)) numbers
          (subst (λ (es : List ℕ). AllZip IsSetOf c.in_ok-used.used.items (cut 0 c.deref.result.now es)) ends c.in_ok-used.ensures);
    }
