use Rattle.std.proofs.Common.{◌≡◌, ◌∙◌, ◌++◌, List, [], ap}
use Rattle.resolution.specs.declared.finding.Finding.{Finding}
use Rattle.resolution.specs.Working.Findings.{Firsts, found_in}
use Rattle.syntax.specs.declared.tree.Decl as rust
use Rattle.resolution.specs.Working.FaultLists.{twice_faults, struct_faults, total_faults, repeated_faults}
use Rattle.types_symbols.specs.Theory.Steps.{noted_one}
use Rattle.types_symbols.specs.Working.Views.{decls_of}
use Rattle.types_symbols.proofs.table.SymbolTable.new.Goals as goal

noted_four : (f g h k : Firsts) (a b c d : List Finding) → g ≡ found_in f (a ++ b) → h ≡ found_in g c →
    k ≡ found_in h d → k ≡ found_in f (a ++ b ++ c ++ d)
noted_four f g h k a b c d hg hh hk = hk ∙ noted_one f h (a ++ b ++ c) d (hh ∙ noted_one f g (a ++ b) c hg)

pub returns : goal.returns
returns c =
    let f = c.args.firsts.now in
    let items = decls_of c.args.items.now in
    let decls = decls_of c.in_ok-decls.decls in
    let same = c.in_ok-decls.ensures.items in
    let all = noted_four f c.new.new.firsts c.check_totals.new.firsts c.check_first_inits.new.firsts (twice_faults [] items) (struct_faults items) (total_faults decls [] decls) (repeated_faults decls [] decls)
    c.in_ok-decls.ensures.faults c.in-Ok.ensures.faults c.in-Ok-check_first_inits.ensures.faults in
    record {
      items = same;
      faults = all
          ∙ ap (λ (ds : List rust.Decl). found_in f (twice_faults [] items ++ struct_faults items ++ total_faults (decls_of ds) [] (decls_of ds) ++ repeated_faults (decls_of ds) [] (decls_of ds))) same;
    }

pub invariant_of-result : goal.invariant_of-result
invariant_of-result c = (c.in-Ok.ensures.totals, c.in-Ok-check_first_inits.ensures.first_inits)
