use Rattle.std.proofs.Common.{ap}
use Rattle.std.specs.Map.{lookup}
use Rattle.std.specs.BTreeMap.{is_at}
use Rattle.std.specs.Ordering.{nat_cmp, ordering_then}
use Rattle.std.specs.Cmp.Lexicographic.{slice_cmp}
use Rattle.lsp_texts.proofs.TableLemmas.{no_tables}
use Rattle.lsp_texts.proofs.tables.Tables.new.Goals as goal

pub returns : goal.returns
returns c =
    no_tables _ (λ q. ap (lookup (is_at (λ k. slice_cmp nat_cmp q k.now))) c.new.ensures.empty)
    (λ o q. ap (lookup (is_at (λ k. ordering_then (nat_cmp o k.0) (slice_cmp nat_cmp q k.1.now)))) c.new-2.ensures.empty)
