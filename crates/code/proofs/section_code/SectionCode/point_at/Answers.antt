use Rattle.std.proofs.Common.{◌≡◌, leb, rules, ap, ◌∙◌, sym, subst}
use Rattle.std.specs.List.{count_by}
use Rattle.std.specs.List.Sorted.{IsNonDecreasing}
use Rattle.std.proofs.lemmas.List.Sorted.{IsPartitionPoint-from_clause, IsPartitionedBy-leb}
use Rattle.code.specs.LineTables.{last_of}
use Rattle.code.proofs.Counts.{counted, one_less}
use Rattle.code.proofs.section_code.SectionCode.point_at.Goals as goal

pub returns : goal.returns
returns c =
    let place = c.args.place in
    let begins = c.as_slice.result.now in
    let same : begins ≡ c.args.self.now.begins.items = c.as_slice.ensures.value in
    let rises : IsNonDecreasing begins = subst IsNonDecreasing (sym same) c.requires in
    let parted = IsPartitionedBy-leb (λ n. n) begins place rises in
    let point = IsPartitionPoint-from_clause (λ n. leb n place) _ _ c.partition_point-begun.ensures.partitioned parted (λ a r q k. search rules) in
    let n = counted (λ n. leb n place) begins c.partition_point-begun.result c.partition_point-begun.ensures.bound point in
    one_less c.partition_point-begun.result c.checked_sub.result c.checked_sub.ensures
    ∙ ap last_of (sym n)
    ∙ ap (λ ns. last_of (count_by (λ n. leb n place) ns)) same
