use Rattle.std.proofs.Common.{◌∙◌, map, ap, sym, refl}
use Rattle.language_server.specs.Takes.{compare}
use Rattle.language_server.specs.Working.Sets.{told_by, told_in}
use Rattle.language_server.specs.declared.takes.Take.{Take}
use Rattle.language_server.proofs.Sorting.{one_more}
use Rattle.language_server.proofs.Taking.{one_take}
use Rattle.language_server.proofs.named_section.NamedSection.add_take.Goals as goal

pub returns : goal.returns
returns c =
    let x = c.args.self.now in
    let key : Take = record { start = c.args.start; label = c.in_ok-label.label } in
    ap (map told_by) c.in_ok-insert.ensures.keys
    ∙ one_more told_by _ compare (λ a b. refl) c.args.found.now.keys key
    ∙ one_take x.program.now x.section.now c.args.start c.args.list.now _ (told_in c.args.found.now)
    (sym c.is_empty.ensures ∙ c.if-is_empty.false) c.in_ok-label.ensures
