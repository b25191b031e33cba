use Rattle.std.proofs.Common.{append_assoc}
use Rattle.syntax.specs.Views.{section_of}
use Rattle.explanation_names.proofs.Grown.{names_listed}
use Rattle.explanation_names.proofs.name_spaces.push_locals.Goals as goal

pub returns : goal.returns
returns c =
    let section = section_of c.args.section.now in
    rw (
      c.deref-3.ensures.value,
      c.in_ok-all.ensures,
      c.deref-2.ensures.value,
      ← names_listed section.body.stmts,
      c.in_ok-push_params.ensures,
      c.deref.ensures.value,
      append_assoc,
    ) at c.push_bound.ensures
