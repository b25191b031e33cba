use Rattle.std.proofs.Common.{arith}
use Rattle.std.proofs.lemmas.Option.{slice_get_within}
use Rattle.layout.proofs.Numbered.{at_field}
use Rattle.layout.proofs.numbering.Numbering.in_object.Goals as goal

pub returns-then-object-len : goal.returns-then-object-len
returns-then-object-len c = λ n lt e.
    let at = at_field c.args.self.now.objects.items c.args.object c.args.field n e in
    absurd (omega (arith, slice_get_within c.args.self.now.objects.items c.args.object at.place at.here, c.if-object-len.true))
