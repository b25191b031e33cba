use Rattle.source.specs.Theory.Leasts.{neither_before}
use Rattle.resolution.proofs.laws.one_least.Goals as goal

pub returns : goal.returns
returns c = λ decls f g is so first_f first_g. neither_before f g (first_g f.code f.start is) (first_f g.code g.start so)
