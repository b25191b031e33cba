use Rattle.parser.specs.Theory.Readers.{fails_on}
use Rattle.std.proofs.lemmas.Result.{err_from_is_err_and}
use Rattle.std.proofs.Common.{refl}
use Rattle.source.specs.declared.token.Keyword.TheVariants.{Int, Ref}
use Rattle.parser.specs.Working.Parts.{type_at}
use Rattle.parser.specs.Theory.First.{word_first}
use Rattle.parser.proofs.parts.value_type.Goals as goal

pub returns-in-Word-default-Int : goal.returns-in-Word-default-Int
unfolding type_at
returns-in-Word-default-Int c = word_first c.args.tokens.now c.first-item.result c.in-len1-up.len_at_least c.first-item.is c.in-Word-default-Int.field-0 c.in-Word-default-Int.field-1 Int c.in-Word-default-Int.is (rw c.in-Word-default-Int.is at c.in-Word-default-Int.field-1-is) (type_at)

pub returns-in_ok-target-in-Word-default-Ref : goal.returns-in_ok-target-in-Word-default-Ref
unfolding type_at
returns-in_ok-target-in-Word-default-Ref c = rw (word_first c.args.tokens.now c.first-item.result c.in-len1-up.len_at_least c.first-item.is c.in-Word-default-Ref.field-0 c.in-Word-default-Ref.field-1 Ref c.in-Word-default-Ref.is (rw c.in-Word-default-Ref.is at c.in-Word-default-Ref.field-1-is) (type_at), c.in_ok-target-in-Word-default-Ref.ensures) refl

pub returns-in_err-target-in-Word-default-Ref : goal.returns-in_err-target-in-Word-default-Ref
unfolding type_at
returns-in_err-target-in-Word-default-Ref c =
    let p = err_from_is_err_and c.from_residual.result c.from_residual.ensures.1 in
    rw (p.1, p.2, word_first c.args.tokens.now c.first-item.result c.in-len1-up.len_at_least c.first-item.is c.in-Word-default-Ref.field-0 c.in-Word-default-Ref.field-1 Ref c.in-Word-default-Ref.is (rw c.in-Word-default-Ref.is at c.in-Word-default-Ref.field-1-is) (type_at)) (fails_on c.in_err-target-in-Word-default-Ref.field-0.0 _ _ c.in_err-target-in-Word-default-Ref.ensures)
