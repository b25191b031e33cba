use Rattle.std.proofs.Common.{sym, ap, ◌∙◌, Ok}
use Rattle.std.specs.Rc.{rc_str_bytes}
use Rattle.source.specs.declared.token.Token.TheVariants as token
use Rattle.source.specs.Tokens.{seen}
use Rattle.syntax.specs.Trees.{Ident}
use Rattle.parser.specs.Working.Reading.{name_at}
use Rattle.parser.specs.Theory.First.{at_first, named_is, behind_first}
use Rattle.parser.proofs.take.take_name.Goals as goal

pub returns-in-Name : goal.returns-in-Name
unfolding name_at
returns-in-Name c =
    let n = c.in_ok-named in
    let k = c.in-Name in
    at_first c.args.tokens.now c.first-item.result (token.Name k.start k.text) c.in-len1-up.len_at_least c.first-item.is k.is name_at
    ∙ ap (λ (x : Ident). Ok (x, seen (behind_first c.args.tokens.now))) (sym (named_is n.field-0 (rc_str_bytes k.text) k.start n.ensures.0 n.ensures.1))
