use Rattle.std.proofs.Common.{◌≡◌, sym, ap, ◌∙◌, Ok, Bool, if◌then◌else◌}
use Rattle.std.specs.Rc.{rc_str_bytes}
use Rattle.source.specs.declared.token.Keyword.TheVariants.{Null}
use Rattle.source.specs.declared.token.Number.{Number}
use Rattle.source.specs.declared.token.Token.TheVariants as token
use Rattle.source.specs.Tokens.{seen}
use Rattle.syntax.specs.Trees.{Ident, int_const}
use Rattle.parser.specs.Working.Parts.{const_at, const_from, member_from, negative_from}
use Rattle.parser.specs.Working.Reading.{refused}
use Rattle.parser.specs.Theory.First.{at_first, refused_first, named_is, behind_first}
use Rattle.parser.proofs.parts.constant.Goals as goal

pub returns-in-Word-default-Null : goal.returns-in-Word-default-Null
unfolding const_at
returns-in-Word-default-Null c =
    let w = c.in-Word-default-Null in
    let null : w.field-1 ≡ Null = rw w.is at w.field-1-is in
    at_first c.args.tokens.now c.first-item.result (token.Word w.span Null) c.in-len1-up.len_at_least c.first-item.is (w.is ∙ ap (token.Word w.span) null) (const_at c.args.room)

pub returns-in-Int : goal.returns-in-Int
unfolding const_at
returns-in-Int c =
    at_first c.args.tokens.now c.first-item.result (token.Int c.in-Int.span c.in-Int.value) c.in-len1-up.len_at_least c.first-item.is c.in-Int.is (const_at c.args.room)
    ∙ ap (λ (n : Number). Ok (int_const n, seen (behind_first c.args.tokens.now))) (sym c.small.ensures)

pub returns-in-Large : goal.returns-in-Large
unfolding const_at
returns-in-Large c =
    at_first c.args.tokens.now c.first-item.result (token.Large c.in-Large.number) c.in-len1-up.len_at_least c.first-item.is c.in-Large.is (const_at c.args.room)
    ∙ ap (λ (n : Number). Ok (int_const n, seen (behind_first c.args.tokens.now))) (sym c.deref.ensures)

pub returns-in_ok-named-in-Name : goal.returns-in_ok-named-in-Name
unfolding const_at
returns-in_ok-named-in-Name c =
    let n = c.in_ok-named-in-Name in
    let k = c.in-Name in
    rw (at_first c.args.tokens.now c.first-item.result (token.Name k.start k.text) c.in-len1-up.len_at_least c.first-item.is k.is (const_at c.args.room)
    ∙ ap (λ (x : Ident). member_from c.args.room x (seen (behind_first c.args.tokens.now))) (sym (named_is n.field-0 (rc_str_bytes k.text) k.start n.ensures.0 n.ensures.1))) c.member.ensures

pub returns-then-not-is_same : goal.returns-then-not-is_same
unfolding const_at
returns-then-not-is_same c =
    refused_first c.args.tokens.now c.first-item.result (token.Mark c.in-Mark.span c.in-Mark.mark) c.in-len1-up.len_at_least c.first-item.is c.in-Mark.is (const_from c.args.room)
    (λ ts. ap (λ (b : Bool). if b then negative_from c.in-Mark.span ts else refused ts) (sym c.is_same.ensures ∙ c.if-not-is_same.true))

pub returns-else-not-is_same : goal.returns-else-not-is_same
unfolding const_at
returns-else-not-is_same c =
    rw (at_first c.args.tokens.now c.first-item.result (token.Mark c.in-Mark.span c.in-Mark.mark) c.in-len1-up.len_at_least c.first-item.is c.in-Mark.is (const_at c.args.room)
    ∙ ap (λ (b : Bool). if b then negative_from c.in-Mark.span (seen (behind_first c.args.tokens.now)) else refused (seen (behind_first c.args.tokens.now))) (sym c.is_same.ensures ∙ c.if-not-is_same.false)) c.negative.ensures
