use Rattle.std.proofs.Common.{◌≡◌, ◌∙◌, List, [], ◌∷◌, ◌++◌, ap, sym, refl}
use Rattle.source.specs.declared.token.Token.{Token}
use Rattle.source.specs.declared.token.Token.TheVariants.{End}
use Rattle.source.specs.Tokens.{seen, seen_token}
use Rattle.explanation_tokens.specs.Expected.{token_at}
use Rattle.explanation_tokens.specs.Working.Trials.{before_in}
use Rattle.explanation_tokens.proofs.Tried.{tried_with, seen_parts, before_still, behind_still, can_if_fault}
use Rattle.explanation_tokens.proofs.Tried.{says_if_fault, comes_if_tree}
use Rattle.explanation_tokens.proofs.trial.can_come.Goals as goal

pub returns-in-Ok-clause-behind : goal.returns-in-Ok-clause-behind
returns-in-Ok-clause-behind c =
    rw (c.in_ok-push-2.ensures.items, c.in_ok-push.ensures.items, c.truncate.ensures.items)
    (behind_still c.args.place c.args.tokens.now.items c.in_ok-token.token (End c.args.place.span.end) c.requires)

pub returns-in-Ok-clause-before : goal.returns-in-Ok-clause-before
returns-in-Ok-clause-before c =
    rw (c.in_ok-push-2.ensures.items, c.in_ok-push.ensures.items, c.truncate.ensures.items)
    (before_still c.args.place.number c.args.tokens.now.items c.in_ok-token.token (End c.args.place.span.end) c.requires.within)

pub returns-in-Err-Fault-clause-behind : goal.returns-in-Err-Fault-clause-behind
returns-in-Err-Fault-clause-behind c =
    rw (c.in_ok-push-2.ensures.items, c.in_ok-push.ensures.items, c.truncate.ensures.items)
    (behind_still c.args.place c.args.tokens.now.items c.in_ok-token.token (End c.args.place.span.end) c.requires)

pub returns-in-Err-Fault-clause-before : goal.returns-in-Err-Fault-clause-before
returns-in-Err-Fault-clause-before c =
    rw (c.in_ok-push-2.ensures.items, c.in_ok-push.ensures.items, c.truncate.ensures.items)
    (before_still c.args.place.number c.args.tokens.now.items c.in_ok-token.token (End c.args.place.span.end) c.requires.within)

pub returns-in-Ok-clause-can : goal.returns-in-Ok-clause-can
returns-in-Ok-clause-can c is_so =
    let old = c.args.tokens.now.items in
    let last = End c.args.place.span.end in
    let items : c.deref.result.now ≡ tried_with c.args.place.number old c.in_ok-token.token last =
    c.deref.ensures.value ∙ c.in_ok-push-2.ensures.items
    ∙ ap (λ (l : List Token). l ++ last ∷ []) (c.in_ok-push.ensures.items ∙ ap (λ (l : List Token). l ++ c.in_ok-token.token ∷ []) c.truncate.ensures.items) in
    let parts : seen c.deref.result.now ≡ before_in c.args.place old ++ token_at c.args.candidate c.args.place.span.start ∷ seen_token last ∷ [] =
    ap seen items ∙ seen_parts c.args.place.number old c.in_ok-token.token last c.requires.within
    ∙ ap (λ t. before_in c.args.place old ++ t ∷ seen_token last ∷ []) c.in_ok-token.ensures in
    comes_if_tree (before_in c.args.place old) (seen_token last) c.args.place.span.start c.args.candidate _ (rw parts at c.in-Ok.ensures.found.0)

pub returns-in-Err-Fault-clause-can : goal.returns-in-Err-Fault-clause-can
returns-in-Err-Fault-clause-can c is_so =
    let old = c.args.tokens.now.items in
    let last = End c.args.place.span.end in
    let items : c.deref.result.now ≡ tried_with c.args.place.number old c.in_ok-token.token last =
    c.deref.ensures.value ∙ c.in_ok-push-2.ensures.items
    ∙ ap (λ (l : List Token). l ++ last ∷ []) (c.in_ok-push.ensures.items ∙ ap (λ (l : List Token). l ++ c.in_ok-token.token ∷ []) c.truncate.ensures.items) in
    let parts : seen c.deref.result.now ≡ before_in c.args.place old ++ token_at c.args.candidate c.args.place.span.start ∷ seen_token last ∷ [] =
    ap seen items ∙ seen_parts c.args.place.number old c.in_ok-token.token last c.requires.within
    ∙ ap (λ t. before_in c.args.place old ++ t ∷ seen_token last ∷ []) c.in_ok-token.ensures in
    can_if_fault (before_in c.args.place old) (seen c.deref.result.now) (seen_token last) c.args.place.span.start c.in-Err-Fault.fault.start c.in-Err-Fault.fault.code
    c.args.candidate (parts, refl, c.requires.one) c.requires.before (rw c.in-Err-Fault.field-0-is at c.in-Err-Fault.ensures.fault).0
    (rw (sym c.requires.one) (sym c.says_it_can.ensures ∙ is_so))

pub returns-in-Err-Fault-clause-cannot : goal.returns-in-Err-Fault-clause-cannot
returns-in-Err-Fault-clause-cannot c can =
    let old = c.args.tokens.now.items in
    let last = End c.args.place.span.end in
    let items : c.deref.result.now ≡ tried_with c.args.place.number old c.in_ok-token.token last =
    c.deref.ensures.value ∙ c.in_ok-push-2.ensures.items
    ∙ ap (λ (l : List Token). l ++ last ∷ []) (c.in_ok-push.ensures.items ∙ ap (λ (l : List Token). l ++ c.in_ok-token.token ∷ []) c.truncate.ensures.items) in
    let parts : seen c.deref.result.now ≡ before_in c.args.place old ++ token_at c.args.candidate c.args.place.span.start ∷ seen_token last ∷ [] =
    ap seen items ∙ seen_parts c.args.place.number old c.in_ok-token.token last c.requires.within
    ∙ ap (λ t. before_in c.args.place old ++ t ∷ seen_token last ∷ []) c.in_ok-token.ensures in
    c.says_it_can.ensures ∙ rw c.requires.one
    (says_if_fault (before_in c.args.place old) (seen c.deref.result.now) (seen_token last) c.args.place.span.start c.in-Err-Fault.fault.start c.in-Err-Fault.fault.code
    c.args.candidate (parts, refl, c.requires.one) (rw c.in-Err-Fault.field-0-is at c.in-Err-Fault.ensures.fault).0 can)
