use Rattle.std.proofs.Common.{◌<◌, length, arith}
use Rattle.std.proofs.lemmas.Result.{err_from_is_err_and}
use Rattle.source.specs.declared.fault.Code.TheVariants.{LimitExceeded}
use Rattle.source.specs.Tokens.{seen}
use Rattle.source.specs.Texts.{SOURCE_LIMIT, too_big}
use Rattle.syntax.specs.Views.{tree_of}
use Rattle.formatting.proofs.Faults.{refusal_of_text, refusal_of_tokens, judged, no_memory}
use Rattle.formatting.proofs.whole.format.Goals as goal

pub returns-in_err-tokens-clause-fault : goal.returns-in_err-tokens-clause-fault
returns-in_err-tokens-clause-fault c =
    let p = err_from_is_err_and c.from_residual.result c.from_residual.ensures.1 in
    rw (p.1, p.2) (refusal_of_text c.args.text.now c.in_err-tokens.field-0.0 c.in_err-tokens.ensures.fault)

pub returns-in_err-tokens-clause-refused : goal.returns-in_err-tokens-clause-refused
returns-in_err-tokens-clause-refused c =
    let p = err_from_is_err_and c.from_residual.result c.from_residual.ensures.1 in
    rw (p.1, p.2) (λ code start h. judged c.args.text.now h
    (λ f. c.in_err-tokens.ensures.refused code start f)
    (λ ts within has f. no_memory c.args.text.now code start c.in_err-tokens.field-0.0 (c.in_err-tokens.ensures.only ts within has)))

pub returns-in_err-_tree-clause-fault : goal.returns-in_err-_tree-clause-fault
returns-in_err-_tree-clause-fault c =
    let p = err_from_is_err_and c.from_residual-in_err-_tree.result c.from_residual-in_err-_tree.ensures.1 in
    let small : SOURCE_LIMIT < length c.args.text.now → ⊥ = λ l. c.in_ok-tokens.ensures.refused LimitExceeded 0 (too_big l) in
    rw (p.1, p.2) (refusal_of_tokens c.args.text.now (seen c.in_ok-tokens.tokens.items) (omega arith) c.in_ok-tokens.ensures.found c.in_err-_tree.field-0.0 (rw c.deref.ensures.value at c.in_err-_tree.ensures.fault))

pub returns-in_err-_tree-clause-refused : goal.returns-in_err-_tree-clause-refused
returns-in_err-_tree-clause-refused c =
    let p = err_from_is_err_and c.from_residual-in_err-_tree.result c.from_residual-in_err-_tree.ensures.1 in
    rw (p.1, p.2) (λ code start h. judged c.args.text.now h
    (λ f. absurd (c.in_ok-tokens.ensures.refused code start f))
    (λ ts within has f. c.one_token_fault.ensures.one c.args.text.now (seen c.in_ok-tokens.tokens.items) ts code start c.in_err-_tree.field-0.0 c.in_ok-tokens.ensures.found has f (rw c.deref.ensures.value at c.in_err-_tree.ensures.fault)))

pub lay_out-requires-clause-small : goal.lay_out-requires-clause-small
lay_out-requires-clause-small c =
    let small : SOURCE_LIMIT < length c.args.text.now → ⊥ = λ l. c.in_ok-tokens.ensures.refused LimitExceeded 0 (too_big l) in
    omega arith

pub returns-clause-program : goal.returns-clause-program
returns-clause-program c =
    let small : SOURCE_LIMIT < length c.args.text.now → ⊥ = λ l. c.in_ok-tokens.ensures.refused LimitExceeded 0 (too_big l) in
    record {
      within = omega arith;
      tokens = seen c.in_ok-tokens.tokens.items;
      tree = tree_of c.in_ok-_tree._tree;
      has_tokens = c.in_ok-tokens.ensures.found;
      has_tree = rw c.deref.ensures.value at c.in_ok-_tree.ensures.found;
    }

pub returns-clause-only : goal.returns-clause-only
returns-clause-only c = λ out h g. c.one_layout.ensures c.args.text.now c.in_ok-lay_out.field-0.items out c.in_ok-lay_out.ensures g

pub returns-clause-refused : goal.returns-clause-refused
returns-clause-refused c = λ code start h. judged c.args.text.now h
    (λ f. c.in_ok-tokens.ensures.refused code start f)
    (λ ts within has f. c.one_token_fault.ensures.never c.args.text.now (seen c.in_ok-tokens.tokens.items) ts code start (tree_of c.in_ok-_tree._tree) c.in_ok-tokens.ensures.found has f (rw c.deref.ensures.value at c.in_ok-_tree.ensures.found))
