use Rattle.std.proofs.lemmas.Result.{err_from_is_err_and}
use Rattle.source.specs.declared.token.Sign.TheVariants.{Semicolon}
use Rattle.source.specs.Tokens.{seen}
use Rattle.parser.specs.Working.Parts.{index_at}
use Rattle.parser.specs.Working.Declarations.{pool_at}
use Rattle.parser.specs.Theory.Readers.{fails_on}
use Rattle.parser.specs.Theory.Ended.{ended, unended}
use Rattle.parser.proofs.Done.{pool_done}
use Rattle.parser.proofs.decl.pool.Goals as goal

pub returns : goal.returns
returns c =
    let x2 = ended Semicolon (index_at c.args.room) (seen c.in_ok-name.rest.now) c.index.result (λ n. n) (λ r. seen r.now) c.in_ok-length.length _ c.index.ensures c.in_ok-length.ensures in
    pool_done (seen c.args.tokens.now) c.in_ok-target.ensures c.args.room c.in_ok-name.ensures x2.read x2.sign

pub returns-in_err-target : goal.returns-in_err-target
unfolding pool_at
returns-in_err-target c =
    let p = err_from_is_err_and c.from_residual.result c.from_residual.ensures.1 in
    rw (p.1, p.2) (fails_on c.in_err-target.field-0.0 _ _ (fails_on c.in_err-target.field-0.0 _ _ c.in_err-target.ensures))

pub returns-in_err-name : goal.returns-in_err-name
unfolding pool_at
returns-in_err-name c =
    let p = err_from_is_err_and c.from_residual-in_err-name.result c.from_residual-in_err-name.ensures.1 in
    rw (p.1, p.2, c.in_ok-target.ensures) (fails_on c.in_err-name.field-0.0 _ _ (fails_on c.in_err-name.field-0.0 _ _ c.in_err-name.ensures))

pub returns-in_err-length : goal.returns-in_err-length
unfolding pool_at
returns-in_err-length c =
    let p = err_from_is_err_and c.from_residual-in_err-length.result c.from_residual-in_err-length.ensures.1 in
    rw (p.1, p.2, c.in_ok-target.ensures, c.in_ok-name.ensures) (fails_on c.in_err-length.field-0.0 _ _ (unended Semicolon (index_at c.args.room) (seen c.in_ok-name.rest.now) c.index.result (λ n. n) (λ r. seen r.now) c.in_err-length.field-0.0 _ c.index.ensures c.in_err-length.ensures))
