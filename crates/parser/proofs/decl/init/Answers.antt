use Rattle.std.proofs.lemmas.Result.{err_from_is_err_and}
use Rattle.source.specs.declared.token.Sign.TheVariants.{Dot, Equals, Semicolon}
use Rattle.source.specs.Tokens.{seen}
use Rattle.syntax.specs.Views.{const_of, ident}
use Rattle.parser.specs.Working.Parts.{const_at, index_at}
use Rattle.parser.specs.Working.Reading.{name_at}
use Rattle.parser.specs.Working.Declarations.{init_at}
use Rattle.parser.specs.Theory.Readers.{fails_on}
use Rattle.parser.specs.Theory.Ended.{ended, unended}
use Rattle.parser.proofs.Done.{init_done}
use Rattle.parser.proofs.decl.init.Goals as goal

pub returns : goal.returns
returns c =
    let x1 = ended Dot (index_at c.args.room) (seen c.in_ok-pool.rest.now) c.index.result (λ n. n) (λ r. seen r.now) c.in_ok-index.index _ c.index.ensures c.in_ok-index.ensures in
    let x2 = ended Equals name_at (seen c.in_ok-index.rest.now) c.take_name-2.result ident (λ r. seen r.now) c.in_ok-field.field _ c.take_name-2.ensures c.in_ok-field.ensures in
    let x3 = ended Semicolon (const_at c.args.room) (seen c.in_ok-field.rest.now) c.constant.result const_of (λ r. seen r.now) c.in_ok-value.value _ c.constant.ensures c.in_ok-value.ensures in
    init_done (seen c.args.tokens.now) c.in_ok-pool.ensures c.args.room c.args.start x1.read x1.sign x2.read x2.sign x3.read x3.sign

pub returns-in_err-pool : goal.returns-in_err-pool
unfolding init_at
returns-in_err-pool c =
    let p = err_from_is_err_and c.from_residual.result c.from_residual.ensures.1 in
    rw (p.1, p.2) (fails_on c.in_err-pool.field-0.0 _ _ (fails_on c.in_err-pool.field-0.0 _ _ c.in_err-pool.ensures))

pub returns-in_err-index : goal.returns-in_err-index
unfolding init_at
returns-in_err-index c =
    let p = err_from_is_err_and c.from_residual-in_err-index.result c.from_residual-in_err-index.ensures.1 in
    rw (p.1, p.2, c.in_ok-pool.ensures) (fails_on c.in_err-index.field-0.0 _ _ (unended Dot (index_at c.args.room) (seen c.in_ok-pool.rest.now) c.index.result (λ n. n) (λ r. seen r.now) c.in_err-index.field-0.0 _ c.index.ensures c.in_err-index.ensures))

pub returns-in_err-field : goal.returns-in_err-field
unfolding init_at
returns-in_err-field c =
    let x1 = ended Dot (index_at c.args.room) (seen c.in_ok-pool.rest.now) c.index.result (λ n. n) (λ r. seen r.now) c.in_ok-index.index _ c.index.ensures c.in_ok-index.ensures in
    let p = err_from_is_err_and c.from_residual-in_err-field.result c.from_residual-in_err-field.ensures.1 in
    rw (p.1, p.2, c.in_ok-pool.ensures, x1.read, x1.sign) (fails_on c.in_err-field.field-0.0 _ _ (unended Equals name_at (seen c.in_ok-index.rest.now) c.take_name-2.result ident (λ r. seen r.now) c.in_err-field.field-0.0 _ c.take_name-2.ensures c.in_err-field.ensures))

pub returns-in_err-value : goal.returns-in_err-value
unfolding init_at
returns-in_err-value c =
    let x1 = ended Dot (index_at c.args.room) (seen c.in_ok-pool.rest.now) c.index.result (λ n. n) (λ r. seen r.now) c.in_ok-index.index _ c.index.ensures c.in_ok-index.ensures in
    let x2 = ended Equals name_at (seen c.in_ok-index.rest.now) c.take_name-2.result ident (λ r. seen r.now) c.in_ok-field.field _ c.take_name-2.ensures c.in_ok-field.ensures in
    let p = err_from_is_err_and c.from_residual-in_err-value.result c.from_residual-in_err-value.ensures.1 in
    rw (p.1, p.2, c.in_ok-pool.ensures, x1.read, x1.sign, x2.read, x2.sign) (fails_on c.in_err-value.field-0.0 _ _ (unended Semicolon (const_at c.args.room) (seen c.in_ok-field.rest.now) c.constant.result const_of (λ r. seen r.now) c.in_err-value.field-0.0 _ c.constant.ensures c.in_err-value.ensures))
