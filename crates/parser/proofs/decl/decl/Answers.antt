use Rattle.parser.specs.Theory.Readers.{fails_on}
use Rattle.std.proofs.lemmas.Result.{err_from_is_err_and}
use Rattle.std.proofs.Common.{refl}
use Rattle.source.specs.declared.token.Keyword.TheVariants.{Lock, Struct, Global, Pool, Init, Atomic, Call, Thread}
use Rattle.parser.specs.Working.Declarations.{decl_at}
use Rattle.parser.specs.Theory.First.{word_first}
use Rattle.parser.proofs.decl.decl.Goals as goal

pub returns-in_ok-name-in-Word-default-Lock : goal.returns-in_ok-name-in-Word-default-Lock
unfolding decl_at
returns-in_ok-name-in-Word-default-Lock c = rw (word_first c.args.tokens.now c.first-item.result c.in-len1-up.len_at_least c.first-item.is c.in-Word-default-Lock.field-0 c.in-Word-default-Lock.field-1 Lock c.in-Word-default-Lock.is (rw c.in-Word-default-Lock.is at c.in-Word-default-Lock.field-1-is) (decl_at c.args.room), c.in_ok-name-in-Word-default-Lock.ensures) refl

pub returns-in_err-name-in-Word-default-Lock : goal.returns-in_err-name-in-Word-default-Lock
unfolding decl_at
returns-in_err-name-in-Word-default-Lock c =
    let p = err_from_is_err_and c.from_residual.result c.from_residual.ensures.1 in
    rw (p.1, p.2, word_first c.args.tokens.now c.first-item.result c.in-len1-up.len_at_least c.first-item.is c.in-Word-default-Lock.field-0 c.in-Word-default-Lock.field-1 Lock c.in-Word-default-Lock.is (rw c.in-Word-default-Lock.is at c.in-Word-default-Lock.field-1-is) (decl_at c.args.room)) (fails_on c.in_err-name-in-Word-default-Lock.field-0.0 _ _ c.in_err-name-in-Word-default-Lock.ensures)

pub returns-in_ok-structure-in-Word-default-Struct : goal.returns-in_ok-structure-in-Word-default-Struct
unfolding decl_at
returns-in_ok-structure-in-Word-default-Struct c = rw (word_first c.args.tokens.now c.first-item.result c.in-len1-up.len_at_least c.first-item.is c.in-Word-default-Struct.field-0 c.in-Word-default-Struct.field-1 Struct c.in-Word-default-Struct.is (rw c.in-Word-default-Struct.is at c.in-Word-default-Struct.field-1-is) (decl_at c.args.room), c.in_ok-structure-in-Word-default-Struct.ensures) refl

pub returns-in_err-structure-in-Word-default-Struct : goal.returns-in_err-structure-in-Word-default-Struct
unfolding decl_at
returns-in_err-structure-in-Word-default-Struct c =
    let p = err_from_is_err_and c.from_residual-in_err-structure-in-Word-default-Struct.result c.from_residual-in_err-structure-in-Word-default-Struct.ensures.1 in
    rw (p.1, p.2, word_first c.args.tokens.now c.first-item.result c.in-len1-up.len_at_least c.first-item.is c.in-Word-default-Struct.field-0 c.in-Word-default-Struct.field-1 Struct c.in-Word-default-Struct.is (rw c.in-Word-default-Struct.is at c.in-Word-default-Struct.field-1-is) (decl_at c.args.room)) (fails_on c.in_err-structure-in-Word-default-Struct.field-0.0 _ _ c.in_err-structure-in-Word-default-Struct.ensures)

pub returns-in_ok-thread-in-Word-default-Thread : goal.returns-in_ok-thread-in-Word-default-Thread
unfolding decl_at
returns-in_ok-thread-in-Word-default-Thread c = rw (word_first c.args.tokens.now c.first-item.result c.in-len1-up.len_at_least c.first-item.is c.in-Word-default-Thread.field-0 c.in-Word-default-Thread.field-1 Thread c.in-Word-default-Thread.is (rw c.in-Word-default-Thread.is at c.in-Word-default-Thread.field-1-is) (decl_at c.args.room), c.in_ok-thread-in-Word-default-Thread.ensures) refl

pub returns-in_err-thread-in-Word-default-Thread : goal.returns-in_err-thread-in-Word-default-Thread
unfolding decl_at
returns-in_err-thread-in-Word-default-Thread c =
    let p = err_from_is_err_and c.from_residual-in_err-thread-in-Word-default-Thread.result c.from_residual-in_err-thread-in-Word-default-Thread.ensures.1 in
    rw (p.1, p.2, word_first c.args.tokens.now c.first-item.result c.in-len1-up.len_at_least c.first-item.is c.in-Word-default-Thread.field-0 c.in-Word-default-Thread.field-1 Thread c.in-Word-default-Thread.is (rw c.in-Word-default-Thread.is at c.in-Word-default-Thread.field-1-is) (decl_at c.args.room)) (fails_on c.in_err-thread-in-Word-default-Thread.field-0.0 _ _ c.in_err-thread-in-Word-default-Thread.ensures)

pub returns-in-Word-default-Global : goal.returns-in-Word-default-Global
unfolding decl_at
returns-in-Word-default-Global c = rw (word_first c.args.tokens.now c.first-item.result c.in-len1-up.len_at_least c.first-item.is c.in-Word-default-Global.field-0 c.in-Word-default-Global.field-1 Global c.in-Word-default-Global.is (rw c.in-Word-default-Global.is at c.in-Word-default-Global.field-1-is) (decl_at c.args.room)) c.global.ensures

pub returns-in-Word-default-Pool : goal.returns-in-Word-default-Pool
unfolding decl_at
returns-in-Word-default-Pool c = rw (word_first c.args.tokens.now c.first-item.result c.in-len1-up.len_at_least c.first-item.is c.in-Word-default-Pool.field-0 c.in-Word-default-Pool.field-1 Pool c.in-Word-default-Pool.is (rw c.in-Word-default-Pool.is at c.in-Word-default-Pool.field-1-is) (decl_at c.args.room)) c.pool.ensures

pub returns-in-Word-default-Init : goal.returns-in-Word-default-Init
unfolding decl_at
returns-in-Word-default-Init c = rw (word_first c.args.tokens.now c.first-item.result c.in-len1-up.len_at_least c.first-item.is c.in-Word-default-Init.span c.in-Word-default-Init.field-1 Init c.in-Word-default-Init.is (rw c.in-Word-default-Init.is at c.in-Word-default-Init.field-1-is) (decl_at c.args.room)) c.init.ensures

pub returns-in_ok-section-in-Word-default-Atomic : goal.returns-in_ok-section-in-Word-default-Atomic
unfolding decl_at
returns-in_ok-section-in-Word-default-Atomic c = rw (word_first c.args.tokens.now c.first-item.result c.in-len1-up.len_at_least c.first-item.is c.in-Word-default-Atomic.field-0 c.in-Word-default-Atomic.field-1 Atomic c.in-Word-default-Atomic.is (rw c.in-Word-default-Atomic.is at c.in-Word-default-Atomic.field-1-is) (decl_at c.args.room), c.in_ok-section-in-Word-default-Atomic.ensures) refl

pub returns-in_err-section-in-Word-default-Atomic : goal.returns-in_err-section-in-Word-default-Atomic
unfolding decl_at
returns-in_err-section-in-Word-default-Atomic c =
    let p = err_from_is_err_and c.from_residual-in_err-section-in-Word-default-Atomic.result c.from_residual-in_err-section-in-Word-default-Atomic.ensures.1 in
    rw (p.1, p.2, word_first c.args.tokens.now c.first-item.result c.in-len1-up.len_at_least c.first-item.is c.in-Word-default-Atomic.field-0 c.in-Word-default-Atomic.field-1 Atomic c.in-Word-default-Atomic.is (rw c.in-Word-default-Atomic.is at c.in-Word-default-Atomic.field-1-is) (decl_at c.args.room)) (fails_on c.in_err-section-in-Word-default-Atomic.field-0.0 _ _ c.in_err-section-in-Word-default-Atomic.ensures)

pub returns-in_ok-helper-in-Word-default-Call : goal.returns-in_ok-helper-in-Word-default-Call
unfolding decl_at
returns-in_ok-helper-in-Word-default-Call c = rw (word_first c.args.tokens.now c.first-item.result c.in-len1-up.len_at_least c.first-item.is c.in-Word-default-Call.field-0 c.in-Word-default-Call.field-1 Call c.in-Word-default-Call.is (rw c.in-Word-default-Call.is at c.in-Word-default-Call.field-1-is) (decl_at c.args.room), c.in_ok-helper-in-Word-default-Call.ensures) refl

pub returns-in_err-helper-in-Word-default-Call : goal.returns-in_err-helper-in-Word-default-Call
unfolding decl_at
returns-in_err-helper-in-Word-default-Call c =
    let p = err_from_is_err_and c.from_residual-in_err-helper-in-Word-default-Call.result c.from_residual-in_err-helper-in-Word-default-Call.ensures.1 in
    rw (p.1, p.2, word_first c.args.tokens.now c.first-item.result c.in-len1-up.len_at_least c.first-item.is c.in-Word-default-Call.field-0 c.in-Word-default-Call.field-1 Call c.in-Word-default-Call.is (rw c.in-Word-default-Call.is at c.in-Word-default-Call.field-1-is) (decl_at c.args.room)) (fails_on c.in_err-helper-in-Word-default-Call.field-0.0 _ _ c.in_err-helper-in-Word-default-Call.ensures)
