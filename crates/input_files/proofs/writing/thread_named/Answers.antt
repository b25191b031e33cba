use Rattle.std.proofs.Common.{◌≡◌, true, false, List, ℕ, sym, ap, ◌∙◌, arith, rules}
use Rattle.std.specs.Str.{bytes_eq}
use Rattle.input_files.specs.Steps.{is_named}
use Rattle.input_files.proofs.Named.{found_here, looked_on, found_nowhere}
use Rattle.input_files.proofs.writing.thread_named.Goals as goal

pub returns-then-eq-clause-place : goal.returns-then-eq-clause-place
returns-then-eq-clause-place c =
    let name = c.args.name.now in
    let thread = c.index-threads-i.result in
    let is : is_named name thread ≡ true =
    ap (λ (bytes : List ℕ). bytes_eq bytes name) (sym c.as_bytes.ensures.value) ∙ sym c.eq.ensures ∙ c.if-eq.true in
    found_here (is_named name) c.args.threads.now c.loop-i.i thread (omega arith) c.index-threads-i.is is c.loop-i.invariant

pub loop-i-preserved : goal.loop-i-preserved
loop-i-preserved c =
    let name = c.args.name.now in
    let thread = c.index-threads-i.result in
    let is : is_named name thread ≡ false =
    ap (λ (bytes : List ℕ). bytes_eq bytes name) (sym c.as_bytes.ensures.value) ∙ sym c.eq.ensures ∙ c.if-eq.false in
    looked_on (is_named name) c.args.threads.now c.loop-i.i thread (omega arith) c.index-threads-i.is is c.loop-i.invariant

pub returns-clause-place : goal.returns-clause-place
returns-clause-place c =
    found_nowhere (is_named c.args.name.now) c.args.threads.now _ (omega arith) (search rules)
