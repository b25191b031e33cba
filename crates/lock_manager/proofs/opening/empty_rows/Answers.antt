use Rattle.std.proofs.Common.{◌++◌, ◌∷◌, [], List, ℕ, replicate, ap, ◌∙◌, Vec, Global}
use Rattle.std.proofs.lemmas.List.{map-append, replicate_more}
use Rattle.lock_manager.specs.Working.Committed.{rows}
use Rattle.lock_manager.proofs.Lists.{same_bound}
use Rattle.lock_manager.proofs.opening.empty_rows.Goals as goal

pub loop-preserved : goal.loop-preserved
loop-preserved c =
    ap rows c.in_ok-push.ensures.items ∙ map-append (λ (v : Vec ℕ Global). v.items) c.loop.all.items (c.new.result ∷ [])
    ∙ ap (λ (l : List (List ℕ)). l ++ c.new.result.items ∷ []) c.loop.invariant ∙ ap (λ (row : List ℕ). replicate c.loop.counter [] ++ row ∷ []) c.new.ensures.items
    ∙ replicate_more c.loop.counter []

pub returns : goal.returns
returns c = c.loop.invariant ∙ ap (λ (n : ℕ). replicate n []) (same_bound c.loop.counter c.args.count c.loop.auto.counter-end c.loop-test.false)
