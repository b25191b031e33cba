use Rattle.std.proofs.Common.{◌≡◌, ◌≤◌, ◌<◌, ℕ, List, length, drop, ap, sym, ◌∙◌, subst, arith, get_or, refl}
use Rattle.std.proofs.lemmas.Bool.Decides.{nat_tests}
use lib.Dec.{leb}
use Rattle.history.specs.Commits.{Commit}
use Rattle.workers.specs.Logs.{NoneOf}
use Rattle.workers.proofs.Ends.{none_behind, none_above, last_before}
use Rattle.workers.proofs.log.Log.has_none_of.Goals as goal

pub returns-in-Some : goal.returns-in-Some
returns-in-Some g c =
    let t = c.args.thread in
    let ends = c.self.inside.ends.items in
    let log = c.self.inside.front in
    let found = (c.in-Some.ensures).lookup in
    let there : t < length ends = subst (λ (xs : List ℕ). t < length xs) c.deref.ensures.value found.3.0 in
    let end : c.in-Some.end.now ≡ get_or ends t 0 = found.3.1 0 ∙ ap (λ (xs : List ℕ). get_or xs t 0) c.deref.ensures.value in (
      λ is.
          let le : get_or ends t 0 ≤ c.args.from = grind (arith, nat_tests) in
          subst (λ (l : List Commit). NoneOf t (drop c.args.from l)) c.self.view_is
          (none_behind t (get_or ends t 0) c.args.from log le (c.self.invariant.behind t there)),
      λ none.
          ap (λ (n : ℕ). leb n c.args.from) end
          ∙ last_before ends log t c.args.from there c.self.invariant (subst (λ (l : List Commit). NoneOf t (drop c.args.from l)) (sym c.self.view_is) none)
          (leb (get_or ends t 0) c.args.from) refl,
    )

pub returns-in-None : goal.returns-in-None
returns-in-None g c =
    let t = c.args.thread in
    let ends = c.self.inside.ends.items in
    let log = c.self.inside.front in
    let lookup = (c.in-None.ensures).lookup in
    let past : length c.deref.result.now ≤ t = grind (arith, nat_tests) in
    let above : length ends ≤ t = subst (λ (xs : List ℕ). length xs ≤ t) c.deref.ensures.value past in (
      λ is.
          subst (λ (l : List Commit). NoneOf t (drop c.args.from l)) c.self.view_is
          (none_above t (length ends) c.args.from log c.self.invariant.threads above),
      λ none. refl,
    )
