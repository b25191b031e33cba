use Rattle.std.proofs.Common.{◌≡◌, ◌+◌, ℕ, List, [], ◌∷◌, ◌++◌, length, take, get_or, sym, ap, ◌∙◌, subst, refl, inl, inr, arith}
use Rattle.std.proofs.lemmas.List.{get_or_default}
use Rattle.core_lang_helpers.specs.declared.graph.CallerBody as code
use Rattle.core_lang_helpers.specs.Graphs.{bodies_of}
use Rattle.core_lang_helpers.specs.Working.Tables.{Has}
use Rattle.core_lang_helpers.specs.Working.Knowledge.{Pends, PendsBy}
use Rattle.core_lang_helpers.proofs.Extending.{taken}
use Rattle.core_lang_helpers.proofs.Having.{has_at, has_either}
use Rattle.core_lang_helpers.proofs.Settled.{settle_none, settle_both, pends_on}
use Rattle.core_lang_helpers.proofs.settling.Settling.settle_all.Goals as goal

pub loop-helper-init : goal.loop-helper-init
loop-helper-init c = record {
  settling = c.requires.settling;
  settles = record { same = refl; settle = settle_none c.args.self.now.table.items c.args.self.now.ready.items };
  pend = λ f has. absurd has;
}

pub settle-requires-clause-there : goal.settle-requires-clause-there
settle-requires-clause-there c =
    let row = c.args.row.now in
    let i = c.loop-helper.helper-index in
    let there = c.requires.there (get_or row i 0) (has_at row i 0 c.loop-helper-test.true) in
    omega (arith, there, ap (λ (l : List code.CallerBody). length l) c.loop-helper.invariant.settles.same)

pub loop-helper-preserved : goal.loop-helper-preserved
loop-helper-preserved c =
    let first = c.args.self.now in
    let old = c.loop-helper.self in
    let new = c.settle.new.self in
    let row = c.args.row.now in
    let i = c.loop-helper.helper-index in
    let x = get_or row i 0 in
    let done = c.in_ok-settle.ensures.settles in
    let next : take (i + 1) row ≡ take i row ++ x ∷ [] = taken row i x c.loop-helper-test.true (get_or_default row i 0 x c.loop-helper-test.true) in
    record {
      settling = c.in_ok-settle.ensures.settling;
      settles = record {
        same = done.same ∙ c.loop-helper.invariant.settles.same;
        settle = settle_both first.table.items old.table.items new.table.items first.ready.items old.ready.items new.ready.items c.loop-helper.invariant.settles.settle done.settle;
      };
      pend = λ f has. elim (has_either (take i row) x f (subst (λ (l : List ℕ). Has l f) next has)) [
        | inl earlier ↦
            subst (λ (hs : List code.CallerBody). PendsBy (bodies_of hs) new.table.items new.ready.items f) (sym done.same)
            (pends_on (bodies_of old.helpers.now) old.table.items new.table.items old.ready.items new.ready.items f done.settle (c.loop-helper.invariant.pend f earlier))
        | inr same ↦ subst (Pends new) same c.in_ok-settle.ensures.pends
      ];
    }
