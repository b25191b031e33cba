use Rattle.std.proofs.Common.{◌≡◌, ℕ, ◌+◌, ◌∷◌, ◌++◌, [], arith, ap, sym, subst, ◌∙◌, List, length, take, drop}
use Rattle.std.proofs.lemmas.Grind.{common_steps}
use Rattle.std.proofs.lemmas.List.{take_all, drop_all}
use Rattle.syntax.specs.declared.tree.Decl as rust
use Rattle.syntax.specs.Trees.{Decl}
use Rattle.syntax.specs.Views.{decl_of}
use Rattle.types_symbols.specs.Working.Counted.{limited}
use Rattle.resolution.specs.Working.Findings.{found_in}
use Rattle.resolution.specs.Working.FaultLists.{count_faults, total_faults}
use Rattle.types_symbols.specs.declared.totals.Totals.{Totals}
use Rattle.types_symbols.specs.Working.Found.{AreAhead}
use Rattle.types_symbols.specs.Working.Capped.{both_totals, totals_of, faults_by}
use Rattle.types_symbols.specs.Working.Views.{decls_of}
use Rattle.types_symbols.proofs.Ahead.{ahead_none, ahead_more}
use Rattle.types_symbols.proofs.Declared.{take-here, taken_length, take_map}
use Rattle.types_symbols.proofs.Sums.{totals_push, faults_are}
use Rattle.types_symbols.specs.Theory.Steps.{step, noted_one}
use Rattle.types_symbols.proofs.Counting.{totals_capped, added_capped}
use Rattle.types_symbols.proofs.totals.check_totals.Goals as goal

pub loop-place-preserved : goal.loop-place-preserved
loop-place-preserved c =
    let items = c.items-items.result.now in
    let all = decls_of c.args.decls.now in
    let i = c.loop-place.place in
    let x = c.index-items-place.result in
    let d = decl_of x in
    let lt = c.loop-place-test.true in
    let is = c.index-items-place.is in
    let ds = decls_of (take i items) in
    let more = take-here decl_of items i x lt is in
    let F = totals_of all in
    let new : c.with-totals.result ≡ F (ds ++ d ∷ []) = c.with-totals.ensures.sum ∙ ap (λ (t : Totals). both_totals t c.of-own.result) c.loop-place.invariant.so_far ∙ ap (both_totals (F ds)) c.of-own.ensures ∙ totals_push all ds d in
    let number : c.limited.result ≡ limited ds d = c.limited.ensures ∙ ap (λ (xs : List rust.Decl). limited (take i (decls_of xs)) d) (sym c.items-items.ensures) ∙ ap (λ (es : List Decl). limited es d) (take_map decl_of i items) in
    let noted : c.report_decl.new.firsts ≡ found_in c.loop-place.firsts (count_faults all ds d) =
    c.report_decl.ensures ∙ ap (λ (n : ℕ). found_in c.loop-place.firsts (faults_by n c.loop-place.totals c.of-own.result d)) number
    ∙ ap (λ (t : Totals). found_in c.loop-place.firsts (faults_by (limited ds d) t c.of-own.result d)) c.loop-place.invariant.so_far
    ∙ ap (λ (t : Totals). found_in c.loop-place.firsts (faults_by (limited ds d) (F ds) t d)) c.of-own.ensures
    ∙ ap (found_in c.loop-place.firsts) (faults_are all ds d) in
    record {
      counts = subst (λ (es : List Decl). AreAhead F es c.push.new.self.items c.with-totals.result) (sym more)
          (subst (λ (cs : List Totals). AreAhead F (ds ++ d ∷ []) cs c.with-totals.result) (sym c.in-Ok.ensures.items)
          (ahead_more F ds d c.loop-place.ahead.items c.loop-place.totals c.with-totals.result (c.loop-place.invariant.len ∙ taken_length decl_of items i lt) new c.loop-place.invariant.counts));
      so_far = new ∙ ap F (sym more);
      len = grind (arith, common_steps);
      faults = step (λ xs. found_in c.loop-place.firsts (total_faults all ds (decls_of xs))) (λ xs. found_in c.report_decl.new.firsts (total_faults all (decls_of (take (i + 1) items)) (decls_of xs))) items i x _ lt is
          (ap (λ (es : List Decl). found_in c.report_decl.new.firsts (total_faults all es (decls_of (drop (i + 1) items)))) more
          ∙ noted_one c.loop-place.firsts c.report_decl.new.firsts (count_faults all ds d) (total_faults all (ds ++ d ∷ []) (decls_of (drop (i + 1) items))) noted)
          c.loop-place.invariant.faults;
    }

pub loop-place-init : goal.loop-place-init
loop-place-init c =
    let all = decls_of c.args.decls.now in
    record {
      counts = ahead_none (totals_of all) c.new-ahead.result.items c.new-totals.result c.new-ahead.ensures.items c.new-totals.ensures;
      so_far = c.new-totals.ensures;
      len = ap length c.new-ahead.ensures.items;
      faults = ap (λ (xs : List rust.Decl). found_in c.args.firsts.now (total_faults all [] (decls_of xs))) c.items-items.ensures;
    }

pub returns : goal.returns
returns c =
    let items = c.items-items.result.now in
    let all = decls_of c.args.decls.now in
    let i = c.loop-place.place in
    let taken : take i items ≡ c.args.decls.now = take_all i items c.loop-place-test.false ∙ c.items-items.ensures in
    let none : drop i items ≡ [] = drop_all i items c.loop-place-test.false in
    record {
      totals = subst (λ (xs : List rust.Decl). AreAhead (totals_of all) (decls_of xs) c.loop-place.ahead.items c.loop-place.totals) taken c.loop-place.invariant.counts;
      faults = ap (λ (xs : List rust.Decl). found_in c.loop-place.firsts (total_faults all (decls_of (take i items)) (decls_of xs))) (sym none) ∙ c.loop-place.invariant.faults;
    }

pub report_decl-requires-clause-ahead : goal.report_decl-requires-clause-ahead
report_decl-requires-clause-ahead c = totals_capped c.loop-place.totals (decls_of c.args.decls.now) (decls_of (take c.loop-place.place c.items-items.result.now)) c.loop-place.invariant.so_far

pub report_decl-requires-clause-own : goal.report_decl-requires-clause-own
report_decl-requires-clause-own c = added_capped c.of-own.result (decls_of c.args.decls.now) (decl_of c.index-items-place.result) c.of-own.ensures

pub with-totals-requires-clause-first : goal.with-totals-requires-clause-first
with-totals-requires-clause-first c = totals_capped c.loop-place.totals (decls_of c.args.decls.now) (decls_of (take c.loop-place.place c.items-items.result.now)) c.loop-place.invariant.so_far

pub with-totals-requires-clause-second : goal.with-totals-requires-clause-second
with-totals-requires-clause-second c = added_capped c.of-own.result (decls_of c.args.decls.now) (decl_of c.index-items-place.result) c.of-own.ensures
