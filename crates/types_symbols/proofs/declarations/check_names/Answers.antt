use Rattle.std.proofs.Common.{◌≡◌, ◌≤◌, ◌+◌, ◌∷◌, ◌++◌, [], arith, refl, ap, sym, subst, ◌∙◌, List, length, take, drop}
use Rattle.std.proofs.lemmas.Grind.{common_steps}
use Rattle.std.proofs.lemmas.List.{take_all, drop_all}
use Rattle.syntax.specs.declared.tree.Decl as rust
use Rattle.syntax.specs.Trees.{Decl}
use Rattle.syntax.specs.Views.{decl_of}
use Rattle.resolution.specs.Scopes.{alike, count, bears, declared}
use Rattle.resolution.specs.Working.Findings.{found_in}
use Rattle.resolution.specs.Working.FaultLists.{twice, twice_faults}
use Rattle.types_symbols.specs.declared.declarations.Counts.{Counts}
use Rattle.types_symbols.specs.Working.Found.{IsTableOf, AreAhead}
use Rattle.types_symbols.specs.Working.Counted.{count_of, counted, counts_from, no_counts}
use Rattle.types_symbols.specs.Working.Views.{decls_of, name_seen}
use Rattle.types_symbols.proofs.Ahead.{ahead_none, ahead_more, counts_append, counts_none}
use Rattle.types_symbols.proofs.Declared.{take-here, taken_length, names_more, twice_is, count_le}
use Rattle.types_symbols.specs.Theory.Steps.{step, noted_one}
use Rattle.types_symbols.proofs.declarations.check_names.Goals as goal

pub count-requires : goal.count-requires
count-requires c =
    let d = decl_of c.index-decls-place.result in
    let ds = decls_of (take c.loop-place.place c.args.decls.now) in
    let e : count_of c.loop-place.counts d ≡ count (alike d) ds = ap (λ (k : Counts). count_of k d) c.loop-place.invariant.so_far ∙ counts_none ds d in
    let le = count_le (alike d) ds in
    let len = taken_length decl_of c.args.decls.now c.loop-place.place c.loop-place-test.true in
    let few : count_of c.loop-place.counts d ≤ c.loop-place.place = omega (arith, e, le, len) in
    grind (arith, common_steps)

pub loop-place-preserved : goal.loop-place-preserved
loop-place-preserved c =
    let decls = c.args.decls.now in
    let i = c.loop-place.place in
    let x = c.index-decls-place.result in
    let d = decl_of x in
    let lt = c.loop-place-test.true in
    let is = c.index-decls-place.is in
    let ds = decls_of (take i decls) in
    let more = take-here decl_of decls i x lt is in
    let F = counts_from no_counts in
    let new : c.count.new.self ≡ F (ds ++ d ∷ []) = c.count.ensures ∙ ap (λ (k : Counts). counted k d) c.loop-place.invariant.so_far ∙ sym (counts_append no_counts ds d) in
    record {
      table = subst (λ (es : List Decl). IsTableOf bears es c.add_name.new.names) (sym more)
          (names_more (name_seen c.name_in-name.result) ds d i c.loop-place.names c.add_name.new.names c.name_in-name.ensures (taken_length decl_of decls i lt) c.loop-place.invariant.table c.in_ok-add_name.ensures);
      counts = subst (λ (es : List Decl). AreAhead F es c.push.new.self.items c.count.new.self) (sym more)
          (subst (λ (cs : List Counts). AreAhead F (ds ++ d ∷ []) cs c.count.new.self) (sym c.in_ok-push.ensures.items)
          (ahead_more F ds d c.loop-place.ahead.items c.loop-place.counts c.count.new.self (c.loop-place.invariant.len ∙ taken_length decl_of decls i lt) new c.loop-place.invariant.counts));
      so_far = new ∙ ap F (sym more);
      len = grind (arith, common_steps);
      faults = step (λ xs. found_in c.loop-place.firsts (twice_faults ds (decls_of xs))) (λ xs. found_in c.report_twice.new.firsts (twice_faults (decls_of (take (i + 1) decls)) (decls_of xs))) decls i x _ lt is
          (ap (λ (es : List Decl). found_in c.report_twice.new.firsts (twice_faults es (decls_of (drop (i + 1) decls)))) more
          ∙ noted_one c.loop-place.firsts c.report_twice.new.firsts (twice ds (declared d)) (twice_faults (ds ++ d ∷ []) (decls_of (drop (i + 1) decls)))
          (c.report_twice.ensures ∙ ap (found_in c.loop-place.firsts) (twice_is (name_seen c.name_in-name.result) ds d c.loop-place.names c.name_in-name.ensures c.loop-place.invariant.table)))
          c.loop-place.invariant.faults;
    }

pub loop-place-init : goal.loop-place-init
loop-place-init c = record {
  table = c.new-names.ensures;
  counts = ahead_none (counts_from no_counts) c.new-ahead.result.items c.new-counts.result c.new-ahead.ensures.items c.new-counts.ensures;
  so_far = c.new-counts.ensures;
  len = ap length c.new-ahead.ensures.items;
  faults = refl;
}

pub returns : goal.returns
returns c =
    let decls = c.args.decls.now in
    let i = c.loop-place.place in
    let all : take i decls ≡ decls = take_all i decls c.loop-place-test.false in
    let none : drop i decls ≡ [] = drop_all i decls c.loop-place-test.false in
    record {
      names = subst (λ (xs : List rust.Decl). IsTableOf bears (decls_of xs) c.loop-place.names) all c.loop-place.invariant.table;
      counts = subst (λ (xs : List rust.Decl). AreAhead (counts_from no_counts) (decls_of xs) c.loop-place.ahead.items c.loop-place.counts) all c.loop-place.invariant.counts;
      faults = ap (λ (xs : List rust.Decl). found_in c.loop-place.firsts (twice_faults (decls_of (take i decls)) (decls_of xs))) (sym none) ∙ c.loop-place.invariant.faults;
    }
