use Rattle.std.proofs.Common.{◌≡◌, ◌≤◌, ℕ, ◌+◌, ◌∷◌, ◌++◌, [], arith, refl, ap, sym, subst, ◌∙◌, List, take, drop}
use Rattle.std.proofs.Common.{length, Option, Some, None, if◌then◌else◌}
use Rattle.std.proofs.lemmas.Grind.{common_steps}
use Rattle.std.proofs.lemmas.List.{take_all, drop_all}
use Rattle.std.specs.Prelude.{map, is_some, not}
use Rattle.std.specs.Option.{option_or}
use Rattle.std.specs.Str.{bytes_eq}
use Rattle.syntax.specs.declared.tree.Member as rust
use Rattle.syntax.specs.Trees.{Ident, Member}
use Rattle.syntax.specs.Views.{member_of, ident}
use Rattle.resolution.specs.Scopes.{members_alike, count, member_bears, member_name, place_of}
use Rattle.resolution.specs.Numbers.{fields_from, new_field}
use Rattle.resolution.specs.Working.Findings.{found_in}
use Rattle.resolution.specs.Working.FaultLists.{one_if, again, member_twice_faults}
use Rattle.source.specs.declared.fault.Code.TheVariants.{DeclaredTwice}
use Rattle.types_symbols.specs.declared.members.MemberCounts.{MemberCounts}
use Rattle.types_symbols.specs.Working.Found.{IsTableOf, AreAhead, found}
use Rattle.types_symbols.specs.Working.Counted.{member_count, member_counted, member_counts_from, no_members}
use Rattle.types_symbols.proofs.Ahead.{ahead_none, ahead_more, member_counts_append, member_counts_none}
use Rattle.types_symbols.proofs.Declared.{take-here, taken_length, count_le}
use Rattle.types_symbols.proofs.Structs.{again_if, field_is, field_le}
use Rattle.types_symbols.proofs.Tables.{table-more}
use Rattle.types_symbols.specs.Theory.Steps.{step, noted_one}
use Rattle.types_symbols.proofs.members.check_members.Goals as goal

pub count-requires : goal.count-requires
count-requires c =
    let items = c.args.members.now in
    let m = member_of c.index-members-place.result in
    let ms = map member_of (take c.loop-place.place items) in
    let e : member_count c.loop-place.counts m ≡ count (members_alike m) ms = ap (λ (k : MemberCounts). member_count k m) c.loop-place.invariant.so_far ∙ member_counts_none ms m in
    let le = count_le (members_alike m) ms in
    let len = taken_length member_of items c.loop-place.place c.loop-place-test.true in
    let few : member_count c.loop-place.counts m ≤ c.loop-place.place = omega (arith, e, le, len) in
    grind (arith, common_steps)

pub loop-place-preserved : goal.loop-place-preserved
loop-place-preserved c =
    let items = c.args.members.now in
    let i = c.loop-place.place in
    let x = c.index-members-place.result in
    let m = member_of x in
    let lt = c.loop-place-test.true in
    let is = c.index-members-place.is in
    let ms = map member_of (take i items) in
    let rest = map member_of (drop (i + 1) items) in
    let more = take-here member_of items i x lt is in
    let F = member_counts_from no_members in
    let b = c.is_none-is_first.result in
    let named : ident c.name_of-name.result.now ≡ member_name m = c.name_of-name.ensures in
    let o : Option ℕ = place_of member_bears ms (member_name m).text in
    let found_is : c.find.result ≡ o = c.find.ensures ∙ ap (found c.loop-place.names) (c.as_str.ensures.value ∙ ap (λ (n : Ident). n.text) named) ∙ c.loop-place.invariant.table (member_name m).text in
    let first : is_some o ≡ not b = sym (ap is_some found_is) ∙ c.is_none-is_first.ensures in
    let new : c.count.new.self ≡ F (ms ++ m ∷ []) = c.count.ensures ∙ ap (λ (k : MemberCounts). member_counted k m) c.loop-place.invariant.so_far ∙ sym (member_counts_append no_members ms m) in
    let field : c.fields_with-width.result ≡ new_field o m = c.fields_with-width.ensures ∙ field_is b o m first in
    let little : c.fields_with-width.result ≤ 1 = subst (λ (k : ℕ). k ≤ 1) (sym c.fields_with-width.ensures) (field_le b m) in
    record {
      table = subst (λ (es : List Member). IsTableOf member_bears es c.add.new.self) (sym more)
          (table-more member_bears ms m c.loop-place.names c.add.new.self c.loop-place.invariant.table
          (λ q. c.in_ok-add.ensures q ∙ ap (λ (n : Ident). option_or (found c.loop-place.names q) (if bytes_eq q n.text then Some i else None)) named ∙ ap (λ (k : ℕ). option_or (found c.loop-place.names q) (if member_bears m q then Some k else None)) (taken_length member_of items i lt)));
      counts = subst (λ (es : List Member). AreAhead F es c.push.new.self.items c.count.new.self) (sym more)
          (subst (λ (cs : List MemberCounts). AreAhead F (ms ++ m ∷ []) cs c.count.new.self) (sym c.in_ok-push.ensures.items)
          (ahead_more F ms m c.loop-place.ahead.items c.loop-place.counts c.count.new.self (c.loop-place.invariant.len ∙ taken_length member_of items i lt) new c.loop-place.invariant.counts));
      so_far = new ∙ ap F (sym more);
      len = grind (arith, common_steps);
      width = step (λ xs. c.loop-place.width + fields_from ms (map member_of xs)) (λ xs. (c.loop-place.width + c.fields_with-width.result) + fields_from (map member_of (take (i + 1) items)) (map member_of xs)) items i x _ lt is
          (ap (λ (es : List Member). (c.loop-place.width + c.fields_with-width.result) + fields_from es rest) more ∙ omega (arith, field)) c.loop-place.invariant.width;
      few = let le = c.loop-place.invariant.few in omega (arith, le, little);
      faults = step (λ xs. found_in c.loop-place.firsts (member_twice_faults ms (map member_of xs))) (λ xs. found_in c.report_again.new.firsts (member_twice_faults (map member_of (take (i + 1) items)) (map member_of xs))) items i x _ lt is
          (ap (λ (es : List Member). found_in c.report_again.new.firsts (member_twice_faults es rest)) more
          ∙ noted_one c.loop-place.firsts c.report_again.new.firsts (again (member_name m).span.start o) (member_twice_faults (ms ++ m ∷ []) rest)
          (c.report_again.ensures ∙ ap (λ (n : Ident). found_in c.loop-place.firsts (one_if (not b) DeclaredTwice n.span.start)) named ∙ ap (found_in c.loop-place.firsts) (again_if b o (member_name m).span.start first)))
          c.loop-place.invariant.faults;
    }

pub loop-place-init : goal.loop-place-init
loop-place-init c = record {
  table = c.new-names.ensures;
  counts = ahead_none (member_counts_from no_members) c.new-ahead.result.items c.new-counts.result c.new-ahead.ensures.items c.new-counts.ensures;
  so_far = c.new-counts.ensures;
  len = ap length c.new-ahead.ensures.items;
  width = omega arith;
  few = omega arith;
  faults = refl;
}

pub returns : goal.returns
returns c =
    let items = c.args.members.now in
    let i = c.loop-place.place in
    let all : take i items ≡ items = take_all i items c.loop-place-test.false in
    let none : drop i items ≡ [] = drop_all i items c.loop-place-test.false in
    record {
      names = subst (λ (xs : List rust.Member). IsTableOf member_bears (map member_of xs) c.loop-place.names) all c.loop-place.invariant.table;
      counts = subst (λ (xs : List rust.Member). AreAhead (member_counts_from no_members) (map member_of xs) c.loop-place.ahead.items c.loop-place.counts) all c.loop-place.invariant.counts;
      width =
          sym (ap (λ (xs : List rust.Member). c.loop-place.width + fields_from (map member_of (take i items)) (map member_of xs)) none ∙ omega arith) ∙ c.loop-place.invariant.width;
      faults = ap (λ (xs : List rust.Member). found_in c.loop-place.firsts (member_twice_faults (map member_of (take i items)) (map member_of xs))) (sym none) ∙ c.loop-place.invariant.faults;
    }
