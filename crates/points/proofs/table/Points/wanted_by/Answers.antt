use Rattle.std.proofs.Common.{◌<◌, ◌≡◌, ◌∙◌, length, map, sym, ap, subst, vec_len, arith}
use Rattle.std.specs.Prelude.{slice_index}
use Rattle.std.proofs.lemmas.List.{get_or_read, length-map}
use Rattle.locks.specs.declared.path_set.PathSet.{PathSet}
use Rattle.points.specs.Working.Ranks.{AreWantedBy, ranks_by_path}
use Rattle.points.proofs.WantedSets.{wanted_more}
use Rattle.points.proofs.table.Points.wanted_by.Goals as goal

pub loop-p-preserved : goal.loop-p-preserved
loop-p-preserved c =
    let i = c.loop-p.invariant in
    let x = c.args.self.now in
    let none : PathSet = record { bits = 0 } in
    let used : c.loop-p.p < length x.used.items = omega (arith, c.loop-p-test.true, c.len-p-end.ensures, x.used.ok.0) in
    let later : c.loop-p.p < length x.used_later.items = omega (arith, used, x.used.ok.0, x.used_later.ok.0, x.of_used, x.of_used_later) in
    let scope : c.loop-p.p < length x.in_scope.items = omega (arith, used, x.used.ok.0, x.in_scope.ok.0, x.of_used, x.of_in_scope) in
    record {
      len = omega (arith, c.in_ok-push.ensures.len, i.len);
      sets =
          wanted_more x c.deref-2.result.now c.loop-p.p c.loop-p.sets.items c.push.new.self.items c.wanted.result c.index.result.now c.index-in-loop-p.result.now
          c.index-in-loop-p-2.result.now (sym c.loop-p.sets.ok.0 ∙ i.len) c.in_ok-push.ensures.items
          (get_or_read x.used.items c.loop-p.p c.index.result.now used c.index.ensures none)
          (get_or_read x.used_later.items c.loop-p.p c.index-in-loop-p.result.now later c.index-in-loop-p.ensures none)
          (get_or_read x.in_scope.items c.loop-p.p c.index-in-loop-p-2.result.now scope c.index-in-loop-p-2.ensures none) i.sets c.wanted.ensures;
    }

pub index-requires : goal.index-requires
index-requires c = omega (arith, c.loop-p-test.true, c.len-p-end.ensures)

pub index-requires-in-loop-p : goal.index-requires-in-loop-p
index-requires-in-loop-p c = let x = c.args.self.now in omega (arith, c.loop-p-test.true, c.len-p-end.ensures, x.of_used, x.of_used_later)

pub index-requires-in-loop-p-2 : goal.index-requires-in-loop-p-2
index-requires-in-loop-p-2 c = let x = c.args.self.now in omega (arith, c.loop-p-test.true, c.len-p-end.ensures, x.of_used, x.of_in_scope)

pub invariant_of-ranking : goal.invariant_of-ranking
invariant_of-ranking c =
    let x = c.args.self.now in
    let of_all = length-map c.deref.result.now (slice_index c.args.ranks.now) in
    record { few = omega (arith, ap length (c.deref-2.ensures.value ∙ c.in_ok-by_path.ensures), of_all, ap length c.deref.ensures.value, x.classes.ok.0, x.few) }

pub returns-clause-sets : goal.returns-clause-sets
returns-clause-sets c =
    let x = c.args.self.now in
    let sets = c.loop-p.sets in
    let same : c.deref-2.result.now ≡ ranks_by_path x c.args.ranks.now =
    c.deref-2.ensures.value ∙ c.in_ok-by_path.ensures ∙ ap (map (slice_index c.args.ranks.now)) c.deref.ensures.value in
    subst (λ ranks. AreWantedBy x ranks (vec_len sets) sets.items) same
    (subst (λ n. AreWantedBy x c.deref-2.result.now n sets.items) (sym c.loop-p.invariant.len) c.loop-p.invariant.sets)

pub returns-clause-len : goal.returns-clause-len
returns-clause-len c =
    omega (arith, c.loop-p.invariant.len, c.loop-p-test.false, c.loop-p.auto.p-end, c.len-p-end.ensures, c.args.self.now.of_used)

pub loop-p-init : goal.loop-p-init
loop-p-init c = record { len = c.in_ok-sets.ensures.len; sets = λ p i lt within. absurd (omega (arith, lt)) }
