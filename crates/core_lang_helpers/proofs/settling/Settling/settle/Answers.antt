use Rattle.std.proofs.Common.{◌≡◌, ◌<◌, ℕ, List, length, take, get_or, set, Some, Option, false, inl, sym, ap, ◌∙◌, subst, refl, arith}
use Rattle.std.proofs.lemmas.List.{get_or_read, get_or_default, length-map}
use Rattle.core_lang_helpers.specs.declared.graph.CallSite.{CallSite}
use Rattle.core_lang_helpers.specs.declared.extents.Extent.{Extent}
use Rattle.core_lang_helpers.specs.Graphs.{body_of, bodies_of}
use Rattle.core_lang_helpers.specs.Depths.{CallsOnly}
use Rattle.core_lang_helpers.specs.Working.Tables.{extent_by, IsSettled, IsOpenFrom, IsExtentOf, no_extent}
use Rattle.core_lang_helpers.specs.Working.Knowledge.{AreSettling, Settle}
use Rattle.core_lang_helpers.proofs.Having.{body_at}
use Rattle.core_lang_helpers.proofs.Settled.{settled_right, settle_one, settling_one, passed_on, waits_for, all_passed, some_if, none_if}
use Rattle.core_lang_helpers.proofs.settling.Settling.settle.Goals as goal

pub returns-then-is_some-clause-pends : goal.returns-then-is_some-clause-pends
returns-then-is_some-clause-pends c =
    let s = c.args.self.now in
    let f = c.args.helper in
    let there : f < length s.table.items = omega (arith, c.requires.there, c.requires.settling.long, length-map s.helpers.now body_of) in
    let found = some_if c.index.result.now c.is_some.result c.is_some.ensures c.if-is_some.true in
    inl (found.0, sym (get_or_read s.table.items f c.index.result.now there c.index.ensures (Some no_extent)) ∙ found.1)

-- the calls that are passed, as the code reads them
abbrev Passed : List (Option Extent) → ℕ → List CallSite → Type 0
Passed table n cs = CallsOnly (IsSettled table) (take n cs)

pub first_open-open-requires : goal.first_open-open-requires
first_open-open-requires c =
    let s = c.args.self.now in
    let f = c.args.helper in
    let x = get_or s.helpers.now f c.index-self-helper.result in
    let there : f < length s.passed.items = omega (arith, c.requires.there, c.requires.settling.passed_long, length-map s.helpers.now body_of) in
    let n : c.index-2.result.now ≡ get_or s.passed.items f 0 = get_or_read s.passed.items f c.index-2.result.now there c.index-2.ensures 0 in
    let at = body_at s.helpers.now f x c.requires.there (get_or_default s.helpers.now f c.index-self-helper.result x c.requires.there) in
    subst (λ (t : List (Option Extent)). Passed t c.index-2.result.now c.deref-2.result.now) (sym c.deref.ensures.value)
    (subst (λ (k : ℕ). Passed s.table.items k c.deref-2.result.now) (sym n)
    (subst (λ (cs : List CallSite). Passed s.table.items (get_or s.passed.items f 0) cs) (sym c.deref-2.ensures.value) (c.requires.settling.passes f (body_of x) at)))

pub returns-in_ok-push-clause-settling : goal.returns-in_ok-push-clause-settling
returns-in_ok-push-clause-settling c =
    let s = c.args.self.now in
    let f = c.args.helper in
    let helpers = bodies_of s.helpers.now in
    let table = s.table.items in
    let x = get_or s.helpers.now f c.index-self-helper.result in
    let k = c.first_open-open.result in
    let at = body_at s.helpers.now f x c.requires.there (get_or_default s.helpers.now f c.index-self-helper.result x c.requires.there) in
    let lt : f < length table = omega (arith, c.requires.there, c.requires.settling.long, length-map s.helpers.now body_of) in
    let none = sym (get_or_read table f c.index.result.now lt c.index.ensures (Some no_extent)) ∙ none_if c.index.result.now c.is_some.result c.is_some.ensures c.if-is_some.false in
    let opens : IsOpenFrom table x.calls.items k =
    subst (λ (t : List (Option Extent)). IsOpenFrom t x.calls.items k) c.deref.ensures.value
    (subst (λ (cs : List CallSite). IsOpenFrom c.deref.result.now cs k) c.deref-2.ensures.value c.first_open-open.ensures) in
    let all = all_passed table x.calls.items k opens (omega (arith, c.if-open-len.true, c.len.ensures, x.calls.ok.0)) in
    let right = subst (IsExtentOf helpers f) (sym (c.extent_from.ensures ∙ ap (λ (t : List (Option Extent)). extent_by t helpers (body_of x)) c.deref-then-open-len.ensures.value))
    (settled_right helpers table f (body_of x) c.requires.settling.ends at all) in
    subst (λ (ready : List ℕ). AreSettling helpers (set table f (Some c.extent_from.result)) (set s.passed.items f k) ready) (sym c.in_ok-push.ensures.items)
    (settling_one table f c.extent_from.result none helpers (set s.passed.items f k) s.ready.items
    (passed_on helpers table s.passed.items s.ready.items f k (body_of x) c.requires.settling at opens.settled) right)

pub returns-in_ok-push-clause-settles : goal.returns-in_ok-push-clause-settles
returns-in_ok-push-clause-settles c =
    let s = c.args.self.now in
    let f = c.args.helper in
    let table = s.table.items in
    let lt : f < length table = omega (arith, c.requires.there, c.requires.settling.long, length-map s.helpers.now body_of) in
    let none = sym (get_or_read table f c.index.result.now lt c.index.ensures (Some no_extent)) ∙ none_if c.index.result.now c.is_some.result c.is_some.ensures c.if-is_some.false in
    record {
      same = refl;
      settle = subst (λ (ready : List ℕ). Settle table (set table f (Some c.extent_from.result)) s.ready.items ready) (sym c.in_ok-push.ensures.items)
          (settle_one table f c.extent_from.result none s.ready.items);
    }

pub returns-else-open-len-clause-settling : goal.returns-else-open-len-clause-settling
returns-else-open-len-clause-settling c =
    let s = c.args.self.now in
    let f = c.args.helper in
    let helpers = bodies_of s.helpers.now in
    let x = get_or s.helpers.now f c.index-self-helper.result in
    let k = c.first_open-open.result in
    let at = body_at s.helpers.now f x c.requires.there (get_or_default s.helpers.now f c.index-self-helper.result x c.requires.there) in
    let opens : IsOpenFrom s.table.items x.calls.items k =
    subst (λ (t : List (Option Extent)). IsOpenFrom t x.calls.items k) c.deref.ensures.value
    (subst (λ (cs : List CallSite). IsOpenFrom c.deref.result.now cs k) c.deref-2.ensures.value c.first_open-open.ensures) in
    passed_on helpers s.table.items s.passed.items s.ready.items f k (body_of x) c.requires.settling at opens.settled

pub returns-else-open-len-clause-pends : goal.returns-else-open-len-clause-pends
returns-else-open-len-clause-pends c =
    let s = c.args.self.now in
    let f = c.args.helper in
    let helpers = bodies_of s.helpers.now in
    let x = get_or s.helpers.now f c.index-self-helper.result in
    let k = c.first_open-open.result in
    let d : CallSite = record { helper = 0; start = 0; is_bound = false } in
    let at = body_at s.helpers.now f x c.requires.there (get_or_default s.helpers.now f c.index-self-helper.result x c.requires.there) in
    let opens : IsOpenFrom s.table.items x.calls.items k =
    subst (λ (t : List (Option Extent)). IsOpenFrom t x.calls.items k) c.deref.ensures.value
    (subst (λ (cs : List CallSite). IsOpenFrom c.deref.result.now cs k) c.deref-2.ensures.value c.first_open-open.ensures) in
    waits_for helpers s.table.items s.ready.items f k (body_of x) d at opens (omega (arith, c.if-open-len.false, c.len.ensures, x.calls.ok.0))
