use Rattle.std.proofs.Common.{◌≡◌, ◌∙◌, ◌<◌, ◌≤◌, ℕ, List, ap, sym, subst, refl, arith, length, add-one, false}
use Rattle.std.proofs.lemmas.Grind.{common_steps}
use Rattle.std.specs.Vec.{with_item}
use Rattle.resolution.specs.Scopes.{Local, hidden_from, local_bears}
use Rattle.types_symbols.specs.Working.Found.{IsTableOf}
use Rattle.types_symbols.specs.Working.Scoped.{KnownLocals, locals_seen}
use Rattle.types_symbols.proofs.Hiding.{hide_step, hide_none, table_hidden, seen_length}
use Rattle.types_symbols.proofs.scope.Locals.hide_from.Goals as goal

pub loop-i-init : goal.loop-i-init
loop-i-init c =
    let same : locals_seen c.self.inside.items.items ≡ c.args.self.now.locals = ap (λ (k : KnownLocals). k.locals) c.self.view_is in
    record {
      hides = ap (hidden_from c.args.place) same;
      table = subst (λ (ls : List Local). IsTableOf local_bears ls c.self.inside.names) same c.self.invariant;
      type_same = ap (λ (k : KnownLocals). k.result) c.self.view_is;
      limits_same = ap (λ (k : KnownLocals). k.limits) c.self.view_is;
      len = sym (seen_length c.self.inside.items.items) ∙ ap length same;
    }

pub loop-i-preserved : goal.loop-i-preserved
loop-i-preserved c =
    let same : length (locals_seen c.self.inside.items.items) ≡ length c.args.self.now.locals = ap (λ (k : KnownLocals). length k.locals) c.self.view_is in
    let few = seen_length c.self.inside.items.items in
    let y = record c.index_mut.result.now { is_visible = false } in
    let lt : c.loop-i.i < length c.loop-i.self-inside.items.items = grind (arith, common_steps, same, few) in
    record {
      hides =
          ap (λ (n : ℕ). hidden_from n (locals_seen (with_item c.loop-i.self-inside.items c.loop-i.i y).items)) (add-one c.loop-i.i)
          ∙ hide_step c.loop-i.self-inside.items.items c.loop-i.i c.index_mut.result.now y lt c.index_mut.ensures.value refl
          ∙ c.loop-i.invariant.hides;
      table = c.loop-i.invariant.table;
      type_same = c.loop-i.invariant.type_same;
      limits_same = c.loop-i.invariant.limits_same;
      len = grind (arith, common_steps);
    }

pub invariant_of-self : goal.invariant_of-self
invariant_of-self c =
    let same : length (locals_seen c.self.inside.items.items) ≡ length c.args.self.now.locals = ap (λ (k : KnownLocals). length k.locals) c.self.view_is in
    let few = seen_length c.self.inside.items.items in
    let now = seen_length c.loop-i.self-inside.items.items in
    let le : length (locals_seen c.loop-i.self-inside.items.items) ≤ c.loop-i.i = grind (arith, common_steps, same, few, now) in
    table_hidden c.args.place c.args.self.now.locals (locals_seen c.loop-i.self-inside.items.items) c.loop-i.self-inside.names
    (sym (hide_none (locals_seen c.loop-i.self-inside.items.items) c.loop-i.i le) ∙ c.loop-i.invariant.hides) c.loop-i.invariant.table

pub returns-clause-hidden : goal.returns-clause-hidden
returns-clause-hidden c =
    let same : length (locals_seen c.self.inside.items.items) ≡ length c.args.self.now.locals = ap (λ (k : KnownLocals). length k.locals) c.self.view_is in
    let few = seen_length c.self.inside.items.items in
    let now = seen_length c.loop-i.self-inside.items.items in
    let le : length (locals_seen c.loop-i.self-inside.items.items) ≤ c.loop-i.i = grind (arith, common_steps, same, few, now) in
    sym (hide_none (locals_seen c.loop-i.self-inside.items.items) c.loop-i.i le) ∙ c.loop-i.invariant.hides
