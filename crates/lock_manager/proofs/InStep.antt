-- Grants that are of given locks, in the order of the locks.
use Rattle.std.proofs.Common.{◌≡◌, ℕ, ◌+◌, ◌<◌, ◌≤◌, List, [], ◌∷◌, ◌++◌, length, take, get_or, sym, ap, ◌∙◌, subst, arith}
use Rattle.std.specs.List.{All, Contains}
use Rattle.std.proofs.lemmas.List.{take_all, take_more, map_more}
use Rattle.locks.specs.declared.lock.Lock.{Lock}
use Rattle.moved_cells.specs.Working.Grants.{GrantOf, IsWhole, locks_of}
use Rattle.lock_manager.specs.Working.Calls.{AreOf}
use Rattle.core_lang.specs.Theory.Items.{all_from, in_map}

pub in_step_more : (grants : List GrantOf) (held : List Lock) (i : ℕ) (g : GrantOf) (l : Lock) → i < length grants →
    i < length held → (get_or grants i g).lock ≡ get_or held i l → locks_of (take i grants) ≡ take i held →
    locks_of (take (i + 1) grants) ≡ take (i + 1) held
in_step_more grants held i g l lt within same so_far =
    map_more (λ (x : GrantOf). x.lock) grants i g lt
    ∙ ap (λ (ls : List Lock). ls ++ (get_or grants i g).lock ∷ []) so_far
    ∙ ap (λ (x : Lock). take i held ++ x ∷ []) same
    ∙ sym (take_more held i l within)

pub all_in_step : (cell_locks held : List Lock) (grants : List GrantOf) (i : ℕ) → length grants ≡ length held →
    length held ≤ i → locks_of (take i grants) ≡ take i held → All (IsWhole cell_locks) (take i grants) →
    AreOf cell_locks held grants
all_in_step cell_locks held grants i count past same whole =
    let long : length grants ≤ i = omega (arith, count, past) in
    let are : locks_of grants ≡ held = ap locks_of (sym (take_all i grants long)) ∙ same ∙ take_all i held past in
    record {
      count = count;
      all = subst (All (Contains (locks_of grants))) are (all_from (Contains (locks_of grants)) (locks_of grants) (λ l c. c));
      only = all_from (λ (g : GrantOf). Contains held g.lock) grants
          (λ g c. subst (λ (ls : List Lock). Contains ls g.lock) are (in_map (λ (x : GrantOf). x.lock) grants g c));
      whole = subst (All (IsWhole cell_locks)) (take_all i grants long) whole;
    }
