-- Rank lists: how they grow, and that every edge rises in them.
use Rattle.std.proofs.Common.{◌≡◌, ℕ, zero, suc, ◌<◌, List, [], ◌∷◌, ◌++◌, take, length, Some, sym, ◌∙◌, subst, arith}
use Rattle.std.proofs.Common.{append-nil, append_assoc}
use Rattle.std.specs.Prelude.{slice_get, slice_index}
use Rattle.std.specs.List.{Contains}
use Rattle.std.proofs.lemmas.Option.{none-some, slice_get_within, slice_get-get_or}
use Rattle.lockorder.specs.Ranks.{IsReady, IsNext, EachIsNext, AreRanks, Rise, LeadTo, IsCycle}
use Rattle.lockorder.proofs.Lists.{in_take}
use Rattle.core_lang.specs.Theory.Items.{at_contained}

same_some : (a b : ℕ) → Some a ≡ Some b → a ≡ b
same_some a b e = cc

module _ (E : ℕ → ℕ → Type 0) (n : ℕ) where
  -- ---- one more

  -- the same for two equal descriptions of the listed classes
  module _ (L M : ℕ → Type 0) (to : (c : ℕ) → L c → M c) (from : (c : ℕ) → M c → L c) where
    ready_listed : (c : ℕ) → IsReady E n L c → IsReady E n M c
    ready_listed c r = record { class = r.class; new = λ m. r.new (from c m); listed_before = λ b e. to b (r.listed_before b e) }

  pub next_listed : (L M : ℕ → Type 0) (c : ℕ) → ((d : ℕ) → L d → M d) → ((d : ℕ) → M d → L d) → IsNext E n L c →
      IsNext E n M c
  next_listed L M c to from x = record { ready = ready_listed L M to from c x.ready; lowest = λ d r. x.lowest d (ready_listed M L from to d r) }

  pub each_push : (listed list : List ℕ) (c : ℕ) → EachIsNext E n listed list →
      IsNext E n (Contains (listed ++ list)) c → EachIsNext E n listed (list ++ c ∷ [])
  each_push listed [] c e h = (subst (λ (l : List ℕ). IsNext E n (Contains l) c) (append-nil listed) h, tt)
  each_push listed (x ∷ list) c e h =
      (e.0, each_push (listed ++ x ∷ []) list c e.1 (subst (λ (l : List ℕ). IsNext E n (Contains l) c) (sym (append_assoc listed (x ∷ []) list)) h))

  -- ---- each edge rises

  next_at : (listed list : List ℕ) (k d : ℕ) → EachIsNext E n listed list → slice_get list k ≡ Some d →
      IsNext E n (Contains (listed ++ take k list)) d
  next_at listed [] k d e at = absurd (none-some d at)
  next_at listed (x ∷ list) zero d e at =
      let same : x ≡ d = same_some x d at in
      subst (λ (l : List ℕ). IsNext E n (Contains l) d) (sym (append-nil listed)) (subst (IsNext E n (Contains listed)) same e.0)
  next_at listed (x ∷ list) (suc k) d e at =
      subst (λ (l : List ℕ). IsNext E n (Contains l) d) (append_assoc listed (x ∷ []) (take k list)) (next_at (listed ++ x ∷ []) list k d e.1 at)

  -- a class that has to precede a listed one is listed before it
  stands_before : (list : List ℕ) (k c d : ℕ) → EachIsNext E n [] list → slice_get list k ≡ Some d → E c d →
      (j : ℕ) × (j < k) × (slice_get list j ≡ Some c)
  stands_before list k c d e at edge = in_take k list c ((next_at [] list k d e at).ready.listed_before c edge)

  pub ranks_rise : (ranks : List ℕ) → AreRanks E n ranks → Rise E ranks
  ranks_rise ranks a c d r s edge rc rd =
      let lt : d < length ranks = slice_get_within ranks d s rd in
      let place = at_contained a.list d (a.is_list.all d (omega (arith, lt, a.long))) in
      let before = stands_before a.list place.0 c d a.is_list.each place.1 edge in
      let k : s ≡ place.0 = same_some s place.0 (sym rd ∙ a.places place.0 d place.1) in
      let j : r ≡ before.0 = same_some r before.0 (sym rc ∙ a.places before.0 c before.2) in
      omega (arith, before.1)

  -- ---- hence no cycle

  module _ (ranks : List ℕ) (rise : Rise E ranks) (within : (c d : ℕ) → E c d → (c < length ranks) × (d < length ranks)) where
    rank_rises : (c d : ℕ) → E c d → slice_index ranks c < slice_index ranks d
    rank_rises c d e =
        let w = within c d e in
        rise c d (slice_index ranks c) (slice_index ranks d) e (slice_get-get_or ranks c 0 w.0) (slice_get-get_or ranks d 0 w.1)

    rises_along : (first c : ℕ) (rest : List ℕ) → LeadTo E first (c ∷ rest) →
        slice_index ranks c < slice_index ranks first
    rises_along first c [] l = rank_rises c first l
    rises_along first c (d ∷ rest) l = omega (arith, rank_rises c d l.0, rises_along first d rest l.1)

    pub no_cycle : (list : List ℕ) → IsCycle E list → ⊥
    no_cycle [] h = h
    no_cycle (c ∷ rest) h = omega (arith, rises_along c c rest h.1)

-- ---- the same by another relation

module _ (E F : ℕ → ℕ → Type 0) (to : (c d : ℕ) → E c d → F c d) where
  pub lead_to_by : (first : ℕ) (list : List ℕ) → LeadTo E first list → LeadTo F first list
  lead_to_by first [] l = tt
  lead_to_by first (c ∷ []) l = to c first l
  lead_to_by first (c ∷ d ∷ rest) l = (to c d l.0, lead_to_by first (d ∷ rest) l.1)

  pub cycle_by : (list : List ℕ) → IsCycle E list → IsCycle F list
  cycle_by [] h = h
  cycle_by (c ∷ rest) h = (h.0, lead_to_by c (c ∷ rest) h.1)

  module _ (from : (c d : ℕ) → F c d → E c d) (n : ℕ) where
    ready_by : (L : ℕ → Type 0) (c : ℕ) → IsReady E n L c → IsReady F n L c
    ready_by L c r = record { class = r.class; new = r.new; listed_before = λ b f. r.listed_before b (from b c f) }

    ready_back : (L : ℕ → Type 0) (c : ℕ) → IsReady F n L c → IsReady E n L c
    ready_back L c r = record { class = r.class; new = r.new; listed_before = λ b e. r.listed_before b (to b c e) }

    next_by : (L : ℕ → Type 0) (c : ℕ) → IsNext E n L c → IsNext F n L c
    next_by L c x = record { ready = ready_by L c x.ready; lowest = λ d r. x.lowest d (ready_back L d r) }

    each_by : (listed list : List ℕ) → EachIsNext E n listed list → EachIsNext F n listed list
    each_by listed [] h = tt
    each_by listed (c ∷ rest) h = (next_by (Contains listed) c h.0, each_by (listed ++ c ∷ []) rest h.1)

    pub ranks_by : (ranks : List ℕ) → AreRanks E n ranks → AreRanks F n ranks
    ranks_by ranks a = record {
      list = a.list;
      is_list = record { each = each_by [] a.list a.is_list.each; all = a.is_list.all };
      places = a.places;
      long = a.long;
    }
