-- The hash table of states.
use Rattle.std.proofs.Common.{◌≡◌, ◌∙◌, ℕ, ◌+◌, ◌<◌, ◌≤◌, suc, List, [], ◌∷◌, ◌++◌, length, map, get_or, slice_get}
use Rattle.std.proofs.Common.{slice_set, Option, Some, None, cond, nat_eq, inl, inr, ap, sym, subst, refl, arith}
use Rattle.std.proofs.Common.{eq-eqb, ne_eqb, length-append}
use Rattle.std.proofs.lemmas.Bool.{cases_eq}
use Rattle.std.proofs.lemmas.List.{map-append, map-set, get_or-map, length-map}
use Rattle.std.proofs.lemmas.List.Sums.{sum_by_push, sum_by-set}
use Rattle.std.proofs.lemmas.Option.{slice_get_within, get_or_from_slice_get}
use Rattle.std.proofs.Math.ListN.{length-set}
use Rattle.std.proofs.Math.Seq.{set-append_seam}
use Rattle.std.specs.HashMap.{HashMap, get}
use Rattle.std.specs.declared.hash.FoldHasher.{FoldHasher}
use Rattle.std.specs.declared.hash.BuildHasherDefault.{BuildHasherDefault}
use Rattle.core_lang.specs.declared.value.Value.{Value}
use Rattle.outcomes.specs.declared.state.Change.{Change}
use Rattle.outcomes.specs.Ends.{Left}
use Rattle.outcomes.specs.Working.Changes.{AreChanges}
use Rattle.outcomes.specs.declared.layer.Entry.{Entry}
use Rattle.outcomes.specs.Working.Hashes.{hash_left}
use Rattle.outcomes.specs.Working.States.{Reached, IsAlike, entry_state, orders_to, at, nowhere, NoneIsAlike}
use Rattle.outcomes.specs.Working.Tables.{hash_of, HasHash, IsLast, IsTable, HasAlike, IsLeft, left_count}
use Rattle.outcomes.proofs.Lists.{set_at, replaced_at}
use Rattle.core_lang.specs.Theory.Items.{get_some, still_at, last_at, pushed_at}

module _ (start : FoldHasher) (opening : List Value) where
  -- entries with the same hashes at the same indices below `n`
  abbrev HaveSame : List Entry → List Entry → ℕ → Type 0
  HaveSame entries others n =
      (h k : ℕ) → k < n → (HasHash start opening entries h k → HasHash start opening others h k) × (HasHash start opening others h k → HasHash start opening entries h k)

  last_along : (entries others : List Entry) (h n : ℕ) (o : Option ℕ) → HaveSame entries others n →
      IsLast start opening entries h n o → IsLast start opening others h n o
  last_along entries others h n None same none = λ k within has. none k within ((same h k within).1 has)
  last_along entries others h n (Some last) same is =
      (is.0, (same h last is.0).0 is.1, λ k above within has. is.2 k above within ((same h k within).1 has))

  -- ---- one more entry

  same_with_more : (entries : List Entry) (e : Entry) (n : ℕ) → n ≤ length entries →
      HaveSame entries (entries ++ e ∷ []) n
  same_with_more entries e n few h k within = (
    λ has. (has.0, still_at entries (e ∷ []) k has.0 has.1, has.2),
    λ has. elim (pushed_at entries e k has.0 has.1) [
      | inl there ↦ (has.0, there, has.2)
      | inr here ↦ absurd (let same : k ≡ length entries = here.0 in omega arith)
    ],
  )

  -- the last entry of a hash stays the last after one more entry of another hash
  last_of_others : (entries : List Entry) (e : Entry) (h : ℕ) (o : Option ℕ) → (hash_of start opening e ≡ h → ⊥) →
      IsLast start opening (entries ++ e ∷ []) h (length entries) o → IsLast start opening (entries ++ e ∷ []) h (suc (length entries)) o
  last_of_others entries e h None other none = λ k within has.
      elim (pushed_at entries e k has.0 has.1) [
        | inl there ↦ none k (slice_get_within entries k has.0 there) has
        | inr here ↦ other (ap (hash_of start opening) here.1 ∙ has.2)
      ]
  last_of_others entries e h (Some last) other is = (
    omega (arith, is.0),
    is.1,
    λ k above within has. elim (pushed_at entries e k has.0 has.1) [
      | inl there ↦ is.2 k above (slice_get_within entries k has.0 there) has
      | inr here ↦ other (ap (hash_of start opening) here.1 ∙ has.2)
    ],
  )

  last_of_own : (entries : List Entry) (e : Entry) →
      IsLast start opening (entries ++ e ∷ []) (hash_of start opening e) (suc (length entries)) (Some (length entries))
  last_of_own entries e = (omega arith, (e, last_at entries e, refl), λ k above within has. omega arith)

  pub table_push : (entries : List Entry) (places more : HashMap ℕ ℕ (BuildHasherDefault FoldHasher)) (total : ℕ) (e : Entry) →
      IsTable start opening entries places total → AreChanges opening e.state.changes.items →
      e.before ≡ get nat_eq places (hash_of start opening e) →
      ((q : ℕ) → get nat_eq more q ≡ cond (nat_eq (hash_of start opening e) q) (Some (length entries)) (get nat_eq places q)) →
      IsTable start opening (entries ++ e ∷ []) more (total + e.state.orders)
  table_push entries places more total e is are link there =
      let long : length (entries ++ e ∷ []) ≡ suc (length entries) = length-append entries (e ∷ []) ∙ omega arith in
      record {
        last = λ h. subst (λ n. IsLast start opening (entries ++ e ∷ []) h n (get nat_eq more h)) (sym long) (elim (cases_eq (hash_of start opening e) h) [
          | inl same ↦
              (let found : get nat_eq more h ≡ Some (length entries) = there h ∙ ap (λ b. cond b (Some (length entries)) (get nat_eq places h)) (eq-eqb (hash_of start opening e) h same) in
              subst (IsLast start opening (entries ++ e ∷ []) h (suc (length entries))) (sym found)
              (subst (λ h. IsLast start opening (entries ++ e ∷ []) h (suc (length entries)) (Some (length entries))) same (last_of_own entries e)))
          | inr other ↦
              (let found : get nat_eq more h ≡ get nat_eq places h = there h ∙ ap (λ b. cond b (Some (length entries)) (get nat_eq places h)) (ne_eqb (hash_of start opening e) h other) in
              subst (IsLast start opening (entries ++ e ∷ []) h (suc (length entries))) (sym found)
              (last_of_others entries e h (get nat_eq places h) other
              (last_along entries (entries ++ e ∷ []) h (length entries) (get nat_eq places h) (same_with_more entries e (length entries) (omega arith)) (is.last h))))
        ]);
        before = λ k x here. elim (pushed_at entries e k x here) [
          | inl old ↦
              (let within : k < length entries = slice_get_within entries k x old in
              last_along entries (entries ++ e ∷ []) (hash_of start opening x) k x.before (same_with_more entries e k (omega arith)) (is.before k x old))
          | inr new ↦
              (let first = last_along entries (entries ++ e ∷ []) (hash_of start opening e) (length entries) (get nat_eq places (hash_of start opening e))
              (same_with_more entries e (length entries) (omega arith)) (is.last (hash_of start opening e)) in
              let own : IsLast start opening (entries ++ e ∷ []) (hash_of start opening e) (length entries) e.before =
              subst (IsLast start opening (entries ++ e ∷ []) (hash_of start opening e) (length entries)) (sym link) first in
              subst (λ n. IsLast start opening (entries ++ e ∷ []) (hash_of start opening x) n x.before) (sym new.0)
              (subst (λ (y : Entry). IsLast start opening (entries ++ e ∷ []) (hash_of start opening y) (length entries) y.before) new.1 own))
        ];
        sum =
            ap (λ n. n + e.state.orders) is.sum
            ∙ sym (ap orders_to (map-append (entry_state opening) entries (e ∷ [])) ∙ sum_by_push (λ (s : Reached). s.orders) (map (entry_state opening) entries) ((entry_state opening) e));
        changes = λ k x here. elim (pushed_at entries e k x here) [
          | inl old ↦ is.changes k x old
          | inr new ↦ subst (λ (y : Entry). AreChanges opening y.state.changes.items) new.1 are
        ];
      }

  -- the last entry, with another one before it
  pub linked : (entries more : List Entry) (e x : Entry) (n : ℕ) (before : Option ℕ) → n ≡ length entries → more ≡ entries ++ e ∷ [] →
      slice_get more n ≡ Some x →
      slice_set more n (record { state = x.state; before = before }) ≡ entries ++ (record { state = e.state; before = before }) ∷ []
  linked entries more e x n before long pushed here =
      let there : slice_get (entries ++ e ∷ []) (length entries) ≡ Some x =
      ap (λ (l : List Entry). slice_get l (length entries)) (sym pushed) ∙ ap (slice_get more) (sym long) ∙ here in
      let same : x ≡ e = (let last = last_at entries e in cc) in
      ap (λ (l : List Entry). slice_set l n (record { state = x.state; before = before })) pushed
      ∙ ap (λ (k : ℕ). slice_set (entries ++ e ∷ []) k (record { state = x.state; before = before })) long
      ∙ ap (λ (y : Entry). slice_set (entries ++ e ∷ []) (length entries) (record { state = y.state; before = before })) same
      ∙ set-append_seam entries e [] (record { state = e.state; before = before })

  pub within_pushed : (entries more : List Entry) (e : Entry) (n : ℕ) → n ≡ length entries → more ≡ entries ++ e ∷ [] → n < length more
  within_pushed entries more e n long pushed =
      let longer : length more ≡ length entries + 1 = ap (λ (l : List Entry). length l) pushed ∙ length-append entries (e ∷ []) in omega (arith, long, longer)

  -- ---- an entry that is replaced by one with the same hash

  same_with_other : (entries : List Entry) (i : ℕ) (e other : Entry) (n : ℕ) → slice_get entries i ≡ Some e →
      hash_of start opening other ≡ hash_of start opening e →
      HaveSame entries (slice_set entries i other) n
  same_with_other entries i e other n is same h k within = (
    λ has. elim (replaced_at entries i other k has.0 has.1) [
      | inl here ↦ (
        other,
        here.1,
        (let was : has.0 ≡ e =
            (let f : slice_get entries i ≡ Some has.0 = ap (slice_get entries) (sym here.0) ∙ has.1 in cc) in same ∙ ap
            (hash_of start opening) (sym was) ∙ has.2),
      )
      | inr there ↦ (has.0, there, has.2)
    ],
    λ has. elim (set_at entries i other k has.0 has.1) [
      | inl here ↦ (e, ap (slice_get entries) here.0 ∙ is, sym same ∙ ap (hash_of start opening) here.1 ∙ has.2)
      | inr there ↦ (has.0, there, has.2)
    ],
  )

  pub table_set : (entries : List Entry) (places : HashMap ℕ ℕ (BuildHasherDefault FoldHasher)) (total i more : ℕ) (e other : Entry) →
      IsTable start opening entries places total → slice_get entries i ≡ Some e → hash_of start opening other ≡ hash_of start opening e → other.before ≡ e.before →
      other.state.changes.items ≡ e.state.changes.items → other.state.orders ≡ e.state.orders + more → IsTable start opening (slice_set entries i other) places (total + more)
  table_set entries places total i more e other is here same link changed orders =
      let within : i < length entries = slice_get_within entries i e here in
      let long : length (slice_set entries i other) ≡ length entries = length-set entries i other in
      record {
        last = λ h. subst (λ n. IsLast start opening (slice_set entries i other) h n (get nat_eq places h)) (sym long)
            (last_along entries (slice_set entries i other) h (length entries) (get nat_eq places h) (same_with_other entries i e other (length entries) here same) (is.last h));
        before = λ k x there. elim (set_at entries i other k x there) [
          | inl new ↦
              (let old = is.before i e here in
              let own : IsLast start opening (slice_set entries i other) (hash_of start opening other) i other.before =
              subst (λ h. IsLast start opening (slice_set entries i other) h i other.before) (sym same)
              (subst (IsLast start opening (slice_set entries i other) (hash_of start opening e) i) (sym link)
              (last_along entries (slice_set entries i other) (hash_of start opening e) i e.before (same_with_other entries i e other i here same) old)) in
              subst (λ n. IsLast start opening (slice_set entries i other) (hash_of start opening x) n x.before) (sym new.0)
              (subst (λ (y : Entry). IsLast start opening (slice_set entries i other) (hash_of start opening y) i y.before) new.1 own))
          | inr old ↦ last_along entries (slice_set entries i other) (hash_of start opening x) k x.before (same_with_other entries i e other k here same) (is.before k x old)
        ];
        sum =
            (let states = map (entry_state opening) entries in
            let inside : i < length states = rw length-map within in
            let was : get_or states i nowhere ≡ (entry_state opening) e = get_or-map (entry_state opening) entries i e nowhere within ∙ ap (entry_state opening) (get_or_from_slice_get entries i e e here) in
            let sums = sum_by-set (λ (s : Reached). s.orders) states i ((entry_state opening) other) nowhere inside in
            let old : (get_or states i nowhere).orders ≡ e.state.orders = ap (λ (s : Reached). s.orders) was in
            let set : map (entry_state opening) (slice_set entries i other) ≡ slice_set states i ((entry_state opening) other) = map-set (entry_state opening) entries i other in
            let goal : orders_to (slice_set states i ((entry_state opening) other)) ≡ total + more = omega (arith, sums, old, is.sum, orders) in
            sym goal ∙ ap orders_to (sym set));
        changes = λ k x there. elim (set_at entries i other k x there) [
          | inl new ↦ subst (λ (y : Entry). AreChanges opening y.state.changes.items) new.1
              (subst (λ (c : List Change). AreChanges opening c) (sym changed) (is.changes i e here))
          | inr old ↦ is.changes k x old
        ];
      }

  -- ---- finding

  -- an entry equal to the state has its hash
  has_hash : (entries : List Entry) (done : List ℕ) (cells : Left) (k : ℕ) → HasAlike opening entries done cells k →
      HasHash start opening entries (hash_left start opening done cells) k
  has_hash entries done cells k has = (has.0, has.1, ap (λ (d : List ℕ). hash_left start opening d ((entry_state opening) has.0).left) has.2.0 ∙ ap (hash_left start opening done) has.2.1)

  -- if an entry equal to the state is below `n`, the last entry with the hash is looked at next
  pub left_from : (entries : List Entry) (done : List ℕ) (cells : Left) (n : ℕ) (o : Option ℕ) →
      ((k : ℕ) → HasAlike opening entries done cells k → k < n) → IsLast start opening entries (hash_left start opening done cells) n o → IsLeft start opening entries done cells o
  left_from entries done cells n None below none = λ k has. none k (below k has) (has_hash entries done cells k has)
  left_from entries done cells n (Some last) below is =
      (is.1, λ k above has. is.2 k above (below k has) (has_hash entries done cells k has))

  pub left_at_first : (entries : List Entry) (places : HashMap ℕ ℕ (BuildHasherDefault FoldHasher)) (total : ℕ) (done : List ℕ) (cells : Left) (o : Option ℕ) →
      IsTable start opening entries places total → get nat_eq places (hash_left start opening done cells) ≡ o → IsLeft start opening entries done cells o
  left_at_first entries places total done cells o is found =
      left_from entries done cells (length entries) o (λ k has. slice_get_within entries k has.0 has.1)
      (subst (IsLast start opening entries (hash_left start opening done cells) (length entries)) found (is.last (hash_left start opening done cells)))

  below_unless_above : (j k : ℕ) → (j ≡ k → ⊥) → (k < j → ⊥) → j < k
  below_unless_above j k apart low = omega arith

  pub left_next : (entries : List Entry) (places : HashMap ℕ ℕ (BuildHasherDefault FoldHasher)) (total : ℕ) (done : List ℕ) (cells : Left) (k : ℕ) (e : Entry) →
      IsTable start opening entries places total → IsLeft start opening entries done cells (Some k) → slice_get entries k ≡ Some e → (IsAlike done cells ((entry_state opening) e) → ⊥) →
      IsLeft start opening entries done cells e.before
  left_next entries places total done cells k e is left here not =
      let same : e ≡ left.0.0 = cc in
      let h : hash_of start opening e ≡ hash_left start opening done cells = ap (hash_of start opening) same ∙ left.0.2 in
      left_from entries done cells k e.before
      (λ j has. elim (cases_eq j k) [
        | inl at ↦ absurd (let x : e ≡ has.0 = (let f : slice_get entries k ≡ Some has.0 = ap (slice_get entries) (sym at) ∙ has.1 in cc) in
            not (subst (λ (y : Entry). IsAlike done cells ((entry_state opening) y)) (sym x) has.2))
        | inr apart ↦ below_unless_above j k apart (λ above. left.1 j above has)
      ])
      (subst (λ h. IsLast start opening entries h k e.before) h (is.before k e here))

  -- ---- what the list of states has

  pub within_states : (entries : List Entry) (k : ℕ) (e : Entry) → slice_get entries k ≡ Some e →
      k < length (map (entry_state opening) entries)
  within_states entries k e is = let within : k < length entries = slice_get_within entries k e is in rw length-map within

  pub at_entry : (entries : List Entry) (k : ℕ) (e : Entry) → slice_get entries k ≡ Some e →
      at (map (entry_state opening) entries) k ≡ (entry_state opening) e
  at_entry entries k e is =
      get_or-map (entry_state opening) entries k e nowhere (slice_get_within entries k e is) ∙ ap (entry_state opening) (get_or_from_slice_get entries k e e is)

  -- the entry that is looked at next is the entry of a state
  pub left_within : (entries : List Entry) (done : List ℕ) (cells : Left) (o : Option ℕ) (k : ℕ) →
      IsLeft start opening entries done cells o → o ≡ Some k →
      k < length (map (entry_state opening) entries)
  left_within entries done cells o k left is =
      let here = subst (IsLeft start opening entries done cells) is left in within_states entries k here.0.0 here.0.1

  count_below : (entries : List Entry) (h k : ℕ) (o : Option ℕ) → IsLast start opening entries h k o → left_count o < suc k
  count_below entries h k None is = omega arith
  count_below entries h k (Some last) is = omega (arith, is.0)

  pub left_smaller : (entries : List Entry) (places : HashMap ℕ ℕ (BuildHasherDefault FoldHasher)) (total k : ℕ) (e : Entry) → IsTable start opening entries places total →
      slice_get entries k ≡ Some e → left_count e.before < suc k
  left_smaller entries places total k e is here = count_below entries (hash_of start opening e) k e.before (is.before k e here)

  -- if no search remains, no entry is equal to the state
  pub none_alike : (entries : List Entry) (done : List ℕ) (cells : Left) (o : Option ℕ) →
      IsLeft start opening entries done cells o → o ≡ None →
      NoneIsAlike done cells (map (entry_state opening) entries)
  none_alike entries done cells o left is k within alike =
      let none = subst (IsLeft start opening entries done cells) is left in
      let inside : k < length entries = rw length-map at within in
      let there = get_some entries k inside in
      none k (there.0, there.1, subst (IsAlike done cells) (at_entry entries k there.0 there.1) alike)
