-- The sets and the rows of the code, by the runs that were seen.
use Rattle.std.proofs.Common.{◌≡◌, ℕ, zero, suc, ◌+◌, ◌≤◌, Bool, true, false, List, [], ◌∷◌, ◌++◌, length, get_or, set, take, nat_lt, cond, Some, None}
use Rattle.std.proofs.Common.{refl, sym, ap, ◌∙◌, append_assoc}
use Rattle.std.specs.Prelude.{map, ◌&&◌, position, if◌then◌else◌}
use Rattle.std.specs.List.{flat_map, list_any, position_or_len}
use Rattle.std.specs.Cmp.Lexicographic.{pointwise}
use Rattle.std.specs.declared.vec.Vec.{Vec}
use Rattle.std.proofs.lemmas.List.{length-map, map-append, map-set, take_all}
use Rattle.std.proofs.lemmas.List.Folds.{flat_map-map}
use Rattle.indexmap.specs.IndexSet.{insert_key}
use Rattle.core_lang.specs.declared.typed.Typed.{Typed}
use Rattle.core_lang.specs.declared.value.Value.{Value}
use Rattle.core_lang.specs.declared.value.Value.TheVariants.{Int, Ref}
use Rattle.history.specs.Commits.{Commit}
use Rattle.report_runs.specs.contracts.run_kind.HeldPartialEq.TheImpl as held
use Rattle.report_runs.specs.contracts.run_kind.RunKindPartialEq.TheImpl as kind
use Rattle.report_runs.specs.contracts.run_kind.PlacePartialEq.TheImpl as place
use Rattle.report_runs.specs.declared.run_kind.Held.{Held}
use Rattle.report_runs.specs.declared.run_kind.RunKind.{RunKind}
use Rattle.report_runs.specs.declared.run_kind.Place.{Place}
use Rattle.report_runs.specs.declared.seen.Seen.{Seen}
use Rattle.report_runs.specs.declared.runs_told.Told.{Told}
use Rattle.report_runs.specs.Runs.{Run, same_place, same_value, same_order, same_end, same_kind, firsts, with_first, number_of, run_text, runs_text}
use Rattle.report_runs.specs.Working.Heads.{totals_text}
use Rattle.report_runs.specs.Working.Kinds.{call_place, held_of}
use Rattle.report_runs.specs.Working.Rows.{Row, row_of, row_told, row_text}
use Rattle.report_runs.specs.Working.Seeing.{HasSeen, Shown, kind_in, kind_shown, order_in, end_in}
use Rattle.report_runs.proofs.Firsts.{any_shown, place_shown, keyed_with}
use Rattle.report_runs.proofs.Laws.{pointwise_shown}

place_agrees : (x y : Commit) → same_place x y ≡ place.ghosts.eq (call_place x) (call_place y)
place_agrees x y = refl

value_agrees : (x y : Value) → same_value x y ≡ held.ghosts.eq (held_of x) (held_of y)
value_agrees (Int a) (Int b) = refl
value_agrees (Int a) (Ref b) = refl
value_agrees (Ref a) (Int b) = refl
value_agrees (Ref a) (Ref b) = refl

order_agrees : (x y : Run) → same_order x y ≡ pointwise place.ghosts.eq (order_in x) (order_in y)
order_agrees x y = pointwise_shown place.ghosts.eq same_place call_place place_agrees x.log y.log

end_agrees : (x y : Run) → same_end x y ≡ pointwise held.ghosts.eq (end_in x) (end_in y)
end_agrees x y = pointwise_shown held.ghosts.eq same_value held_of value_agrees x.values y.values

abbrev shown_eq : Shown → Shown → Bool
shown_eq a b = pointwise place.ghosts.eq a.order b.order && pointwise held.ghosts.eq a.end b.end

kind_agrees : (x y : Run) → same_kind x y ≡ shown_eq (kind_in x) (kind_in y)
kind_agrees x y = λ i. order_agrees x y i && end_agrees x y i

kind_shows : (a b : RunKind) → kind.ghosts.eq a b ≡ shown_eq (kind_shown a) (kind_shown b)
kind_shows a b = refl

module _ (runs : List Run) (run : Run) where
  module _ {Z : Type 0} (keys : List (Vec Place Z)) (k : Vec Place Z) (keyed : map (λ (o : Vec Place Z). o.items) keys ≡ map order_in (firsts same_order runs)) (is : k.items ≡ order_in run) where
    pub orders_with : (new : List (Vec Place Z)) → new ≡ insert_key (λ (a b : Vec Place Z). pointwise place.ghosts.eq a.items b.items) keys k →
        map (λ (o : Vec Place Z). o.items) new ≡ map order_in (with_first same_order (firsts same_order runs) run)
    orders_with new e =
        ap (map (λ (o : Vec Place Z). o.items)) e
        ∙ keyed_with (pointwise place.ghosts.eq) (λ (o : Vec Place Z). o.items) order_in same_order order_agrees
        (λ (a b : Vec Place Z). pointwise place.ghosts.eq a.items b.items) (λ a b. refl) keys (firsts same_order runs) k run keyed is

    pub order_number : (n : ℕ) → n ≡ position_or_len (λ (o : Vec Place Z). pointwise place.ghosts.eq k.items o.items) keys + 1 → n ≡ number_of same_order runs run
    order_number n e =
        e ∙ ap (λ (m : ℕ). m + 1) (place_shown (pointwise place.ghosts.eq) (λ (o : Vec Place Z). o.items) order_in same_order order_agrees
        (λ (a b : Vec Place Z). pointwise place.ghosts.eq a.items b.items) (λ a b. refl) keys (firsts same_order runs) k run keyed is)

  module _ {Z : Type 0} (keys : List (Vec Held Z)) (k : Vec Held Z) (keyed : map (λ (o : Vec Held Z). o.items) keys ≡ map end_in (firsts same_end runs)) (is : k.items ≡ end_in run) where
    pub ends_with : (new : List (Vec Held Z)) → new ≡ insert_key (λ (a b : Vec Held Z). pointwise held.ghosts.eq a.items b.items) keys k →
        map (λ (o : Vec Held Z). o.items) new ≡ map end_in (with_first same_end (firsts same_end runs) run)
    ends_with new e =
        ap (map (λ (o : Vec Held Z). o.items)) e
        ∙ keyed_with (pointwise held.ghosts.eq) (λ (o : Vec Held Z). o.items) end_in same_end end_agrees
        (λ (a b : Vec Held Z). pointwise held.ghosts.eq a.items b.items) (λ a b. refl) keys (firsts same_end runs) k run keyed is

    pub end_number : (n : ℕ) → n ≡ position_or_len (λ (o : Vec Held Z). pointwise held.ghosts.eq k.items o.items) keys + 1 → n ≡ number_of same_end runs run
    end_number n e =
        e ∙ ap (λ (m : ℕ). m + 1) (place_shown (pointwise held.ghosts.eq) (λ (o : Vec Held Z). o.items) end_in same_end end_agrees
        (λ (a b : Vec Held Z). pointwise held.ghosts.eq a.items b.items) (λ a b. refl) keys (firsts same_end runs) k run keyed is)

  module _ (keys : List RunKind) (k : RunKind) (keyed : map kind_shown keys ≡ map kind_in (firsts same_kind runs)) (is : kind_shown k ≡ kind_in run) where
    pub kinds_with : (new : List RunKind) → new ≡ insert_key kind.ghosts.eq keys k →
        map kind_shown new ≡ map kind_in (with_first same_kind (firsts same_kind runs) run)
    kinds_with new e =
        ap (map kind_shown) e ∙ keyed_with shown_eq kind_shown kind_in same_kind kind_agrees kind.ghosts.eq kind_shows keys (firsts same_kind runs) k run keyed is

    pub kind_any : list_any (kind.ghosts.eq k) keys ≡ list_any (same_kind run) (firsts same_kind runs)
    kind_any = any_shown shown_eq kind_shown kind_in same_kind kind_agrees kind.ghosts.eq kind_shows keys (firsts same_kind runs) k run keyed is

    pub kind_place : (n : ℕ) → Some n ≡ position (kind.ghosts.eq k) keys → n ≡ position_or_len (same_kind run) (firsts same_kind runs)
    kind_place n e =
        by (nat_lt (position_or_len (kind.ghosts.eq k) keys) (length keys)) e
        ∙ place_shown shown_eq kind_shown kind_in same_kind kind_agrees kind.ghosts.eq kind_shows keys (firsts same_kind runs) k run keyed is
      where
        by : (b : Bool) → Some n ≡ cond b (Some (position_or_len (kind.ghosts.eq k) keys)) None → n ≡ position_or_len (kind.ghosts.eq k) keys
        by true h = cc
        by false h = cc

  -- a run of a kind that was seen does not change the kinds
  pub kinds_same : (keys : List RunKind) → map kind_shown keys ≡ map kind_in (firsts same_kind runs) → list_any (same_kind run) (firsts same_kind runs) ≡ true →
      map kind_shown keys ≡ map kind_in (with_first same_kind (firsts same_kind runs) run)
  kinds_same keys keyed there = keyed ∙ ap (λ (b : Bool). map kind_in (if b then firsts same_kind runs else firsts same_kind runs ++ run ∷ [])) (sym there)

-- ---- rows

pub told_pushed : (items new : List Told) (told : Told) → new ≡ items ++ told ∷ [] → map row_told new ≡ map row_told items ++ row_told told ∷ []
told_pushed items new told e = ap (map row_told) e ∙ map-append row_told items (told ∷ [])

pub texts_same : (program : Typed) (run : Run) (its : Typed) → its ≡ program → run_text its run ≡ run_text program run
texts_same program run its e = ap (λ (p : Typed). run_text p run) e

get_map : {X Y : Type 0} (f : X → Y) (xs : List X) (i : ℕ) (d : X) → get_or (map f xs) i (f d) ≡ f (get_or xs i d)
get_map f [] i d = refl
get_map f (x ∷ xs) zero d = refl
get_map f (x ∷ xs) (suc i) d = get_map f xs i d

pub told_raised : (items : List Told) (place : ℕ) (told new : Told) → told ≡ get_or items place told →
    row_told new ≡ (let row = row_told told in record row { runs = row.runs + 1 }) → (at : ℕ) → place ≡ at →
    map row_told (set items place new)
    ≡ set (map row_told items) at (let row = get_or (map row_told items) at (row_told told) in record row { runs = row.runs + 1 })
told_raised items place told new is raised at same =
    map-set row_told items place new
    ∙ (λ i. set (map row_told items) (same i) (raised i))
    ∙ ap (λ (row : Row). set (map row_told items) at (record row { runs = row.runs + 1 }))
    (ap row_told is ∙ sym (get_map row_told items place told) ∙ ap (λ (k : ℕ). get_or (map row_told items) k (row_told told)) same)

-- ---- the text

pub text_of : (program : Typed) (runs : List Run) (seen : Seen) → HasSeen program runs seen → (out head : List ℕ) (orders ends n : ℕ) →
    orders ≡ length seen.orders.keys → ends ≡ length seen.ends.keys → length seen.told.items ≤ n →
    head ≡ totals_text seen.runs orders ends →
    out ≡ head ++ flat_map row_text (map row_told (take n seen.told.items)) → out ≡ runs_text program runs
text_of program runs seen has out head orders ends n o e all first is =
    let rows : map row_told (take n seen.told.items) ≡ map (row_of program runs) (firsts same_kind runs) =
    ap (map row_told) (take_all n seen.told.items all) ∙ has.told in
    let so_many : orders ≡ length (firsts same_order runs) =
    o ∙ sym (length-map seen.orders.keys (λ order. order.items)) ∙ ap length has.orders ∙ length-map (firsts same_order runs) order_in in
    let as_many : ends ≡ length (firsts same_end runs) =
    e ∙ sym (length-map seen.ends.keys (λ end. end.items)) ∙ ap length has.ends ∙ length-map (firsts same_end runs) end_in in
    let whole : head ≡ totals_text (length runs) (length (firsts same_order runs)) (length (firsts same_end runs)) =
    first ∙ (λ j. totals_text (has.counted j) (so_many j) (as_many j)) in
    let kinds : flat_map row_text (map row_told (take n seen.told.items)) ≡ flat_map (λ run. row_text (row_of program runs run)) (firsts same_kind runs) =
    ap (flat_map row_text) rows ∙ flat_map-map row_text (row_of program runs) (firsts same_kind runs) in
    is ∙ (λ i. whole i ++ kinds i) ∙ simp append_assoc
