-- The effect of one more run.
use Rattle.std.proofs.Common.{◌≡◌, ℕ, ◌+◌, Bool, true, false, true≢false, cond, List, [], ◌∷◌, ◌++◌, get_or, set}
use Rattle.std.proofs.Common.{refl, sym, ap, ◌∙◌, arith, length-append}
use Rattle.std.specs.Prelude.{map, ◌||◌, ◌&&◌, count_by, if◌then◌else◌}
use Rattle.std.specs.List.{list_any, position_or_len, AllByRecursion, IsDistinct}
use Rattle.std.specs.Cmp.{IsEquivalence}
use Rattle.std.proofs.lemmas.Bool.Decides.{nat_tests}
use Rattle.std.proofs.lemmas.List.{map-append}
use Rattle.std.proofs.lemmas.List.Folds.{list_any-append}
use Rattle.std.proofs.lemmas.List.Sums.{fold_push}
use Rattle.std.proofs.lemmas.Map.Keys.{IsDistinct-from_apart}
use Rattle.core_lang.specs.declared.typed.Typed.{Typed}
use Rattle.report_runs.specs.declared.seen.Seen.{Seen}
use Rattle.report_runs.specs.Runs.{Run, same_order, same_end, same_kind, firsts, with_first, number_of, run_text}
use Rattle.report_runs.specs.Working.Rows.{Row, row_of, row_told}
use Rattle.report_runs.specs.Working.Seeing.{HasSeen, IsKnown, kind_in, kind_shown, order_in, end_in}
use Rattle.report_runs.proofs.Firsts.{any_with, place_kept, distinct_with, all_weaker, all_push, counted_push, none_counted, row_raised, rows_kept}
use Rattle.report_runs.proofs.Laws.{order_laws, end_laws, kind_laws}

first_of : (a b : Bool) → (a && b) ≡ true → a ≡ true
first_of true b h = refl
first_of false b h = h

second_of : (a b : Bool) → (a && b) ≡ true → b ≡ true
second_of true b h = h
second_of false b h = absurd (true≢false (sym h))

either : (a b : Bool) → b ≡ true → (a || b) ≡ true
either true b h = refl
either false b h = h

or_first : (a b : Bool) → a ≡ true → (a || b) ≡ true
or_first true b h = refl
or_first false b h = absurd (true≢false (sym h))

-- no run was seen
pub nothing_seen : (program : Typed) (new : Seen) → new.program.now ≡ program → new.runs ≡ 0 → new.orders.keys ≡ [] → new.ends.keys ≡ [] →
    new.kinds.keys ≡ [] → new.told.items ≡ [] → HasSeen program [] new
nothing_seen program new same_program none orders ends kinds told = record {
  of_program = same_program;
  counted = none;
  orders = ap (map (λ order. order.items)) orders;
  ends = ap (map (λ end. end.items)) ends;
  kinds = ap (map kind_shown) kinds;
  told = ap (map row_told) told;
  distinct = IsDistinct-from_apart same_kind [] (λ i j d lt within. absurd (omega arith));
  met = λ run. refl;
  known = tt;
}

module _ {same : Run → Run → Bool} (laws : IsEquivalence same) (runs : List Run) (run : Run) where
  pub firsts_push : firsts same (runs ++ run ∷ []) ≡ with_first same (firsts same runs) run
  firsts_push = fold_push (with_first same) [] runs run

  any_push : (x : Run) → list_any (same x) (firsts same (runs ++ run ∷ [])) ≡ (list_any (same x) (firsts same runs) || same x run)
  any_push x = rw firsts_push (any_with laws (firsts same runs) run x)

  number_kept : (x : Run) → (list_any (same x) (firsts same runs) || same x run) ≡ true →
      number_of same (runs ++ run ∷ []) x ≡ number_of same runs x
  number_kept x there = ap (λ (n : ℕ). n + 1) (rw firsts_push (place_kept laws (firsts same runs) run x there))

module _ (program : Typed) (runs : List Run) (run : Run) where
  row_with : (x : Run) → (list_any (same_order x) (firsts same_order runs) || same_order x run) ≡ true →
      (list_any (same_end x) (firsts same_end runs) || same_end x run) ≡ true →
      row_of program (runs ++ run ∷ []) x
      ≡ record { order = number_of same_order runs x; end = number_of same_end runs x; runs = count_by (same_kind x) runs + cond (same_kind x run) 1 0; history = run_text program x }
  row_with x order end = λ i. record {
    order = number_kept order_laws runs run x order i;
    end = number_kept end_laws runs run x end i;
    runs = counted_push (same_kind x) runs run i;
    history = run_text program x;
  }

  pub raised : (x : Run) → same_kind run x ≡ true →
      row_of program (runs ++ run ∷ []) x ≡ (let row = row_of program runs x in record row { runs = row.runs + 1 })
  raised x alike =
      let back : same_kind x run ≡ true = kind_laws.symm x run ∙ alike in
      row_with x (either _ _ (first_of (same_order x run) (same_end x run) back)) (either _ _ (second_of (same_order x run) (same_end x run) back))
      ∙ ap (λ (b : Bool). record { order = number_of same_order runs x; end = number_of same_end runs x; runs = count_by (same_kind x) runs + cond b 1 0; history = run_text program x }) back

  stays : (x : Run) → IsKnown runs x → same_kind run x ≡ false → row_of program (runs ++ run ∷ []) x ≡ row_of program runs x
  stays x known apart =
      let back : same_kind x run ≡ false = kind_laws.symm x run ∙ apart in
      row_with x (or_first _ _ known.order) (or_first _ _ known.end)
      ∙ ap (λ (b : Bool). record { order = number_of same_order runs x; end = number_of same_end runs x; runs = count_by (same_kind x) runs + cond b 1 0; history = run_text program x }) back
      ∙ ap (λ (n : ℕ). record { order = number_of same_order runs x; end = number_of same_end runs x; runs = n; history = run_text program x }) (omega arith)

  known_more : (x : Run) → IsKnown runs x → IsKnown (runs ++ run ∷ []) x
  known_more x known = record {
    order = any_push order_laws runs run x ∙ or_first _ _ known.order;
    end = any_push end_laws runs run x ∙ or_first _ _ known.end;
  }

  known_itself : IsKnown (runs ++ run ∷ []) run
  known_itself = record {
    order = any_push order_laws runs run run ∙ either _ _ (order_laws.refl run);
    end = any_push end_laws runs run run ∙ either _ _ (end_laws.refl run);
  }

  all_known : AllByRecursion (IsKnown runs) (firsts same_kind runs) → AllByRecursion (IsKnown (runs ++ run ∷ [])) (firsts same_kind (runs ++ run ∷ []))
  all_known known =
      let more = all_weaker (IsKnown runs) (IsKnown (runs ++ run ∷ [])) known_more (firsts same_kind runs) known in
      rw (firsts_push kind_laws runs run) (by (list_any (same_kind run) (firsts same_kind runs)) more)
    where
      by : (b : Bool) → AllByRecursion (IsKnown (runs ++ run ∷ [])) (firsts same_kind runs) →
          AllByRecursion (IsKnown (runs ++ run ∷ [])) (if b then firsts same_kind runs else firsts same_kind runs ++ run ∷ [])
      by true more = more
      by false more = all_push (IsKnown (runs ++ run ∷ [])) (firsts same_kind runs) run more known_itself

  met_more : ((x : Run) → list_any (same_kind x) (firsts same_kind runs) ≡ list_any (same_kind x) runs) → (x : Run) →
      list_any (same_kind x) (firsts same_kind (runs ++ run ∷ [])) ≡ list_any (same_kind x) (runs ++ run ∷ [])
  met_more met x =
      any_push kind_laws runs run x ∙ ap (λ (b : Bool). b || same_kind x run) (met x)
      ∙ last (list_any (same_kind x) runs) (same_kind x run) ∙ sym (list_any-append (same_kind x) runs (run ∷ []))
    where
      last : (a b : Bool) → (a || b) ≡ (a || (b || false))
      last a b = grind (arith, nat_tests)

  -- ---- the rows

  module _ (rows : List Row) (keeps : rows ≡ map (row_of program runs) (firsts same_kind runs)) (known : AllByRecursion (IsKnown runs) (firsts same_kind runs)) where
    stay : AllByRecursion (λ x. same_kind run x ≡ false → row_of program (runs ++ run ∷ []) x ≡ row_of program runs x) (firsts same_kind runs)
    stay = all_weaker (IsKnown runs) (λ x. same_kind run x ≡ false → row_of program (runs ++ run ∷ []) x ≡ row_of program runs x) stays (firsts same_kind runs) known

    -- the run is of a kind that was seen
    pub rows_raised : (new : List Row) (d : Row) → IsDistinct same_kind (firsts same_kind runs) → list_any (same_kind run) (firsts same_kind runs) ≡ true →
        new ≡ set rows (position_or_len (same_kind run) (firsts same_kind runs)) (let row = get_or rows (position_or_len (same_kind run) (firsts same_kind runs)) d in record row { runs = row.runs + 1 }) →
        new ≡ map (row_of program (runs ++ run ∷ [])) (firsts same_kind (runs ++ run ∷ []))
    rows_raised new d distinct there is =
        is
        ∙ ap (λ (rs : List Row). set rs (position_or_len (same_kind run) (firsts same_kind runs)) (let row = get_or rs (position_or_len (same_kind run) (firsts same_kind runs)) d in record row { runs = row.runs + 1 })) keeps
        ∙ row_raised kind_laws (row_of program runs) (row_of program (runs ++ run ∷ [])) (λ (row : Row). record row { runs = row.runs + 1 }) run raised (firsts same_kind runs) d distinct there stay
        ∙ ap (map (row_of program (runs ++ run ∷ []))) (sym (firsts_push kind_laws runs run ∙ ap (λ (b : Bool). if b then firsts same_kind runs else firsts same_kind runs ++ run ∷ []) there))

    -- the run is of a new kind
    pub rows_pushed : (new : List Row) (row : Row) → list_any (same_kind run) (firsts same_kind runs) ≡ false → list_any (same_kind run) runs ≡ false →
        new ≡ rows ++ row ∷ [] →
        row ≡ record { order = number_of same_order runs run; end = number_of same_end runs run; runs = 1; history = run_text program run } →
        new ≡ map (row_of program (runs ++ run ∷ [])) (firsts same_kind (runs ++ run ∷ []))
    rows_pushed new row none none_so_far is last =
        let itself : row ≡ row_of program (runs ++ run ∷ []) run =
        last
        ∙ ap (λ (n : ℕ). record { order = number_of same_order runs run; end = number_of same_end runs run; runs = n; history = run_text program run })
        (sym (ap (λ (n : ℕ). n + cond (same_kind run run) 1 0) (none_counted (same_kind run) runs none_so_far) ∙ ap (λ (b : Bool). 0 + cond b 1 0) (kind_laws.refl run)))
        ∙ sym (row_with run (either _ _ (order_laws.refl run)) (either _ _ (end_laws.refl run))) in
        is
        ∙ (λ i. (keeps ∙ rows_kept kind_laws (row_of program runs) (row_of program (runs ++ run ∷ [])) (λ (r : Row). record r { runs = r.runs + 1 }) run raised (firsts same_kind runs) none stay) i ++ itself i ∷ [])
        ∙ sym (map-append (row_of program (runs ++ run ∷ [])) (firsts same_kind runs) (run ∷ []))
        ∙ ap (map (row_of program (runs ++ run ∷ []))) (sym (firsts_push kind_laws runs run ∙ ap (λ (b : Bool). if b then firsts same_kind runs else firsts same_kind runs ++ run ∷ []) none))

  -- ---- all that is kept

  pub seen_more : (old new : Seen) → HasSeen program runs old → new.program.now ≡ old.program.now → new.runs ≡ old.runs + 1 →
      map (λ order. order.items) new.orders.keys ≡ map order_in (with_first same_order (firsts same_order runs) run) →
      map (λ end. end.items) new.ends.keys ≡ map end_in (with_first same_end (firsts same_end runs) run) →
      map kind_shown new.kinds.keys ≡ map kind_in (with_first same_kind (firsts same_kind runs) run) →
      map row_told new.told.items ≡ map (row_of program (runs ++ run ∷ [])) (firsts same_kind (runs ++ run ∷ [])) →
      HasSeen program (runs ++ run ∷ []) new
  seen_more old new seen same_program more orders ends kinds told = record {
    of_program = same_program ∙ seen.of_program;
    counted = more ∙ ap (λ (n : ℕ). n + 1) seen.counted ∙ sym (length-append runs (run ∷ []));
    orders = orders ∙ ap (map order_in) (sym (firsts_push order_laws runs run));
    ends = ends ∙ ap (map end_in) (sym (firsts_push end_laws runs run));
    kinds = kinds ∙ ap (map kind_in) (sym (firsts_push kind_laws runs run));
    told = told;
    distinct = rw (firsts_push kind_laws runs run) (distinct_with kind_laws (firsts same_kind runs) run seen.distinct);
    met = met_more seen.met;
    known = all_known seen.known;
  }
