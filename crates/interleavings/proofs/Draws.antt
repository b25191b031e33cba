-- Random items, one after another.
use Rattle.std.proofs.Common.{◌≡◌, ◌∙◌, ℕ, suc, ◌-◌, ◌<◌, ◌≤◌, List, [], ◌∷◌, ◌++◌, length, length-append, append_assoc, ap, refl, arith}
use Rattle.std.proofs.lemmas.List.Elements.{All-push}
use Rattle.std.proofs.lemmas.List.Sums.{sum_by_push}
use Rattle.rand_core.specs.Stream.{Stream}
use Rattle.input_files.specs.declared.item.Item.{Item}
use Rattle.input_files.specs.Steps.{counted}
use Rattle.interleavings.specs.Drawn.{draw_item, draw_items}
use Rattle.interleavings.specs.Working.Draws.{CanCome}

-- the first item of the stream
first : (threads count : ℕ) (s t : Stream) (x : Item) → (x, t) ≡ draw_item threads s →
    x ∷ draw_items threads count t ≡ draw_items threads (suc count) s
unfolding draw_items
first threads count s t x is =
    ap (λ (d : Item × Stream). d.0 ∷ draw_items threads count d.1) is

-- one more item, and those that the stream then gives
pub one_more : (threads count : ℕ) (items new : List Item) (s t : Stream) (x : Item) → length items < count →
    (x, t) ≡ draw_item threads s → new ≡ items ++ x ∷ [] →
    new ++ draw_items threads (count - length new) t ≡ items ++ draw_items threads (count - length items) s
one_more threads count items new s t x few is more =
    let left : suc (count - length new) ≡ count - length items =
    rw more (omega (arith, few, length-append items (x ∷ []))) in
    ap (λ (all : List Item). all ++ draw_items threads (count - length new) t) more
    ∙ append_assoc items (x ∷ []) (draw_items threads (count - length new) t)
    ∙ ap (λ (rest : List Item). items ++ rest) (first threads (count - length new) s t x is)
    ∙ ap (λ (n : ℕ). items ++ draw_items threads n s) left

-- if as many items were drawn as requested, none is left
pub none_left : (threads : ℕ) (s : Stream) → draw_items threads 0 s ≡ []
unfolding draw_items
none_left threads s = refl

-- one more item is of a thread and has few steps, as the items before it
pub can_come : (threads : ℕ) (items new : List Item) (x : Item) → CanCome threads items → x.thread < threads →
    counted x.until ≤ 8 → new ≡ items ++ x ∷ [] → CanCome threads new
can_come threads items new x old thread few more = record {
  of_threads = rw more (All-push (λ (item : Item). item.thread < threads) items x old.of_threads thread);
  short = rw more (omega (
    arith,
    old.short,
    few,
    length-append items (x ∷ []),
    sum_by_push (λ (item : Item). counted item.until) items x,
  ));
}
