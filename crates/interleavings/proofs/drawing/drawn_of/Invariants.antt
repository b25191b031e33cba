use Rattle.std.proofs.Common.{◌≡◌, ◌≤◌, ◌-◌, ◌++◌, length}
use Rattle.interleavings.specs.Drawn.{draw_items, drawn_items, stream_at}
use Rattle.interleavings.specs.Working.Draws.{CanCome}
use Rattle.interleavings.proofs.drawing.drawn_of.Given as goal

abbrev pub decreases-drawing : goal.decreases-drawing
decreases-drawing l = l.count - length l.items.items

-- the items so far, and those that the generator gives next, are all items
abbrev pub invariant-drawing : goal.invariant-drawing
invariant-drawing l = record {
  few : length l.items.items ≤ l.count;
  each : CanCome l.threads l.items.items;
  drawn : l.items.items ++ draw_items l.threads (l.count - length l.items.items) (stream_at l.random)
      ≡ drawn_items l.threads l.seed l.count;
}
