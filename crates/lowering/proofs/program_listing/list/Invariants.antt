use Rattle.std.proofs.Common.{◌≡◌, ◌++◌, drop}
use Rattle.rope.specs.Working.Ropes.{rope_text}
use Rattle.code.specs.Listing.{sections_text}
use Rattle.lowering.specs.Working.Listings.{text_of, text_at}
use Rattle.lowering.proofs.program_listing.list.Given as goal

-- the written text and that of the remaining items are the whole text
abbrev pub invariant-loop-k : goal.invariant-loop-k
invariant-loop-k l = record {
  text : rope_text l.out ++ sections_text (text_of l.text) l.typed l.program.lists l.k (drop l.k l.typed.sections.items)
      ≡ sections_text (text_of l.text) l.typed l.program.lists 0 l.typed.sections.items;
  cursor : text_at l.cursor ≡ text_of l.text;
}
