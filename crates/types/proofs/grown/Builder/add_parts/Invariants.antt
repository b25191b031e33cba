use Rattle.std.proofs.Common.{◌≡◌, ◌≤◌, drop, Some}
use Rattle.std.specs.Prelude.{map}
use Rattle.syntax.specs.Views.{member_of}
use Rattle.resolution.specs.CoreViews.{core_of}
use Rattle.resolution.specs.Working.Building.{with_members}
use Rattle.types_symbols.specs.Working.Views.{decls_of}
use Rattle.types.specs.Working.Slots.{slot_of}
use Rattle.types.proofs.grown.Builder.add_parts.Given as goal

abbrev pub invariant-loop-place : goal.invariant-loop-place
invariant-loop-place l = record {
  value : with_members (decls_of l.self.symbols.now) (slot_of l.slot) l.place l.fields (Some (core_of l.program)) (map member_of (drop l.place l.members)) ≡ with_members (decls_of l.self.symbols.now) (slot_of l.slot) 0 0 (Some (core_of l.fn.program)) (map member_of l.members);
  few : l.fields ≤ l.place;
}
