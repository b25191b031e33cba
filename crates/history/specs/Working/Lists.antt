-- The representation of the lists of entries. Nobody has to believe this file.
use Rattle.std.specs.Prelude.{◌≤◌, ◌+◌, ℕ, List, ◌++◌, length, map, slice_range}
use Rattle.history.specs.Commits.{Commit}
use Rattle.history.specs.Working.Histories.{PromisedOf}
use Rattle.history.specs.declared.lists.Part.{Part}
use Rattle.history.specs.declared.lists.Packed.{Packed}
use Rattle.history.specs.Working.Arrays.{ListsOf}

-- ---- a list in the array of its kind

-- the list at a part of an array
abbrev pub part_of : {A : Type 0} → List A → Part → List A
part_of xs p = slice_range xs p.begin p.end

-- the part lies within an array of this length
pub record IsPart (long : ℕ) (p : Part) : Type 0 where
  pub forward : p.begin ≤ p.end
  pub within : p.end ≤ long

-- the part where a list stands after it was appended
abbrev pub part_behind : {A : Type 0} → List A → List A → Part
part_behind xs ys = record { begin = length xs; end = length xs + length ys }

-- ---- an entry

-- the commit whose lists stand in the arrays
abbrev pub packed_commit : ListsOf → Packed → Commit
packed_commit lists p = record {
  thread = p.thread;
  step = p.step;
  section = p.section;
  arguments = part_of lists.arguments p.arguments;
  begun = p.begun;
  reads = part_of lists.reads p.reads;
  writes = part_of lists.writes p.writes;
  outcome = p.outcome;
  prints = part_of lists.prints p.prints;
}

-- each list of the entry lies within its array
pub record IsPacked (lists : ListsOf) (p : Packed) : Type 0 where
  pub arguments : IsPart (length lists.arguments) p.arguments
  pub reads : IsPart (length lists.reads) p.reads
  pub writes : IsPart (length lists.writes) p.writes
  pub prints : IsPart (length lists.prints) p.prints

-- the places of an entry's lists after they were appended
abbrev pub packed_behind : ListsOf → Commit → Packed
packed_behind lists c = record {
  thread = c.thread;
  step = c.step;
  section = c.section;
  arguments = part_behind lists.arguments c.arguments;
  begun = c.begun;
  reads = part_behind lists.reads c.reads;
  writes = part_behind lists.writes c.writes;
  outcome = c.outcome;
  prints = part_behind lists.prints c.prints;
}

-- the arrays with the lists of an entry appended
abbrev pub with_lists : ListsOf → Commit → PromisedOf → ListsOf
with_lists lists c less = record {
  arguments = lists.arguments ++ c.arguments;
  reads = lists.reads ++ c.reads;
  writes = lists.writes ++ c.writes;
  prints = lists.prints ++ c.prints;
  promised = less;
}

-- the commits whose lists stand in the arrays
abbrev pub commits_in : ListsOf → List Packed → List Commit
commits_in lists packed = map (packed_commit lists) packed
