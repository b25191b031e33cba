-- Sums that are capped at one more than their limits.
use Rattle.std.specs.Prelude.{ℕ, ◌≤◌, ◌+◌, nat_le, min, List, [], ◌++◌}
use Rattle.source.specs.declared.fault.Code.TheVariants.{LimitExceeded}
use Rattle.syntax.specs.Trees.{Decl, lock, struct, global, array, pool, init, atomic, helper, thread}
use Rattle.resolution.specs.declared.finding.Finding.{Finding}
use Rattle.resolution.specs.Limits.{STRUCT_LIMIT, CLASS_LIMIT, OBJECT_LIMIT, CELL_LIMIT, SECTION_LIMIT, THREAD_LIMIT}
use Rattle.resolution.specs.Limits.{CALL_LIMIT}
use Rattle.resolution.specs.Numbers.{classes_of, objects_of, cells_of, calls_of, total}
use Rattle.resolution.specs.Working.FaultLists.{one_if, first_too_many, member_counts}
use Rattle.types_symbols.specs.declared.totals.Totals.{Totals}

abbrev pub capped : ℕ → ℕ → ℕ
capped limit n = min n (limit + 1)

abbrev pub no_totals : Totals
no_totals = record { classes = 0; objects = 0; cells = 0; calls = 0 }

-- the totals that a declaration adds
abbrev pub added_by : List Decl → Decl → Totals
added_by decls d = record {
  classes = capped CLASS_LIMIT (classes_of d);
  objects = capped OBJECT_LIMIT (objects_of d);
  cells = capped CELL_LIMIT (cells_of decls d);
  calls = capped CALL_LIMIT (calls_of d);
}

-- the totals of declarations
abbrev pub totals_of : List Decl → List Decl → Totals
totals_of decls ds = record {
  classes = capped CLASS_LIMIT (total classes_of ds);
  objects = capped OBJECT_LIMIT (total objects_of ds);
  cells = capped CELL_LIMIT (total (cells_of decls) ds);
  calls = capped CALL_LIMIT (total calls_of ds);
}

abbrev pub both_totals : Totals → Totals → Totals
both_totals a b = record {
  classes = capped CLASS_LIMIT (a.classes + b.classes);
  objects = capped OBJECT_LIMIT (a.objects + b.objects);
  cells = capped CELL_LIMIT (a.cells + b.cells);
  calls = capped CALL_LIMIT (a.calls + b.calls);
}

-- no total is more than one past its limit
abbrev pub AreCapped : Totals → Type 0
AreCapped t = (t.classes ≤ CLASS_LIMIT + 1) × (t.objects ≤ OBJECT_LIMIT + 1) × (t.cells ≤ CELL_LIMIT + 1) × (t.calls ≤ CALL_LIMIT + 1)

-- the faults of a declaration past a limit, given the number of declarations before it that share a limit with it, the
-- totals before it, and what it adds
abbrev pub faults_by : ℕ → Totals → Totals → Decl → List Finding
faults_by number ahead own (lock x) = one_if (nat_le CLASS_LIMIT ahead.classes) LimitExceeded x.span.start
faults_by number ahead own (struct s) = one_if (nat_le STRUCT_LIMIT number) LimitExceeded s.name.span.start ++ member_counts ahead.classes 0 s.members
faults_by number ahead own (global v) = one_if (first_too_many CELL_LIMIT ahead.cells own.cells) LimitExceeded v.name.span.start
faults_by number ahead own (array a) = one_if (first_too_many CELL_LIMIT ahead.cells own.cells) LimitExceeded a.name.span.start
faults_by number ahead own (pool p) =
    one_if (first_too_many OBJECT_LIMIT ahead.objects own.objects) LimitExceeded p.name.span.start
    ++ one_if (first_too_many CELL_LIMIT ahead.cells own.cells) LimitExceeded p.name.span.start
faults_by number ahead own (init i) = []
faults_by number ahead own (atomic s) = one_if (nat_le SECTION_LIMIT number) LimitExceeded s.name.span.start
faults_by number ahead own (helper s) = one_if (nat_le SECTION_LIMIT number) LimitExceeded s.name.span.start
faults_by number ahead own (thread t) =
    one_if (nat_le THREAD_LIMIT number) LimitExceeded t.name.span.start
    ++ one_if (first_too_many CALL_LIMIT ahead.calls own.calls) LimitExceeded t.name.span.start
