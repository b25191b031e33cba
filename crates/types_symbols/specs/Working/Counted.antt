-- The number of declarations and of members of each kind.
use Rattle.std.specs.Prelude.{ℕ, ◌+◌, min, List, [], ◌∷◌, Bool, if◌then◌else◌}
use Rattle.syntax.specs.Trees.{Decl, lock, struct, global, array, pool, init, atomic, helper, thread, Member}
use Rattle.syntax.specs.Trees.{lock_member, final_member, field_member}
use Rattle.resolution.specs.Limits.{SECTION_LIMIT}
use Rattle.resolution.specs.Scopes.{count, alike}
use Rattle.types_symbols.specs.declared.declarations.Counts.{Counts}
use Rattle.types_symbols.specs.declared.members.MemberCounts.{MemberCounts}

-- the number of declarations of a declaration's kind
abbrev pub count_of : Counts → Decl → ℕ
count_of c (lock x) = c.locks
count_of c (struct s) = c.structs
count_of c (global v) = c.globals
count_of c (array a) = c.arrays
count_of c (pool p) = c.pools
count_of c (init i) = c.inits
count_of c (atomic s) = c.sections
count_of c (helper s) = c.helpers
count_of c (thread t) = c.threads

-- the counts with one more
abbrev pub counted : Counts → Decl → Counts
counted c (lock x) = record c { locks = c.locks + 1 }
counted c (struct s) = record c { structs = c.structs + 1 }
counted c (global v) = record c { globals = c.globals + 1 }
counted c (array a) = record c { arrays = c.arrays + 1 }
counted c (pool p) = record c { pools = c.pools + 1 }
counted c (init i) = record c { inits = c.inits + 1 }
counted c (atomic s) = record c { sections = c.sections + 1 }
counted c (helper s) = record c { helpers = c.helpers + 1 }
counted c (thread t) = record c { threads = c.threads + 1 }

abbrev pub no_counts : Counts
no_counts = record { locks = 0; structs = 0; globals = 0; arrays = 0; pools = 0; inits = 0; sections = 0; helpers = 0; threads = 0 }

-- the counts after these declarations
abbrev pub counts_from : Counts → List Decl → Counts
counts_from c [] = c
counts_from c (d ∷ ds) = counts_from (counted c d) ds

-- the number of declarations that share a limit with this one: those of its kind, or for a section or a helper those of
-- both kinds, each counted up to the limit
abbrev pub limited_of : Counts → Decl → ℕ
limited_of c (atomic s) = min c.sections SECTION_LIMIT + min c.helpers SECTION_LIMIT
limited_of c (helper s) = min c.sections SECTION_LIMIT + min c.helpers SECTION_LIMIT
limited_of c d = count_of c d

-- the number of these declarations that share a limit with this one
abbrev pub limited : List Decl → Decl → ℕ
limited ds (atomic s) = min (count (alike (atomic s)) ds) SECTION_LIMIT + min (count (alike (helper s)) ds) SECTION_LIMIT
limited ds (helper s) = min (count (alike (atomic s)) ds) SECTION_LIMIT + min (count (alike (helper s)) ds) SECTION_LIMIT
limited ds d = count (alike d) ds

-- the number of members of a member's kind
abbrev pub member_count : MemberCounts → Member → ℕ
member_count c (lock_member x) = c.locks
member_count c (final_member f) = c.finals
member_count c (field_member f) = c.fields

-- the counts with one more
abbrev pub member_counted : MemberCounts → Member → MemberCounts
member_counted c (lock_member x) = record c { locks = c.locks + 1 }
member_counted c (final_member f) = record c { finals = c.finals + 1 }
member_counted c (field_member f) = record c { fields = c.fields + 1 }

abbrev pub no_members : MemberCounts
no_members = record { locks = 0; finals = 0; fields = 0 }

-- the counts after these members
abbrev pub member_counts_from : MemberCounts → List Member → MemberCounts
member_counts_from c [] = c
member_counts_from c (m ∷ ms) = member_counts_from (member_counted c m) ms

-- the number of fields that a member adds, given whether it is the first of its name
abbrev pub field_if : Bool → Member → ℕ
field_if first (lock_member x) = 0
field_if first (final_member f) = 0
field_if first (field_member f) = if first then 1 else 0
