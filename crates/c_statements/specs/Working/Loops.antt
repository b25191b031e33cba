-- The loops over a struct's members, as values of the code have them. Nobody has to believe these.
use Rattle.std.specs.Prelude.{ℕ, List}
use Rattle.core_lang.specs.declared.shape.Pool.{Pool}
use Rattle.c_statements.specs.declared.class_loops.ClassLoops.{ClassLoops}
use Rattle.c_statements.specs.Acquires as text

abbrev pub pool_of : ClassLoops → List ℕ → Pool → List ℕ
pool_of x macro pool = text.pool_loop x.program.now macro x.number x.class pool

abbrev pub pool_if : ClassLoops → List ℕ → Pool → List ℕ
pool_if x macro pool = text.pool_loop_if x.program.now macro x.number x.class x.structure pool

abbrev pub loops_of : ClassLoops → List ℕ → List ℕ
loops_of x macro = text.class_loops x.program.now macro x.number x.class x.structure
