-- The releases of whole classes, as values of the code have them. Nobody has to believe these.
use Rattle.std.specs.Prelude.{ℕ, List, ◌++◌, codes}
use Rattle.c_statements.specs.declared.class_loops.ClassLoops.{ClassLoops}
use Rattle.c_statements.specs.Working.Loops.{loops_of}

abbrev pub loops_text : ClassLoops → List ℕ
loops_text loops = codes "{" ++ loops_of loops (codes "AL_UNLOCK") ++ codes " }"
