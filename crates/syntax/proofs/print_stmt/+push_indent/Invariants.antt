use Rattle.syntax.proofs.print_stmt.+push_indent.Given as goal

abbrev pub decreases-push_indent : goal.decreases-push_indent
decreases-push_indent l = l.depth
