-- Calls of helpers, given the values of the code for their parts.
use Rattle.std.specs.Prelude.{ℕ, List, length, Option, Some, None, Bool, option_map, map, if◌then◌else◌}
use Rattle.std.specs.Borrow.{Bor}
use Rattle.std.proofs.Common.{Vec, Global}
use Rattle.resolution.specs.declared.finding.Finding.{Finding}
use Rattle.syntax.specs.declared.tree.Section as the_section
use Rattle.syntax.specs.declared.tree.Expr as the_written
use Rattle.syntax.specs.declared.tree.Param as the_param
use Rattle.syntax.specs.Trees.{Expr, HelperCall, Section, helper}
use Rattle.syntax.specs.Views.{section_of, expr_of, param_of}
use Rattle.core_lang.specs.declared.tree.Expr as the_expr
use Rattle.core_lang.specs.declared.value.ValueType.{ValueType}
use Rattle.resolution.specs.Core as core
use Rattle.resolution.specs.CoreViews.{core_expr}
use Rattle.resolution.specs.Scopes.{Scope, meaning, helper_meant, number_at}
use Rattle.resolution.specs.Working.TypedStatements.{Part, typed_values, type_given, can_take, acts_if}
use Rattle.resolution.specs.Working.FaultLists.{no_helper, values_faults, each_value_faults, passed_values_faults}
use Rattle.resolution.specs.Working.FaultLists.{given_back_faults}

-- the helper that a call names, and its place
abbrev pub helper_named : Scope → HelperCall → Option (ℕ × Section)
helper_named sc c = helper_meant (meaning sc c.helper.text)

-- the helper with its number instead of its place
abbrev pub numbered : Scope → Option (ℕ × Section) → Option (ℕ × Section)
numbered sc h = option_map (λ f. (number_at sc.decls f.0 (helper f.1), f.1)) h

abbrev pub section_seen : Option (ℕ × Bor the_section.Section) → Option (ℕ × Section)
section_seen f = option_map (λ h. (h.0, section_of h.1.now)) f

-- ---- arguments

abbrev pub values_seen : Option (Vec the_expr.Expr Global) → Option (List core.Expr)
values_seen v = option_map (λ vs. map core_expr vs.items) v

abbrev pub values_of : Scope → List the_param.Param → List the_written.Expr → Option (List core.Expr)
values_of sc ps es = typed_values sc (map param_of ps) (map expr_of es)

abbrev pub values_blamed : Scope → List the_param.Param → List the_written.Expr → List Finding
values_blamed sc ps es = values_faults sc (map param_of ps) (map expr_of es)

abbrev pub each_blamed : Scope → List the_written.Expr → List Finding
each_blamed sc es = each_value_faults sc (map expr_of es)

-- the values of arguments for the called helper, if the name refers to one
abbrev pub values_passed : Scope → Option (ℕ × Section) → List Expr → Option (List core.Expr)
values_passed sc (Some h) es = typed_values sc h.1.params es
values_passed sc None es = None

abbrev pub passed_seen : Scope → HelperCall → Option (List core.Expr)
passed_seen sc c = values_passed sc (helper_named sc c) c.arguments

abbrev pub passed_blamed : Scope → HelperCall → List Finding
passed_blamed sc c = passed_values_faults sc (helper_named sc c) c.arguments

-- ---- the call

abbrev pub name_blamed : Scope → HelperCall → List Finding
name_blamed sc c = no_helper sc.decls c.helper.span.start (length c.arguments) (meaning sc c.helper.text)

-- a call of the helper with this number and these arguments, if neither is missing
abbrev pub called_with : Option (ℕ × Section) → Option (List core.Expr) → Option ℕ → Option core.Action
called_with (Some h) (Some vs) local = Some (core.call h.0 vs local)
called_with (Some h) None local = None
called_with None vs local = None

-- whether a local of the type can take the result of the called helper
abbrev pub takes_result : Scope → Option ValueType → HelperCall → Bool
takes_result sc t c = can_take t (type_given sc.decls (helper_named sc c))

abbrev pub taking_blamed : Scope → Option ValueType → HelperCall → List Finding
taking_blamed sc t c = given_back_faults sc.decls c.helper.span.start t (helper_named sc c)

-- a statement with this call, if its result can be taken
abbrev pub acts_where : Bool → ℕ → Option core.Action → Option Part
acts_where takes start action = if takes then acts_if start action else None
