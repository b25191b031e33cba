-- Constants and calls, as values of the code stand for them.
use Rattle.std.specs.Prelude.{◌≡◌, ℕ, List, map, Option, Some, None, option_map, Bool, true, false}
use Rattle.std.specs.Borrow.{Bor}
use Rattle.std.proofs.Common.{Vec, Global}
use Rattle.resolution.specs.declared.finding.Finding.{Finding}
use Rattle.syntax.specs.declared.tree.Const as the_const
use Rattle.syntax.specs.declared.tree.Member as the_member
use Rattle.syntax.specs.declared.tree.Param as the_param
use Rattle.syntax.specs.Trees.{Member}
use Rattle.syntax.specs.Views.{const_of, member_of, param_of}
use Rattle.core_lang.specs.declared.value.Value.{Value}
use Rattle.core_lang.specs.declared.typed.Call as the_call
use Rattle.resolution.specs.Core as core
use Rattle.resolution.specs.CoreViews.{core_call}
use Rattle.resolution.specs.Working.TypedConstants.{typed_arguments}
use Rattle.resolution.specs.Working.Building.{joined}
use Rattle.resolution.specs.Working.FaultLists.{argument_faults}
use Rattle.types_symbols.specs.declared.table.SymbolTable.{SymbolTable}
use Rattle.types_symbols.specs.Working.Views.{decls_of}

-- the values of constants as arguments for these parameters
abbrev pub arguments_of : SymbolTable → List the_param.Param → List the_const.Const → Option (List Value)
arguments_of symbols params constants = typed_arguments (decls_of symbols) (map param_of params) (map const_of constants)

-- the faults of constants as arguments for these parameters
abbrev pub argument_faults_of : SymbolTable → List the_param.Param → List the_const.Const → List Finding
argument_faults_of symbols params constants = argument_faults (decls_of symbols) (map param_of params) (map const_of constants)

-- a member that was found, with its place
abbrev pub member_found : Option (ℕ × Bor the_member.Member) → Option (ℕ × Member)
member_found found = option_map (λ f. (f.0, member_of f.1.now)) found

-- the data of calls, if none is missing
abbrev pub calls_in : Option (Vec the_call.Call Global) → Option (List core.Call)
calls_in calls = option_map (λ cs. map core_call cs.items) calls

-- the data of calls
abbrev pub cores : List the_call.Call → List core.Call
cores calls = map core_call calls

-- the data of calls, if none that was added has a fault
abbrev pub if_right : Bool → List the_call.Call → Option (List core.Call)
if_right true calls = Some (cores calls)
if_right false calls = None

-- further calls were appended, if they have no fault
abbrev pub Adds : Bool → List the_call.Call → List the_call.Call → Option (List core.Call) → Type 0
Adds right before after more = if_right right after ≡ joined (Some (cores before)) more
