-- Declarations and their members, statements and tokens, as values of the code stand for them.
use Rattle.std.specs.Prelude.{◌≡◌, ℕ, List, map, Option, Some, None}
use Rattle.std.specs.Option.{option_map}
use denote.Ref.{Bor}
use Rattle.resolution.specs.Scopes.{member_name}
use Rattle.source.specs.Tokens.{Tok, seen_token}
use Rattle.source.specs.declared.token.Token.{Token}
use Rattle.types_symbols.specs.Working.Views.{decls_of as decls_in, members_seen}
use Rattle.types_symbols.specs.declared.members.Structure.{Structure}
use Rattle.types_symbols.specs.declared.table.SymbolTable.{SymbolTable}
use Rattle.syntax.specs.Trees.{ClassName, Ident, Member, Param, Section, Stmt, let_local, let_owned, let_call, var_local}
use Rattle.syntax.specs.Views.{class_name_of, decl_of, member_of, param_of, protection_of, section_of, stmt_of}
use Rattle.syntax.specs.declared.tree.ClassName as written_class
use Rattle.syntax.specs.declared.tree.Decl as written_decl
use Rattle.syntax.specs.declared.tree.Member as written_member
use Rattle.syntax.specs.declared.tree.Name.{Name}
use Rattle.syntax.specs.declared.tree.Param as written_param
use Rattle.syntax.specs.declared.tree.Protection.{Protection}
use Rattle.syntax.specs.declared.tree.Section as written_section
use Rattle.syntax.specs.declared.tree.Stmt as written_stmt
use Rattle.explanation_names.specs.declared.passed_members.Sought.{Sought}
use Rattle.explanation_names.specs.FirstBy.{first_by}
use Rattle.explanation_names.specs.MissingReturns.{body_of}
use Rattle.explanation_names.specs.Working.PassedFound.{met_along, met_for}
use Rattle.explanation_names.specs.Working.Values.{ident_at}

abbrev pub FoundName : (Ident → Type 0) → Option (Bor Name) → Type 0
FoundName Is (Some name) = Is (ident_at name)
FoundName Is None = (x : Ident) → Is x → ⊥

abbrev pub FoundClass : (ClassName → Type 0) → Option (Bor written_class.ClassName) → Type 0
FoundClass Is (Some class) = Is (class_name_of class.now)
FoundClass Is None = (c : ClassName) → Is c → ⊥

abbrev pub name_of_member : written_member.Member → Ident
name_of_member m = member_name (member_of m)

abbrev pub member_names : List written_member.Member → List Ident
member_names ms = map member_name (map member_of ms)

abbrev pub param_names : List written_param.Param → List Ident
param_names ps = map (λ (p : Param). p.name) (map param_of ps)

-- the section or the helper that a declaration is
abbrev pub section_at : Bor written_section.Section → Section
section_at s = section_of s.now

abbrev pub IsBodyOf : written_decl.Decl → Option (Bor written_section.Section) → Type 0
IsBodyOf d s = option_map section_at s ≡ body_of (decl_of d)

abbrev pub token_seen : Bor Token → Tok
token_seen t = seen_token t.now

abbrev pub text_at : Bor (List ℕ) → List ℕ
text_at text = text.now

abbrev pub stmt_at : Bor written_stmt.Stmt → Stmt
stmt_at s = stmt_of s.now

-- the name that a statement itself binds
abbrev pub bound_name : Stmt → Option Ident
bound_name (let_local l) = Some l.name
bound_name (let_owned l o) = Some l.name
bound_name (let_call l) = Some l.name
bound_name (var_local l) = Some l.name
bound_name _ = None

abbrev pub member_at : Bor written_member.Member → Member
member_at m = member_of m.now

abbrev pub member_found : ℕ × Bor written_member.Member → ℕ × Member
member_found f = (f.0, member_of f.1.now)

abbrev pub members_behind : Bor Structure → List Member
members_behind s = members_seen s.now

-- the first such member along an annotation, from a struct on, if there is one
abbrev pub met_from : SymbolTable → Sought → Option (Bor Structure) → Protection → Option Member
met_from symbols sought s p =
    met_along sought (decls_in symbols) (protection_of p).first 0 (option_map members_behind s) (protection_of p).first (protection_of p).rest

abbrev pub met_inside : SymbolTable → Sought → Structure → Option Member
met_inside symbols sought s = first_by (met_for sought (decls_in symbols) (members_seen s)) (members_seen s)
