-- What values of the code are, in the words of the definitions.
use Rattle.indexmap.specs.IndexSet.{contains_text}
use Rattle.std.proofs.Common.{Global, Vec}
use Rattle.std.specs.Prelude.{◌≡◌, ℕ, ◌++◌, Bool, List, map}
use denote.Ref.{Bor}
use Rattle.syntax.specs.Trees.{Ident, Stmt}
use Rattle.syntax.specs.Views.{ident, member_of, stmt_of}
use Rattle.syntax.specs.declared.tree.Member as written_member
use Rattle.syntax.specs.declared.tree.Name.{Name}
use Rattle.syntax.specs.declared.tree.Stmt as written_stmt
use Rattle.std.specs.List.{flat_map, list_any}
use Rattle.std.specs.Str.{bytes_eq}
use Rattle.types_symbols.specs.declared.annotation.FieldAnnotations.{FieldAnnotations}
use Rattle.types_symbols.specs.Working.Views.{decls_of, members_seen}
use Rattle.explanations.specs.Names.{field_name}
use Rattle.explanations.specs.Working.Found.{class_for}
use Rattle.explanations.specs.declared.name_set.NameSet.{NameSet}

abbrev pub ident_at : Bor Name → Ident
ident_at name = ident name.now

abbrev pub idents : List (Bor Name) → List Ident
idents names = map ident_at names

abbrev pub stmt_at : Bor written_stmt.Stmt → Stmt
stmt_at s = stmt_of s.now

abbrev pub AddsNames : List Ident → Vec (Bor Name) Global → Vec (Bor Name) Global → Type 0
AddsNames more before after = idents after.items ≡ idents before.items ++ more

-- ---- sets

abbrev pub has : NameSet → List ℕ → Bool
has set q = contains_text set.texts q

abbrev pub IsSetOf : List Ident → NameSet → Type 0
IsSetOf names set = (q : List ℕ) → has set q ≡ list_any (λ (y : Ident). bytes_eq q y.text) names

-- ---- locks

abbrev pub AddsClasses : List ℕ → Vec ℕ Global → Vec ℕ Global → Type 0
AddsClasses more before after = after.items ≡ before.items ++ more

abbrev pub class_for_member : FieldAnnotations → written_member.Member → List ℕ
class_for_member at m = class_for (decls_of at.symbols.now) at.place (members_seen at.structure.now) (member_of m)

abbrev pub classes_for_members : FieldAnnotations → List written_member.Member → List ℕ
classes_for_members at ms = flat_map (class_for (decls_of at.symbols.now) at.place (members_seen at.structure.now)) (map member_of ms)

-- ---- the program

abbrev pub field_names_of : List written_member.Member → List Ident
field_names_of ms = flat_map field_name (map member_of ms)
