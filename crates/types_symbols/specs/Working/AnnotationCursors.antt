-- The positions of walks along annotations, and the locks that annotations name.
use Rattle.std.specs.Prelude.{List, map, Option, option_map}
use Rattle.resolution.specs.declared.finding.Finding.{Finding}
use Rattle.syntax.specs.declared.tree.Name.{Name}
use Rattle.syntax.specs.declared.tree.Protection as written
use Rattle.syntax.specs.Views.{ident, protection_of as protection_view, option_of}
use Rattle.resolution.specs.Core.{Protection}
use Rattle.resolution.specs.Annotations.{AnnotationCursor, along, protection_of}
use Rattle.resolution.specs.Working.FaultLists.{named_lock_faults, passed, ended, along_faults, protection_faults}
use Rattle.types_symbols.specs.declared.declarations.Declarations.{Declarations}
use Rattle.types_symbols.specs.Working.Views.{decls_of, members_seen}
use Rattle.types_symbols.specs.declared.annotation.AnnotationCursor as s
use Rattle.types_symbols.specs.declared.annotation.AnnotationWalk.{AnnotationWalk}
use Rattle.types_symbols.specs.declared.annotation.FieldAnnotations.{FieldAnnotations}

abbrev pub cursor_of : s.AnnotationCursor → AnnotationCursor
cursor_of s = record { structure = s.place; members = members_seen s.structure.now; through = s.through.items }

-- the position of a walk, if it has one
abbrev pub cursor_seen : Option s.AnnotationCursor → Option AnnotationCursor
cursor_seen cursor = option_map cursor_of cursor

-- the faults of these names, which have to name a global lock
abbrev pub lock_name_faults : Declarations → Name → List Name → List Finding
lock_name_faults d x ys = named_lock_faults (decls_of d) (ident x) (map ident ys)

-- the fault of a name that others follow
abbrev pub passed_at : AnnotationWalk → Option s.AnnotationCursor → Name → List Finding
passed_at walk cursor y = passed (decls_of walk.symbols.now) walk.start (cursor_seen cursor) (ident y)

-- the fault of the last name
abbrev pub ended_at : AnnotationWalk → Option s.AnnotationCursor → Name → List Finding
ended_at walk cursor y = ended (decls_of walk.symbols.now) walk.start (cursor_seen cursor) (ident y)

-- the protection at the end of a walk along names
abbrev pub protection_along : AnnotationWalk → Option s.AnnotationCursor → Name → List Name → Option Protection
protection_along walk cursor y zs = along (decls_of walk.symbols.now) (cursor_seen cursor) (ident y) (map ident zs)

abbrev pub faults_along : AnnotationWalk → Option s.AnnotationCursor → Name → List Name → List Finding
faults_along walk cursor y zs = along_faults (decls_of walk.symbols.now) walk.start (cursor_seen cursor) (ident y) (map ident zs)

-- the protection of a field by its annotation
abbrev pub field_protection : FieldAnnotations → Option written.Protection → Option Protection
field_protection at p = protection_of (decls_of at.symbols.now) at.place (members_seen at.structure.now) (option_of protection_view p)

abbrev pub field_protection_faults : FieldAnnotations → Name → Option written.Protection → List Finding
field_protection_faults at x p = protection_faults (decls_of at.symbols.now) at.place (members_seen at.structure.now) x.start (option_of protection_view p)
