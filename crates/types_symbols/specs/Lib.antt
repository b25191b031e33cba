pub mod Theory
pub mod Working
-- the definitions that public clauses cite
pub use Rattle.types_symbols.specs.Working.Views.{decls_of, decl_named, members_seen}
pub use Rattle.types_symbols.specs.Working.Given.{pool_named}
pub use Rattle.types_symbols.specs.Working.Scoped.{KnownLocals, scope_of, IsBound, locals_seen, local_seen, meaning_of}
pub use Rattle.types_symbols.specs.Working.Faults.{table_faults}
pub use Rattle.resolution.specs.Annotations.{class_of, protection_of}
pub use Rattle.resolution.specs.CoreViews.{core_protection}
pub use Rattle.resolution.specs.Working.FaultLists.{lock_faults, protection_faults}
pub use Rattle.types_symbols.specs.Working.AnnotationCursors.{field_protection, field_protection_faults}
