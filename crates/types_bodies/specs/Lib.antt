pub mod Theory
pub mod Working
-- the definitions that public clauses cite
pub use Rattle.resolution.specs.CoreViews.{core_expr, core_condition, core_path}
pub use Rattle.resolution.specs.Scopes.{meaning, outside, bound, hidden_from, number_at, the_struct, type_of}
pub use Rattle.resolution.specs.Expressions.{cell_of, local_path, walk_from, want, fits_type, fits_sort}
pub use Rattle.resolution.specs.Working.TypedExpressions.{number_value}
pub use Rattle.resolution.specs.Expressions.{operator_of}
pub use Rattle.resolution.specs.Working.TypedExpressions.{typed, fitting, as_value, number_resolved, test_resolved}
pub use Rattle.resolution.specs.Working.TypedExpressions.{named_value, path_value, literal, value_of, parenthesised}
pub use Rattle.resolution.specs.Working.TypedExpressions.{negated, not_so, chained, compared}
pub use Rattle.resolution.specs.Working.FaultLists.{local_faults, type_faults, wanted_faults, no_value, no_elements, one, number_faults, misfit, operator_faults, side_faults}
pub use Rattle.types_bodies.specs.Working.ResolvedExprs.{resolved_expr_of}
pub use Rattle.resolution.specs.Where.{side_want}
pub use Rattle.resolution.specs.CoreViews.{core_section}
pub use Rattle.resolution.specs.Working.FaultLists.{section_faults}
pub use Rattle.resolution.specs.Working.TypedSections.{typed_section}
