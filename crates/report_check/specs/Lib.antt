pub mod Order
pub mod Check
pub mod Sources
pub mod Working
-- the definitions that public clauses cite
pub use Rattle.report_check.specs.Check.{ranked_class, check_text}
pub use Rattle.report_check.specs.Sources.{sourced_check_text}
pub use Rattle.report_check.specs.Working.Values.{check_text_of, sourced_check_text_of}
pub use Rattle.report_check.specs.Order.{order_text, cyclic_order_text}
pub use Rattle.report_check.specs.Working.OrderValues.{order_text_of, cyclic_order_text_of}
