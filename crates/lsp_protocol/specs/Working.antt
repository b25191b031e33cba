-- What the code computes, for its clauses. Nobody has to believe these files.
-- Values of the code's types, for its clauses. Nobody has to believe these files.
pub mod MessageViews
pub mod Reading
pub mod ServerViews
pub mod Steps
pub mod Values
