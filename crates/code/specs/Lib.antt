pub mod Machine
pub mod Memory
pub mod Lowering
pub mod LineTables
pub mod Needs
pub mod Alone
pub mod Listing
pub mod Working
pub mod Theory
-- the definitions that public clauses cite
pub use Rattle.code.specs.Memory.{HeldCells, opened, overwritten, Agrees, IsCovered, IsConsistent, IsPartOf, Keeps}
pub use Rattle.code.specs.Working.Laws.{IsOver, InRuns, StaysOver, EndsOnce, HasWritten, KeepsUnwritten, KeepsSize}
pub use Rattle.code.specs.Working.Laws.{on_heap}
pub use Rattle.code.specs.Working.Laws.{KeepsHeld, MovesAlike, AsksAlike, FinishesAlike, HaltsAlike, HaltsOnItsHeap}
pub use Rattle.code.specs.Working.Seen.{IsMemory, held_value, IsSeen, Shows, IsAccessible, Covers}
pub use Rattle.code.specs.Working.Spots.{HasAt, Spot, spot, InSection}
pub use Rattle.code.specs.Working.Ahead.{Safe, Goes, Steps, between_points, CanExecute, MayEnd, HasComeOn}
pub use Rattle.code.specs.Working.PointLaws.{PointsGoOn, SpotsArePoints, PointsHaveSpots, SpotsHaveNumbers}
pub use Rattle.code.specs.Working.PointLaws.{FirstPointIsAtStart}
pub use Rattle.code.specs.Working.PointLaws.{EmptyHasEnd, SpotsAcquire, OnlySpotsAcquire, SectionsGoOn}
pub use Rattle.code.specs.Working.RunLaws.{EndsAsSection, EndsOnlyAsSection, SectionsBehave}
pub use Rattle.code.specs.LineTables.{section_begins, point_at, position_text, place_text}
pub use Rattle.code.specs.Listing.{paths_text, section_text, listing_text, listing_with_places_text}
pub use Rattle.code.specs.Working.NumberLists.{number_lists}
pub use Rattle.code.specs.Working.Asked.{lists_of, asked}
pub use Rattle.code.specs.Working.Sections.{front_of}
pub use Rattle.code.specs.Working.Places.{PlacesOf}
