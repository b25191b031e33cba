use Rattle.code.proofs.points.Numbers.{spot_is_point}
use Rattle.code.proofs.points.Found.{points_have_spots, only_spots_acquire}
use Rattle.code.proofs.points.Once.{spots_have_numbers}
use Rattle.code.proofs.points.Between.{first_point_is_at_start, empty_has_end, spots_acquire}
use Rattle.code.proofs.point_laws.points_have_places.Goals as goal

pub returns-clause-number : goal.returns-clause-number
returns-clause-number g c = spot_is_point

pub returns-clause-each : goal.returns-clause-each
returns-clause-each g c = points_have_spots

pub returns-clause-once : goal.returns-clause-once
returns-clause-once g c = spots_have_numbers

pub returns-clause-first : goal.returns-clause-first
returns-clause-first g c = first_point_is_at_start

pub returns-clause-none : goal.returns-clause-none
returns-clause-none g c = empty_has_end

pub returns-clause-acquired : goal.returns-clause-acquired
returns-clause-acquired g c = spots_acquire

pub returns-clause-only : goal.returns-clause-only
returns-clause-only g c = only_spots_acquire
