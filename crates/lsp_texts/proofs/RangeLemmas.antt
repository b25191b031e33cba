-- A range, by where it ends.
use Rattle.std.proofs.Common.{◌≡◌, ℕ, List, refl}
use Rattle.lsp_texts.specs.Positions.{position_of}
use Rattle.lsp_texts.specs.Ranges.{range_data}

pub same_range : (text : List ℕ) (start end other : ℕ) → position_of text end ≡ position_of text other →
    range_data text start end ≡ range_data text start other
same_range text start end other is = rw is refl
