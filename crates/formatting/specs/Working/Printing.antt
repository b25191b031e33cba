-- What is printed after a piece.
use Rattle.std.specs.Prelude.{ℕ, List, ◌+◌, ◌++◌, slice_index}
use Rattle.formatting.specs.declared.kind.PieceKind.{PieceKind}
use Rattle.formatting.specs.declared.printer.Printer.{Printer}
use Rattle.formatting.specs.declared.state.LayoutState.{LayoutState}
use Rattle.formatting.specs.Layout.{lines, gap, behind}

abbrev pub text_in_front : Printer → PieceKind → ℕ → ℕ → List ℕ
text_in_front p next first feeds = p.text.items ++ gap p.state next first feeds

abbrev pub text_behind : Printer → PieceKind → List ℕ → List ℕ
text_behind p next bytes =
    p.text.items ++ gap p.state next (slice_index bytes 0) (lines p.state next p.found) ++ bytes

abbrev pub state_behind : Printer → PieceKind → List ℕ → LayoutState
state_behind p next bytes = behind p.state next (slice_index bytes 0) (lines p.state next p.found)

-- the number of open blocks
abbrev pub levels : LayoutState → ℕ
levels s = s.depth + s.inline
