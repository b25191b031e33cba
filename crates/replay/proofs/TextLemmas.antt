-- The history text is its lines, each with its line feed.
use Rattle.std.proofs.Common.{◌≡◌, ◌∙◌, ℤ, ℕ, List, [], ◌∷◌, ◌++◌, sym, ap, refl, append_assoc}
use Rattle.std.specs.Prelude.{codes}
use Rattle.std.specs.List.{flat_map}
use Rattle.core_lang.specs.declared.value.Value.{Value}
use Rattle.core_lang.specs.declared.typed.Cell.{Cell}
use Rattle.core_lang.specs.declared.typed.Typed.{Typed}
use Rattle.code.specs.Listing.{line}
use Rattle.input_files.specs.declared.format.Format.{Format}
use Rattle.input_files.specs.Lines.{header_of}
use Rattle.report.specs.Entry.{Entry}
use Rattle.report.specs.History.{print_line, print_texts, entry_text, call_line, cell_texts, cell_line, closing_of}
use Rattle.replay.specs.Readers.{print_lines, cell_lines, closing_lines}
use Rattle.replay.specs.Working.Histories.{entry_lines, text_of}
use Rattle.replay.specs.Working.Laws.{TextIsOfLines}

text_append : (xs ys : List (List ℕ)) → text_of (xs ++ ys) ≡ text_of xs ++ text_of ys
text_append [] ys = refl
text_append (x ∷ xs) ys = ap (λ t. line x ++ t) (text_append xs ys) ∙ sym (append_assoc (line x) (text_of xs) (text_of ys))

prints_text : (prints : List ℤ) → print_texts prints ≡ text_of (print_lines prints)
prints_text [] = refl
prints_text (n ∷ prints) = ap (λ t. line (print_line n) ++ t) (prints_text prints)

entries_text : (format : Format) (program : Typed) (es : List Entry) →
    flat_map (entry_text format program) es ≡ text_of (flat_map (entry_lines format program) es)
entries_text format program [] = refl
entries_text format program (e ∷ es) =
    ap (λ t. line (call_line format program e) ++ t ++ flat_map (entry_text format program) es) (prints_text e.prints)
    ∙ ap (λ t. line (call_line format program e) ++ text_of (print_lines e.prints) ++ t) (entries_text format program es)
    ∙ sym (text_append (entry_lines format program e) (flat_map (entry_lines format program) es))

cells_text : (program : Typed) (cells : List Cell) (values : List Value) →
    cell_texts program cells values ≡ text_of (cell_lines program cells values)
cells_text program [] values = refl
cells_text program (cell ∷ cells) [] = refl
cells_text program (cell ∷ cells) (value ∷ values) = ap (λ t. line (cell_line program cell value) ++ t) (cells_text program cells values)

closing_text : (program : Typed) (heap : List Value) →
    closing_of program heap ≡ text_of (codes "cells" ∷ closing_lines program heap)
closing_text program heap =
    ap (λ t. line (codes "cells") ++ t ++ line (codes "end")) (cells_text program program.cells.items heap)
    ∙ append_assoc (line (codes "cells")) (text_of (cell_lines program program.cells.items heap)) (line (codes "end"))
    ∙ ap (λ t. line (codes "cells") ++ t) (sym (text_append (cell_lines program program.cells.items heap) (codes "end" ∷ [])))

pub text_of_lines : TextIsOfLines
text_of_lines format program es heap =
    ap (λ t. line (header_of format) ++ t ++ closing_of program heap) (entries_text format program es)
    ∙ ap (λ t. line (header_of format) ++ text_of (flat_map (entry_lines format program) es) ++ t) (closing_text program heap)
    ∙ append_assoc (line (header_of format)) _ _
    ∙ ap (λ t. line (header_of format) ++ t) (sym (text_append (flat_map (entry_lines format program) es) (codes "cells" ∷ closing_lines program heap)))
