-- The lines of takes are those of `check`.
use Rattle.std.proofs.Common.{◌≡◌, ◌∙◌, ℕ, List, [], ◌∷◌, ◌++◌, refl, sym, ap, append-nil, append_assoc}
use Rattle.std.specs.Prelude.{codes}
use Rattle.std.specs.List.{flat_map}
use Rattle.std.proofs.lemmas.List.Concat.{flat_map-append}
use Rattle.source.specs.Faults.{line_of, column_of}
use Rattle.core_lang.specs.declared.tree.Section.{Section}
use Rattle.core_lang.specs.declared.typed.Typed.{Typed}
use Rattle.flow.specs.Points.{Point, start_of}
use Rattle.code.specs.LineTables.{position_text}
use Rattle.code.specs.Listing.{line, paths_text}
use Rattle.report_check.specs.Check.{take_text, take_texts}
use Rattle.language_server.specs.Takes.{take_line, take_before, point_takes}

-- the word and the space before it
word : (before paths : List ℕ) → before ++ codes " take" ++ paths ≡ before ++ codes " " ++ (codes "take" ++ paths)
word before paths = append_assoc before (codes " take") paths ∙ sym (append_assoc before (codes " ") (codes "take" ++ paths))

module _ (text : List ℕ) (program : Typed) (section : Section) where
  one_line : (start : ℕ) (list : List ℕ) → take_text text program section start list ≡ flat_map (take_line text) (take_before program section start list)
  one_line start [] = refl
  one_line start (i ∷ is) =
      ap line (word (codes "at " ++ position_text (line_of text start) (column_of text start)) (paths_text program section (i ∷ is)))
      ∙ sym (append-nil _)

  pub lines : (ps : List Point) (lists : List (List ℕ)) →
      take_texts text program section ps lists ≡ flat_map (take_line text) (point_takes program section ps lists)
  lines [] lists = refl
  lines (p ∷ ps) [] = refl
  lines (p ∷ ps) (list ∷ lists) =
      ap (λ (t : List ℕ). t ++ take_texts text program section ps lists) (one_line (start_of p) list)
      ∙ ap (λ (t : List ℕ). flat_map (take_line text) (take_before program section (start_of p) list) ++ t) (lines ps lists)
      ∙ sym (flat_map-append (take_line text) (take_before program section (start_of p) list) (point_takes program section ps lists))
