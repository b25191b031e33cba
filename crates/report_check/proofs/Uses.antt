-- The text of a use, from that of its section and of its point.
use Rattle.std.proofs.Common.{◌≡◌, ℕ, List, [], ◌++◌, Some, ◌∙◌, sym, ap, append_assoc, string_bytes}
use Rattle.std.specs.Prelude.{codes, slice_get}
use Rattle.std.specs.Option.{option_map_or}
use Rattle.core_lang.specs.declared.tree.Section.{Section}
use Rattle.core_lang.specs.declared.typed.Typed.{Typed}
use Rattle.flow.specs.Points.{Point, points}
use Rattle.lockorder.specs.declared.ranks.Edge.{Edge}
use Rattle.report_check.specs.Order.{numbered_point, place_text, use_text}

pub use_told : (text : List ℕ) (program : Typed) (edge : Edge) (section : Section) (ps : List Point) (before now behind : List ℕ) →
    slice_get program.sections.items edge.section ≡ Some section → ps ≡ points section →
    now ≡ before ++ (string_bytes section.name ++ codes ":") → behind ≡ now ++ numbered_point text ps edge.used →
    behind ≡ before ++ use_text text program edge
use_told text program edge section ps before now behind here same named told =
    told ∙ ap (λ b. b ++ numbered_point text ps edge.used) named
    ∙ append_assoc before (string_bytes section.name ++ codes ":") (numbered_point text ps edge.used)
    ∙ ap (λ t. before ++ t)
    (ap (λ l. string_bytes section.name ++ codes ":" ++ numbered_point text l edge.used) same
    ∙ sym (ap (λ o. option_map_or (place_text text edge.used) o []) here))
