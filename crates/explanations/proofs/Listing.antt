-- The warnings on the classes that a section lists, one after another.
use Rattle.std.proofs.Common.{◌≡◌, ◌∙◌, ◌++◌, ℕ, Bool, true, false, List, [], ◌∷◌, Option, Some, None, map, sym, ap, append-nil}
use Rattle.std.proofs.lemmas.List.{map-append}
use Rattle.std.specs.Option.{option_map_or}
use Rattle.std.specs.Prelude.{slice_get}
use Rattle.core_lang.specs.declared.tree.Section as core
use Rattle.core_lang.specs.declared.typed.Typed.{Typed}
use Rattle.explanation.specs.Warnings.{Warning, warning_of}
use Rattle.explanation.specs.declared.warning.Warning as written
use Rattle.syntax.specs.Trees.{ClassName, Section}
use Rattle.explanations.specs.ListedClasses.{is_needed, listed_warning, warning_unless, class_warning, class_warnings}
use Rattle.explanations.specs.ListedClasses.{section_warnings}
use Rattle.explanations.specs.Working.Judged.{warnings_seen}

-- the warning by what stands at the place of the list
pub listed_at : (program : Typed) (section : core.Section) (i : ℕ) (c : ClassName) (o : Option ℕ) →
    slice_get section.listed.items i ≡ o →
    class_warning program section i c
    ≡ option_map_or (λ (class : ℕ). warning_unless c (is_needed program section class)) o []
listed_at program section i c o e =
    ap (λ (x : Option ℕ). option_map_or (λ (class : ℕ). warning_unless c (is_needed program section class)) x []) e

-- the warning on a class that is needed, or is not
pub judged_at : (program : Typed) (section : core.Section) (i class : ℕ) (c : ClassName) (needed : Bool) →
    slice_get section.listed.items i ≡ Some class → needed ≡ is_needed program section class →
    class_warning program section i c ≡ warning_unless c needed
judged_at program section i class c needed e is =
    listed_at program section i c (Some class) e ∙ ap (warning_unless c) (sym is)

-- the warnings on the classes of a section, by what stands at its number
pub section_at : (program : Typed) (k : ℕ) (s : Section) (o : Option core.Section) →
    slice_get program.sections.items k ≡ o →
    section_warnings program k s
    ≡ option_map_or (λ (section : core.Section). class_warnings program section 0 s.listed) o []
section_at program k s o e =
    ap (λ (x : Option core.Section). option_map_or (λ (section : core.Section). class_warnings program section 0 s.listed) x []) e

-- no warning is added
pub none_added : (old : List written.Warning) (more : List Warning) → more ≡ [] →
    warnings_seen old ≡ warnings_seen old ++ more
none_added old more none = sym (ap (λ (ws : List Warning). warnings_seen old ++ ws) none ∙ append-nil (warnings_seen old))

-- one warning is added
pub one_added : (old new : List written.Warning) (w : written.Warning) (told : Warning) (more : List Warning) →
    new ≡ old ++ w ∷ [] → warning_of w ≡ told → more ≡ told ∷ [] → warnings_seen new ≡ warnings_seen old ++ more
one_added old new w told more is tells one =
    ap warnings_seen is ∙ map-append warning_of old (w ∷ [])
    ∙ ap (λ (x : Warning). warnings_seen old ++ x ∷ []) tells
    ∙ ap (λ (ws : List Warning). warnings_seen old ++ ws) (sym one)
