-- Takes that are added.
use Rattle.std.proofs.Common.{◌≡◌, ◌∙◌, ℕ, zero, suc, ◌+◌, ◌<◌, List, [], ◌∷◌, ◌++◌, false, length, drop, fold, add-one, ap, sym, refl, true≢false, arith}
use Rattle.std.specs.Prelude.{◌==◌, codes, slice_get}
use Rattle.std.specs.BTreeSet.{insert_key}
use Rattle.std.specs.Option.{option_map_or}
use Rattle.std.proofs.lemmas.List.Sums.{fold-append}
use Rattle.core_lang.specs.declared.tree.Section.{Section}
use Rattle.core_lang.specs.declared.typed.Typed.{Typed}
use Rattle.code.specs.Listing.{paths_text}
use Rattle.code.specs.Lowering.{lists_at}
use Rattle.flow.specs.Points.{Point, points}
use Rattle.lowering.specs.Plans.{Plan}
use Rattle.language_server.specs.Takes.{Take, compare, take_before, point_takes, section_takes}
use Rattle.language_server.specs.Working.Sets.{numbered_takes}

-- the take of a list with paths
pub one_take : (program : Typed) (section : Section) (start : ℕ) (list label : List ℕ) (set : List Take) → (length list == 0) ≡ false →
    label ≡ codes "take" ++ paths_text program section list →
    insert_key compare set (record { start = start; label = label }) ≡ fold (insert_key compare) set (take_before program section start list)
one_take program section start [] label set some is = absurd (true≢false some)
one_take program section start (i ∷ more) label set some is = ap (λ (l : List ℕ). insert_key compare set (record { start = start; label = l })) is

-- nothing is left of an empty list
drop_none : {X : Type 0} (k : ℕ) → ◌≡◌ {A = List X} (drop k []) []
drop_none zero = refl
drop_none (suc k) = refl

module _ (program : Typed) where
  no_points : (section : Section) (ps : List Point) → point_takes program section ps [] ≡ []
  no_points section [] = refl
  no_points section (p ∷ ps) = refl

  no_sections : (ss : List Section) → section_takes program ss [] ≡ []
  no_sections [] = refl
  no_sections (s ∷ ss) = refl

  -- the takes of the section of a number, and of the sections after it
  pub one_section : (ss : List Section) (ls : List (List (List ℕ))) (k : ℕ) → k < length ss →
      section_takes program (drop k ss) (drop k ls)
      ≡ option_map_or (λ (s : Section). point_takes program s (points s) (lists_at ls k)) (slice_get ss k) []
      ++ section_takes program (drop (suc k) ss) (drop (suc k) ls)
  one_section [] ls k within = absurd (omega arith)
  one_section (s ∷ ss) [] zero within =
      sym (ap (λ (t : List Take). t ++ section_takes program ss []) (no_points s (points s)) ∙ no_sections ss)
  one_section (s ∷ ss) [] (suc k) within =
      ap (section_takes program (drop k ss)) (sym (drop_none k)) ∙ one_section ss [] k (omega arith)
  one_section (s ∷ ss) (l ∷ ls) zero within = refl
  one_section (s ∷ ss) (l ∷ ls) (suc k) within = one_section ss ls k (omega arith)

-- the takes found so far and the remaining ones are all takes
pub whole : (plan : Plan) (k : ℕ) (old new all : List Take) → k < length plan.program.sections.items →
    new ≡ fold (insert_key compare) old (numbered_takes plan k) →
    fold (insert_key compare) old (section_takes plan.program (drop k plan.program.sections.items) (drop k plan.lists)) ≡ all →
    fold (insert_key compare) new (section_takes plan.program (drop (k + 1) plan.program.sections.items) (drop (k + 1) plan.lists)) ≡ all
whole plan k old new all within is before =
    let ss = plan.program.sections.items in
    let rest = λ (n : ℕ). section_takes plan.program (drop n ss) (drop n plan.lists) in
    let put = λ (set : List Take) (takes : List Take). fold (insert_key compare) set takes in
    ap (λ (n : ℕ). put new (rest n)) (add-one k) ∙ ap (λ (set : List Take). put set (rest (suc k))) is
    ∙ sym (fold-append (insert_key compare) old (numbered_takes plan k) (rest (suc k)))
    ∙ ap (put old) (sym (one_section plan.program ss plan.lists k within)) ∙ before
