-- Lines that are added.
use Rattle.std.proofs.Common.{◌≡◌, ◌∙◌, ℕ, zero, suc, ◌+◌, ◌<◌, Bool, true, false, List, [], ◌∷◌, ◌++◌, length, drop, fold, add-one, ap, sym, refl, true≢false, arith}
use Rattle.std.specs.Prelude.{slice_get}
use Rattle.std.specs.BTreeSet.{insert_key}
use Rattle.std.specs.Cmp.Lexicographic.{slice_cmp}
use Rattle.std.specs.Option.{option_map_or}
use Rattle.std.specs.Ordering.{nat_cmp}
use Rattle.std.proofs.lemmas.List.Sums.{fold-append}
use Rattle.core_lang.specs.declared.tree.Section.{Section}
use Rattle.core_lang.specs.declared.typed.Typed.{Typed}
use Rattle.lowering.specs.Plans.{Plan}
use Rattle.language_server.specs.Held.{held_line, line_if, section_lines}
use Rattle.language_server.specs.Working.Lines.{lines_in, numbered_lines}

-- the line of a point that is meant
pub one_line : (program : Typed) (section : Section) (meant : Bool) (held taken line : List ℕ) (set : List (List ℕ)) → meant ≡ true →
    line ≡ held_line program section held taken →
    insert_key (slice_cmp nat_cmp) set line ≡ fold (insert_key (slice_cmp nat_cmp)) set (line_if program section meant held taken)
one_line program section false held taken line set is same = absurd (true≢false (sym is))
one_line program section true held taken line set is same = ap (insert_key (slice_cmp nat_cmp) set) same

module _ (plan : Plan) (held : List (List (List ℕ))) (start : ℕ) where
  -- the lines of the section of a number, and of the sections after it
  one_section : (ss : List Section) (k n : ℕ) → k < length ss →
      section_lines plan held start n (drop k ss)
      ≡ option_map_or (lines_in plan held start n) (slice_get ss k) [] ++ section_lines plan held start (n + 1) (drop (suc k) ss)
  one_section [] k n within = absurd (omega arith)
  one_section (s ∷ ss) zero n within = refl
  one_section (s ∷ ss) (suc k) n within = one_section ss k n (omega arith)

  -- the lines found so far and the remaining ones are all lines
  pub whole : (k : ℕ) (old new all : List (List ℕ)) → k < length plan.program.sections.items →
      new ≡ fold (insert_key (slice_cmp nat_cmp)) old (numbered_lines plan held start k) →
      fold (insert_key (slice_cmp nat_cmp)) old (section_lines plan held start k (drop k plan.program.sections.items)) ≡ all →
      fold (insert_key (slice_cmp nat_cmp)) new (section_lines plan held start (k + 1) (drop (k + 1) plan.program.sections.items)) ≡ all
  whole k old new all within is before =
      let ss = plan.program.sections.items in
      let put = λ (set : List (List ℕ)) (lines : List (List ℕ)). fold (insert_key (slice_cmp nat_cmp)) set lines in
      let rest = section_lines plan held start (k + 1) (drop (suc k) ss) in
      ap (λ (n : ℕ). put new (section_lines plan held start (k + 1) (drop n ss))) (add-one k) ∙ ap (λ (set : List (List ℕ)). put set rest) is
      ∙ sym (fold-append (insert_key (slice_cmp nat_cmp)) old (numbered_lines plan held start k) rest)
      ∙ ap (put old) (sym (one_section ss k k within)) ∙ before
