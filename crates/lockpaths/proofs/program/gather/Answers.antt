use Rattle.std.proofs.Common.{◌≡◌, ◌∙◌, List, [], None, refl, sym, ap, subst}
use Rattle.std.specs.List.{flat_map}
use Rattle.std.proofs.lemmas.List.{take_all}
use Rattle.source.specs.Mistakes.{least_of}
use Rattle.core_lang.specs.declared.tree.Section.{Section}
use Rattle.lockpaths.specs.declared.table.SectionPaths.{SectionPaths}
use Rattle.lockpaths.specs.Working.Faulted.{faults_in}
use Rattle.lockpaths.specs.Working.Numbers.{AreEach}
use Rattle.lockpaths.specs.Working.Told.{Seen}
use Rattle.lockpaths.proofs.Used.{IsFound, found_none}
use Rattle.lockpaths.proofs.Turns.{not_some, not_none, least_next, each_next}
use Rattle.lockpaths.proofs.program.gather.Goals as goal
use Rattle.lockpaths.proofs.program.gather.Goals.{then-is_none+in_ok-paths+in_ok-push, else-is_none}

pub section_paths-requires : goal.section_paths-requires
section_paths-requires c =
    let told : c.found.inside.least ≡ c.in_ok-found.found.gathered.least = ap (λ (s : Seen). s.gathered.least) c.found.view_is in
    let found : IsFound c.args.program.now c.section-item.result c.in_ok-found.found.gathered =
    found_none c.each_path_once.ensures.same c.each_path_once.ensures.once c.args.program.now c.section-item.result c.loop-section.least c.in_ok-found.found.gathered c.in_ok-found.ensures
    (sym told ∙ not_some c.found.inside.least c.if-is_none.ensures) in
    found.complete

pub loop-section-preserved : goal.loop-section-preserved
loop-section-preserved c =
    let told : c.found.inside.least ≡ c.in_ok-found.found.gathered.least = ap (λ (s : Seen). s.gathered.least) c.found.view_is in
    let least =
    least_next c.args.program.now c.deref-section-items.result.now c.loop-section.section-index c.section-item.result c.section-item.is c.loop-section-test.true
    c.each_path_once.ensures.same c.each_path_once.ensures.once c.loop-section.least c.in_ok-found.found.gathered c.in_ok-found.ensures c.found.inside.least told c.loop-section.invariant.least in
    elim c.if-is_none.branch [
      | then-is_none+in_ok-paths+in_ok-push w ↦ record {
        least = least;
        found =
            each_next c.args.program.now c.deref-section-items.result.now c.loop-section.section-index c.section-item.result c.section-item.is c.loop-section-test.true
            c.each_path_once.ensures.same c.each_path_once.ensures.once c.loop-section.least c.in_ok-found.found.gathered c.in_ok-found.ensures c.found.inside.least told
            c.loop-section.sections.items c.if-is_none.sections.items w.in_ok-paths.paths c.loop-section.invariant.found w.in_ok-paths.ensures
            (ap (λ v. v.items) w.sections-is ∙ w.in_ok-push.ensures.items);
      }
      | else-is_none w ↦ record { least = least; found = λ e. absurd (not_none c.found.inside.least w.if-is_none.ensures e) }
    ]

pub returns-clause-least : goal.returns-clause-least
returns-clause-least c =
    c.loop-section.invariant.least
    ∙ ap (λ (xs : List Section). least_of None (flat_map (faults_in c.args.program.now) xs))
    (take_all c.loop-section.section-index c.deref-section-items.result.now c.loop-section-test.false ∙ c.deref-section-items.ensures.value)

pub returns-clause-found : goal.returns-clause-found
returns-clause-found c = λ e.
    subst (λ (xs : List Section). AreEach c.args.program.now xs c.loop-section.sections.items)
    (take_all c.loop-section.section-index c.deref-section-items.result.now c.loop-section-test.false ∙ c.deref-section-items.ensures.value) (c.loop-section.invariant.found e)

pub loop-section-init : goal.loop-section-init
loop-section-init c = record {
  least = refl;
  found = λ e. subst (λ (xs : List SectionPaths). AreEach c.args.program.now [] xs) (sym c.in_ok-sections.ensures.items) tt;
}
