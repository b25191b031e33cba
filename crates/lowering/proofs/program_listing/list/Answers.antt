use Rattle.std.proofs.Common.{◌≡◌, ◌∙◌, ◌<◌, ◌++◌, length, map, sym, ap, subst, arith}
use Rattle.core_lang.specs.declared.typed.Typed.{Typed}
use Rattle.locks.specs.LockPaths.{lock_path_of, lock_paths}
use Rattle.lockpaths.specs.Paths.{ArePaths}
use Rattle.code.specs.Listing.{section_text}
use Rattle.code.specs.Lowering.{lists_at}
use Rattle.code.specs.Working.NumberLists.{number_lists}
use Rattle.code.specs.Working.Sections.{front_of}
use Rattle.lowering.specs.Working.Listings.{text_of, AreTold}
use Rattle.lowering.specs.Working.Lowered.{IsCodeOf}
use Rattle.rope.specs.Working.Ropes.{rope_text}
use Rattle.lowering.proofs.Listed.{paths_are, lowered, begins_rise, instructions_are, section_put, fronts_same}
use Rattle.lowering.proofs.program_listing.list.Goals as goal

pub push-requires-clause-paths : goal.push-requires-clause-paths
push-requires-clause-paths c =
    let program = c.expanded-typed.result.now in
    let section = c.index-section.result.now in
    let paths = c.paths-paths.result.now in
    let are = subst (λ p. ArePaths p paths) (sym c.expanded-typed.ensures.program) c.paths-paths.ensures in
    let lt : c.loop-k.k < length program.sections.items =
    omega (arith, c.loop-k-test.true, c.len-k-end.ensures, program.sections.ok.0) in
    ap (map lock_path_of) c.deref.ensures.value
    ∙ paths_are program c.loop-k.k section lt c.index-section.ensures paths c.index-in-loop-k.result.now are c.index-in-loop-k.ensures
    ∙ ap (λ (p : Typed). lock_paths p section) (sym c.in_ok-lister.ensures)

pub push-requires-clause-code : goal.push-requires-clause-code
push-requires-clause-code c =
    let program = c.expanded-typed.result.now in
    let code = c.code-code.result.now in
    let lists = c.args.program.now.lists in
    let is = subst (λ p. IsCodeOf p lists code) (sym c.expanded-typed.ensures.program) c.code-code.ensures in
    let lt : c.loop-k.k < length program.sections.items =
    omega (arith, c.loop-k-test.true, c.len-k-end.ensures, program.sections.ok.0) in
    let own = number_lists c.lists_before.result.now in
    let its : own ≡ lists_at lists c.loop-k.k = c.lists_before.ensures in
    instructions_are program c.loop-k.k c.index-section.result.now lt c.index-section.ensures lists code
    c.index.result.now is c.index.ensures own its

pub push-requires-clause-rises : goal.push-requires-clause-rises
push-requires-clause-rises c =
    let program = c.expanded-typed.result.now in
    let code = c.code-code.result.now in
    let lists = c.args.program.now.lists in
    let is = subst (λ p. IsCodeOf p lists code) (sym c.expanded-typed.ensures.program) c.code-code.ensures in
    let lt : c.loop-k.k < length program.sections.items =
    omega (arith, c.loop-k-test.true, c.len-k-end.ensures, program.sections.ok.0) in
    begins_rise program c.loop-k.k c.index-section.result.now lt c.index-section.ensures lists code
    c.index.result.now is c.index.ensures

pub loop-k-preserved : goal.loop-k-preserved
loop-k-preserved c =
    let program = c.expanded-typed.result.now in
    let section = c.index-section.result.now in
    let code = c.code-code.result.now in
    let made = c.index.result.now in
    let lists = c.args.program.now.lists in
    let text = text_of c.args.text in
    let is = subst (λ p. IsCodeOf p lists code) (sym c.expanded-typed.ensures.program) c.code-code.ensures in
    let lt : c.loop-k.k < length program.sections.items =
    omega (arith, c.loop-k-test.true, c.len-k-end.ensures, program.sections.ok.0) in
    let old = rope_text c.loop-k.out in
    let own = number_lists c.lists_before.result.now in
    let its : own ≡ lists_at lists c.loop-k.k = c.lists_before.ensures in
    let done = lowered program c.loop-k.k section lt c.index-section.ensures lists code made is c.index.ensures in
    let told : AreTold text section c.in_ok-places.places =
    subst (λ t. AreTold t section c.in_ok-places.places) c.loop-k.invariant.cursor c.in_ok-places.ensures.told in
    let front = front_of c.as_ref.result made in
    let put : rope_text c.push.new.out ≡ old ++ section_text program section own front =
    c.in_ok-push.ensures ∙ ap (λ (p : Typed). old ++ section_text p section own front) c.in_ok-lister.ensures in
    record {
      text = section_put program c.loop-k.k section lt c.index-section.ensures lists code made is c.index.ensures own its text front
          (fronts_same text section (lists_at lists c.loop-k.k) made c.in_ok-places.places c.as_ref.result told c.as_ref.ensures.value done.begins)
          old (rope_text c.push.new.out) put
          ∙ c.loop-k.invariant.text;
      cursor = c.places_of.ensures.same ∙ c.loop-k.invariant.cursor;
    }
