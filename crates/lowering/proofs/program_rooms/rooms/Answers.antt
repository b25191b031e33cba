use Rattle.std.proofs.Common.{◌≡◌, ◌∙◌, ◌<◌, ◌≤◌, length, slice_index, get_or, map, Some, inl, inr, refl, sym, ap}
use Rattle.std.proofs.Common.{subst, arith, ℕ}
use Rattle.std.specs.Prelude.{slice_get}
use Rattle.std.specs.List.{sum_by}
use Rattle.std.proofs.lemmas.List.{length-map}
use Rattle.std.proofs.lemmas.Option.{same_Some, slice_get_read}
use Rattle.core_lang.specs.declared.tree.Section.{Section}
use Rattle.core_lang.specs.declared.typed.Typed.{Typed}
use Rattle.core_lang.specs.Theory.Items.{pushed_at}
use Rattle.locks.specs.declared.path.Root.{Root}
use Rattle.locks.specs.declared.path.Root.TheVariants.{GlobalLock, WholeClass, Local as AtLocal}
use Rattle.locks.specs.LockPaths.{lock_path_of, lock_paths, most_named}
use Rattle.lockpaths.specs.declared.table.Paths.{Paths}
use Rattle.lockpaths.specs.declared.table.SectionPaths.{SectionPaths}
use Rattle.lockpaths.specs.Paths.{AreSectionPaths, ArePaths}
use Rattle.layout.specs.declared.room.Room.{Room}
use Rattle.layout.specs.Layouts.{LayoutOf}
use Rattle.lowering.specs.declared.class_sizes.ClassSizes.{ClassSizes}
use Rattle.lowering.specs.Working.Rooms.{IsRoomOf, cells_from, cells_under}
use Rattle.lowering.specs.Working.Sizes.{AreSizes, cells_by_root, cells_by}
use Rattle.lowering.proofs.Most.{sum_over}
use Rattle.lowering.proofs.program_rooms.rooms.Goals as goal

-- what is known of the lock paths of the section at hand
known : (program : Typed) (paths : Paths) (k : ℕ) (section : Section) (found : SectionPaths) →
    ArePaths program paths → k < length program.sections.items →
    section ≡ get_or program.sections.items k section → found ≡ get_or paths.sections.items k found → AreSectionPaths program section found
known program paths k section found are lt at is =
    are.each k section found (slice_get_read program.sections.items (length program.sections.items) k section refl lt at)
    (slice_get_read paths.sections.items (length paths.sections.items) k found refl (omega (arith, lt, are.sections)) is)

-- by the tables, the cells under a path are those of the layout
by_root : (program : Typed) (layout : LayoutOf) (x : ClassSizes) → AreSizes program layout x → (root : Root) (class : ℕ) →
    cells_by_root x root class ≡ cells_from layout root class
by_root program layout x are GlobalLock class = are.most class
by_root program layout x are (WholeClass s) class = are.all class
by_root program layout x are (AtLocal k) class = are.most class

pub loop-k-preserved : goal.loop-k-preserved
loop-k-preserved c =
    let program = c.args.program.now in
    let layout = c.args.layout.now in
    let here = c.index-section.result.now in
    let found = c.index.result.now in
    let code = c.args.code.now in
    let made = c.index-in-loop-k.result.now in
    let is = c.requires.code.1 in
    let sizes : ClassSizes = c.in_ok-sizes.sizes in
    let room : Room = record { locks = c.in-Some.locks; cells = c.in-Some-cells_under.cells; operands = made.operands; locals = c.len-in-loop-k.result } in
    let lt : c.loop-k.k < length program.sections.items = omega (arith, c.loop-k-test.true, c.len-k-end.ensures, program.sections.ok.0) in
    let are = known program c.args.paths.now c.loop-k.k here found c.requires.paths lt c.index-section.ensures c.index.ensures in
    let there : slice_get program.sections.items c.loop-k.k ≡ Some here =
    slice_get_read program.sections.items (length program.sections.items) c.loop-k.k here refl lt c.index-section.ensures in
    let listed : map lock_path_of found.paths.items ≡ lock_paths program here = are.paths in
    let done : IsRoomOf program layout here room = record {
      locks =
          c.in-Some.ensures
          ∙ sum_over (most_named program.shape) (most_named program.shape) (λ path. refl) c.deref.result.now
          ∙ ap (sum_by (most_named program.shape)) (ap (map lock_path_of) c.deref.ensures.value ∙ listed);
      cells =
          c.in-Some-cells_under.ensures
          ∙ sum_over (cells_by sizes) (cells_under layout) (λ path. by_root program layout sizes c.in_ok-sizes.ensures path.root path.class) c.deref-in-loop-k.result.now
          ∙ ap (sum_by (cells_under layout)) (ap (map lock_path_of) c.deref-in-loop-k.ensures.value ∙ listed);
      operands = (is.each c.loop-k.k here made there (slice_get_read code.sections.items (length program.sections.items) c.loop-k.k made (sym is.long) lt c.index-in-loop-k.ensures)).operands;
      locals = c.len-in-loop-k.ensures ∙ here.locals.ok.0;
    } in
    record {
      long = omega (arith, c.in_ok-push.ensures.len, c.loop-k.invariant.long, c.loop-k.rooms.ok.0, c.push.new.self.ok.0);
      each = λ j section r at e.
          elim (pushed_at c.loop-k.rooms.items room j r (subst (λ l. slice_get l j ≡ Some r) c.in_ok-push.ensures.items e)) [
            | inl old ↦ c.loop-k.invariant.each j section r at old
            | inr new ↦
                let k : j ≡ c.loop-k.k = new.0 ∙ c.loop-k.invariant.long in
                let same : section ≡ here = same_Some section here (sym at ∙ ap (slice_get program.sections.items) k ∙ there) in
                subst (λ m. IsRoomOf program layout section m) new.1 (subst (λ s. IsRoomOf program layout s room) (sym same) done)
          ];
    }
