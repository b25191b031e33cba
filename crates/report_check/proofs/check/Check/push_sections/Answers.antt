use Rattle.std.proofs.Common.{◌≡◌, ℕ, ◌<◌, ◌++◌, ◌∷◌, [], List, Some, map, length, get_or, slice_get, string_bytes}
use Rattle.std.proofs.Common.{refl, sym, ap, ◌∙◌, arith}
use Rattle.std.proofs.Props.{props}
use Rattle.std.proofs.Math.Logic.{∥∥₁_elim}
use Rattle.std.proofs.lemmas.Option.{slice_get_read}
use Rattle.core_lang.specs.declared.tree.Section.{Section}
use Rattle.core_lang.specs.declared.typed.Typed.{Typed}
use Rattle.locks.specs.LockPaths.{lock_path_of, lock_paths}
use Rattle.locks.specs.Texts.{path_text}
use Rattle.lockpaths.specs.declared.table.SectionPaths.{SectionPaths}
use Rattle.lockpaths.specs.declared.table.Paths.{Paths}
use Rattle.lockpaths.specs.Paths.{ArePaths}
use Rattle.report_check.proofs.check.Check.push_sections.Goals as goal

-- a section's paths, as the table has them
table_has : (program : Typed) (paths : Paths) (i : ℕ) (s : Section) (x : SectionPaths) → ArePaths program paths →
    i < length program.sections.items → s ≡ get_or program.sections.items i s → x ≡ get_or paths.sections.items i x →
    map lock_path_of x.paths.items ≡ lock_paths program s
table_has program paths i s x are lt here there =
    let k = length program.sections.items in
    (are.each i s x (slice_get_read program.sections.items k i s refl lt here)
    (slice_get_read paths.sections.items k i x (sym are.sections) lt there)).paths

-- the group that was kept last
last_is : (groups : List (List (List ℕ))) (parts : List (List ℕ)) →
    slice_get (groups ++ parts ∷ []) (length groups) ≡ Some parts
last_is [] parts = refl
last_is (g ∷ gs) parts = last_is gs parts

pub push-requires-clause-paths : goal.push-requires-clause-paths
push-requires-clause-paths c =
    let program = c.args.self.now.program.now in
    let paths = c.args.self.now.paths.now in
    let s = c.section-item.result in
    let x = c.index.result.now in
    let lt : c.loop-i.i < length program.sections.items = omega (arith, c.loop-i-test.true, ap length c.deref-section-items.ensures.value) in
    let here : s ≡ get_or program.sections.items c.loop-i.i s =
    c.section-item.is ∙ ap (λ l. get_or l c.loop-i.i s) c.deref-section-items.ensures.value in
    let listed : map lock_path_of x.paths.items ≡ lock_paths program s =
    ∥∥₁_elim c.args.self.now.are_paths (hlevel props) (λ are. table_has program paths c.loop-i.i s x are lt here c.index.ensures) in
    let texts = c.in_ok-paths.ensures ∙ ap (map (path_text program s)) (ap (map lock_path_of) c.deref-in-loop-i.ensures.value ∙ listed) in
    ap (λ gs. slice_get gs c.in_ok-keep.field-0) c.in_ok-keep.ensures.groups
    ∙ ap (slice_get (c.loop-i.out.groups ++ map string_bytes c.in_ok-paths.paths.items ∷ [])) c.in_ok-keep.ensures.number
    ∙ last_is c.loop-i.out.groups (map string_bytes c.in_ok-paths.paths.items) ∙ ap (λ (ts : List (List ℕ)). Some ts) texts
