-- From a point before which a path is listed, control comes to no point that binds the path's root.
use Rattle.std.proofs.Common.{◌≡◌, ◌<◌, ◌≤◌, ℕ, List, Some, slice_get, refl, sym, ◌∙◌, subst, arith}
use Rattle.std.specs.Prelude.{slice_index}
use Rattle.std.proofs.lemmas.Option.{same_Some, slice_get_within, get_or_from_slice_get}
use Rattle.core_lang.specs.declared.tree.Section.{Section}
use Rattle.core_lang.specs.declared.typed.Typed.{Typed}
use Rattle.core_lang.specs.WellFormed.{IsWellFormed}
use Rattle.core_lang.specs.Theory.Items.{at_contained, contains_at}
use Rattle.locks.specs.LockPaths.{LockPath, lock_paths, Uses}
use Rattle.lockorder.specs.Edges.{Edge, AreRanksOf}
use Rattle.c_threads.specs.LockClaims.{ListedRootsStay}
use Rattle.c_threads.proofs.Taking.{TakingLaws, list_due}

-- the rank of the class of a used path
rank_there : TakingLaws → (program : Typed) (section : Section) (ranks : List ℕ) → IsWellFormed program →
    AreRanksOf program ranks → (p : ℕ) (path : LockPath) → Uses program section p path →
    (r : ℕ) × (slice_get ranks path.class ≡ Some r) × (slice_index ranks path.class ≡ r)
rank_there laws program section ranks well ok p path uses =
    let class = laws.classes program section p path well uses in
    let less = slice_get_within program.classes.items path.class class.0 class.1 in
    let at = at_contained ok.list path.class (ok.is_list.all path.class less) in
    let here = ok.places at.0 path.class at.1 in
    (at.0, here, get_or_from_slice_get ranks path.class at.0 0 here)

pub listed_roots_stay : TakingLaws → ListedRootsStay
listed_roots_stay laws plan k point later i section path ok is listed is_path order binds =
    let program = plan.program in
    let due = list_due plan ok k point section is i listed in
    let same : due.0 ≡ path = same_Some due.0 path (sym due.1 ∙ is_path) in
    let wanted = due.2.wanted in
    let other = wanted.below.0 in
    let used = wanted.below.1 in
    let user = (laws.listed program section path).0 (contains_at (lock_paths program section) i path is_path) in
    let edge : Edge program other.class path.class = (
      k,
      point,
      later,
      record {
        section = section;
        here = is;
        uses = (other, used, refl);
        binds = (path, user.0, user.1, binds, refl);
        order = order;
      },
    ) in
    let one = rank_there laws program section plan.ranks ok.well_formed ok.ranked point other used in
    let two = rank_there laws program section plan.ranks ok.well_formed ok.ranked user.0 path user.1 in
    let rises : one.0 < two.0 = ok.rise other.class path.class one.0 two.0 edge one.1 two.1 in
    let below : slice_index plan.ranks path.class ≤ slice_index plan.ranks other.class =
    subst (λ (p : LockPath). slice_index plan.ranks p.class ≤ slice_index plan.ranks other.class) same wanted.below.2 in
    let ranked = one.2 in
    let ranked_too = two.2 in
    omega (arith, rises, below, ranked, ranked_too)
