-- The paths listed before a point, by rank: each is wanted there, and its rank is at most that of a path that is used
-- there.
use Rattle.std.proofs.Common.{◌≡◌, ℕ, ◌<◌, ◌≤◌, List, [], length, Some, ◌⊎◌, inl, inr, refl, sym, ap, ◌∙◌, subst, arith}
use Rattle.std.specs.Prelude.{slice_get, slice_index}
use Rattle.std.proofs.lemmas.Option.{same_Some, slice_get_within, slice_get-get_or}
use Rattle.core_lang.specs.declared.value.Value.{Value}
use Rattle.core_lang.specs.declared.tree.Section.{Section}
use Rattle.core_lang.specs.declared.typed.Typed.{Typed}
use Rattle.flow.specs.Skeletons.{skeleton}
use Rattle.flow.specs.Flow.{Before}
use Rattle.flow.specs.Points.{points}
use Rattle.locks.specs.declared.lock.Lock.{Lock}
use Rattle.locks.specs.LockPaths.{LockPath, lock_paths, Names, Uses, BindsRoot}
use Rattle.locks.specs.Theory.Naming.{named_class}
use Rattle.locks.specs.Working.Laws.{UsedAreInScope, ScopeOfPathsGoesBack, PathsHaveClasses, UsedAreListed}
use Rattle.points.specs.Used.{IsUsedLater}
use Rattle.points.specs.Wanted.{rank_of, IsWanted}
use Rattle.inserter.specs.Placement.{IsPath, IsDue}
use Rattle.inserter.specs.Working.Runs.{IsListed}
use Rattle.inserter.specs.Working.Laws.{IsOrdered}

-- the laws of lock paths that are used
pub record PathLaws : Type 0 where
  pub in_scope : UsedAreInScope
  pub scope_back : ScopeOfPathsGoesBack
  pub classes : PathsHaveClasses
  pub listed : UsedAreListed

module _ (laws : PathLaws) (program : Typed) (section : Section) (ranks : List ℕ) (lists : List (List ℕ)) (ok : IsOrdered program section ranks lists) where
  pub named_rank : (path : LockPath) (locals : List Value) (l : Lock) →
      Names path program.shape locals l → slice_index ranks l.class ≡ rank_of ranks path
  named_rank path locals l e = ap (λ c. slice_index ranks c) (named_class path program.shape locals l e)

  has_rank : (p : ℕ) (path : LockPath) → Uses program section p path →
      slice_get ranks path.class ≡ Some (rank_of ranks path)
  has_rank p path u =
      let c = laws.classes program section p path ok.well_formed u in
      let lt : path.class < length ranks = omega (arith, slice_get_within program.classes.items path.class c.0 c.1, ok.ranked.long) in
      slice_get-get_or ranks path.class 0 lt

  -- a path that is used at a point has a lesser rank than one whose root is bound there or later
  pub rises : (p b user : ℕ) (a path : LockPath) → Uses program section p a → Uses program section user path →
      BindsRoot section b path →
      (p ≡ b) ⊎ Before (skeleton section) p b → rank_of ranks a < rank_of ranks path
  rises p b user a path u v binds order =
      ok.rise a.class path.class (rank_of ranks a) (rank_of ranks path)
      (ok.here.0, p, b, record { section = section; here = ok.here.1; uses = (a, u, refl); binds = (path, user, v, binds, refl); order = order })
      (has_rank p a u) (has_rank user path v)

  pub somewhere : (p : ℕ) (path : LockPath) → Uses program section p path ⊎ IsUsedLater program section p path →
      (user : ℕ) × Uses program section user path
  somewhere p path (inl u) = (p, u)
  somewhere p path (inr later) = (later.0, later.2)

  pub used_wanted : (p : ℕ) (path : LockPath) → Uses program section p path → IsWanted program section ranks p path
  used_wanted p path u = record {
    in_scope = laws.in_scope program section p path ok.well_formed ok.here u;
    ahead = inl u;
    below = (path, u, omega arith);
  }

  -- ---- listed paths

  pub number_of : (user : ℕ) (path : LockPath) → Uses program section user path →
      (i : ℕ) × IsPath program section i path
  number_of user path u =
      let c = (laws.listed program section path).1 (user, u) in
      (c.0, slice_get-get_or (lock_paths program section) c.0 path c.1 ∙ ap Some c.2)

  pub listed_wanted : (p : ℕ) (locals : List Value) (l : Lock) (x : IsListed program section ranks lists p locals l) →
      IsWanted program section ranks p x.path
  listed_wanted p locals l x =
      let y = ok.allowed.only p x.number x.list x.here x.listed in
      subst (λ (path : LockPath). IsWanted program section ranks p path) (same_Some y.0 x.path (sym y.1 ∙ x.is_path)) y.2

  pub listed_below : (p : ℕ) (locals : List Value) (l : Lock) → IsListed program section ranks lists p locals l →
      (a : LockPath) × Uses program section p a × (slice_index ranks l.class ≤ rank_of ranks a)
  listed_below p locals l x =
      let b = (listed_wanted p locals l x).below in
      (b.0, b.1, omega (arith, b.2, named_rank x.path locals l x.named))

  -- each lock of a path that is due is listed
  pub due_listed : (p : ℕ) (path : LockPath) (locals : List Value) (l : Lock) → IsDue program section ranks p path →
      Names path program.shape locals l → IsListed program section ranks lists p locals l
  due_listed p path locals l due e =
      let u = due.wanted.below.1 in
      let lt : p < length lists = omega (arith, slice_get_within (points section) p u.0 u.1, ok.allowed.long) in
      let here = slice_get-get_or lists p [] lt in
      let user = somewhere p path due.wanted.ahead in
      let i = number_of user.0 path user.1 in
      record {
        list = _;
        number = i.0;
        path = path;
        here = here;
        listed = ok.allowed.all p i.0 _ path here i.1 due;
        is_path = i.1;
        named = e;
      }
