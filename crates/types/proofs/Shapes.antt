-- The faults of members, one after another.
use Rattle.std.proofs.Common.{◌≡◌, ℕ, List, ◌∷◌, ◌++◌, refl}
use Rattle.syntax.specs.Trees.{Decl, Member, lock_member, final_member, field_member}
use Rattle.resolution.specs.Working.FaultLists.{member_faults, members_faults}

pub members_one : (decls : List Decl) (i : ℕ) (all : List Member) (m : Member) (ms : List Member) →
    members_faults decls i all (m ∷ ms) ≡ member_faults decls i all m ++ members_faults decls i all ms
members_one decls i all (lock_member x) ms = refl
members_one decls i all (final_member f) ms = refl
members_one decls i all (field_member f) ms = refl
