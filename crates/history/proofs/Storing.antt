-- Entries whose lists stand in the arrays, and one more entry.
use Rattle.std.proofs.Common.{◌≡◌, ◌+◌, ◌-◌, List, [], ◌∷◌, ◌++◌, length, take, drop, length-append, length-drop}
use Rattle.std.proofs.Common.{refl, ap, ◌∙◌, subst, sym, arith}
use Rattle.std.specs.List.{All}
use Rattle.std.proofs.lemmas.List.{map-append, drop-append-le, take-append-le, drop_at, take_all}
use Rattle.std.proofs.lemmas.List.Elements.{All-head, All-tail, All-push, All-weaker, All-same}
use Rattle.history.specs.Commits.{Commit}
use Rattle.history.specs.Working.Histories.{PromisedOf}
use Rattle.history.specs.Working.Arrays.{ListsOf}
use Rattle.history.specs.Working.Lists.{part_of, IsPart, part_behind, packed_commit, packed_behind, with_lists}
use Rattle.history.specs.Working.Lists.{commits_in, IsPacked}
use Rattle.history.specs.declared.lists.Part.{Part}
use Rattle.history.specs.declared.lists.Packed.{Packed}

-- ---- one list

part_stays : {A : Type 0} (xs ys : List A) (p : Part) → IsPart (length xs) p → part_of (xs ++ ys) p ≡ part_of xs p
part_stays xs ys p is =
    ap (take (p.end - p.begin)) (drop-append-le p.begin xs ys (omega (arith, is.forward, is.within)))
    ∙ take-append-le (p.end - p.begin) (drop p.begin xs) ys (omega (arith, is.forward, is.within, length-drop p.begin xs))

part_there : {A : Type 0} (xs ys : List A) → part_of (xs ++ ys) (part_behind xs ys) ≡ ys
part_there xs ys =
    ap (take (length xs + length ys - length xs)) (drop_at xs ys (length xs) refl)
    ∙ take_all (length xs + length ys - length xs) ys (omega arith)

is_part_still : {A : Type 0} (xs ys : List A) (p : Part) → IsPart (length xs) p → IsPart (length (xs ++ ys)) p
is_part_still xs ys p is = record { forward = is.forward; within = omega (arith, is.within, length-append xs ys) }

is_part_behind : {A : Type 0} (xs ys : List A) → IsPart (length (xs ++ ys)) (part_behind xs ys)
is_part_behind xs ys = record { forward = omega arith; within = omega (arith, length-append xs ys) }

-- ---- one entry

packed_stays : (lists : ListsOf) (c : Commit) (less : PromisedOf) (p : Packed) → IsPacked lists p →
    packed_commit (with_lists lists c less) p ≡ packed_commit lists p
packed_stays lists c less p is =
    let arguments = part_stays lists.arguments c.arguments p.arguments is.arguments in
    let reads = part_stays lists.reads c.reads p.reads is.reads in
    let writes = part_stays lists.writes c.writes p.writes is.writes in
    let prints = part_stays lists.prints c.prints p.prints is.prints in
    λ i. record {
      thread = p.thread;
      step = p.step;
      section = p.section;
      arguments = arguments i;
      begun = p.begun;
      reads = reads i;
      writes = writes i;
      outcome = p.outcome;
      prints = prints i;
    }

packed_there : (lists : ListsOf) (c : Commit) (less : PromisedOf) →
    packed_commit (with_lists lists c less) (packed_behind lists c) ≡ c
packed_there lists c less =
    let arguments = part_there lists.arguments c.arguments in
    let reads = part_there lists.reads c.reads in
    let writes = part_there lists.writes c.writes in
    let prints = part_there lists.prints c.prints in
    λ i. record c { arguments = arguments i; reads = reads i; writes = writes i; prints = prints i }

is_packed_still : (lists : ListsOf) (c : Commit) (less : PromisedOf) (p : Packed) → IsPacked lists p →
    IsPacked (with_lists lists c less) p
is_packed_still lists c less p is = record {
  arguments = is_part_still lists.arguments c.arguments p.arguments is.arguments;
  reads = is_part_still lists.reads c.reads p.reads is.reads;
  writes = is_part_still lists.writes c.writes p.writes is.writes;
  prints = is_part_still lists.prints c.prints p.prints is.prints;
}

is_packed_behind : (lists : ListsOf) (c : Commit) (less : PromisedOf) →
    IsPacked (with_lists lists c less) (packed_behind lists c)
is_packed_behind lists c less = record {
  arguments = is_part_behind lists.arguments c.arguments;
  reads = is_part_behind lists.reads c.reads;
  writes = is_part_behind lists.writes c.writes;
  prints = is_part_behind lists.prints c.prints;
}

-- ---- all of them

packed_stay : (lists : ListsOf) (c : Commit) (less : PromisedOf) (ps : List Packed) → All (IsPacked lists) ps →
    commits_in (with_lists lists c less) ps ≡ commits_in lists ps
packed_stay lists c less [] all = refl
packed_stay lists c less (p ∷ ps) all =
    let first = packed_stays lists c less p (All-head (IsPacked lists) p ps all) in
    let rest = packed_stay lists c less ps (All-tail (IsPacked lists) p ps all) in
    λ i. first i ∷ rest i

module _ (lists new : ListsOf) (ps ps' : List Packed) (p : Packed) (c : Commit)
    (there : All (IsPacked lists) ps) (is : p ≡ packed_behind lists c) (lists_are : new ≡ with_lists lists c new.promised) (one_more : ps' ≡ ps ++ p ∷ []) where
  one_more_behind : ps' ≡ ps ++ packed_behind lists c ∷ []
  one_more_behind = one_more ∙ ap (λ q. ps ++ q ∷ []) is

  pub packed_one_more : All (IsPacked new) ps'
  packed_one_more =
      subst (λ (l : ListsOf). All (IsPacked l) ps') (sym lists_are)
      (All-same (IsPacked (with_lists lists c new.promised)) ps' (ps ++ packed_behind lists c ∷ []) one_more_behind
      (All-push (IsPacked (with_lists lists c new.promised)) ps (packed_behind lists c)
      (All-weaker (IsPacked lists) (IsPacked (with_lists lists c new.promised)) (is_packed_still lists c new.promised) ps there)
      (is_packed_behind lists c new.promised)))

  pub commits_one_more : commits_in new ps' ≡ commits_in lists ps ++ c ∷ []
  commits_one_more =
      let before = packed_stay lists c new.promised ps there in
      let last = packed_there lists c new.promised in
      (λ i. commits_in (lists_are i) (one_more_behind i)) ∙ map-append (packed_commit (with_lists lists c new.promised)) ps (packed_behind lists c ∷ [])
      ∙ (λ i. before i ++ last i ∷ [])
