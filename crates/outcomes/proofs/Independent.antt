-- Threads of different groups touch cells apart, so their calls commute.
use Rattle.std.proofs.Common.{◌≡◌, ◌≢◌, ◌<◌, ◌≤◌, ◌+◌, ℕ, zero, suc, Bool, true, false, List, [], ◌∷◌, Some, None, Option, Result, Ok, Err}
use Rattle.std.proofs.Common.{refl, sym, ap, ◌∙◌, subst, ⊎_elim, inl, inr, length, map, arith, if◌then◌else◌, ◌||◌}
use Rattle.std.specs.Prelude.{slice_get, slice_index, option_map, pos, negsuc, nat_lt}
use Rattle.std.proofs.lemmas.Bool.{cases_lt}
use Rattle.std.proofs.lemmas.Bool.Decides.{nat_tests}
use Rattle.std.proofs.lemmas.Option.{slice_get_within}
use Rattle.bit_set.specs.declared.set.BitSet.{BitSet}
use Rattle.core_lang.specs.declared.value.Value.{Value}
use Rattle.core_lang.specs.declared.value.Value.TheVariants.{Int, Ref}
use Rattle.core_lang.specs.declared.value.Failure.TheVariants.{Trap}
use Rattle.core_lang.specs.declared.value.Trap.TheVariants.{OutOfRange}
use Rattle.core_lang.specs.declared.shape.Array.{Array}
use Rattle.core_lang.specs.declared.tree.Section.{Section}
use Rattle.core_lang.specs.declared.typed.Call.{Call}
use Rattle.core_lang.specs.declared.typed.Cell.{Cell}
use Rattle.core_lang.specs.declared.typed.Thread.{Thread}
use Rattle.core_lang.specs.declared.typed.Typed.{Typed}
use Rattle.core_lang.specs.Cells.{at_index, element_cell}
use Rattle.core_lang.specs.Whole.{Run, run_of}
use Rattle.core_lang.specs.Serial.{Invocation, invocation, run_section, run_call}
use Rattle.core_lang.specs.Expansion.{ArrayData, array_data, IsExpansion}
use Rattle.core_lang.specs.Laws.{WritingOutChangesNothing}
use Rattle.core_lang.specs.WellFormed.{IsChecked}
use Rattle.core_lang.specs.Theory.Items.{map_at, map_back, lookup_some}
use Rattle.outcomes.specs.declared.accesses.AccessWalk.{AccessWalk}
use Rattle.outcomes.specs.declared.marks.TouchMarks.{TouchMarks}
use Rattle.outcomes.specs.declared.touched.Touched.{Touched}
use Rattle.outcomes.specs.Commuting.{call_at, AreIndependent}
use Rattle.outcomes.specs.IndependenceLaws.{In, WritesApart}
use Rattle.outcomes.specs.Working.Listing.{touches, IsListed, AreListed}
use Rattle.outcomes.specs.Working.Touches.{EachWithin}
use Rattle.outcomes.specs.Working.Marking.{has_mark, IsMarked, CallIsMarked, ThreadsAreMarked, owner_mark, array_mark}
use Rattle.outcomes.specs.Working.Marking.{marked, TouchedMore}
use Rattle.std.proofs.Common.{Vec, Global, IfOk}
use Rattle.source.specs.declared.memory.NoMemory.{NoMemory}
use Rattle.outcomes.specs.Working.Grouping.{AreGrouped}
use Rattle.outcomes.proofs.Frame.{with_ok, found_some}
use Rattle.outcomes.proofs.Apart.{IsFramed, none_framed, section_framed, framed_commute}
use Rattle.outcomes.proofs.Listed.{section_from, each_more}
use Rattle.outcomes.proofs.Marked.{past}

-- ---- the calls of a script

mapped_some : {A B : Type 0} (f : A → B) (o : Option A) (b : B) → option_map f o ≡ Some b → (x : A) × (o ≡ Some x) ×
    (f x ≡ b)
mapped_some f None b e = let wrong : ⊥ = cc in absurd wrong
mapped_some f (Some x) b e = (x, refl, cc)

record Scripted (program : Typed) (t j : ℕ) (a : Invocation) : Type 0 where
  thread : Thread
  here : slice_get program.threads.items t ≡ Some thread
  call : Call
  there : slice_get thread.calls.items j ≡ Some call
  is : invocation call ≡ a

scripted : (program : Typed) (t j : ℕ) (a : Invocation) → call_at program t j ≡ Some a → Scripted program t j a
scripted program t j a e =
    let x = lookup_some (slice_get program.threads.items t)
    (λ (thread : Thread). option_map invocation (slice_get thread.calls.items j)) a e in
    let y = mapped_some invocation (slice_get x.0.calls.items j) a x.2 in
    record { thread = x.0; here = x.1; call = y.0; there = y.1; is = y.2 }

body_at : (bodies : List AccessWalk) (sections : List Section) (k : ℕ) (section : Section) → AreListed bodies sections →
    slice_get sections k ≡ Some section → (body : AccessWalk) × (slice_get bodies k ≡ Some body) × IsListed body section
body_at [] [] k section are e = let wrong : ⊥ = cc in absurd wrong
body_at [] (s ∷ ss) k section are e = absurd are
body_at (b ∷ bs) [] k section are e = absurd are
body_at (b ∷ bs) (s ∷ ss) zero section are e = let same : s ≡ section = cc in (b, refl, subst (IsListed b) same are.0)
body_at (b ∷ bs) (s ∷ ss) (suc k) section are e = body_at bs ss k section are.1 e

-- ---- the cells of an array

index_if : (first count i cell : ℕ) (b : Bool) → nat_lt i count ≡ b →
    (if b then Ok (first + i) else Err (Trap OutOfRange)) ≡ Ok cell →
    (k : ℕ) × (k < count) × (cell ≡ first + k)
index_if first count i cell true lt e = (i, grind (arith, nat_tests), cc)
index_if first count i cell false lt e = let wrong : ⊥ = cc in absurd wrong

index_of : (first count : ℕ) (v : Value) (cell : ℕ) → at_index first count v ≡ Ok cell → (k : ℕ) × (k < count) ×
    (cell ≡ first + k)
index_of first count (Int (pos i)) cell e = index_if first count i cell (nat_lt i count) refl e
index_of first count (Int (negsuc i)) cell e = let wrong : ⊥ = cc in absurd wrong
index_of first count (Ref r) cell e = let wrong : ⊥ = cc in absurd wrong

or_left : (a b : Bool) → a ≡ true → (a || b) ≡ true
or_left a b e = ap (λ x. x || b) e

or_right : (a b : Bool) → b ≡ true → (a || b) ≡ true
or_right true b e = refl
or_right false b e = e

none_of : (b : Bool) → (b ≡ true → ⊥) → b ≡ false
none_of true h = absurd (h refl)
none_of false h = refl

framed_same : (Read Write : ℕ → Type 0) (f g : List Value → Run) → ((heap : List Value) → f heap ≡ g heap) →
    IsFramed Read Write g →
    IsFramed Read Write f
framed_same Read Write f g same framed heap heap' finished reads writes e =
    let x = framed heap heap' finished reads writes (sym (same heap) ∙ e) in
    record {
      other = x.other;
      over = same heap' ∙ x.over;
      ends = x.ends;
      reads = x.reads;
      writes = x.writes;
      kept =
          x.kept;
      kept' = x.kept';
    }

framed_of : (program : Typed) (n : ℕ) (arguments : List Value) (Read Write : ℕ → Type 0) (o : Option Section) →
    ((section : Section) → o ≡ Some section → IsFramed Read Write (run_of section program.shape n arguments)) →
    IsFramed Read Write (run_section o program n arguments)
framed_of program n arguments Read Write None is = none_framed Read Write
framed_of program n arguments Read Write (Some section) is = is section refl

module _ (program written : Typed) (checked : IsChecked program) (expansion : IsExpansion program written) where
  element_owner : (array cell : ℕ) (v : Value) (arrays : List BitSet) (thread : ℕ) →
      element_cell written.shape array v ≡ Ok cell →
      array_mark (slice_get program.cells.items cell) arrays thread ≡ has_mark arrays array thread
  element_owner array cell v arrays thread e =
      let a = with_ok _ (λ (a : Array). at_index a.first a.length v) cell e in
      let there = found_some (slice_get written.shape.arrays.items array) a.0 a.1 in
      let k = index_of a.0.first a.0.length v cell a.2 in
      let same : slice_get (map array_data program.shape.arrays.items) array ≡ Some (array_data a.0) =
      ap (λ l. slice_get l array) (sym expansion.places.arrays) ∙ map_at array_data written.shape.arrays.items array
      a.0 there in
      let x = map_back array_data program.shape.arrays.items array (array_data a.0) same in
      let first : x.0.first ≡ a.0.first = ap (λ (d : ArrayData). d.first) x.2 in
      let count : x.0.length ≡ a.0.length = ap (λ (d : ArrayData). d.count) x.2 in
      let is = checked.laid_out.array array x.0 x.1 k.0 (omega (arith, k.1, count)) in
      let at : cell ≡ x.0.first + k.0 = omega (arith, k.2, first) in
      ap (λ c. array_mark (slice_get program.cells.items c) arrays thread) at
      ∙ ap (λ o. array_mark o arrays thread) is.here ∙ ap (λ o. owner_mark o arrays thread) is.owned

  marked_in : (marks : TouchMarks) (thread cell : ℕ) → IsMarked written.shape marks thread cell →
      In (marked program.cells.items marks thread) cell
  marked_in marks thread cell (inl is) = or_left (has_mark marks.cells.items cell thread) _ is
  marked_in marks thread cell (inr (array, v, e, is)) =
      or_right (has_mark marks.cells.items cell thread) _ (element_owner array cell v marks.arrays.items thread e ∙ is)

  module _ (law : WritingOutChangesNothing) (bodies : List AccessWalk) (listed : AreListed bodies written.sections.items)
      (touched : Touched)
      (marks : ThreadsAreMarked written.shape bodies touched program.threads.items (length program.threads.items)) where
    abbrev Reads : ℕ → ℕ → Type 0
    Reads t = In (marked program.cells.items touched.reads t)

    abbrev Writes : ℕ → ℕ → Type 0
    Writes t = In (marked program.cells.items touched.writes t)

    called_framed : (n t : ℕ) (call : Call) → CallIsMarked written.shape bodies touched t call → (section : Section) →
        slice_get program.sections.items call.section ≡ Some section →
        IsFramed (Reads t) (Writes t) (run_of section program.shape n call.arguments.items)
    called_framed n t call is section here =
        let out = expansion.there call.section section here in
        let body = body_at bodies written.sections.items call.section out.0 listed out.1 in
        let own = is body.0 body.1 in
        let many : length call.arguments.items ≡ section.parameters = own.0 ∙ body.2.parameters ∙ out.2.parameters in
        let each = each_more written.shape call.arguments.items (IsMarked written.shape touched.reads t)
        (IsMarked written.shape touched.writes t) (Reads t) (Writes t)
        (λ c m. marked_in touched.reads t c m) (λ c m. marked_in touched.writes t c m)
        (touches body.0.accesses.items) own.1 in
        let within = section_from written.shape call.arguments.items (Reads t) (Writes t) out.0
        (subst (EachWithin written.shape call.arguments.items (Reads t) (Writes t)) body.2.accesses each) in
        framed_same (Reads t) (Writes t) (run_of section program.shape n call.arguments.items)
        (run_of out.0 written.shape n call.arguments.items)
        (λ heap. law program.shape written.shape section out.0 expansion.places out.2 n call.arguments.items heap many)
        (section_framed out.0 written.shape n call.arguments.items (Reads t) (Writes t) within)

    script_framed : (n t j : ℕ) (a : Invocation) → call_at program t j ≡ Some a →
        IsFramed (Reads t) (Writes t) (run_call program n a)
    script_framed n t j a e =
        let x = scripted program t j a e in
        let is = marks t x.thread (slice_get_within program.threads.items t x.thread x.here) x.here j x.call x.there in
        subst (λ b. IsFramed (Reads t) (Writes t) (run_call program n b)) x.is
        (framed_of program n x.call.arguments.items (Reads t) (Writes t)
        (slice_get program.sections.items x.call.section) (called_framed n t x.call is))

    module _ (groups : List ℕ) (long : length groups ≡ length program.threads.items)
        (cells : length touched.writes.cells.items ≡ length program.cells.items)
        (grouped : AreGrouped program.cells.items touched groups (length program.cells.items)) where
      cell_there : (t c : ℕ) → marked program.cells.items touched.writes t c ≡ true → c < length program.cells.items
      cell_there t c w =
          ⊎_elim (λ (lt : c < length program.cells.items). lt)
          (λ (le : length program.cells.items ≤ c).
          let le' : length touched.writes.cells.items ≤ c = omega (arith, le, cells) in
          let none = past touched.writes.cells.items c le' in
          let nor = past program.cells.items c le in
          let wrong : ⊥ = cc in absurd wrong)
          (cases_lt c (length program.cells.items))

      apart : (t u : ℕ) → t < length groups → u < length groups → slice_index groups t ≢ slice_index groups u →
          WritesApart (marked program.cells.items touched.writes t) (marked program.cells.items touched.reads u)
          (marked program.cells.items touched.writes u)
      apart t u lt lt' differ c w =
          let reads = marked program.cells.items touched.reads u c in
          let writes = marked program.cells.items touched.writes u c in
          let within = cell_there t c w in (
            none_of reads (λ r. differ (grouped c t u within lt lt' w (or_left reads writes r))),
            none_of writes (λ r. differ (grouped c t u within lt lt' w (or_right reads writes r))),
          )

      thread_there : (t j : ℕ) (a : Invocation) → call_at program t j ≡ Some a → t < length groups
      thread_there t j a e =
          let x = scripted program t j a e in
          let lt = slice_get_within program.threads.items t x.thread x.here in omega (arith, lt, long)

      pub independent : AreIndependent program groups
      independent = record {
        threads = long;
        commute = λ n t u j k a b differ e e'.
            let lt = thread_there t j a e in
            let lt' = thread_there u k b e' in
            framed_commute program n a b (marked program.cells.items touched.reads t)
            (marked program.cells.items touched.writes t)
            (marked program.cells.items touched.reads u) (marked program.cells.items touched.writes u)
            (script_framed n t j a e) (script_framed n u k b e') (apart t u lt lt' differ)
            (apart u t lt' lt (λ same. differ (sym same)));
      }

-- threads that are all in one group are independent
pub all_together : (program : Typed) (groups : List ℕ) → length groups ≡ length program.threads.items →
    ((t : ℕ) → slice_index groups t ≡ 0) → AreIndependent program groups
all_together program groups long zeros = record {
  threads = long;
  commute = λ n t u j k a b differ e e'. absurd (differ (zeros t ∙ sym (zeros u)));
}

if_ok : {A E : Type 0} (P Q : A → Type 0) (r : Result A E) → ((x : A) → P x → Q x) → IfOk r P → IfOk r Q
if_ok P Q (Ok x) f h = f x h
if_ok P Q (Err e) f h = h

-- the groups that the code ends with, from the lists that it goes through
pub grouped_independent : (program written : Typed) (sections : List Section) (bodies own : List AccessWalk)
    (threads : List Thread) (cells : List Cell)
    (count : ℕ) (begun touched : Touched) (r : Result (Vec ℕ Global) NoMemory) →
    IsChecked program → IsExpansion program written → WritingOutChangesNothing → sections ≡ written.sections.items →
    own ≡ bodies →
    threads ≡ program.threads.items → cells ≡ program.cells.items → count ≡ length program.threads.items →
    AreListed bodies sections →
    TouchedMore begun touched → length begun.writes.cells.items ≡ length program.cells.items →
    ThreadsAreMarked written.shape own touched threads (length threads) →
    IfOk r (λ groups. (length groups.items ≡ count) × AreGrouped cells touched groups.items (length cells)) →
    IfOk r (λ groups. AreIndependent program groups.items)
grouped_independent program written sections bodies own threads cells count begun touched r checked expansion law
    all_sections all_bodies all_threads
    all_cells counted listed more long marks ended =
    let listed' = subst (AreListed bodies) all_sections listed in
    let marks' = subst (λ l. ThreadsAreMarked written.shape l touched threads (length threads)) all_bodies marks in
    let marks'' = subst (λ l. ThreadsAreMarked written.shape bodies touched l (length l)) all_threads marks' in
    if_ok (λ groups. (length groups.items ≡ count) × AreGrouped cells touched groups.items (length cells))
    (λ groups. AreIndependent program groups.items) r
    (λ groups h. independent program written checked expansion law bodies listed' touched marks'' groups.items
    (h.0 ∙ counted) (more.1.0.0 ∙ long)
    (subst (λ l. AreGrouped l touched groups.items (length l)) all_cells h.1)) ended
