-- At most one verdict holds.
use Rattle.std.proofs.Common.{◌≡◌, ◌∙◌, ℕ, suc, false, List, [], ◌∷◌, ◌++◌, length, drop, Some, arith, sym, ap, refl}
use Rattle.std.proofs.Common.{subst, append-nil}
use Rattle.core_lang.specs.declared.typed.Typed.{Typed}
use Rattle.core_lang.specs.Serial.{Scheduled, run_call}
use Rattle.core_lang.specs.Whole.{Finished, Over, Beyond_turns}
use Rattle.core_lang.specs.WellFormed.{IsChecked}
use Rattle.input_files.specs.declared.format.Format.{Format}
use Rattle.input_files.specs.Pieces.{before, count_in}
use Rattle.report.specs.Entry.{scheduled_in}
use Rattle.replay.specs.declared.verdict.Verdict.TheVariants.{Same, Differs, Unsettled}
use Rattle.replay.specs.Readers.{Reader, opened, Comes, due, call, cells, Come, CallComes, IsNextCall, IsUnsettled}
use Rattle.replay.specs.Readers.{calls_by, next_call, finished_as, print_lines}
use Rattle.replay.specs.declared.callers.Callers.{Callers}
use Rattle.replay.specs.declared.callers.Callers.TheVariants.{Scripts, Anyone}
use Rattle.replay.proofs.Nexts.{next_thread, call_told}
use Rattle.replay.specs.Verdicts.{HasEnded, Stops, IsSame, IsDiffering, IsBeyond}
use Rattle.replay.specs.Working.Laws.{AtMostOneVerdict}
use Rattle.replay.proofs.Heads.{thread_head, head_not_cells}

-- two next calls of one thread whose lines are read alike are the same
same_next : (callers : Callers) (format : Format) (program : Typed) (order text : _) (s t : Scheduled) (begun other : ℕ) (end tail : List ℕ) →
    IsNextCall callers format program order text s begun end → IsNextCall callers format program order text t other tail →
    s.thread ≡ t.thread → s ≡ t
same_next Scripts format program order text s t begun other end tail p q thread =
    let same : Some s ≡ Some t = sym p.next ∙ ap (next_call program order) thread ∙ q.next in
    cc
same_next Anyone format program order text s t begun other end tail p q thread =
    let told : Some s.call ≡ Some t.call = sym (call_told format program order text s begun end p) ∙ call_told format program order text t other tail q in
    let call : s.call ≡ t.call = cc in
    let step : s.step ≡ t.step = p.next.counted ∙ ap (λ u. calls_by u order) thread ∙ sym q.next.counted in
    ap (λ u. record { thread = u; step = s.step; call = s.call }) thread
    ∙ ap (λ k. record { thread = t.thread; step = k; call = s.call }) step
    ∙ ap (λ c. record { thread = t.thread; step = t.step; call = c }) call

module _ (turns : ℕ) (callers : Callers) (format : Format) (program : Typed) (well : IsChecked program) where
  thread_told : (order text : _) (s : Scheduled) (begun : ℕ) (end : List ℕ) →
      IsNextCall callers format program order text s begun end →
      count_in (before 32 (drop 5 text)) ≡ Some s.thread
  thread_told order text s begun end next =
      let few = next_thread callers program order s well next.next in
      ap (λ x. count_in (before 32 (drop 5 x))) next.told ∙ thread_head format program s begun end few

  same_thread : (order text : _) (s t : Scheduled) (begun other : ℕ) (end tail : List ℕ) →
      IsNextCall callers format program order text s begun end →
      IsNextCall callers format program order text t other tail → s.thread ≡ t.thread
  same_thread order text s t begun other end tail p q =
      let e : Some s.thread ≡ Some t.thread = sym (thread_told order text s begun end p) ∙ thread_told order text t other tail q in
      cc

  -- a line is the line of at most one call
  same_call : (order text : _) (s t : Scheduled) (begun other : ℕ) (end tail : List ℕ) →
      IsNextCall callers format program order text s begun end →
      IsNextCall callers format program order text t other tail → s ≡ t
  same_call order text s t begun other end tail p q =
      same_next callers format program order text s t begun other end tail p q (same_thread order text s t begun other end tail p q)

  calls_are_one : (reader a b : Reader) (text : List ℕ) → CallComes turns callers format program reader a text →
      CallComes turns callers format program reader b text → a ≡ b
  calls_are_one reader a b text p q =
      let same = same_call reader.order text (scheduled_in p.entry) (scheduled_in q.entry) p.entry.begun q.entry.begun _ _ p.next q.next in
      let e : Over (finished_as p.entry p.heap) ≡ Over (finished_as q.entry q.heap) =
      sym p.settled ∙ ap (λ (s : Scheduled). run_call program turns s.call reader.heap) same ∙ q.settled in
      let ends : finished_as p.entry p.heap ≡ finished_as q.entry q.heap = cc in
      p.leads
      ∙ ap (λ (z : ℕ × Finished). record { order = reader.order ++ z.0 ∷ []; heap = z.1.heap; due = print_lines z.1.prints; closed = false })
      (both (ap (λ (s : Scheduled). s.thread) same) ends)
      ∙ sym q.leads
    where
      both : {A B : Type 0} {a a' : A} {b b' : B} → a ≡ a' → b ≡ b' → ◌≡◌ {A = A × B} (a, b) (a', b')
      both {A} {B} {a} {a'} {b} {b'} e f = ap (λ x. (x, b)) e ∙ ap (λ y. (a', y)) f

  pub comes_is_one : (reader a b : Reader) (text : List ℕ) → Comes turns callers format program reader a text →
      Comes turns callers format program reader b text → a ≡ b
  comes_is_one reader a b text (due p) (due q) =
      let e = sym p.is_due ∙ q.is_due in
      let same : p.more ≡ q.more = cc in
      p.leads ∙ ap (λ more. record reader { due = more }) same ∙ sym q.leads
  comes_is_one reader a b text (due p) (call q) = let e = sym q.among.none_due ∙ p.is_due in absurd (cc)
  comes_is_one reader a b text (due p) (cells q) = let e = sym q.among.none_due ∙ p.is_due in absurd (cc)
  comes_is_one reader a b text (call p) (due q) = let e = sym p.among.none_due ∙ q.is_due in absurd (cc)
  comes_is_one reader a b text (call p) (call q) = calls_are_one reader a b text p q
  comes_is_one reader a b text (call p) (cells q) =
      absurd (head_not_cells format program (scheduled_in p.entry) p.entry.begun _ (sym q.is_cells ∙ p.next.told))
  comes_is_one reader a b text (cells p) (due q) = let e = sym p.among.none_due ∙ q.is_due in absurd (cc)
  comes_is_one reader a b text (cells p) (call q) =
      absurd (head_not_cells format program (scheduled_in q.entry) q.entry.begun _ (sym p.is_cells ∙ q.next.told))
  comes_is_one reader a b text (cells p) (cells q) = p.leads ∙ sym q.leads

  -- a line that may come is not that of a call that the turns don't settle
  pub unsettled_comes : (reader after : Reader) (text : List ℕ) → IsUnsettled turns callers format program reader text →
      Comes turns callers format program reader after text → ⊥
  unsettled_comes reader after text u (due p) = let e = sym u.among.none_due ∙ p.is_due in absurd (cc)
  unsettled_comes reader after text u (cells p) = head_not_cells format program u.this u.begun u.end (sym p.is_cells ∙ u.next.told)
  unsettled_comes reader after text u (call p) =
      let same = same_call reader.order text u.this (scheduled_in p.entry) u.begun p.entry.begun u.end _ u.next p.next in
      let e : Beyond_turns ≡ Over (finished_as p.entry p.heap) =
      sym u.beyond ∙ ap (λ (s : Scheduled). run_call program turns s.call reader.heap) same ∙ p.settled in
      absurd (cc)

  -- ---- where a reader stops

  -- none of the remaining lines may come
  abbrev IsBlocked : Reader → List (List ℕ) → Type 0
  IsBlocked reader [] = Unit {0}
  IsBlocked reader (text ∷ more) = (after : Reader) → Comes turns callers format program reader after text → ⊥

  one_stop : (start : Reader) (lines first other rest tail : List (List ℕ)) (x y : Reader) → lines ≡ first ++ rest →
      lines ≡ other ++ tail →
      Come turns callers format program start first x → Come turns callers format program start other y → IsBlocked x rest → IsBlocked y tail →
      (length first ≡ length other) × (x ≡ y) × (rest ≡ tail)
  one_stop start lines [] [] rest tail x y p q came there blocked stuck = (refl, sym came ∙ there, sym p ∙ q)
  one_stop start lines [] (text ∷ other) rest tail x y p q came there blocked stuck =
      let blocked_here : IsBlocked start (text ∷ (other ++ tail)) = subst (λ r. IsBlocked r (text ∷ (other ++ tail))) (sym came) (subst (IsBlocked x) (sym p ∙ q) blocked) in
      absurd (blocked_here there.0 there.1)
  one_stop start lines (text ∷ first) [] rest tail x y p q came there blocked stuck =
      let stuck_here : IsBlocked start (text ∷ (first ++ rest)) = subst (λ r. IsBlocked r (text ∷ (first ++ rest))) (sym there) (subst (IsBlocked y) (sym q ∙ p) stuck) in
      absurd (stuck_here came.0 came.1)
  one_stop start lines (text ∷ first) (word ∷ other) rest tail x y p q came there blocked stuck =
      let e = sym p ∙ q in
      let same : text ≡ word = cc in
      let more : first ++ rest ≡ other ++ tail = cc in
      let middle = comes_is_one start came.0 there.0 text came.1 (subst (λ w. Comes turns callers format program start there.0 w) (sym same) there.1) in
      let found = one_stop there.0 (first ++ rest) first other rest tail x y refl more
      (subst (λ r. Come turns callers format program r first x) middle came.2) there.2 blocked stuck in
      (ap suc found.0, found.1, found.2)

  other_blocks : (reader : Reader) (rest : List (List ℕ)) → Stops turns callers format program reader rest →
      IsBlocked reader rest
  other_blocks reader [] stops = tt
  other_blocks reader (text ∷ more) stops = stops.not_coming

  -- ---- verdicts

  differ_once : (lines : List (List ℕ)) (m n : ℕ) → IsDiffering turns callers format program lines m →
      IsDiffering turns callers format program lines n → m ≡ n
  differ_once lines m n p q =
      let one = one_stop (opened program) lines p.reached.first q.reached.first p.rest q.rest p.reader q.reader p.reached.parts q.reached.parts
      p.reached.came q.reached.came (other_blocks p.reader p.rest p.stops) (other_blocks q.reader q.rest q.stops) in
      let long = one.0 in
      let here = p.reached.numbered in
      let there = q.reached.numbered in
      omega (arith, long, here, there)

  beyond_once : (lines : List (List ℕ)) (m n : ℕ) → IsBeyond turns callers format program lines m →
      IsBeyond turns callers format program lines n → m ≡ n
  beyond_once lines m n p q =
      let one = one_stop (opened program) lines p.reached.first q.reached.first (p.text ∷ p.more) (q.text ∷ q.more) p.reader q.reader p.reached.parts q.reached.parts
      p.reached.came q.reached.came (λ after. unsettled_comes p.reader after p.text p.unsettled) (λ after. unsettled_comes q.reader after q.text q.unsettled) in
      let long = one.0 in
      let here = p.reached.numbered in
      let there = q.reached.numbered in
      omega (arith, long, here, there)

  differs_or_beyond : (lines : List (List ℕ)) (m n : ℕ) → IsDiffering turns callers format program lines m →
      IsBeyond turns callers format program lines n → ⊥
  differs_or_beyond lines m n p q =
      let one = one_stop (opened program) lines p.reached.first q.reached.first p.rest (q.text ∷ q.more) p.reader q.reader p.reached.parts q.reached.parts
      p.reached.came q.reached.came (other_blocks p.reader p.rest p.stops) (λ after. unsettled_comes q.reader after q.text q.unsettled) in
      let stops : Stops turns callers format program q.reader (q.text ∷ q.more) =
      subst (λ r. Stops turns callers format program r (q.text ∷ q.more)) one.1 (subst (Stops turns callers format program p.reader) one.2 p.stops) in
      stops.not_unsettled q.unsettled

  same_or_differs : (lines : List (List ℕ)) (n : ℕ) → IsSame turns callers format program lines →
      IsDiffering turns callers format program lines n → ⊥
  same_or_differs lines n p q =
      let one = one_stop (opened program) lines lines q.reached.first [] q.rest p.reader q.reader (sym (append-nil lines)) q.reached.parts
      p.came q.reached.came tt (other_blocks q.reader q.rest q.stops) in
      let stops : HasEnded p.reader → ⊥ =
      subst (λ r. Stops turns callers format program r []) (sym one.1) (subst (Stops turns callers format program q.reader) (sym one.2) q.stops) in
      stops p.ended

  same_or_beyond : (lines : List (List ℕ)) (n : ℕ) → IsSame turns callers format program lines →
      IsBeyond turns callers format program lines n → ⊥
  same_or_beyond lines n p q =
      let one = one_stop (opened program) lines lines q.reached.first [] (q.text ∷ q.more) p.reader q.reader (sym (append-nil lines)) q.reached.parts
      p.came q.reached.came tt (λ after. unsettled_comes q.reader after q.text q.unsettled) in
      let e = one.2 in absurd (cc)

pub one_verdict : AtMostOneVerdict
one_verdict turns callers format program lines Same Same well p q = refl
one_verdict turns callers format program lines Same (Differs n) well p q = absurd (same_or_differs turns callers format program well lines n p q)
one_verdict turns callers format program lines Same (Unsettled n) well p q = absurd (same_or_beyond turns callers format program well lines n p q)
one_verdict turns callers format program lines (Differs m) Same well p q = absurd (same_or_differs turns callers format program well lines m q p)
one_verdict turns callers format program lines (Differs m) (Differs n) well p q = ap Differs (differ_once turns callers format program well lines m n p q)
one_verdict turns callers format program lines (Differs m) (Unsettled n) well p q = absurd (differs_or_beyond turns callers format program well lines m n p q)
one_verdict turns callers format program lines (Unsettled m) Same well p q = absurd (same_or_beyond turns callers format program well lines m q p)
one_verdict turns callers format program lines (Unsettled m) (Differs n) well p q = absurd (differs_or_beyond turns callers format program well lines n m q p)
one_verdict turns callers format program lines (Unsettled m) (Unsettled n) well p q = ap Unsettled (beyond_once turns callers format program well lines m n p q)
