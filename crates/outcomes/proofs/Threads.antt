-- The calls of threads, marked one after another.
use Rattle.std.proofs.Common.{◌≡◌, ◌<◌, ◌≤◌, ◌+◌, ℕ, List, [], ◌∷◌, ◌++◌, Some, sym, ap, ◌∙◌, subst, ⊎_elim, take, length, get_or}
use Rattle.std.proofs.Common.{arith}
use Rattle.std.specs.Prelude.{slice_get}
use Rattle.std.proofs.lemmas.Bool.{cases_lt}
use Rattle.std.proofs.lemmas.List.{take_more, take_all}
use Rattle.core_lang.specs.declared.shape.Shape.{Shape}
use Rattle.core_lang.specs.declared.typed.Call.{Call}
use Rattle.core_lang.specs.declared.typed.Thread.{Thread}
use Rattle.core_lang.specs.Theory.Items.{pushed_at, read_at}
use Rattle.outcomes.specs.declared.accesses.AccessWalk.{AccessWalk}
use Rattle.outcomes.specs.declared.touched.Touched.{Touched}
use Rattle.outcomes.specs.Working.Listing.{touches}
use Rattle.outcomes.specs.Working.Marking.{IsMarked, TouchedMore, CallIsMarked, CallsAreMarked, ThreadsAreMarked}
use Rattle.outcomes.proofs.Listed.{each_more}
use Rattle.outcomes.proofs.Marked.{marked_more}

module _ (shape : Shape) (bodies : List AccessWalk) (a b : Touched) (more : TouchedMore a b) where
  call_more : (thread : ℕ) (call : Call) → CallIsMarked shape bodies a thread call →
      CallIsMarked shape bodies b thread call
  call_more thread call is = λ body here.
      let own = is body here in (
        own.0,
        each_more shape call.arguments.items (IsMarked shape a.reads thread) (IsMarked shape a.writes thread)
            (IsMarked shape b.reads thread) (IsMarked shape b.writes thread)
            (λ c m. marked_more shape a.reads b.reads thread c more.0 m)
            (λ c m. marked_more shape a.writes b.writes thread c more.1 m)
            (touches body.accesses.items) own.1,
      )

  pub calls_turn : (thread : ℕ) (items : List Call) (i : ℕ) (call : Call) → i < length items →
      call ≡ get_or items i call →
      CallsAreMarked shape bodies a thread (take i items) → CallIsMarked shape bodies b thread call →
      CallsAreMarked shape bodies b thread (take (i + 1) items)
  calls_turn thread items i call lt is each one k x here =
      let split : take (i + 1) items ≡ take i items ++ call ∷ [] = take_more items i call lt
      ∙ ap (λ y. take i items ++ y ∷ []) (sym is) in
      let there : slice_get (take i items ++ call ∷ []) k ≡ Some x = ap (λ l. slice_get l k) (sym split) ∙ here in
      ⊎_elim (λ e. call_more thread x (each k x e)) (λ e. subst (CallIsMarked shape bodies b thread) e.1 one)
      (pushed_at (take i items) call k x there)

  pub threads_turn : (threads : List Thread) (n : ℕ) (thread : Thread) (calls : List Call) → n < length threads →
      thread ≡ get_or threads n thread → calls ≡ (get_or threads n thread).calls.items →
      ThreadsAreMarked shape bodies a threads n →
      CallsAreMarked shape bodies b n calls → ThreadsAreMarked shape bodies b threads (n + 1)
  threads_turn threads n thread calls lt is all each one t x before here =
      ⊎_elim (λ (le : t < n). λ k call e. call_more t call (each t x le here k call e))
      (λ (le : n ≤ t).
      let same : t ≡ n = omega (arith, le, before) in
      let there : Some x ≡ Some thread = sym here ∙ ap (slice_get threads) same ∙ read_at threads n thread lt is in
      let one_thread : thread ≡ x = cc in
      let list : calls ≡ x.calls.items = all ∙ ap (λ (y : Thread). y.calls.items) (sym is ∙ one_thread) in
      subst (λ m. CallsAreMarked shape bodies b m x.calls.items) (sym same)
      (subst (CallsAreMarked shape bodies b n) list one))
      (cases_lt t n)

pub all_calls : (shape : Shape) (bodies : List AccessWalk) (touched : Touched) (thread : ℕ) (items : List Call) (i : ℕ) →
    length items ≤ i →
    CallsAreMarked shape bodies touched thread (take i items) → CallsAreMarked shape bodies touched thread items
all_calls shape bodies touched thread items i le each = subst (CallsAreMarked shape bodies touched thread)
    (take_all i items le) each

pub all_threads : (shape : Shape) (bodies : List AccessWalk) (touched : Touched) (threads : List Thread) (n m : ℕ) → m ≤ n →
    ThreadsAreMarked shape bodies touched threads n → ThreadsAreMarked shape bodies touched threads m
all_threads shape bodies touched threads n m le each t x lt here = each t x (omega (arith, lt, le)) here
