-- The length of a log with each thread's last entry.
use Rattle.std.proofs.Common.{◌≡◌, ◌≢◌, ◌==◌, ℕ, ◌+◌, ◌-◌, ◌<◌, ◌≤◌, Bool, true, false, List, [], ◌∷◌, ◌++◌, length, drop, slice_index_or, slice_set}
use Rattle.std.proofs.Common.{refl, ap, sym, ◌∙◌, subst, arith, get_or, slice_set}
use lib.Dec.{leb}
use Rattle.std.proofs.lemmas.List.{drop-drop, drop-append-le, drop_all, length_push, length-set, get_or-set_same, get_or-set_other, get_or_append_left, get_or_push, get_or-drop, length-drop}
use Rattle.core_lang.specs.declared.value.Outcome.TheVariants.{Ends}
use Rattle.std.proofs.lemmas.List.Elements.{All-drop, All-nil, All-push, All-weaker}
use Rattle.std.proofs.lemmas.Bool.Decides.{nat_tests}
use Rattle.std.specs.List.{All}
use Rattle.history.specs.Commits.{Commit}
use Rattle.workers.specs.Logs.{NoneOf}
use Rattle.workers.specs.Working.Rules.{AreEnds}

nothing : Commit
nothing = record {
  thread = 0;
  step = 0;
  section = 0;
  arguments = [];
  begun = 0;
  reads = [];
  writes = [];
  outcome = Ends;
  prints = [];
}

-- a thread without entries from one place on has none from a later place on
pub none_behind : (t a b : ℕ) (log : List Commit) → a ≤ b → NoneOf t (drop a log) → NoneOf t (drop b log)
none_behind t a b log le none =
    let further : drop (b - a) (drop a log) ≡ drop b log = drop-drop (b - a) a log ∙ ap (λ (n : ℕ). drop n log) (omega (arith, le)) in
    subst (NoneOf t) further (All-drop (λ (c : Commit). c.thread ≢ t) (b - a) (drop a log) none)

-- if a thread has no entry from a place on, its last one is before that
pub last_before : (ends : List ℕ) (log : List Commit) (t from : ℕ) → t < length ends → AreEnds ends log → NoneOf t (drop from log) →
    (b : Bool) → leb (slice_index_or ends t 0) from ≡ b → b ≡ true
last_before ends log t from there h none true is = refl
last_before ends log t from there h none false is =
    let end = slice_index_or ends t 0 in
    let gt : from < end = grind (arith, nat_tests) in
    let n = end - 1 in
    let d : Commit = nothing in
    let last = h.last t n d there (omega (arith, gt)) in
    let k = n - from in
    let at : from + k ≡ n = omega (arith, gt) in
    let within : k < length (drop from log) = omega (arith, length-drop from log, last.0, at, gt) in
    let found : (get_or (drop from log) k d).thread ≡ t =
    ap (λ (c : Commit). c.thread) (get_or-drop from log k d) ∙ ap (λ (i : ℕ). (get_or log i d).thread) at ∙ last.1 in
    absurd (none k d within found)

-- a thread above those of all entries has no entry
pub none_above : (t n b : ℕ) (log : List Commit) → All (λ (c : Commit). c.thread < n) log → n ≤ t → NoneOf t (drop b log)
none_above t n b log below le =
    All-drop (λ (c : Commit). c.thread ≢ t) b log
    (All-weaker (λ (c : Commit). c.thread < n) (λ (c : Commit). c.thread ≢ t) (λ c lt same. omega (arith, lt, le, same)) log below)

-- one more entry of another thread
other_at : (t a : ℕ) (log : List Commit) (e : Commit) → e.thread ≢ t → NoneOf t (drop a log) → (b : Bool) → leb a (length log) ≡ b →
    NoneOf t (drop a (log ++ e ∷ []))
other_at t a log e other none true is =
    let le : a ≤ length log = grind (arith, nat_tests) in
    subst (NoneOf t) (sym (drop-append-le a log (e ∷ []) le)) (All-push (λ (c : Commit). c.thread ≢ t) (drop a log) e none other)
other_at t a log e other none false is =
    let gt : length log < a = grind (arith, nat_tests) in
    let over : drop a (log ++ e ∷ []) ≡ [] = drop_all a (log ++ e ∷ []) (omega (arith, length_push log e, gt)) in
    subst (NoneOf t) (sym over) (All-nil (λ (c : Commit). c.thread ≢ t))

behind_at : (ends : List ℕ) (log : List Commit) (e : Commit) (t t' : ℕ) → t ≡ e.thread → t < length ends → AreEnds ends log →
    t' < length ends → (b : Bool) → (t' == t) ≡ b →
    NoneOf t' (drop (slice_index_or (slice_set ends t (length log + 1)) t' 0) (log ++ e ∷ []))
behind_at ends log e t t' is below h there true same =
    let here : t' ≡ t = grind (arith, nat_tests) in
    let last : slice_index_or (slice_set ends t (length log + 1)) t' 0 ≡ length log + 1 =
    ap (λ (k : ℕ). get_or (slice_set ends t (length log + 1)) k 0) here ∙ get_or-set_same ends t (length log + 1) 0 below in
    let over : drop (length log + 1) (log ++ e ∷ []) ≡ [] = drop_all (length log + 1) (log ++ e ∷ []) (omega (arith, length_push log e)) in
    subst (λ (n : ℕ). NoneOf t' (drop n (log ++ e ∷ []))) (sym last)
    (subst (NoneOf t') (sym over) (All-nil (λ (c : Commit). c.thread ≢ t')))
behind_at ends log e t t' is below h there false same =
    let apart : t' ≢ t = λ here. absurd (grind (arith, nat_tests)) in
    let kept : slice_index_or (slice_set ends t (length log + 1)) t' 0 ≡ slice_index_or ends t' 0 =
    get_or-set_other ends t t' (length log + 1) 0 apart in
    let a = slice_index_or ends t' 0 in
    subst (λ (n : ℕ). NoneOf t' (drop n (log ++ e ∷ []))) (sym kept)
    (other_at t' a log e (λ of. apart (sym of ∙ sym is)) (h.behind t' there) (leb a (length log)) refl)

-- one more entry at the end: those before it stay where they are
kept_at : (log : List Commit) (e : Commit) (n : ℕ) (d : Commit) (t : ℕ) → (n < length log) × ((get_or log n d).thread ≡ t) →
    (n < length (log ++ e ∷ [])) × ((get_or (log ++ e ∷ []) n d).thread ≡ t)
kept_at log e n d t is =
    (omega (arith, is.0, length_push log e), ap (λ (c : Commit). c.thread) (get_or_append_left log (e ∷ []) d n is.0) ∙ is.1)

last_at : (ends : List ℕ) (log : List Commit) (e : Commit) (t t' n : ℕ) (d : Commit) → t ≡ e.thread → t < length ends → AreEnds ends log →
    t' < length ends → n + 1 ≡ slice_index_or (slice_set ends t (length log + 1)) t' 0 → (b : Bool) → (t' == t) ≡ b →
    (n < length (log ++ e ∷ [])) × ((slice_index_or (log ++ e ∷ []) n d).thread ≡ t')
last_at ends log e t t' n d is below h there end true same =
    let here : t' ≡ t = grind (arith, nat_tests) in
    let last : slice_index_or (slice_set ends t (length log + 1)) t' 0 ≡ length log + 1 =
    ap (λ (k : ℕ). get_or (slice_set ends t (length log + 1)) k 0) here ∙ get_or-set_same ends t (length log + 1) 0 below in
    let at : length log ≡ n = omega (arith, end, last) in
    (omega (arith, at, length_push log e), ap (λ (c : Commit). c.thread) (get_or_push log e d n at) ∙ sym is ∙ sym here)
last_at ends log e t t' n d is below h there end false same =
    let apart : t' ≢ t = λ here. absurd (grind (arith, nat_tests)) in
    let kept : slice_index_or (slice_set ends t (length log + 1)) t' 0 ≡ slice_index_or ends t' 0 =
    get_or-set_other ends t t' (length log + 1) 0 apart in
    kept_at log e n d t' (h.last t' n d there (end ∙ kept))

-- in an empty log no thread has an entry
pub no_ends : (ends : List ℕ) → All (λ (n : ℕ). n ≡ 0) ends → AreEnds ends []
no_ends ends none = record {
  threads = All-nil (λ (c : Commit). c.thread < length ends);
  behind = λ t lt. All-drop (λ (c : Commit). c.thread ≢ t) (slice_index_or ends t 0) [] (All-nil (λ (c : Commit). c.thread ≢ t));
  last = λ t n d lt is. absurd (omega (arith, is, none t 0 lt));
}

-- one more entry, which is its thread's last one
pub ends_more : (ends : List ℕ) (log : List Commit) (e : Commit) (t : ℕ) → t ≡ e.thread → t < length ends → AreEnds ends log →
    AreEnds (slice_set ends t (length log + 1)) (log ++ e ∷ [])
ends_more ends log e t is below h =
    let long : length (slice_set ends t (length log + 1)) ≡ length ends = length-set ends t (length log + 1) in
    record {
      threads =
          subst (λ (n : ℕ). All (λ (c : Commit). c.thread < n) (log ++ e ∷ [])) (sym long)
          (All-push (λ (c : Commit). c.thread < length ends) log e h.threads (subst (λ (n : ℕ). n < length ends) is below));
      behind = λ t' lt. behind_at ends log e t t' is below h (subst (λ (n : ℕ). t' < n) long lt) (t' == t) refl;
      last = λ t' n d lt end. last_at ends log e t t' n d is below h (subst (λ (n : ℕ). t' < n) long lt) end (t' == t) refl;
    }
