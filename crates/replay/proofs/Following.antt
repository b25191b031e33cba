-- Calls that may come one after another, and histories.
use Rattle.std.proofs.Common.{◌≡◌, ◌∙◌, ℕ, ◌+◌, zero, suc, List, [], ◌∷◌, ◌++◌, length, take, map, slice_get, Some}
use Rattle.std.proofs.Common.{arith, sym, ap, refl, subst, inl, inr, append_assoc, append-nil, add-one}
use Rattle.std.proofs.lemmas.Bool.{cases_eq, eq-eqb, ne_eqb}
use Rattle.std.proofs.lemmas.List.{map-append, take_all, length-map}
use Rattle.std.proofs.lemmas.List.Elements.{filter-append}
use Rattle.std.proofs.lemmas.List.Sums.{sum_by-append}
use Rattle.core_lang.specs.declared.typed.Typed.{Typed}
use Rattle.input_files.specs.declared.format.Format.{Format}
use Rattle.core_lang.specs.Theory.Items.{behind_at}
use Rattle.report.specs.Entry.{Entry, scheduled_in}
use Rattle.replay.specs.declared.callers.Callers.{Callers}
use Rattle.replay.specs.declared.callers.Callers.TheVariants.{Scripts, Anyone}
use Rattle.replay.specs.Readers.{AllCalled, IsNext, IsOpenCall, MayBegin, next_call, script_of, calls_by}
use Rattle.replay.specs.Working.Histories.{order_of, of_thread, AreCalls, FollowScripts, BeginAsTheyMay}
use Rattle.replay.proofs.Seating.{calls_by_one, calls_by_other}

-- ---- lists

pub take_next : {A : Type 0} (xs : List A) (n : ℕ) (x : A) → slice_get xs n ≡ Some x →
    take (n + 1) xs ≡ take n xs ++ x ∷ []
take_next [] n x is = absurd (cc)
take_next (y ∷ xs) zero x is = let e : y ≡ x = cc in ap (λ z. z ∷ []) e
take_next (y ∷ xs) (suc n) x is = let h = rw add-one at (take_next xs n x is) in rw add-one (ap (λ zs. y ∷ zs) h)

-- the calls of a thread with one more
own_pushed : (t : ℕ) (done : List Entry) (e : Entry) → e.thread ≡ t →
    of_thread t (done ++ e ∷ []) ≡ of_thread t done ++ e ∷ []
own_pushed t done e same =
    let test = eq-eqb e.thread t same in
    filter-append _ done (e ∷ []) ∙ rw test refl

other_pushed : (t : ℕ) (done : List Entry) (e : Entry) → (e.thread ≡ t → ⊥) →
    of_thread t (done ++ e ∷ []) ≡ of_thread t done
other_pushed t done e apart =
    let test = ne_eqb e.thread t apart in
    filter-append _ done (e ∷ []) ∙ rw test (append-nil (of_thread t done))

-- the count of a thread's calls is the length of the list of them
counted : (t : ℕ) (done : List Entry) → length (of_thread t done) ≡ calls_by t (order_of done)
counted t [] = refl
counted t (e ∷ done) = elim (cases_eq e.thread t) [
  | inl same ↦
      let test = eq-eqb e.thread t same in
      let h = counted t done in
      let first : calls_by t (e.thread ∷ []) ≡ 1 = rw test refl in
      let all : calls_by t (order_of (e ∷ done)) ≡ calls_by t (e.thread ∷ []) + calls_by t (order_of done) = sum_by-append _ (e.thread ∷ []) (order_of done) in
      let long : length (of_thread t (e ∷ done)) ≡ suc (length (of_thread t done)) = rw test refl in
      omega (arith, h, first, all, long)
  | inr apart ↦
      let test = ne_eqb e.thread t apart in
      let h = counted t done in
      let first : calls_by t (e.thread ∷ []) ≡ 0 = rw test refl in
      let all : calls_by t (order_of (e ∷ done)) ≡ calls_by t (e.thread ∷ []) + calls_by t (order_of done) = sum_by-append _ (e.thread ∷ []) (order_of done) in
      let long : length (of_thread t (e ∷ done)) ≡ length (of_thread t done) = rw test refl in
      omega (arith, h, first, all, long)
]

-- each call is the next one after those before it, and after the last one no call is missing
abbrev pub Follow : Callers → Format → Typed → List ℕ → List Entry → Type 0
Follow callers format program order [] = AllCalled callers program order
Follow callers format program order (e ∷ es) =
    IsNext callers program order (scheduled_in e) × MayBegin format order e.thread e.begun
    × Follow callers format program (order ++ e.thread ∷ []) es

order_pushed : (done : List Entry) (e : Entry) → order_of done ++ e.thread ∷ [] ≡ order_of (done ++ e ∷ [])
order_pushed done e = sym (map-append (λ (x : Entry). x.thread) done (e ∷ []))

module _ (callers : Callers) (format : Format) (program : Typed) where
  begins_from : (done es : List Entry) → Follow callers format program (order_of done) es → (k : ℕ) (e : Entry) →
      slice_get es k ≡ Some e → MayBegin format (order_of (done ++ take k es)) e.thread e.begun
  begins_from done [] follow k e is = absurd (cc)
  begins_from done (x ∷ es) follow zero e is =
      let same : x ≡ e = cc in
      subst (λ (y : Entry). MayBegin format (order_of (done ++ [])) y.thread y.begun) same
      (subst (λ xs. MayBegin format (order_of xs) x.thread x.begun) (sym (append-nil done)) follow.1)
  begins_from done (x ∷ es) follow (suc k) e is =
      subst (λ xs. MayBegin format (order_of xs) e.thread e.begun) (append_assoc done (x ∷ []) (take k es))
      (begins_from (done ++ x ∷ []) es (subst (λ o. Follow callers format program o es) (order_pushed done x) follow.2) k e is)

  -- calls that follow one another begin as they may
  pub follow_begins : (es : List Entry) → Follow callers format program [] es → BeginAsTheyMay format es
  follow_begins es follow k e is = begins_from [] es follow k e is

-- ---- calls of scripts

module _ (format : Format) (program : Typed) where
  abbrev Scripted : List ℕ → List Entry → Type 0
  Scripted order es = Follow Scripts format program order es

  -- the calls of each thread are the first calls of its script
  abbrev pub AreFirst : List Entry → Type 0
  AreFirst done = (t : ℕ) → map scheduled_in (of_thread t done) ≡ take (calls_by t (order_of done)) (script_of program t)

  first_pushed : (done : List Entry) (e : Entry) → AreFirst done →
      next_call program (order_of done) e.thread ≡ Some (scheduled_in e) →
      AreFirst (done ++ e ∷ [])
  first_pushed done e first next t = elim (cases_eq e.thread t) [
    | inl same ↦
        let n = calls_by t (order_of done) in
        let here : slice_get (script_of program t) n ≡ Some (scheduled_in e) = subst (λ u. next_call program (order_of done) u ≡ Some (scheduled_in e)) same next in
        let more : calls_by t (order_of (done ++ e ∷ [])) ≡ n + 1 =
        ap (calls_by t) (sym (order_pushed done e)) ∙ calls_by_one t e.thread (order_of done) same in
        ap (map scheduled_in) (own_pushed t done e same) ∙ map-append scheduled_in (of_thread t done) (e ∷ [])
        ∙ ap (λ xs. xs ++ scheduled_in e ∷ []) (first t) ∙ sym (take_next (script_of program t) n (scheduled_in e) here)
        ∙ ap (λ k. take k (script_of program t)) (sym more)
    | inr apart ↦
        let as_many : calls_by t (order_of (done ++ e ∷ [])) ≡ calls_by t (order_of done) =
        ap (calls_by t) (sym (order_pushed done e)) ∙ calls_by_other t e.thread (order_of done) apart in
        ap (map scheduled_in) (other_pushed t done e apart) ∙ first t ∙ ap (λ k. take k (script_of program t)) (sym as_many)
  ]

  scripts_from : (done es : List Entry) → AreFirst done → Scripted (order_of done) es → FollowScripts program (done ++ es)
  scripts_from done [] first all t =
      ap (λ xs. map scheduled_in (of_thread t xs)) (append-nil done) ∙ first t
      ∙ take_all (calls_by t (order_of done)) (script_of program t) (let h = all t in omega (arith, h))
  scripts_from done (e ∷ es) first follow t =
      ap (λ xs. map scheduled_in (of_thread t xs)) (sym (append_assoc done (e ∷ []) es))
      ∙ scripts_from (done ++ e ∷ []) es (first_pushed done e first follow.0) (subst (λ o. Scripted o es) (order_pushed done e) follow.2) t

  -- calls that follow one another are the calls of the scripts
  pub follow_scripts : (es : List Entry) → Scripted [] es → FollowScripts program es
  follow_scripts es follow = scripts_from [] es (λ t. refl) follow

  follows_from : (done es : List Entry) → FollowScripts program (done ++ es) →
      ((k : ℕ) (e : Entry) → slice_get es k ≡ Some e → MayBegin format (order_of (done ++ take k es)) e.thread e.begun) →
      Scripted (order_of done) es
  follows_from done [] scripts begins = λ t.
      sym (counted t done) ∙ sym (length-map (of_thread t done) scheduled_in)
      ∙ ap (λ xs. length (map scheduled_in (of_thread t xs))) (sym (append-nil done)) ∙ ap length (scripts t)
  follows_from done (e ∷ es) scripts begins = (
    next,
    subst (λ xs. MayBegin format (order_of xs) e.thread e.begun) (append-nil done) (begins 0 e refl),
    subst (λ o. Scripted o es) (sym (order_pushed done e))
        (follows_from (done ++ e ∷ []) es
        (λ t. ap (λ xs. map scheduled_in (of_thread t xs)) (append_assoc done (e ∷ []) es) ∙ scripts t)
        (λ k x is. subst (λ xs. MayBegin format (order_of xs) x.thread x.begun) (sym (append_assoc done (e ∷ []) (take k es))) (begins (suc k) x is))),
  )
    where
      own : of_thread e.thread (done ++ e ∷ es) ≡ of_thread e.thread done ++ e ∷ of_thread e.thread es
      own = let test = eq-eqb e.thread e.thread refl in filter-append _ done (e ∷ es) ∙ rw test refl

      script : script_of program e.thread ≡ map scheduled_in (of_thread e.thread done) ++ scheduled_in e ∷ map scheduled_in (of_thread e.thread es)
      script = sym (scripts e.thread) ∙ ap (map scheduled_in) own ∙ map-append scheduled_in (of_thread e.thread done) (e ∷ of_thread e.thread es)

      place : length (map scheduled_in (of_thread e.thread done)) ≡ calls_by e.thread (order_of done)
      place = length-map (of_thread e.thread done) scheduled_in ∙ counted e.thread done

      next : next_call program (order_of done) e.thread ≡ Some (scheduled_in e)
      next = ap (λ xs. slice_get xs (calls_by e.thread (order_of done))) script
          ∙ ap (slice_get (map scheduled_in (of_thread e.thread done) ++ scheduled_in e ∷ map scheduled_in (of_thread e.thread es))) (sym place)
          ∙ behind_at (map scheduled_in (of_thread e.thread done)) (scheduled_in e) (map scheduled_in (of_thread e.thread es))

  -- the calls of the scripts that begin as they may follow one another
  pub scripts_follow : (es : List Entry) → FollowScripts program es → BeginAsTheyMay format es → Scripted [] es
  scripts_follow es scripts begins = follows_from [] es scripts (λ k e is. begins k e is)

-- ---- calls from outside

module _ (format : Format) (program : Typed) where
  opens_from : (done es : List Entry) → Follow Anyone format program (order_of done) es → (k : ℕ) (e : Entry) →
      slice_get es k ≡ Some e → IsOpenCall program (order_of (done ++ take k es)) (scheduled_in e)
  opens_from done [] follow k e is = absurd (cc)
  opens_from done (x ∷ es) follow zero e is =
      let same : x ≡ e = cc in
      subst (λ (y : Entry). IsOpenCall program (order_of (done ++ [])) (scheduled_in y)) same
      (subst (λ xs. IsOpenCall program (order_of xs) (scheduled_in x)) (sym (append-nil done)) follow.0)
  opens_from done (x ∷ es) follow (suc k) e is =
      subst (λ xs. IsOpenCall program (order_of xs) (scheduled_in e)) (append_assoc done (x ∷ []) (take k es))
      (opens_from (done ++ x ∷ []) es (subst (λ o. Follow Anyone format program o es) (order_pushed done x) follow.2) k e is)

  open_from : (done es : List Entry) →
      ((k : ℕ) (e : Entry) → slice_get es k ≡ Some e → IsOpenCall program (order_of (done ++ take k es)) (scheduled_in e)) →
      ((k : ℕ) (e : Entry) → slice_get es k ≡ Some e → MayBegin format (order_of (done ++ take k es)) e.thread e.begun) →
      Follow Anyone format program (order_of done) es
  open_from done [] calls begins = tt
  open_from done (e ∷ es) calls begins = (
    subst (λ xs. IsOpenCall program (order_of xs) (scheduled_in e)) (append-nil done) (calls 0 e refl),
    subst (λ xs. MayBegin format (order_of xs) e.thread e.begun) (append-nil done) (begins 0 e refl),
    subst (λ o. Follow Anyone format program o es) (sym (order_pushed done e))
        (open_from (done ++ e ∷ []) es
        (λ k x is. subst (λ xs. IsOpenCall program (order_of xs) (scheduled_in x)) (sym (append_assoc done (e ∷ []) (take k es))) (calls (suc k) x is))
        (λ k x is. subst (λ xs. MayBegin format (order_of xs) x.thread x.begun) (sym (append_assoc done (e ∷ []) (take k es))) (begins (suc k) x is))),
  )

-- ---- callers of either kind

pub follow_calls : (callers : Callers) (format : Format) (program : Typed) (es : List Entry) → Follow callers format program [] es →
    AreCalls callers program es
follow_calls Scripts format program es follow = follow_scripts format program es follow
follow_calls Anyone format program es follow = opens_from format program [] es follow

pub calls_follow : (callers : Callers) (format : Format) (program : Typed) (es : List Entry) → AreCalls callers program es →
    BeginAsTheyMay format es → Follow callers format program [] es
calls_follow Scripts format program es calls begins = scripts_follow format program es calls begins
calls_follow Anyone format program es calls begins = open_from format program [] es calls begins
