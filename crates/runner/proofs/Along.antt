-- One more instruction.
use Rattle.std.proofs.Common.{◌≡◌, ℕ, zero, suc, ◌+◌, ◌<◌, ◌≤◌, ap, sym, ◌∙◌, subst, arith}
use Rattle.runner.specs.Working.Opens.{OpenOf, IsRunning, moved, moved_by, Ran}

below_next : (P : ℕ → Type 0) (n : ℕ) → ((k : ℕ) → k < n → P k) → P n → (k : ℕ) → k < n + 1 → P k
below_next P zero below last zero lt = last
below_next P zero below last (suc k) lt = absurd (omega (arith, lt))
below_next P (suc n) below last zero lt = below zero (omega arith)
below_next P (suc n) below last (suc k) lt =
    below_next (λ (j : ℕ). P (suc j)) n (λ j l. below (suc j) (omega (arith, l))) last k (omega (arith, lt))

-- a section that has run `done` instructions runs one more, after which it stops
pub ran_on : (most done : ℕ) (o now last : OpenOf) → done < most → now ≡ moved_by done o →
    ((k : ℕ) → k < done → IsRunning (moved_by k o)) →
    IsRunning now → last ≡ moved now → (IsRunning last → ⊥) → Ran most o (done + 1) last
ran_on most done o now last lt is running runs next stops =
    let number : suc done ≡ done + 1 = omega arith in
    record {
      is = next ∙ ap moved is ∙ ap (λ n. moved_by n o) number;
      running = below_next (λ (k : ℕ). IsRunning (moved_by k o)) done running (subst IsRunning is runs);
      within = omega (arith, lt);
      stops = λ more. stops;
    }

-- a section has run as many instructions as it may
pub ran_all : (most done : ℕ) (o now : OpenOf) → done ≤ most → most ≤ done → now ≡ moved_by done o →
    ((k : ℕ) → k < done → IsRunning (moved_by k o)) →
    Ran most o most now
ran_all most done o now le ge is running =
    let all : done ≡ most = omega (arith, le, ge) in
    record {
      is = is ∙ ap (λ n. moved_by n o) all;
      running = λ k lt. running k (omega (arith, lt, all));
      within = omega arith;
      stops = λ more. absurd (omega (arith, more));
    }

-- a section that has run `done` instructions still runs after one more
pub one_more_runs : (done : ℕ) (o now last : OpenOf) → now ≡ moved_by done o →
    ((k : ℕ) → k < done → IsRunning (moved_by k o)) → IsRunning now →
    last ≡ moved now → IsRunning last → (last ≡ moved_by (done + 1) o) × ((k : ℕ) → k < done + 1 → IsRunning (moved_by k o)) × IsRunning last
one_more_runs done o now last is running runs next still =
    let number : suc done ≡ done + 1 = omega arith in (
      next ∙ ap moved is ∙ ap (λ n. moved_by n o) number,
      below_next (λ (k : ℕ). IsRunning (moved_by k o)) done running (subst IsRunning is runs),
      still,
    )

-- a section that may run one instruction, and has one to run, runs it
pub once_ran : (o last : OpenOf) (count : ℕ) → Ran 1 o count last → IsRunning o → last ≡ moved o
once_ran o last zero ran running = absurd (ran.stops (omega arith) (subst IsRunning (sym ran.is) running))
once_ran o last (suc zero) ran running = ran.is
once_ran o last (suc (suc n)) ran running = absurd (omega (arith, ran.within))
