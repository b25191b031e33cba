-- A log whose entries are all of one thread.
use Rattle.std.proofs.Common.{◌≡◌, ◌∙◌, ◌+◌, ◌==◌, ℕ, List, [], ◌∷◌, map, Some, refl, sym, ap, subst}
use Rattle.std.proofs.lemmas.Bool.{cond-true, eq-eqb}
use Rattle.core_lang.specs.Laws.{HaveAtMostOneSerial}
use Rattle.core_lang.specs.Serial.{Invocation, SerialFromOpening, opening_heap}
use Rattle.history.specs.Commits.{Commit, call_of, answer_of}
use Rattle.workers.specs.Seats.{ReplyOf}
use Rattle.workers.specs.Answers.{reply_at, replies_of, call_in}
use Rattle.theorems.specs.ClosedRuns.{AreOf, OneSeatIsSerial}

-- if all entries are of the thread, the calls of its answers are those of the entries
calls_of_one : (t at : ℕ) (log : List Commit) → AreOf t log → map call_in (replies_of t at log) ≡ map call_of log
calls_of_one t at [] own = refl
calls_of_one t at (c ∷ cs) own =
    let rest : List ReplyOf = replies_of t (at + 1) cs in
    ap (map call_in) (cond-true (c.thread == t) (reply_at at c ∷ rest) rest (eq-eqb c.thread t own.0))
    ∙ ap (λ (calls : List Invocation). call_of c ∷ calls) (calls_of_one t (at + 1) cs own.1)

some_same : (a b : List Invocation) → Some a ≡ Some b → a ≡ b
some_same a b same = cc same

pub is_serial : HaveAtMostOneSerial → OneSeatIsSerial
is_serial one plan log values t script runs own has is =
    let calls : map call_of log ≡ script =
    sym (calls_of_one t 0 log own) ∙ some_same (map call_in (replies_of t 0 log)) script (has.calls ∙ is) in
    let again : SerialFromOpening plan.accepted script (map answer_of log) values =
    subst (λ (cs : List Invocation). SerialFromOpening plan.accepted cs (map answer_of log) values) calls runs in
    record {
      calls_are = calls;
      runs = again;
      alone = λ ends heap found. one plan.accepted (opening_heap plan.accepted) heap values script ends (map answer_of log) found again;
    }
