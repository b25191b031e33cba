-- Entries that read and wrote nothing.
use Rattle.std.proofs.Common.{◌≡◌, ◌∙◌, List, [], ◌∷◌, ◌++◌, sym, ap, subst}
use Rattle.core_lang.specs.declared.value.Value.{Value}
use Rattle.core_lang.specs.declared.typed.Typed.{Typed}
use Rattle.code.specs.Memory.{overwritten, Agrees}
use Rattle.history.specs.Commits.{Commit, committed, IsLegal, IsTrueCommit, AreTrue}
use Rattle.theorems.specs.ClosedRuns.{IsQuiet, QuietCallsStandAnywhere}

same_heap : (heap : List Value) (c : Commit) → IsQuiet c → overwritten heap c.writes ≡ heap
same_heap heap c quiet = ap (overwritten heap) quiet.writes

-- such an entry leaves the cells as they were
same_cells : (heap : List Value) (first last : List Commit) (c : Commit) → IsQuiet c →
    committed heap (first ++ c ∷ last) ≡ committed heap (first ++ last)
same_cells heap [] last c quiet = ap (λ h. committed h last) (same_heap heap c quiet)
same_cells heap (x ∷ first) last c quiet = same_cells (overwritten heap x.writes) first last c quiet

legal_with : (heap : List Value) (first last : List Commit) (c : Commit) → IsQuiet c → IsLegal heap (first ++ last) →
    IsLegal heap (first ++ c ∷ last)
legal_with heap [] last c quiet legal =
    (subst (Agrees heap) (sym quiet.reads) tt, subst (λ h. IsLegal h last) (sym (same_heap heap c quiet)) legal)
legal_with heap (x ∷ first) last c quiet legal = (legal.0, legal_with (overwritten heap x.writes) first last c quiet legal.1)

legal_without : (heap : List Value) (first last : List Commit) (c : Commit) → IsQuiet c →
    IsLegal heap (first ++ c ∷ last) →
    IsLegal heap (first ++ last)
legal_without heap [] last c quiet legal = subst (λ h. IsLegal h last) (same_heap heap c quiet) legal.1
legal_without heap (x ∷ first) last c quiet legal =
    (legal.0, legal_without (overwritten heap x.writes) first last c quiet legal.1)

true_of : (program : Typed) (first last : List Commit) (c : Commit) → AreTrue program (first ++ c ∷ last) →
    IsTrueCommit program c
true_of program [] last c are = are.0
true_of program (x ∷ first) last c are = true_of program first last c are.1

true_without : (program : Typed) (first last : List Commit) (c : Commit) → AreTrue program (first ++ c ∷ last) →
    AreTrue program (first ++ last)
true_without program [] last c are = are.1
true_without program (x ∷ first) last c are = (are.0, true_without program first last c are.1)

true_with : (program : Typed) (first last : List Commit) (c : Commit) → IsTrueCommit program c →
    AreTrue program (first ++ last) →
    AreTrue program (first ++ c ∷ last)
true_with program [] last c is are = (is, are)
true_with program (x ∷ first) last c is are = (are.0, true_with program first last c is are.1)

pub stands_anywhere : QuietCallsStandAnywhere
stands_anywhere plan before after first last c quiet sound others =
    let heap = plan.layout.opening in
    let fore : IsLegal heap (first ++ last) =
    subst (IsLegal heap) (sym others) (legal_without heap before after c quiet sound.legal) in
    let are : AreTrue plan.program (first ++ last) =
    subst (AreTrue plan.program) (sym others) (true_without plan.program before after c sound.true_entries) in
    let is = true_of plan.program before after c sound.true_entries in (
      record { legal = legal_with heap first last c quiet fore; true_entries = true_with plan.program first last c is are },
      same_cells heap first last c quiet ∙ ap (committed heap) others ∙ sym (same_cells heap before after c quiet),
    )
