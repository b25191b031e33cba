-- Items in front of others, step by step. Nobody has to believe this: it is proved here.
use Rattle.std.proofs.Common.{◌≡◌, List, [], ◌++◌, Result, Ok, Err, refl, ap, append_assoc}
use Rattle.input_files.specs.declared.steps_refusal.StepsFault.{StepsFault}
use Rattle.input_files.specs.Steps.{in_front}

-- nothing in front
pub in_front-nil : {T : Type 0} (said : Result (List T) StepsFault) → in_front [] said ≡ said
in_front-nil (Ok more) = refl
in_front-nil (Err fault) = refl

-- items in front of further items
pub in_front-both : {T : Type 0} (xs ys : List T) (said : Result (List T) StepsFault) →
    in_front xs (in_front ys said) ≡ in_front (xs ++ ys) said
in_front-both xs ys (Ok more) = ap Ok (rw append_assoc refl)
in_front-both xs ys (Err fault) = refl
