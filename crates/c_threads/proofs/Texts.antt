-- The text of an acquire, and of the unlock lines at the end, is the texts of their statements one after another.
use Rattle.std.proofs.Common.{◌≡◌, ℕ, zero, suc, ◌+◌, ◌-◌, List, [], ◌∷◌, ◌++◌, map, length, Bool, true, false, Option}
use Rattle.std.proofs.Common.{Some, None, slice_get, refl, sym, ap, ◌∙◌, if◌then◌else◌, append_assoc}
use Rattle.std.specs.Prelude.{nat_le, codes}
use Rattle.std.specs.List.{flat_map}
use Rattle.std.specs.Option.{option_map_or}
use Rattle.std.proofs.lemmas.List.{append-nil}
use Rattle.std.proofs.lemmas.List.Concat.{flat_map-append}
use Rattle.core_lang.specs.declared.tree.Section.{Section}
use Rattle.core_lang.specs.declared.typed.Typed.{Typed}
use Rattle.locks.specs.LockPaths.{LockPath}
use Rattle.c_statements.specs.Acquires as written
use Rattle.c_sections.specs.Sections.{ended_text, unlock_line, count_line, give_line, return_text}
use Rattle.c_statements.specs.Statements.{line}
use Rattle.c_threads.specs.Locking.{LockStatement, Ask, Drop, Note, Exchange, Take, TakeAlone, DropAll}
use Rattle.c_threads.specs.Locking.{OrderAll, TakeAll, Unlock, up, down, in_turn, few, many, run_among, run_statements}
use Rattle.c_threads.specs.Locking.{lock_statement_text, unlock_statement_text}
use Rattle.c_threads.specs.LockClaims.{AcquireTextsAreOfStatements, EndTextsAreOfStatements}

-- ---- lists

mapped : {A B : Type 0} (text : B → List ℕ) (f : A → B) (xs : List A) →
    flat_map text (map f xs) ≡ flat_map (λ x. text (f x)) xs
mapped text f [] = refl
mapped text f (x ∷ xs) = ap (λ t. text (f x) ++ t) (mapped text f xs)

nested : {A B : Type 0} (text : B → List ℕ) (f : A → List B) (g : A → List ℕ) (xs : List A) →
    ((x : A) → flat_map text (f x) ≡ g x) → flat_map text (flat_map f xs) ≡ flat_map g xs
nested text f g [] each = refl
nested text f g (x ∷ xs) each =
    flat_map-append text (f x) (flat_map f xs)
    ∙ ap (λ t. t ++ flat_map text (flat_map f xs)) (each x) ∙ ap (λ t. g x ++ t) (nested text f g xs each)

downwards : (text : ℕ → List ℕ) (n : ℕ) → flat_map text (down n) ≡ written.downward text n
downwards text zero = refl
downwards text (suc n) = ap (λ t. text n ++ t) (downwards text n)

module _ (program : Typed) (section : Section) (paths : List LockPath) where
  abbrev say : LockStatement → List ℕ
  say s = lock_statement_text program section paths s

  abbrev says : List LockStatement → List ℕ
  says ss = flat_map say ss

  turns : (statement : ℕ → ℕ → LockStatement) (j : ℕ) (ks : List ℕ) →
      says (in_turn statement j ks) ≡ written.numbered (λ i k. say (statement i k)) j ks
  turns statement j [] = refl
  turns statement j (k ∷ ks) = ap (λ t. say (statement j k) ++ t) (turns statement (j + 1) ks)

  drops : (class : List ℕ) (n : ℕ) (js : List ℕ) →
      says (map (λ j. Drop j class (up (j + 1) n)) js) ≡ flat_map (written.drop_text class n) js
  drops class n js = mapped say (λ j. Drop j class (up (j + 1) n)) js

  exchanges : (n : ℕ) (js : List ℕ) →
      says (flat_map (λ j. map Exchange (up j (n - 1))) js) ≡ flat_map (written.insert_text n) js
  exchanges n js =
      nested say (λ j. map Exchange (up j (n - 1))) (written.insert_text n) js (λ j. mapped say Exchange (up j (n - 1)))

  both : (xs ys : List LockStatement) (tx ty : List ℕ) → says xs ≡ tx → says ys ≡ ty → says (xs ++ ys) ≡ tx ++ ty
  both xs ys tx ty ex ey =
      flat_map-append say xs ys ∙ ap (λ t. t ++ says ys) ex ∙ ap (λ t. tx ++ t) ey

  few_says : (class run : List ℕ) → says (few class run) ≡ written.few_text program section paths class run
  few_says class run =
      five (in_turn Ask 0 run) (map (λ j. Drop j class (up (j + 1) (length run))) (down (length run))) (in_turn Note 0 run)
      (flat_map (λ j. map Exchange (up j (length run - 1))) (down (length run - 1))) (map Take (up 0 (length run)))
      (turns Ask 0 run)
      (drops class (length run) (down (length run)) ∙ downwards (written.drop_text class (length run)) (length run))
      (turns Note 0 run)
      (exchanges (length run) (down (length run - 1)) ∙ downwards (written.insert_text (length run)) (length run - 1))
      (mapped say Take (up 0 (length run)))
    where
      five : (a b c d e : List LockStatement) {ta tb tc td te : List ℕ} → says a ≡ ta → says b ≡ tb → says c ≡ tc →
          says d ≡ td → says e ≡ te → says (a ++ b ++ c ++ d ++ e) ≡ ta ++ tb ++ tc ++ td ++ te
      five a b c d e {ta} {tb} {tc} {td} {te} ea eb ec ed ee =
          both (a ++ b ++ c ++ d) e (ta ++ tb ++ tc ++ td) te
          (both (a ++ b ++ c) d (ta ++ tb ++ tc) td (both (a ++ b) c (ta ++ tb) tc (both a b ta tb ea eb) ec) ed) ee

  many_says : (run : List ℕ) → says (many (length paths) run) ≡ written.many_text program section paths run
  many_says run =
      three (in_turn Ask 0 run) (in_turn Note 0 run) (DropAll (length run) (length paths)) (OrderAll (length run))
      (TakeAll (length run)) (turns Ask 0 run) (turns Note 0 run)
    where
      three : (a b : List LockStatement) (x y z : LockStatement) {ta tb : List ℕ} → says a ≡ ta → says b ≡ tb →
          says (a ++ x ∷ b ++ y ∷ z ∷ []) ≡ ta ++ say x ++ tb ++ say y ++ say z
      three a b x y z {ta} {tb} ea eb =
          both (a ++ x ∷ b) (y ∷ z ∷ []) (ta ++ say x ++ tb) (say y ++ say z)
          (both a (x ∷ b) ta (say x ++ tb) ea (ap (λ t. say x ++ t) eb) ∙ sym (append_assoc ta (say x) tb))
          (ap (λ t. say y ++ t) (append-nil (say z)))
          ∙ sym (append_assoc (ta ++ say x ++ tb) (say y) (say z))

  among_says : (class run : List ℕ) → says (run_among paths class run) ≡ written.run_among program section paths class run
  among_says class run = by (nat_le (length class) 1) (nat_le (length class) 8) where
    by : (one eight : Bool) →
        says (if one then map TakeAlone run else if eight then few class run else many (length paths) run)
        ≡ (if one then flat_map (written.alone_text program section paths) run
        else if eight then written.few_text program section paths class run
        else written.many_text program section paths run)
    by true eight = mapped say TakeAlone run
    by false true = few_says class run
    by false false = many_says run

  run_says : (run : List ℕ) → says (run_statements paths run) ≡ written.run_text program section paths run
  run_says [] = refl
  run_says (k ∷ ks) = by (slice_get paths k) where
    by : (o : Option LockPath) →
        says (option_map_or (λ (path : LockPath). run_among paths (written.of_class path.class 0 paths) (k ∷ ks)) o [])
        ≡ option_map_or
        (λ (path : LockPath). written.run_among program section paths (written.of_class path.class 0 paths) (k ∷ ks)) o []
    by (Some path) = among_says (written.of_class path.class 0 paths) (k ∷ ks)
    by None = refl

pub acquire_texts : AcquireTextsAreOfStatements
acquire_texts program section paths list =
    ap (λ t. written.take_text program section paths list ++ t)
    (sym (nested (lock_statement_text program section paths) (run_statements paths) (written.run_text program section paths)
    (written.runs paths list) (run_says program section paths)))

pub end_texts : EndTextsAreOfStatements
end_texts program section prints paths =
    ap (λ t. codes "  goto begin;\nend:\n" ++ ended_text section prints ++ t ++ count_line prints ++ line (codes "result.trap = trap;") ++ give_line section.result_type
    ++ return_text)
    (sym (mapped (unlock_statement_text program paths) Unlock (down (length paths)) ∙ downwards (unlock_line program paths) (length paths)))
