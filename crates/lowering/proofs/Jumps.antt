-- The jumps of `&&` and `||`, directed to the end.
use Rattle.std.proofs.Common.{◌≡◌, ℕ, ◌+◌, ◌-◌, ◌<◌, ◌≤◌, List, [], ◌∷◌, ◌++◌, length, refl, sym, ap, ◌∙◌, arith}
use Rattle.std.proofs.Common.{append_assoc, length-append, All, subst, pos, Vec, Box, Global}
use Rattle.std.specs.Prelude.{slice_set}
use Rattle.std.proofs.Math.Seq.{set-append_seam}
use Rattle.std.proofs.lemmas.List.Elements.{All-nil, All-cons}
use Rattle.core_lang.specs.declared.tree.Condition.{Condition, And, Or}
use Rattle.code.specs.declared.instr.Instr.{Instr}
use Rattle.code.specs.declared.instr.Instr.TheVariants.{Jump, PushNumber}
use Rattle.code.specs.Lowering.{test_code}
use Rattle.lowering.specs.declared.assembler.Connective.{Connective}
use Rattle.lowering.specs.declared.assembler.Connective.TheVariants as connective
use Rattle.lowering.specs.Working.Assembly.{jump_of, decided, blank, places, pointed, closed}
use Rattle.lowering.specs.Working.CodeLists.{conditions_code}
use Rattle.lowering.proofs.CodeViews.{test_code-And, test_code-Or}

length-conditions : (k : Connective) (cs : List Condition) (tail : List Instr) →
    length (blank k cs ++ tail) ≡ length (conditions_code (jump_of k) cs tail)
length-conditions k [] tail = refl
length-conditions k (c ∷ cs) tail =
    let ct = test_code c in
    omega (
      arith,
      length-conditions k cs tail,
      length-append (ct ++ (jump_of k 0 ∷ blank k cs)) tail,
      length-append ct (jump_of k 0 ∷ blank k cs),
      length-append (blank k cs) tail,
      length-append ct (jump_of k (length (conditions_code (jump_of k) cs tail)) ∷ conditions_code (jump_of k) cs tail),
    )

places_within : (k : Connective) (cs : List Condition) (at bound : ℕ) → at + length (blank k cs) ≤ bound →
    All (λ p. p < bound) (places at cs)
places_within k [] at bound h = All-nil (λ p. p < bound)
places_within k (c ∷ cs) at bound h =
    let ct = test_code c in
    let l = length-append ct (jump_of k 0 ∷ blank k cs) in
    All-cons (λ p. p < bound) (at + length ct) (places (at + length ct + 1) cs) (omega arith) (places_within k cs (at + length ct + 1) bound (omega arith))

pointed_conditions : (k : Connective) (cs : List Condition) (base tail : List Instr) (end at : ℕ) →
    end ≡ length (base ++ (blank k cs ++ tail)) → at ≡ length base →
    pointed k end (places at cs) (base ++ (blank k cs ++ tail)) ≡ base ++ conditions_code (jump_of k) cs tail
pointed_conditions k [] base tail end at e a = refl
pointed_conditions k (c ∷ cs) base tail end at e a =
    let ct = test_code c in
    let rest = blank k cs ++ tail in
    let more = conditions_code (jump_of k) cs tail in
    let place = at + length ct in
    let jump = jump_of k (end - place - 1) in
    let base' = (base ++ ct) ++ jump ∷ [] in
    let split : base ++ ((ct ++ (jump_of k 0 ∷ blank k cs)) ++ tail) ≡ (base ++ ct) ++ jump_of k 0 ∷ rest = simp append_assoc in
    let n : place ≡ length (base ++ ct) = omega (arith, length-append base ct) in
    let n' : place + 1 ≡ length base' = omega (arith, length-append (base ++ ct) (jump ∷ [])) in
    let behind : length ((base ++ ct) ++ jump_of k 0 ∷ rest) ≡ length (base ++ ct) + 1 + length rest = omega (arith, length-append (base ++ ct) (jump_of k 0 ∷ rest)) in
    let all : end ≡ length (base ++ ct) + 1 + length rest = e ∙ ap length split ∙ behind in
    let end' : end ≡ length (base' ++ rest) = omega (arith, length-append base' rest) in
    let to : end - place - 1 ≡ length more = omega (arith, length-conditions k cs tail) in
    let wrote : slice_set (base ++ ((ct ++ (jump_of k 0 ∷ blank k cs)) ++ tail)) place jump ≡ base' ++ rest =
    ap (λ l. slice_set l place jump) split ∙ ap (λ i. slice_set ((base ++ ct) ++ jump_of k 0 ∷ rest) i jump) n
    ∙ set-append_seam (base ++ ct) (jump_of k 0) rest jump ∙ sym (append_assoc (base ++ ct) (jump ∷ []) rest) in
    let ih = pointed_conditions k cs base' tail end (place + 1) end' n' in
    let join : base' ++ more ≡ base ++ (ct ++ (jump ∷ more)) = simp append_assoc in
    ap (pointed k end (places (place + 1) cs)) wrote ∙ ih ∙ join ∙ ap (λ i. base ++ (ct ++ (jump_of k i ∷ more))) to

-- the whole of an `&&` or an `||`
pub joined : (k : Connective) (items : List Condition) (last : Condition) (base c1 c2 c3 : List Instr) (jumps : List ℕ) → c1 ≡ base ++ blank k items →
    jumps ≡ places (length base) items → c2 ≡ c1 ++ test_code last → c3 ≡ closed k jumps c2 →
    c3 ≡ base ++ (conditions_code (jump_of k) items (test_code last ++ Jump 1 ∷ []) ++ PushNumber (decided k) ∷ [])
joined k items last base c1 c2 c3 jumps e1 ej e2 e3 =
    let tail = test_code last ++ Jump 1 ∷ [] in
    let flat : ((base ++ blank k items) ++ test_code last) ++ Jump 1 ∷ [] ≡ base ++ (blank k items ++ tail) = simp append_assoc in
    let whole : c2 ++ Jump 1 ∷ [] ≡ base ++ (blank k items ++ tail) = ap (λ x. x ++ Jump 1 ∷ []) (e2 ∙ ap (λ x. x ++ test_code last) e1) ∙ flat in
    let n = length (c2 ++ Jump 1 ∷ []) in
    let p = pointed_conditions k items base tail n (length base) (ap length whole) refl in
    e3
    ∙ ap (λ x. x ++ PushNumber (decided k) ∷ []) (ap (λ j. pointed k n j (c2 ++ Jump 1 ∷ [])) ej ∙ ap (pointed k n (places (length base) items)) whole ∙ p)
    ∙ append_assoc base (conditions_code (jump_of k) items tail) (PushNumber (decided k) ∷ [])

pub and_emitted : (c : Condition) (before : Vec Condition Global) (last : Box Condition Global) (items : List Condition) (l : Condition) (base c1 c2 c3 : List Instr) (jumps : List ℕ) (js : List ℕ) →
    c ≡ And before last → items ≡ before.items → l ≡ last.value → c1 ≡ base ++ blank (connective.And) items → jumps ≡ places (length base) items → js ≡ jumps → c2 ≡ c1 ++ test_code l →
    c3 ≡ closed connective.And js c2 → c3 ≡ base ++ test_code c
and_emitted c before last items l base c1 c2 c3 jumps js is all one e1 ej same e2 e3 =
    joined connective.And items l base c1 c2 c3 js e1 (same ∙ ej) e2 e3
    ∙ ap (λ i. base ++ (conditions_code (jump_of connective.And) i (test_code l ++ Jump 1 ∷ []) ++ PushNumber (pos 0) ∷ [])) all
    ∙ ap (λ x. base ++ (conditions_code (jump_of connective.And) before.items (test_code x ++ Jump 1 ∷ []) ++ PushNumber (pos 0) ∷ [])) one
    ∙ ap (λ x. base ++ x) (sym (test_code-And before last))
    ∙ ap (λ x. base ++ test_code x) (sym is)

pub or_emitted : (c : Condition) (before : Vec Condition Global) (last : Box Condition Global) (items : List Condition) (l : Condition) (base c1 c2 c3 : List Instr) (jumps : List ℕ) (js : List ℕ) →
    c ≡ Or before last → items ≡ before.items → l ≡ last.value → c1 ≡ base ++ blank (connective.Or) items → jumps ≡ places (length base) items → js ≡ jumps → c2 ≡ c1 ++ test_code l →
    c3 ≡ closed connective.Or js c2 → c3 ≡ base ++ test_code c
or_emitted c before last items l base c1 c2 c3 jumps js is all one e1 ej same e2 e3 =
    joined connective.Or items l base c1 c2 c3 js e1 (same ∙ ej) e2 e3
    ∙ ap (λ i. base ++ (conditions_code (jump_of connective.Or) i (test_code l ++ Jump 1 ∷ []) ++ PushNumber (pos 1) ∷ [])) all
    ∙ ap (λ x. base ++ (conditions_code (jump_of connective.Or) before.items (test_code x ++ Jump 1 ∷ []) ++ PushNumber (pos 1) ∷ [])) one
    ∙ ap (λ x. base ++ x) (sym (test_code-Or before last))
    ∙ ap (λ x. base ++ test_code x) (sym is)

-- the place of each jump is within the code
pub jumps_within : (k : Connective) (items : List Condition) (base c1 c2 a : List Instr) (jumps js : List ℕ) →
    c1 ≡ base ++ blank k items → jumps ≡ places (length base) items →
    js ≡ jumps → c2 ≡ c1 ++ a → All (λ p. p < length c2) js
jumps_within k items base c1 c2 a jumps js e1 ej same e2 =
    let l1 = ap length e1 ∙ length-append base (blank k items) in
    let l2 = ap length e2 ∙ length-append c1 a in
    subst (All (λ p. p < length c2)) (sym (same ∙ ej)) (places_within k items (length base) (length c2) (omega arith))
