-- Pieces of code, one after another.
use mir.Val.{to_z, of_z}
use mir.Syntax.{w64}
use Rattle.std.proofs.Common.{◌≡◌, ◌∙◌, ℕ, ◌+◌, ◌-◌, ◌<◌, ◌≤◌, List, [], ◌∷◌, ◌++◌, length, drop, get_or, add-one}
use Rattle.std.proofs.Common.{append_assoc, append-nil, length-append, refl, sym, ap, arith}
use Rattle.std.specs.Prelude.{slice_set, ℤ, max}
use Rattle.std.proofs.Math.Seq.{drop-cons}
use Rattle.core_lang.specs.declared.tree.Comparison.{Comparison}
use Rattle.core_lang.specs.declared.tree.Condition.{Condition, Compare}
use Rattle.core_lang.specs.declared.tree.Expr.{Expr}
use Rattle.core_lang.specs.declared.tree.FieldStep.{FieldStep}
use Rattle.core_lang.specs.declared.tree.FieldStep.TheVariants.{Final, Field}
use Rattle.core_lang.specs.declared.tree.Operation.{Operation}
use Rattle.core_lang.specs.declared.tree.Path.{Path}
use Rattle.code.specs.declared.instr.Instr.{Instr}
use Rattle.code.specs.declared.instr.Instr.TheVariants.{GetLocal, Jump, JumpIfFalse, Operate, PushNumber, Test}
use Rattle.code.specs.Lowering.{acquire_code, expr_code, fields_code, path_code, test_code}
use Rattle.lowering.specs.declared.assembler.Assembler.{Assembler}
use Rattle.lowering.specs.declared.assembler.Connective.{Connective}
use Rattle.lowering.specs.declared.assembler.Connective.TheVariants as connective
use Rattle.lowering.specs.declared.emitter.Emitter.{Emitter}
use Rattle.lowering.specs.Working.Assembly.{Adds, field_code, jump_of, decided, blank, places, pointed, closed}
use Rattle.lowering.specs.Working.CodeLists.{operations_code, operations_need, conditions_need}
use Rattle.lowering.specs.Working.Emission.{lists_of, point_of, Emits, Opens, condition_code, acquire_piece}
use Rattle.lowering.specs.Working.Emission.{point_piece}
use Rattle.code.specs.Needs.{expr_need, test_need}
use Rattle.core_lang.specs.Theory.Items.{drop_past, next_of}

-- ---- pieces that are appended to code

pub two_added : (base one two x y : List Instr) → one ≡ base ++ x → two ≡ one ++ y → two ≡ base ++ (x ++ y)
two_added base one two x y e d = d ∙ ap (λ (l : List Instr). l ++ y) e ∙ append_assoc base x y

pub four_added : (base a b c d x y : List Instr) (first last : Instr) → a ≡ base ++ x → b ≡ a ++ first ∷ [] →
    c ≡ b ++ y → d ≡ c ++ last ∷ [] →
    d ≡ base ++ (x ++ (first ∷ (y ++ last ∷ [])))
four_added base a b c d x y first last e f g h =
    two_added base a d x (first ∷ (y ++ last ∷ [])) e (two_added a b d (first ∷ []) (y ++ last ∷ []) f (two_added b c d y (last ∷ []) g h))

pub compared : (base one two three : List Instr) (c : Condition) (sign : Comparison) (a b : Expr) →
    c ≡ Compare sign a b → one ≡ base ++ expr_code a → two ≡ one ++ expr_code b →
    three ≡ two ++ Test sign ∷ [] → three ≡ base ++ test_code c
compared base one two three c sign a b is e d f =
    two_added base one three (expr_code a) (expr_code b ++ Test sign ∷ []) e (two_added one two three (expr_code b) (Test sign ∷ []) d f)
    ∙ sym (ap (λ (x : Condition). base ++ test_code x) is)

pub one_added : (base one two given part whole : List Instr) (last : Instr) → given ≡ part →
    whole ≡ part ++ last ∷ [] → one ≡ base ++ given → two ≡ one ++ last ∷ [] →
    two ≡ base ++ whole
one_added base one two given part whole last same is e d =
    two_added base one two given (last ∷ []) e d ∙ ap (λ (l : List Instr). base ++ (l ++ last ∷ [])) same ∙ sym (ap (λ (l : List Instr). base ++ l) is)

nothing_needed : (n m : ℕ) → max (max n 0) m ≡ max n m
nothing_needed n m = omega arith

pub within_more : (n : ℕ) (old new more : List Instr) → n < length old → new ≡ old ++ more → n < length new
within_more n old new more lt e = let l = ap length e ∙ length-append old more in omega arith

-- at a point, after its `Acquire`
module _ (a b : Emitter) (x : Emits a b acquire_piece) where
  pub then_adds : (code : Assembler) (piece : List Instr) (need operands : ℕ) → Adds b.code code piece →
      operands ≡ max b.operands need →
      Emits a (record { lists = b.lists; begins = b.begins; operands = operands; code = code }) (point_piece piece need)
  then_adds code piece need operands adds deep =
      let none = x.need in
      record {
        lists = x.lists;
        point = x.point;
        code = two_added a.code.instructions.items b.code.instructions.items code.instructions.items (acquire_code (lists_of a) (point_of a)) piece x.code adds;
        begins = x.begins;
        need = deep ∙ ap (λ n. max n need) none ∙ nothing_needed a.operands need;
      }

  pub opened : (one two : Assembler) (c : Condition) (place need operands : ℕ) → Adds b.code one (test_code c) →
      place ≡ length one.instructions.items → Adds one two (JumpIfFalse 0 ∷ []) → need ≡ test_need c →
      operands ≡ max b.operands need →
      Opens a (record { lists = b.lists; begins = b.begins; operands = operands; code = two }) c place
  opened one two c place need operands tests at jumps needs deep =
      let here = acquire_code (lists_of a) (point_of a) in
      record {
        emits = record {
          lists = x.lists;
          point = x.point;
          code = two_added a.code.instructions.items one.instructions.items two.instructions.items (condition_code c (lists_of a) (point_of a)) (JumpIfFalse 0 ∷ [])
              (two_added a.code.instructions.items b.code.instructions.items one.instructions.items here (test_code c) x.code tests) jumps;
          begins = x.begins;
          need = deep ∙ ap (λ n. max n need) x.need ∙ nothing_needed a.operands need ∙ ap (max a.operands) needs;
        };
        last = ap (λ (n : ℕ). n + 1) at ∙ sym (ap length jumps ∙ length-append one.instructions.items (JumpIfFalse 0 ∷ []));
      }

-- ---- one turn of a loop over the remaining items

next_or : {A : Type 0} (xs : List A) (i : ℕ) (d : A) → i < length xs → drop i xs ≡ get_or xs i d ∷ drop (i + 1) xs
next_or xs i d lt = drop-cons xs i d lt ∙ ap (λ (k : ℕ). get_or xs i d ∷ drop k xs) (sym (add-one i))

-- nothing is left
pub none_left : {A B : Type 0} (all : List A → List B) (xs : List A) (i : ℕ) (done whole : List B) → length xs ≤ i →
    all [] ≡ [] → done ++ all (drop i xs) ≡ whole → done ≡ whole
none_left {A = A} {B = B} all xs i done whole past none e =
    sym (append-nil done) ∙ ap (λ (l : List B). done ++ l) (sym (ap all (drop_past xs i past) ∙ none)) ∙ e

module _ {A : Type 0} (part : A → List Instr) (all : List A → List Instr) (splits : (x : A) (xs : List A) → all (x ∷ xs) ≡ part x ++ all xs) where
  turn : (xs : List A) (i : ℕ) (x : A) → drop i xs ≡ x ∷ drop (i + 1) xs → (code new : List Instr) →
      new ≡ code ++ part x →
      new ++ all (drop (i + 1) xs) ≡ code ++ all (drop i xs)
  turn xs i x head code new added =
      ap (λ (l : List Instr). l ++ all (drop (i + 1) xs)) added ∙ append_assoc code (part x) (all (drop (i + 1) xs))
      ∙ ap (λ (l : List Instr). code ++ l) (sym (splits x (drop (i + 1) xs)) ∙ sym (ap all head))

fields_split : (x : FieldStep) (xs : List FieldStep) → fields_code (x ∷ xs) ≡ (field_code x ∷ []) ++ fields_code xs
fields_split (Final s f) xs = refl
fields_split (Field s f) xs = refl

pub field_turn : (xs : List FieldStep) (i : ℕ) (d : FieldStep) (y : Instr) → i < length xs →
    y ≡ field_code (get_or xs i d) → (code new : List Instr) → new ≡ code ++ y ∷ [] →
    new ++ fields_code (drop (i + 1) xs) ≡ code ++ fields_code (drop i xs)
field_turn xs i d y lt one code new added =
    turn (λ (z : FieldStep). field_code z ∷ []) fields_code fields_split xs i (get_or xs i d) (next_or xs i d lt) code new (added ∙ ap (λ (z : Instr). code ++ z ∷ []) one)

pub path_starts : (base new : List Instr) (path : Path) (items : List FieldStep) →
    new ≡ base ++ GetLocal path.local ∷ [] → items ≡ path.fields.items →
    new ++ fields_code items ≡ base ++ path_code path
path_starts base new path items added is =
    ap (λ (l : List Instr). l ++ fields_code items) added ∙ append_assoc base (GetLocal path.local ∷ []) (fields_code items)
    ∙ ap (λ (fs : List FieldStep). base ++ (GetLocal path.local ∷ fields_code fs)) is

pub operation_turn : (xs : List Operation) (i : ℕ) (x : Operation) → i < length xs → x ≡ get_or xs i x →
    (code one two : List Instr) → one ≡ code ++ expr_code x.operand →
    two ≡ one ++ Operate x.operator ∷ [] → two ++ operations_code (drop (i + 1) xs) ≡ code ++ operations_code (drop i xs)
operation_turn xs i x lt is code one two e d =
    turn (λ (o : Operation). expr_code o.operand ++ Operate o.operator ∷ []) operations_code (λ o os. refl) xs i x (next_of xs i x lt is) code two
    (two_added code one two (expr_code x.operand) (Operate x.operator ∷ []) e d)

-- the need of one operand more
pub need_turn : (xs : List Operation) (i : ℕ) (x : Operation) → i < length xs → x ≡ get_or xs i x → (need new above n : ℕ) → new ≡ max need above →
    above ≡ 1 + n → n ≡ expr_need x.operand → max new (operations_need (drop (i + 1) xs)) ≡ max need (operations_need (drop i xs))
need_turn xs i x lt is need new above n e f g =
    let split : operations_need (drop i xs) ≡ max (1 + expr_need x.operand) (operations_need (drop (i + 1) xs)) = ap operations_need (next_of xs i x lt is) in
    omega (arith, e, f, g, split)

pub test_need_turn : (xs : List Condition) (i : ℕ) (x : Condition) → i < length xs → x ≡ get_or xs i x → (need new n : ℕ) → new ≡ max need n →
    n ≡ test_need x → max new (conditions_need (drop (i + 1) xs)) ≡ max need (conditions_need (drop i xs))
test_need_turn xs i x lt is need new n e f =
    let split : conditions_need (drop i xs) ≡ max (test_need x) (conditions_need (drop (i + 1) xs)) = ap conditions_need (next_of xs i x lt is) in
    omega (arith, e, f, split)

-- nothing is left that needs more
pub no_need_left : {A : Type 0} (all : List A → ℕ) (xs : List A) (i need whole : ℕ) → length xs ≤ i → all [] ≡ 0 →
    max need (all (drop i xs)) ≡ whole → need ≡ whole
no_need_left all xs i need whole past none e =
    let zero_left : all (drop i xs) ≡ 0 = ap all (drop_past xs i past) ∙ none in
    omega (arith, e, zero_left)

module _ (k : Connective) (xs : List Condition) (i : ℕ) (x : Condition) (lt : i < length xs) (is : x ≡ get_or xs i x) (code one two : List Instr) (jump : Instr)
    (tests : one ≡ code ++ test_code x) (jumps : two ≡ one ++ jump ∷ []) where
  pub blank_turn : jump ≡ jump_of k 0 → two ++ blank k (drop (i + 1) xs) ≡ code ++ blank k (drop i xs)
  blank_turn made =
      turn (λ (c : Condition). test_code c ++ jump_of k 0 ∷ []) (blank k) (λ c cs. sym (append_assoc (test_code c) (jump_of k 0 ∷ []) (blank k cs))) xs i x (next_of xs i x lt is) code two
      (two_added code one two (test_code x) (jump_of k 0 ∷ []) tests (jumps ∙ ap (λ (j : Instr). one ++ j ∷ []) made))

  pub places_turn : (before after : List ℕ) (n : ℕ) → n ≡ length one → after ≡ before ++ n ∷ [] →
      after ++ places (length two) (drop (i + 1) xs) ≡ before ++ places (length code) (drop i xs)
  places_turn before after n count pushed =
      let here = length code + length (test_code x) in
      let rest = drop (i + 1) xs in
      let at : n ≡ here = count ∙ ap length tests ∙ length-append code (test_code x) in
      let next : length two ≡ here + 1 = ap length jumps ∙ length-append one (jump ∷ []) ∙ ap (λ (m : ℕ). m + 1) (ap length tests ∙ length-append code (test_code x)) in
      ap (λ (l : List ℕ). l ++ places (length two) rest) (pushed ∙ ap (λ (m : ℕ). before ++ m ∷ []) at)
      ∙ append_assoc before (here ∷ []) (places (length two) rest)
      ∙ ap (λ (m : ℕ). before ++ (here ∷ places m rest)) next
      ∙ ap (λ (cs : List Condition). before ++ places (length code) cs) (sym (next_of xs i x lt is))

-- ---- the jumps of `&&` and `||`

pub point_turn : (k : Connective) (end i : ℕ) (jumps : List ℕ) (code : List Instr) (jump : Instr) → i < length jumps →
    jump ≡ jump_of k (end - get_or jumps i 0 - 1) →
    pointed k end (drop (i + 1) jumps) (slice_set code (get_or jumps i 0) jump) ≡ pointed k end (drop i jumps) code
point_turn k end i jumps code jump lt is =
    ap (λ (j : Instr). pointed k end (drop (i + 1) jumps) (slice_set code (get_or jumps i 0) j)) is
    ∙ ap (λ (m : ℕ). pointed k end (drop m jumps) (slice_set code (get_or jumps i 0) (jump_of k (end - get_or jumps i 0 - 1)))) (add-one i)
    ∙ sym (ap (λ (js : List ℕ). pointed k end js code) (drop-cons jumps i 0 lt))

pub closes : (k : Connective) (jumps : List ℕ) (code whole at new : List Instr) (truth : ℤ) →
    whole ≡ code ++ Jump 1 ∷ [] → at ≡ pointed k (length whole) jumps whole →
    truth ≡ decided k → new ≡ at ++ PushNumber truth ∷ [] → new ≡ closed k jumps code
closes k jumps code whole at new truth is points tells put =
    put ∙ ap (λ (l : List Instr). l ++ PushNumber truth ∷ []) (points ∙ ap (λ (l : List Instr). pointed k (length l) jumps l) is)
    ∙ ap (λ (t : ℤ). pointed k (length (code ++ Jump 1 ∷ [])) jumps (code ++ Jump 1 ∷ []) ++ PushNumber t ∷ []) tells

-- the truth value as it is passed
pub truth_passed : (k : Connective) (truth : ℤ) → truth ≡ decided k → to_z w64 (of_z w64 truth) ≡ decided k
truth_passed k truth e = ap (λ (z : ℤ). to_z w64 (of_z w64 z)) e ∙ same k
  where
    same : (k : Connective) → to_z w64 (of_z w64 (decided k)) ≡ decided k
    same connective.And = refl
    same connective.Or = refl
