use Rattle.std.proofs.Common.{◌≡◌, ℕ, suc, ◌+◌, ◌-◌, ◌<◌, ◌∷◌, ◌++◌, length, string_bytes, refl, sym, ap, ◌∙◌}
use Rattle.std.proofs.Common.{append_assoc, arith}
use Rattle.std.specs.List.{flat_map, range_with_len}
use Rattle.report_check.specs.Order.{class_text}
use Rattle.report_check.proofs.cyclic.push_nodes.Goals as goal

-- the numbers from `a` to below `n` are `a` and those after it
range_more : (a n : ℕ) → a < n → range_with_len a (n - a) ≡ a ∷ range_with_len (a + 1) (n - (a + 1))
range_more a n lt = let e : n - a ≡ suc (n - (a + 1)) = omega arith in rw e refl

pub loop-class-preserved : goal.loop-class-preserved
loop-class-preserved c =
    let f = class_text c.args.program.now in
    let class = c.loop-class.class in
    let n = length c.args.program.now.classes.items in
    let before = string_bytes c.loop-class.out in
    let rest = flat_map f (range_with_len (class + 1) (n - (class + 1))) in
    ap (λ b. b ++ rest) c.in_ok-push_node.ensures ∙ append_assoc before (f class) rest
    ∙ sym (ap (λ rs. before ++ flat_map f rs) (range_more class n (omega (arith, c.loop-class-test.true, c.len-class-end.ensures, c.args.program.now.classes.ok.0)))) ∙ c.loop-class.invariant
