use Rattle.locks.specs.Theory.Written.{piece_added}
use Rattle.std.specs.Prelude.{codes, string_bytes}
use Rattle.c_data.specs.Theory.Steps.{after, both}
use Rattle.c_data.specs.Pools.{test_text}
use Rattle.c_data.proofs.writer.DataWriter.push_test.Goals as goal

pub returns : goal.returns
unfolding test_text
returns c =
    let old = string_bytes c.args.out.now in
    let t2 = both old _ _ _ _ c.in_ok-push_str.ensures.bytes c.in_ok-write.ensures.bytes in
    let t3 = both old _ _ _ _ t2 c.in_ok-push_state_pointer.ensures in
    let t4 = both old _ _ _ _ t3 c.in_ok-push_str-2.ensures.bytes in
    let t5 = both old _ _ _ _ t4 c.in_ok-push_object_pointer.ensures in
    let t6 = both old _ _ _ _ t5 c.in_ok-push_str-3.ensures.bytes in
    let t7 = both old _ _ _ _ t6 c.in_ok-push_tests.ensures in
    let last = piece_added c.push_str-4.result _ (string_bytes c.push_tests.new.out) (codes "  return 0;\n}\n#endif\n") c.push_str-4.ensures.bytes in
    after _ old _ _ _ _ t7 last
