use Rattle.c_data.specs.Theory.Steps.{after}
use Rattle.c_data.proofs.writer.DataWriter.push_member_prototype.Goals as goal

pub returns : goal.returns
returns c =
    after _ _ _ _ _ _ c.in_ok-push_struct_type.ensures c.write.ensures.bytes
