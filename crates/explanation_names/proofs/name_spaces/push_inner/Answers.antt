use Rattle.explanation_names.proofs.name_spaces.push_inner.Goals as goal

pub returns-in-Struct : goal.returns-in-Struct
returns-in-Struct c = rw (c.in-Struct.is, ← c.deref.ensures.value) c.push_members.ensures
