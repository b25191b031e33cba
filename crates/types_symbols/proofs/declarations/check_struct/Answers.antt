use Rattle.types_symbols.proofs.Structs.{structure_added, structure_blamed, none_added, none_blamed}
use Rattle.types_symbols.proofs.declarations.check_struct.Goals as goal

pub returns : goal.returns
returns c = record {
  structs = structure_added c.args.d.now _ _ _ _ c.in-Struct.is c.in_ok-structure.ensures.item c.in_ok-push.ensures.items;
  faults = structure_blamed c.args.d.now _ _ _ c.in-Struct.is c.in_ok-structure.ensures.faults;
}

pub returns-in_default : goal.returns-in_default
returns-in_default c = record {
  structs = none_added c.args.d.now c.args.structs.now.items c.in_default.not-Struct;
  faults = none_blamed c.args.d.now c.args.firsts.now c.in_default.not-Struct;
}
