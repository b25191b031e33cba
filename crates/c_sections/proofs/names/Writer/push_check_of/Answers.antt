use Rattle.std.proofs.Common.{◌∙◌, ◌++◌, ℕ, List, string_bytes, ap}
use Rattle.std.specs.Prelude.{codes}
use Rattle.locks.specs.Texts.{struct_name}
use Rattle.locks.specs.Theory.Written.{piece_added}
use Rattle.c_statements.specs.Names.{own, local_text}
use Rattle.c_statements.specs.Theory.Chains.{then, more}
use Rattle.c_sections.proofs.Lines.{joined_word}
use Rattle.c_sections.proofs.names.Writer.push_check_of.Goals as goal

pub returns : goal.returns
returns c =
    let prefix = c.args.self.now.prefix.now in
    let old = string_bytes c.args.out.now in
    let a = codes "  if (AL_RARE(!" in
    let o = own prefix (codes "Is_") in
    let n = struct_name c.args.self.now.program.now c.args.structure in
    let b = codes "(s, " in
    let l = local_text c.args.number c.args.local.now in
    let z = codes "))) AL_TRAP(7);\n" in
    let m1 = string_bytes c.push_str.new.self in
    let m2 = string_bytes c.push_own.new.out in
    let m3 = string_bytes c.push_struct.new.out in
    let m4 = string_bytes c.push_str-2.new.self in
    let m5 = string_bytes c.push_local.new.out in
    let new = string_bytes c.push_str-3.new.self in
    then c.push_str-3.result (piece_added c.push_str-3.result new m5 z c.push_str-3.ensures.bytes)
    (λ e. more old (a ++ o ++ n ++ b ++ l) z m5 new (more old (a ++ o ++ n ++ b) l m4 m5 (more old (a ++ o ++ n) b m3 m4
    (more old (a ++ o) n m2 m3 (more old a o m1 m2 c.in_ok-push_str.ensures.bytes c.in_ok-push_own.ensures) c.in_ok-push_struct.ensures)
    c.in_ok-push_str-2.ensures.bytes) c.in_ok-push_local.ensures) e
    ∙ ap (λ (t : List ℕ). old ++ t) (joined_word a prefix (codes "Is_") n b l (codes "))) AL_TRAP(7);") (codes "\n")))
