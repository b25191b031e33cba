use Rattle.std.proofs.Common.{◌≡◌, rules}
use Rattle.std.specs.Rc.{rc_str_bytes}
use Rattle.lexer.proofs.NameBytes.{same_bytes}
use Rattle.lexer.proofs.names.Interner.share.Goals as goal

-- src/names.rt:37:13
pub returns-in-Some : goal.returns-in-Some
returns-in-Some c =
    let found = same_bytes rc_str_bytes c.args.name.now c.args.self.now.texts.keys c.in-Some.text.now (search rules) in
    search (rules, found)
